-- Segments whose growths were handed on have flows: values of both, made of the growths.
use denote.RawPtr.{null_ptr}
use Rattle.tcp_streams.proofs.Words.{ℕ, ◌+◌, ◌<◌, ◌≤◌, ◌^◌, List, [], ◌∷◌, Option, None, Some, refl, arith}
use Rattle.tcp_streams.proofs.Words.{append-nil, length, sym, Arrival, Client, Rises, Segment, Server, Side}
use Rattle.std.proofs.Common.{subst, true, false}
use Rattle.std.specs.Prelude.{Vec}
use Rattle.std.specs.declared.alloc.Global.{Global}
use Rattle.packet_heads.specs.declared.packets.{Endpoint.Endpoint}
use Rattle.tcp_streams.specs.Flow.{IsFlow, IsFlowFrom}
use Rattle.tcp_streams.specs.Sequence.{source}
use Rattle.tcp_streams.specs.code.Flows.{HasHandedOn, IsHandedOn, IsServerHandedOn, server_number}
use Rattle.tcp_streams.specs.code.Grown.{Growth, arrivals_grown, bytes_grown, of_side}
use Rattle.tcp_streams.specs.code.SentFlows.{HaveFlows}
use Rattle.tcp_streams.specs.code.Side.{AreSentIn, Sent, segments_among}
use Rattle.tcp_streams.specs.code.Taken.{sent_by}
use Rattle.tcp_streams.specs.declared.{connection_flows.FlowEnd.FlowEnd, connection_flows.HandedFlows.HandedFlows}
use Rattle.tcp_streams.specs.declared.flows.Flow.{Flow}

-- a list in memory of these items
abbrev list-of : {X : Type 0} → Global → (items : List X) → length items < 2 ^ 63 → Vec X Global
list-of alloc items few = record {
  ptr = null_ptr;
  len = length items;
  cap = length items;
  alloc = alloc;
  items = items;
  ok = (refl, omega arith);
  small = few;
}

rises-few : (low rec : ℕ) (arrivals : List Arrival) (high : ℕ) → Rises low rec arrivals high
    → low + length arrivals ≤ high
rises-few low rec [] high h = omega (arith, h)
rises-few low rec (a ∷ rest) high h = omega (arith, h.0, rises-few a.upto a.rec rest high h.2)

-- a flow that is started, of these bytes and arrivals
module _ (alloc : Global) (capture : List ℕ) (number : ℕ) (segments : List Segment) (bytes : List ℕ)
    (arrivals : List Arrival) (gap : Option ℕ) (is : IsFlow capture (source number segments) bytes arrivals gap) where
  few : length arrivals < 2 ^ 63
  few = omega (arith, rises-few 0 0 arrivals (length bytes) is.rises, is.run.within)

  made-is : (flow : Flow) × IsFlowFrom (Some number) capture segments flow
  made-is = (
    record {
      started = true;
      pieces = list-of alloc (record { ref_ptr = (0, 0); now = bytes } ∷ []) (omega arith);
      arrivals = list-of alloc arrivals few;
      gap = gap;
    },
    (refl, subst (λ l. IsFlow capture (source number segments) l arrivals gap) (sym (append-nil bytes)) is),
  )

none-made : (alloc : Global) (capture : List ℕ) (segments : List Segment)
    → (flow : Flow) × IsFlowFrom None capture segments flow
none-made alloc capture segments = (
  record {
    started = false;
    pieces = list-of alloc [] (omega arith);
    arrivals = list-of alloc [] (omega arith);
    gap = None;
  },
  (refl, refl, refl, refl),
)

module _ {V : Type 0} (after : List Growth → V → Type 0) (alloc : Global) (capture : List ℕ) (client : Endpoint)
    (sent : List Sent) (sent-in : AreSentIn (Some capture) sent) (grown : List Growth) where
  side-made : (side : Side) (number : ℕ) (end : FlowEnd) → IsHandedOn after client sent side grown number end
      → (flow : Flow) × IsFlowFrom (Some number) capture (segments_among (sent_by client side sent)) flow
  side-made side number end h =
      made-is alloc capture number (segments_among (sent_by client side sent)) (bytes_grown (of_side side grown))
      (arrivals_grown 0 (of_side side grown)) end.gap (h.flow capture sent-in)

  server-made : (number : Option ℕ) (end : FlowEnd) → IsServerHandedOn after client sent grown number end
      → (flow : Flow) × IsFlowFrom number capture (segments_among (sent_by client Server sent)) flow
  server-made None end h = none-made alloc capture (segments_among (sent_by client Server sent))
  server-made (Some number) end h = side-made Server number end h

pub have-flows : {V : Type 0} (after : List Growth → V → Type 0) → Global → (opening : Segment) (sent : List Sent)
    (all : HandedFlows V) → HasHandedOn after opening sent all → HaveFlows opening sent
have-flows after alloc opening sent all h = λ capture sent-in.
    let client = side-made after alloc capture opening.from sent sent-in h.grown Client opening.seq all.client
    h.client_flow in
    let server = server-made after alloc capture opening.from sent sent-in h.grown (server_number opening.from sent)
    all.server h.server_flow in (
      record { client = client.0; server = server.0 },
      record { client_is = client.1; server_is = server.1 },
    )
