-- On what was handed on of a connection, once all its segments were taken.
use Rattle.tcp_streams.proofs.Words.{◌≡◌, ℕ, List, ◌++◌, Option, None, Some, refl, sym, ◌∙◌}
use Rattle.tcp_streams.proofs.Words.{Client, Server, Side, source, slice_range, length, IsFlow, Segment, ap}
use Rattle.std.proofs.Common.{subst}
use Rattle.packet_heads.specs.declared.packets.Endpoint.{Endpoint}
use Rattle.tcp_streams.specs.code.Grown.{Growth, arrivals_grown, bytes_grown, of_side}
use Rattle.tcp_streams.specs.code.Taken.{AreSameSides, AreTaken, ServerStands, is_by, number_of, sent_by}
use Rattle.tcp_streams.specs.code.Side.{AreSentIn, IsSideStage, Sent, segments_among}
use Rattle.tcp_streams.specs.code.Flows.{HasHandedOn, HasTakenAll, IsEndOf, IsHandedOn, IsServerEnd}
use Rattle.tcp_streams.specs.code.Flows.{IsServerHandedOn}
use Rattle.tcp_streams.specs.code.Flows.{last_of, server_number}
use Rattle.tcp_streams.specs.declared.{both_sides.BothSides.BothSides, side_stage.SideStage.SideStage}
use Rattle.tcp_streams.specs.declared.connection_flows.{ConnectionFlows.ConnectionFlows, FlowEnd.FlowEnd}
use Rattle.tcp_streams.proofs.Staging.{filter-each}

-- a side's stage, whose gap is told, is the side's flow
stage-flow : (sent : List Sent) (grown : List Growth) (stage : SideStage) (end : FlowEnd) (capture : List ℕ)
    → IsSideStage sent grown stage → IsEndOf stage.flow end → AreSentIn (Some capture) sent
    → IsFlow capture (source stage.initial_number (segments_among sent)) (bytes_grown grown) (arrivals_grown 0 grown)
    end.gap
stage-flow sent grown stage end capture h tells sent-in =
    let F = source stage.initial_number (segments_among sent) in
    let same : stage.flow.end ≡ length (bytes_grown grown) = sym h.reaches in record {
      run = rw same at h.stands.run;
      bytes_are = h.bytes_are capture sent-in;
      rises = rw same at h.rises;
      arrivals_are = rw same at h.arrivals_are;
      gap_is = rw same at (tells.gap_is F h.stands);
    }

module _ {V : Type 0} (after : List Growth → V → Type 0) where
  pub handed-side : (client : Endpoint) (sent : List Sent) (side : Side) (grown : List Growth) (stage : SideStage)
      (number : ℕ) (end : FlowEnd) → stage.initial_number ≡ number
      → IsSideStage (sent_by client side sent) (of_side side grown) stage → IsEndOf stage.flow end
      → IsHandedOn after client sent side grown number end
  handed-side client sent side grown stage number end is h tells = record {
    length_is = tells.length_is ∙ sym h.reaches;
    flow = λ capture sent-in.
        subst (λ (n : ℕ). IsFlow capture (source n (segments_among (sent_by client side sent)))
        (bytes_grown (of_side side grown)) (arrivals_grown 0 (of_side side grown)) end.gap) is
        (stage-flow (sent_by client side sent) (of_side side grown) stage end capture h tells
        (filter-each (λ (one : Sent). is_by client side one.0)
        (λ (one : Sent). one.1 ≡ slice_range capture one.0.lo one.0.hi) sent sent-in));
  }

  handed-server : (client : Endpoint) (sent : List Sent) (grown : List Growth) (server : Option SideStage)
      (number : Option ℕ) (end : FlowEnd)
      → ServerStands (sent_by client Server sent) (of_side Server grown) server
      → IsServerEnd server number end → IsServerHandedOn after client sent grown (number_of server) end
  handed-server client sent grown None number end h tells = (h, tells.1)
  handed-server client sent grown (Some stage) number end h tells =
      handed-side client sent Server grown stage stage.initial_number end refl h.0 tells.1

  number-is : (server : Option SideStage) (number : Option ℕ) (end : FlowEnd) → IsServerEnd server number end
      → number ≡ number_of server
  number-is None number end tells = tells.0
  number-is (Some stage) number end tells = tells.0

  -- all that was taken
  pub handed : (opening : Segment) (sent : List Sent) (last : ℕ) (flows : ConnectionFlows V)
      (h : HasTakenAll after opening sent last flows)
      (both : BothSides V) → AreSameSides flows.both both
      → AreTaken after (h.taken ++ h.waiting) (last_of h.low h.waiting) both → (client_end : FlowEnd)
      (number : Option ℕ) (server_end : FlowEnd) → IsEndOf both.client_side.flow client_end
      → IsServerEnd both.server_side number server_end
      → HasHandedOn after opening sent
      (record { visitor = both.visitor; server_number = number; client = client_end; server = server_end })
  handed opening sent last flows h both same t client_end number server_end tells answered =
      let client = opening.from in
      let client-is : both.client ≡ client = same.client ∙ h.opened.client in
      let known : number_of both.server_side ≡ server_number client sent =
      same.server_number ∙ h.number ∙ ap (λ (c : Endpoint). server_number c sent) h.opened.client in
      let by-client = subst (λ (l : List Sent). IsSideStage (sent_by client Client l) (of_side Client t.grown)
      both.client_side) (sym h.split)
      (subst (λ (c : Endpoint). IsSideStage (sent_by c Client (h.taken ++ h.waiting)) (of_side Client t.grown)
      both.client_side) client-is t.client_is) in
      let by-server = subst (λ (l : List Sent). ServerStands (sent_by client Server l) (of_side Server t.grown)
      both.server_side) (sym h.split)
      (subst (λ (c : Endpoint). ServerStands (sent_by c Server (h.taken ++ h.waiting)) (of_side Server t.grown)
      both.server_side) client-is t.server_is) in record {
        grown = t.grown;
        visited = t.visited;
        client_flow = handed-side client sent Client t.grown both.client_side
            opening.seq client_end (same.client_number ∙ h.opened.number) by-client tells;
        server_flow = subst (λ (n : Option ℕ). IsServerHandedOn after client sent t.grown n server_end) known
            (handed-server client sent t.grown both.server_side number server_end by-server answered);
        server_number_is = number-is both.server_side number server_end answered ∙ known;
      }
