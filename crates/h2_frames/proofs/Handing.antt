-- What was handed on of a connection whose segments were taken is that of its flows.
use Rattle.std.proofs.Common.{◌≡◌, ℕ, List, [], Option, None, Some, ap, length, refl, sym, ◌∙◌}
use Rattle.std.specs.Prelude.{is_some}
use Rattle.tcp_streams.specs.{Bytes.bytes_of, Flow.IsFlowFrom, Sequence.source}
use Rattle.tcp_streams.specs.code.Flows.{IsHandedOn, IsServerHandedOn}
use Rattle.tcp_streams.specs.code.Grown.{Growth, arrivals_grown, bytes_grown, of_side}
use Rattle.tcp_streams.specs.code.{Side.AreSentIn, Side.Sent, Side.segments_among, Taken.sent_by}
use Rattle.tcp_streams.specs.declared.connection_flows.FlowEnd.{FlowEnd}
use Rattle.tcp_streams.specs.laws.Flows.{FlowIsUnique}
use Rattle.packet_heads.specs.declared.packets.Endpoint.{Endpoint}
use Rattle.h2_frames.proofs.Words.{Flow, Server, Side}
use Rattle.h2_frames.specs.code.{ConnectionFrames.EndsSo, Growths.IsFlowGrown}

-- a flow, and what was handed on of its side
pub record IsOneFlow (flow : Flow) (grown : List Growth) (end : FlowEnd) : Type 0 where
  pub grown_is : IsFlowGrown flow grown
  pub ends : EndsSo flow end

module _ {V : Type 0} (after : List Growth → V → Type 0) (unique : FlowIsUnique) (capture : List ℕ) (client : Endpoint)
    (sent : List Sent) (sent-in : AreSentIn (Some capture) sent) (grown : List Growth)
    (flow : Flow) (end : FlowEnd) where
  pub one-flow : (side : Side) (number : ℕ) → IsHandedOn after client sent side grown number end
      → IsFlowFrom (Some number) capture (segments_among (sent_by client side sent)) flow
      → IsOneFlow flow (of_side side grown) end
  one-flow side number handed is =
      let same = unique capture (source number (segments_among (sent_by client side sent))) (bytes_of flow)
      (bytes_grown (of_side side grown)) flow.arrivals.items (arrivals_grown 0 (of_side side grown)) flow.gap end.gap
      is.1
      (handed.flow capture sent-in) in record {
        grown_is = record { bytes = same.0; arrivals = same.1 };
        ends = record { length_is = handed.length_is ∙ ap length (sym same.0); gap_is = sym same.2 };
      }

  pub one-server : (number : Option ℕ) → IsServerHandedOn after client sent grown number end
      → IsFlowFrom number capture (segments_among (sent_by client Server sent)) flow
      → IsOneFlow flow (of_side Server grown) end
  one-server None handed is =
      let none : bytes_of flow ≡ [] = rw is.1 refl in
      let nothing = handed.0 in record {
        grown_is = record {
          bytes = none ∙ sym (ap bytes_grown nothing);
          arrivals = is.2 ∙ sym (ap (arrivals_grown 0) nothing);
        };
        ends = record {
          length_is = ap (λ (e : FlowEnd). e.length) handed.1 ∙ ap length (sym none);
          gap_is = ap (λ (e : FlowEnd). e.gap) handed.1 ∙ sym is.3;
        };
      }
  one-server (Some number) handed is = one-flow Server number handed is

  -- the server's number is known where its flow is started
  pub started-is : (number : Option ℕ) → IsFlowFrom number capture (segments_among (sent_by client Server sent)) flow
      → flow.started ≡ is_some number
  started-is None is = is.0
  started-is (Some number) is = is.0
