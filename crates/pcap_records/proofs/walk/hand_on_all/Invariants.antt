use Rattle.std.proofs.Common.{◌≤◌, ◌-◌, List, ℕ, drop, length}
use Rattle.pcap_records.specs.code.Walk.{IsAt}
use Rattle.pcap_records.proofs.walk.hand_on_all.Given as goal

abbrev pub invariant-loop-size : goal.invariant-loop-size
invariant-loop-size g l = record {
  within : l.done ≤ length l.bytes;
  at : (front : List ℕ) → IsAt g.V.RecordVisitor.after front l.bytes l.fn.cursor l.fn.visitor
      → IsAt g.V.RecordVisitor.after front (drop l.done l.bytes) l.cursor l.visitor;
}

abbrev pub decreases-loop-size : goal.decreases-loop-size
decreases-loop-size g l = length l.bytes - l.done
