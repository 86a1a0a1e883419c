use Rattle.std.proofs.Common.{◌≡◌, ◌-◌, ◌≤◌, take, vec_len}
use Rattle.input_output.proofs.kept_bytes.fill_up.Given as goal

abbrev pub invariant-loop-bytes : goal.invariant-loop-bytes
invariant-loop-bytes l =
    (take (vec_len l.fn.bytes) l.bytes.items ≡ l.fn.bytes.items)
    × (vec_len l.fn.bytes ≤ vec_len l.bytes) × (vec_len l.bytes ≤ l.fn.length)

abbrev pub decreases-loop-bytes : goal.decreases-loop-bytes
decreases-loop-bytes l = l.fn.length - vec_len l.bytes
