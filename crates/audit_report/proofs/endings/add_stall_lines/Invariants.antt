use Rattle.std.proofs.Common.{◌≡◌, ◌+◌, ◌*◌, ◌≤◌, ◌++◌, drop, vec_capacity, vec_len}
use Rattle.audit_report.specs.StallLine.{stall_lines}
use Rattle.audit_report.proofs.endings.add_stall_lines.Given as goal

-- what is written, with the lines of the stalls to come, is the whole
abbrev pub invariant-loop-stall : goal.invariant-loop-stall
invariant-loop-stall l = record {
  written : l.page.items ++ stall_lines (drop l.stall-index l.stalls)
      ≡ l.initial.page.items ++ stall_lines l.stalls;
  len : vec_len l.page ≤ vec_len l.initial.page + 512 * l.stall-index;
  capacity : vec_capacity l.initial.page ≤ vec_capacity l.page;
}
