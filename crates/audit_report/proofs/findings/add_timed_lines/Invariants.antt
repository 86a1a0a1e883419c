use Rattle.std.proofs.Common.{◌≡◌, ◌+◌, ◌*◌, ◌≤◌, ◌++◌, drop, vec_capacity, vec_len}
use Rattle.audit_report.specs.code.Findings.{timed_lines}
use Rattle.audit_report.specs.code.Findings.{IsSpelled}
use Rattle.audit_report.proofs.findings.add_timed_lines.Given as goal

-- what is written, with the lines of the findings to come, is the whole
abbrev pub invariant-loop-one : goal.invariant-loop-one
invariant-loop-one l = record {
  spelled : IsSpelled l.moment;
  written : l.page.items ++ timed_lines l.frames_shown (drop l.one-index l.findings)
      ≡ l.initial.page.items ++ timed_lines l.frames_shown l.findings;
  len : vec_len l.page ≤ vec_len l.initial.page + 512 * l.one-index;
  capacity : vec_capacity l.initial.page ≤ vec_capacity l.page;
}
