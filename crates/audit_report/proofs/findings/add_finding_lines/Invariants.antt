use Rattle.std.proofs.Common.{◌≡◌, ◌+◌, ◌*◌, ◌≤◌, ◌++◌, drop, vec_capacity, vec_len}
use Rattle.audit_report.specs.FindingLine.{finding_lines}
use Rattle.audit_report.specs.code.Findings.{IsSpelled}
use Rattle.audit_report.proofs.findings.add_finding_lines.Given as goal

-- what is written, with the lines of the findings to come, is the whole
abbrev pub invariant-loop-finding : goal.invariant-loop-finding
invariant-loop-finding l = record {
  spelled : IsSpelled l.moment;
  written : l.page.items ++ finding_lines l.frames_shown l.frames (drop l.finding-index l.findings)
      ≡ l.initial.page.items ++ finding_lines l.frames_shown l.frames l.findings;
  len : vec_len l.page ≤ vec_len l.initial.page + 512 * l.finding-index;
  capacity : vec_capacity l.initial.page ≤ vec_capacity l.page;
}
