use Rattle.std.proofs.Common.{◌≡◌, ◌++◌, drop}
use Rattle.audit_report.specs.UnopenedLines.{unopened_lines}
use Rattle.audit_report.proofs.unopened.push_unopened_lines.Given as goal

-- what is written, with the lines of the strays to come, is the whole
abbrev pub invariant-loop-stray : goal.invariant-loop-stray
invariant-loop-stray l = l.out.items ++ unopened_lines (drop l.stray-index l.strays)
    ≡ l.initial.out.items ++ unopened_lines l.strays
