-- A step without a frame, whose change moves the shift that rows hold credits less than. No public clause cites this.
use Rattle.std.specs.Prelude.{◌≡◌, ◌≤◌, ◌-◌, ◌^◌, List, None}
use Rattle.audit_terms.specs.code.runs.Streams.{initial_after}
use Rattle.audit_terms.specs.declared.findings.Finding.{Finding}
use Rattle.quiet_pass.specs.code.Rows.{shifted_said}
use Rattle.quiet_pass.specs.code.Shifts.{IsShiftMoved}
use Rattle.quiet_pass.specs.declared.opened_rows.Row.{Row}
use Rattle.quiet_pass.specs.declared.shifted_rows.ShiftStep.{ShiftStep}

pub record IsShiftStep (moving : ShiftStep) : Type 0 where
  pub alone : moving.step.now.frame ≡ None
  pub numbered : moving.step.now.number ≤ 2 ^ 28 - 2
  pub moved : IsShiftMoved moving.before.now (initial_after moving.step.now.change moving.before.now) moving.shift
      moving.next

-- what it shows of the stream of a row
abbrev pub said_at : ShiftStep → Row → List Finding
said_at moving row = shifted_said moving.shift moving.before.now moving.step.now row
