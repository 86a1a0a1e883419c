use Rattle.audit_rounds.proofs.Words.{take, in_order}
use Rattle.audit_rounds.proofs.StreamWork.{IsRowsWork}
use Rattle.audit_rounds.proofs.connection_streams.run_of_rows.Given as goal

-- the work of the rows so far, but for the order of its findings
abbrev pub invariant-loop-row : goal.invariant-loop-row
invariant-loop-row g l =
    IsRowsWork g.L.Look.answers l.frames_shown l.streams (take l.row-index l.rows) l.initial.look l.look l.work.upto
    (in_order l.work.findings.items) l.work.made.items
