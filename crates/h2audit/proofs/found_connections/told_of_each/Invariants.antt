use Rattle.std.proofs.Common.{◌≡◌, ◌++◌, map}
use Rattle.std.specs.List.{AllZip}
use Rattle.std.specs.Vec.Iter.{into_iter_items}
use Rattle.quiet_pass.specs.code.FoundFlows.{HasMetSent}
use Rattle.quiet_pass.specs.declared.connection_findings.ConnectionFindings.{ConnectionFindings}
use Rattle.h2audit.proofs.MetAudits.{Answers}
use Rattle.h2audit.specs.code.Met.{IsWholeOfOpening, heading_by}
use Rattle.h2audit.specs.declared.met_connections.MetConnection.{MetConnection}
use Rattle.h2audit.proofs.found_connections.told_of_each.Given as goal

-- those so far and those that are left are all, and each so far was told
abbrev pub invariant-loop-connection : goal.invariant-loop-connection
invariant-loop-connection g l = record {
  all : l.yielded ++ into_iter_items l.connection-iterator ≡ l.fn.opened.items;
  headed : l.headings.items
      ≡ map (λ (c : MetConnection (ConnectionFindings g.row.S.Denot)). heading_by c.opening) l.yielded;
  told : AllZip (Answers (HasMetSent g.S.Showing.frames_shown)
      (IsWholeOfOpening g.S.Showing.frames_shown)) l.yielded l.told.items;
}
