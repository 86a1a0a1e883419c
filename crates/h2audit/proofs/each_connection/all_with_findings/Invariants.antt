use Rattle.std.proofs.Common.{◌++◌, All, List}
use Rattle.std.specs.Vec.Iter.{into_iter_items}
use Rattle.h2audit.specs.code.KeptFrames.{AreToldWith}
use Rattle.report_pages.specs.code.Told.{HasOrderlyOutcome}
use Rattle.report_pages.specs.declared.told.Told.{Told}
use Rattle.h2audit.proofs.each_connection.all_with_findings.Given as goal

-- what is told so far, with what is to come of the connections and findings that are left, is the whole
abbrev pub invariant-loop-one : goal.invariant-loop-one
invariant-loop-one l = record {
  orderly : All (λ (one : Told). HasOrderlyOutcome one.outcome) (into_iter_items l.one-iterator);
  put : (rest : List Told) → AreToldWith (into_iter_items l.one-iterator) (into_iter_items l.rest) rest
      → AreToldWith l.fn.told.items l.fn.found.items (l.all.items ++ rest);
}
