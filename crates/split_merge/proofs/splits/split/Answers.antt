use Rattle.split_merge.proofs.{LaidOut.split-is, Terms.EndQuiet}
use Rattle.split_merge.proofs.Terms.{Bool, Change, Frame, EndsQuietOf, List, SplitFrames, length, streams_in, ◌∙◌, ◌≡◌}
use Rattle.split_merge.{proofs.Visited.length-streams_in, specs.declared.visits.Visits.Visits}
use Rattle.std.proofs.lemmas.Slice.Zip.{AllZip-long}
use Rattle.std.specs.Prelude.{Err, IfOk, Ok, Result}
use Rattle.split_merge.proofs.splits.split.Goals as goal

if-more : {E : Type 0} (P Q : SplitFrames → Type 0) (r : Result SplitFrames E) → ((x : SplitFrames) → P x → Q x)
    → IfOk r P → IfOk r Q
if-more P Q (Ok x) f h = f x h
if-more P Q (Err e) f h = tt

-- each stream of a table has its row and what is known of it
long : (frames_shown : Bool) (changes : List Change) (frames : List Frame) (table : Visits)
    → EndQuiet frames_shown changes frames (streams_in table.rows.items) table.quiets.items
    → length table.quiets.items ≡ length table.rows.items
long frames_shown changes frames table ends_quiet =
    AllZip-long (EndsQuietOf frames_shown changes frames) _ _ ends_quiet ∙ length-streams_in table.rows.items

pub ended-requires : goal.ended-requires
ended-requires c = rw c.in_ok-changes.ensures record {
  short = c.requires.length;
  orderly = c.requires.frames;
  rise = c.requires.changes;
  acknowledged = c.requires.acknowledged;
}

pub laid-requires-clause-long : goal.laid-requires-clause-long
laid-requires-clause-long c = long _ _ _ c.in_ok-table.table c.in_ok-table.ensures.ends_quiet

pub returns : goal.returns
returns c =
    let frames = c.args.frames.now in
    let table = c.in_ok-table.ensures in
    rw (← c.in_ok-changes.ensures) (if-more _ _ c.laid.result
    (λ split is. split-is c.args.frames_shown c.in_ok-changes.changes frames _ c.in_ok-table.table.quiets.items split
    table.visits.streams table.visits.table.index.distinct table.visits.table.index.above table.ends_quiet is)
    c.laid.ensures)
