use Rattle.split_merge.proofs.Terms.{StreamRow, refl}
use Rattle.split_merge.proofs.LaidOut.{placing-none, placing-some, put-within}
use Rattle.split_merge.proofs.splits.visit.Goals as goal

-- any row, for a place that has one
abbrev none : StreamRow
none = record { stream = 0; from = 0; to = 0 }

pub bounds-rows-row : goal.bounds-rows-row
bounds-rows-row c =
    let (loud, came, left, h) = c.requires in
    (put-within left c.args.stream c.args.position h c.in-Some.row none (c.in-Some.ensures.place loud h.leads)).0

pub put-requires-clause-within : goal.put-requires-clause-within
put-requires-clause-within c =
    let (loud, came, left, h) = c.requires in
    (put-within left c.args.stream c.args.position h c.in-Some.row none (c.in-Some.ensures.place loud h.leads)).1

pub returns-in-Some : goal.returns-in-Some
returns-in-Some c = λ loud came left h.
    placing-some left c.args.stream c.args.position h c.in-Some.row none (c.in-Some.ensures.place loud h.leads)
    c.in-Some.ensures.kept (rw c.put.ensures.row refl) c.put.ensures.positions

pub returns-in_default : goal.returns-in_default
returns-in_default c = λ loud came left h.
    placing-none left c.args.stream c.args.position h c.in_default.ensures.kept
    (c.in_default.ensures.place loud h.leads)
