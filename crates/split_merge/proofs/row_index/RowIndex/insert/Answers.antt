use Rattle.split_merge.proofs.Terms.{◌+◌, arith, length, refl, sym, ◌∙◌, RowIndex, streams_in}
use Rattle.split_merge.proofs.Visited.{length-streams_in}
use Rattle.split_merge.proofs.Rising.{row-above, row-in_table, row-within}
use Rattle.split_merge.proofs.row_index.RowIndex.insert.Goals as goal

pub returns-then-is_above : goal.returns-then-is_above
returns-then-is_above c =
    let n = length-streams_in c.args.rows.now in
    let after : RowIndex = record { rising = c.args.self.now.rising + 1; others = c.args.self.now.others } in
    row-above (streams_in c.args.rows.now) c.args.self.now after c.requires.index c.args.stream c.requires.above
    (length c.args.rows.now) (c.if-is_above.ensures.rising ∙ sym n) c.if-is_above.ensures.above refl refl (sym n)

pub overflow_cast-result-2 : goal.overflow_cast-result-2
overflow_cast-result-2 c =
    let after : RowIndex = record { rising = c.args.self.now.rising; others = c.insert_full.new.self } in
    let at =
    row-in_table (streams_in c.args.rows.now) c.args.self.now after c.requires.index c.args.stream c.requires.above
    c.in_ok-place.place c.in_default.ensures refl c.in_ok-place.ensures.keys c.in_ok-place.ensures.index
    c.in_ok-place.ensures.stored c.in_ok-place.added c.in_ok-place.ensures.added in
    omega (arith, row-within c.in_ok-place.added _ _ _ _ at, length-streams_in c.args.rows.now, c.requires.room)

pub overflow_add-result : goal.overflow_add-result
overflow_add-result c =
    let after : RowIndex = record { rising = c.args.self.now.rising; others = c.insert_full.new.self } in
    let at =
    row-in_table (streams_in c.args.rows.now) c.args.self.now after c.requires.index c.args.stream c.requires.above
    c.in_ok-place.place c.in_default.ensures refl c.in_ok-place.ensures.keys c.in_ok-place.ensures.index
    c.in_ok-place.ensures.stored c.in_ok-place.added c.in_ok-place.ensures.added in
    omega (arith, row-within c.in_ok-place.added _ _ _ _ at, length-streams_in c.args.rows.now, c.requires.room)

pub returns : goal.returns
returns c =
    let after : RowIndex = record { rising = c.args.self.now.rising; others = c.insert_full.new.self } in
    row-in_table (streams_in c.args.rows.now) c.args.self.now after c.requires.index c.args.stream c.requires.above
    c.in_ok-place.place c.in_default.ensures refl c.in_ok-place.ensures.keys c.in_ok-place.ensures.index
    c.in_ok-place.ensures.stored c.in_ok-place.added c.in_ok-place.ensures.added
