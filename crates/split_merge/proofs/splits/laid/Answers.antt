use Rattle.split_merge.proofs.{LaidOut.can-place, LoudStreams.loud-streams, LoudStreams.loud-total, Positions.notes-fit}
use Rattle.split_merge.proofs.Terms.{ap, arith, laid_out, length, nat_tests, places_from, streams_in, sym, total_of}
use Rattle.split_merge.proofs.Terms.{with_items_is, ◌∙◌, ◌≡◌}
use Rattle.std.proofs.lemmas.List.{nil_from_length}
use Rattle.split_merge.proofs.splits.laid.Goals as goal

pub returns-then-is_empty : goal.returns-then-is_empty
returns-then-is_empty c =
    let table = c.args.table.now in
    let loud = c.in_ok-loud.loud in
    let none : loud.rows.len ≡ 0 = grind (arith, nat_tests, c.if-is_empty.ensures) in
    let empty = nil_from_length loud.rows.items (sym loud.rows.ok.0 ∙ none) in
    let streams = sym (loud-streams table.rows.items table.quiets.items)
    ∙ ap streams_in (sym c.in_ok-loud.ensures.rows ∙ empty) in
    record { filled = rw streams c.new.ensures.items; opened = c.in_ok-loud.ensures.opened }

pub places_of-requires : goal.places_of-requires
places_of-requires c =
    let few = notes-fit c.args.frames.now c.requires.length in
    rw c.as_slice.ensures.value (omega (arith, c.requires.long, c.requires.table.few, few))

pub lay_out-requires : goal.lay_out-requires
lay_out-requires c =
    let table = c.args.table.now in
    let total = loud-total table.rows.items table.quiets.items in
    let is = ap total_of (c.as_slice-2.ensures.value ∙ c.in_ok-loud.ensures.rows) in
    omega (arith, is, total, c.requires.table.visits, notes-fit c.args.frames.now c.requires.length)

pub place-requires-clause-room : goal.place-requires-clause-room
place-requires-clause-room c = (
  streams_in c.in_ok-loud.loud.rows.items,
  can-place c.requires.table (notes-fit c.args.frames.now c.requires.length) c.requires.long
      c.in_ok-loud.ensures.rows
      (c.as_slice-3.ensures.value ∙ c.in_ok-places.ensures ∙ ap (places_from 0) c.as_slice.ensures.value)
      (c.deref_mut.ensures.value ∙ c.in_ok-rows.ensures.rows ∙ ap (laid_out 0) c.as_slice-2.ensures.value)
      (c.in_ok-rows.ensures.total ∙ ap total_of c.as_slice-2.ensures.value),
)

pub returns : goal.returns
returns c =
    let rows = c.in_ok-rows.rows in
    let filled = c.in_ok-positions.ensures (streams_in c.in_ok-loud.loud.rows.items)
    (can-place c.requires.table (notes-fit c.args.frames.now c.requires.length) c.requires.long
    c.in_ok-loud.ensures.rows
    (c.as_slice-3.ensures.value ∙ c.in_ok-places.ensures ∙ ap (places_from 0) c.as_slice.ensures.value)
    (c.deref_mut.ensures.value ∙ c.in_ok-rows.ensures.rows ∙ ap (laid_out 0) c.as_slice-2.ensures.value)
    (c.in_ok-rows.ensures.total ∙ ap total_of c.as_slice-2.ensures.value)) in
    let long : length c.place.new.rows ≡ c.in_ok-rows.rows.len =
    omega (arith, c.place.auto.rows, ap length c.deref_mut.ensures.value, rows.ok.0) in
    let streams = loud-streams c.args.table.now.rows.items c.args.table.now.quiets.items in
    record {
      filled = rw (with_items_is rows c.place.new.rows long)
          (rw (c.in_ok-loud.ensures.rows, streams) at filled);
      opened = c.in_ok-loud.ensures.opened;
    }
