use Rattle.stream_credit.proofs.Words.{Some, refl, same_Some, sym, ◌∙◌, ◌≡◌}
use Rattle.quiet_pass.proofs.ShiftedLemmas.{shifted-change}
use Rattle.quiet_pass.proofs.kept_streams.Streams.say_shifted.Goals as goal

pub say_shifted-requires-clause-own : goal.say_shifted-requires-clause-own
say_shifted-requires-clause-own c = (1, rw c.as_slice-odd.ensures.value c.requires.kept.1.rows.opened_odd)

pub say_shifted-requires-2-clause-own : goal.say_shifted-requires-2-clause-own
say_shifted-requires-2-clause-own c = (0, rw c.as_slice-even.ensures.value c.requires.kept.1.rows.promised_even)

pub say_shifted-requires-clause-moving : goal.say_shifted-requires-clause-moving
say_shifted-requires-clause-moving c = record {
  alone = c.requires.alone;
  numbered = c.requires.numbered;
  moved = rw c.initial_after-after.ensures at
      (c.shift_after.ensures c.in-Some-shift_after.next c.in-Some-shift_after.is);
}

pub say_shifted-requires-2-clause-moving : goal.say_shifted-requires-2-clause-moving
say_shifted-requires-2-clause-moving c = record {
  alone = c.requires.alone;
  numbered = c.requires.numbered;
  moved = rw c.initial_after-after.ensures at
      (c.shift_after.ensures c.in-Some-shift_after.next c.in-Some-shift_after.is);
}

pub returns-clause-said : goal.returns-clause-said
returns-clause-said c =
    let old = c.args.self.now in
    let shifted = c.in-Some-take.shifted in
    let next = c.in-Some-shift_after.next in
    let was : old.shifted ≡ Some shifted = sym c.take.ensures.value ∙ c.in-Some-take.is in
    let known = c.shift_for.ensures c.in-Some.shift c.in-Some.is in
    let same : known.shifted ≡ shifted = same_Some _ _ (sym known.is ∙ was) in
    let is : c.in-Some.shift ≡ shifted.shift = sym known.by ∙ rw same refl in
    let shows : shifted.frames_shown ≡ c.args.frames_shown = rw same at known.known in
    let moved = rw (is, c.initial_after-after.ensures) at (c.shift_after.ensures next c.in-Some-shift_after.is) in
    let odd = rw (is, c.as_slice-odd.ensures.value, c.deref_mut.ensures.value) at c.in_ok-say_shifted.ensures.said in
    let even = rw (is, c.as_slice-even.ensures.value, c.deref_mut-2.ensures.value) at
    c.in_ok-say_shifted-2.ensures.said in
    shifted-change c.args.frames_shown c.args.initial.now c.args.step.now c.requires.alone shifted
    (record {
      frames_shown = shifted.frames_shown;
      shift = next;
      opened = record shifted.opened { value = c.say_shifted.new.groups };
      promised = record shifted.promised { value = c.say_shifted-2.new.groups };
    }) shows shows moved old _ was refl refl refl c.args.found.now.items c.say_shifted.new.found.items
    c.say_shifted-2.new.found.items odd even
    (rw (c.as_slice-odd.ensures.value, c.deref_mut.ensures.value) at c.in_ok-say_shifted.ensures.covered)
    (rw (c.as_slice-even.ensures.value, c.deref_mut-2.ensures.value) at c.in_ok-say_shifted-2.ensures.covered)
