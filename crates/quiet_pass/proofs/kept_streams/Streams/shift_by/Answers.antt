use Rattle.stream_credit.proofs.Words.{refl, ◌∙◌}
use Rattle.quiet_pass.proofs.ShiftLemmas.{none-of}
use Rattle.quiet_pass.proofs.ShiftedLemmas.{begins-shifted}
use Rattle.quiet_pass.proofs.kept_streams.Streams.shift_by.Goals as goal

pub returns : goal.returns
returns c =
    let old = c.args.self.now in
    let none = none-of old.shifted c.requires in
    let odd = c.in_ok-opened.ensures in
    let even = c.in_ok-promised.ensures in
    let was-odd = c.in_ok-odd.ensures ∙ c.as_slice.ensures.value in
    let was-even = c.in_ok-even.ensures ∙ c.as_slice-2.ensures.value in
    let one = c.in_ok-new.field-0 in
    let two = c.in_ok-new-2.field-0 in
    let shows = c.args.frames_shown in
    begins-shifted
    (record { frames_shown = shows; shift = c.args.initial.now; opened = one; promised = two }) old _ none
    refl
    (rw was-odd at (odd.lowered c.in-Some.opened c.in-Some.is))
    (rw was-even at (even.lowered c.in-Some-2.promised c.in-Some-2.is))
    (rw c.in_ok-new.ensures.ok (odd.covered c.in-Some.opened c.in-Some.is shows))
    (rw c.in_ok-new-2.ensures.ok (even.covered c.in-Some-2.promised c.in-Some-2.is shows))
