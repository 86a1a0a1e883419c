use Rattle.stream_credit.proofs.Words.{Some, arith, refl, sym, OnTrue_at, OnTrue_from, ap, ◌∙◌, ◌≡◌}
use Rattle.std.proofs.Common.{◌%◌}
use Rattle.std.proofs.lemmas.Bool.{OnFalse_at, OnFalse_from}
use Rattle.quiet_pass.proofs.ShiftedLemmas.{grouped-by, put-back, raises-in, same-parts, shift-by}
use Rattle.quiet_pass.specs.declared.kept_streams.Shifted.{Shifted}
use Rattle.quiet_pass.specs.declared.kept_streams.Streams.{Streams}
use Rattle.quiet_pass.specs.declared.row_groups.RowGroups.{RowGroups}
use Rattle.quiet_pass.proofs.kept_streams.Streams.put_shifted.Goals as goal

pub returns-then-stream-eq1-clause-put : goal.returns-then-stream-eq1-clause-put
returns-then-stream-eq1-clause-put c =
    let old = c.args.self.now in
    let shifted = c.in-Some-take.shifted in
    let low = c.in-Some-lowered.low in
    let was : old.shifted ≡ Some shifted = sym c.take.ensures.value ∙ c.in-Some-take.is in
    let put = c.in_ok-is_put.ensures in
    let now : Shifted =
    record {
      frames_shown = shifted.frames_shown;
      shift = shifted.shift;
      opened = record shifted.opened { value = c.put_shifted.new.groups };
      promised = shifted.promised;
    } in
    let new : Streams = record { opened = c.put_shifted.new.rows; promised = old.promised; shifted = Some now } in
    OnTrue_from c.in_ok-is_put.is_put _ (λ e. record {
      small = c.requires;
      low = low;
      raises = raises-in (sym c.shift.ensures ∙ c.in-Some.is) low c.args.entry.now
          (c.lowered.ensures low c.in-Some-lowered.is);
      shift = sym (shift-by old shifted was);
      odd = λ p. (OnTrue_at e put.put, refl);
      even = λ p. absurd (omega (arith, p, c.if-stream-eq1.true));
      grouped = λ g.
          let groups = g shifted was in
          grouped-by new now refl
          (record {
            opened = OnTrue_at e put.covered shifted.frames_shown (rw c.deref_mut.ensures.value groups.opened);
            promised = groups.promised;
          });
    })

pub returns-then-stream-eq1-clause-left : goal.returns-then-stream-eq1-clause-left
returns-then-stream-eq1-clause-left c =
    let old = c.args.self.now in
    let shifted = c.in-Some-take.shifted in
    let was : old.shifted ≡ Some shifted = sym c.take.ensures.value ∙ c.in-Some-take.is in
    let put = c.in_ok-is_put.ensures in
    OnFalse_from c.in_ok-is_put.is_put _ (λ e.
    same-parts old _ (OnFalse_at e put.rows) refl
    (put-back old shifted _ was
    (ap (λ (groups : RowGroups). record {
      frames_shown = shifted.frames_shown;
      shift = shifted.shift;
      opened = record shifted.opened { value = groups };
      promised = shifted.promised;
    })
    (OnFalse_at e put.groups ∙ c.deref_mut.ensures.value))))

pub returns-clause-put : goal.returns-clause-put
returns-clause-put c =
    let old = c.args.self.now in
    let shifted = c.in-Some-take.shifted in
    let low = c.in-Some-lowered.low in
    let even : c.args.stream % 2 ≡ 0 = omega (arith, c.if-stream-eq1.false) in
    let was : old.shifted ≡ Some shifted = sym c.take.ensures.value ∙ c.in-Some-take.is in
    let put = c.in_ok-is_put-2.ensures in
    let now : Shifted =
    record {
      frames_shown = shifted.frames_shown;
      shift = shifted.shift;
      opened = shifted.opened;
      promised = record shifted.promised { value = c.put_shifted-2.new.groups };
    } in
    let new : Streams = record { opened = old.opened; promised = c.put_shifted-2.new.rows; shifted = Some now } in
    OnTrue_from c.in_ok-is_put-2.is_put _ (λ e. record {
      small = c.requires;
      low = low;
      raises = raises-in (sym c.shift.ensures ∙ c.in-Some.is) low c.args.entry.now
          (c.lowered.ensures low c.in-Some-lowered.is);
      shift = sym (shift-by old shifted was);
      odd = λ p. absurd (omega (arith, p, even));
      even = λ p. (OnTrue_at e put.put, refl);
      grouped = λ g.
          let groups = g shifted was in
          grouped-by new now refl
          (record {
            opened = groups.opened;
            promised = OnTrue_at e put.covered shifted.frames_shown
                (rw c.deref_mut-2.ensures.value groups.promised);
          });
    })

pub returns-clause-left : goal.returns-clause-left
returns-clause-left c =
    let old = c.args.self.now in
    let shifted = c.in-Some-take.shifted in
    let was : old.shifted ≡ Some shifted = sym c.take.ensures.value ∙ c.in-Some-take.is in
    let put = c.in_ok-is_put-2.ensures in
    OnFalse_from c.in_ok-is_put-2.is_put _ (λ e.
    same-parts old _ refl (OnFalse_at e put.rows)
    (put-back old shifted _ was
    (ap (λ (groups : RowGroups). record {
      frames_shown = shifted.frames_shown;
      shift = shifted.shift;
      opened = shifted.opened;
      promised = record shifted.promised { value = groups };
    })
    (OnFalse_at e put.groups ∙ c.deref_mut-2.ensures.value))))
