use Rattle.stream_credit.proofs.Words.{◌≡◌, ◌∙◌, OnTrue_at, OnTrue_from, IfOk-weaker, arith, refl, sym}
use Rattle.std.proofs.Common.{◌%◌}
use Rattle.quiet_pass.proofs.ShiftLemmas.{none-of, none-some}
use Rattle.quiet_pass.proofs.kept_streams.Streams.put.Goals as goal

pub returns-then-stream-eq1-clause-put : goal.returns-then-stream-eq1-clause-put
returns-then-stream-eq1-clause-put c =
    let old = c.args.self.now in
    let none = none-of old.shifted (sym c.is_some.ensures ∙ c.if-is_some.false) in
    IfOk-weaker c.put_plain.result _ _
    (λ done h. OnTrue_from done _ (λ e. record {
      small = c.requires;
      low = c.args.entry.now;
      raises = rw none refl;
      shift = refl;
      odd = λ p. (OnTrue_at e h, refl);
      even = λ p. absurd (omega (arith, p, c.if-stream-eq1.true));
      grouped = λ was shifted is. none-some old.shifted shifted none is;
    }))
    c.put_plain.ensures.put

pub returns-else-stream-eq1-clause-put : goal.returns-else-stream-eq1-clause-put
returns-else-stream-eq1-clause-put c =
    let old = c.args.self.now in
    let none = none-of old.shifted (sym c.is_some.ensures ∙ c.if-is_some.false) in
    let even : c.args.stream % 2 ≡ 0 = omega (arith, c.if-stream-eq1.false) in
    IfOk-weaker c.put_plain-else-stream-eq1.result _ _
    (λ done h. OnTrue_from done _ (λ e. record {
      small = c.requires;
      low = c.args.entry.now;
      raises = rw none refl;
      shift = refl;
      odd = λ p. absurd (omega (arith, p, even));
      even = λ p. (OnTrue_at e h, refl);
      grouped = λ was shifted is. none-some old.shifted shifted none is;
    }))
    c.put_plain-else-stream-eq1.ensures.put
