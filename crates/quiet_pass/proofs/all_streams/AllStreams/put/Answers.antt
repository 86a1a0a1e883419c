use Rattle.stream_credit.proofs.Words.{arith, subst, sym, ◌≡◌}
use Rattle.quiet_pass.proofs.AllLemmas.{kept-same, put-in-full, put-in-rows}
use Rattle.quiet_pass.specs.code.AllStreams.{AreKept}
use Rattle.quiet_pass.specs.code.Streams.{AreStreams}
use Rattle.quiet_pass.specs.declared.all_streams.AllStreams.{AllStreams}
use Rattle.quiet_pass.specs.declared.all_streams.AllStreams.TheVariants.{Rows, Whole}
use Rattle.quiet_pass.specs.declared.kept_streams.Streams.{Streams}
use Rattle.quiet_pass.proofs.all_streams.AllStreams.put.Goals as goal

pub returns-then-stream-eq0 : goal.returns-then-stream-eq0
returns-then-stream-eq0 c = λ streams next own others h.
    kept-same c.args.self.now streams next
    (λ o above. sym (others o above (λ e. absurd (omega (arith, above, e, c.if-stream-eq0.true))))) h

pub returns-then-branch : goal.returns-then-branch
returns-then-branch c = λ streams next own others h.
    put-in-rows (rw c.if-branch.true at c.in_ok-put-in-Rows.ensures.put) streams next own others
    (subst (λ (kept : AllStreams). AreKept streams kept) c.in-Rows.is h)

pub returns-in_ok-put-in-Rows-2 : goal.returns-in_ok-put-in-Rows-2
returns-in_ok-put-in-Rows-2 c = λ streams next own others h.
    let same : c.put.new.self ≡ c.in-Rows.rows = rw c.if-branch.false at c.in_ok-put-in-Rows.ensures.left in
    put-in-full (Rows c.in-Rows.rows) c.in_ok-whole-in-Rows.whole c.put-in-Rows.new.self c.requires
    (λ streams k.
    c.in_ok-whole-in-Rows.ensures streams (subst (λ (rows : Streams). AreStreams streams rows) (sym same) k))
    c.in_ok-put-in-Rows-2.ensures streams next own others
    (subst (λ (kept : AllStreams). AreKept streams kept) c.in-Rows.is h)

pub returns-in_ok-put-in-Whole : goal.returns-in_ok-put-in-Whole
returns-in_ok-put-in-Whole c = λ streams next own others h.
    put-in-full (Whole c.in-Whole.whole) c.in-Whole.whole c.put-in-Whole.new.self c.requires (λ streams k. k)
    c.in_ok-put-in-Whole.ensures streams next own others
    (subst (λ (kept : AllStreams). AreKept streams kept) c.in-Whole.is h)
