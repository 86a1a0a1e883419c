use Rattle.stream_credit.proofs.Words.{subst, sym, ◌≡◌}
use Rattle.quiet_pass.proofs.ShiftedLemmas.{said-from}
use Rattle.quiet_pass.specs.code.AllStreams.{AreKept}
use Rattle.quiet_pass.specs.code.Streams.{AreStreams}
use Rattle.quiet_pass.specs.declared.all_streams.AllStreams.{AllStreams}
use Rattle.quiet_pass.specs.declared.kept_streams.Streams.{Streams}
use Rattle.quiet_pass.proofs.all_streams.AllStreams.say_change.Goals as goal

pub returns-in_ok-say_change-in-Rows-2 : goal.returns-in_ok-say_change-in-Rows-2
returns-in_ok-say_change-in-Rows-2 c =
    let same : c.say_change.new.self ≡ c.in-Rows.rows =
    rw c.if-branch.false at c.in_ok-say_change-in-Rows.ensures.left in
    let found : c.say_change.new.found ≡ c.args.found.now =
    rw c.if-branch.false at c.in_ok-say_change-in-Rows.ensures.found in
    said-from
    (λ streams h.
    c.in_ok-whole-in-Rows.ensures streams
    (subst (λ (rows : Streams). AreStreams streams rows) (sym same)
    (subst (λ (kept : AllStreams). AreKept streams kept) c.in-Rows.is h)))
    (rw found at (c.in_ok-say_change-in-Rows-2.ensures c.args.frames_shown))

pub returns-in_ok-say_change-in-Whole : goal.returns-in_ok-say_change-in-Whole
returns-in_ok-say_change-in-Whole c =
    said-from (λ streams h. subst (λ (kept : AllStreams). AreKept streams kept) c.in-Whole.is h)
    (c.in_ok-say_change-in-Whole.ensures c.args.frames_shown)
