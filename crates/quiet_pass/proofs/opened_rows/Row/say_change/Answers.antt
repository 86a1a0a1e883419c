use Rattle.stream_credit.proofs.Words.{◌∙◌, refl}
use Rattle.quiet_pass.proofs.ChangeLemmas.{row-quiet, row-said}
use Rattle.quiet_pass.proofs.opened_rows.Row.say_change.Goals as goal

pub returns-in-Some : goal.returns-in-Some
returns-in-Some c =
    row-quiet c.args.frames_shown c.args.initial.now c.args.step.now c.args.self.now c.in-Some.next
    c.args.found.now.items c.requires.alone c.initial_after-after.ensures
    (c.after_change.ensures.moved c.in-Some.next c.in-Some.is)
    (c.after_change.ensures.still c.in-Some.next c.in-Some.is)

pub returns-in_default-hold : goal.returns-in_default-hold
returns-in_default-hold c = record {
  said = row-said c.args.frames_shown c.args.initial.now c.args.step.now c.args.self.now c.args.found.now.items
      c.held-entry.ensures.same c.in_ok-say_stream.ensures.said;
  stepped = λ e. cc;
}

pub returns : goal.returns
returns c = record {
  said = row-said c.args.frames_shown c.args.initial.now c.args.step.now c.args.self.now c.args.found.now.items
      c.held-entry.ensures.same c.in_ok-say_stream.ensures.said;
  stepped = λ _. record {
    same = refl;
    after = c.hold.ensures c.in-Some-hold.standings c.in-Some-hold.is
        ∙ rw c.held-entry.ensures.same at c.in_ok-say_stream.ensures.after;
  };
}
