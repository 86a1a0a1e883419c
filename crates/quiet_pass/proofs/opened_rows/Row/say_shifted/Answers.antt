use Rattle.stream_credit.proofs.Words.{Finding, List, Stream, ap, append-nil, shown, subst, sym, ◌++◌, ◌∙◌}
use Rattle.quiet_pass.proofs.ShiftedLemmas.{row-unshown}
use Rattle.quiet_pass.specs.code.Shifts.{IsEntryQuiet}
use Rattle.quiet_pass.proofs.opened_rows.Row.say_shifted.Goals as goal

pub returns-then-have-2 : goal.returns-then-have-2
returns-then-have-2 c =
    let found = c.args.found.now.items in
    let moving = c.args.moving.now in
    let given = c.requires.moving in
    let shows = moving.frames_shown in
    let quiet = subst (λ (entry : Stream). IsEntryQuiet shows moving.shift moving.next entry)
    c.held-entry.ensures.same
    (c.of-quiet.ensures moving.shift moving.next (sym c.have.ensures ∙ c.if-have.true)
    (sym c.have-then-have.ensures ∙ c.if-have-2.true)) in
    sym (append-nil (shown shows found))
    ∙ ap (λ (l : List Finding). shown shows found ++ l)
    (sym (row-unshown shows moving.before.now moving.step.now given.alone moving.shift moving.next given.moved
    c.args.self.now quiet))
