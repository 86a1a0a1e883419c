use Rattle.tcp_streams.proofs.table.Table.turn.Goals.{else-is_request-3-via-then-is_request-3+else-not-is_repeated_by}
use Rattle.tcp_streams.proofs.{Words.not, Words.Some, Words.sym, Words.◌∙◌, Words.ap, Steps.decides, Steps.stands_so}
use Rattle.tcp_streams.proofs.table.Table.turn.Goals.{else-is_request-3-via-else-is_request-3}
use Rattle.tcp_streams.proofs.table.Table.turn.Goals as goal

pub returns-then-not-is_repeated_by : goal.returns-then-not-is_repeated_by
returns-then-not-is_repeated_by c = λ past shown.
    decides past c.args.self.now shown c.args.segment.now c.in-Opened.k
    (sym c.requires.standing ∙ c.in-Some.is ∙ ap Some c.in-Opened.is) c.index.result.now c.index.ensures
    (sym c.if-is_request-3.ensures) ∙ ap not (sym c.is_repeated_by.ensures ∙ c.if-not-is_repeated_by.true)

pub returns-else-is_request-3 : goal.returns-else-is_request-3
returns-else-is_request-3 c =
    let s = c.args.segment.now in
    let at = sym c.requires.standing ∙ c.in-Some.is ∙ ap Some c.in-Opened.is in
    λ past shown.
    let opened = stands_so past c.args.self.now shown s c.in-Opened.k at in
    elim c.else-is_request-3.branch [
      | else-is_request-3-via-then-is_request-3+else-not-is_repeated_by w ↦ (
        decides past c.args.self.now shown s c.in-Opened.k at w.index.result.now w.index.ensures
            (sym w.if-is_request-3.ensures) ∙ ap not (sym w.is_repeated_by.ensures ∙ w.if-not-is_repeated_by.false),
        opened,
      )
      | else-is_request-3-via-else-is_request-3 w ↦ (rw (sym w.if-is_request-3.ensures), opened)
    ]
