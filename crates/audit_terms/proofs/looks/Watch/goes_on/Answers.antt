use Rattle.std.proofs.Common.{◌+◌, sym, ◌∙◌, subst, arith}
use Rattle.audit_terms.proofs.Watching.{steps, asks, stops, asks-stops}
use Rattle.audit_terms.proofs.looks.Watch.goes_on.Goals as goal
use Rattle.audit_terms.proofs.looks.Watch.goes_on.Goals.{then-self-eq0+else-is_past-2, else-self-eq0}

pub returns-then-is_past : goal.returns-then-is_past
returns-then-is_past g c = λ start whole met left found w.
    stops g.L.Look.answers start whole c.args.look.now met c.args.number left c.args.self.now w
    (sym c.is_past.ensures ∙ c.if-is_past.true)

pub returns-then-is_past-2 : goal.returns-then-is_past-2
returns-then-is_past-2 g c = λ start whole met left found w.
    asks-stops g.L.Look.answers start whole c.args.look.now c.look-self.new.self met c.args.number left c.args.self.now
    c.look-self.result w (sym c.is_past.ensures ∙ c.if-is_past.false) c.if-self-eq0.true
    (subst (λ l. g.L.Look.answers c.args.look.now l c.look-self.result c.look-self.new.self) found c.look-self.ensures)
    (sym c.is_past-then-self-eq0.ensures ∙ c.if-is_past-2.true)

pub returns : goal.returns
returns g c = λ start whole met left found w.
    let answers = g.L.Look.answers in
    elim c.if-self-eq0.branch [
      | then-self-eq0+else-is_past-2 e ↦ rw (e.self-is, e.look-is)
          (steps answers start whole e.look-self.new.self met c.args.number left
          (record { stop = e.look-self.result; looks = c.args.self.now.looks + 1; left = 256 })
          (asks answers start whole c.args.look.now e.look-self.new.self met c.args.number left c.args.self.now
          e.look-self.result w (sym c.is_past.ensures ∙ c.if-is_past.false) e.if-self-eq0.true
          (subst (λ l. answers c.args.look.now l e.look-self.result e.look-self.new.self) found e.look-self.ensures)
          (sym e.is_past-then-self-eq0.ensures ∙ e.if-is_past-2.false))
          (sym e.is_past-then-self-eq0.ensures ∙ e.if-is_past-2.false) (omega arith))
      | else-self-eq0 e ↦ rw (e.self-is, e.look-is)
          (steps answers start whole c.args.look.now met c.args.number left c.args.self.now w
          (sym c.is_past.ensures ∙ c.if-is_past.false) (let some = e.if-self-eq0.false in omega arith))
    ]
