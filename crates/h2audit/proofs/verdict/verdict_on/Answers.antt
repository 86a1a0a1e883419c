use Rattle.std.proofs.Common.{Bool, sym, ap, ◌∙◌, if◌then◌else◌, rules}
use Rattle.std.proofs.lemmas.Iterator.{YieldsList-from_slice}
use Rattle.std.proofs.lemmas.Iterator.Search.{any_from_yields_List}
use Rattle.report_pages.specs.declared.told.Told.{Told}
use Rattle.h2audit.specs.code.Verdict.{has_fault_in}
use Rattle.h2audit.specs.declared.verdict.Verdict.TheVariants.{Clean, Faults}
use Rattle.h2audit.proofs.ToldAudits.{faults-same}
use Rattle.h2audit.proofs.verdict.verdict_on.Goals as goal

pub returns-then-any : goal.returns-then-any
returns-then-any c = λ audited stand.
    let any = any_from_yields_List (λ (one : Told). has_fault_in one.outcome) _ _ c.any.result c.any.ensures.ran
    (YieldsList-from_slice c.args.told.now cc) (λ x b q k. search rules) in
    ap (λ (b : Bool). if b then Faults else Clean) (sym c.if-any.true ∙ any ∙ faults-same c.args.told.now audited stand)

pub returns-else-any : goal.returns-else-any
returns-else-any c = λ audited stand.
    let any = any_from_yields_List (λ (one : Told). has_fault_in one.outcome) _ _ c.any.result c.any.ensures.ran
    (YieldsList-from_slice c.args.told.now cc) (λ x b q k. search rules) in
    ap (λ (b : Bool). if b then Faults else Clean)
    (sym c.if-any.false ∙ any ∙ faults-same c.args.told.now audited stand)
