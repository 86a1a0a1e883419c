use Rattle.std.proofs.Common.{Vec, rules, ◌∙◌}
use Rattle.std.proofs.lemmas.Iterator.{YieldsList-from_slice}
use Rattle.std.proofs.lemmas.Iterator.Search.{any_from_yields_List}
use Rattle.std.specs.{Global.Global, List.list_any}
use Rattle.audit_terms.specs.{Kind.is_fault, declared.findings.Finding.Finding}
use Rattle.h2audit.proofs.ToldAudits.{any-of-all}
use Rattle.h2audit.proofs.verdict.has_fault.Goals as goal

pub returns : goal.returns
returns c =
    let fault = λ (finding : Finding). is_fault finding.kind in
    any_from_yields_List (λ (list : Vec Finding Global). list_any fault list.items) _ _ c.any.result c.any.ensures.ran
    (YieldsList-from_slice c.args.findings.now.lists.items cc) (λ x b q k. search rules)
    ∙ any-of-all fault c.args.findings.now.lists.items
