use Rattle.std.proofs.Common.{List, Vec, ◌≡◌, ◌+◌, ◌-◌, ◌++◌, ◌∷◌, ◌∙◌, [], ap, get_or, append-nil, length, sym}
use Rattle.std.proofs.Common.{subst, take}
use Rattle.std.proofs.lemmas.{Grind.flat_map-append, List.take_more}
use Rattle.std.specs.{Global.Global, List.flat_map, Prelude.slice_get}
use Rattle.audit_terms.specs.declared.findings.Finding.{Finding}
use Rattle.report_pages.proofs.stretches.last_of.Goals as goal

pub loop-list-preserved : goal.loop-list-preserved
loop-list-preserved c =
    let lists = c.args.lists.now in
    let items = λ (list : Vec Finding Global). list.items in
    let i = c.loop-list.list-index in
    let before = flat_map items (take i lists) in
    let one = c.as_slice.result.now in
    let low = c.loop-list-test.true in
    let more : flat_map items (take (i + 1) lists) ≡ before ++ one =
    ap (flat_map items) (take_more lists i c.list-item.result low)
    ∙ flat_map-append items (take i lists) (get_or lists i c.list-item.result ∷ [])
    ∙ ap (λ l. before ++ l) (append-nil (items (get_or lists i c.list-item.result))
    ∙ ap items (sym c.list-item.is) ∙ sym c.as_slice.ensures.value) in
    subst (λ (all : List Finding). c.last_behind-last.result ≡ slice_get all (length all - 1)) (sym more)
    (c.last_behind-last.ensures before c.loop-list.invariant)
