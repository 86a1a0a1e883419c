use Rattle.std.proofs.Common.{arith, ap, length, List, suc, sym, ◌-◌, ◌<◌, ◌≡◌, ◌∙◌, ℕ}
use Rattle.report_pages.specs.code.Entries.{Entries, audited_stretches, found_stretches, outcome_stretches}
use Rattle.report_pages.proofs.stretches.stretch_of.Goals as goal

-- one of those behind the opening
behind : (index : ℕ) (all these : List Entries) → index < suc (length all) → (index ≡ 0 → ⊥) → all ≡ these
    → index - 1 < length these
behind index all these low some same = omega (arith, ap length same, some)

pub found_stretch-requires : goal.found_stretch-requires
found_stretch-requires c = record {
  within = λ shown.
      behind c.args.index _ _ (c.requires.within shown) c.if-index-eq0.false
      (ap (outcome_stretches shown) c.in-Found.is ∙ ap (found_stretches shown) (sym c.deref.ensures));
}

pub audited_stretch-requires-clause-within : goal.audited_stretch-requires-clause-within
audited_stretch-requires-clause-within c = λ shown.
    behind c.args.index _ _ (c.requires.within shown) c.if-index-eq0.false
    (ap (outcome_stretches shown) c.in-Audited.is ∙ ap (audited_stretches shown) (sym c.deref-in-Audited.ensures))
