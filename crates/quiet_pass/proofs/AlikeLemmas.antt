-- What is shown of streams in order, whichever streams that show nothing are left out, and whatever order they are gone
-- through in.
use Rattle.std.proofs.lemmas.Bool.{eqb-false}
use Rattle.std.proofs.Common.{◌≢◌}
use Rattle.std.specs.List.{IsDistinct, list_any}
use Rattle.audit_terms.proofs.FindingOrder.{in_order-alike, in_order-append_comm}
use Rattle.audit_terms.proofs.ShownFindings.{in_order-shown, shown-append}
use Rattle.quiet_pass.specs.code.QuietPass.{AreNamed}
use Rattle.stream_credit.proofs.Words.{◌≡◌, ℕ, ◌<◌, ◌==◌, false, List, [], ◌∷◌, ◌++◌, refl, sym, ap, ◌∙◌}
use Rattle.stream_credit.proofs.Words.{append-nil, append_assoc, cases_eq, eq-eqb, ne_eqb, inl, inr}
use Rattle.stream_credit.proofs.Words.{AllByRecursion, Bool, Finding, flat_map, if◌then◌else◌, in_order, shown}

-- ---- lists of findings

-- what is shown in order depends on what is shown
pub alike-shown : (frames_shown : Bool) (one other : List Finding) → shown frames_shown one ≡ shown frames_shown other
    → shown frames_shown (in_order one) ≡ shown frames_shown (in_order other)
alike-shown frames_shown one other e = sym (in_order-shown frames_shown one) ∙ ap in_order e
    ∙ in_order-shown frames_shown other

-- and on what is shown of its parts, each in order
pub alike-parts : (frames_shown : Bool) (front back one other : List Finding) → in_order front ≡ in_order back
    → in_order (shown frames_shown one) ≡ in_order (shown frames_shown other)
    → shown frames_shown (in_order (front ++ one)) ≡ shown frames_shown (in_order (back ++ other))
alike-parts frames_shown front back one other p q =
    sym (in_order-shown frames_shown (front ++ one)) ∙ ap in_order (shown-append frames_shown front one)
    ∙ in_order-alike (shown frames_shown front) (shown frames_shown back) (shown frames_shown one)
    (shown frames_shown other)
    (in_order-shown frames_shown front ∙ ap (shown frames_shown) p ∙ sym (in_order-shown frames_shown back)) q
    ∙ ap in_order (sym (shown-append frames_shown back other)) ∙ in_order-shown frames_shown (back ++ other)

in_order-swap : (a b c : List Finding) → in_order (a ++ (b ++ c)) ≡ in_order (b ++ (a ++ c))
in_order-swap a b c =
    ap in_order (sym (append_assoc a b c))
    ∙ in_order-alike (a ++ b) (b ++ a) c c (in_order-append_comm a b) refl
    ∙ ap in_order (append_assoc b a c)

-- ---- a rule without one stream

abbrev without : (ℕ → List Finding) → ℕ → ℕ → List Finding
without rule s o = if o == s then [] else rule o

without-own : (rule : ℕ → List Finding) (s o : ℕ) → o ≡ s → without rule s o ≡ []
without-own rule s o own = rw (eq-eqb o s own) refl

without-other : (rule : ℕ → List Finding) (s o : ℕ) → o ≢ s → without rule s o ≡ rule o
without-other rule s o differ = rw (ne_eqb o s differ) refl

skip : (rule : ℕ → List Finding) (s : ℕ) (streams : List ℕ)
    → AllByRecursion (λ other. (s == other) ≡ false) streams
    → flat_map rule streams ≡ flat_map (without rule s) streams
skip rule s [] none = refl
skip rule s (o ∷ streams) none =
    ap (λ l. l ++ flat_map rule streams)
    (sym (without-other rule s o (λ e. eqb-false s o none.0 (sym e))))
    ∙ ap (λ l. without rule s o ++ l) (skip rule s streams none.1)

-- what one stream shows may stand first
pull : (rule : ℕ → List Finding) (s : ℕ) (some : List ℕ) → IsDistinct ◌==◌ some
    → (list_any (λ one. one == s) some ≡ false → rule s ≡ [])
    → in_order (rule s ++ flat_map (without rule s) some) ≡ in_order (flat_map rule some)
unfolding IsDistinct
pull rule s [] once none = ap in_order (append-nil (rule s) ∙ none refl)
pull rule s (o ∷ some) once none = elim (cases_eq o s) [
  | inl own ↦
      ap (λ l. in_order (rule s ++ (l ++ flat_map (without rule s) some))) (without-own rule s o own)
      ∙ ap (λ l. in_order (rule s ++ l))
      (sym (skip rule s some (apart own once.0)))
      ∙ ap (λ n. in_order (rule n ++ flat_map rule some)) (sym own)
  | inr differ ↦
      ap (λ l. in_order (rule s ++ (l ++ flat_map (without rule s) some))) (without-other rule s o differ)
      ∙ in_order-swap (rule s) (rule o) (flat_map (without rule s) some)
      ∙ in_order-alike (rule o) (rule o) (rule s ++ flat_map (without rule s) some) (flat_map rule some) refl
      (pull rule s some once.1 (λ unmet. none (rw (ne_eqb o s differ) unmet)))
]
  where
    apart : o ≡ s → AllByRecursion (λ other. (o == other) ≡ false) some
        → AllByRecursion (λ other. (s == other) ≡ false) some
    apart own h = rw own at h

-- ---- two lists of streams that differ only in those that show nothing

none-in : (rule : ℕ → List Finding) (some : List ℕ) → AreNamed some → ((o : ℕ) → 0 < o → rule o ≡ [])
    → flat_map rule some ≡ []
none-in rule [] named none = refl
none-in rule (o ∷ some) named none = rw (none o named.0) (none-in rule some named.1 none)

pub same-order : (rule : ℕ → List Finding) (streams some : List ℕ) → AreNamed streams → AreNamed some
    → IsDistinct ◌==◌ streams → IsDistinct ◌==◌ some
    → ((o : ℕ) → 0 < o → list_any (λ one. one == o) streams ≡ false → rule o ≡ [])
    → ((o : ℕ) → 0 < o → list_any (λ one. one == o) some ≡ false → rule o ≡ [])
    → in_order (flat_map rule streams) ≡ in_order (flat_map rule some)
unfolding IsDistinct
same-order rule [] some named named-some once once-some out past =
    ap in_order (sym (none-in rule some named-some (λ o above. out o above refl)))
same-order rule (s ∷ streams) some named named-some once once-some out past =
    in_order-alike (rule s) (rule s) (flat_map rule streams) (flat_map (without rule s) some) refl
    (ap in_order (skip rule s streams once.0)
    ∙ same-order (without rule s) streams some named.1 named-some once.1 once-some
    (λ o above none. elim (cases_eq o s) [
      | inl own ↦ without-own rule s o own
      | inr differ ↦
          without-other rule s o differ ∙ out o above (rw (ne_eqb s o (λ e. differ (sym e))) none)
    ])
    (λ o above none. elim (cases_eq o s) [
      | inl own ↦ without-own rule s o own
      | inr differ ↦ without-other rule s o differ ∙ past o above none
    ]))
    ∙ pull rule s some once-some (past s named.0)
