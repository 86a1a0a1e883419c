-- What each step on a desk's word tells the pass that makes it, and how passes are divided and joined.
use Rattle.std.specs.Prelude.{◌≡◌, ℕ, ◌+◌, ◌-◌, ◌^◌, ◌<◌, ◌≤◌, [], ◌∷◌, ◌++◌, if◌then◌else◌, nat_lt, slice_index}
use Rattle.atomic_table.specs.Table.{Me, Step}
use Rattle.stop_desk.specs.declared.rule.Knows.{Knows}
use Rattle.stop_desk.specs.code.Counts.{times, marks}
use Rattle.audit_terms.specs.code.Places.{past_places}
use Rattle.stop_desk.specs.code.Rule.{knows}

abbrev pub PassState : Type 0
PassState = Me (Unit {0}) Knows

-- a draw takes the number found, and one of the allowance
abbrev pub drawn_by : Step (Unit {0}) → PassState → ℕ → PassState → Type 0
drawn_by step me n after =
    (me.0.allowance ≡ after.0.allowance + 1) × (times n me.0.drawn ≡ 0)
    × (after ≡ (knows me.0.opened after.0.allowance (me.0.drawn ++ n ∷ []) me.0.seen me.0.lowered, me.1))

-- the word found is at most each that the pass knew for the connection; a place is seen
pub record Sees (c : ℕ) (me : PassState) (n : ℕ) (after : PassState) : Type 0 where
  pub opening : n ≤ slice_index me.0.opened (c + 1)
  pub lowered : (p : ℕ) → 0 < marks c p me.0.lowered → (n ≤ p) × (p < past_places)
  pub seen : (p : ℕ) → 0 < marks c p me.0.seen → (n ≤ p) × (p < past_places)
  pub added : after ≡ (
    knows me.0.opened me.0.allowance me.0.drawn
        (if nat_lt n past_places then me.0.seen ++ (c, n) ∷ [] else me.0.seen) me.0.lowered,
    me.1,
  )

abbrev pub seen_by : Step (Unit {0}) → PassState → ℕ → PassState → Type 0
seen_by step me n after = (c : ℕ) → step.word ≡ c + 1 → Sees c me n after

abbrev pub Lowers : (c p : ℕ) → PassState → PassState → Type 0
Lowers c p me after =
    after ≡ (knows me.0.opened me.0.allowance me.0.drawn me.0.seen (me.0.lowered ++ (c, p) ∷ []), me.1)

abbrev pub lowered_by : Step (Unit {0}) → PassState → ℕ → PassState → Type 0
lowered_by step me n after = (c : ℕ) → step.word ≡ c + 1 → Lowers c step.first me after

-- a load that changes nothing tells that the allowance fits a word
abbrev pub learned_by : Step (Unit {0}) → PassState → ℕ → PassState → Type 0
learned_by step me n after = (me.0.allowance < 2 ^ 64) × (after ≡ me)

abbrev pub kept_part : (amount : ℕ) → Knows → Knows
kept_part amount v = knows v.opened (v.allowance - amount) v.drawn v.seen v.lowered

abbrev pub given_part : (amount : ℕ) → Knows → Knows
given_part amount v = knows v.opened amount [] [] []

abbrev pub joined : Knows → Knows → Knows
joined v w = knows v.opened (v.allowance + w.allowance) (v.drawn ++ w.drawn) (v.seen ++ w.seen) (v.lowered ++ w.lowered)

-- what is left of a pass that was joined into another
abbrev pub spent : Knows
spent = knows [] 0 [] [] []
