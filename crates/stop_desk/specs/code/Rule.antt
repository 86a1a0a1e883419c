-- The rule of a desk's table: a fact about its words and the views of all passes, which each step on a word keeps.
-- Word 0 is the next number to draw, and word c + 1 the stop of connection c.
use Rattle.std.specs.Prelude.{◌≡◌, ℕ, ◌+◌, ◌^◌, ◌<◌, ◌≤◌, ◌⊎◌, List, [], length, slice_index}
use mathlib.Core.Option.{some}
use lib.ListN.{get_elem?}
use Rattle.atomic_table.specs.Table.{State}
use Rattle.stop_desk.specs.declared.rule.Knows.{Knows}
use Rattle.stop_desk.specs.declared.rule.Opening.{Opening}
use Rattle.stop_desk.specs.code.Counts.{weigh, times, once_below, marks}
use Rattle.audit_terms.specs.code.Places.{past_places}

abbrev pub knows : (opened : List ℕ) → (allowance : ℕ) → (drawn : List ℕ) → (seen lowered : List (ℕ × ℕ)) → Knows
knows opened allowance drawn seen lowered =
    record { opened = opened; allowance = allowance; drawn = drawn; seen = seen; lowered = lowered }

abbrev pub allowance_in : Knows → ℕ
allowance_in v = v.allowance

abbrev pub draws_in : Knows → ℕ
draws_in v = length v.drawn

-- what a pass has of all draws: those that it made and those that it may still make
abbrev pub share : Knows → ℕ
share v = length v.drawn + v.allowance

abbrev pub drawn_in : ℕ → Knows → ℕ
drawn_in x v = times x v.drawn

abbrev pub seen_in : (c p : ℕ) → Knows → ℕ
seen_in c p v = marks c p v.seen

abbrev pub lowered_in : (c p : ℕ) → Knows → ℕ
lowered_in c p v = marks c p v.lowered

-- each number below word 0 was drawn once, and what is left of the whole lies in the allowances
pub record Dealt (whole : ℕ) (words : List ℕ) (views : List Knows) : Type 0 where
  pub in_word : whole < 2 ^ 64
  pub some_word : 0 < length words
  pub whole_is : slice_index words 0 + weigh allowance_in views ≡ whole
  pub lengths : weigh draws_in views ≡ slice_index words 0
  pub each_once : (x : ℕ) → weigh (drawn_in x) views ≡ once_below x (slice_index words 0)

-- p is the word that the desk was opened with for connection c, or was lowered there
abbrev pub IsGivenOnDesk : (opened : List ℕ) → List Knows → (c p : ℕ) → Type 0
IsGivenOnDesk opened views c p = (p ≡ slice_index opened (c + 1)) ⊎ (0 < weigh (lowered_in c p) views)

-- each stop word is the least of what was given, and what was seen was given and is not below it
pub record Stops (opened words : List ℕ) (views : List Knows) : Type 0 where
  pub wide : length words ≡ length opened
  pub below_opening : (c : ℕ) → slice_index words (c + 1) ≤ slice_index opened (c + 1)
  pub below_lowered : (c p : ℕ) → 0 < weigh (lowered_in c p) views → (slice_index words (c + 1) ≤ p) × (p < past_places)
  pub below_seen : (c p : ℕ) → 0 < weigh (seen_in c p) views
      → (slice_index words (c + 1) ≤ p) × (p < past_places) × IsGivenOnDesk opened views c p
  pub reached : (c : ℕ) → IsGivenOnDesk opened views c (slice_index words (c + 1))

-- a pass with no share was joined away and knows nothing; any other knows what the desk was opened with
pub record Fits (opened : List ℕ) (v : Knows) : Type 0 where
  pub idle : share v ≡ 0 → (v.seen ≡ []) × (v.lowered ≡ [])
  pub knowing : 0 < share v → v.opened ≡ opened

abbrev pub Kept : (whole : ℕ) → (opened words : List ℕ) → List Knows → Type 0
Kept whole opened words views =
    Dealt whole words views × Stops opened words views
    × ((id : ℕ) (v : Knows) → get_elem? views id ≡ some v → Fits opened v)

abbrev pub Holds : Opening → State (Unit {0}) Knows → Type 0
Holds o s = Kept o.whole o.words.items s.words s.views

-- the first pass
abbrev pub opening_view : Opening → Knows
opening_view o = knows o.words.items o.whole [] [] []
