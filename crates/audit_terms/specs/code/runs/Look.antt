-- When a run looks for the stop of its connection, and what it leaves out past the answer. A run meets steps in order
-- of frame numbers: of a stream its frames and the changes that find a live window of it, of a block its frames. It
-- looks before its first step, and again before the next one after each 256 steps, for as long as its steps do not lie
-- past the last answer. A look is handed what is shown of the steps before it.
use Rattle.std.specs.Prelude.{◌≡◌, ℕ, ◌+◌, ◌*◌, Bool, true, false, nat_lt, nat_le, if◌then◌else◌, List, [], ◌∷◌, length}
use Rattle.std.specs.Prelude.{filter, slice_get, Option, Some, None}
use Rattle.std.specs.List.{list_any}
use Rattle.audit_terms.specs.declared.findings.Finding.{Finding}
use Rattle.audit_terms.specs.Place.{place_number}

-- one look: what it was handed, and the place that it answered
pub record Asked : Type 0 where
  pub handed : List Finding
  pub answer : Option ℕ

-- these looks, one after the other, bring the looker from one state to another
abbrev pub Looked : {L : Type 0} → (L → List Finding → Option ℕ → L → Type 0) → L → List Asked → L → Type 0
Looked answers before [] after = before ≡ after
Looked {L} answers before (asked ∷ rest) after =
    (between : L) × answers before asked.handed asked.answer between × Looked answers between rest after

-- the answer of the last of some looks, of which `first` was answered before
abbrev pub last_answer : (first : Option ℕ) → List Asked → Option ℕ
last_answer first [] = first
last_answer first (asked ∷ rest) = last_answer asked.answer rest

-- does a frame of this number lie past the stop?
abbrev pub is_past : (stop : Option ℕ) → (number : ℕ) → Bool
is_past None number = false
is_past (Some place) number = nat_lt (place_number place) number

-- the findings at frames before this number
abbrev pub found_before : (number : ℕ) → List Finding → List Finding
found_before number whole = filter (λ (found : Finding). nat_lt (place_number found.place) number) whole

-- the findings at or before a place, or all
abbrev pub up_to : (upto : Option ℕ) → List Finding → List Finding
up_to None whole = whole
up_to (Some place) whole = filter (λ (found : Finding). nat_le found.place place) whole

-- how many steps there are from one look to the next
abbrev pub steps_between : ℕ
steps_between = 256

-- the looks after the first `count`, the last of which was answered by `stop`: the next comes before the step after the
-- first 256 * count, if there is one and it does not lie past, and is handed what was found at frames before that step
abbrev pub LooksOn : (numbers : List ℕ) → (whole : List Finding) → (count : ℕ) → (stop : Option ℕ) → List Asked → Type 0
LooksOn numbers whole count stop [] =
    (number : ℕ) → slice_get numbers (steps_between * count) ≡ Some number → is_past stop number ≡ true
LooksOn numbers whole count stop (asked ∷ rest) =
    (number : ℕ) × (slice_get numbers (steps_between * count) ≡ Some number) × (is_past stop number ≡ false)
    × (asked.handed ≡ found_before number whole)
    × LooksOn numbers whole (count + 1) asked.answer rest

-- all looks of a run with steps of these numbers: the first comes before all steps, and is handed nothing
abbrev pub LooksInTime : (numbers : List ℕ) → (whole : List Finding) → List Asked → Type 0
LooksInTime numbers whole [] = ⊥
LooksInTime numbers whole (asked ∷ rest) = (asked.handed ≡ []) × LooksOn numbers whole 1 asked.answer rest

-- the place up to which a run goes: the last answer, if some step lies past it, and else the run is whole
abbrev pub upto_of : (numbers : List ℕ) → (stop : Option ℕ) → Option ℕ
upto_of numbers stop = if list_any (is_past stop) numbers then stop else None

-- how a run looked, whose steps have these numbers and would find `whole`: `looks` times, the last answer being
-- `last_look`; it went up to `upto`, and so found `kept`
pub record IsRun {L : Type 0} (answers : L → List Finding → Option ℕ → L → Type 0) (before after : L)
    (numbers : List ℕ) (whole kept : List Finding) (upto last_look : Option ℕ) (looks : ℕ) : Type 0 where
  pub asked : List Asked
  pub looked : Looked answers before asked after
  pub in_time : LooksInTime numbers whole asked
  pub count : length asked ≡ looks
  pub last : last_answer None asked ≡ last_look
  pub goes : upto ≡ upto_of numbers last_look
  pub found : kept ≡ up_to upto whole
