-- A worked example: a window of 65,535 bytes is used up, 1 byte is granted, 1 byte is sent.
use Rattle.std.specs.Prelude.{◌≡◌, ℕ, ℤ, pos, neg_ℤ, ◌+ℤ◌, List, [], ◌∷◌, ◌++◌, length, map, take}
use Rattle.conn_scan.specs.code.Summary.{summary_of}
use Rattle.conn_scan.specs.code.List.{after_all}
use Rattle.conn_scan.specs.declared.credits.Credit.{Credit}
use Rattle.conn_scan.specs.code.Credit.{total, high, low, no_change, one_change, credit_join, credit_advance}

abbrev pub first_changes : List ℤ
first_changes = neg_ℤ (pos 65535) ∷ pos 1 ∷ []

abbrev pub last_changes : List ℤ
last_changes = neg_ℤ (pos 1) ∷ []

-- the credit after the first changes, so many of them
abbrev pub credit_at : (count : ℕ) → ℤ
credit_at count = after_all ◌+ℤ◌ (pos 65535) (take count (first_changes ++ last_changes))

-- the credit after each change
abbrev pub StatesFound : Type 0
StatesFound = map credit_at (1 ∷ 2 ∷ 3 ∷ []) ≡ pos 0 ∷ pos 1 ∷ pos 0 ∷ []

-- the summary of blocks of two changes: the first falls to 0 though its sum is not its least prefix
abbrev pub FirstSumFound : Type 0
FirstSumFound =
    ◌≡◌ {A = Credit} (summary_of no_change one_change credit_join first_changes)
    (record { sum = neg_ℤ (pos 65534); high = pos 0; low = neg_ℤ (pos 65535) })

abbrev pub LastSumFound : Type 0
LastSumFound =
    ◌≡◌ {A = Credit} (summary_of no_change one_change credit_join last_changes)
    (record { sum = neg_ℤ (pos 1); high = pos 0; low = neg_ℤ (pos 1) })

-- of a change and later ones: how many they are, their sum, and the greatest and the least sum of the first of them.
-- A summary counts the sum of none among these, which is 0.
abbrev pub sums_from : ℤ → List ℤ → ℕ × ℤ × ℤ × ℤ
sums_from change later =
    (length (change ∷ later), total (change ∷ later), change +ℤ high later, change +ℤ low later)

abbrev pub FirstCountFound : Type 0
FirstCountFound =
    sums_from (neg_ℤ (pos 65535)) (pos 1 ∷ [])
    ≡ (2, neg_ℤ (pos 65534), neg_ℤ (pos 65534), neg_ℤ (pos 65535))

abbrev pub LastCountFound : Type 0
LastCountFound = sums_from (neg_ℤ (pos 1)) [] ≡ (1, neg_ℤ (pos 1), neg_ℤ (pos 1), neg_ℤ (pos 1))

-- the credit before the block behind these changes, moved past their summary
abbrev pub credit_behind : List ℤ → ℤ
credit_behind changes = credit_advance (pos 65535) (summary_of no_change one_change credit_join changes)

-- the credit before each block
abbrev pub CarriesFound : Type 0
CarriesFound = map credit_behind ([] ∷ first_changes ∷ []) ≡ pos 65535 ∷ pos 1 ∷ []
