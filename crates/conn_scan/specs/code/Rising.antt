-- Identifiers of opened streams, which rise (RFC 9113, 5.1.1).
use Rattle.std.specs.Prelude.{ℕ, min, max, Bool, true, false, ◌&&◌, nat_lt, if◌then◌else◌, List, [], ◌∷◌, Option, Some}
use Rattle.std.specs.Prelude.{None}
use Rattle.conn_scan.specs.declared.rising.Rising.{Rising}

-- is there none?
abbrev pub is_empty : List ℕ → Bool
is_empty [] = true
is_empty (_ ∷ _) = false

-- the least of some identifiers, 0 of none
abbrev pub least_of : List ℕ → ℕ
least_of [] = 0
least_of (x ∷ []) = x
least_of (x ∷ y ∷ xs) = min x (least_of (y ∷ xs))

-- the greatest of some identifiers, 0 of none
abbrev pub greatest_of : List ℕ → ℕ
greatest_of [] = 0
greatest_of (x ∷ xs) = max x (greatest_of xs)

-- each identifier is below all later ones
abbrev pub rise : List ℕ → Bool
rise [] = true
rise (x ∷ []) = true
rise (x ∷ y ∷ xs) = nat_lt x (least_of (y ∷ xs)) && rise (y ∷ xs)

-- the identifiers that are there
abbrev pub present : List (Option ℕ) → List ℕ
present [] = []
present (None ∷ xs) = present xs
present (Some x ∷ xs) = x ∷ present xs

-- the summary of some identifiers
abbrev pub rising_of : List ℕ → Rising
rising_of xs = record { none = is_empty xs; least = least_of xs; greatest = greatest_of xs; rises = rise xs }

abbrev pub no_identifier : Rising
no_identifier = record { none = true; least = 0; greatest = 0; rises = true }

abbrev pub one_identifier : ℕ → Rising
one_identifier x = record { none = false; least = x; greatest = x; rises = true }

-- the identifiers of one summary, and then those of another
abbrev pub rising_join : Rising → Rising → Rising
rising_join a b =
    if a.none then b
    else if b.none then a
    else record {
      none = false;
      least = min a.least b.least;
      greatest = max a.greatest b.greatest;
      rises = nat_lt a.greatest b.least && (a.rises && b.rises);
    }

-- the identifiers of a summary, and then one more, if there is one
abbrev pub rising_met : Rising → Option ℕ → Rising
rising_met a None = a
rising_met a (Some x) = rising_join a (one_identifier x)
