-- What an audit says of a frame, in which order, and where it stops.
use Rattle.std.specs.Prelude.{ℕ, ℤ, Bool, ◌||◌, not, List, [], ◌∷◌, filter, if◌then◌else◌, Option, Some, None}
use Rattle.std.specs.declared.cmp.Ordering.{Ordering}
use Rattle.std.specs.Ordering.{nat_cmp, int_cmp, then_cmp, on, is_gt}
use Rattle.audit_terms.specs.declared.sides.Side.{Side}
use Rattle.audit_terms.specs.declared.kinds.Kind.{Kind}
use Rattle.audit_terms.specs.declared.findings.Finding.{Finding}
use Rattle.audit_terms.specs.Side.{side_order}
use Rattle.audit_terms.specs.Kind.{rank_of, is_connection_error, is_credit}
use Rattle.audit_terms.specs.Place.{place_of}
use Rattle.audit_terms.specs.Order.{ordered_by}

-- a finding of this kind at a frame's number and a stream, of this endpoint
abbrev pub finding_at : (kind : Kind) (number stream : ℕ) → Side → ℤ → Finding
finding_at kind number stream side value = record {
  place = place_of number (rank_of kind) stream;
  side = side;
  kind = kind;
  value = value;
}

-- one finding where a test holds, else nothing: a row of the table of findings
abbrev pub say : Bool → Finding → List Finding
say holds found = if holds then found ∷ [] else []

-- what is said of a value, where there is one
abbrev pub say_of : {A : Type 0} → (A → List Finding) → Option A → List Finding
say_of said None = []
say_of said (Some a) = said a

-- connection errors stop the audit of a connection (RFC 9113, 5.4.1)
abbrev pub stops : Finding → Bool
stops found = is_connection_error found.kind

-- in order of place, then the client before the server; kind and value make the order total
abbrev pub finding_cmp : Finding → Finding → Ordering
finding_cmp =
    then_cmp (on (λ (found : Finding). found.place) nat_cmp)
    (then_cmp (on (λ (found : Finding). side_order found.side) nat_cmp)
    (then_cmp (on (λ (found : Finding). rank_of found.kind) nat_cmp)
    (on (λ (found : Finding). found.value) int_cmp)))

-- does the first finding stand after the second?
abbrev pub comes_after : Finding → Finding → Bool
comes_after x y = is_gt (finding_cmp x y)

-- the same findings, in order
abbrev pub in_order : List Finding → List Finding
in_order = ordered_by comes_after

-- the findings up to and including the first that stops, or all where none does
abbrev pub upto_stop : List Finding → List Finding
upto_stop [] = []
upto_stop (x ∷ xs) = if stops x then x ∷ [] else x ∷ upto_stop xs

-- is it shown, where credits are shown or are not?
abbrev pub is_shown : (frames_shown : Bool) → Finding → Bool
is_shown frames_shown found = frames_shown || not (is_credit found.kind)

-- the findings that are shown
abbrev pub shown : (frames_shown : Bool) → List Finding → List Finding
shown frames_shown found = filter (is_shown frames_shown) found
