-- What is said at a frame has the frame's number, and what has a lower number stands before.
use Rattle.std.proofs.Common.{Bool, List, None, Some, [], pos, refl, sym, true, ℕ, ℤ, ◌*◌, ◌+◌, ◌<◌, ◌^◌, ◌∷◌, ◌≡◌, ◌≤◌}
use Rattle.std.proofs.Common.{Option, arith, false, if◌then◌else◌, ◌++◌}
use Rattle.std.proofs.lemmas.Bool.{Decides.nat_tests}
use Rattle.std.specs.{Cmp.nat_cmp_is, List.AllByRecursion, declared.cmp.Ordering.TheVariants.Less}
use Rattle.audit_terms.proofs.{FindingOrder.comes_after_is, OrderedLists.NoneBefore, OrderedLists.Precedes}
use Rattle.audit_terms.specs.{InForce.InForce, InForce.settings_said, Place.place_number, Stream.WindowStep}
use Rattle.audit_terms.specs.{Kind.rank_of, Order.put_by, code.runs.Look.found_before, code.runs.Orderly.IsInRange}
use Rattle.audit_terms.specs.Connection.{connection_said, connection_window_said, connection_windows_said}
use Rattle.audit_terms.specs.Finding.{comes_after, finding_at, in_order, say, say_of}
use Rattle.audit_terms.specs.LocalFault.{body_said, fault, local_said, reading_fault}
use Rattle.audit_terms.specs.Stream.{frame_said, live_window_said, opened_window_said, stream_said, stream_window_said}
use Rattle.audit_terms.specs.declared.{connection_state.ConnectionState.ConnectionState, stream_state.Stream.Stream}
use Rattle.audit_terms.specs.declared.{findings.Finding.Finding, frames.Frame.Frame}
use Rattle.audit_terms.specs.declared.{items.Item.Item, items.Step.Step, kinds.Kind.Kind}
use Rattle.audit_terms.specs.declared.frames.Body.{Body, TheVariants.Settings as SettingsBody, TheVariants.Unreadable}
use Rattle.audit_terms.specs.declared.sides.{Side.Side, Side.TheVariants.Client, Side.TheVariants.Server, Sides.Sides}
use Rattle.audit_terms.specs.declared.kinds.Kind.TheVariants as K

-- all places from low up to below high
abbrev pub AreWithin : (low high : ℕ) → List Finding → Type 0
AreWithin low high [] = Unit {0}
AreWithin low high (x ∷ xs) = (low ≤ x.place) × (x.place < high) × AreWithin low high xs

-- the places of a frame's number
pub record AreAt (number : ℕ) (xs : List Finding) : Type 0 where
  pub within : AreWithin (number * 2 ^ 36) (number * 2 ^ 36 + 2 ^ 36) xs

within-append : (low high : ℕ) (xs ys : List Finding) → AreWithin low high xs → AreWithin low high ys →
    AreWithin low high (xs ++ ys)
within-append low high [] ys p q = q
within-append low high (x ∷ xs) ys p q = (p.0, p.1, within-append low high xs ys p.2 q)

pub at-append : (n : ℕ) (xs ys : List Finding) → AreAt n xs → AreAt n ys → AreAt n (xs ++ ys)
at-append n xs ys p q = record { within = within-append (n * 2 ^ 36) (n * 2 ^ 36 + 2 ^ 36) xs ys p.within q.within }

within-put : (low high : ℕ) (x : Finding) (xs : List Finding) → low ≤ x.place → x.place < high → AreWithin low high xs →
    AreWithin low high (put_by comes_after x xs)
within-put low high x [] p q h = (p, q, tt)
within-put low high x (y ∷ ys) p q h = grind (arith, nat_tests, within-put low high x ys p q h.2, h.0, h.1, h.2)

within-in_order : (low high : ℕ) (xs : List Finding) → AreWithin low high xs → AreWithin low high (in_order xs)
within-in_order low high [] h = tt
within-in_order low high (x ∷ xs) h = within-put low high x (in_order xs) h.0 h.1 (within-in_order low high xs h.2)

pub at-in_order : (n : ℕ) (xs : List Finding) → AreAt n xs → AreAt n (in_order xs)
at-in_order n xs h = record { within = within-in_order _ _ xs h.within }

pub at-nil : (n : ℕ) → AreAt n []
at-nil n = record { within = tt }

at-cons : (n : ℕ) (x : Finding) (xs : List Finding) → n * 2 ^ 36 ≤ x.place → x.place < n * 2 ^ 36 + 2 ^ 36 →
    AreAt n xs → AreAt n (x ∷ xs)
at-cons n x xs p q h = record { within = (p, q, h.within) }

pub rank-small : (kind : Kind) → rank_of kind ≤ 26
rank-small kind = grind arith

pub at-finding : (kind : Kind) (n stream : ℕ) (side : Side) (value : ℤ) (xs : List Finding) → stream < 2 ^ 31 →
    AreAt n xs → AreAt n (finding_at kind n stream side value ∷ xs)
at-finding kind n stream side value xs h rest =
    let r = rank-small kind in at-cons n (finding_at kind n stream side value) xs (omega arith) (omega arith) rest

-- a row of the table of findings
pub at-say : (kind : Kind) (n stream : ℕ) (side : Side) (value : ℤ) (holds : Bool) → stream < 2 ^ 31 →
    AreAt n (say holds (finding_at kind n stream side value))
at-say kind n stream side value true h = at-finding kind n stream side value [] h (at-nil n)
at-say kind n stream side value false h = at-nil n

pub at-say_of : {A : Type 0} (n : ℕ) (f : A → List Finding) (o : Option A) → ((a : A) → AreAt n (f a)) →
    AreAt n (say_of f o)
at-say_of n f None h = at-nil n
at-say_of n f (Some a) h = h a

pub at-choice : (n : ℕ) (b : Bool) (xs ys : List Finding) → AreAt n xs → AreAt n ys → AreAt n (if b then xs else ys)
at-choice n true xs ys p q = p
at-choice n false xs ys p q = q

zero-small : 0 < 2 ^ 31
zero-small = omega arith

-- what is said of a frame by itself
module _ (frame : Frame) (h : frame.stream < 2 ^ 31) where
  at-fault : (kind : Kind) (value : ℕ) → AreAt frame.number (fault kind frame value ∷ [])
  at-fault kind value = at-finding kind frame.number frame.stream frame.side (pos value) [] h (at-nil _)

  at-reading_fault : (kind : Kind) (value : ℕ) → AreAt frame.number (reading_fault kind frame value)
  at-reading_fault K.WrongSize = at-fault K.WrongSize
  at-reading_fault K.BadPadding = at-fault K.BadPadding
  at-reading_fault K.BadPriority = at-fault K.BadPriority
  at-reading_fault _ = λ value. at-nil _

  at-body : (body : Body) → AreAt frame.number (body_said frame body)
  at-body (Unreadable kind value) = at-reading_fault kind value
  at-body (SettingsBody words) = at-say_of frame.number _ words.bad (at-fault K.BadSetting)
  at-body _ = at-nil _

  pub at-local : (previous : Option Frame) → AreAt frame.number (local_said previous frame)
  at-local previous = search (at-append, at-say, at-body, h) depth 12

  pub at-settings : (now : InForce) → AreAt frame.number (settings_said now frame)
  at-settings now = search (at-say, h)

  at-connection_window : (d : Side) (before : ℤ) → AreAt frame.number (connection_window_said d before frame)
  at-connection_window d before = search (at-append, at-say, zero-small) depth 12

  pub at-connection_windows : (credit : Sides ℤ) → AreAt frame.number (connection_windows_said credit frame)
  at-connection_windows credit =
      at-append frame.number _ _ (at-connection_window Client credit.client) (at-connection_window Server credit.server)

pub at-connection : (now : ConnectionState) (item : Item) → IsInRange item.frame →
    AreAt item.frame.number (connection_said now item)
at-connection now item h =
    search (at-append, at-say, at-connection_windows, h.stream, h.promised) depth 12

-- what is said of a stream
module _ (stream : ℕ) (initial : Sides ℕ) (entry : Stream) (step : Step) (h : stream < 2 ^ 31) where
  at-frame : (frame : Frame) → AreAt step.number (frame_said stream entry step frame)
  at-frame frame = search (at-append, at-say, h) depth 12

  at-live_window : (d : Side) (window : WindowStep) → AreAt step.number (live_window_said d stream step window)
  at-live_window d window = search (at-append, at-say, h) depth 12

  at-opened_window : (d : Side) (credit : ℤ) → AreAt step.number (opened_window_said d stream step credit)
  at-opened_window d credit = search (at-append, at-say, at-finding, at-nil, h) depth 12

  at-stream_window : (d : Side) → AreAt step.number (stream_window_said d stream initial entry step)
  at-stream_window d = search (at-choice, at-say_of, at-opened_window, at-live_window) depth 12

  pub at-stream : AreAt step.number (stream_said stream initial entry step)
  at-stream = search (at-append, at-say_of, at-frame, at-stream_window) depth 12

-- all places at or above a frame's number
abbrev pub AreFrom : (number : ℕ) → List Finding → Type 0
AreFrom number [] = Unit {0}
AreFrom number (x ∷ xs) = (number * 2 ^ 36 ≤ x.place) × AreFrom number xs

pub from-at : (low n : ℕ) (xs : List Finding) → low ≤ n → AreWithin (n * 2 ^ 36) (n * 2 ^ 36 + 2 ^ 36) xs →
    AreFrom low xs
from-at low n [] p h = tt
from-at low n (x ∷ xs) p h = (omega arith, from-at low n xs p h.2)

pub from-from : (low high : ℕ) (xs : List Finding) → low ≤ high → AreFrom high xs → AreFrom low xs
from-from low high [] p h = tt
from-from low high (x ∷ xs) p h = (omega arith, from-from low high xs p h.1)

pub from-append : (low : ℕ) (xs ys : List Finding) → AreFrom low xs → AreFrom low ys → AreFrom low (xs ++ ys)
from-append low [] ys p q = q
from-append low (x ∷ xs) ys p q = (p.0, from-append low xs ys p.1 q)

-- a lower place stands before
pub comes_after-below : (x y : Finding) → x.place < y.place → comes_after x y ≡ false
comes_after-below x y h = rw (sym (nat_cmp_is x.place y.place Less h)) refl

none_before-from : (n : ℕ) (x : Finding) (ys : List Finding) → x.place < n * 2 ^ 36 + 2 ^ 36 → AreFrom (n + 1) ys →
    NoneBefore comes_after comes_after_is x ys
none_before-from n x [] p h = tt
none_before-from n x (y ∷ ys) p h = (comes_after-below x y (omega arith), none_before-from n x ys p h.1)

-- what is at a number stands before all from the next number on
pub precedes-at : (n : ℕ) (xs ys : List Finding) → AreWithin (n * 2 ^ 36) (n * 2 ^ 36 + 2 ^ 36) xs →
    AreFrom (n + 1) ys → Precedes comes_after comes_after_is xs ys
precedes-at n [] ys p h = tt
precedes-at n (x ∷ xs) ys p h = (none_before-from n x ys p.1 h, precedes-at n xs ys p.2 h)

-- ---- by the frame numbers of places

-- what stands at a number has it in its places
pub numbered-at : (n : ℕ) (xs : List Finding) → AreAt n xs
    → AllByRecursion (λ (one : Finding). place_number one.place ≡ n) xs
numbered-at n xs h = by_place xs h.within where
  by_place : (xs : List Finding) → AreWithin (n * 2 ^ 36) (n * 2 ^ 36 + 2 ^ 36) xs
      → AllByRecursion (λ (one : Finding). place_number one.place ≡ n) xs
  by_place [] h = tt
  by_place (x ∷ xs) h = (omega arith, by_place xs h.2)

-- the finding stands at a frame below this number
abbrev pub IsBelow : ℕ → Finding → Type 0
IsBelow number found = place_number found.place < number

-- the finding stands at a frame of this number or above
abbrev pub IsFrom : ℕ → Finding → Type 0
IsFrom number found = number ≤ place_number found.place

none-before : (number : ℕ) (a : List Finding) → AllByRecursion (IsFrom number) a → found_before number a ≡ []
none-before number [] h = refl
none-before number (x ∷ a) h = grind (arith, nat_tests, h.0, none-before number a h.1)

-- what stands before a frame, of what stands below it and what does not
pub before-front : (low number : ℕ) (a b : List Finding) → low ≤ number → AllByRecursion (IsBelow low) a
    → AllByRecursion (IsFrom number) b → found_before number (a ++ b) ≡ a
before-front low number [] b le h k = none-before number b k
before-front low number (x ∷ a) b le h k = grind (arith, nat_tests, h.0, before-front low number a b le h.1 k)
