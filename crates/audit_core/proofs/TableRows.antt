-- The table of findings: each row has a number. What is said at one frame for one stream stands in rows of rising
-- numbers, and an error of the connection is said of one endpoint only.
use Rattle.std.proofs.Common.{◌≡◌, ℕ, ℤ, ◌^◌, ◌<◌, ◌≤◌, ◌==◌, Bool, true, false, ◌&&◌, ◌||◌, nat_le, nat_lt, List, []}
use Rattle.std.proofs.Common.{◌∷◌, ◌++◌, get_or, refl, sym, ap, ◌∙◌, subst, arith, Option, Some, None, if◌then◌else◌}
use borrow.Author.Tests.{leb-true, ltb-true}
use Rattle.audit_core.proofs.Words.{nat_tests, AllByRecursion, Side, Client, Server, Kind, Finding, other, is_side}
use Rattle.audit_core.proofs.Words.{rank_of, place_of, place_stream, place_rank, finding_at, say, say_of, stops}
use Rattle.audit_core.proofs.Words.{AreApart, StandApart, rank-small, and_parts, each-append, each-weaker}
use Rattle.audit_terms.proofs.Pairs.{across-by, pairs-append}

-- the row in which a rank is said of an endpoint, by rank: 0 to 4 local faults, 5 settings, 6 length, 7 the server's
-- push, 8 order of openings, 9 to 14 and 15 to 20 the connection windows of client and server, 21 to 23 what a frame
-- shows of its stream, 24 to 29 and 30 to 35 the stream windows of client and server. The server is told that it
-- grants 0 in a row of the client's window.
abbrev client_rows : List ℕ
client_rows =
    0 ∷ 1 ∷ 6 ∷ 2 ∷ 3 ∷ 3 ∷ 3 ∷ 4 ∷ 21 ∷ 8 ∷ 15 ∷ 10 ∷ 24 ∷ 6 ∷ 22 ∷ 11 ∷ 25 ∷ 23 ∷ 26
    ∷ 5 ∷ 3 ∷ 12 ∷ 13 ∷ 27 ∷ 28 ∷ 14 ∷ 29 ∷ []

abbrev server_rows : List ℕ
server_rows =
    0 ∷ 1 ∷ 6 ∷ 2 ∷ 3 ∷ 3 ∷ 3 ∷ 7 ∷ 21 ∷ 8 ∷ 9 ∷ 16 ∷ 30 ∷ 6 ∷ 22 ∷ 17 ∷ 31 ∷ 23 ∷ 32
    ∷ 5 ∷ 3 ∷ 18 ∷ 19 ∷ 33 ∷ 34 ∷ 20 ∷ 35 ∷ []

abbrev pub row_at : Side → (rank : ℕ) → ℕ
row_at Client rank = get_or client_rows rank 0
row_at Server rank = get_or server_rows rank 0

pub row_of : Finding → ℕ
row_of found = row_at found.side (place_rank found.place)

-- the endpoint of which an error of this rank is said at a frame of a sender: the sender, or, where a grant overflows
-- the connection window, the other one
abbrev pub error_side : (sender : Side) → (rank : ℕ) → Side
error_side sender rank = if rank == 11 then other sender else sender

-- a finding in one of the rows from low up to below high, for a stream of this sort
pub record IsRow (sender : Side) (on : ℕ → Type 0) (low high : ℕ) (x : Finding) : Type 0 where
  pub stream : on (place_stream x.place)
  pub from : low ≤ row_of x
  pub below : row_of x < high
  pub error : stops x ≡ true → x.side ≡ error_side sender (place_rank x.place)

-- findings in these rows, no two of one place and side
pub record AreRows (sender : Side) (on : ℕ → Type 0) (low high : ℕ) (xs : List Finding) : Type 0 where
  pub rising : low ≤ high
  pub within : AllByRecursion (IsRow sender on low high) xs
  pub apart : StandApart xs

same-row : (x y : Finding) → x.place ≡ y.place → x.side ≡ y.side → row_of x ≡ row_of y
unfolding row_of
same-row x y p s = cc

pub rows-apart : (by : Side) (on other : ℕ → Type 0) (low mid high : ℕ) (x y : Finding) →
    IsRow by on low mid x → IsRow by other mid high y → AreApart x y
rows-apart by on other low mid high x y p q e s = absurd (omega (arith, p.below, q.from, same-row x y e s))

-- ---- findings one after the other

module _ (sender : Side) (on : ℕ → Type 0) where
  pub rows-wider : (low high bottom top : ℕ) → bottom ≤ low → high ≤ top → (xs : List Finding) →
      AllByRecursion (IsRow sender on low high) xs → AllByRecursion (IsRow sender on bottom top) xs
  rows-wider low high bottom top p q =
      each-weaker (IsRow sender on low high) (IsRow sender on bottom top) (λ x h.
      record { stream = h.stream; from = omega (arith, h.from); below = omega (arith, h.below); error = h.error })

  pub rows-nil : (low high : ℕ) → low ≤ high → AreRows sender on low high []
  rows-nil low high p = record { rising = p; within = tt; apart = tt }

  pub rows-append : (low mid high : ℕ) (xs ys : List Finding) → AreRows sender on low mid xs →
      AreRows sender on mid high ys → AreRows sender on low high (xs ++ ys)
  rows-append low mid high xs ys a b =
      let p = a.rising in
      let q = b.rising in record {
        rising = omega arith;
        within = each-append (IsRow sender on low high) xs ys (rows-wider low mid low high (omega arith) q xs a.within)
            (rows-wider mid high low high p (omega arith) ys b.within);
        apart = pairs-append AreApart xs ys a.apart b.apart
            (across-by AreApart (IsRow sender on low mid) (IsRow sender on mid high)
            (rows-apart sender on on low mid high) xs ys a.within b.within);
      }

  pub rows-say_of : {A : Type 0} (low high : ℕ) (f : A → List Finding) (o : Option A) → low ≤ high →
      ((a : A) → AreRows sender on low high (f a)) → AreRows sender on low high (say_of f o)
  rows-say_of low high f None p h = rows-nil low high p
  rows-say_of low high f (Some a) p h = h a

infixl 20 ◌⊕◌
pub ◌⊕◌ : {sender : Side} {on : ℕ → Type 0} {low mid high : ℕ} {xs ys : List Finding} →
    AreRows sender on low mid xs → AreRows sender on mid high ys → AreRows sender on low high (xs ++ ys)
a ⊕ b = rows-append _ _ _ _ _ _ _ a b

-- ---- one finding

-- does this rank of this endpoint stand in the rows from low up to below high, and may it be an error?
abbrev pub is_row : (sender side : Side) → (rank low high : ℕ) → Bool
is_row sender side rank low high =
    (nat_le low (row_at side rank) && nat_lt (row_at side rank) high)
    && (nat_lt 12 rank || is_side side (error_side sender rank))

error-fits : (side right : Side) (rank : ℕ) → (nat_lt 12 rank || is_side side right) ≡ true → nat_le rank 12 ≡ true
    → side ≡ right
error-fits side right rank h e = grind (arith, nat_tests)

module _ (sender : Side) (on : ℕ → Type 0) (number stream : ℕ) (small : stream < 2 ^ 31) (here : on stream) where
  -- a finding that stands in these rows, if it is said
  pub row-say : (kind : Kind) (side : Side) (low high : ℕ) (value : ℤ) (holds : Bool) → low ≤ high →
      (holds ≡ true → is_row sender side (rank_of kind) low high ≡ true) →
      AreRows sender on low high (say holds (finding_at kind number stream side value))
  unfolding row_of
  row-say kind side low high value false p h = rows-nil sender on low high p
  row-say kind side low high value true p h =
      let few = rank-small kind in
      let rank : place_rank (place_of number (rank_of kind) stream) ≡ rank_of kind = omega arith in
      let its : place_stream (place_of number (rank_of kind) stream) ≡ stream = omega arith in
      let (rows, error) = and_parts _ _ (h refl) in
      let (from, below) = and_parts _ _ rows in record {
        rising = p;
        within = (
          record {
            stream = subst on (sym its) here;
            from = subst (λ r. low ≤ row_at side r) (sym rank) (leb-true low _ from);
            below = subst (λ r. row_at side r < high) (sym rank) (ltb-true _ high below);
            error = λ e. error-fits side _ (rank_of kind) error e ∙ ap (error_side sender) (sym rank);
          },
          tt,
        );
        apart = (tt, tt);
      }

  -- one that is said of the frame's sender, in the same rows for both endpoints
  pub told : (kind : Kind) (low high : ℕ) (value : ℤ) (holds : Bool) → nat_le low high ≡ true →
      (is_row Client Client (rank_of kind) low high && is_row Server Server (rank_of kind) low high) ≡ true →
      AreRows sender on low high (say holds (finding_at kind number stream sender value))
  told kind low high value holds p e = row-say kind sender low high value holds (leb-true low high p) (λ _. grind arith)

  -- one of an endpoint's window that is no error
  pub quiet : (row : Side → ℕ → ℕ) (d : Side) (kind : Kind) (low high : ℕ) (value : ℤ) (holds : Bool) →
      (nat_le (row Client low) (row Client high) && nat_le (row Server low) (row Server high)) ≡ true →
      (is_row sender Client (rank_of kind) (row Client low) (row Client high)
      && is_row sender Server (rank_of kind) (row Server low) (row Server high)) ≡ true →
      AreRows sender on (row d low) (row d high) (say holds (finding_at kind number stream d value))
  quiet row Client kind low high value holds p e =
      row-say kind Client _ _ value holds (leb-true _ _ (and_parts _ _ p).0) (λ _. (and_parts _ _ e).0)
  quiet row Server kind low high value holds p e =
      row-say kind Server _ _ value holds (leb-true _ _ (and_parts _ _ p).1) (λ _. (and_parts _ _ e).1)
