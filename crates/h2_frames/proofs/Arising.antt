-- The frames of a side, where more bytes of it came.
use Rattle.std.proofs.Common.{◌≡◌, ℕ, ◌+◌, ◌-◌, ◌<◌, ◌≤◌, List, [], ◌∷◌, ◌++◌, length, refl, ap, ap₂, sym}
use Rattle.std.proofs.Common.{subst, ◌∙◌, arith, append_assoc, length-append, inl, inr}
use Rattle.std.proofs.lemmas.Bool.{cases_lt, le-ltb, lt-ltb}
use Rattle.h2_frames.proofs.Cutters.{none_fits}
use Rattle.h2_frames.proofs.Fronts.{header_of-append}
use Rattle.h2_frames.proofs.Words.{Arrival, Header, HoldsNoFrame, Side, SideFrame, Spelled, Spells}
use Rattle.h2_frames.proofs.Words.{byte_arrival, captured, captured_from, header_of}
use Rattle.h2_frames.specs.code.Connection.{IsReached, ReachFrom}
use Rattle.h2_frames.specs.code.Fed.{Fed, with_more}
use Rattle.h2_frames.proofs.Feeding.{spells-tail}
use Rattle.h2_frames.specs.laws.Feeding.{FedGrows, HasGrown}

-- how many bytes frames take
abbrev pub size_of : List Spelled → ℕ
size_of [] = 0
size_of (s ∷ later) = 9 + s.header.length + size_of later

pub spells-size : (bytes tail : List ℕ) (xs : List Spelled) → Spells bytes xs tail
    → length bytes ≡ size_of xs + length tail
spells-size bytes tail [] spells = omega (arith, ap length spells.0)
spells-size bytes tail (x ∷ xs) spells =
    let (header, payload, rest, split, makes, later) = spells in
    omega (
      arith,
      spells-size rest tail xs later,
      ap length split,
      length-append (header ++ payload) rest,
      length-append header payload,
      makes.nine,
      makes.whole,
    )

-- a frame that begins in the tail ends behind it
abbrev pub EndsBehind : (tail : ℕ) → List Spelled → Type 0
EndsBehind tail [] = Unit {0}
EndsBehind tail (s ∷ later) = tail < 9 + s.header.length

pub ends_behind : (tail more end : List ℕ) (xs : List Spelled) → HoldsNoFrame tail → Spells (tail ++ more) xs end
    → EndsBehind (length tail) xs
ends_behind tail more end [] none spells = tt
ends_behind tail more end (x ∷ xs) none spells =
    let (header, payload, rest, split, makes, later) = spells in
    elim (cases_lt (length tail) 9) [
      | inl short ↦ omega (arith, short)
      | inr long ↦
          let same : header_of tail ≡ x.header =
          sym (header_of-append tail more long) ∙ ap header_of (split ∙ append_assoc header payload rest)
          ∙ header_of-append header (payload ++ rest) (omega (arith, makes.nine)) ∙ sym makes.header_is in
          omega (arith, none_fits tail none long, ap (λ (h : Header). h.length) same)
    ]

-- later frames of a side, where they are
pub captured_from-append : (side : Side) (arrivals : List Arrival) (n offset : ℕ) (xs ys : List Spelled)
    → captured_from side arrivals n offset (xs ++ ys)
    ≡ captured_from side arrivals n offset xs
    ++ captured_from side arrivals (n + length xs) (offset + size_of xs) ys
captured_from-append side arrivals n offset [] ys =
    ap₂ (λ (m o : ℕ). captured_from side arrivals m o ys) (let e : n ≡ n + 0 = omega arith in e)
    (let e : offset ≡ offset + 0 = omega arith in e)
captured_from-append side arrivals n offset (x ∷ xs) ys =
    let upto = offset + (9 + x.header.length) in
    let count : n + 1 + length xs ≡ n + length (x ∷ xs) = omega arith in
    let size : upto + size_of xs ≡ offset + size_of (x ∷ xs) = omega arith in
    ap (λ l. captured side n (byte_arrival arrivals (upto - 1)) x ∷ l)
    (captured_from-append side arrivals (n + 1) upto xs ys
    ∙ ap₂ (λ (m o : ℕ). captured_from side arrivals (n + 1) upto xs ++ captured_from side arrivals m o ys) count size)

pub captured_from-length : (side : Side) (arrivals : List Arrival) (n offset : ℕ) (xs : List Spelled)
    → length (captured_from side arrivals n offset xs) ≡ length xs
captured_from-length side arrivals n offset [] = refl
captured_from-length side arrivals n offset (x ∷ xs) =
    omega (arith, captured_from-length side arrivals (n + 1) (offset + (9 + x.header.length)) xs)

reach-le : (low high : ℕ) (arrivals : List Arrival) → ReachFrom low arrivals high → low ≤ high
reach-le low high [] reach = omega (arith, reach)
reach-le low high (a ∷ later) reach = omega (arith, reach.0, reach-le a.upto high later reach.1)

-- one more arrival
pub reach-more : (low high : ℕ) (arrivals : List Arrival) (a : Arrival) → ReachFrom low arrivals high → high ≤ a.upto
    → ReachFrom low (arrivals ++ a ∷ []) a.upto
reach-more low high [] a reach le = (omega (arith, reach, le), refl)
reach-more low high (b ∷ later) a reach le = (reach.0, reach-more b.upto high later a reach.1 le)

-- a byte that was there arrives as it did
pub same-arrival : (low high o : ℕ) (arrivals : List Arrival) (a : Arrival) → ReachFrom low arrivals high → low ≤ o
    → o < high → byte_arrival (arrivals ++ a ∷ []) o ≡ byte_arrival arrivals o
same-arrival low high o [] a reach ge lt = absurd (omega (arith, reach, ge, lt))
same-arrival low high o (b ∷ later) a reach ge lt =
    elim (cases_lt o b.upto) [
      | inl first ↦ rw (lt-ltb o b.upto first) refl
      | inr past ↦ rw (le-ltb o b.upto past) (same-arrival b.upto high o later a reach.1 past lt)
    ]

-- a new one arrives with the last
pub new-arrival : (low high o : ℕ) (arrivals : List Arrival) (a : Arrival) → ReachFrom low arrivals high → high ≤ o
    → o < a.upto → byte_arrival (arrivals ++ a ∷ []) o ≡ a
new-arrival low high o [] a reach ge lt = rw (lt-ltb o a.upto lt) refl
new-arrival low high o (b ∷ later) a reach ge lt =
    rw (le-ltb o b.upto (omega (arith, reach-le b.upto high later reach.1, ge)))
    (new-arrival b.upto high o later a reach.1 ge lt)

same-frames : (side : Side) (high : ℕ) (arrivals : List Arrival) (a : Arrival) → ReachFrom 0 arrivals high
    → (n offset : ℕ) (xs : List Spelled) → offset + size_of xs ≤ high
    → captured_from side (arrivals ++ a ∷ []) n offset xs ≡ captured_from side arrivals n offset xs
same-frames side high arrivals a reach n offset [] fits = refl
same-frames side high arrivals a reach n offset (x ∷ xs) fits =
    let upto = offset + (9 + x.header.length) in
    ap₂ (λ (b : Arrival) (l : List SideFrame). captured side n b x ∷ l)
    (same-arrival 0 high (upto - 1) arrivals a reach (omega arith) (omega (arith, fits)))
    (same-frames side high arrivals a reach (n + 1) upto xs (omega (arith, fits)))

-- frames that one arrival brings
abbrev pub brought_from : Side → Arrival → ℕ → List Spelled → List SideFrame
brought_from side a n [] = []
brought_from side a n (x ∷ xs) = captured side n a x ∷ brought_from side a (n + 1) xs

new-frames : (side : Side) (high : ℕ) (arrivals : List Arrival) (a : Arrival) → ReachFrom 0 arrivals high
    → (n offset tail : ℕ) (xs : List Spelled) → high ≤ offset + tail → EndsBehind tail xs
    → offset + size_of xs ≤ a.upto → captured_from side (arrivals ++ a ∷ []) n offset xs ≡ brought_from side a n xs
new-frames side high arrivals a reach n offset tail [] ge ends fits = refl
new-frames side high arrivals a reach n offset tail (x ∷ xs) ge ends fits =
    let upto = offset + (9 + x.header.length) in
    ap₂ (λ (b : Arrival) (l : List SideFrame). captured side n b x ∷ l)
    (new-arrival 0 high (upto - 1) arrivals a reach (omega (arith, ge, ends)) (omega (arith, fits)))
    (new-frames side high arrivals a reach (n + 1) upto 0 xs (omega (arith, ge, ends)) (behind xs)
    (omega (arith, fits)))
  where
    behind : (ys : List Spelled) → EndsBehind 0 ys
    behind [] = tt
    behind (y ∷ ys) = omega arith

-- a side's frames where more bytes came: those that were there, and those that the bytes complete
pub side_grows : (side : Side) (fed : Fed) (rec nanos start : ℕ) (bytes rest more tail end : List ℕ)
    (xs ys : List Spelled) → IsReached fed → Spells rest xs tail → Spells (tail ++ more) ys end
    → (0 < length xs → start + length rest ≤ length fed.bytes) → length fed.bytes ≤ start + length rest
    → start + length rest + length more ≤ length fed.bytes + length bytes
    → captured_from side (with_more fed bytes rec nanos).arrivals 1 start (xs ++ ys)
    ≡ captured_from side fed.arrivals 1 start xs
    ++ brought_from side (record { upto = length fed.bytes + length bytes; rec = rec; nanos = nanos }) (1 + length xs)
    ys
side_grows side fed rec nanos start bytes rest more tail end xs ys reached spells later low high fits =
    let a : Arrival = record { upto = length fed.bytes + length bytes; rec = rec; nanos = nanos } in
    let first : length rest ≡ size_of xs + length tail = spells-size rest tail xs spells in
    let then : length tail + length more ≡ size_of ys + length end =
    sym (length-append tail more) ∙ spells-size (tail ++ more) end ys later in
    captured_from-append side (fed.arrivals ++ a ∷ []) 1 start xs ys
    ∙ ap₂ (λ (l m : List SideFrame). l ++ m) (old xs (λ some. omega (arith, low some, first)))
    (new-frames side (length fed.bytes) fed.arrivals a reached (1 + length xs) (start + size_of xs) (length tail) ys
    (omega (arith, high, first)) (ends_behind tail more end ys (spells-tail rest tail xs spells) later)
    (omega (arith, first, then, fits)))
  where
    old : (zs : List Spelled) → (0 < length zs → start + size_of zs ≤ length fed.bytes)
        → captured_from side (with_more fed bytes rec nanos).arrivals 1 start zs
        ≡ captured_from side fed.arrivals 1 start zs
    old [] h = refl
    old (z ∷ zs) h = same-frames side (length fed.bytes) fed.arrivals _ reached 1 start (z ∷ zs) (h (omega arith))

-- frames are captured by the record and the time of their last byte alone
pub same_captured : (side : Side) (arrivals others : List Arrival) (high n offset : ℕ) (xs : List Spelled)
    → ((o : ℕ) → o < high → (byte_arrival arrivals o).rec ≡ (byte_arrival others o).rec)
    → ((o : ℕ) → o < high → (byte_arrival arrivals o).nanos ≡ (byte_arrival others o).nanos)
    → offset + size_of xs ≤ high → captured_from side arrivals n offset xs ≡ captured_from side others n offset xs
same_captured side arrivals others high n offset [] recs times fits = refl
same_captured side arrivals others high n offset (x ∷ xs) recs times fits =
    let upto = offset + (9 + x.header.length) in
    let within : upto - 1 < high = omega (arith, fits) in
    ap₂ (λ (f : SideFrame) (l : List SideFrame). f ∷ l)
    (ap₂ (λ (r t : ℕ). captured side n (record { upto = 0; rec = r; nanos = t }) x) (recs (upto - 1) within)
    (times (upto - 1) within))
    (same_captured side arrivals others high (n + 1) upto xs recs times (omega (arith, fits)))

pub fed-grows : FedGrows
fed-grows = (refl, grows)
  where
    grows : (fed : Fed) (more : List ℕ) (rec nanos : ℕ) → IsReached fed → HasGrown fed more rec nanos
    grows fed more rec nanos reached =
        let high = length fed.bytes in
        let last : Arrival = record { upto = high + length more; rec = rec; nanos = nanos } in
        record {
          reached = subst (λ (n : ℕ). ReachFrom 0 (fed.arrivals ++ last ∷ []) n) (sym (length-append fed.bytes more))
              (reach-more 0 high fed.arrivals last reached (omega arith));
          old = λ o lt. same-arrival 0 high o fed.arrivals last reached (omega arith) lt;
          new_rec = λ o ge lt. ap (λ (a : Arrival). a.rec) (new-arrival 0 high o fed.arrivals last reached ge lt);
          new_nanos = λ o ge lt. ap (λ (a : Arrival). a.nanos) (new-arrival 0 high o fed.arrivals last reached ge lt);
        }
