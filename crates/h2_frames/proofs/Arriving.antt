-- Going on in a flow's arrivals.
use Rattle.std.proofs.Common.{◌≡◌, ℕ, ◌+◌, ◌-◌, ◌^◌, ◌<◌, ◌≤◌, false, List, [], ◌∷◌, length, get_or, refl, ap₂, arith}
use Rattle.h2_frames.proofs.Words.{nat_lt, AllByRecursion, nat_tests, Arrival, Rises, Side, SideFrame, Spelled}
use Rattle.h2_frames.proofs.Words.{byte_arrival, captured, captured_from, arrivals_from, cond_both}

past : (m k : ℕ) → nat_lt m k ≡ false → k ≤ m
past m k e = grind (arith, nat_tests)

-- a later byte arrives as it did
byte_arrival-from : (o p : ℕ) (arrivals : List Arrival) → o ≤ p → byte_arrival (arrivals_from o arrivals) p
    ≡ byte_arrival arrivals p
byte_arrival-from o p [] h = refl
byte_arrival-from o p (a ∷ later) h = grind (arith, nat_tests, byte_arrival-from o p later h)

-- so do later frames
pub captured_from-from : (side : Side) (arrivals : List Arrival) (o number offset : ℕ) (spelled : List Spelled)
    → o ≤ offset →
    captured_from side (arrivals_from o arrivals) number offset spelled ≡ captured_from side arrivals number offset
    spelled
captured_from-from side arrivals o number offset [] h = refl
captured_from-from side arrivals o number offset (s ∷ later) h =
    let upto = offset + (9 + s.header.length) in
    let first = byte_arrival-from o (upto - 1) arrivals (omega arith) in
    let rest = captured_from-from side arrivals o (number + 1) upto later (omega arith) in
    ap₂ (λ (a : Arrival) (frames : List SideFrame). captured side number a s ∷ frames) first rest

-- the first of them is where the byte arrives
pub get_or-arrivals_from : (o : ℕ) (arrivals : List Arrival) (d : Arrival) → 0 < length (arrivals_from o arrivals) →
    get_or (arrivals_from o arrivals) 0 d ≡ byte_arrival arrivals o
get_or-arrivals_from o [] d h = absurd (omega arith)
get_or-arrivals_from o (a ∷ later) d h = grind (arith, nat_tests, get_or-arrivals_from o later d)

-- each byte of the flow arrives
pub arrivals_from-not_empty : (low rec high o : ℕ) (arrivals : List Arrival) → Rises low rec arrivals high → low ≤ o
    → o < high → 0 < length (arrivals_from o arrivals)
arrivals_from-not_empty low rec high o [] rises h k = absurd (omega arith)
arrivals_from-not_empty low rec high o (a ∷ later) rises h k =
    grind (arith, nat_tests, arrivals_from-not_empty a.upto a.rec high o later rises.2)

-- the arrivals from a byte on rise too, from that byte or from before it
abbrev pub RiseFrom : (o : ℕ) → List Arrival → (high : ℕ) → Type 0
RiseFrom o arrivals high = (low : ℕ) × (rec : ℕ) × (low ≤ o) × Rises low rec arrivals high

pub arrivals_from-rise : (low rec high o : ℕ) (arrivals : List Arrival) → Rises low rec arrivals high → low ≤ o →
    RiseFrom o (arrivals_from o arrivals) high
arrivals_from-rise low rec high o [] rises h = (low, rec, h, rises)
arrivals_from-rise low rec high o (a ∷ later) rises h =
    cond_both (nat_lt o a.upto) _ _ (λ xs. RiseFrom o xs high) (λ e. (low, rec, h, rises))
    (λ e. arrivals_from-rise a.upto a.rec high o later rises.2 (past o a.upto e))

-- and come at times of the capture
pub arrivals_from-timely : (o : ℕ) (arrivals : List Arrival)
    → AllByRecursion (λ (a : Arrival). a.nanos < 2 ^ 63) arrivals →
    AllByRecursion (λ (a : Arrival). a.nanos < 2 ^ 63) (arrivals_from o arrivals)
arrivals_from-timely o [] all = all
arrivals_from-timely o (a ∷ later) all = grind (arith, nat_tests, arrivals_from-timely o later all.1, all.1)

pub first_timely : (arrivals : List Arrival) (d : Arrival) → AllByRecursion (λ (a : Arrival). a.nanos < 2 ^ 63) arrivals
    → 0 < length arrivals → (get_or arrivals 0 d).nanos < 2 ^ 63
first_timely [] d all h = absurd (omega arith)
first_timely (a ∷ later) d all h = all.0
