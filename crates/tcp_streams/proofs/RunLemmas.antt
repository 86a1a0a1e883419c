-- On intervals that follow each other: the offsets and the bytes that they hold.
use Rattle.tcp_streams.proofs.Words.{◌≡◌, ℕ, ◌<◌, ◌≤◌, List, [], ◌∷◌, None, refl, sym, arith}
use Rattle.tcp_streams.proofs.Words.{◌+◌, ◌-◌, ◌^◌, ◌++◌, length, slice_get, IsSome, All, IfSome}
use Rattle.tcp_streams.proofs.Words.{IsSomeAnd, slice_range, nat_tests}
use Rattle.tcp_streams.proofs.Words.{append-nil, append_assoc, length-append, All-nil, All-cons, All-head}
use Rattle.tcp_streams.proofs.Words.{All-tail}
use Rattle.tcp_streams.proofs.Words.{Source, IsInterval, IsCaptured}
use Rattle.tcp_streams.proofs.Words.{at, bytes_in}
use Rattle.tcp_streams.proofs.Words.{width, Interval}
use Rattle.tcp_streams.specs.{code.Interval.IsInside}
use Rattle.tcp_streams.specs.code.SideFlow.{Follows, run_end}
use Rattle.tcp_streams.proofs.IntervalLemmas.{at-in, at-past}
use Rattle.tcp_streams.proofs.Lists.{by_lt, length-slice_range, slice_get-left, slice_get-right, slice_get-slice_range}

pub run_end-after : (low : ℕ) (run : List Interval) → Follows low run → low ≤ run_end low run
run_end-after low [] f = omega arith
run_end-after low (x ∷ xs) f = omega (arith, f.0, f.1.some, run_end-after x.upto xs f.2)

-- a run brings a byte to each of its offsets, and to no other
pub run-covers : (low : ℕ) (run : List Interval) (o : ℕ) → Follows low run → low ≤ o → o < run_end low run
    → IsSome (at run o)
run-covers low [] o f a b = absurd (omega (arith, a, b))
run-covers low (x ∷ xs) o f a b = grind (arith, nat_tests, (λ (le : x.upto ≤ o). run-covers x.upto xs o f.2 le b))

pub run-beyond : (low : ℕ) (run : List Interval) (o : ℕ) → Follows low run → run_end low run ≤ o → at run o ≡ None
run-beyond low [] o f b = refl
run-beyond low (x ∷ xs) o f b = grind (arith, nat_tests, run_end-after x.upto xs f.2, run-beyond x.upto xs o f.2 b)

-- one interval more
pub run_end-push : (low : ℕ) (xs : List Interval) (x : Interval) → run_end low (xs ++ x ∷ []) ≡ x.upto
run_end-push low [] x = refl
run_end-push low (y ∷ xs) x = run_end-push y.upto xs x

pub Follows-push : (low : ℕ) (xs : List Interval) (x : Interval) → Follows low xs → x.from ≡ run_end low xs
    → IsInterval x → Follows low (xs ++ x ∷ [])
Follows-push low [] x f e is = (e, is, tt)
Follows-push low (y ∷ xs) x f e is = (f.0, f.1, Follows-push y.upto xs x f.2 e is)

-- an interval of bytes of the capture, in a record with a number and a time
pub record IsHeld (size : ℕ) (x : Interval) : Type 0 where
  pub inside : IsInside size x
  pub numbered : 0 < x.rec
  pub timely : x.nanos < 2 ^ 63

-- what a captured list says of each interval of its run
pub held : (size low : ℕ) (run : List Interval) → Follows low run
    → ((o : ℕ) → low ≤ o → o < run_end low run → IfSome (at run o) (IsCaptured size)) → All (IsHeld size) run
held size low [] f h = All-nil (IsHeld size)
held size low (x ∷ xs) f h =
    let end = h (x.upto - 1) (omega (arith, f.0, f.1.some)) (omega (arith, f.1.some, run_end-after x.upto xs f.2)) in
    let last = rw (at-in x xs (x.upto - 1) (omega (arith, f.1.some)) (omega (arith, f.1.some))) at end in
    let inside : IsInside size x = record { interval = f.1; captured = omega (arith, f.1.some, last.0) } in
    All-cons (IsHeld size) x xs
    (record { inside = inside; numbered = last.1; timely = last.2 })
    (held size x.upto xs f.2 (λ o a b. rw (at-past x xs o a) at (h o (omega (arith, f.0, f.1.some)) b)))

-- an interval's bytes
abbrev part : List ℕ → Interval → List ℕ
part capture x = slice_range capture x.index (x.index + width x)

pub bytes_in-push : (capture : List ℕ) (xs : List Interval) (x : Interval)
    → bytes_in capture (xs ++ x ∷ []) ≡ bytes_in capture xs ++ part capture x
bytes_in-push capture [] x = append-nil (part capture x)
bytes_in-push capture (y ∷ xs) x = rw (bytes_in-push capture xs x) (sym (append_assoc (part capture y) _ _))

length-part : (capture : List ℕ) (x : Interval) → x.index + (x.upto - x.from) ≤ length capture
    → length (part capture x) ≡ width x
length-part capture x h = omega (arith, length-slice_range capture x.index (x.index + width x) (omega arith) h)

module _ (capture : List ℕ) where
  pub length-bytes_in : (low : ℕ) (run : List Interval) → Follows low run → All (IsHeld (length capture)) run
      → low + length (bytes_in capture run) ≡ run_end low run
  length-bytes_in low [] f h = omega arith
  length-bytes_in low (x ∷ xs) f h =
      let here = length-part capture x (All-head (IsHeld (length capture)) x xs h).inside.captured in
      let rest = length-bytes_in x.upto xs f.2 (All-tail (IsHeld (length capture)) x xs h) in
      omega (arith, f.0, f.1.some, length-append (part capture x) (bytes_in capture xs), here, rest)

  -- each byte is the capture's at its index
  pub bytes-at : (low : ℕ) (run : List Interval) (o : ℕ) → Follows low run → All (IsHeld (length capture)) run
      → low ≤ o → o < run_end low run
      → IsSomeAnd (at run o) (λ (s : Source). slice_get capture s.index ≡ slice_get (bytes_in capture run) (o - low))
  bytes-at low [] o f h a b = absurd (omega (arith, a, b))
  bytes-at low (x ∷ xs) o f h a b =
      let size = length-part capture x (All-head (IsHeld (length capture)) x xs h).inside.captured in
      by_lt o x.upto
      (λ _ lt. rw (
        at-in x xs o (omega (arith, f.0)) lt,
        slice_get-left (part capture x) (bytes_in capture xs) (o - low) (omega (arith, f.0, size)),
      ) (sym (slice_get-slice_range capture x.index (x.index + width x) (o - low) (x.index + (o - x.from))
      (omega (arith, f.0)) (omega (arith, f.0)))))
      (λ _ past. rw (
        at-past x xs o past,
        slice_get-right (part capture x) (bytes_in capture xs) (o - low) (o - x.upto)
            (omega (arith, f.0, f.1.some, size)),
      ) (bytes-at x.upto xs o f.2 (All-tail (IsHeld (length capture)) x xs h) past b))
