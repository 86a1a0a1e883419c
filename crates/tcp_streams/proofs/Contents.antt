-- On what is kept of intervals' bytes.
use Rattle.tcp_streams.proofs.Words.{◌≡◌, ℕ, ◌<◌, ◌≤◌, List, Option, None, Some, sym, ◌∙◌, arith, ◌+◌, ◌-◌, length, ap}
use Rattle.tcp_streams.proofs.Words.{take, drop, slice_range, drop-drop, Interval, width}
use Rattle.tcp_streams.specs.code.{Content.AreBytesIn, Interval.part_of}
use Rattle.tcp_streams.proofs.Lists.{length-slice_range}
use Rattle.std.proofs.lemmas.List.{drop-take, take-take}
use Rattle.std.specs.Prelude.{Err, IfOk, Ok, Result}

pub if-ok : {A E : Type 0} {P Q : A → Type 0} (r : Result A E) → ((v : A) → P v → Q v) → IfOk r P → IfOk r Q
if-ok (Ok v) f h = f v h
if-ok (Err v) f h = tt

-- a part of a part of a list
pub slice-part : (xs : List ℕ) (i w a b : ℕ) → a ≤ b → b ≤ w
    → slice_range (slice_range xs i (i + w)) a b ≡ slice_range xs (i + a) (i + a + (b - a))
slice-part xs i w a b le within =
    let whole : i + w - i ≡ a + (w - a) = omega (arith, le, within) in
    let size : i + a + (b - a) - (i + a) ≡ b - a = omega arith in
    ap (λ n. take (b - a) (drop a (take n (drop i xs)))) whole
    ∙ ap (take (b - a)) (drop-take a (w - a) (drop i xs))
    ∙ take-take (b - a) (w - a) (drop a (drop i xs)) (omega (arith, within))
    ∙ ap (take (b - a)) (drop-drop a i xs)
    ∙ ap (λ n. take n (drop (i + a) xs)) (sym size)

pub part-bytes : (of : Option (List ℕ)) (x : Interval) (payload : List ℕ) (low high : ℕ) → x.from ≤ low → low < high
    → high ≤ x.upto → length payload ≡ width x → AreBytesIn of x payload
    → AreBytesIn of (part_of x low high) (slice_range payload (low - x.from) (high - x.from))
part-bytes None x payload low high le lt within size h =
    length-slice_range payload (low - x.from) (high - x.from) (omega (arith, lt)) (omega (arith, size, within))
    ∙ omega (arith, le, lt)
part-bytes (Some capture) x payload low high le lt within size h =
    let same : high - x.from - (low - x.from) ≡ high - low = omega (arith, le, lt) in
    ap (λ bytes. slice_range bytes (low - x.from) (high - x.from)) h
    ∙ slice-part capture x.index (width x) (low - x.from) (high - x.from) (omega (arith, lt)) (omega (arith, within))
    ∙ ap (λ n. slice_range capture (x.index + (low - x.from)) (x.index + (low - x.from) + n)) same
