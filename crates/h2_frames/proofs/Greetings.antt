-- A client's greeting: what is cut short, and what is other than the preface.
use Rattle.std.proofs.Common.{◌≡◌, ◌≢◌, ℕ, zero, suc, ◌<◌, List, [], ◌∷◌, ◌++◌, length, get_or, take, drop, sym, ap}
use Rattle.std.proofs.Common.{◌∙◌}
use Rattle.std.proofs.Common.{append_assoc, arith, length-drop, refl}
use Rattle.h2_frames.proofs.Words.{append-nil, take-append-drop, BeginsWithPreface, IsPrefaceCutShort, preface}
use Rattle.h2_frames.specs.code.Greeting.{Differs, IsGreeted}
use Rattle.h2_frames.specs.declared.greeting.Greeting.{Greeting}
use Rattle.h2_frames.specs.declared.greeting.Greeting.TheVariants.{CutShort, Other, Whole}

-- so many bytes of the preface
pub cut_short : (bytes : List ℕ) (i : ℕ) → i < 24 → bytes ≡ take i preface → IsPrefaceCutShort bytes
cut_short bytes i h is =
    (drop i preface, omega (arith, length-drop i preface), rw is (take-append-drop i preface))

-- another byte at one place
differs : (p : List ℕ) (i b : ℕ) (rest other : List ℕ) → i < length p → b ≢ get_or p i 0
    → take i p ++ b ∷ rest ≡ p ++ other → ⊥
differs [] i b rest other h ne e = absurd (omega arith)
differs (x ∷ p) zero b rest other h ne e = let same : b ≡ x = cc in ne same
differs (x ∷ p) (suc i) b rest other h ne e = differs p i b rest other (omega arith) ne (cc)

pub not_short : (bytes : List ℕ) → Differs bytes → ¬ IsPrefaceCutShort bytes
not_short bytes d short =
    differs preface d.at d.byte (d.later ++ short.0) [] d.within d.other
    (sym (append_assoc (take d.at preface) (d.byte ∷ d.later) short.0)
    ∙ ap (λ (xs : List ℕ). xs ++ short.0) (sym d.bytes_are) ∙ short.2 ∙ sym (append-nil preface))

pub not_begun : (bytes rest : List ℕ) → Differs bytes → ¬ BeginsWithPreface bytes rest
not_begun bytes rest d begins =
    differs preface d.at d.byte d.later rest d.within d.other (sym d.bytes_are ∙ begins)

-- and so it stays
pub differs_more : (bytes more : List ℕ) → Differs bytes → Differs (bytes ++ more)
differs_more bytes more d = record {
  at = d.at;
  byte = d.byte;
  later = d.later ++ more;
  within = d.within;
  other = d.other;
  bytes_are = ap (λ (xs : List ℕ). xs ++ more) d.bytes_are ∙ append_assoc (take d.at preface) (d.byte ∷ d.later) more;
}

-- so does any greeting that is not cut short
pub greeted_more : (bytes rest more : List ℕ) (greeting : Greeting) → ((n : ℕ) → greeting ≡ CutShort n → ⊥)
    → IsGreeted bytes rest greeting → IsGreeted (bytes ++ more) (rest ++ more) greeting
greeted_more bytes rest more (CutShort n) whole is = absurd (whole n refl)
greeted_more bytes rest more Other whole is = differs_more bytes more is
greeted_more bytes rest more Whole whole is = ap (λ l. l ++ more) is ∙ append_assoc preface rest more
