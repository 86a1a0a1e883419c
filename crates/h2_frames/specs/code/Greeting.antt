-- How a client's bytes begin, while they come (RFC 9113, 3.4).
use Rattle.std.specs.Prelude.{◌≡◌, ℕ, ◌<◌, List, [], ◌∷◌, ◌++◌, take, get_or}
use Rattle.h2_frames.specs.declared.greeting.Greeting.{Greeting}
use Rattle.h2_frames.specs.declared.greeting.Greeting.TheVariants.{CutShort, Other, Whole}
use Rattle.h2_frames.specs.Preface.{BeginsWithPreface, preface}

-- one of the bytes is another than the preface has at its place, and those before it are not
pub record Differs (bytes : List ℕ) : Type 0 where
  pub at : ℕ
  pub byte : ℕ
  pub later : List ℕ
  pub within : at < 24
  pub other : byte ≡ get_or preface at 0 → ⊥
  pub bytes_are : bytes ≡ take at preface ++ byte ∷ later

-- the bytes begin so, and these follow the preface, or are none where it is not whole
abbrev pub IsGreeted : (bytes rest : List ℕ) → Greeting → Type 0
IsGreeted bytes rest (CutShort n) = (n < 24) × (bytes ≡ take n preface) × (rest ≡ [])
IsGreeted bytes rest Other = Differs bytes
IsGreeted bytes rest Whole = BeginsWithPreface bytes rest

-- the bytes begin so
abbrev pub IsBeginning : List ℕ → Greeting → Type 0
IsBeginning bytes greeting = (rest : List ℕ) × IsGreeted bytes rest greeting
