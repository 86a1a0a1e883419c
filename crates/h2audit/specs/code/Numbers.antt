-- What the program's own calls keep of clap's matches.
use Rattle.std.specs.Prelude.{◌≡◌, ℕ, pos, Some, codes}
use Rattle.clap.specs.Words.{IsSignedIn, Text, one_text, without_minus}
use Rattle.clap.specs.declared.parser.matches.Found.{Found}

-- a number from 1 to `most` was found
abbrev pub HasNumber : Found → (name : Text) → (most : ℕ) → Type 0
HasNumber found name most =
    (text : Text) × (one_text found name ≡ Some (without_minus text)) × IsSignedIn (pos 1) (pos most) text

-- each of the program's numbers was
pub record HasNumbers (found : Found) : Type 0 where
  pub workers : HasNumber found (codes "workers") 64
  pub groups : HasNumber found (codes "groups") 1024
  pub block : HasNumber found (codes "block") 1048576
