-- Calls of the outside, one after the other.
use Rattle.std.specs.Prelude.{◌≡◌, List, [], ◌∷◌}
use Rattle.std.specs.List.{AllByRecursion}
use Rattle.capture_parts.specs.Outside.{Call}

-- `does` says what a call changes outside
module _ {O F : Type 0} (does : O → Call F → O → Type 0) where
  -- these calls were made, in turn, and no others
  abbrev pub Did : O → List (Call F) → O → Type 0
  Did before [] after = after ≡ before
  Did before (call ∷ calls) after = (mid : O) × does before call mid × Did mid calls after

  -- no calls were made but such
  abbrev pub DidOnly : (Call F → Type 0) → O → O → Type 0
  DidOnly allowed before after = (calls : List (Call F)) × Did before calls after × AllByRecursion allowed calls
