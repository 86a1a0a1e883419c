-- What a split asks of the outside, and what it is answered.
use Rattle.std.specs.Prelude.{ℕ, Bool, List, Result}
use Rattle.std.specs.declared.io.Error.{Error}

-- a call: which file or folder it names, which text it hands over, and the answer. F is what files are opened as; where
-- nothing is opened, the answer is whether it was done
pub data Call (F : Type 0) : Type 0 where
  Opened : (path : List ℕ) → Result F Error → Call F
  MadeFolder : (path : List ℕ) → Bool → Call F
  Created : (path : List ℕ) → Result F Error → Call F
  Wrote : (path text : List ℕ) → Bool → Call F
  RemovedFile : (path : List ℕ) → Bool → Call F
  RemovedFolder : (path : List ℕ) → Bool → Call F
  Printed : (text : List ℕ) → Bool → Call F
  Said : (line : List ℕ) → Call F
