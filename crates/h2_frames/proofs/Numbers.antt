-- Frames that are numbered one after the other.
use Rattle.std.proofs.Common.{◌≡◌, ℕ, ◌+◌, ◌≤◌, List, [], ◌∷◌, ◌++◌, length, arith}
use Rattle.h2_frames.proofs.Words.{Frame, HaveNumbersFrom, IsInRange, IsOrderlyFrom}

-- with one frame more they have their numbers
pub numbers_push : (k : ℕ) (frames : List Frame) (f : Frame) → HaveNumbersFrom k frames → f.number ≡ k + length frames →
    HaveNumbersFrom k (frames ++ f ∷ [])
numbers_push k [] f numbers number_is = (omega arith, tt)
numbers_push k (x ∷ frames) f numbers number_is = (numbers.0, numbers_push (k + 1) frames f numbers.1 (omega arith))

-- and are orderly
pub orderly_push : (low k : ℕ) (frames : List Frame) (f : Frame) → IsOrderlyFrom low frames → HaveNumbersFrom k frames →
    low ≤ k → IsInRange f → f.number ≡ k + length frames → IsOrderlyFrom low (frames ++ f ∷ [])
orderly_push low k [] f orderly numbers above range number_is = (omega arith, range, tt)
orderly_push low k (x ∷ frames) f orderly numbers above range number_is =
    let number = numbers.0 in (
      orderly.0,
      orderly.1,
      orderly_push (x.number + 1) (k + 1) frames f orderly.2 numbers.1 (omega arith) range (omega arith),
    )
