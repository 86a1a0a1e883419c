-- Bounds of credits.
use Rattle.std.proofs.{Common.arith, Common.ℕ, Common.ℤ, Common.◌≤◌, lemmas.Int.ints}
use Rattle.audit_terms.specs.code.Room.{HasRoom}

-- a wider bound
pub room-wider : (bound more : ℕ) (credit : ℤ) → bound ≤ more → HasRoom bound credit → HasRoom more credit
room-wider bound more credit l h =
    let low = h.0 in
    let high = h.1 in
    (omega (arith, ints), omega (arith, ints))
