-- Laws of what was fed of a flow: bytes that come change nothing of those that were there, and arrive with the record
-- that brings them.
use Rattle.std.specs.Prelude.{◌≡◌, ℕ, ◌+◌, ◌<◌, ◌≤◌, List, length}
use Rattle.h2_frames.specs.CaptureOrder.{byte_arrival}
use Rattle.h2_frames.specs.code.Connection.{IsReached}
use Rattle.h2_frames.specs.code.Fed.{Fed, nothing_fed, with_more}

-- a byte that was there arrives as it did; a new one with the record that brings it
pub record HasGrown (fed : Fed) (more : List ℕ) (rec nanos : ℕ) : Type 0 where
  pub reached : IsReached (with_more fed more rec nanos)
  pub old : (o : ℕ) → o < length fed.bytes
      → byte_arrival (with_more fed more rec nanos).arrivals o ≡ byte_arrival fed.arrivals o
  pub new_rec : (o : ℕ) → length fed.bytes ≤ o → o < length fed.bytes + length more
      → (byte_arrival (with_more fed more rec nanos).arrivals o).rec ≡ rec
  pub new_nanos : (o : ℕ) → length fed.bytes ≤ o → o < length fed.bytes + length more
      → (byte_arrival (with_more fed more rec nanos).arrivals o).nanos ≡ nanos

-- so it is from the first bytes on
abbrev pub FedGrows : Type 0
FedGrows =
    IsReached nothing_fed
    × ((fed : Fed) (more : List ℕ) (rec nanos : ℕ) → IsReached fed → HasGrown fed more rec nanos)
