-- What was fed of a side's flow, behind which more may come.
use Rattle.std.specs.Prelude.{◌≡◌, ℕ, ◌+◌, ◌<◌, ◌≤◌, All, List, [], ◌∷◌, ◌++◌, length}
use Rattle.tcp_streams.specs.declared.flows.Arrival.{Arrival}
use Rattle.tcp_streams.specs.declared.flows.Flow.{Flow}
use Rattle.tcp_streams.specs.Bytes.{bytes_of}
use Rattle.h2_frames.specs.CaptureOrder.{byte_arrival}

-- the bytes, and when they came: byte o with the first arrival whose `upto` is above o
pub record Fed : Type 0 where
  pub bytes : List ℕ
  pub arrivals : List Arrival

abbrev pub nothing_fed : Fed
nothing_fed = record { bytes = []; arrivals = [] }

-- and then these bytes, which a record brings
abbrev pub with_more : Fed → (more : List ℕ) → (rec nanos : ℕ) → Fed
with_more fed more rec nanos = record {
  bytes = fed.bytes ++ more;
  arrivals = fed.arrivals ++ record { upto = length fed.bytes + length more; rec = rec; nanos = nanos } ∷ [];
}

-- a record may bring bytes to its side if no later one did, and none but earlier ones to the other side
pub record MayBring (rec : ℕ) (own other : Fed) : Type 0 where
  pub counted : 0 < rec
  pub own_before : All (λ (a : Arrival). a.rec ≤ rec) own.arrivals
  pub other_before : All (λ (a : Arrival). a.rec < rec) other.arrivals

-- the flow was fed, all of it, and each byte with the record that brings it
pub record IsFlowFed (flow : Flow) (fed : Fed) : Type 0 where
  pub bytes : bytes_of flow ≡ fed.bytes
  pub recs : (o : ℕ) → o < length fed.bytes
      → (byte_arrival flow.arrivals.items o).rec ≡ (byte_arrival fed.arrivals o).rec
  pub times : (o : ℕ) → o < length fed.bytes
      → (byte_arrival flow.arrivals.items o).nanos ≡ (byte_arrival fed.arrivals o).nanos
