-- Growths of a connection's flows, as a cutter is fed them.
use Rattle.std.specs.Prelude.{◌≡◌, ℕ, ◌+◌, List, [], ◌∷◌, length}
use Rattle.audit_terms.specs.declared.sides.Side.TheVariants.{Client, Server}
use Rattle.audit_terms.specs.declared.sides.Sides.{Sides}
use Rattle.tcp_streams.specs.Bytes.{bytes_of}
use Rattle.tcp_streams.specs.code.Grown.{Growth, arrivals_grown, bytes_grown, of_side}
use Rattle.tcp_streams.specs.declared.flows.{Arrival.Arrival, Flow.Flow}
use Rattle.h2_frames.specs.code.Fed.{Fed}

-- when the bytes of growths came: an arrival for each, from an offset on
abbrev pub arrivals_fed : (low : ℕ) → List Growth → List Arrival
arrivals_fed low [] = []
arrivals_fed low (g ∷ later) =
    record { upto = low + length g.bytes; rec = g.rec; nanos = g.nanos } ∷ arrivals_fed (low + length g.bytes) later

-- what growths of a side feed of its flow
abbrev pub fed_by : List Growth → Fed
fed_by grown = record { bytes = bytes_grown grown; arrivals = arrivals_fed 0 grown }

-- and growths of both
abbrev pub both_fed : List Growth → Sides Fed
both_fed grown = record { client = fed_by (of_side Client grown); server = fed_by (of_side Server grown) }

-- the flow is what growths of its side make up
pub record IsFlowGrown (flow : Flow) (grown : List Growth) : Type 0 where
  pub bytes : bytes_of flow ≡ bytes_grown grown
  pub arrivals : flow.arrivals.items ≡ arrivals_grown 0 grown
