-- Laws of the definitions.
use Rattle.std.specs.Prelude.{◌≡◌, ℕ, List}
use Rattle.tcp_streams.specs.declared.flows.Flow.{Flow}
use Rattle.tcp_streams.specs.Bytes.{bytes_of}
use Rattle.h2_frames.specs.declared.cuts.Cut.{Cut}
use Rattle.h2_frames.specs.declared.spelling.Spelled.{Spelled}
use Rattle.h2_frames.specs.Spelling.{Spells}
use Rattle.h2_frames.specs.Cut.{IsCut}
use Rattle.h2_frames.specs.code.SameCut.{IsSameCut}

-- one list of bytes has one spelling
abbrev pub SpellingIsUnique : Type 0
SpellingIsUnique =
    (bytes : List ℕ) (frames others : List Spelled) (tail other_tail : List ℕ) →
    Spells bytes frames tail → Spells bytes others other_tail → (frames ≡ others) × (tail ≡ other_tail)

-- what decides a cut: is the flow started, its bytes and their arrivals
pub record IsSameFlow (flow other : Flow) : Type 0 where
  pub started : flow.started ≡ other.started
  pub bytes : bytes_of flow ≡ bytes_of other
  pub arrivals : flow.arrivals.items ≡ other.arrivals.items

-- two flows have one cut
abbrev pub CutIsUnique : Type 0
CutIsUnique =
    (client server other_client other_server : Flow) (cut other : Cut) →
    IsSameFlow client other_client → IsSameFlow server other_server →
    IsCut client server cut → IsCut other_client other_server other → IsSameCut cut other
