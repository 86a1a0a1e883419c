-- What is found where two flows are cut into frames. No definition of a report cites this.
use Rattle.std.specs.Prelude.{ℕ, List, IsTrue, IfOk, OnErr, Result}
use Rattle.std.specs.declared.alloc.AllocError.{AllocError}
use Rattle.tcp_streams.specs.declared.flows.Flow.{Flow}
use Rattle.tcp_streams.specs.Bytes.{bytes_of}
use Rattle.h2_frames.specs.declared.cuts.Cut.{Cut}
use Rattle.h2_frames.specs.Cut.{IsCut}
use Rattle.h2_frames.specs.Preface.{BeginsWithPreface}
use Rattle.h2_frames.specs.code.Orderly.{HasOrderlyFrames}
use Rattle.h2_frames.specs.code.SameCut.{IsSameCut}

-- it is the cut of the two flows, and there is no other; its frames are in range, their numbers rising; memory can be
-- wanting only where there are bytes to cut into frames
pub record IsFoundCut (client server : Flow) (found : Result Cut AllocError) : Type 0 where
  pub is : IfOk found (IsCut client server)
  pub only : IfOk found (λ cut. (other : Cut) → IsCut client server other → IsSameCut cut other)
  pub orderly : IfOk found HasOrderlyFrames
  pub memory : OnErr found (IsTrue server.started × (rest : List ℕ) × BeginsWithPreface (bytes_of client) rest)

-- it is the cut of the two flows, and its frames are orderly
abbrev pub IsOrderlyCut : (client server : Flow) → Cut → Type 0
IsOrderlyCut client server cut = IsCut client server cut × HasOrderlyFrames cut
