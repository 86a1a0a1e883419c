-- What a cutter tells at its end is the cut that two flows have.
use Rattle.std.specs.Prelude.{◌≡◌, List, length}
use Rattle.audit_terms.specs.declared.frames.Frame.{Frame}
use Rattle.tcp_streams.specs.declared.flows.Flow.{Flow}
use Rattle.h2_frames.specs.Cut.{IsCut}
use Rattle.h2_frames.specs.code.Connection.{IsEnding}
use Rattle.h2_frames.specs.declared.connection.Ending.{Ending}
use Rattle.h2_frames.specs.declared.connection.Ending.TheVariants.{Http2, NoHandshake, NoPreface, NotHttp2}
use Rattle.h2_frames.specs.declared.cuts.Cut.{Cut}
use Rattle.h2_frames.specs.declared.cuts.Cut.TheVariants.{Http2 as CutHttp2, NoHandshake as CutNoHandshake}
use Rattle.h2_frames.specs.declared.cuts.Cut.TheVariants.{NoPreface as CutNoPreface, NotHttp2 as CutNotHttp2}

module _ {V : Type 0} (after : List Frame → V → Type 0) where
  -- the kind of the cut is told, and of HTTP/2 the visitor was handed its frames
  abbrev pub TellsCut : V → Ending → Cut → Type 0
  TellsCut visitor (Http2 count tails) (CutHttp2 frames cut_tails) =
      after frames.items visitor × (count ≡ length frames.items) × (tails ≡ cut_tails)
  TellsCut visitor NotHttp2 CutNotHttp2 = Unit {0}
  TellsCut visitor NoPreface CutNoPreface = Unit {0}
  TellsCut visitor NoHandshake CutNoHandshake = Unit {0}
  TellsCut visitor _ _ = ⊥

  -- so it is of any two flows
  abbrev pub EndingTellsTheCut : Type 0
  EndingTellsTheCut =
      (client server : Flow) (visitor : V) (ending : Ending) (cut : Cut) → IsEnding after client server visitor ending
      → IsCut client server cut → TellsCut visitor ending cut
