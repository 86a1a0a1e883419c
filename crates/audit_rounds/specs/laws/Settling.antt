-- That the round over blocks makes the pass of what the round over streams leaves, though it goes no further than the
-- frame at which the connection is known to stop.
use Rattle.std.specs.Prelude.{◌≡◌, ℕ, ◌≤◌, Bool, List, ◌++◌, Option, Some, None, All, map}
use Rattle.std.specs.Option.{option_to_list}
use Rattle.std.specs.List.{flat_map}
use Rattle.std.specs.List.Sorted.{IsPermutation}
use Rattle.audit_terms.specs.declared.frames.Frame.{Frame}
use Rattle.audit_terms.specs.declared.findings.Finding.{Finding}
use Rattle.audit_terms.specs.Connection.{connection_start}
use Rattle.audit_terms.specs.code.runs.Blocks.{block_run}
use Rattle.audit_terms.specs.Finding.{in_order, upto_stop, shown}
use Rattle.audit_terms.specs.code.runs.Orderly.{IsOrderly}
use Rattle.audit_terms.specs.code.runs.Changes.{changes_of}
use Rattle.audit_terms.specs.Pass.{pass, streams_of}
use Rattle.audit_terms.specs.code.runs.Streams.{frames_of, stream_at_end}
use Rattle.conn_scan.specs.code.Items.{items_with}
use Rattle.stream_credit.specs.code.Looks.{opened_up_to}
use Rattle.audit_rounds.specs.code.Openings.{openings_of}
use Rattle.audit_rounds.specs.code.Within.{AgreeWithin, IsAfterStreams, frames_within}

-- what is shown of these frames as blocks, from the connection's start on
abbrev pub blocks_within : (frames_shown : Bool) → List Frame → (stop : Option ℕ) → (opened : List ℕ) → List Finding
blocks_within frames_shown frames stop opened =
    shown frames_shown
    (block_run connection_start (items_with opened (changes_of frames) (frames_within stop frames)))

-- whatever is, up to the first error, what was found so far and what those blocks show, is what is shown of the pass
abbrev pub RoundsSettle : Type 0
RoundsSettle = (frames_shown : Bool) (frames : List Frame) (found last : List Finding) (stop : Option ℕ)
    (opened : List ℕ) →
    IsOrderly frames → IsAfterStreams frames_shown frames found stop opened →
    upto_stop (in_order last)
    ≡ upto_stop (in_order (found ++ blocks_within frames_shown frames stop opened)) →
    upto_stop (in_order last) ≡ shown frames_shown (pass frames)

-- the run of a stream, which went up to a place or was whole
pub record RunUpto : Type 0 where
  pub stream : ℕ
  pub upto : Option ℕ

-- the numbers of the frames that open streams, as such runs tell them
abbrev pub openings_told : List Frame → List RunUpto → List ℕ
openings_told frames runs = flat_map
    (λ (run : RunUpto). option_to_list (opened_up_to run.upto
    (stream_at_end run.stream (frames_of run.stream frames) (changes_of frames)).life.opened))
    runs

-- a run that went up to `upto` went no less far than the stop
abbrev pub Reaches : (upto stop : Option ℕ) → Type 0
Reaches None stop = Unit {0}
Reaches (Some place) None = ⊥
Reaches (Some place) (Some stop) = stop ≤ place

-- where the run of each stream reached the stop, the openings up to the stop's frame are known, in whatever order
abbrev pub OpeningsAreTold : Type 0
OpeningsAreTold = (frames : List Frame) (runs : List RunUpto) (stop : Option ℕ) (opened : List ℕ) →
    IsPermutation (map (λ (run : RunUpto). run.stream) runs) (streams_of frames) →
    All (λ (run : RunUpto). Reaches run.upto stop) runs →
    IsPermutation (openings_told frames runs) opened →
    AgreeWithin stop opened (openings_of frames (streams_of frames))
