-- The items of a connection's frames, from what the streams by themselves tell of openings, and from its changes.
use Rattle.std.specs.Prelude.{◌≡◌, ℕ, List}
use Rattle.std.specs.List.Sorted.{IsPermutation}
use Rattle.audit_terms.specs.declared.frames.Frame.{Frame}
use Rattle.audit_terms.specs.code.runs.Orderly.{IsOrderly}
use Rattle.audit_terms.specs.code.runs.Changes.{changes_of}
use Rattle.audit_terms.specs.Pass.{streams_of}
use Rattle.audit_terms.specs.code.runs.States.{items_of}
use Rattle.conn_scan.specs.code.Items.{items_with}
use Rattle.audit_rounds.specs.code.Openings.{openings_of}

-- the items of the pass are the frames, each with the opening and the change of its number, in whatever order openings
-- come
abbrev pub ItemsAreFound : Type 0
ItemsAreFound = (frames : List Frame) (opened : List ℕ) → IsOrderly frames →
    IsPermutation (openings_of frames (streams_of frames)) opened →
    items_with opened (changes_of frames) frames ≡ items_of frames
