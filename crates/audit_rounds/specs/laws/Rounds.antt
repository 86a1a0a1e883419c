-- That the rounds of a divided audit make the pass.
use Rattle.std.specs.Prelude.{◌≡◌, Bool, List, ◌++◌}
use Rattle.audit_terms.specs.declared.frames.Frame.{Frame}
use Rattle.audit_terms.specs.declared.items.Item.{Item}
use Rattle.audit_terms.specs.code.runs.Orderly.{IsOrderly}
use Rattle.audit_terms.specs.Finding.{in_order, upto_stop, shown}
use Rattle.audit_terms.specs.code.runs.LocalFaults.{local_run}
use Rattle.audit_terms.specs.code.runs.Changes.{settings_run}
use Rattle.audit_terms.specs.Pass.{pass}
use Rattle.audit_terms.specs.code.runs.States.{items_of}
use Rattle.audit_core.specs.laws.Parts.{joined}
use Rattle.audit_rounds.specs.code.Shown.{streams_shown, blocks_shown}

-- the local faults, the unmatched acknowledgements, what is shown of the streams and what is shown of the blocks, put
-- in order and cut at the first that stops, are what is shown of the pass, however the frames are divided
abbrev pub RoundsMakePass : Type 0
RoundsMakePass = (frames_shown : Bool) (frames : List Frame) (blocks : List (List Item)) → IsOrderly frames →
    joined blocks ≡ items_of frames →
    upto_stop (in_order (((local_run frames ++ settings_run frames) ++ streams_shown frames_shown frames)
    ++ blocks_shown frames_shown blocks))
    ≡ shown frames_shown (pass frames)
