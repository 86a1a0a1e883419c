-- That the frames that open streams are those of the pass (RFC 9113, 5.1).
use Rattle.std.specs.Prelude.{◌≡◌, List, map}
use Rattle.audit_terms.specs.declared.frames.Frame.{Frame}
use Rattle.audit_terms.specs.declared.items.Item.{Item}
use Rattle.audit_terms.specs.code.runs.Orderly.{IsOrderly}
use Rattle.audit_terms.specs.Pass.{streams_of}
use Rattle.audit_terms.specs.code.runs.States.{items_of}
use Rattle.conn_scan.specs.code.Items.{is_marked}
use Rattle.audit_rounds.specs.code.Openings.{openings_of}

-- the frames that open their streams in the pass are the HEADERS that open some stream by itself
abbrev pub OpeningsAreFound : Type 0
OpeningsAreFound = (frames : List Frame) → IsOrderly frames →
    map (λ (item : Item). item.opens) (items_of frames)
    ≡ map (is_marked (openings_of frames (streams_of frames))) frames
