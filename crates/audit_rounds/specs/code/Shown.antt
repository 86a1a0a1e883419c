-- What the rounds of a divided audit give.
use Rattle.std.specs.Prelude.{Bool, List}
use Rattle.std.specs.List.{flat_map}
use Rattle.audit_terms.specs.declared.frames.Frame.{Frame}
use Rattle.audit_terms.specs.declared.items.Item.{Item}
use Rattle.audit_terms.specs.declared.findings.Finding.{Finding}
use Rattle.audit_terms.specs.Finding.{shown}
use Rattle.audit_terms.specs.Connection.{connection_start}
use Rattle.audit_terms.specs.Pass.{streams_of}
use Rattle.audit_terms.specs.code.runs.Blocks.{block_runs}
use Rattle.audit_rounds.specs.code.Streams.{shown_of}

-- what is shown of the streams, and what is shown of the blocks
abbrev pub streams_shown : (frames_shown : Bool) → List Frame → List Finding
streams_shown frames_shown frames = flat_map (shown_of frames_shown frames) (streams_of frames)

abbrev pub blocks_shown : (frames_shown : Bool) → List (List Item) → List Finding
blocks_shown frames_shown blocks = shown frames_shown (block_runs connection_start blocks)
