-- The line of a flow: how much of a side's bytes the capture has without a hole.
use Rattle.std.specs.Prelude.{ℕ, List, ◌++◌, length, codes, Option, Some, None}
use Rattle.std.specs.Fmt.{decimal}
use Rattle.audit_report.specs.Line.{line, field}
use Rattle.audit_terms.specs.declared.sides.Side.{Side}
use Rattle.audit_terms.specs.Side.{side_name}
use Rattle.audit_terms.specs.Sides.{side_of}
use Rattle.audit_terms.specs.declared.sides.Sides.{Sides}
use Rattle.h2_frames.specs.declared.cuts.Cut.{Cut}
use Rattle.h2_frames.specs.declared.cuts.Cut.TheVariants.{Http2}
use Rattle.audit_report.specs.declared.extents.Extent.{Extent}
use Rattle.tcp_streams.specs.declared.flows.Flow.{Flow}
use Rattle.tcp_streams.specs.Bytes.{bytes_of}

-- how many bytes a flow has, and where bytes are missing, if later ones were captured
abbrev pub extent_of : Flow → Extent
extent_of flow = record { size = length (bytes_of flow); gap = flow.gap }

-- the extents of both sides' flows
abbrev pub extents_of : (client server : Flow) → Sides Extent
extents_of client server = record { client = extent_of client; server = extent_of server }

-- how many bytes of a side are left over after its last frame; 0 where the connection is not HTTP/2
abbrev pub tail_of : Side → Cut → ℕ
tail_of side (Http2 frames tails) = side_of side tails
tail_of side _ = 0

abbrev pub gap_text : Option ℕ → List ℕ
gap_text None = codes "none"
gap_text (Some offset) = decimal offset

-- `flow SIDE bytes N gap G tail T`
abbrev pub flow_line : Side → Extent → (tail : ℕ) → List ℕ
flow_line side extent tail = line (codes "flow " ++ side_name side ++ field (codes " bytes ") extent.size
    ++ codes " gap " ++ gap_text extent.gap ++ field (codes " tail ") tail)
