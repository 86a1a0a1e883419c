-- How far a flow reaches, in few bytes.
use Rattle.std.specs.Prelude.{◌≡◌, ℕ, if◌then◌else◌, length, None, Some}
use Rattle.audit_report.specs.declared.extents.Extent.{Extent}
use Rattle.audit_terms.specs.declared.sides.Sides.{Sides}
use Rattle.report_pages.specs.declared.reach.Reach.{Reach}
use Rattle.tcp_streams.specs.Bytes.{bytes_of}
use Rattle.tcp_streams.specs.declared.flows.Flow.{Flow}

-- bytes are missing nowhere but at the end of a flow
abbrev pub HasGapAtEnd : Flow → Type 0
HasGapAtEnd flow = (offset : ℕ) → flow.gap ≡ Some offset → offset ≡ length (bytes_of flow)

-- the extent of a flow that reaches so far
abbrev pub extent_in : Reach → Extent
extent_in reach = record { size = reach.size; gap = if reach.has_gap then Some reach.size else None }

abbrev pub extents_in : Sides Reach → Sides Extent
extents_in reach = record { client = extent_in reach.client; server = extent_in reach.server }
