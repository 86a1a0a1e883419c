-- What the lines of a connection and of its flows say that these hold, by the number of frames alone.
use Rattle.std.specs.Prelude.{ℕ, List, ◌++◌, codes}
use Rattle.audit_report.specs.FlowLine.{flow_line}
use Rattle.audit_report.specs.Line.{line, field}
use Rattle.audit_report.specs.code.Heading.{headed_text}
use Rattle.audit_report.specs.declared.contents.Contents.{Contents}
use Rattle.audit_report.specs.declared.contents.Contents.TheVariants as contents
use Rattle.audit_report.specs.declared.extents.Extent.{Extent}
use Rattle.audit_report.specs.declared.headings.SectionHeading.{SectionHeading}
use Rattle.audit_terms.specs.Sides.{side_of}
use Rattle.audit_terms.specs.declared.sides.Side.{Side}
use Rattle.audit_terms.specs.declared.sides.Side.TheVariants.{Client, Server}
use Rattle.audit_terms.specs.declared.sides.Sides.{Sides}

-- how many bytes of a side are left over after its last frame
abbrev pub tail_in : Side → Contents → ℕ
tail_in side (contents.Http2 frames tails) = side_of side tails
tail_in side _ = 0

-- as the line of the connection has it
abbrev pub contents_words : Contents → List ℕ
contents_words (contents.Http2 frames tails) = field (codes "http2 frames ") frames
contents_words contents.NotHttp2 = codes "not-http2"
contents_words contents.NoPreface = codes "no-preface"
contents_words contents.NoHandshake = codes "no-handshake"

-- the line of the connection
abbrev pub opening_line : (k : ℕ) → SectionHeading → Contents → List ℕ
opening_line k heading held = line (headed_text k heading ++ codes " " ++ contents_words held)

-- the lines of the connection and of its two flows
abbrev pub opening_text : (k : ℕ) → SectionHeading → (flows : Sides Extent) → Contents → List ℕ
opening_text k heading flows held = opening_line k heading held
    ++ flow_line Client flows.client (tail_in Client held)
    ++ flow_line Server flows.server (tail_in Server held)
