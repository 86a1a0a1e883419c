-- The jobs of the round over connections: one for each, which finds nothing.
use Rattle.std.specs.List.{AllZip, range_with_len}
use Rattle.std.specs.Prelude.{◌≡◌, ℕ, ◌^◌, ◌<◌, Bool, List, [], length, map, All, IfSome, IsTrue, Option}
use Rattle.audit_report.specs.FlowLine.{extents_of}
use Rattle.audit_report.specs.Stalls.{timed_stalls}
use Rattle.audit_report.specs.declared.audited.Audited.{Audited}
use Rattle.audit_terms.specs.code.runs.Orderly as runs
use Rattle.audit_terms.specs.declared.sides.Side.TheVariants.{Client, Server}
use Rattle.audit_terms.specs.declared.sides.Sides.{Sides}
use Rattle.h2_frames.specs.Cut.{IsCut, IsHttp2}
use Rattle.h2_frames.specs.declared.cuts.Cut.{Cut}
use Rattle.h2_frames.specs.declared.cuts.Cut.TheVariants.{Http2, NotHttp2, NoPreface, NoHandshake}
use Rattle.h2audit.specs.Audited.{AreAudited, IsFlowOf}
use Rattle.h2audit.specs.code.Listed.{HasFlows, HoldsFlows}
use Rattle.h2audit.specs.declared.listed_connections.HeldFlows.{HeldFlows}
use Rattle.report_pages.specs.code.Reach.{extents_in}
use Rattle.report_pages.specs.code.Told.{AreToldOf, HasOrderlyOutcome}
use Rattle.report_pages.specs.declared.told.FoundFrames.{FoundFrames}
use Rattle.report_pages.specs.declared.told.Outcome.{Outcome}
use Rattle.report_pages.specs.declared.told.Outcome.TheVariants as outcome
use Rattle.report_pages.specs.declared.told.Told.{Told}
use Rattle.quiet_pass.specs.code.FoundConnections.{IsFoundOf}
use Rattle.quiet_pass.specs.code.QuietConnections.{IsQuietOf}
use Rattle.quiet_pass.specs.declared.found_connections.FoundConnection.{FoundConnection}
use Rattle.stop_desk.specs.code.Board.{Job}
use Rattle.stop_desk.specs.declared.parts.Part.{Part}
use Rattle.packet_heads.specs.declared.packets.Packet.{Packet}
use Rattle.tcp_streams.specs.declared.members.Connection.{Connection}
use Rattle.tcp_streams.specs.declared.flows.Flow.{Flow}

-- what an outcome keeps of a cut
abbrev pub KeepsCut : Outcome → Cut → Type 0
KeepsCut (outcome.Audited audited) (Http2 frames tails) =
    (audited.value.frames.items ≡ frames.items) × (audited.value.tails ≡ tails)
KeepsCut outcome.NotHttp2 NotHttp2 = Unit {0}
KeepsCut outcome.NoPreface NoPreface = Unit {0}
KeepsCut outcome.NoHandshake NoHandshake = Unit {0}
KeepsCut _ _ = ⊥

-- this is what was found as frames were met, with its stalls
pub record AreFramesOf (made : FoundFrames) (found : FoundConnection) : Type 0 where
  pub count : made.count ≡ found.frames
  pub tails : made.tails ≡ found.tails
  pub findings : made.findings ≡ found.findings
  pub stalls_are : made.stalls.items ≡ timed_stalls found.findings.items

-- what an outcome keeps of it
abbrev pub KeepsFound : Outcome → FoundConnection → Type 0
KeepsFound (outcome.Quiet quiet) found =
    (quiet.frames ≡ found.frames) × (quiet.tails ≡ found.tails) × (found.findings.items ≡ [])
KeepsFound (outcome.Found made) found = AreFramesOf made.value found
KeepsFound _ found = ⊥

-- this was found in the flows
pub record IsFoundIn (frames_shown : Bool) (client server : Flow) (made : FoundFrames) : Type 0 where
  pub found : FoundConnection
  pub of_flows : IsFoundOf frames_shown client server found
  pub kept : AreFramesOf made found

-- what an outcome keeps of two flows, before anything is found in all frames
abbrev pub IsHeldBy : (frames_shown : Bool) → (client server : Flow) → Outcome → Type 0
IsHeldBy frames_shown client server (outcome.Quiet quiet) = IsQuietOf frames_shown client server quiet
IsHeldBy frames_shown client server (outcome.Found found) = IsFoundIn frames_shown client server found.value
IsHeldBy frames_shown client server (outcome.Audited audited) =
    IsTrue server.started × IsHttp2 client server audited.value.frames.items audited.value.tails
    × runs.IsOrderly audited.value.frames.items
IsHeldBy frames_shown client server outcome.NotHttp2 = IsCut client server NotHttp2
IsHeldBy frames_shown client server outcome.NoPreface = IsCut client server NoPreface
IsHeldBy frames_shown client server outcome.NoHandshake = IsCut client server NoHandshake

-- the same, and how far the flows reach
pub record IsToldOfFlows (frames_shown : Bool) (client server : Flow) (told : Told) : Type 0 where
  pub extents : extents_in told.reach ≡ extents_of client server
  pub held : IsHeldBy frames_shown client server told.outcome

-- what is told of a connection, before anything is found in all frames
pub record IsToldFlows
    (frames_shown : Bool) (capture : List ℕ) (packets : List Packet) (connection : Connection) (made : Told)
    : Type 0 where
  pub flows : Sides Flow
  pub client : IsFlowOf capture packets connection Client flows.client
  pub server : IsFlowOf capture packets connection Server flows.server
  pub told : IsToldOfFlows frames_shown flows.client flows.server made

-- what is told of each connection
abbrev pub AreToldFlows : (frames_shown : Bool) → List ℕ → List Packet → List Connection → List Told → Type 0
AreToldFlows frames_shown capture packets = AllZip (IsToldFlows frames_shown capture packets)

-- audits of the connections, for which this stands
pub record AreToldAudits
    (frames_shown : Bool) (capture : List ℕ) (packets : List Packet) (opened : List Connection) (told : List Told)
    : Type 0 where
  pub audited : List Audited
  pub audits : AreAudited frames_shown capture packets opened audited
  pub stands : AreToldOf told audited
  pub orderly : All (λ (one : Told). HasOrderlyOutcome one.outcome) told

-- a job for each connection, which finds nothing
abbrev pub flow_job : ℕ → Job
flow_job number = record { connection = number; findings = [] }

abbrev pub flow_jobs : List HeldFlows → List Job
flow_jobs held = map flow_job (range_with_len 0 (length held))

-- what is told at once of flows of which this is held, if it is
abbrev pub IsMadeOf : (frames_shown : Bool) → HeldFlows → Option Outcome → Type 0
IsMadeOf frames_shown held made = IfSome made (λ (o : Outcome).
    (client server : Flow) → IsCut client server held.cut → IsHeldBy frames_shown client server o)

abbrev pub AreMadeOf : (frames_shown : Bool) → List HeldFlows → List (Part (Option Outcome)) → Type 0
AreMadeOf frames_shown = AllZip (λ (held : HeldFlows) (part : Part (Option Outcome)).
    IsMadeOf frames_shown held part.made)

-- this is told of flows of which that is held
abbrev pub IsToldHeld : (frames_shown : Bool) → HeldFlows → Told → Type 0
IsToldHeld frames_shown held told =
    (client server : Flow) → HoldsFlows client server held → IsToldOfFlows frames_shown client server told

abbrev pub AreToldHeld : (frames_shown : Bool) → List HeldFlows → List Told → Type 0
AreToldHeld frames_shown = AllZip (IsToldHeld frames_shown)

-- what a round over connections has
pub record FlowView : Type 0 where
  pub frames_shown : Bool
  pub held : List HeldFlows

-- few connections, each with flows
pub record IsFlowView (view : FlowView) : Type 0 where
  pub few : length view.held < 2 ^ 32
  pub flows : All HasFlows view.held
