-- A connection of which something may be shown, while its segments come.
use Rattle.std.specs.Prelude.{◌≡◌, Bool, ℕ, List, Some}
use Rattle.audit_terms.specs.declared.frames.Frame.{Frame}
use Rattle.h2_frames.specs.Cut.{IsCut}
use Rattle.h2_frames.specs.code.ConnectionFrames.{EndsSo, HasTakenSent}
use Rattle.h2_frames.specs.declared.cuts.Cut.TheVariants.{NoHandshake as CutNoHandshake, NoPreface as CutNoPreface}
use Rattle.h2_frames.specs.declared.cuts.Cut.TheVariants.{NotHttp2 as CutNotHttp2}
use Rattle.packet_heads.specs.declared.packets.Segment.{Segment}
use Rattle.tcp_streams.specs.code.{SentFlows.AreFlowsSent, Side.AreSentIn, Side.Sent}
use Rattle.tcp_streams.specs.declared.flows.Flow.{Flow}
use Rattle.quiet_pass.specs.code.FoundConnections.{IsFoundOf}
use Rattle.quiet_pass.specs.code.FoundPass.{IsFoundAfter}
use Rattle.quiet_pass.specs.declared.connection_findings.ConnectionFindings.{ConnectionFindings}
use Rattle.quiet_pass.specs.declared.connection_findings.FoundFlows.{FoundFlows}
use Rattle.quiet_pass.specs.declared.found_visitor.FoundCut.{FoundCut}
use Rattle.quiet_pass.specs.declared.found_visitor.FoundCut.TheVariants.{Http2, NoHandshake, NoPreface, NotHttp2}
use Rattle.quiet_pass.specs.declared.found_visitor.FoundVisitor.{FoundVisitor}

-- the frames were met, where credits are shown or are not
pub record HaveBeenMet {S : Type 0} (frames_shown : Bool) (frames : List Frame)
    (visitor : FoundVisitor S) : Type 0 where
  pub showing : visitor.pass.frames_shown ≡ frames_shown
  pub found : IsFoundAfter frames visitor.pass

-- of a connection that a SYN opened these segments were taken, none of a record above `last`, and the frames of their
-- flows met
abbrev pub HasMetSent : {S : Type 0} → (frames_shown : Bool) → (opening : Segment) → List Sent → (last : ℕ)
    → ConnectionFindings S → Type 0
HasMetSent frames_shown opening sent last stage =
    HasTakenSent (HaveBeenMet frames_shown) opening sent last stage.frames

-- what two flows hold, and what is shown of it
abbrev pub IsFoundCut : (frames_shown : Bool) → (client server : Flow) → FoundCut → Type 0
IsFoundCut frames_shown client server (Http2 found) = IsFoundOf frames_shown client server found
IsFoundCut frames_shown client server NotHttp2 = IsCut client server CutNotHttp2
IsFoundCut frames_shown client server NoPreface = IsCut client server CutNoPreface
IsFoundCut frames_shown client server NoHandshake = IsCut client server CutNoHandshake

-- the same, and where they end
pub record AreFoundFlows (frames_shown : Bool) (client server : Flow) (all : FoundFlows) : Type 0 where
  pub cut : IsFoundCut frames_shown client server all.cut
  pub client_end : EndsSo client all.client
  pub server_end : EndsSo server all.server

-- so it is of both flows of these segments, of whatever capture they were sent in
abbrev pub IsFoundOfSent : (frames_shown : Bool) → (opening : Segment) → List Sent → FoundFlows → Type 0
IsFoundOfSent frames_shown opening sent all =
    (capture : List ℕ) (client server : Flow) → AreSentIn (Some capture) sent
    → AreFlowsSent capture opening sent client server → AreFoundFlows frames_shown client server all
