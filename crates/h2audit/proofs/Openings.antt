-- What is told of the openings of a capture.
use Rattle.std.specs.List.{AllZip}
use Rattle.std.proofs.Common.{◌≡◌, ◌<◌, ◌^◌, ℕ, Bool, All, Global, List, Vec, [], ◌∷◌, length}
use Rattle.std.proofs.lemmas.List.Elements.{All-cons, All-nil}
use Rattle.packet_heads.specs.declared.packets.{Packet.Packet, Segment.Segment}
use Rattle.report_pages.specs.declared.told.Told.{Told}
use Rattle.h2audit.proofs.MetAudits.{opened}
use Rattle.h2audit.proofs.Zips.{zip-through}
use Rattle.h2audit.specs.code.Flows.{AreToldHeld, IsToldHeld}
use Rattle.h2audit.specs.code.KeptFrames.{frames_of}
use Rattle.h2audit.specs.code.Listed.{HasFlows, IsHeldOfOpening}
use Rattle.h2audit.specs.code.Met.{IsToldOfOpening, IsWholeOfOpening}
use Rattle.h2audit.specs.declared.listed_connections.HeldFlows.{HeldFlows}

module _ (capture : List ℕ) (packets : List Packet) where
  -- of flows that are held this is told
  pub held-told : (credits : Bool) (os : List Segment) (held : List HeldFlows) (told : List Told)
      → AllZip (IsHeldOfOpening capture packets) os held → AreToldHeld credits held told
      → AllZip (IsToldOfOpening credits capture packets) os told
  held-told credits = zip-through (IsHeldOfOpening capture packets) (IsToldHeld credits)
      (IsToldOfOpening credits capture packets) (λ o held told is tells. record {
        flows = λ connection of.
            let of_flows = is.flows connection of in
            record {
              flows = of_flows.flows;
              client = of_flows.client;
              server = of_flows.server;
              told = tells of_flows.flows.client of_flows.flows.server of_flows.holds;
            };
      })

  -- which there are
  pub all-held : {X : Type 0} (place : Vec X Global) → length packets < 2 ^ 32 → (os : List Segment)
      (held : List HeldFlows) → AllZip (IsHeldOfOpening capture packets) os held → All HasFlows held
  all-held place few [] [] each = All-nil HasFlows
  all-held place few [] (h ∷ held) each = absurd each
  all-held place few (o ∷ os) [] each = absurd each
  all-held place few (o ∷ os) (h ∷ held) each =
      let first = opened place packets few o in
      let of_flows = each.0.flows first.connection first.is in
      All-cons HasFlows h held (of_flows.flows, of_flows.holds.cut) (all-held place few os held each.1)

  -- what is told where no frame is left to be audited
  pub whole-told : (credits : Bool) (os : List Segment) (told : List Told)
      → AllZip (IsWholeOfOpening credits capture packets) os told
      → AllZip (IsToldOfOpening credits capture packets) os told
  whole-told credits [] [] each = tt
  whole-told credits [] (one ∷ told) each = absurd each
  whole-told credits (o ∷ os) [] each = absurd each
  whole-told credits (o ∷ os) (one ∷ told) each = (each.0.told_of, whole-told credits os told each.1)

  pub all-whole : (credits : Bool) (os : List Segment) (told : List Told)
      → AllZip (IsWholeOfOpening credits capture packets) os told
      → All (λ (one : Told). frames_of one.outcome ≡ []) told
  all-whole credits [] [] each = All-nil (λ (one : Told). frames_of one.outcome ≡ [])
  all-whole credits [] (one ∷ told) each = absurd each
  all-whole credits (o ∷ os) [] each = absurd each
  all-whole credits (o ∷ os) (one ∷ told) each =
      All-cons (λ (one : Told). frames_of one.outcome ≡ []) one told each.0.whole (all-whole credits os told each.1)
