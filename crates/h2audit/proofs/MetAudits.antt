-- What is told of the connections of a capture that is audited as it is read.
use Rattle.std.specs.List.{AllZip}
use Rattle.std.proofs.Common.{◌≡◌, ◌<◌, ◌^◌, ◌∙◌, ◌++◌, ◌∷◌, ℕ, [], Bool, List, Vec, Global, ap, arith}
use Rattle.std.proofs.Common.{find, length}
use Rattle.std.proofs.Common.{map, option_map, refl, sym, ◌⊎◌, Err, IfErr, IfOk, IfSome, None, Ok, OnOk, Option, Result}
use Rattle.std.proofs.Common.{Some, inl, inr, subst}
use Rattle.std.specs.Prelude.{IsOk}
use Rattle.std.proofs.lemmas.List.{length-map}
use Rattle.audit_report.specs.CaptureLines.{capture_text}
use Rattle.audit_report.specs.Section.{sections_text}
use Rattle.audit_report.specs.code.Packets.{AreRecordsOf}
use Rattle.audit_report.specs.declared.headings.SectionHeading.{SectionHeading}
use Rattle.packet_heads.specs.declared.packets.{Packet.Packet, Segment.Segment}
use Rattle.report_pages.specs.declared.told.{Outcome.Outcome, Told.Told}
use Rattle.tcp_streams.specs.Membership.{AreConnections, IsConnectionOf, belongings, is_answer, members, strays_of}
use Rattle.tcp_streams.specs.declared.members.{Connection.Connection, Stray.Stray}
use Rattle.audit_report.specs.FlowLine.{extents_of}
use Rattle.audit_terms.specs.declared.sides.Sides.{Sides}
use Rattle.packet_heads.specs.code.Order.{AreNumberedFrom}
use Rattle.packet_heads.specs.code.Walk.{AreDecisionsOn, HasMet}
use Rattle.quiet_pass.specs.code.FoundFlows.{IsFoundCut}
use Rattle.quiet_pass.specs.declared.found_connections.FoundConnection.{FoundConnection}
use Rattle.quiet_pass.specs.declared.found_visitor.FoundCut.{FoundCut}
use Rattle.quiet_pass.specs.declared.found_visitor.FoundCut.TheVariants as found
use Rattle.report_pages.specs.code.Reach.{extents_in}
use Rattle.report_pages.specs.declared.reach.Reach.{Reach}
use Rattle.report_pages.specs.declared.told.Outcome.TheVariants as outcome
use Rattle.tcp_streams.specs.code.{Opened.IsVisited, Side.Sent}
use Rattle.tcp_streams.specs.declared.flows.Flow.{Flow}
use Rattle.pcap_records.specs.Refusal.{refusal}
use Rattle.pcap_records.specs.declared.faults.PcapFault.{PcapFault}
use Rattle.pcap_records.specs.declared.faults.PcapFault.TheVariants as fault
use Rattle.std.proofs.lemmas.Result.{IfOk-weaker}
use Rattle.h2audit.proofs.Flows.{held-found}
use Rattle.h2audit.proofs.Kept.{unrefused}
use Rattle.h2audit.specs.Report.{IsNoReport, IsReport, packets_of}
use Rattle.h2audit.specs.declared.fault.AuditFault.{AuditFault}
use Rattle.h2audit.specs.declared.fault.AuditFault.TheVariants as audit_fault
use Rattle.h2audit.specs.declared.met_captures.MetCapture.{MetCapture}
use Rattle.h2audit.specs.declared.verdict.Verdict.{Verdict}
use Rattle.h2audit.proofs.Opened.{decisions-length, members-in}
use Rattle.h2audit.proofs.ToldAudits.{list-of}
use Rattle.h2audit.specs.Audited.{AreAudited}
use Rattle.h2audit.specs.code.Headings.{heading_of}
use Rattle.h2audit.specs.code.KeptFrames.{frames_of}
use Rattle.h2audit.specs.code.Flows.{AreToldAudits, AreToldFlows, KeepsFound}
use Rattle.h2audit.specs.code.Met.{HasMetPackets, HasMetSegments, IsMetEnd, IsToldOfOpening, IsToldWhole}
use Rattle.h2audit.specs.code.Met.{heading_by}
use Rattle.h2audit.specs.code.Writing.{AreLinesOf, IsToldBehind}
use Rattle.h2audit.specs.declared.met_connections.MetConnection.{MetConnection}

-- the connection that a SYN opened; its list of members lies where another list does
pub record Opened (packets : List Packet) (o : Segment) : Type 0 where
  pub connection : Connection
  pub is : IsConnectionOf (belongings packets) o connection
  pub headed : heading_by o ≡ heading_of connection

pub opened : {X : Type 0} (place : Vec X Global) (packets : List Packet) → length packets < 2 ^ 32
    → (o : Segment) → Opened packets o
opened place packets few o =
    let all = members o (belongings packets) in
    let long = length-map all (λ (s : Segment). s.rec) in
    let fits = members-in o packets in
    record {
      connection = record {
        client = o.from;
        server = o.to;
        rec = o.rec;
        client_isn = o.seq;
        server_isn = option_map (λ (s : Segment). s.seq) (find (is_answer o) all);
        members = list-of place (map (λ (s : Segment). s.rec) all) (omega (arith, long, fits, few));
      };
      is = record {
        client = refl;
        server = refl;
        rec = refl;
        client_isn = refl;
        server_isn = refl;
        members_are = refl;
      };
      headed = refl;
    }

-- the outcome keeps what was found as frames were met
abbrev pub KeepsMet : Outcome → FoundCut → Type 0
KeepsMet o (found.Http2 http2) = KeepsFound o http2
KeepsMet o found.NotHttp2 = o ≡ outcome.NotHttp2
KeepsMet o found.NoPreface = o ≡ outcome.NoPreface
KeepsMet o found.NoHandshake = o ≡ outcome.NoHandshake

pub keeps-http2 : (o made : Outcome) (cut : FoundCut) (http2 : FoundConnection) → cut ≡ found.Http2 http2 → o ≡ made
    → KeepsFound made http2 → KeepsMet o cut
keeps-http2 o made cut http2 is same keeps = rw (is, same) keeps

none-kept : (o : Outcome) (http2 : FoundConnection) → KeepsFound o http2 → frames_of o ≡ []
none-kept (outcome.Quiet quiet) http2 keeps = refl
none-kept (outcome.Found made) http2 keeps = refl
none-kept _ http2 keeps = absurd keeps

-- so nothing is left to be audited
pub told-whole : (credits : Bool) (client server : Flow) (reach : Sides Reach) (o : Outcome) (cut : FoundCut)
    → KeepsMet o cut
    → IsFoundCut credits client server cut → extents_in reach ≡ extents_of client server
    → IsToldWhole credits client server (record { reach = reach; outcome = o })
told-whole credits client server reach o (found.Http2 http2) keeps is extents =
    let held = held-found credits client server http2 o keeps is in
    record { flows = record { extents = extents; held = held }; whole = none-kept o http2 keeps }
told-whole credits client server reach o found.NotHttp2 keeps is extents =
    rw keeps (record { flows = record { extents = extents; held = is }; whole = refl })
told-whole credits client server reach o found.NoPreface keeps is extents =
    rw keeps (record { flows = record { extents = extents; held = is }; whole = refl })
told-whole credits client server reach o found.NoHandshake keeps is extents =
    rw keeps (record { flows = record { extents = extents; held = is }; whole = refl })

-- what is made of each connection at its end, whatever it was handed
abbrev pub Answers : {V M : Type 0} → (Segment → List Sent → ℕ → V → Type 0)
    → (List ℕ → List Packet → Segment → M → Type 0) → MetConnection V → M → Type 0
Answers after of connection made =
    (capture : List ℕ) (packets : List Packet) (opening : Segment) → AreNumberedFrom 1 packets
    → IsVisited (HasMetSegments after) capture packets opening connection → of capture packets opening made

-- the headings of connections that were visited
pub visited-headings : {V : Type 0} (after : Segment → List Sent → ℕ → V → Type 0) (capture : List ℕ)
    (packets : List Packet) (os : List Segment) (all : List (MetConnection V))
    → AllZip (IsVisited (HasMetSegments after) capture packets) os all
    → map (λ (c : MetConnection V). heading_by c.opening) all ≡ map heading_by os
visited-headings after capture packets [] [] visited = refl
visited-headings after capture packets [] (c ∷ all) visited = absurd visited
visited-headings after capture packets (o ∷ os) [] visited = absurd visited
visited-headings {V} after capture packets (o ∷ os) (c ∷ all) visited =
    ap (λ (s : Segment). heading_by s ∷ map (λ (c : MetConnection V). heading_by c.opening) all)
    visited.0.visited.opened
    ∙ ap (λ (hs : List SectionHeading). heading_by o ∷ hs) (visited-headings after capture packets os all visited.1)

-- the connections that these openings are of, of whose flows this is told
pub record OpenedTold (credits : Bool) (capture : List ℕ) (packets : List Packet) (os : List Segment)
    (told : List Told) : Type 0 where
  pub connections : List Connection
  pub opened : AllZip (IsConnectionOf (belongings packets)) os connections
  pub headed : map heading_by os ≡ map heading_of connections
  pub flows : AreToldFlows credits capture packets connections told

module _ {X : Type 0} (place : Vec X Global) (credits : Bool) (capture : List ℕ) (packets : List Packet)
    (few : length packets < 2 ^ 32) where
  pub opened-told : (os : List Segment) (told : List Told) → AllZip (IsToldOfOpening credits capture packets) os told
      → OpenedTold credits capture packets os told
  unfolding opened
  opened-told [] [] each = record { connections = []; opened = tt; headed = refl; flows = tt }
  opened-told [] (one ∷ told) each = absurd each
  opened-told (o ∷ os) [] each = absurd each
  opened-told (o ∷ os) (one ∷ told) each =
      let first = opened place packets few o in
      let rest = opened-told os told each.1 in
      record {
        connections = first.connection ∷ rest.connections;
        opened = (first.is, rest.opened);
        headed = ap (λ (hs : List SectionHeading). heading_by o ∷ hs) rest.headed;
        flows = (each.0.flows first.connection first.is, rest.flows);
      }

-- the report of a capture with these packets, of whose connections this is told behind its lines
pub report-behind : (capture : List ℕ) (packets : List Packet) (cut : Option ℕ) (credits : Bool)
    (lines : List ℕ) (headings : List SectionHeading) (told : List Told) (text : List ℕ) (verdict : Verdict)
    (connections : List Connection) (strays : List Stray) → refusal capture ≡ None
    → AreDecisionsOn capture packets cut → AreConnections packets connections
    → headings ≡ map heading_of connections → strays ≡ strays_of packets → AreLinesOf packets cut strays lines
    → AreToldAudits credits capture packets connections told
    → IsToldBehind credits lines headings told text verdict → IsReport capture credits text verdict
report-behind capture packets cut credits lines headings told text verdict connections strays taken decided opened
    headed strayed lines_of audits behind =
    let found = decided.records in
    let given : packets ≡ packets_of capture found = decided.exact in
    let rows : length packets ≡ length found.rows.items =
    ap length given ∙ decisions-length found.link found.rows.items capture in
    let are : AreRecordsOf packets cut found = record { count = sym rows; cut_is = decided.cut } in
    let audited = audits.audited in
    let told_text = behind connections audited headed audits.stands in
    record {
      found = found;
      taken = taken;
      reading = decided.reading;
      report = record {
        opened = connections;
        audited = audited;
        connections = subst (λ (p : List Packet). AreConnections p connections) given opened;
        audits = subst (λ (p : List Packet). AreAudited credits capture p connections audited) given audits.audits;
        spelled = told_text.0
            ∙ ap (λ (l : List ℕ). l ++ sections_text credits 1 connections audited) (lines_of found are)
            ∙ ap (λ (s : List Stray). capture_text found packets s ++ sections_text credits 1 connections audited)
            strayed
            ∙ ap (λ (p : List Packet). capture_text found p (strays_of p)
            ++ sections_text credits 1 connections audited) given;
        judged = told_text.1;
      };
    }

module _ {V : Type 0} (after : Segment → List Sent → ℕ → V → Type 0) where
  -- how a walk ends that was fed a whole capture
  pub fed-end : (capture : List ℕ) (r : Result (MetCapture V × Option ℕ) PcapFault) → OnOk r (refusal capture ≡ None)
      → IfOk r (λ found. HasMet (HasMetPackets after) capture found.0 found.1)
      → IfSome (refusal capture) (λ e. r ≡ Err e)
      → IfErr r (λ e. refusal capture ≡ Some e) → IsMetEnd after capture r
  fed-end capture (Ok found) taken met refused err = (taken, met)
  fed-end capture (Err fault.OutOfMemory) taken met refused err =
      unrefused capture (Err fault.OutOfMemory) (refusal capture) refl refused refl
  fed-end capture (Err fault.ShortHeader) taken met refused err = err
  fed-end capture (Err fault.BadMagic) taken met refused err = err
  fed-end capture (Err fault.BadVersion) taken met refused err = err
  fed-end capture (Err fault.LinkType) taken met refused err = err
  fed-end capture (Err fault.TooLarge) taken met refused err = err

-- what is answered of a report that is put in memory as a whole
module _ (capture : List ℕ) (credits : Bool) (audited : Result (List ℕ × Verdict) AuditFault)
    (r : Result (Vec ℕ Global × Verdict) AuditFault) where
  pub ok-in-bytes : IfOk audited (λ a. IsReport capture credits a.0 a.1)
      → IfOk r (λ b. audited ≡ Ok (b.0.items, b.1)) → IfOk r (λ b. IsReport capture credits b.0.items b.1)
  ok-in-bytes report is = IfOk-weaker r _ _
      (λ b same. subst (λ a. IfOk a (λ t. IsReport capture credits t.0 t.1)) same report) is

  no-report : (e : AuditFault) → IfOk audited (λ a. IsReport capture credits a.0 a.1)
      → IfErr audited (IsNoReport capture)
      → (audited ≡ Err e) ⊎ (IsOk audited × (e ≡ audit_fault.OutOfMemory)) → IsNoReport capture e
  no-report e report refused (inl same) = subst (λ a. IfErr a (IsNoReport capture)) same refused
  no-report e report refused (inr (ok, wanting)) = rw wanting (of audited report ok) where
    of : (a : Result (List ℕ × Verdict) AuditFault) → IfOk a (λ t. IsReport capture credits t.0 t.1) → IsOk a
        → refusal capture ≡ None
    of (Ok t) report ok = report.taken
    of (Err e) report ok = absurd cc

  pub err-in-bytes : IfOk audited (λ a. IsReport capture credits a.0 a.1) → IfErr audited (IsNoReport capture)
      → IfErr r (λ e. (audited ≡ Err e) ⊎ (IsOk audited × (e ≡ audit_fault.OutOfMemory)))
      → IfErr r (λ e. IsNoReport capture e)
  err-in-bytes report refused is = either r is where
    either : (r : Result (Vec ℕ Global × Verdict) AuditFault)
        → IfErr r (λ e. (audited ≡ Err e) ⊎ (IsOk audited × (e ≡ audit_fault.OutOfMemory)))
        → IfErr r (λ e. IsNoReport capture e)
    either (Ok b) is = is
    either (Err e) is = no-report e report refused is
