-- Two reports of one capture are the same.
use Rattle.std.proofs.Common.{◌≡◌, ◌∙◌, ℕ, Bool, ◌+◌, ◌||◌, List, [], ◌∷◌, ◌++◌, filter, map, Option, Some, None, refl}
use Rattle.std.proofs.Common.{sym, ap, ap₂, subst}
use Rattle.std.specs.Prelude.{not, if◌then◌else◌}
use Rattle.std.specs.List.{list_any}
use Rattle.audit_terms.specs.Finding.{shown as shown_of}
use Rattle.audit_terms.specs.Kind.{is_fault}
use Rattle.audit_terms.specs.Pass.{pass}
use Rattle.audit_terms.specs.declared.findings.Finding.{Finding}
use Rattle.audit_terms.specs.declared.sides.Sides.{Sides}
use Rattle.audit_report.specs.FlowLine.{extent_of}
use Rattle.audit_report.specs.Section.{connection_text, findings_text, sections_text}
use Rattle.audit_report.specs.declared.audited.Audited.{Audited}
use Rattle.audit_report.specs.declared.extents.Extent.{Extent}
use Rattle.h2_frames.specs.code.SameCut.{IsSameCut}
use Rattle.h2_frames.specs.declared.cuts.Cut.{Cut}
use Rattle.h2_frames.specs.declared.cuts.Cut.TheVariants.{Http2, NotHttp2, NoPreface, NoHandshake}
use Rattle.h2_frames.specs.laws.Unique.{IsSameFlow}
use Rattle.h2_frames.proofs.Uniqueness.{cut-unique}
use Rattle.packet_heads.specs.Decision.{packet_decisions}
use Rattle.packet_heads.specs.declared.packets.Packet.{Packet}
use Rattle.packet_heads.specs.declared.packets.Segment.{Segment}
use Rattle.pcap_records.specs.declared.pcap_record.Record.{Record}
use Rattle.pcap_records.proofs.Unique.{one_reading_lem}
use Rattle.tcp_streams.specs.Bytes.{bytes_of, joined}
use Rattle.tcp_streams.specs.Members.{segments_of}
use Rattle.tcp_streams.specs.Pair.{is_endpoint}
use Rattle.tcp_streams.specs.Sequence.{source}
use Rattle.tcp_streams.specs.code.Past.{Membership, connections_of, membership, past_of}
use Rattle.tcp_streams.specs.declared.members.Connection.{Connection}
use Rattle.tcp_streams.specs.declared.flows.Flow.{Flow}
use Rattle.tcp_streams.proofs.Belongings.{connections-shown}
use Rattle.tcp_streams.proofs.UniqueFlow.{IsFlow-unique}
use Rattle.h2audit.specs.Audited.{AreAudited, IsAudited, findings_of, has_fault}
use Rattle.tcp_streams.specs.{Flow.IsFlowFrom}
use Rattle.h2audit.specs.laws.OneReport.{OneReport}
use Rattle.h2audit.specs.declared.verdict.Verdict.TheVariants.{Clean, Faults}

-- ---- the flow of a side

record IsOneFlow (f g : Flow) : Type 0 where
  pub same : IsSameFlow f g
  pub gap : f.gap ≡ g.gap

one_flow : (isn : Option ℕ) (capture : List ℕ) (segments : List Segment) (f g : Flow)
    → IsFlowFrom isn capture segments f → IsFlowFrom isn capture segments g → IsOneFlow f g
one_flow None capture segments f g h k = record {
  same = record { started = h.0 ∙ sym k.0; bytes = ap joined (h.1 ∙ sym k.1); arrivals = h.2 ∙ sym k.2 };
  gap = h.3 ∙ sym k.3;
}
one_flow (Some isn) capture segments f g h k =
    let parts = IsFlow-unique capture (source isn segments) (bytes_of f) (bytes_of g) f.arrivals.items g.arrivals.items
    f.gap g.gap h.1 k.1 in
    record {
      same = record { started = h.0 ∙ sym k.0; bytes = parts.0; arrivals = parts.1 };
      gap = parts.2;
    }

-- the segments of a side, by the connection's membership
abbrev clients : List Packet → Membership → List Segment
clients packets m = filter (λ (s : Segment). is_endpoint s.from m.client) (segments_of packets m.members)

abbrev servers : List Packet → Membership → List Segment
servers packets m = filter (λ (s : Segment). not (is_endpoint s.from m.client)) (segments_of packets m.members)

abbrev IsClientFlow : List ℕ → List Packet → Membership → Flow → Type 0
IsClientFlow capture packets m flow = IsFlowFrom (Some m.client_isn) capture (clients packets m) flow

abbrev IsServerFlow : List ℕ → List Packet → Membership → Flow → Type 0
IsServerFlow capture packets m flow = IsFlowFrom m.server_isn capture (servers packets m) flow

-- ---- the section of a connection

found_alike : (shown : Bool) (x y : Cut) → IsSameCut x y → findings_of shown x ≡ findings_of shown y
found_alike shown (Http2 frames tails) (Http2 others rests) h = ap (λ frames. shown_of shown (pass frames)) h.0
found_alike shown NotHttp2 NotHttp2 h = refl
found_alike shown NoPreface NoPreface h = refl
found_alike shown NoHandshake NoHandshake h = refl
found_alike _ _ _ h = absurd h

abbrev section_text : Bool → ℕ → Connection → Sides Extent → Cut → List Finding → List ℕ
section_text shown k c flows cut findings = connection_text k c flows cut ++ findings_text shown cut findings

-- what is said of a connection goes by its two endpoints and the record that opens it, and by what its flows hold
told_alike : (shown : Bool) (k : ℕ) (c d : Connection) (flows : Sides Extent) (x y : Cut) (findings : List Finding)
    → c.client ≡ d.client → c.server ≡ d.server → c.rec ≡ d.rec → IsSameCut x y
    → section_text shown k c flows x findings ≡ section_text shown k d flows y findings
told_alike shown k c d flows (Http2 frames tails) (Http2 others rests) findings client server rec h =
    rw (client, server, rec, h.0, h.1) refl
told_alike shown k c d flows NotHttp2 NotHttp2 findings client server rec h = rw (client, server, rec) refl
told_alike shown k c d flows NoPreface NoPreface findings client server rec h = rw (client, server, rec) refl
told_alike shown k c d flows NoHandshake NoHandshake findings client server rec h = rw (client, server, rec) refl
told_alike _ _ _ _ _ _ _ _ client server rec h = absurd h

one_extent : (f g : Flow) → IsOneFlow f g → extent_of f ≡ extent_of g
one_extent f g h = rw (h.same.bytes, h.gap) refl

record IsOneSection (shown : Bool) (c d : Connection) (a b : Audited) : Type 0 where
  pub text : (k : ℕ) → section_text shown k c a.extents a.cut a.findings.items
      ≡ section_text shown k d b.extents b.cut b.findings.items
  pub findings : a.findings.items ≡ b.findings.items

one_section : (shown : Bool) (capture : List ℕ) (packets : List Packet) (c d : Connection) (a b : Audited)
    → membership c ≡ membership d → IsAudited shown capture packets c a → IsAudited shown capture packets d b
    → IsOneSection shown c d a b
one_section shown capture packets c d a b m h k =
    let client = one_flow (Some c.client_isn) capture (clients packets (membership c)) h.flows.client k.flows.client
    h.client (subst (λ (n : Membership). IsClientFlow capture packets n k.flows.client) (sym m) k.client) in
    let server = one_flow c.server_isn capture (servers packets (membership c)) h.flows.server k.flows.server h.server
    (subst (λ (n : Membership). IsServerFlow capture packets n k.flows.server) (sym m) k.server) in
    let cut = cut-unique h.flows.client h.flows.server k.flows.client k.flows.server a.cut b.cut
    client.same server.same h.cut k.cut in
    let found : a.findings.items ≡ b.findings.items =
    h.findings ∙ found_alike shown a.cut b.cut cut ∙ sym k.findings in
    let flows : a.extents ≡ b.extents =
    h.extents
    ∙ ap₂ (λ (one other : Extent). record { client = one; server = other }) (one_extent _ _ client)
    (one_extent _ _ server)
    ∙ sym k.extents in
    record {
      text = λ n. told_alike shown n c d a.extents a.cut b.cut a.findings.items (ap (λ (n : Membership). n.client) m)
          (ap (λ (n : Membership). n.server) m) (ap (λ (n : Membership). n.rec) m) cut
          ∙ ap₂ (λ (e : Sides Extent) (fs : List Finding). section_text shown n d e b.cut fs) flows found;
      findings = found;
    }

-- ---- all connections

record AreOneAudit (shown : Bool) (cs ds : List Connection) (xs ys : List Audited) : Type 0 where
  pub text : (k : ℕ) → sections_text shown k cs xs ≡ sections_text shown k ds ys
  pub faults : list_any has_fault xs ≡ list_any has_fault ys

one_audit : (shown : Bool) (capture : List ℕ) (packets : List Packet) (cs ds : List Connection) (xs ys : List Audited)
    → map membership cs ≡ map membership ds → AreAudited shown capture packets cs xs
    → AreAudited shown capture packets ds ys → AreOneAudit shown cs ds xs ys
one_audit shown capture packets [] [] [] [] m h k = record { text = λ n. refl; faults = refl }
one_audit shown capture packets (c ∷ cs) (d ∷ ds) (a ∷ xs) (b ∷ ys) m h k =
    let here : membership c ≡ membership d = cc in
    let later : map membership cs ≡ map membership ds = cc in
    let first = one_section shown capture packets c d a b here h.0 k.0 in
    let rest = one_audit shown capture packets cs ds xs ys later h.1 k.1 in
    record {
      text = λ n. ap₂ (λ (one more : List ℕ). one ++ more) (first.text n) (rest.text (n + 1));
      faults = ap₂ (λ (p q : Bool). p || q)
          (ap (λ (fs : List Finding). list_any (λ (finding : Finding). is_fault finding.kind) fs)
          first.findings) rest.faults;
    }
one_audit shown capture packets [] (d ∷ ds) xs ys m h k = absurd cc
one_audit shown capture packets (c ∷ cs) [] xs ys m h k = absurd cc
one_audit shown capture packets (c ∷ cs) ds [] ys m h k = absurd h
one_audit shown capture packets cs (d ∷ ds) xs [] m h k = absurd k
one_audit shown capture packets [] ds (a ∷ xs) ys m h k = absurd h
one_audit shown capture packets cs [] xs (b ∷ ys) m h k = absurd k

-- ---- the report

pub one_report_lem : OneReport
one_report_lem bytes shown text other verdict judged x y =
    let reading = one_reading_lem bytes x.found y.found x.reading y.reading in
    let decide : ℕ → List Record → List Packet = λ link rows. packet_decisions link rows bytes in
    let packets : decide x.found.link x.found.rows.items ≡ decide y.found.link y.found.rows.items =
    ap₂ decide reading.0 reading.1 in
    let opened = connections-shown (decide x.found.link x.found.rows.items) x.report.opened x.report.connections
    ∙ ap (λ (p : List Packet). connections_of (past_of p)) packets
    ∙ sym (connections-shown (decide y.found.link y.found.rows.items) y.report.opened y.report.connections) in
    let audits = subst (λ (p : List Packet). AreAudited shown bytes p y.report.opened y.report.audited)
    (sym packets) y.report.audits in
    let same = one_audit shown bytes (decide x.found.link x.found.rows.items) x.report.opened y.report.opened
    x.report.audited y.report.audited opened x.report.audits audits in (
      x.report.spelled ∙ rw (same.text 1, packets, reading.1, reading.2) refl ∙ sym y.report.spelled,
      x.report.judged
          ∙ ap (λ (faults : Bool). if faults then Faults else Clean) same.faults
          ∙ sym y.report.judged,
    )
