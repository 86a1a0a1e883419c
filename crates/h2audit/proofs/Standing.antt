-- What is kept of connections makes the text of the audits that it stands for.
use Rattle.std.proofs.Common.{◌≡◌, ℕ, ◌+◌, Bool, List, [], ◌∷◌, ◌++◌, ◌∙◌, map, refl, ap, append_assoc, length}
use Rattle.std.specs.Prelude.{codes}
use Rattle.audit_report.specs.{EndLine.end_line, StallLine.stall_lines, Stalls.stalls}
use Rattle.audit_report.specs.ConnectionLine.{contents_text, heading_text}
use Rattle.audit_report.specs.{FlowLine.flow_line, FlowLine.tail_of, Line.field, Line.line, code.Roles.roles_text}
use Rattle.audit_report.specs.Section.{connection_text, findings_text, sections_text}
use Rattle.audit_report.specs.code.{Contents.opening_text, Heading.headed_text}
use Rattle.audit_report.specs.declared.{audited.Audited.Audited, contents.Contents.Contents, extents.Extent.Extent}
use Rattle.audit_report.specs.declared.contents.Contents.TheVariants as contents
use Rattle.audit_terms.specs.declared.{findings.Finding.Finding, sides.Sides.Sides}
use Rattle.audit_terms.specs.declared.sides.Side.TheVariants.{Client, Server}
use Rattle.h2_frames.specs.declared.cuts.Cut.{Cut}
use Rattle.h2_frames.specs.declared.cuts.Cut.TheVariants.{Http2, NotHttp2, NoPreface, NoHandshake}
use Rattle.h2audit.proofs.TimedFindings.{alone, lines-timed}
use Rattle.h2audit.specs.code.Headings.{heading_of}
use Rattle.report_pages.specs.code.Sections.{outcome_text, told_text}
use Rattle.report_pages.specs.code.Told.{AreToldOf, IsOutcomeOf, contents_in}
use Rattle.report_pages.specs.declared.{told.Outcome.Outcome, told.Told.Told}
use Rattle.report_pages.specs.declared.told.Outcome.TheVariants as outcome
use Rattle.tcp_streams.specs.declared.members.Connection.{Connection}

-- the contents of a cut
abbrev contents_of : Cut → Contents
contents_of (Http2 frames tails) = contents.Http2 (length frames.items) tails
contents_of NotHttp2 = contents.NotHttp2
contents_of NoPreface = contents.NoPreface
contents_of NoHandshake = contents.NoHandshake

regroup : (a b c d e f : List ℕ) → a ++ (b ++ c ++ d ++ e) ++ f ≡ a ++ b ++ c ++ d ++ e ++ f
regroup a b c d e f = simp append_assoc

-- the ends of the connection in the midst of its heading
heading-is : (k : ℕ) (c : Connection) → headed_text k (heading_of c) ≡ heading_text k c
unfolding roles_text
heading-is k c = regroup (field (codes "connection ") k) (codes " client ") _ (codes " server ") _ _

-- the lines of a connection need of it the heading, and of its cut the contents alone
pub opening-is : (k : ℕ) (c : Connection) (e : Sides Extent) (cut : Cut)
    → opening_text k (heading_of c) e (contents_of cut) ≡ connection_text k c e cut
opening-is k c e cut = contents-are cut
    ∙ ap (λ l. line (l ++ codes " " ++ contents_text cut) ++ flow_line Client e.client (tail_of Client cut)
    ++ flow_line Server e.server (tail_of Server cut)) (heading-is k c)
  where
    contents-are : (cut : Cut) → opening_text k (heading_of c) e (contents_of cut)
        ≡ line (headed_text k (heading_of c) ++ codes " " ++ contents_text cut)
        ++ flow_line Client e.client (tail_of Client cut) ++ flow_line Server e.server (tail_of Server cut)
    contents-are (Http2 frames tails) = refl
    contents-are NotHttp2 = refl
    contents-are NoPreface = refl
    contents-are NoHandshake = refl

contents-same : (o : Outcome) (cut : Cut) (findings : List Finding) → IsOutcomeOf o cut findings
    → contents_in o ≡ contents_of cut
contents-same (outcome.Quiet quiet) (Http2 frames tails) findings h = rw (h.0, h.1) refl
contents-same (outcome.Found found) (Http2 frames tails) findings h = rw (h.0, h.1) refl
contents-same (outcome.Audited audited) (Http2 frames tails) findings h = rw (h.0, h.1) refl
contents-same outcome.NotHttp2 NotHttp2 findings h = refl
contents-same outcome.NoPreface NoPreface findings h = refl
contents-same outcome.NoHandshake NoHandshake findings h = refl
contents-same _ _ findings h = absurd h

outcome-same : (shown : Bool) (o : Outcome) (cut : Cut) (findings : List Finding) → IsOutcomeOf o cut findings
    → outcome_text shown o ≡ findings_text shown cut findings
outcome-same shown (outcome.Quiet quiet) (Http2 frames tails) findings h = rw h.2 refl
outcome-same shown (outcome.Found found) (Http2 frames tails) findings h = rw (h.2, h.3, alone frames.items findings)
    (ap (λ l. l ++ stall_lines (stalls frames.items findings) ++ end_line findings)
    (lines-timed frames.items shown findings))
outcome-same shown (outcome.Audited audited) (Http2 frames tails) findings h = rw (h.0, h.2, h.3) refl
outcome-same shown outcome.NotHttp2 NotHttp2 findings h = refl
outcome-same shown outcome.NoPreface NoPreface findings h = refl
outcome-same shown outcome.NoHandshake NoHandshake findings h = refl
outcome-same shown _ _ findings h = absurd h

pub told-same : (shown : Bool) (k : ℕ) (connections : List Connection) (told : List Told) (audited : List Audited)
    → AreToldOf told audited
    → told_text shown k (map heading_of connections) told ≡ sections_text shown k connections audited
told-same shown k [] told audited h = refl
told-same shown k (c ∷ cs) [] [] h = refl
told-same shown k (c ∷ cs) [] (a ∷ audited) h = absurd h
told-same shown k (c ∷ cs) (t ∷ told) [] h = absurd h
told-same shown k (c ∷ cs) (t ∷ told) (a ∷ audited) h =
    let findings = a.findings.items in
    ap (λ e. (opening_text k (heading_of c) e (contents_in t.outcome) ++ outcome_text shown t.outcome)
    ++ told_text shown (k + 1) (map heading_of cs) told) h.0.extents
    ∙ ap (λ held. (opening_text k (heading_of c) a.extents held ++ outcome_text shown t.outcome)
    ++ told_text shown (k + 1) (map heading_of cs) told) (contents-same t.outcome a.cut findings h.0.outcome)
    ∙ ap (λ l. (l ++ outcome_text shown t.outcome) ++ told_text shown (k + 1) (map heading_of cs) told)
    (opening-is k c a.extents a.cut)
    ∙ ap (λ l. (connection_text k c a.extents a.cut ++ l) ++ told_text shown (k + 1) (map heading_of cs) told)
    (outcome-same shown t.outcome a.cut findings h.0.outcome)
    ∙ ap (λ l. (connection_text k c a.extents a.cut ++ findings_text shown a.cut findings) ++ l)
    (told-same shown (k + 1) cs told audited h.1)
