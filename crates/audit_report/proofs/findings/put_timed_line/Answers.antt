use Rattle.std.proofs.Common.{List, ap, append_assoc, ℕ, ◌++◌, ◌∙◌, ◌≡◌}
use Rattle.std.{specs.Fmt.signed_decimal, specs.Prelude.codes}
use Rattle.audit_terms.specs.{Kind.kind_name, Place.place_number, Place.place_stream, Side.side_name}
use Rattle.audit_terms.specs.declared.timed_findings.TimedFinding.{TimedFinding}
use Rattle.audit_report.specs.{FindingLine.timed_line, Line.field}
use Rattle.audit_report.specs.{code.Findings.moment_text, code.Findings.said_text}
use Rattle.audit_report.proofs.findings.put_timed_line.Goals as goal

-- four pieces, each before what was there
joined : (a b d e whole three two one : List ℕ) → whole ≡ a ++ three → three ≡ b ++ two → two ≡ d ++ one → one ≡ e
    → whole ≡ a ++ (b ++ (d ++ e))
joined a b d e whole three two one p q r s = p ∙ ap (λ l. a ++ l) (q ∙ ap (λ l. b ++ l) (r ∙ ap (λ l. d ++ l) s))

regroup : (a b c d e f g h i j k : List ℕ) → a ++ ((b ++ c) ++ ((d ++ e ++ f ++ g ++ h ++ i ++ j) ++ k))
    ≡ (a ++ b ++ c ++ d ++ e ++ f ++ g ++ h ++ i ++ j) ++ k
regroup a b c d e f g h i j k = simp append_assoc

-- the line of a finding, with this number
abbrev text_at : TimedFinding → (number : ℕ) → List ℕ
text_at one number = field (codes "frame ") number
    ++ (moment_text one.rec one.nanos ++ (said_text one ++ codes "\n"))

parts : (one : TimedFinding) → text_at one (place_number one.place) ≡ timed_line one
parts one =
    regroup (field (codes "frame ") (place_number one.place)) (field (codes " record ") one.rec)
    (field (codes " time ") one.nanos) (codes " ") (side_name one.side) (codes " ") (kind_name one.kind)
    (field (codes " stream ") (place_stream one.place)) (codes " value ") (signed_decimal one.value) (codes "\n")

pub returns-clause-made : goal.returns-clause-made
returns-clause-made c =
    let one = c.args.one.now in
    let moment = rw (c.go_to.ensures.rec, c.go_to.ensures.nanos) at c.text.ensures.text in
    joined (field (codes "frame ") c.number.result) (moment_text one.rec one.nanos) (said_text one) (codes "\n")
    _ _ _ _ c.put_field.ensures.put (rw moment at c.put_text-end.ensures.put) c.put_said-end.ensures.put
    c.put_last-end.ensures.put
    ∙ ap (text_at one) c.number.ensures ∙ parts one
