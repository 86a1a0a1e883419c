use Rattle.std.proofs.Common.{List, ap, append-nil, append_assoc, arith, drop, sym, ℕ, []}
use Rattle.std.proofs.Common.{◌++◌, ◌∙◌, ◌≡◌}
use Rattle.std.proofs.lemmas.List.{drop_all}
use Rattle.audit_report.specs.FlowLine.{flow_line}
use Rattle.audit_report.specs.code.Contents.{opening_line, tail_in}
use Rattle.audit_terms.specs.declared.sides.Side.TheVariants.{Client, Server}
use Rattle.audit_report.proofs.opening_lines.put_opening.Goals as goal

-- three lines, each before what was there, at the end of all
joined : (a b d whole two one none : List ℕ) → whole ≡ a ++ two → two ≡ b ++ one → one ≡ d ++ none → none ≡ []
    → whole ≡ (a ++ b) ++ d
joined a b d whole two one none p q r s =
    p ∙ ap (λ l. a ++ l) (q ∙ ap (λ l. b ++ l) (r ∙ ap (λ l. d ++ l) s ∙ append-nil d)) ∙ sym (append_assoc a b d)

pub returns-clause-made : goal.returns-clause-made
returns-clause-made c =
    let extents = c.args.extents.now in
    let held = c.args.contents in
    joined (opening_line c.args.k c.args.heading held) (flow_line Client extents.client (tail_in Client held))
    (flow_line Server extents.server (tail_in Server held)) _ _ _ (drop 512 c.args.line.now)
    c.put_opening_line.ensures.put (rw c.tail_in-tail-2.ensures at c.put_flow_line-end-2.ensures.put)
    (rw c.tail_in-tail.ensures at c.put_flow_line-end.ensures.put) (drop_all 512 c.args.line.now (omega arith))
