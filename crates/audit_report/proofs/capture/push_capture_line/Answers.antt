use Rattle.std.proofs.Common.{◌≡◌, ℕ, List, ◌++◌, OnOk, subst, append_assoc}
use Rattle.std.specs.{Prelude.codes}
use Rattle.audit_report.specs.declared.tally.Tally.{Tally}
use Rattle.audit_report.{specs.Line.field, specs.code.Packets.tally_counts, proofs.Joins.three}
use Rattle.audit_report.proofs.capture.push_capture_line.Goals as goal

regroup : (a b c d e f g : List ℕ) → a ++ (b ++ c ++ d ++ e ++ f ++ g) ≡ a ++ b ++ c ++ d ++ e ++ f ++ g
regroup a b c d e f g = simp append_assoc

counted : List ℕ → Tally → List ℕ
counted front tally = front ++ field (codes " segments ") tally.segments
    ++ field (codes " snapped ") tally.snapped
    ++ field (codes " not-ipv4 ") tally.not_ipv4
    ++ field (codes " fragments ") tally.fragments
    ++ field (codes " not-tcp ") tally.not_tcp
    ++ field (codes " refused ") tally.refused

-- the counts behind the front of the line
counted-is : (front : List ℕ) (tally : Tally) → front ++ tally_counts tally ≡ counted front tally
unfolding counted
counted-is front tally = regroup front _ _ _ _ _ _

pub returns : goal.returns
unfolding counted
returns c =
    let tally = c.args.tally.now in
    let front = field (codes "capture records ") c.args.count in
    let pushed = three c.push_word.result _ _ _ _ front (tally_counts tally) (codes "\n") c.in_ok-push_field.ensures
    c.in_ok-push_packet_counts.ensures c.push_word.ensures in
    subst (λ l. OnOk c.push_word.result (c.push_word.new.out.items ≡ c.args.out.now.items ++ (l ++ codes "\n")))
    (counted-is front tally) pushed
