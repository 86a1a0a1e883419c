-- What is shown of findings put in order, cut and joined.
use Rattle.audit_terms.proofs.{ShownFindings.in_order-shown, UptoStop.upto_stop-shown}
use Rattle.audit_terms.specs.declared.findings.Finding.{Finding}
use Rattle.split_merge.proofs.Terms.{Bool, List, arith, shown, ◌≡◌, in_order, upto_stop}

-- both together: a merge of what is shown is what is shown of the merge
pub merge-shown : (frames_shown : Bool) (xs : List Finding) →
    upto_stop (in_order (shown frames_shown xs)) ≡ shown frames_shown (upto_stop (in_order xs))
merge-shown frames_shown xs = grind (arith, in_order-shown, upto_stop-shown)
