use Rattle.audit_rounds.proofs.Words.{refl}
use Rattle.audit_rounds.proofs.Lists.{never-fall}
use Rattle.audit_rounds.proofs.per_connection.PerConnection.close.Goals as goal

pub returns : goal.returns
returns c = record {
  same = refl;
  opened = record {
    same = rw (c.as_slice.ensures.value) at (rw c.in_ok-extend_from_slice.ensures.items
        at c.in_ok-sort.ensures.permutation);
    rising = never-fall _ c.in_ok-sort.ensures.sorted;
  };
}
