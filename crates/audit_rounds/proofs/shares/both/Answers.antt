use Rattle.audit_rounds.proofs.Words.{sym}
use Rattle.audit_rounds.proofs.shares.both.Goals as goal

pub returns : goal.returns
returns g c = record {
  front = c.in_ok-all.all;
  back = c.in_ok-more.more;
  one_made = c.in_ok-all.was;
  other_made = c.in_ok-more.was;
  whole = sym c.in_ok-append.ensures.items;
}
