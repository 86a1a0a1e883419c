use Rattle.stop_desk.proofs.RoundCuts.{front_is_cut_lem, whole_is_cut_lem, cuts_join_lem}
use Rattle.stop_desk.proofs.laws.cuts_join.Goals as goal

pub returns-clause-front : goal.returns-clause-front
returns-clause-front c = front_is_cut_lem

pub returns-clause-whole : goal.returns-clause-whole
returns-clause-whole c = whole_is_cut_lem

pub returns-clause-join : goal.returns-clause-join
returns-clause-join c = cuts_join_lem
