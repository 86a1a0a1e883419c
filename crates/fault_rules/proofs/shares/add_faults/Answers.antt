use Rattle.std.proofs.lemmas.{Bool.eqb-true, List.nil_from_length}
use Rattle.fault_rules.proofs.Terms.{append-nil, arith, sym}
use Rattle.fault_rules.proofs.shares.add_faults.Goals as goal

pub returns-then-is_empty : goal.returns-then-is_empty
returns-then-is_empty c =
    let said = c.say_local.new.found in
    let none = nil_from_length said.items (omega (arith, said.ok.0, eqb-true _ _ (sym c.if-is_empty.ensures))) in
    rw (← (rw c.clear.ensures.items at c.in_ok-say_local.ensures), none, append-nil c.args.found.now.items)
