use Rattle.capture_parts.proofs.Terms.{Deals, HaveHeld, List, length, take, ℕ, ◌+◌, ◌≡◌}
use Rattle.capture_parts.proofs.files.split_between.Given as goal

abbrev pub invariant-loop-index : goal.invariant-loop-index
invariant-loop-index g l = (given : List ℕ)
    × HaveHeld g.O.Outside.does g.F.Read.remaining l.header l.initial.outside (take l.index l.between) given l.outside
    × (l.splitter.dealing.count ≡ l.initial.splitter.dealing.count + length given)
    × Deals g.W.Write.contents l.initial.splitter.dealing.dealer l.splitter.dealing.dealer
    l.initial.splitter.dealing.parts.items l.splitter.dealing.parts.items given
