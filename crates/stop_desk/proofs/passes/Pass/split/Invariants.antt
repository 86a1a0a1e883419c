use Rattle.stop_desk.proofs.passes.Pass.split.Given as goal

abbrev pub ghosts-split_seat : goal.ghosts-split_seat
ghosts-split_seat a = record { amount = a.allowance }
