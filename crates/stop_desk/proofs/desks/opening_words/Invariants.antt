use Rattle.stop_desk.proofs.Words.{map, stop_word, take, ◌∷◌, ◌≡◌}
use Rattle.stop_desk.proofs.desks.opening_words.Given as goal

-- the words of the stops so far
abbrev pub invariant-loop-stop : goal.invariant-loop-stop
invariant-loop-stop l = l.words.items ≡ 0 ∷ map stop_word (take l.stop-index l.stops)
