use Rattle.std.proofs.Common.{◌≡◌, ◌++◌, drop}
use Rattle.std.specs.Vec.Iter.{into_iter_items}
use Rattle.split_program.proofs.program.behind_name.Given as goal

-- those so far, and those to come
abbrev pub invariant-loop-word : goal.invariant-loop-word
invariant-loop-word l = l.behind.items ++ into_iter_items l.word-iterator ≡ drop 1 (into_iter_items l.fn.words)
