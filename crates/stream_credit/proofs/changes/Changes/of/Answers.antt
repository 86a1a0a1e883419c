use Rattle.stream_credit.proofs.Words.{◌≡◌, ℕ, ◌+◌, ◌<◌, ◌++◌, List, [], ◌∷◌, Some, length, drop, ap, sym, ◌∙◌}
use Rattle.stream_credit.proofs.Words.{append_assoc, append-nil, drop_all, drop_more, slice_index_or, Sides, Change}
use Rattle.stream_credit.proofs.Words.{initial_after, after_each}
use Rattle.stream_credit.proofs.changes.Changes.of.Goals as goal

-- the windows after one change more
more : (found : List (Sides ℕ)) (now next : Sides ℕ) (changes : List Change) (i : ℕ) (d : Change)
    → i < length changes → next ≡ initial_after (Some (slice_index_or changes i d)) now
    → (found ++ next ∷ []) ++ after_each next (drop (i + 1) changes) ≡ found ++ after_each now (drop i changes)
more found now next changes i d within is =
    rw (append_assoc, drop_more changes i d within)
    (ap (λ (one : Sides ℕ). found ++ one ∷ after_each one (drop (i + 1) changes)) is)

pub loop-change-preserved : goal.loop-change-preserved
loop-change-preserved c =
    rw c.in_ok-push.ensures.items (more c.loop-change.in_force.items c.loop-change.now c.windows_after-now.result
    c.args.all.now c.loop-change.change-index _ c.loop-change-test.true c.windows_after-now.ensures
    ∙ c.loop-change.invariant)

pub invariant_of-result : goal.invariant_of-result
invariant_of-result c =
    sym (append-nil c.loop-change.in_force.items)
    ∙ rw (drop_all c.loop-change.change-index c.args.all.now c.loop-change-test.false) at c.loop-change.invariant
