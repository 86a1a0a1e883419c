use Rattle.{std.proofs.lemmas.Result.IfOk-weaker, stop_desk.proofs.Working.worked-together}
use Rattle.stop_desk.proofs.Words.{ap, arith, ℕ, ◌*◌, ◌+◌, ◌-◌, ◌≡◌, ◌≤◌}
use Rattle.stop_desk.proofs.crews.+fn-fork-join+arg3+fork.Goals as goal

-- one worker and the others are all workers
one-and-others : (workers each : ℕ) → 1 ≤ workers → 1 * each + (workers - 1) * each ≡ workers * each
one-and-others workers each le =
    let all : workers ≡ 1 + (workers - 1) = omega arith in omega (arith, ap (λ n. n * each) all)

pub both_worked-requires-clause-mine : goal.both_worked-requires-clause-mine
both_worked-requires-clause-mine g t c =
    IfOk-weaker c.join-mine.result.0 _ _ (λ r worked. worked.0.desk_is) c.join-mine.ensures.first

pub both_worked-requires-clause-theirs : goal.both_worked-requires-clause-theirs
both_worked-requires-clause-theirs g t c =
    IfOk-weaker c.join-mine.result.1 _ _ (λ r worked. worked.0.desk_is) c.join-mine.ensures.second

pub returns : goal.returns
returns g t c =
    let shift = c.args.shift.now in
    let workers = c.args.workers in
    let each = shift.desk.now.jobs + 1 in
    worked-together (g.P.Round.makes shift.plan.now) (g.P.Round.jobs shift.plan.now) shift.round shift.desk.now.id
    (1 * each) ((workers - 1) * each) (workers * each) c.join-mine.result.0 c.join-mine.result.1
    c.both_worked.result (one-and-others workers each (omega arith)) c.join-mine.ensures.first
    c.join-mine.ensures.second c.both_worked.ensures

pub join+arg3-fork-requires : goal.join+arg3-fork-requires
join+arg3-fork-requires g t c = λ κs (rt, (gate, (plan, made))).
    (let (sends, others, gates, plans, some, fresh) = c.requires in
    (omega arith, (rt, (gate, (plan, (made, (sends, (others, (gates, (plans, (some, fresh)))))))))))
