use Rattle.capture_parts.proofs.Terms.{List, append_assoc, arith, length, on_ok_weaker, take, take-append_seam}
use Rattle.capture_parts.proofs.Terms.{vec_len, ℕ, ◌++◌, ◌≡◌}
use Rattle.std.proofs.lemmas.Result.{IfErr-weaker}
use Rattle.capture_parts.proofs.Counting.{none_overflow}
use Rattle.capture_parts.proofs.splitting.Splitter.finish_file.Goals as goal

pub returns-clause-ends : goal.returns-clause-ends
returns-clause-ends g c =
    let filed = c.in_ok-filled.ensures in
    let size : vec_len c.args.self.now.buffer ≡ length c.deal_file.new.buffer =
    omega (arith, c.as_mut_slice.ensures.len, c.deal_file.auto.buffer) in
    let same = rw (size, take-append_seam) at c.deref.ensures.value in
    let rest : List ℕ = take c.in_ok-filled.filled c.deref.result.now in
    let turned = rw (← same) at filed.turned in
    on_ok_weaker c.finish.result (λ split. (
      turned.given ++ rest,
      turned.consumed,
      filed.end,
      λ first bytes was. rw (← turned.dealt.link, ← turned.dealt.is_little, ← append_assoc bytes turned.given rest)
          (split first (bytes ++ turned.given)
          (λ begins. (turned.none_whole (omega (arith, begins.0))).1 begins) (turned.dealt.behind first bytes was)),
    )) c.finish.ensures.split

pub returns-clause-fault : goal.returns-clause-fault
returns-clause-fault g c = IfErr-weaker c.finish.result _ _ (none_overflow _ _ _) c.finish.ensures.fault
