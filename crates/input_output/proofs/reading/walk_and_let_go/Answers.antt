use Rattle.std.proofs.Common.{◌<◌, ◌∙◌, ◌++◌, arith, drop, length, subst, sym, take, take_at}
use Rattle.input_output.specs.Account.{given}
use Rattle.input_output.specs.code.Reading.{HasPassedOver}
use Rattle.input_output.proofs.Kept.{IsLettingGo, let_go_more, passed_more, where_ok}
use Rattle.input_output.proofs.reading.walk_and_let_go.Goals as goal

pub returns-then-count-eq0-clause-bytes : goal.returns-then-count-eq0-clause-bytes
returns-then-count-eq0-clause-bytes g c =
    let left = g.R.Read.remaining in
    let n = c.in_ok-count.count in
    subst (λ first. HasPassedOver left first c.pass_once.new.self) c.in_ok-enter_memory.ensures.ok.1
    (passed_more left c.enter_memory.new.self c.loop-alloc.reader c.pass_once.new.self (take n c.pass_once.new.buffer) n
    c.loop-alloc.invariant.on.bytes c.in_ok-count.ensures.count c.in_ok-count.ensures.read)

pub loop-alloc-preserved : goal.loop-alloc-preserved
loop-alloc-preserved g c =
    let left = g.R.Read.remaining in
    let P = g.W.FrontWalk.stands in
    let n = c.in_ok-count.count in
    let more = take n c.pass_once.new.buffer in
    let old = c.loop-alloc.reader in
    let new = c.pass_once.new.self in
    let some : 0 < n = omega (arith, c.if-count-eq0.false) in
    let read = c.in_ok-count.ensures in
    let entered = c.in_ok-enter_memory-2.ensures.ok in
    let bytes = c.pass_once.new.buffer in
    let whole = take_at bytes (drop (length bytes) c.loop-alloc.buffer.items) c.loop-alloc.buffer.len
    (omega (arith, read.length, c.deref_mut.ensures.len)) in
    let fed : P (given old ++ more) c.feed.new.self =
    subst (λ bytes. P (given old ++ take n bytes) c.feed.new.self) (c.deref.ensures.value ∙ whole)
    (where_ok c.feed.result entered.0 (c.feed.ensures (given old) c.loop-alloc.invariant.on.fed.stands)) in
    let on = let_go_more P left c.enter_memory.new.self old new c.loop-alloc.walk c.feed.new.self more n
    c.loop-alloc.invariant.on some read.kept read.limit read.count read.read read.state read.calls fed in
    record {
      on = subst (λ now. IsLettingGo P left c.enter_memory.new.self now c.feed.new.self) (sym entered.1) on;
      room = c.loop-alloc.invariant.room;
    }
