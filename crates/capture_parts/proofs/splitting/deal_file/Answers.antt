use Rattle.capture_parts.proofs.Terms.{List, arith, length, length-take, rules, sym, take}
use Rattle.capture_parts.proofs.Terms.{Consumes-trans, length-append, length-take-le, ℕ, ◌++◌, ◌-◌, ◌<◌, ◌∙◌, ◌≤◌}
use Rattle.std.proofs.lemmas.Grind.{common_steps}
use Rattle.capture_parts.proofs.Buffer.{read_behind}
use Rattle.capture_parts.proofs.Turns.{next_turn, no_turn}
use Rattle.std.proofs.lemmas.Result.{err_from_is_err_and}
use Rattle.capture_parts.proofs.Counting.{fault-more, overflows}
use Rattle.capture_parts.proofs.splitting.deal_file.Goals as goal

pub loop-count-init : goal.loop-count-init
loop-count-init g c = record {
  few = search rules;
  turned = no_turn g.W.Write.contents g.R.Read.remaining c.args.dealing.now.dealer
      c.args.dealing.now.count c.args.dealing.now.parts.items c.args.reader.now;
}

pub returns-in-Ok-eq0-clause-turned : goal.returns-in-Ok-eq0-clause-turned
returns-in-Ok-eq0-clause-turned g c = grind (arith, common_steps)

pub loop-count-preserved : goal.loop-count-preserved
loop-count-preserved g c =
    let a : ℕ = c.loop-count.filled in
    let old : List ℕ = c.loop-count.buffer in
    let n : ℕ = c.in_ok-filled-in-Ok.filled in
    let done = c.in_ok-filled-in-Ok.ensures in
    let read = c.in-Ok.ensures in
    let within : a ≤ length old = omega (arith, c.loop-count.invariant.few, c.loop-count.auto.buffer, c.requires) in
    let size = length-append (take a old) (take c.in-Ok.count c.read.new.buf) in
    let kept = length-take-le a old within in
    let read_size = length-take-le c.in-Ok.count c.read.new.buf read.bound.0 in
    let left = length-take-le n c.deal_buffer.new.buffer (omega (arith, done.left.1)) in
    let same = read_behind a (length old - a) c.in-Ok.count old c.read.new.buf within read.bound.0 in
    record {
      few = search rules;
      turned = next_turn g.W.Write.contents g.R.Read.remaining c.deal_buffer.new.dealing.dealer
          c.deal_buffer.new.dealing.count c.deal_buffer.new.dealing.parts.items c.read.new.self _ _
          (take n c.deal_buffer.new.buffer) (omega (arith, done.count, kept, read_size, size, left)) read.bytes.0
          (sym same ∙ done.moved) (λ some. done.rest (omega (arith, some, length-take n c.deal_buffer.new.buffer)))
          done.dealt c.loop-count.invariant.turned;
    }

pub loop-count-smaller : goal.loop-count-smaller
loop-count-smaller g c =
    let done = c.in_ok-filled-in-Ok.ensures in
    let some : 0 < c.in-Ok.count = search rules in
    omega (arith, done.count, done.left.0, c.deal_buffer.new.dealing.counted, some)

pub returns-in_err-filled-in-Ok-clause-fault : goal.returns-in_err-filled-in-Ok-clause-fault
returns-in_err-filled-in-Ok-clause-fault g c =
    let p = err_from_is_err_and c.from_residual.result c.from_residual.ensures.1 in
    let turned = c.loop-count.invariant.turned in
    let unread : List ℕ = take c.loop-count.filled c.loop-count.buffer in
    let more : List ℕ = take c.in-Ok.count c.read.new.buf in
    let within : c.loop-count.filled ≤ length c.loop-count.buffer =
    omega (arith, c.loop-count.invariant.few, c.loop-count.auto.buffer, c.requires) in
    let kept = length-take-le c.loop-count.filled c.loop-count.buffer within in
    let size = length-take-le c.in-Ok.count c.read.new.buf c.in-Ok.ensures.bound.0 in
    let both = length-append turned.given unread in
    let all = length-append (turned.given ++ unread) more in
    rw (p.1, p.2) (overflows (g.R.Read.remaining c.args.reader.now) (g.R.Read.remaining c.read.new.self)
    c.args.dealing.now.count ((turned.given ++ unread) ++ more) c.in_err-filled-in-Ok.field-0.0
    (Consumes-trans (g.R.Read.remaining c.args.reader.now) (g.R.Read.remaining c.loop-count.reader)
    (g.R.Read.remaining c.read.new.self) (turned.given ++ unread) more turned.consumed c.in-Ok.ensures.bytes.0)
    (fault-more _ _ c.in_err-filled-in-Ok.field-0.0
    (omega (arith, turned.count, all, both, kept, size)) c.in_err-filled-in-Ok.ensures.fault))
