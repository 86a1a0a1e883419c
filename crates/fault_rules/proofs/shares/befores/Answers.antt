use Rattle.fault_rules.proofs.Terms.{◌≡◌, ◌+◌, ◌++◌, ◌∷◌, [], length, refl, sym, ap, ◌∙◌, length-append, ◌/◌, ◌%◌, min}
use Rattle.fault_rules.proofs.Terms.{arith, pushed, div_ceil_times}
use Rattle.fault_rules.proofs.ShareLemmas.{before_share-first, before_share-next, befores-push, share-inside}
use Rattle.fault_rules.proofs.shares.befores.Goals as goal

pub loop-n-preserved : goal.loop-n-preserved
loop-n-preserved c =
    let frames = c.args.frames.now in
    let i = c.loop-n.invariant in
    let before = c.loop-n.previous in
    let old = c.loop-n.befores.items in
    let grown : c.push.new.self.items ≡ old ++ before ∷ [] =
    pushed (before ∷ []) refl c.in_ok-push.was c.push.ensures.items in
    record {
      previous = rw (c.previous_after_all-previous.ensures, c.share.ensures, i.previous)
          (sym (before_share-next c.args.size frames c.loop-n.n));
      count = ap length grown ∙ length-append old (before ∷ []) ∙ ap (λ k. k + 1) i.count;
      each = rw grown (befores-push c.args.size frames old before c.loop-n.n i.count i.previous i.each);
    }

pub loop-n-init : goal.loop-n-init
loop-n-init c =
    let start : c.new-befores.result.items ≡ [] = c.new-befores.ensures.items in
    record {
      previous = c.both-previous.ensures ∙ sym (before_share-first c.args.size c.args.frames.now);
      count = ap length start;
      each = λ k d l. absurd (omega (arith, l, ap length start));
    }

pub returns : goal.returns
returns c =
    let all = length c.args.frames.now in
    let size = c.args.size in
    let i = c.loop-n.invariant in
    let bounds = div_ceil_times all size c.requires in
    let count : length c.loop-n.befores.items ≡ all / size + min 1 (all % size) =
    omega (arith, i.count, c.div_ceil-n-end.ensures, c.loop-n-test.false, c.loop-n.auto.n-end) in
    record {
      whole = rw count bounds.0;
      inside = λ n l. share-inside all size _ n (rw count bounds.1) l;
      each = λ n d l. i.each n d l;
    }

pub share-requires : goal.share-requires
share-requires c =
    let all = length c.args.frames.now in
    let size = c.args.size in
    let bounds = div_ceil_times all size c.requires in
    share-inside all size (all / size + min 1 (all % size)) c.loop-n.n bounds.1
    (omega (arith, c.div_ceil-n-end.ensures, c.loop-n-test.true))
