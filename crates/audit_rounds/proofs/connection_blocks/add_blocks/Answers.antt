use Rattle.audit_rounds.proofs.Words.{[], ◌∷◌, ◌++◌, append_assoc, length, ap, ◌∙◌, arith, refl, map-append}
use Rattle.audit_rounds.proofs.Words.{length_push, All-push, Block, ConnectionBlock, IsShort}
use Rattle.audit_rounds.proofs.Plans.{block-cut, items-push}
use Rattle.audit_rounds.proofs.connection_blocks.add_blocks.Goals as goal

pub loop-first-preserved : goal.loop-first-preserved
loop-first-preserved c =
    let i = c.loop-first.invariant in
    let numbers = c.numbers_not_below-rest in
    let changes = c.changes_not_below-rest in
    let parts = c.split_at in
    let front : Block = record { frames = parts.result.0; opened = numbers.result; changes = changes.result } in
    let back : Block = record { frames = parts.result.1; opened = numbers.result; changes = changes.result } in
    let cut = block-cut c.loop-first.rest c.in-Some.first.now c.in-Some.field-0-1.now i.is_block
    c.in-Some.ensures.cases.0 c.min.result front back
    (record { opened = numbers.ensures; changes = changes.ensures; frames = parts.ensures.front })
    (record { opened = numbers.ensures; changes = changes.ensures; frames = parts.ensures.back }) in
    let one : ConnectionBlock = record { connection = c.args.connection; block = front } in
    let more = c.in_ok-push.ensures.items in
    record {
      is_block = cut.1;
      few =
          let longer = ap length more ∙ length_push c.loop-first.blocks.items one in
          let there = ap length c.in-Some.ensures.cases.0 in
          omega (arith, i.few, longer, parts.ensures.back_len, there);
      short = λ h. rw more (All-push (λ (one : ConnectionBlock). IsShort one.block) _ one (i.short h) cut.0);
      added = (
        i.added.0 ++ front ∷ [],
        more ∙ rw (i.added.1, append_assoc, map-append) refl,
        rw (items-push i.added.0 front, append_assoc, cut.2) i.added.2,
      );
    }
