use Rattle.split_merge.proofs.Terms.{append_assoc, ◌+◌, ◌++◌, [], drop, refl, sym, ◌∙◌, arith, drop_more, append-nil}
use Rattle.split_merge.proofs.Terms.{promised_by, first_of, streams_of, IsInRange, frames_of, streams_in, with_stream}
use Rattle.split_merge.proofs.Terms.{with_next, at_drop_all, noted, notes_from}
use Rattle.audit_terms.proofs.SeenStreams.{named-more, without-none}
use Rattle.split_merge.proofs.Positions.{came-fits, came-more, notes-next}
use Rattle.split_merge.proofs.Ahead.{ahead-none, ahead-frame, ahead-alike, promised-small}
use Rattle.audit_terms.proofs.OrderlyFrames.{in_range_at}
use Rattle.split_merge.proofs.visits.Visits.note_all.Goals as goal

pub loop-frame-init : goal.loop-frame-init
loop-frame-init c =
    let none = c.requires.empty.rows in
    let can = c.requires.can in
    record {
      came = [];
      noted = refl;
      table = record {
        index = rw none c.requires.empty.index;
        rows = rw none refl;
        absent = λ s h. refl;
        few = rw none (omega arith);
        visits = rw none (omega arith);
      };
      named = rw none (without-none (streams_of c.args.frames.now));
      ahead = rw (none, c.requires.empty.quiets) (ahead-none can.orderly can.rise can.acknowledged);
    }

pub note-requires-clause-table : goal.note-requires-clause-table
note-requires-clause-table c =
    let was = c.loop-frame.invariant in
    (was.came, was.table, came-fits c.args.frames.now was.came _ was.noted c.requires.can.short)

pub note-requires-clause-streamed : goal.note-requires-clause-streamed
note-requires-clause-streamed c =
    let range : IsInRange c.frame-item.result = rw c.frame-item.is
    (in_range_at 0 c.args.frames.now c.requires.can.orderly c.loop-frame.frame-index _ c.loop-frame-test.true) in
    range.stream

pub note-requires-clause-next : goal.note-requires-clause-next
note-requires-clause-next c = record {
  all = c.args.frames.now;
  rest = with_next (promised_by c.frame-item.result) c.frame-item.result
      (λ s. frames_of s (drop (c.loop-frame.frame-index + 1) c.args.frames.now));
  ahead = ahead-frame c.loop-frame.frame-index c.frame-item.result c.loop-frame-test.true c.frame-item.is
      c.loop-frame.invariant.ahead;
}

pub note-requires-in-loop-frame-clause-table : goal.note-requires-in-loop-frame-clause-table
note-requires-in-loop-frame-clause-table c =
    let was = c.loop-frame.invariant in
    let i = c.loop-frame.frame-index in
    let next = notes-next i i _ c.args.frames.now c.frame-item.result c.loop-frame-test.true c.frame-item.is refl
    refl in
    let once = append_assoc was.came (noted c.frame-item.result.stream i) _ ∙ (rw next at was.noted) in
    (_, c.in_ok-note.ensures.table was.came i was.table, came-fits c.args.frames.now _ _ once c.requires.can.short)

pub note-requires-in-loop-frame-clause-streamed : goal.note-requires-in-loop-frame-clause-streamed
note-requires-in-loop-frame-clause-streamed c =
    rw c.promised_by.ensures (promised-small c.frame-item.result (rw c.frame-item.is
    (in_range_at 0 c.args.frames.now c.requires.can.orderly c.loop-frame.frame-index _ c.loop-frame-test.true)))

pub note-requires-in-loop-frame-clause-next : goal.note-requires-in-loop-frame-clause-next
note-requires-in-loop-frame-clause-next c = record {
  all = c.args.frames.now;
  rest = λ s. frames_of s (drop (c.loop-frame.frame-index + 1) c.args.frames.now);
  ahead = rw c.promised_by.ensures (c.in_ok-note.ensures.ahead c.args.frames.now _
      (ahead-frame c.loop-frame.frame-index c.frame-item.result c.loop-frame-test.true c.frame-item.is
      c.loop-frame.invariant.ahead));
}

pub loop-frame-preserved : goal.loop-frame-preserved
loop-frame-preserved c =
    let frames = c.args.frames.now in
    let i = c.loop-frame.frame-index in
    let within = c.loop-frame-test.true in
    let frame = c.frame-item.result in
    let seen = streams_in c.loop-frame.self.rows.items in
    let rest = streams_of (drop (i + 1) frames) in
    let was = c.loop-frame.invariant in
    let first = c.in_ok-note.ensures in
    let second = c.in_ok-note-2.ensures in
    let next = notes-next i i _ frames frame within c.frame-item.is refl c.promised_by.ensures in
    record {
      came = (was.came ++ noted frame.stream i) ++ noted c.promised_by.result i;
      noted = came-more was.came _ _ _ _ (rw next at was.noted);
      table = second.table _ i (first.table _ i was.table);
      named = rw (second.named, c.promised_by.ensures, first.named)
          (named-more (promised_by frame) (with_stream frame.stream seen) rest
          ∙ named-more frame.stream seen (first_of (promised_by frame) rest)
          ∙ (rw (drop_more frames i frame within, ← c.frame-item.is) at was.named));
      ahead = second.ahead frames (λ s. frames_of s (drop (i + 1) frames)) (rw c.promised_by.ensures
          (first.ahead frames _ (ahead-frame i frame within c.frame-item.is was.ahead)));
    }

pub returns-clause-visits : goal.returns-clause-visits
returns-clause-visits c =
    let was = c.loop-frame.invariant in
    let i = c.loop-frame.frame-index in
    let none = at_drop_all (notes_from i) c.args.frames.now i c.loop-frame-test.false in
    let streams = at_drop_all streams_of c.args.frames.now i c.loop-frame-test.false in
    record {
      streams = sym (append-nil _) ∙ (rw streams at was.named);
      table = rw (← (sym (append-nil was.came) ∙ rw none at was.noted)) was.table;
    }

pub returns-clause-ahead : goal.returns-clause-ahead
returns-clause-ahead c =
    ahead-alike _ (λ s. [])
    (λ s n. at_drop_all (λ l. frames_of s l) c.args.frames.now c.loop-frame.frame-index c.loop-frame-test.false)
    c.loop-frame.invariant.ahead
