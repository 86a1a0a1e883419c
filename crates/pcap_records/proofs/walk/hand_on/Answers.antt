use Rattle.std.proofs.Common.{◌+◌, ◌^◌, ◌≤◌, arith, length, refl}
use Rattle.std.specs.Prelude.{slice_range}
use Rattle.pcap_records.proofs.Walking.{at_count, at_next, is_next}
use Rattle.pcap_records.proofs.walk.hand_on.Goals as goal

pub take-requires : goal.take-requires
take-requires g c =
    let (front, is, short) = c.requires in
    let bytes = c.args.bytes.now in
    let row = c.in-Some.row in (
      is.seen,
      is.visited,
      is_next g.V.RecordVisitor.after front bytes c.args.cursor.now c.args.visitor.now row
          (slice_range bytes 16 (16 + row.length)) is short c.in-Some.ensures.next refl,
    )

pub returns-in_ok-take-in-Some-clause-at : goal.returns-in_ok-take-in-Some-clause-at
returns-in_ok-take-in-Some-clause-at g c = λ front is.
    let after = g.V.RecordVisitor.after in
    let bytes = c.args.bytes.now in
    let cursor = c.args.cursor.now in
    let row = c.in-Some.row in
    let packet = slice_range bytes 16 (16 + row.length) in
    let (first, was, short) = c.requires in
    let size : length front ≤ 2 ^ 31 =
    omega (
      arith,
      at_count after front bytes cursor c.args.visitor.now is,
      at_count after first bytes cursor c.args.visitor.now was,
      short,
    ) in
    let next = is_next after front bytes cursor c.args.visitor.now row packet is size c.in-Some.ensures.next refl in
    at_next after front bytes cursor c.next.new.self c.args.visitor.now c.take.new.self row packet is
    c.in-Some.ensures.next c.in-Some.ensures.some refl (c.in_ok-take-in-Some.ensures is.seen is.visited next)
