use Rattle.std.proofs.Common.{◌≡◌, ◌∙◌, ap, arith, length}
use Rattle.std.proofs.lemmas.List.{length-map}
use Rattle.pcap_records.specs.code.Walk.{Captured, rows_of}
use Rattle.pcap_records.specs.declared.reading.RowList.{RowList}
use Rattle.pcap_records.proofs.Walking.{RiseFrom-widen}
use Rattle.pcap_records.proofs.reading.records.Goals as goal

pub returns-in-Ok-clause-placed : goal.returns-in-Ok-clause-placed
returns-in-Ok-clause-placed c =
    let is = c.in-Ok.ensures in
    let read = is.at.passed.read in
    let rows : c.into_visitor-rows.result.rows.items ≡ rows_of is.at.seen =
    ap (λ (list : RowList). list.rows.items) c.into_visitor-rows.ensures ∙ is.at.visited in
    let count = length-map is.at.seen (λ (one : Captured). one.0) in
    let short = c.in_ok-walk.ensures.short in
    rw rows (
      short,
      omega (arith, count, read.few, read.high, short),
      RiseFrom-widen 24 c.feed_rest.new.walk.cursor.at (length c.args.capture.now) (rows_of is.at.seen) read.placed
          read.high,
    )
