-- The records that are dealt, as the reader of a whole capture finds them.
use Rattle.capture_parts.proofs.Terms.{AllByRecursion, BeginsWithRecord, Bool, IsRecord, List, SameRecords, []}
use Rattle.capture_parts.proofs.Terms.{append_assoc, arith, captured_length, concat, drop, drop-append_seam, length}
use Rattle.capture_parts.proofs.Terms.{length-append, order_of, record_at, refl, ℕ, ◌++◌, ◌+◌, ◌∷◌, ◌≡◌}
use Rattle.pcap_records.specs.Record as pcap
use Rattle.pcap_records.specs.declared.pcap_record.Record.{Record}
use Rattle.capture_parts.proofs.Standing.{captured-more}

-- as many rows before the same rest
same_rows : (little : Bool) (unit at : ℕ) (records : List (List ℕ)) (rest : List ℕ)
    → AllByRecursion (IsRecord (order_of little)) records → ¬ BeginsWithRecord (order_of little) rest
    → (rows : List Record) × (length rows ≡ length records)
    × pcap.AreRecords (order_of little) unit at (concat records ++ rest) rows rest
same_rows little unit at [] rest all none = ([], refl, (refl, none))
same_rows little unit at (r ∷ rs) rest (((long, _), size), later) none =
    let more : List ℕ = concat rs ++ rest in
    let captured = captured-more little r more long in
    let behind : drop (16 + captured_length (order_of little) (r ++ more)) (r ++ more) ≡ more =
    rw (captured, ← size) (drop-append_seam r more) in
    let sum = length-append r more in
    let (rows, count, are) =
    same_rows little unit (at + 16 + captured_length (order_of little) (r ++ more)) rs rest later none in
    rw (append_assoc r (concat rs) rest) (
      record_at (order_of little) unit at (r ++ more) ∷ rows,
      omega (arith, count),
      ((omega (arith, sum, long), omega (arith, sum, captured, size)), refl, rw behind are),
    )

pub same_records : SameRecords
same_records little unit at bytes records rest reading =
    rw reading.are (same_rows little unit at records rest reading.whole reading.none_left)
