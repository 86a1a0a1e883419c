-- What the calls of a run's reader and writer tell of it, whatever the reader and the writer are.
use Rattle.std.specs.Prelude.{◌≡◌, ◌≢◌, ◌⊎◌, ℕ, ◌^◌, ◌≤◌, Bool, List, take, Option, None, Some, IfSome, Result, Ok}
use Rattle.std.specs.Prelude.{Err}
use Rattle.pcap_records.specs.Refusal.{refusal}
use Rattle.input_output.specs.Account.{HasReadFailed, HasWriteFailed, IsFlushed, IsReadToEnd, IsUnwritten, given}
use Rattle.input_output.specs.Account.{written}
use Rattle.input_output.specs.declared.capture_reader.CaptureReader.{CaptureReader}
use Rattle.input_output.specs.declared.capture_reader.ReadState.TheVariants.{LackedMemory}
use Rattle.input_output.specs.declared.report_writer.ReportWriter.{ReportWriter}
use Rattle.h2audit.specs.Report.{IsReport}
use Rattle.h2audit.specs.declared.fault.AuditFault.{AuditFault}
use Rattle.h2audit.specs.declared.fault.AuditFault.TheVariants as fault
use Rattle.h2audit.specs.declared.verdict.Verdict.{Verdict}

module _ {R : Type 0} where
  -- the reads gave these bytes, where they are known, to their end or 2^31 of them
  abbrev pub HasGiven : Option (List ℕ) → CaptureReader R → Type 0
  HasGiven left reader = IfSome left (λ bytes. IsReadToEnd reader → given reader ≡ take (2 ^ 31) bytes)

  -- of a capture that its file header refuses there is no memory for more than that
  abbrev pub IsBrief : CaptureReader R → Type 0
  IsBrief reader = refusal (take 24 (given reader)) ≢ None → reader.bytes.room ≤ 24

module _ {R W : Type 0} where
  -- the calls by the end of a run. After a verdict the reads gave a whole capture, the writes took its report, all of
  -- it and in order, and one flush came last; after a fault of writing the last call failed, or took no byte, and the
  -- writes before it took a prefix of the report. Before any other fault no write was made: the last read failed, the
  -- capture that the reads gave is refused, or memory was wanting, for its bytes or for the audit of a capture that is
  -- not refused
  abbrev pub Tells : CaptureReader R → ReportWriter W → (shown : Bool) → Result Verdict AuditFault → Type 0
  Tells reader writer shown (Ok verdict) =
      IsReadToEnd reader × IsReport (given reader) shown (written writer) verdict × IsFlushed writer
  Tells reader writer shown (Err fault.Write) =
      IsReadToEnd reader × HasWriteFailed writer
      × ((text : List ℕ) × (verdict : Verdict) × (n : ℕ)
      × IsReport (given reader) shown text verdict × (written writer ≡ take n text))
  Tells reader writer shown (Err fault.Read) = HasReadFailed reader × IsUnwritten writer
  Tells reader writer shown (Err (fault.Pcap e)) =
      IsReadToEnd reader × (refusal (given reader) ≡ Some e) × IsUnwritten writer
  Tells reader writer shown (Err fault.OutOfMemory) =
      ((reader.state ≡ LackedMemory) ⊎ (IsReadToEnd reader × (refusal (given reader) ≡ None))) × IsUnwritten writer
