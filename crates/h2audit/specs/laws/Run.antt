-- What a run leaves behind, where its reader and its writer tell their bytes: all of it follows from what the accounts
-- tell.
use Rattle.std.specs.Prelude.{◌≡◌, ◌≢◌, ℕ, Bool, List, take, Option, None, Some, Result, Ok, Err}
use Rattle.std.specs.Io.KnownBytes.{Appends, Keeps}
use Rattle.pcap_records.specs.Refusal.{refusal}
use Rattle.input_output.specs.Account.{written}
use Rattle.input_output.specs.declared.capture_reader.CaptureReader.{CaptureReader}
use Rattle.input_output.specs.declared.capture_reader.ReadState.{ReadState}
use Rattle.input_output.specs.declared.capture_reader.ReadState.TheVariants.{LackedMemory}
use Rattle.input_output.specs.declared.report_writer.ReportWriter.{ReportWriter}
use Rattle.h2audit.specs.Account.{HasGiven, Tells}
use Rattle.h2audit.specs.Report.{IsReport}
use Rattle.h2audit.specs.declared.fault.AuditFault.{AuditFault}
use Rattle.h2audit.specs.declared.fault.AuditFault.TheVariants as fault
use Rattle.h2audit.specs.declared.verdict.Verdict.{Verdict}

-- what the writer holds after a run on a reader of these bytes, where it held `old`: the whole report, a prefix
-- of it where writing failed, and nothing more than before after any other fault
abbrev pub Leaves : List ℕ → Bool → Option (List ℕ) → Option (List ℕ) → Result Verdict AuditFault → Type 0
Leaves bytes shown old new (Ok verdict) = (text : List ℕ) × IsReport bytes shown text verdict × Appends old new text
Leaves bytes shown old new (Err fault.Write) =
    (text : List ℕ) × (verdict : Verdict) × (n : ℕ) × IsReport bytes shown text verdict × Appends old new (take n text)
Leaves bytes shown old new (Err (fault.Pcap e)) = (refusal bytes ≡ Some e) × Keeps old new
Leaves bytes shown old new (Err _) = Keeps old new

-- a capture for whose bytes there was memory is judged: want of memory is answered only where it is not refused
abbrev pub IsJudged : List ℕ → ReadState → Result Verdict AuditFault → Type 0
IsJudged bytes state (Err fault.OutOfMemory) = state ≢ LackedMemory → refusal bytes ≡ None
IsJudged bytes state _ = Unit {0}

module _ (R W : Type 0) where
  -- accounts that tell of an answer, of a reader of all these bytes and of a writer that took what its account says,
  -- leave and judge so
  abbrev pub RunsLeave : Type 0
  RunsLeave = (all : List ℕ) (reader : CaptureReader R) (writer : ReportWriter W) (shown : Bool)
      (old new : Option (List ℕ))
      (answer : Result Verdict AuditFault) →
      Tells reader writer shown answer → HasGiven (Some all) reader → Appends old new (written writer) →
      Leaves all shown old new answer × IsJudged all reader.state answer

  -- and after a fault other than a failed write the writer holds what it held
  abbrev pub FaultsAreSilent : Type 0
  FaultsAreSilent = (reader : CaptureReader R) (writer : ReportWriter W) (shown : Bool) (old new : Option (List ℕ))
      (e : AuditFault) →
      Tells reader writer shown (Err e) → Appends old new (written writer) → e ≢ fault.Write → Keeps old new
