-- What a run on the front of a reader's bytes leaves is what a run on all of them leaves.
use Rattle.std.proofs.Common.{◌≡◌, ◌∙◌, ℕ, Bool, ◌<◌, ◌≤◌, min, List, [], length, take, Option, Some, None, Ok}
use Rattle.std.proofs.Common.{Err, IfErr, IfOk, Result, inl, inr, refl, rules, sym, ap, subst, arith}
use Rattle.std.specs.Prelude.{◌≢◌}
use Rattle.std.proofs.lemmas.List.{append-nil, length-take, take_all}
use Rattle.std.specs.Io.KnownBytes.{Appends, Keeps}
use Rattle.pcap_records.specs.Refusal.{refusal}
use Rattle.pcap_records.specs.declared.faults.PcapFault.{PcapFault}
use Rattle.pcap_records.proofs.Sizes.{front_decides_lem, allowed_is_short_lem}
use Rattle.input_output.specs.Account.{IsReadToEnd, given, kept}
use Rattle.input_output.specs.Account.{IsUnwritten, written}
use Rattle.h2audit.specs.Account.{HasGiven, Tells}
use Rattle.h2audit.specs.code.Reading.{AnswersFor, IsReadingFault}
use Rattle.h2audit.specs.code.Writing.{IsAnswered, IsWritten}
use Rattle.h2audit.specs.Report.{IsNoReport, IsReport}
use Rattle.h2audit.specs.laws.Run.{FaultsAreSilent, RunsLeave}
use Rattle.h2audit.specs.declared.fault.AuditFault.{AuditFault}
use Rattle.h2audit.specs.declared.fault.AuditFault.TheVariants as fault
use Rattle.input_output.specs.declared.capture_reader.CaptureReader.{CaptureReader}
use Rattle.input_output.specs.declared.report_writer.ReportWriter.{ReportWriter}
use Rattle.h2audit.specs.declared.verdict.Verdict.{Verdict}

-- a front of 2^31 bytes that is not refused is all there is
front_is_whole : (all front : List ℕ) → front ≡ take 2147483648 all → refusal front ≡ None → front ≡ all
front_is_whole all front is taken =
    let short : length front < 2147483648 = allowed_is_short_lem front taken in
    let size : length front ≡ min 2147483648 (length all) = ap length is ∙ length-take 2147483648 all in
    let fits : length all ≤ 2147483648 = omega (arith, short, size) in
    is ∙ take_all 2147483648 all fits

report_of_front : (all front : List ℕ) (shown : Bool) (text : List ℕ) (verdict : Verdict) → front ≡ take 2147483648 all
    → IsReport front shown text verdict → IsReport all shown text verdict
report_of_front all front shown text verdict is report =
    subst (λ (bytes : List ℕ). IsReport bytes shown text verdict) (front_is_whole all front is report.taken) report

-- nothing was appended
keeps_nothing : (old new : Option (List ℕ)) → Appends old new [] → Keeps old new
keeps_nothing None new appends = tt
keeps_nothing (Some xs) None appends = absurd appends
keeps_nothing (Some xs) (Some ys) appends = appends ∙ append-nil xs

module _ {R : Type 0} where
  -- what is kept has the refusal of the bytes that the reads gave
  pub refusal_of_given : (reader : CaptureReader R) (e : Option PcapFault) → AnswersFor (kept reader) (given reader)
      → refusal (kept reader) ≡ e → refusal (given reader) ≡ e
  refusal_of_given reader e answers is = sym answers.0 ∙ is

module _ {R : Type 0} where
  -- reading that failed did not come to its end
  pub not_to_end : (reader : CaptureReader R) (e : AuditFault) → IsReadingFault e reader → IsReadToEnd reader → ⊥
  not_to_end reader fault.Read failed read = search rules
  not_to_end reader fault.OutOfMemory lacked read = search rules
  not_to_end reader fault.Write is read = absurd is
  not_to_end reader (fault.Pcap e) is read = absurd is

  -- so what it gave is not told
  pub given_unread : (left : Option (List ℕ)) (reader : CaptureReader R) (e : AuditFault) → IsReadingFault e reader
      → HasGiven left reader
  given_unread None reader e is = tt
  given_unread (Some bytes) reader e is = λ read. absurd (not_to_end reader e is read)

module _ {R W : Type 0} where
  -- reading that failed is told, where nothing was written
  pub tells_unread : (reader : CaptureReader R) (writer : ReportWriter W) (shown : Bool) (e : AuditFault)
      → IsReadingFault e reader → IsUnwritten writer → Tells reader writer shown (Err e)
  tells_unread reader writer shown fault.Read is unwritten = (is, unwritten)
  tells_unread reader writer shown fault.OutOfMemory is unwritten = (inl is, unwritten)
  tells_unread reader writer shown fault.Write is unwritten = absurd is
  tells_unread reader writer shown (fault.Pcap e) is unwritten = absurd is

  -- the bytes that the reads gave have no report
  pub tells_refused : (reader : CaptureReader R) (writer : ReportWriter W) (shown : Bool) (e : AuditFault)
      → IsReadToEnd reader → IsUnwritten writer → IsNoReport (given reader) e → Tells reader writer shown (Err e)
  tells_refused reader writer shown (fault.Pcap e) read unwritten is = (read, is, unwritten)
  tells_refused reader writer shown fault.OutOfMemory read unwritten is = (inr (read, is), unwritten)
  tells_refused reader writer shown fault.Read read unwritten is = absurd is
  tells_refused reader writer shown fault.Write read unwritten is = absurd is

  -- a report that was written, or a front of it
  pub tells_written : (reader : CaptureReader R) (writer : ReportWriter W) (shown : Bool) (text : List ℕ)
      (verdict : Verdict) (answer : Result Verdict AuditFault) → IsReadToEnd reader
      → IsReport (given reader) shown text verdict → IsWritten text verdict writer answer
      → Tells reader writer shown answer
  tells_written reader writer shown text verdict (Ok judged) read report (same, is, flushed) = (
    read,
    subst (λ text. IsReport (given reader) shown text judged) (sym is)
        (subst (λ verdict. IsReport (given reader) shown text verdict) (sym same) report),
    flushed,
  )
  tells_written reader writer shown text verdict (Err fault.Write) read report (failed, (n, is)) =
      (read, failed, (text, verdict, n, report, is))
  tells_written reader writer shown text verdict (Err _) read report is = absurd is

  -- what is answered of a report, if there is one
  pub tells_answer : (reader : CaptureReader R) (old new : ReportWriter W) (shown : Bool)
      (audited : Result (List ℕ × Verdict) AuditFault) (answer : Result Verdict AuditFault) → IsReadToEnd reader
      → IsUnwritten old → IfOk audited (λ r. IsReport (given reader) shown r.0 r.1)
      → IfErr audited (IsNoReport (given reader)) → IsAnswered audited old new answer → Tells reader new shown answer
  tells_answer reader old new shown (Ok r) answer read unwritten report refused is =
      tells_written reader new shown r.0 r.1 answer read report is
  tells_answer reader old new shown (Err e) answer read unwritten report refused is =
      subst (λ (a : Result Verdict AuditFault). Tells reader new shown a) (sym is.1)
      (tells_refused reader new shown e read (subst (λ (w : ReportWriter W). IsUnwritten w) (sym is.0) unwritten)
      refused)

  -- after a fault other than a failed write nothing was written
  unwritten_after : (reader : CaptureReader R) (writer : ReportWriter W) (shown : Bool) (e : AuditFault)
      → e ≢ fault.Write → Tells reader writer shown (Err e) → IsUnwritten writer
  unwritten_after reader writer shown fault.Write other told = absurd (other refl)
  unwritten_after reader writer shown (fault.Pcap e) other told = told.2
  unwritten_after reader writer shown _ other told = told.1

module _ (R W : Type 0) where
  pub faults_are_silent_lem : FaultsAreSilent R W
  faults_are_silent_lem reader writer shown old new e told appends other =
      keeps_nothing old new (rw (unwritten_after reader writer shown e other told) at appends)

  pub runs_leave_lem : RunsLeave R W
  runs_leave_lem all reader writer shown old new (Ok verdict) told gave appends = (
    (
      written writer,
      report_of_front all (take 2147483648 all) shown (written writer) verdict refl
          (rw (gave told.0) at told.1),
      appends,
    ),
    tt,
  )
  runs_leave_lem all reader writer shown old new (Err fault.Write) told gave appends = (
    (
      told.2.0,
      told.2.1,
      told.2.2,
      report_of_front all (take 2147483648 all) shown told.2.0 told.2.1 refl
          (rw (gave told.0) at told.2.3),
      subst (Appends old new) told.2.4 appends,
    ),
    tt,
  )
  runs_leave_lem all reader writer shown old new (Err (fault.Pcap e)) told gave appends = (
    (
      sym (front_decides_lem all) ∙ rw (gave told.0) at told.1,
      faults_are_silent_lem reader writer shown old new (fault.Pcap e) told appends (λ is. cc),
    ),
    tt,
  )
  runs_leave_lem all reader writer shown old new (Err fault.Read) told gave appends =
      (faults_are_silent_lem reader writer shown old new fault.Read told appends (λ is. cc), tt)
  runs_leave_lem all reader writer shown old new (Err fault.OutOfMemory) told gave appends = (
    faults_are_silent_lem reader writer shown old new fault.OutOfMemory told appends (λ is. cc),
    λ held. elim told.0 [
      | inl lacked ↦ absurd (held lacked)
      | inr read ↦ sym (front_decides_lem all) ∙ rw (gave read.0) at read.1
    ],
  )
