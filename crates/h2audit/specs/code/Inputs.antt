-- Which input was audited.
use Rattle.std.specs.Prelude.{◌≡◌, ℕ, Bool, List, Option, Some, Result, MatchResult}
use Rattle.std.specs.IoError.{error_kind}
use Rattle.std.specs.declared.io.Error.{Error}
use Rattle.input_output.specs.declared.capture_reader.CaptureReader.{CaptureReader}
use Rattle.h2audit.specs.Account.{HasGiven, Tells}
use Rattle.h2audit.specs.Program.{IsUnopened}
use Rattle.h2audit.specs.declared.fault.AuditFault.{AuditFault}
use Rattle.h2audit.specs.declared.program.Outside.{Outside}
use Rattle.h2audit.specs.declared.verdict.Verdict.{Verdict}

module _ {O S I F W : Type 0} where
  -- FILE was opened by this name, as `opens` says, and audited, or could not be opened; a file has these bytes left,
  -- where they are known
  abbrev pub HasAuditedFile : (opens : O → List ℕ → Result F Error → O → Type 0) → (file_left : F → Option (List ℕ))
      → (before after : Outside O S I F W) → (name : List ℕ) → (shown : Bool) → Result Verdict AuditFault → Type 0
  HasAuditedFile opens file_left before after name shown answer =
      (opened : Result F Error) × opens before.open_file name opened after.open_file
      × MatchResult opened
      (λ file. (reader : CaptureReader F) × (after.file ≡ Some reader) × HasGiven (file_left file) reader
      × Tells reader after.output shown answer)
      (λ e. (after.file ≡ before.file) × (after.output ≡ before.output) × IsUnopened (error_kind e) answer)

  -- standard input was audited, and no file opened; a reader has these bytes left, where they are known
  abbrev pub HasAuditedInput : (input_left : I → Option (List ℕ)) → (before after : Outside O S I F W) → (shown : Bool)
      → Result Verdict AuditFault → Type 0
  HasAuditedInput input_left before after shown answer =
      (after ≡ record before { say = after.say; input = after.input; output = after.output })
      × HasGiven (input_left before.input.source.reader) after.input × Tells after.input after.output shown answer
