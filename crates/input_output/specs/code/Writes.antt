-- What a failed call of a writer does.
use Rattle.std.specs.Prelude.{◌≡◌, ◌⊎◌, [], ◌∷◌, ◌++◌}
use Rattle.input_output.specs.Calls.{Call, failed, moved}
use Rattle.input_output.specs.declared.report_writer.ReportWriter.{ReportWriter}

-- the call of a writer was a failure: it failed, or took no byte
abbrev pub IsFailure : Call → Type 0
IsFailure call = (call ≡ failed) ⊎ (call ≡ moved [])

module _ {W : Type 0} where
  -- one call was made, which was a failure
  abbrev pub HasFailed : (before after : ReportWriter W) → Type 0
  HasFailed before after = (call : Call) × IsFailure call × (after.calls.list ≡ before.calls.list ++ call ∷ [])
