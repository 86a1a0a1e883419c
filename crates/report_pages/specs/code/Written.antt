-- What was written of a text.
use Rattle.std.specs.Prelude.{◌≡◌, ℕ, ◌≤◌, List, [], ◌∷◌, ◌++◌, Option, OnErr, OnOk, Result, length, take}
use Rattle.std.specs.Io.KnownBytes.{Appends}
use Rattle.std.specs.List.{AllByRecursion}
use Rattle.input_output.specs.Calls.{Call, MovesBytes, bytes_moved}
use Rattle.input_output.specs.code.Writes.{IsFailure}
use Rattle.input_output.specs.declared.report_writer.ReportWriter.{ReportWriter}

-- writes took a prefix of these bytes, and all where none failed; no call came after one that failed. `holds` says
-- what a writer holds
pub record HasWritten {W E : Type 0} (holds : W → Option (List ℕ)) (before after : ReportWriter W) (bytes : List ℕ)
    (result : Result (Unit {0}) E) : Type 0 where
  pub n : ℕ
  pub within : n ≤ length bytes
  pub taken : Appends (holds before.writer) (holds after.writer) (take n bytes)
  pub calls : List Call
  pub each : AllByRecursion MovesBytes calls
  pub moved : bytes_moved calls ≡ take n bytes
  pub ok : OnOk result ((n ≡ length bytes) × (after.calls.list ≡ before.calls.list ++ calls))
  pub err : OnErr result ((last : Call) × IsFailure last
      × (after.calls.list ≡ before.calls.list ++ (calls ++ last ∷ [])))
