-- What holds of the definition of the report.
use Rattle.std.specs.Prelude.{◌≡◌, ℕ, Bool, List}
use Rattle.h2audit.specs.Report.{IsReport}
use Rattle.h2audit.specs.declared.verdict.Verdict.{Verdict}

-- a capture has one report and one verdict
abbrev pub OneReport : Type 0
OneReport =
    (bytes : List ℕ) (shown : Bool) (text other : List ℕ) (verdict judged : Verdict) →
    IsReport bytes shown text verdict → IsReport bytes shown other judged → (text ≡ other) × (verdict ≡ judged)
