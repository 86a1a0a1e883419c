-- Findings that have the record and the time of their frames, beside those alone.
use Rattle.std.proofs.Common.{◌≡◌, ◌<◌, ◌^◌, ◌||◌, ◌==◌, ◌+◌, ℕ, Bool, true, false, List, [], ◌∷◌, ◌++◌, All, ap, arith}
use Rattle.std.proofs.Common.{if◌then◌else◌, map, option_map, refl, unwrap_or, Some}
use Rattle.std.proofs.lemmas.List.Elements.{All-cons, All-nil}
use Rattle.std.specs.List.{list_any}
use Rattle.audit_report.specs.FindingLine.{finding_lines, shown_line}
use Rattle.audit_report.specs.code.Findings.{timed_lines}
use Rattle.audit_terms.specs.Kind.{is_fault}
use Rattle.audit_terms.specs.Timed.{frame_numbered, nanos_at, timed}
use Rattle.audit_terms.specs.code.TimedFindings.{finding_in}
use Rattle.audit_terms.specs.code.runs.Orderly.{IsOrderly, IsOrderlyFrom}
use Rattle.audit_terms.specs.Place.{place_number}
use Rattle.audit_terms.specs.declared.{findings.Finding.Finding, frames.Frame.Frame}
use Rattle.audit_terms.specs.declared.timed_findings.TimedFinding.{TimedFinding}
use Rattle.h2audit.specs.code.Verdict.{is_timed_fault}

module _ (frames : List Frame) where
  -- their lines are those of the findings in these frames
  pub lines-timed : (shown : Bool) (findings : List Finding)
      → timed_lines shown (map (timed frames) findings) ≡ finding_lines shown frames findings
  lines-timed shown [] = refl
  lines-timed shown (f ∷ later) = ap (λ l. shown_line shown frames f ++ l) (lines-timed shown later)

  -- they are the findings
  pub alone : (findings : List Finding) → map finding_in (map (timed frames) findings) ≡ findings
  alone [] = refl
  alone (f ∷ later) = ap (λ l. f ∷ l) (alone later)

  -- and as faulty
  pub faults-timed : (findings : List Finding) → list_any is_timed_fault (map (timed frames) findings)
      ≡ list_any (λ (finding : Finding). is_fault finding.kind) findings
  faults-timed [] = refl
  faults-timed (f ∷ later) = ap (λ b. is_fault f.kind || b) (faults-timed later)

-- times are those of orderly frames
nanos-small : (low : ℕ) (frames : List Frame) (number : ℕ) → IsOrderlyFrom low frames
    → nanos_at frames number < 2 ^ 63
nanos-small low [] number orderly = omega arith
nanos-small low (frame ∷ frames) number orderly =
    either (frame.number == number) (nanos-small (frame.number + 1) frames number orderly.2) where
      either : (b : Bool) → nanos_at frames number < 2 ^ 63
          → unwrap_or (option_map (λ (one : Frame). one.nanos)
          (if b then Some frame else frame_numbered frames number)) 0 < 2 ^ 63
      either true rest = orderly.1.nanos
      either false rest = rest

pub all-in-time : (frames : List Frame) → IsOrderly frames → (findings : List Finding)
    → All (λ (one : TimedFinding). one.nanos < 2 ^ 63) (map (timed frames) findings)
all-in-time frames orderly [] = All-nil (λ (one : TimedFinding). one.nanos < 2 ^ 63)
all-in-time frames orderly (f ∷ later) =
    All-cons (λ (one : TimedFinding). one.nanos < 2 ^ 63) (timed frames f) (map (timed frames) later)
    (nanos-small 0 frames (place_number f.place) orderly) (all-in-time frames orderly later)
