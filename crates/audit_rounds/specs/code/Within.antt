-- What the round over streams leaves of a connection, and which frames the round over blocks then goes over.
use Rattle.std.specs.Prelude.{◌≡◌, ℕ, ◌==◌, Bool, false, not, List, ◌++◌, Option, filter}
use Rattle.std.specs.List.{list_any}
use Rattle.audit_terms.specs.declared.frames.Frame.{Frame}
use Rattle.audit_terms.specs.declared.findings.Finding.{Finding}
use Rattle.audit_terms.specs.Finding.{in_order, upto_stop}
use Rattle.audit_terms.specs.code.runs.Changes.{settings_run}
use Rattle.audit_terms.specs.code.runs.LocalFaults.{local_run}
use Rattle.audit_terms.specs.code.runs.Look.{is_past}
use Rattle.audit_terms.specs.Pass.{streams_of}
use Rattle.conn_scan.specs.code.Items.{NeverFallFrom}
use Rattle.audit_terms.specs.code.Stops.{IsLeast, StopsAt}
use Rattle.audit_rounds.specs.code.Openings.{openings_of}
use Rattle.audit_rounds.specs.code.Shown.{streams_shown}

-- the same numbers are among both, but for those of frames past the stop
abbrev pub AgreeWithin : (stop : Option ℕ) → (numbers others : List ℕ) → Type 0
AgreeWithin stop numbers others = (number : ℕ) → is_past stop number ≡ false →
    list_any (λ one. one == number) numbers ≡ list_any (λ one. one == number) others

-- what the round over streams leaves of a connection: what was found so far, where the connection is known to stop, and
-- the numbers of the frames that open streams
pub record IsAfterStreams (frames_shown : Bool) (frames : List Frame) (found : List Finding) (stop : Option ℕ)
    (opened : List ℕ) : Type 0 where
  -- up to the first error, that is what whole streams would show
  pub cut : upto_stop (in_order found)
      ≡ upto_stop (in_order ((local_run frames ++ settings_run frames) ++ streams_shown frames_shown frames))
  -- the stop is the first error of that, and was found
  pub least :
      IsLeast (StopsAt ((local_run frames ++ settings_run frames) ++ streams_shown frames_shown frames)) stop
  pub kept : IsLeast (StopsAt found) stop
  -- the openings up to the stop's frame are known
  pub opened_within : AgreeWithin stop opened (openings_of frames (streams_of frames))
  pub rising : NeverFallFrom 0 opened

-- the frames up to the one at which the connection stops, that one included
abbrev pub frames_within : (stop : Option ℕ) → List Frame → List Frame
frames_within stop frames = filter (λ (frame : Frame). not (is_past stop frame.number)) frames
