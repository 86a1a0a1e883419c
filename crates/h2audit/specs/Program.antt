-- What the program does, by its words, with what it is lent.
use Rattle.std.specs.Prelude.{◌≡◌, ◌≢◌, ◌⊎◌, ℕ, List, [], drop, take, map, Option, None, Some, Result, Ok, Err}
use Rattle.std.specs.Prelude.{MatchResult, String, Vec, string_bytes}
use Rattle.std.specs.Global.{Global}
use Rattle.std.specs.IoError.{error_kind}
use Rattle.std.specs.Str.{trim_end}
use Rattle.std.specs.declared.io.Error.{Error}
use Rattle.std.specs.declared.io.ErrorKind.{ErrorKind}
use Rattle.std.specs.declared.io.ErrorKind.TheVariants.{OutOfMemory}
use Rattle.std.specs.declared.vec.IntoIter.{IntoIter}
use Rattle.std.specs.Vec.Iter.{into_iter_items}
use Rattle.input_output.specs.Account.{HasWriteFailed, IsFlushed, written}
use Rattle.input_output.specs.declared.capture_reader.CaptureReader.{CaptureReader}
use Rattle.input_output.specs.declared.report_writer.ReportWriter.{ReportWriter}
use Rattle.h2audit.specs.Asked.{Asks}
use Rattle.h2audit.specs.declared.command_line.words.Parsed.{Parsed}
use Rattle.h2audit.specs.declared.command_line.words.Parsed.TheVariants.{Run, Help, Refused, Version}
use Rattle.h2audit.specs.Account.{HasGiven, Tells}
use Rattle.h2audit.specs.Ending.{ending_of}
use Rattle.h2audit.specs.declared.fault.AuditFault.{AuditFault}
use Rattle.h2audit.specs.declared.fault.AuditFault.TheVariants as fault
use Rattle.h2audit.specs.declared.program.Outside.{Outside}
use Rattle.h2audit.specs.declared.verdict.Verdict.{Verdict}
use Rattle.h2audit.specs.declared.verdict.Verdict.TheVariants.{Clean}

-- all words but the first, in order; or why there are none, which may be want of memory for them
abbrev pub AreBehindName :
    Result (IntoIter (String Global) Global) Error → Result (Vec (String Global) Global) Error → Type 0
AreBehindName (Ok all) (Ok words) = words.items ≡ drop 1 (into_iter_items all)
AreBehindName (Ok all) (Err e) = error_kind e ≡ OutOfMemory
AreBehindName (Err e) words = words ≡ Err e

-- what these words ask for; words that could not be had as text are refused, unless it was for want of memory
abbrev pub AreAsked : Result (Vec (String Global) Global) Error → Parsed → Type 0
AreAsked (Ok words) asked = Asks (map string_bytes words.items) asked
AreAsked (Err e) (Refused text) = error_kind e ≢ OutOfMemory
AreAsked (Err e) _ = ⊥

-- an input that could not be opened is a failure to read, or want of memory
abbrev pub IsUnopened : ErrorKind → Result Verdict AuditFault → Type 0
IsUnopened kind answer =
    (kind ≢ OutOfMemory → answer ≡ Err fault.Read) × (kind ≡ OutOfMemory → answer ≡ Err fault.OutOfMemory)

-- the text on standard output and one flush, or a failed write after a prefix of it
abbrev pub IsShown : {W : Type 0} → (text : List ℕ) → ReportWriter W → Result Verdict AuditFault → Type 0
IsShown text output (Ok verdict) = (verdict ≡ Clean) × (written output ≡ text) × IsFlushed output
IsShown text output (Err fault.Write) = HasWriteFailed output × ((n : ℕ) × (written output ≡ take n text))
IsShown text output (Err _) = ⊥

-- `opens` says what opening a name may give, and `says` that a line was said; readers of these types have these bytes
-- left, where they are known; `before` and `after` are what is lent, at the begin and at the end
module _ {O S I F W : Type 0} (opens : O → List ℕ → Result F Error → O → Type 0) (says : S → List ℕ → S → Type 0)
    (input_left : I → Option (List ℕ)) (file_left : F → Option (List ℕ)) (before after : Outside O S I F W)
    (status : ℕ) where
  -- what the program answers to words that are not refused: a run on FILE, as it was opened by its name, or on standard
  -- input, with the options that were found; or help or the version on standard output. All else that is lent stays as
  -- it was
  abbrev pub Answers : Parsed → Result Verdict AuditFault → Type 0
  Answers (Run options (Some path)) answer =
      (after ≡ record before { open_file = after.open_file; say = after.say; file = after.file; output = after.output })
      × ((opened : Result F Error) × opens before.open_file (string_bytes path) opened after.open_file
      × MatchResult opened
      (λ file. (reader : CaptureReader F) × (after.file ≡ Some reader) × HasGiven (file_left file) reader
      × Tells reader after.output options.frames_shown answer)
      (λ e. (after.file ≡ before.file) × (after.output ≡ before.output) × IsUnopened (error_kind e) answer))
  Answers (Run options None) answer =
      (after ≡ record before { say = after.say; input = after.input; output = after.output })
      × HasGiven (input_left before.input.source.reader) after.input
      × Tells after.input after.output options.frames_shown answer
  Answers (Help text) answer = (after ≡ record before { say = after.say; output = after.output })
      × IsShown (string_bytes text) after.output answer
  Answers (Version text) answer = (after ≡ record before { say = after.say; output = after.output })
      × IsShown (string_bytes text) after.output answer
  Answers (Refused text) answer = ⊥

  -- status and line are those of the answer; an empty line is not said
  abbrev pub EndsWith : Result Verdict AuditFault → Type 0
  EndsWith answer = (status ≡ (ending_of answer).0)
      × ((ending_of answer).1 ≢ [] → says before.say (ending_of answer).1 after.say)
      × ((ending_of answer).1 ≡ [] → after.say ≡ before.say)

  -- what the program does with what its words ask for; why they are refused is said, and nothing else is done
  abbrev pub Does : Parsed → Type 0
  Does (Refused text) = (status ≡ 2) × (after ≡ record before { say = after.say })
      × says before.say (trim_end (string_bytes text)) after.say
  Does asked = (answer : Result Verdict AuditFault) × Answers asked answer × EndsWith answer

  -- the program does what is asked for, or memory was wanting to find that out
  abbrev pub Ends : (asks : Parsed → Type 0) → Type 0
  Ends asks = ((after ≡ record before { say = after.say }) × EndsWith (Err fault.OutOfMemory))
      ⊎ ((asked : Parsed) × asks asked × Does asked)
