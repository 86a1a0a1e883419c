-- What the program does with what it is lent.
use Rattle.std.specs.Prelude.{◌≡◌, ◌≤◌, ◌<◌, ◌⊎◌, ℕ, Bool, true, false, ⊤, Option, None, Some, IfSome, List, []}
use Rattle.std.specs.Prelude.{◌∷◌, ◌++◌, Result, Ok, Err, IsErrAnd, MatchBool, MatchResult, String, codes}
use Rattle.std.specs.Prelude.{if◌then◌else◌, is_some, length, map}
use Rattle.std.specs.Prelude.{string_bytes, take, Contains, ◌+◌}
use Rattle.std.specs.Global.{Global}
use Rattle.std.specs.Io.Buffered.{writer_buffer, writer_capacity, writer_contents, writer_inner}
use Rattle.std.specs.Io.KnownBytes.{Appends, Consumes, IsAtEnd}
use Rattle.std.specs.declared.io.Error.{Error}
use Rattle.std.specs.declared.io.buffered.BufWriter.{BufWriter}
use Rattle.pcap_records.specs.FileHeader.{format_of, link_of, number_of}
use Rattle.pcap_records.specs.Refusal.{refusal}
use Rattle.capture_parts.specs.Finished.{has_full}
use Rattle.capture_parts.specs.Inputs.{HasStopped, HaveHeld}
use Rattle.capture_parts.specs.Outside.{Call, Created, MadeFolder, Opened, Printed, RemovedFile, RemovedFolder, Said}
use Rattle.capture_parts.specs.Outside.{Wrote}
use Rattle.capture_parts.specs.Parts.{AreSplit}
use Rattle.capture_parts.specs.declared.fault.FileFault.{FileFault}
use Rattle.capture_parts.specs.declared.part.FullPart.{FullPart}
use Rattle.capture_parts.specs.declared.part.Part.{Part}
use Rattle.split_program.specs.Calls.{Did, DidOnly}
use Rattle.split_program.specs.Ending.{IsToldAs, status_at, told_of}
use Rattle.split_program.specs.Paths.{AreNamed, summary_path}
use Rattle.split_program.specs.declared.asked.Asked.{Asked}
use Rattle.split_program.specs.declared.asked.Asked.TheVariants as asked
use Rattle.split_program.specs.declared.asked.Words.{Words}
use Rattle.split_program.specs.declared.failure.Ending.{Ending}
use Rattle.split_program.specs.declared.failure.Ending.TheVariants as ending
use Rattle.split_program.specs.declared.failure.Failure.{Failure}
use Rattle.split_program.specs.declared.paths.PartPaths.{PartPaths}
use Rattle.split_program.specs.declared.paths.Paths.{Paths}

-- a writer that gathers so many bytes for a file, and holds none yet
abbrev pub IsOver : {F : Type 0} → F → ℕ → BufWriter F Global → Type 0
IsOver file size writer = (writer_inner writer ≡ file) × (writer_buffer writer ≡ []) × (writer_capacity writer ≡ size)

-- what was read is the header of a capture, as far as it has one
abbrev pub HasHeader : (had has : Option (List ℕ)) → List ℕ → Type 0
HasHeader had has header = Consumes had has header × (length header ≤ 24) × (length header < 24 → IsAtEnd has)

-- what may be called while a split is finished: lines are said, files of parts removed, and the summary is written
abbrev pub IsFinishing : {F : Type 0} → Paths → Call F → Type 0
IsFinishing paths (Said line) = ⊤
IsFinishing paths (RemovedFile path done) = (part : PartPaths) × Contains paths.parts.items part
    × ((path ≡ string_bytes part.packets) ⊎ (path ≡ string_bytes part.numbers))
IsFinishing paths (Wrote path text done) = path ≡ string_bytes paths.summary
IsFinishing paths _ = ⊥

-- `does` says what a call changes outside
module _ {O F : Type 0} (does : O → Call F → O → Type 0) where
  -- a file of this path was made, and a writer over it
  abbrev pub MakesFile : O → List ℕ → ℕ → BufWriter F Global → O → Type 0
  MakesFile before path size writer after = (file : F) × does before (Created path (Ok file)) after
      × IsOver file size writer

  -- making a part failed behind one call, or behind two
  abbrev pub FailsPart : O → PartPaths → O → Type 0
  FailsPart before paths after = (answer : Result F Error) × (Did does before
      (Created (string_bytes paths.packets) answer ∷ []) after ⊎ ((file : F) × Did does before
      (Created (string_bytes paths.packets) (Ok file) ∷ Created (string_bytes paths.numbers) answer ∷ []) after))

  -- a full part is refused: that is said, and its two files are removed
  abbrev pub IsRefused : O → PartPaths → Option FullPart → O → Type 0
  IsRefused before paths None after = after ≡ before
  IsRefused before paths (Some full) after = (line : List ℕ) × Did does before (Said line
      ∷ RemovedFile (string_bytes paths.packets) true ∷ RemovedFile (string_bytes paths.numbers) true ∷ []) after

  -- so is each of these parts, in turn; nothing else is done
  abbrev pub AreRefused : O → List PartPaths → List (Option FullPart) → O → Type 0
  AreRefused before (paths ∷ more) (full ∷ later) after =
      (mid : O) × IsRefused before paths full mid × AreRefused mid more later after
  AreRefused before _ _ after = after ≡ before

  -- full parts were refused, and then the summary was written
  abbrev pub Finishes : O → Paths → List (Option FullPart) → Ending → O → Type 0
  Finishes before paths full end after = (mid : O) × (text : List ℕ) × AreRefused before paths.parts.items full mid
      × does mid (Wrote (string_bytes paths.summary) text true) after
      × (end ≡ (if has_full full then ending.PartsRefused else ending.Split))

  -- all files of a split were removed, and the folder, as far as they could be
  abbrev pub RemovesParts : O → List PartPaths → O → Type 0
  RemovesParts before [] after = after ≡ before
  RemovesParts before (paths ∷ more) after = (one two : Bool) × (mid : O) × Did does before
      (RemovedFile (string_bytes paths.packets) one ∷ RemovedFile (string_bytes paths.numbers) two ∷ []) mid
      × RemovesParts mid more after

  abbrev pub RemovesAll : O → List ℕ → Paths → O → Type 0
  RemovesAll before folder paths after = (one two : Bool) × (mid : O) × RemovesParts before paths.parts.items mid
      × Did does mid (RemovedFile (string_bytes paths.summary) one ∷ RemovedFolder folder two ∷ []) after

  -- the status, and the line of a failure
  abbrev pub EndsWith : O → O → ℕ → Result Ending Failure → Type 0
  EndsWith before after status (Ok ending.Split) = (status ≡ 0) × (after ≡ before)
  EndsWith before after status (Ok ending.PartsRefused) = (status ≡ 3) × (after ≡ before)
  EndsWith before after status (Err e) = (status ≡ (told_of e).0) × does before (Said (told_of e).1) after

  -- a text on standard output, and the status
  abbrev pub IsShown : O → List ℕ → O → ℕ → Type 0
  IsShown before text after status = (mid : O) × (done : Bool) × does before (Printed text done) mid
      × MatchBool done ((status ≡ 0) × (after ≡ mid))
      ((status ≡ 4) × does mid (Said (codes "h2audit-split: write failed")) after)

-- `contents` tells which bytes a file holds, where they are known
module _ {O F : Type 0} (does : O → Call F → O → Type 0) (contents : F → Option (List ℕ)) where
  -- the two files of a part were made, and the part begins with this file header
  pub record MakesPart (header : List ℕ) (before : O) (paths : PartPaths) (part : Part (BufWriter F Global)) (after : O)
      : Type 0 where
    pub mid : O
    pub packets : BufWriter F Global
    pub first : MakesFile does before (string_bytes paths.packets) 32768 packets mid
    pub second : MakesFile does mid (string_bytes paths.numbers) 4096 part.numbers after
    pub begins : Appends (writer_contents contents packets) (writer_contents contents part.packets) header
    pub size : part.size ≡ length header
    pub full : part.full ≡ None

  -- so it was for each part, in turn
  abbrev pub MakesParts : List ℕ → O → List PartPaths → List (Part (BufWriter F Global)) → O → Type 0
  MakesParts header before [] [] after = after ≡ before
  MakesParts header before (paths ∷ more) (part ∷ parts) after =
      (mid : O) × MakesPart header before paths part mid × MakesParts header mid more parts after
  MakesParts header before _ _ after = ⊥

  -- parts were made up to the first that failed
  abbrev pub FailsParts : List ℕ → O → List PartPaths → O → Type 0
  FailsParts header before paths after = (n : ℕ) × (made : List (Part (BufWriter F Global))) × (mid : O)
      × MakesParts header before (take n paths) made mid
      × ((next : PartPaths) × (take (n + 1) paths ≡ take n paths ++ next ∷ []) × FailsPart does mid next after)

-- and `left` which it has left
module _ {O F : Type 0} (does : O → Call F → O → Type 0) (contents left : F → Option (List ℕ)) where
  -- parts got all bytes of a capture: those that the first reader had left, and those of later files
  abbrev pub Splits : List ℕ → (had has : Option (List ℕ)) → O → List (String Global)
      → (parts split : List (Part (BufWriter F Global))) → O → Type 0
  Splits header had has before later parts split after = (given : List ℕ) × (behind : List ℕ)
      × Consumes had has given × IsAtEnd has × HaveHeld does left header before later behind after
      × IfSome (format_of header) (λ format. AreSplit (writer_contents contents) (number_of format.endian)
      (link_of (number_of format.endian) header) (given ++ behind) parts split)

  -- what is done in the folder: parts are made, split and finished, or one of the three fails
  abbrev pub Works : List ℕ → (had has : Option (List ℕ)) → O → Paths → List (String Global) → O
      → Result Ending Failure → Type 0
  Works header had has before paths later after (Ok end) = (parts split : List (Part (BufWriter F Global)))
      × (mid next : O) × MakesParts does contents header before paths.parts.items parts mid
      × Splits header had has mid later parts split next
      × Finishes does next paths (map (λ part. part.full) split) end after
  Works header had has before paths later after (Err e) =
      (FailsParts does contents header before paths.parts.items after × IsToldAs 4 e)
      ⊎ ((parts : List (Part (BufWriter F Global))) × (mid : O)
      × MakesParts does contents header before paths.parts.items parts mid
      × (((wrong : FileFault) × HasStopped does left 0 had has mid later after wrong
      × IsToldAs (status_at wrong.fault) e)
      ⊎ ((split : List (Part (BufWriter F Global))) × (next : O)
      × Splits header had has mid later parts split next × DidOnly does (IsFinishing paths) next after
      × IsToldAs 4 e)))

  -- a folder is made once the header was read and is not refused; after a failure nothing is left in it. Where nothing
  -- was done, a read failed, or what there was of the header is refused; or memory was wanting
  abbrev pub WorksIn : (had has : Option (List ℕ)) → O → Words → List (String Global) → O → Result Ending Failure
      → Type 0
  WorksIn had has before words later after answer = ((after ≡ before) × IsErrAnd answer (λ e. IsToldAs 4 e
      ⊎ ((header : List ℕ) × HasHeader had has header × (is_some (refusal header) ≡ true) × IsToldAs 3 e)))
      ⊎ ((does before (MadeFolder (string_bytes words.folder) false) after) × IsErrAnd answer (IsToldAs 4))
      ⊎ ((header : List ℕ) × (between : Option (List ℕ)) × (paths : Paths) × (made mid : O)
      × HasHeader had between header × (refusal header ≡ None)
      × AreNamed (string_bytes words.folder) 1 paths.parts.items × (length paths.parts.items ≡ words.parts)
      × (string_bytes paths.summary ≡ summary_path (string_bytes words.folder))
      × does before (MadeFolder (string_bytes words.folder) true) made
      × Works header between has made paths later mid answer
      × MatchResult answer (λ end. after ≡ mid) (λ e. RemovesAll does mid (string_bytes words.folder) paths after))

  -- the first file is opened, or standard input is read, which had these bytes left, and has those
  abbrev pub Runs : (had has : Option (List ℕ)) → O → Words → List (String Global) → O → Result Ending Failure → Type 0
  Runs had has before words [] after answer = WorksIn had has before words [] after answer
  Runs had has before words (first ∷ later) after answer = (opened : Result F Error) × (mid : O)
      × does before (Opened (string_bytes first) opened) mid × MatchResult opened
      (λ file. (end : Option (List ℕ)) × WorksIn (left file) end mid words later after answer)
      (λ e. (after ≡ mid) × IsErrAnd answer (IsToldAs 4))

  -- what the program does with what its words ask for
  abbrev pub Does : (had has : Option (List ℕ)) → O → O → ℕ → Result Asked Failure → Type 0
  Does had has before after status (Ok (asked.Split words)) = (mid : O) × (answer : Result Ending Failure)
      × Runs had has before words words.files.items mid answer × EndsWith does mid after status answer
  Does had has before after status (Ok (asked.Text text)) = IsShown does before (string_bytes text) after status
  Does had has before after status (Err e) = IsToldAs 2 e × EndsWith does before after status (Err e)
