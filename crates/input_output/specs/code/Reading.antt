-- How the bytes of a capture are read, and how that fails.
use Rattle.std.specs.Prelude.{◌≡◌, ℕ, ◌+◌, ◌^◌, ◌<◌, ◌≤◌, ◌⊎◌, List, Option, Result}
use Rattle.std.specs.Prelude.{IfErr, OnOk, length}
use Rattle.std.specs.Io.{StartsWith, appended_bytes}
use Rattle.std.specs.Io.KnownBytes.{IsAtEnd}
use Rattle.input_output.specs.Account.{HasReadFailed, given, kept, reads}
use Rattle.input_output.specs.code.Reads.{AreCallsIn, Gives}
use Rattle.input_output.specs.declared.capture_reader.CaptureReader.{CaptureReader}
use Rattle.input_output.specs.declared.capture_reader.ReadState.TheVariants.{Open, Ended, LackedMemory}
use Rattle.input_output.specs.declared.fault.ReadFault.{ReadFault}
use Rattle.input_output.specs.declared.fault.ReadFault.TheVariants as fault
use Rattle.input_output.specs.declared.traced_reader.TracedReader.{TracedReader}

module _ {R : Type 0} where
  -- the reads so far went well, there is room for what is kept, and they gave no more than 2^31 bytes
  pub record IsSound (reader : CaptureReader R) : Type 0 where
    pub within : length (kept reader) ≤ reader.bytes.room
    pub limit : length (kept reader) + reader.passed ≤ 2 ^ 31
    pub well : (reader.state ≡ Open) ⊎ (reader.state ≡ Ended)
    pub calls : AreCallsIn reader.state (reads reader)

  -- the reads so far gave bytes, all of them kept, in room up to this limit
  pub record IsOpenWithin (limit : ℕ) (reader : CaptureReader R) : Type 0 where
    pub sound : IsSound reader
    pub state : reader.state ≡ Open
    pub unpassed : reader.passed ≡ 0
    pub room : reader.bytes.room ≤ limit
    pub most : limit ≤ 2 ^ 31

  -- and a read can follow: they are fewer
  pub record IsOpenBelow (limit : ℕ) (reader : CaptureReader R) : Type 0 where
    pub within : IsOpenWithin limit reader
    pub below : length (kept reader) < limit

  -- these bytes stand in front of what is kept, in room up to the limit, and nothing was passed over
  pub record HasGrown (limit : ℕ) (first : List ℕ) (reader : CaptureReader R) : Type 0 where
    pub front : StartsWith (kept reader) first
    pub room : reader.bytes.room ≤ limit
    pub unpassed : reader.passed ≡ 0

  -- what the reads gave more is what the reader had left before, and has no longer
  abbrev pub HasConsumed : (left : R → Option (List ℕ)) (old new : CaptureReader R) → Type 0
  HasConsumed left old new = Gives left old.source new.source (appended_bytes (kept old) (kept new))

  -- one read or more that are kept behind these bytes, of which none but the last found the end; `left` says what a
  -- reader has left
  pub record HasReadOn (left : R → Option (List ℕ)) (before : TracedReader R) (front : List ℕ) (now : CaptureReader R)
      : Type 0 where
    pub bytes : Gives left before now.source (appended_bytes front (kept now))
    pub end : now.state ≡ Ended → IsAtEnd (left now.source.reader)
    pub more : now.state ≡ Open → length front < length (kept now)
    pub sound : IsSound now

  -- the same, where they were passed over
  abbrev pub HasPassedOver : (left : R → Option (List ℕ)) (old new : CaptureReader R) → Type 0
  HasPassedOver left old new = (given : List ℕ) × (new.passed ≡ old.passed + length given)
      × Gives left old.source new.source given

  -- a walk stands for all that the reads gave, each byte of which is kept or was passed over
  pub record StandsForAll {W : Type 0} (P : List ℕ → W → Type 0) (reader : CaptureReader R) (walk : W) : Type 0 where
    pub stands : P (given reader) walk
    pub counted : length (given reader) ≡ length (kept reader) + reader.passed

  -- the faults of reading, as the account then shows them: a read that failed, or want of memory
  abbrev pub IsReadingFault : ReadFault → CaptureReader R → Type 0
  IsReadingFault (fault.Failed failed) reader = HasReadFailed reader
  IsReadingFault fault.OutOfMemory reader = reader.state ≡ LackedMemory

  -- what one read or more answered that are kept behind these bytes, up to a limit
  pub record HaveAnswered (left : R → Option (List ℕ)) (limit : ℕ) (before : TracedReader R) (front : List ℕ)
      (now : CaptureReader R) (answer : Result (Unit {0}) ReadFault) : Type 0 where
    pub grown : HasGrown limit front now
    pub read : OnOk answer (HasReadOn left before front now)
    pub err : IfErr answer (λ e. IsReadingFault e now)

  -- how reads up to a limit ended: one found the end, or they gave so many bytes; or why they failed
  pub record HaveEnded (left : R → Option (List ℕ)) (limit : ℕ) (now : CaptureReader R)
      (answer : Result (Unit {0}) ReadFault) : Type 0 where
    pub sound : OnOk answer (IsSound now)
    pub whole : OnOk answer (now.state ≡ Open → length (kept now) + now.passed ≡ limit)
    pub end : OnOk answer (now.state ≡ Ended → IsAtEnd (left now.source.reader))
    pub err : IfErr answer (λ e. IsReadingFault e now)
