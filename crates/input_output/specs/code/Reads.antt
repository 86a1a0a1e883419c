-- What one read does.
use Rattle.std.specs.Prelude.{◌≡◌, ℕ, ◌<◌, ◌≤◌, List, [], ◌∷◌, ◌++◌, Option, length}
use Rattle.std.specs.Io.{StartsWith}
use Rattle.std.specs.Io.KnownBytes.{Consumes, IsAtEnd}
use Rattle.input_output.specs.Bytes.{WithRoom}
use Rattle.input_output.specs.Calls.{Call, EndIn, bytes_moved, failed, moved}
use Rattle.input_output.specs.declared.capture_reader.ReadState.{ReadState}
use Rattle.input_output.specs.declared.capture_reader.ReadState.TheVariants.{Open, Ended, Failed, LackedMemory}
use Rattle.input_output.specs.declared.traced_reader.TracedReader.{TracedReader}

module _ {R : Type 0} where
  -- these bytes were given between two states of a reader, by all that tells of it; `left` says what it has left
  abbrev pub Gives : (left : R → Option (List ℕ)) (before after : TracedReader R) → List ℕ → Type 0
  Gives left before after given = Consumes (left before.reader) (left after.reader) given
      × (bytes_moved after.calls.list ≡ bytes_moved before.calls.list ++ given)

  -- one call was made, which answered so
  abbrev pub HasCalled : (before after : TracedReader R) → Call → Type 0
  HasCalled before after call = after.calls.list ≡ before.calls.list ++ call ∷ []

  -- a read gave these bytes, n of them, and none only at its end
  pub record HasRead (left : R → Option (List ℕ)) (before after : TracedReader R) (given : List ℕ) (n : ℕ)
      : Type 0 where
    pub count : length given ≡ n
    pub bytes : Consumes (left before.reader) (left after.reader) given
    pub end : n ≡ 0 → IsAtEnd (left after.reader)
    pub called : HasCalled before after (moved given)

-- what was kept stands in front of what is kept now, in the same room
pub record IsGrown (old new : WithRoom) : Type 0 where
  pub front : StartsWith new.kept old.kept
  pub room : new.room ≡ old.room
  pub within : length new.kept ≤ new.room

-- how the reads went, after one that gave n bytes
pub record IsStateAfter (n : ℕ) (state : ReadState) : Type 0 where
  pub ended : n ≡ 0 → state ≡ Ended
  pub unended : 0 < n → state ≡ Open

-- how the reads went, as their calls show it too
abbrev pub AreCallsIn : ReadState → List Call → Type 0
AreCallsIn Open calls = EndIn [] calls
AreCallsIn Ended calls = EndIn (moved [] ∷ []) calls
AreCallsIn Failed calls = EndIn (failed ∷ []) calls
AreCallsIn LackedMemory calls = Unit {0}
