-- A side's frames, cut out of its bytes as they come.
use Rattle.std.specs.Prelude.{◌≡◌, ℕ, ◌+◌, ◌-◌, ◌<◌, ◌≤◌, if◌then◌else◌, nat_lt, min, List}
use Rattle.std.specs.Prelude.{[], ◌++◌, length, take, Option, Some, None}
use Rattle.audit_terms.specs.declared.frames.Frame.{Frame}
use Rattle.h2_frames.specs.declared.cutter.SideCutter.{SideCutter}
use Rattle.h2_frames.specs.declared.headers.Header.{Header}
use Rattle.h2_frames.specs.declared.numbering.Numbering.{Numbering}
use Rattle.h2_frames.specs.declared.side_frames.Source.{Source}
use Rattle.h2_frames.specs.declared.spelling.Spelled.{Spelled}
use Rattle.h2_frames.specs.Header.{header_of}
use Rattle.h2_frames.specs.Spelling.{HoldsNoFrame, Makes, Spells}
use Rattle.h2_frames.specs.code.Brought.{frames_from}
use Rattle.h2_frames.specs.code.Handed.{HasHanded}
use Rattle.h2_frames.specs.code.Steps.{needed}

-- how many bytes at the front of a payload its body is read from
abbrev pub needed_by : Header → ℕ
needed_by header = needed header.code header.flags header.length

-- these bytes, which hold no more than one frame, are begun: of them are kept the header, and what its body is read
-- from
pub record IsBegun (tail : List ℕ) (cutter : SideCutter) : Type 0 where
  pub count : cutter.count ≡ length tail
  pub kept : cutter.begun.items ≡ take (9 + needed_by (header_of tail)) tail

-- of these bytes it got those that it lacked of so many, as far as they go, and kept those up to another number
pub record HasAdded (upto keep : ℕ) (more : List ℕ) (old new : SideCutter) (n : ℕ) : Type 0 where
  pub count : n ≡ min (upto - old.count) (length more)
  pub counted : new.count ≡ old.count + n
  pub kept : new.begun.items ≡ old.begun.items ++ take (min (keep - length old.begun.items) n) more

-- the header that the bytes begin with, if they have one
abbrev pub IsHeaderOf : List ℕ → Option Header → Type 0
IsHeaderOf tail (Some header) = (9 ≤ length tail) × (header ≡ header_of tail)
IsHeaderOf tail None = length tail < 9

-- how many bytes the frame that begins so is known to take: its header, and the rest once that is there
abbrev pub wanted : List ℕ → ℕ
wanted tail = if nat_lt (length tail) 9 then 9 else 9 + (header_of tail).length

-- a frame that is begun got so many of these bytes behind its own: what it was known to lack, as far as they go
pub record HasGot (tail more : List ℕ) (n : ℕ) (cutter : SideCutter) : Type 0 where
  pub count : n ≡ min (wanted tail - length tail) (length more)
  pub begun : IsBegun (tail ++ take n more) cutter

-- the bytes begin with one frame, and are no more than that
abbrev pub IsOne : List ℕ → Type 0
IsOne tail = 9 ≤ length tail → length tail ≤ 9 + (header_of tail).length

-- and what it lacked behind its header too: it got all of them, or is whole; and nothing that is not its own
pub record HasGathered (tail more : List ℕ) (n : ℕ) (cutter : SideCutter) : Type 0 where
  pub within : n ≤ length more
  pub begun : IsBegun (tail ++ take n more) cutter
  pub whole : n < length more → ¬ HoldsNoFrame (tail ++ take n more)
  pub own : IsOne (tail ++ take n more)

-- the frame that is begun was taken out, where it is whole; else nothing changed
abbrev pub IsTakenOut : Option Spelled → (tail : List ℕ) → (old new : SideCutter) → Type 0
IsTakenOut (Some s) tail old new =
    (header : List ℕ) × (payload : List ℕ) × (tail ≡ header ++ payload) × Makes header payload s × IsBegun [] new
IsTakenOut None tail old new = HoldsNoFrame tail × (new ≡ old)

module _ {V : Type 0} (after : List Frame → V → Type 0) (source : Source) (old : Numbering V) where
  -- frames that the source completes were handed on
  abbrev pub AreHandedOn : List Spelled → Numbering V → Type 0
  AreHandedOn spelled new =
      (frames : List Frame) → HasHanded after frames old
      → HasHanded after (frames ++ frames_from source (length frames + 1) spelled) new

  -- frames at the front of bytes were handed on, and these are left
  pub record HasGoneOn (bytes left : List ℕ) (new : Numbering V) : Type 0 where
    pub spelled : List Spelled
    pub front : (later : List Spelled) (tail : List ℕ) → Spells left later tail → Spells bytes (spelled ++ later) tail
    pub handed : AreHandedOn spelled new

  -- from bytes that a side's frames and what is begun make up, those frames were handed on
  pub record HasCut (bytes : List ℕ) (cutter : SideCutter) (new : Numbering V) : Type 0 where
    pub spelled : List Spelled
    pub tail : List ℕ
    pub spells : Spells bytes spelled tail
    pub begun : IsBegun tail cutter
    pub handed : AreHandedOn spelled new
