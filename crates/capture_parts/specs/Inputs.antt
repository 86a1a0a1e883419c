-- The files of a capture behind its first one.
use Rattle.std.specs.Prelude.{◌≡◌, ◌≢◌, ◌⊎◌, ◌^◌, ◌+◌, ◌≤◌, ℕ, Option, None, IfSome, List, [], ◌∷◌, ◌++◌, Ok, Err}
use Rattle.std.specs.Prelude.{String, length, string_bytes, take}
use Rattle.std.specs.Global.{Global}
use Rattle.std.specs.Io.KnownBytes.{Consumes}
use Rattle.std.specs.declared.io.Error.{Error}
use Rattle.pcap_records.specs.FileHeader.{format_of, link_of, number_of}
use Rattle.pcap_records.specs.Refusal.{refusal}
use Rattle.capture_parts.specs.Outside.{Call, Opened}
use Rattle.capture_parts.specs.declared.fault.FileFault.{FileFault}
use Rattle.capture_parts.specs.declared.fault.SplitFault.{SplitFault}
use Rattle.capture_parts.specs.declared.fault.SplitFault.TheVariants as fault

-- a file with this header continues a capture that has this first one: it is not refused, and has the same format and
-- link type
pub record Continues (first own : List ℕ) : Type 0 where
  pub taken : refusal own ≡ None
  pub format : format_of own ≡ format_of first
  pub link : IfSome (format_of first)
      (λ format. link_of (number_of format.endian) own ≡ link_of (number_of format.endian) first)

-- `does` says what a call changes outside, `left` which bytes a reader has left, where they are known, and `first` is
-- the header of the first file
module _ {O F : Type 0} (does : O → Call F → O → Type 0) (left : F → Option (List ℕ)) (first : List ℕ) where
  -- a file of this name was opened, continues the capture, and held these bytes behind its header, to its end
  pub record HasHeld (before : O) (path given : List ℕ) (after : O) : Type 0 where
    pub file : F
    pub opened : does before (Opened path (Ok file)) after
    pub header : List ℕ
    pub long : length header ≡ 24
    pub continues : Continues first header
    pub held : IfSome (left file) (λ bytes. bytes ≡ header ++ given)

  -- so did the files of these names, in turn, and one after the other these are their bytes
  abbrev pub HaveHeld : O → List (String Global) → List ℕ → O → Type 0
  HaveHeld before [] given after = (given ≡ []) × (after ≡ before)
  HaveHeld before (path ∷ paths) given after = (mid : O) × (own : List ℕ) × (behind : List ℕ)
      × HasHeld before (string_bytes path) own mid × HaveHeld mid paths behind after × (given ≡ own ++ behind)

module _ {O F : Type 0} (does : O → Call F → O → Type 0) (left : F → Option (List ℕ)) where
  -- a file of this name was opened, and gave these bytes behind its header, or none
  pub record HasGiven (before : O) (path given : List ℕ) (after : O) : Type 0 where
    pub file : F
    pub opened : does before (Opened path (Ok file)) after
    pub header : List ℕ
    pub rest : List ℕ
    pub gave : IfSome (left file) (λ bytes. bytes ≡ header ++ (given ++ rest))

  -- the files of these names were opened, in turn, and gave these bytes until there was this fault: that the last one
  -- could not be opened, or another
  abbrev pub HaveGiven : O → List (String Global) → List ℕ → SplitFault → O → Type 0
  HaveGiven before [] given e after = (given ≡ []) × (after ≡ before) × (e ≢ fault.Open)
  HaveGiven before (path ∷ paths) given e after =
      ((why : Error) × does before (Opened (string_bytes path) (Err why)) after
      × (paths ≡ []) × (given ≡ []) × (e ≡ fault.Open))
      ⊎ ((mid : O) × (own : List ℕ) × (behind : List ℕ) × HasGiven before (string_bytes path) own mid
      × HaveGiven mid paths behind e after × (given ≡ own ++ behind))

  -- a split stopped at this fault, where n bytes were dealt before: no files were opened behind the one that it names.
  -- A capture is too long only where the readers gave 2^64 bytes; the first one had those left, and has these
  abbrev pub HasStopped : ℕ → (had has : Option (List ℕ)) → O → List (String Global) → O → FileFault → Type 0
  HasStopped n had has before later after wrong = (own : List ℕ) × (behind : List ℕ)
      × HaveGiven before (take wrong.file later) behind wrong.fault after
      × (wrong.fault ≡ fault.TooLong → Consumes had has own × (2 ^ 64 ≤ n + length own + length behind))
