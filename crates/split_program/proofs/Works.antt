-- What a split does in its folder.
use Rattle.std.proofs.Common.{◌≡◌, ℕ, List, Option, Some, None, Result, Ok, Err, IfOk, IfSome, OnErr, String, inr}
use Rattle.std.proofs.Common.{arith, length, map, take}
use Rattle.std.specs.Prelude.{IfErr}
use Rattle.std.proofs.lemmas.List.{take_all}
use Rattle.std.specs.Global.{Global}
use Rattle.std.specs.declared.io.buffered.BufWriter.{BufWriter}
use Rattle.pcap_records.specs.FileHeader.{format_of}
use Rattle.pcap_records.specs.Refusal.{refusal, refusal_by}
use Rattle.pcap_records.specs.declared.format.Format.{Format}
use Rattle.pcap_records.specs.declared.faults.PcapFault.TheVariants.{BadMagic}
use Rattle.capture_parts.specs.Outside.{Call}
use Rattle.capture_parts.specs.declared.part.Part.{Part}
use Rattle.split_program.specs.Calls.{DidOnly}
use Rattle.split_program.specs.Ending.{IsToldAs}
use Rattle.split_program.specs.Program.{Finishes, IsFinishing, MakesParts, Splits, Works}
use Rattle.split_program.specs.declared.failure.Ending.{Ending}
use Rattle.split_program.specs.declared.failure.Failure.{Failure}
use Rattle.split_program.specs.declared.paths.Paths.{Paths}

known_by : (P : Format → Type 0) (told : Option Format) (header : List ℕ) (size : ℕ)
    → refusal_by told header size ≡ None → IfSome told P → (format : Format) × P format
known_by P None header size none holds = absurd (let e : Some BadMagic ≡ None = none in cc)
known_by P (Some format) header size none holds = (format, holds)

-- a header that refuses nothing has a format
pub format_known : (P : Format → Type 0) (header : List ℕ) → length header ≡ 24 → refusal header ≡ None
    → IfSome (format_of header) P → (format : Format) × P format
format_known P header long none holds =
    let same : take 24 header ≡ header = take_all 24 header (omega (arith, long)) in
    known_by P (format_of header) header 24 (rw (same, long) at none) holds

module _ {O F : Type 0} (does : O → Call F → O → Type 0) (contents left : F → Option (List ℕ)) where
  -- parts were made and got the capture, and then the split was finished, or not
  pub works_of : (header : List ℕ) (had has : Option (List ℕ)) (before mid next after : O) (paths : Paths)
      (later : List (String Global)) (parts split : List (Part (BufWriter F Global)))
      (result : Result Ending Failure) → MakesParts does contents header before paths.parts.items parts mid
      → Splits does contents left header had has mid later parts split next
      → IfOk result (λ end. Finishes does next paths (map (λ part. part.full) split) end after)
      → OnErr result (DidOnly does (IsFinishing paths) next after) → IfErr result (IsToldAs 4)
      → Works does contents left header had has before paths later after result
  works_of header had has before mid next after paths later parts split (Ok end) made done finished only told =
      (parts, split, mid, next, made, done, finished)
  works_of header had has before mid next after paths later parts split (Err e) made done finished only told =
      inr (parts, mid, made, inr (split, next, done, only, told))
