-- What a capture that was read answers, and how reading it fails.
use Rattle.std.specs.Prelude.{◌≡◌, ◌^◌, ◌≤◌, ℕ, List, Option, None, Some, IfSome, length, take}
use Rattle.pcap_records.specs.Refusal.{refusal}
use Rattle.input_output.specs.Account.{HasReadFailed, IsReadToEnd, given, kept}
use Rattle.input_output.specs.declared.capture_reader.CaptureReader.{CaptureReader}
use Rattle.input_output.specs.declared.capture_reader.ReadState.TheVariants.{LackedMemory}
use Rattle.packet_heads.specs.code.Walk.{HasMade}
use Rattle.packet_heads.specs.declared.walk.PacketWalk.{PacketWalk}
use Rattle.h2audit.specs.Account.{IsBrief}
use Rattle.h2audit.specs.declared.fault.AuditFault.{AuditFault}
use Rattle.h2audit.specs.declared.fault.AuditFault.TheVariants as fault
use Rattle.h2audit.specs.declared.reading.FileHeader.{FileHeader}
use Rattle.h2audit.specs.declared.reading.FileHeader.TheVariants as header
use Rattle.h2audit.specs.code.Met.{HasMetPackets}
use Rattle.h2audit.specs.declared.met_captures.MetCapture.{MetCapture}
use Rattle.packet_heads.specs.declared.packets.Segment.{Segment}
use Rattle.tcp_streams.specs.code.Side.{Sent}

-- what is kept of a capture answers for it: both have the same refusal, and where they have none they are the same
abbrev pub AnswersFor : (kept given : List ℕ) → Type 0
AnswersFor kept given = (refusal kept ≡ refusal given) × (refusal given ≡ None → kept ≡ given)

-- the faults of reading a capture, as the account then shows them: a read that failed, or want of memory
abbrev pub IsReadingFault : {R : Type 0} → AuditFault → CaptureReader R → Type 0
IsReadingFault fault.Read reader = HasReadFailed reader
IsReadingFault fault.OutOfMemory reader = reader.state ≡ LackedMemory
IsReadingFault _ _ = ⊥

module _ {V : Type 0} (after : Segment → List Sent → ℕ → V → Type 0) where
  -- what the file header of these bytes gives: a walk that was fed all of them, by which their packets were met, or
  -- their refusal
  abbrev pub IsMetHeaderOf : List ℕ → FileHeader (PacketWalk (MetCapture V)) → Type 0
  IsMetHeaderOf given (header.Taken walk) = HasMade (HasMetPackets after) given walk
  IsMetHeaderOf given (header.Refused e) = refusal given ≡ Some e

  -- a capture was read to its end, of a reader that had these bytes left, where they are known, and its packets met:
  -- this is what its file header gives
  pub record HasMetCapture {R : Type 0} (left : Option (List ℕ)) (reader : CaptureReader R)
      (gives : FileHeader (PacketWalk (MetCapture V)))
      : Type 0 where
    pub bytes : IfSome left (λ all. given reader ≡ take (2 ^ 31) all)
    pub short : length (given reader) ≤ 2 ^ 31
    pub ok : IsReadToEnd reader
    pub brief : IsBrief reader
    pub header : IsMetHeaderOf (given reader) gives
