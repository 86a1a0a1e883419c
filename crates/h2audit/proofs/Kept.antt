-- What is kept of a capture answers for all of it.
use Rattle.std.proofs.Common.{◌≡◌, ◌∙◌, ℕ, List, ◌++◌, length, Some, None, sym, ap, subst}
use Rattle.std.proofs.Common.{Result, Ok, Err, IfErr, IfOk}
use Rattle.std.proofs.Common.{IfSome, Option, rules}
use Rattle.pcap_records.specs.Refusal.{refusal}
use Rattle.pcap_records.specs.declared.faults.PcapFault.{PcapFault}
use Rattle.pcap_records.specs.declared.faults.PcapFault.TheVariants.{OutOfMemory}
use Rattle.pcap_records.proofs.Sizes.{header_refuses_lem}
use Rattle.input_output.specs.Account.{given, kept}
use Rattle.input_output.specs.declared.capture_reader.CaptureReader.{CaptureReader}
use Rattle.packet_heads.specs.code.Walk.{HasMade}
use Rattle.packet_heads.specs.declared.walk.PacketWalk.{PacketWalk}
use Rattle.packet_heads.specs.declared.packets.Segment.{Segment}
use Rattle.tcp_streams.specs.code.Side.{Sent}
use Rattle.h2audit.specs.code.Met.{HasMetPackets}
use Rattle.h2audit.specs.code.Reading.{AnswersFor, IsMetHeaderOf}
use Rattle.h2audit.specs.declared.met_captures.MetCapture.{MetCapture}
use Rattle.h2audit.specs.declared.reading.FileHeader.{FileHeader}
use Rattle.h2audit.specs.declared.reading.FileHeader.TheVariants as header

-- want of memory refuses no capture
refuses_none : (capture : List ℕ) → refusal capture ≡ Some OutOfMemory → ⊥
refuses_none capture is = search rules

pub unrefused : {A : Type 0} (capture : List ℕ) (result : Result A PcapFault) (r : Option PcapFault)
    → refusal capture ≡ r
    → IfSome r (λ e. result ≡ Err e) → result ≡ Err OutOfMemory → refusal capture ≡ None
unrefused capture result None same refused is = same
unrefused capture result (Some e) same refused is =
    let memory : e ≡ OutOfMemory = cc in absurd (refuses_none capture (same ∙ ap Some memory))

-- what the beginning of a capture gives
module _ {V : Type 0} (after : Segment → List Sent → ℕ → V → Type 0) where
  pub met_header_of : (bytes : List ℕ) (begun : Result (PacketWalk (MetCapture V)) PcapFault)
      (gives : FileHeader (PacketWalk (MetCapture V)))
      → IfOk begun (λ walk. gives ≡ header.Taken walk) → IfErr begun (λ e. gives ≡ header.Refused e)
      → IfOk begun (HasMade (HasMetPackets after) bytes) → IfErr begun (λ e. refusal bytes ≡ Some e)
      → IsMetHeaderOf after bytes gives
  met_header_of bytes (Ok walk) gives taken refused ok err = subst (IsMetHeaderOf after bytes) (sym taken) ok
  met_header_of bytes (Err e) gives taken refused ok err = subst (IsMetHeaderOf after bytes) (sym refused) err

module _ {R : Type 0} where
  -- what is kept answers for the bytes that the reads gave, where it is the file header that refuses them
  pub header_answers : (reader : CaptureReader R) (passed : List ℕ) (e : PcapFault)
      → given reader ≡ kept reader ++ passed → length (kept reader) ≡ 24 → refusal (kept reader) ≡ Some e
      → AnswersFor (kept reader) (given reader)
  header_answers reader passed e gave size refused =
      let same : refusal (given reader) ≡ Some e =
      ap refusal gave ∙ header_refuses_lem (kept reader) passed e size refused in
      (refused ∙ sym same, λ taken. cc)
