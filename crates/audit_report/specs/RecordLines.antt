-- A line for each record that is a fragment or a refused packet, in record order.
use Rattle.std.specs.Prelude.{ℕ, List, [], ◌∷◌, ◌++◌, ◌+◌, codes}
use Rattle.audit_report.specs.Line.{line, field}
use Rattle.packet_heads.specs.Refusal.{refusal_name}
use Rattle.packet_heads.specs.declared.packets.Packet.{Packet}
use Rattle.packet_heads.specs.declared.packets.Packet.TheVariants.{Skipped, Refused}
use Rattle.packet_heads.specs.declared.packets.Skip.TheVariants.{Fragment}

-- `record N fragment` or `record N refused NAME`; nothing for another packet
abbrev pub record_line : ℕ → Packet → List ℕ
record_line number (Skipped Fragment) = line (field (codes "record ") number ++ codes " fragment")
record_line number (Refused refusal) =
    line (field (codes "record ") number ++ codes " refused " ++ refusal_name refusal)
record_line number _ = []

-- the lines of these packets, the first of which is that of this record
abbrev pub record_lines_from : ℕ → List Packet → List ℕ
record_lines_from number [] = []
record_lines_from number (packet ∷ packets) = record_line number packet ++ record_lines_from (number + 1) packets
