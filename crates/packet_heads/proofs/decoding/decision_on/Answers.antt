use Rattle.std.proofs.Common.{◌≡◌, ◌==◌, ◌+◌, ℕ, List, drop, ap, unwrap_or, arith}
use Rattle.std.proofs.lemmas.Grind.{common_steps}
use Rattle.pcap_records.specs.LinkType.{raw_ip}
use Rattle.pcap_records.specs.declared.pcap_record.Record.{Record}
use Rattle.packet_heads.specs.Decision.{decision_on, is_partial, segment_of}
use Rattle.packet_heads.specs.Link.{datagram_start}
use Rattle.packet_heads.specs.Ipv4.{segment_bytes}
use Rattle.packet_heads.specs.declared.packets.Packet.TheVariants.{Segment}
use Rattle.packet_heads.specs.code.Ipv4.{ipv4_lines}
use Rattle.packet_heads.specs.code.Lines.{first_answer}
use Rattle.packet_heads.specs.code.Link.{link_lines}
use Rattle.packet_heads.specs.code.Tcp.{tcp_lines}
use Rattle.packet_heads.proofs.Table.{by_parts}
use Rattle.packet_heads.proofs.decoding.decision_on.Goals as goal

-- the decision by the three answers, where the datagram begins there
by_answers : (link number : ℕ) (row : Record) (packet : List ℕ) (start : ℕ) (datagram : List ℕ)
    → start ≡ datagram_start link packet → datagram ≡ drop start packet
    → decision_on link number row packet ≡ unwrap_or (first_answer (link_lines link packet))
    (unwrap_or (first_answer (ipv4_lines (is_partial row) datagram))
    (unwrap_or (first_answer (tcp_lines (segment_bytes datagram)))
    (Segment (segment_of number row (row.start + start) datagram))))
by_answers link number row packet start datagram start_is datagram_is =
    rw (datagram_is, start_is) (by_parts (link == raw_ip) (is_partial row) packet
    (drop (datagram_start link packet) packet) (segment_bytes (drop (datagram_start link packet) packet)) _)

pub returns-in-Some-clause-decided : goal.returns-in-Some-clause-decided
returns-in-Some-clause-decided c = grind (arith, common_steps)

pub returns-in-Some-passed_over-clause-decided : goal.returns-in-Some-passed_over-clause-decided
returns-in-Some-passed_over-clause-decided c =
    rw (
      by_answers c.args.link c.args.number c.args.row.now c.args.packet.now _ _ c.datagram_start-start.ensures
          c.datagram-datagram.ensures.datagram,
      ← c.in_default.ensures.answer,
      ← c.in-Some-passed_over.ensures.answer,
    )

pub returns-in-Some-passed_over-2-clause-decided : goal.returns-in-Some-passed_over-2-clause-decided
returns-in-Some-passed_over-2-clause-decided c =
    rw (
      by_answers c.args.link c.args.number c.args.row.now c.args.packet.now _ _ c.datagram_start-start.ensures
          c.datagram-datagram.ensures.datagram,
      ← c.in_default.ensures.answer,
      ← c.in_default-passed_over.ensures.answer,
      ← c.segment.ensures,
      ← c.in-Some-passed_over-2.ensures.answer,
    )

pub returns-clause-decided : goal.returns-clause-decided
returns-clause-decided c =
    rw (
      by_answers c.args.link c.args.number c.args.row.now c.args.packet.now _ _ c.datagram_start-start.ensures
          c.datagram-datagram.ensures.datagram,
      ← c.in_default.ensures.answer,
      ← c.in_default-passed_over.ensures.answer,
      ← (rw c.segment.ensures at c.in_default-passed_over-2.ensures.answer),
    ) (ap Segment c.segment_of.ensures.segment)
