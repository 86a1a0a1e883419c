-- The table of the packet decision, in three parts.
use Rattle.std.proofs.Common.{◌≡◌, Bool, true, false, List, [], ◌∷◌, ◌++◌, unwrap_or, refl}
use Rattle.std.specs.Option.{option_map_or}
use Rattle.std.specs.Prelude.{ℕ, if◌then◌else◌, find}
use Rattle.packet_heads.specs.declared.packets.Packet.{Packet}
use Rattle.packet_heads.specs.Decision.{decision_lines}
use Rattle.packet_heads.specs.code.Lines.{first_answer}
use Rattle.packet_heads.specs.code.Ipv4.{ipv4_lines}
use Rattle.packet_heads.specs.code.Link.{ethernet_lines, raw_lines}
use Rattle.packet_heads.specs.code.Tcp.{tcp_lines}

-- the answer of the first line that applies, or this one
abbrev decide : List (Bool × Packet) → Packet → Packet
decide lines d = option_map_or (λ (line : Bool × Packet). line.1) (find (λ (line : Bool × Packet). line.0) lines) d

decide-append : (xs ys : List (Bool × Packet)) (d : Packet)
    → decide (xs ++ ys) d ≡ unwrap_or (first_answer xs) (decide ys d)
decide-append [] ys d = refl
decide-append ((true, a) ∷ xs) ys d = refl
decide-append ((false, a) ∷ xs) ys d = decide-append xs ys d

-- the lines of the packet decision are those of link, datagram and segment, one after the other
pub by_parts : (raw partial : Bool) (packet datagram segment : List ℕ) (d : Packet)
    → decide (decision_lines raw partial packet datagram segment) d
    ≡ unwrap_or (first_answer (if raw then raw_lines packet else ethernet_lines packet))
    (unwrap_or (first_answer (ipv4_lines partial datagram)) (unwrap_or (first_answer (tcp_lines segment)) d))
by_parts true partial packet datagram segment d = rw (
  decide-append (raw_lines packet) (ipv4_lines partial datagram ++ tcp_lines segment) d,
  decide-append (ipv4_lines partial datagram) (tcp_lines segment) d,
  decide-append (tcp_lines segment) [] d,
)
by_parts false partial packet datagram segment d = rw (
  decide-append (ethernet_lines packet) (ipv4_lines partial datagram ++ tcp_lines segment) d,
  decide-append (ipv4_lines partial datagram) (tcp_lines segment) d,
  decide-append (tcp_lines segment) [] d,
)
