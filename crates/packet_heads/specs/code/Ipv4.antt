-- What the module `ipv4` asks of a datagram and answers. No public clause cites these.
use Rattle.std.specs.Prelude.{◌==◌, ◌&&◌, ◌||◌, ◌≤◌, ℕ, Bool, not, nat_lt, List, [], ◌∷◌, length}
use Rattle.packet_heads.specs.declared.packets.Packet.{Packet}
use Rattle.packet_heads.specs.declared.packets.Packet.TheVariants.{Skipped, Refused}
use Rattle.packet_heads.specs.declared.packets.Skip.TheVariants.{Fragment, NotTcp}
use Rattle.packet_heads.specs.declared.packets.Refusal.TheVariants.{ShortIpv4, BadVersion, BadHeaderLength}
use Rattle.packet_heads.specs.declared.packets.Refusal.TheVariants.{BadTotalLength, PastEnd}
use Rattle.packet_heads.specs.Ipv4.{version, header_words, header_length, total_length, is_fragment, protocol}
use Rattle.packet_heads.specs.Ipv4.{datagram_end}

-- the header is whole, and the datagram does not end before it
abbrev pub HasHeader : List ℕ → Type 0
HasHeader datagram =
    (20 ≤ length datagram) × (header_length datagram ≤ datagram_end datagram)
    × (datagram_end datagram ≤ length datagram)

-- lines 3 to 9 of the packet decision
abbrev pub ipv4_lines : Bool → List ℕ → List (Bool × Packet)
ipv4_lines partial datagram =
    (nat_lt (length datagram) 20, Refused ShortIpv4)
    ∷ (not (version datagram == 4), Refused BadVersion)
    ∷ (nat_lt (header_words datagram) 5 || nat_lt (length datagram) (header_length datagram), Refused BadHeaderLength)
    ∷ (
      not (total_length datagram == 0) && nat_lt (total_length datagram) (header_length datagram),
      Refused BadTotalLength,
    )
    ∷ (nat_lt (length datagram) (total_length datagram) && not partial, Refused PastEnd)
    ∷ (is_fragment datagram, Skipped Fragment)
    ∷ (not (protocol datagram == 6), Skipped NotTcp)
    ∷ []
