-- What the module `tcp` asks of a segment and answers. No public clause cites these.
use Rattle.std.specs.Prelude.{◌||◌, ◌≤◌, ℕ, Bool, nat_lt, List, [], ◌∷◌, length}
use Rattle.packet_heads.specs.declared.packets.Packet.{Packet}
use Rattle.packet_heads.specs.declared.packets.Packet.TheVariants.{Refused}
use Rattle.packet_heads.specs.declared.packets.Refusal.TheVariants.{ShortTcp, BadDataOffset}
use Rattle.packet_heads.specs.Tcp.{data_offset, header_length}

-- the header is whole
abbrev pub HasHeader : List ℕ → Type 0
HasHeader segment = (20 ≤ length segment) × (header_length segment ≤ length segment)

-- lines 10 and 11 of the packet decision
abbrev pub tcp_lines : List ℕ → List (Bool × Packet)
tcp_lines segment =
    (nat_lt (length segment) 20, Refused ShortTcp)
    ∷ (nat_lt (data_offset segment) 5 || nat_lt (length segment) (header_length segment), Refused BadDataOffset)
    ∷ []
