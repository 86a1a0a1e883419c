-- What the modules `link` and `ethernet` answer. No public clause cites these.
use Rattle.std.specs.Prelude.{◌==◌, ℕ, Bool, not, nat_lt, List, [], ◌∷◌, length, if◌then◌else◌}
use Rattle.pcap_records.specs.LinkType.{raw_ip}
use Rattle.packet_heads.specs.declared.packets.Packet.{Packet}
use Rattle.packet_heads.specs.declared.packets.Packet.TheVariants.{Skipped, Refused}
use Rattle.packet_heads.specs.declared.packets.Skip.TheVariants.{NotIpv4}
use Rattle.packet_heads.specs.declared.packets.Refusal.TheVariants.{ShortEthernet, ShortIpv4}
use Rattle.packet_heads.specs.Ethernet.{header_length, ether_type}
use Rattle.packet_heads.specs.Ipv4.{version}

-- lines 1 and 2 of the packet decision on a frame
abbrev pub ethernet_lines : List ℕ → List (Bool × Packet)
ethernet_lines frame =
    (nat_lt (length frame) (header_length frame), Refused ShortEthernet)
    ∷ (not (ether_type frame == 0x0800), Skipped NotIpv4)
    ∷ []

-- lines 1 and 2 of the packet decision on raw IP, whose datagrams are of version 4 or 6
abbrev pub raw_lines : List ℕ → List (Bool × Packet)
raw_lines packet =
    (length packet == 0, Refused ShortIpv4)
    ∷ (version packet == 6, Skipped NotIpv4)
    ∷ []

-- lines 1 and 2 of the packet decision
abbrev pub link_lines : ℕ → List ℕ → List (Bool × Packet)
link_lines link packet = if link == raw_ip then raw_lines packet else ethernet_lines packet
