-- An Ethernet frame as far as it was captured (RFC 894): two addresses of 6 bytes, a type of 2, and the data. A
-- VLAN tag (IEEE 802.1Q) puts 4 bytes before that type: 0x8100, and 2 of priority and VLAN identifier, which have
-- no effect. A second tag is data of another type than IPv4. All numbers are big-endian.
use Rattle.std.specs.Prelude.{ℕ, ◌-◌, ◌==◌, Bool, List, drop, if◌then◌else◌}
use Rattle.byteorder.specs.Endian.{big_number}

-- is there a VLAN tag behind the addresses?
unfoldable pub is_tagged : List ℕ → Bool
is_tagged frame = big_number 2 (drop 12 frame) == 0x8100

-- the header's length in bytes, one tag included
unfoldable pub header_length : List ℕ → ℕ
header_length frame = if is_tagged frame then 18 else 14

-- what the data is, by the header's last 2 bytes: 0x0800 for IPv4
unfoldable pub ether_type : List ℕ → ℕ
ether_type frame = big_number 2 (drop (header_length frame - 2) frame)
