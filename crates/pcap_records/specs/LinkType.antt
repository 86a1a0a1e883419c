-- The link types of a pcap file header that are read, by their numbers in the list of link types of the format.
use Rattle.std.specs.Prelude.{ℕ, ◌==◌, ◌||◌, Bool}

-- LINKTYPE_ETHERNET: a record holds an Ethernet frame
abbrev pub ethernet : ℕ
ethernet = 1

-- LINKTYPE_RAW: a record holds an IP datagram, with nothing before it
abbrev pub raw_ip : ℕ
raw_ip = 101

-- is it one of the two?
abbrev pub is_read : ℕ → Bool
is_read link = link == ethernet || link == raw_ip
