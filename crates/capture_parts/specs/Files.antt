-- How a file orders the bytes of its numbers.
use Rattle.std.specs.Prelude.{Bool, true, false}
use Rattle.byteorder.specs.Endian.{big_number, little_number}
use Rattle.pcap_records.specs.FileHeader.{ByteOrder}

-- the order of the bytes in a file's numbers
abbrev pub order_of : Bool → ByteOrder
order_of true n bytes = little_number n bytes
order_of false n bytes = big_number n bytes
