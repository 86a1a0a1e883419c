-- The file header of the classic pcap format, version 2.4. Its 24 bytes are: magic u32, major
-- version u16, minor version u16, time zone u32, accuracy u32, snapshot length u32, network u32.
use Rattle.std.specs.Prelude.{ℕ, ◌^◌, ◌%◌, ◌==◌, ◌&&◌, Bool, if◌then◌else◌, Option, Some, None, List, drop, take}
use Rattle.byteorder.specs.Endian.{big_number, little_number}
use Rattle.pcap_records.specs.declared.format.Endian.{Endian}
use Rattle.pcap_records.specs.declared.format.Endian.TheVariants.{Big, Little}
use Rattle.pcap_records.specs.declared.format.Format.{Format}

-- how a number of n bytes is read from the front of a list of bytes
abbrev pub ByteOrder : Type 0
ByteOrder = ℕ → List ℕ → ℕ

-- the order of the bytes in a file's numbers
abbrev pub number_of : Endian → ByteOrder
number_of Big n bytes = big_number n bytes
number_of Little n bytes = little_number n bytes

-- the first 24 bytes
abbrev pub header_of : List ℕ → List ℕ
header_of capture = take 24 capture

-- what a magic tells, read with its highest byte first: how the file orders bytes, and how many
-- nanoseconds are in a unit of a record's fraction
abbrev pub format_by : ℕ → Option Format
format_by magic =
    if magic == 0xa1b2c3d4 then Some (record { endian = Big; unit = 1000 }) else
    if magic == 0xa1b23c4d then Some (record { endian = Big; unit = 1 }) else
    if magic == 0xd4c3b2a1 then Some (record { endian = Little; unit = 1000 }) else
    if magic == 0x4d3cb2a1 then Some (record { endian = Little; unit = 1 }) else
    None

-- the format that a header's magic tells
abbrev pub format_of : List ℕ → Option Format
format_of header = format_by (big_number 4 header)

-- the version is 2.4
abbrev pub is_version : ByteOrder → List ℕ → Bool
is_version number header = number 2 (drop 4 header) == 2 && number 2 (drop 6 header) == 4

-- the link type: the low 16 bits of the network; the upper 16 are ignored
abbrev pub link_of : ByteOrder → List ℕ → ℕ
link_of number header = number 4 (drop 20 header) % 2 ^ 16
