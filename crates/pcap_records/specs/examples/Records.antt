-- Bytes of worked examples.
use Rattle.std.specs.Prelude.{ℕ, List, [], ◌∷◌, ◌++◌}
use Rattle.pcap_records.specs.declared.pcap_record.Record.{Record}

-- the magic of big-endian numbers and nanoseconds, and of little-endian numbers and microseconds
abbrev pub big_nanoseconds : List ℕ
big_nanoseconds = 0xa1 ∷ 0xb2 ∷ 0x3c ∷ 0x4d ∷ []

abbrev pub little_microseconds : List ℕ
little_microseconds = 0xd4 ∷ 0xc3 ∷ 0xb2 ∷ 0xa1 ∷ []

-- that of another format
abbrev pub pcapng : List ℕ
pcapng = 0x0a ∷ 0x0d ∷ 0x0d ∷ 0x0a ∷ []

-- version and network in little-endian numbers: 2.4, Ethernet, and Linux's cooked form
abbrev pub version_2_4 : List ℕ
version_2_4 = 2 ∷ 0 ∷ 4 ∷ 0 ∷ []

abbrev pub ethernet : List ℕ
ethernet = 1 ∷ 0 ∷ 0 ∷ 0 ∷ []

abbrev pub cooked : List ℕ
cooked = 113 ∷ 0 ∷ 0 ∷ 0 ∷ []

-- a file header: magic, version, time zone 0, accuracy 0, any snapshot length, network
abbrev pub file_header : List ℕ → List ℕ → List ℕ → List ℕ
file_header magic version network =
    magic ++ version ++ (0 ∷ 0 ∷ 0 ∷ 0 ∷ 0 ∷ 0 ∷ 0 ∷ 0 ∷ 9 ∷ 9 ∷ 9 ∷ 9 ∷ []) ++ network

-- one of little-endian numbers
abbrev pub little_header : List ℕ → List ℕ → List ℕ
little_header version network = file_header little_microseconds version network

-- seconds 2, fraction 4,000,000,003, captured length 1, original length 5, the captured byte
abbrev pub big_record : List ℕ
big_record = 0 ∷ 0 ∷ 0 ∷ 2 ∷ 0xee ∷ 0x6b ∷ 0x28 ∷ 3 ∷ 0 ∷ 0 ∷ 0 ∷ 1 ∷ 0 ∷ 0 ∷ 0 ∷ 5 ∷ 7 ∷ []

abbrev pub little_record : List ℕ
little_record = 2 ∷ 0 ∷ 0 ∷ 0 ∷ 3 ∷ 0x28 ∷ 0x6b ∷ 0xee ∷ 1 ∷ 0 ∷ 0 ∷ 0 ∷ 5 ∷ 0 ∷ 0 ∷ 0 ∷ 7 ∷ []

-- what either record is, whose byte stands at `start`
abbrev pub row : ℕ → ℕ → Record
row nanos start = record { nanos = nanos; original = 5; start = start; length = 1 }
