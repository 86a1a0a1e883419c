-- The files that the program makes, by their paths.
use Rattle.std.specs.Prelude.{◌≡◌, ℕ, ◌+◌, ⊤, List, [], ◌∷◌, ◌++◌, codes, if◌then◌else◌, nat_lt, string_bytes}
use Rattle.std.specs.Fmt.{decimal}
use Rattle.split_program.specs.declared.paths.PartPaths.{PartPaths}

-- the zeros before a number of fewer than three digits
abbrev pub zeros : ℕ → List ℕ
zeros number = if nat_lt number 10 then codes "00" else if nat_lt number 100 then codes "0" else []

-- the path of a file of the part of this number, of this kind
abbrev pub path_of : (folder : List ℕ) (number : ℕ) (kind : List ℕ) → List ℕ
path_of folder number kind = folder ++ (codes "/part-" ++ (zeros number ++ (decimal number ++ (codes "." ++ kind))))

abbrev pub summary_path : (folder : List ℕ) → List ℕ
summary_path folder = folder ++ codes "/split.txt"

-- these are the paths of the files of the part of this number
abbrev pub IsNamed : (folder : List ℕ) (number : ℕ) → PartPaths → Type 0
IsNamed folder number paths = (string_bytes paths.packets ≡ path_of folder number (codes "pcap"))
    × (string_bytes paths.numbers ≡ path_of folder number (codes "records"))

-- and so of each part, in turn, the first of which has this number
abbrev pub AreNamed : (folder : List ℕ) (number : ℕ) → List PartPaths → Type 0
AreNamed folder number [] = ⊤
AreNamed folder number (paths ∷ later) = IsNamed folder number paths × AreNamed folder (number + 1) later
