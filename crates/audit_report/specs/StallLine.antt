-- The line of a stall.
use Rattle.std.specs.Prelude.{ℕ, ℤ, List, ◌++◌, codes, Option, Some, None}
use Rattle.std.specs.Fmt.{signed_decimal}
use Rattle.std.specs.List.{flat_map}
use Rattle.audit_report.specs.Line.{line, field}
use Rattle.audit_terms.specs.Side.{side_name}
use Rattle.audit_report.specs.declared.stalls.Stall.{Stall}

-- ` to M nanos D`, or ` open` where the stall does not end
abbrev pub stall_end_text : Option ℕ → ℤ → List ℕ
stall_end_text None nanos = codes " open"
stall_end_text (Some number) nanos = field (codes " to ") number ++ codes " nanos " ++ signed_decimal nanos

-- `stall SIDE stream S from N to M nanos D` or `stall SIDE stream S from N open`
abbrev pub stall_line : Stall → List ℕ
stall_line stall = line (codes "stall " ++ side_name stall.side ++ field (codes " stream ") stall.stream
    ++ field (codes " from ") stall.from ++ stall_end_text stall.to stall.nanos)

-- a line for each stall, in order
abbrev pub stall_lines : List Stall → List ℕ
stall_lines stalls = flat_map stall_line stalls
