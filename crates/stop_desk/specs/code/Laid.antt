-- Parts as they stand on the board of a round.
use Rattle.std.specs.Prelude.{ℕ, List, Option}
use Rattle.stop_desk.specs.code.Board.{PartView, Board}
use Rattle.stop_desk.specs.declared.parts.Part.{Part}

-- the part without what was made of it
abbrev pub part_of : {M : Type 0} → Part M → PartView
part_of part = record {
  job = part.job;
  connection = part.connection;
  upto = part.upto;
  findings = part.findings.items;
}

-- the board of these parts
abbrev pub board_with : (parts : List PartView) → (seen lowered : List (ℕ × ℕ)) → (stops : List (Option ℕ)) → Board
board_with parts seen lowered stops =
    record { parts = parts; seen = seen; lowered = lowered; stops = stops }
