-- What the parts of a round add to connections.
use Rattle.std.specs.Global.{Global}
use Rattle.std.specs.Prelude.{◌≡◌, ℕ, ◌<◌, ◌==◌, if◌then◌else◌, Vec, List, [], ◌++◌, Option, length, slice_index_or}
use Rattle.std.specs.List.{flat_map}
use Rattle.std.specs.List.Sorted.{IsPermutation}
use Rattle.conn_scan.specs.code.Items.{NeverFallFrom}
use Rattle.split_merge.specs.code.Findings.{findings_in}
use Rattle.stop_desk.specs.code.Board.{PartView, findings_of_parts, stop_of}
use Rattle.stop_desk.specs.declared.parts.Part.{Part}
use Rattle.audit_rounds.specs.declared.per_connection.PerConnection.{PerConnection}

-- each connection, by its number, before and after something
pub record AreEach (Is : ℕ → PerConnection → PerConnection → Type 0) (before after : List PerConnection) : Type 0
  where
    pub number : length after ≡ length before
    pub each : (n : ℕ) (one other : PerConnection) → n < length before
        → Is n (slice_index_or before n one) (slice_index_or after n other)

-- the findings that the parts of connection n keep are added, and nothing else is changed
pub record HasTaken (parts : List PartView) (n : ℕ) (before after : PerConnection) : Type 0 where
  pub same : after ≡ record before { found = after.found }
  pub found : findings_in after.found ≡ findings_in before.found ++ findings_of_parts n parts

abbrev pub AreGathered : List PartView → (before after : List PerConnection) → Type 0
AreGathered parts before after = AreEach (HasTaken parts) before after

-- the numbers that the parts of a connection tell, one part after the other
abbrev pub numbers_told : (connection : ℕ) → List (Part (Vec ℕ Global)) → List ℕ
numbers_told connection parts =
    flat_map (λ (part : Part (Vec ℕ Global)). if part.connection == connection then part.made.items else []) parts

-- the same numbers, put in order
pub record IsInOrder (numbers ordered : List ℕ) : Type 0 where
  pub same : IsPermutation numbers ordered
  pub rising : NeverFallFrom 0 ordered

-- the stop is known, and these numbers with those of the split are in order; nothing else is changed
pub record IsClosed (stop : Option ℕ) (numbers : List ℕ) (before after : PerConnection) : Type 0 where
  pub same : after ≡ record before { stop = stop; opened = after.opened }
  pub opened : IsInOrder (numbers ++ before.prepared.split.opened.items) after.opened.items

abbrev pub AreClosed : List (Part (Vec ℕ Global)) → (stops : List (Option ℕ)) → (before after : List PerConnection)
    → Type 0
AreClosed parts stops before after = AreEach (λ (n : ℕ) (before : PerConnection). IsClosed (stop_of stops n)
    (before.opened.items ++ numbers_told n parts) before) before after
