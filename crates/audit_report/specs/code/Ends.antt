-- What the table of stall ends says, and what the sweep over findings keeps.
use Rattle.std.specs.Prelude.{◌≡◌, ℕ, ◌<◌, ◌^◌, List, [], ◌∷◌, if◌then◌else◌, IfSome, Option, reverse}
use Rattle.std.specs.BTreeMap.{get}
use Rattle.std.specs.Ordering.{nat_cmp}
use Rattle.audit_terms.specs.declared.sides.Side.{Side}
use Rattle.audit_terms.specs.declared.sides.Side.TheVariants.{Client, Server}
use Rattle.audit_terms.specs.declared.timed_findings.TimedFinding.{TimedFinding}
use Rattle.audit_terms.specs.Place.{place_stream}
use Rattle.audit_terms.specs.Kind.{begins_stall}
use Rattle.audit_report.specs.Stalls.{first_end, stall_of, timed_stalls}
use Rattle.audit_report.specs.declared.ends.Ends.{Ends}
use Rattle.audit_report.specs.declared.stalls.Stall.{Stall}

-- the end that the table has for the window of this side and stream
abbrev pub end_in : Ends → Side → ℕ → Option TimedFinding
end_in ends Client stream = get nat_cmp ends.by_side.client stream
end_in ends Server stream = get nat_cmp ends.by_side.server stream

-- the times of all ends in the table fit the type of a difference of times
pub record AreEndsInTime (ends : Ends) : Type 0 where
  pub at : (side : Side) (stream : ℕ) → IfSome (end_in ends side stream) (λ one. one.nanos < 2 ^ 63)

-- the stall that the finding begins, if it begins one, by the table of the ends after it
abbrev pub begun_by : Ends → TimedFinding → List Stall
begun_by ends found =
    if begins_stall found.kind
    then stall_of found (end_in ends found.side (place_stream found.place)) ∷ []
    else []

-- the table has the first end of each window among the findings
pub record HasFirstEnds (ends : Ends) (later : List TimedFinding) : Type 0 where
  pub at : (side : Side) (stream : ℕ) → end_in ends side stream ≡ first_end side stream later

-- the sweep has come down to the findings that are later
pub record HasSweptTo (later : List TimedFinding) (ends : Ends) (met : List Stall) : Type 0 where
  pub first : HasFirstEnds ends later
  pub reversed : reverse met ≡ timed_stalls later
