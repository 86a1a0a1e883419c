-- The sweep from the back meets the stalls in reverse.
use Rattle.audit_report.specs.{Stalls.first_end, Stalls.is_end_of, Stalls.stall_of, Stalls.timed_stalls}
use Rattle.audit_report.specs.{code.Ends.AreEndsInTime, code.Ends.HasSweptTo, code.Ends.begun_by, code.Ends.end_in}
use Rattle.audit_report.specs.{declared.ends.Ends.Ends, declared.stalls.Stall.Stall}
use Rattle.audit_terms.specs.{Kind.begins_stall, Place.place_stream}
use Rattle.audit_terms.specs.declared.{sides.Side.Side, timed_findings.TimedFinding.TimedFinding}
use Rattle.std.proofs.Common.{Bool, IfSome, List, Option, Some, [], ap, arith, drop, false, get_or, if◌then◌else◌}
use Rattle.std.proofs.Common.{length, map, reverse, subst, sym, true, ℕ, ◌++◌, ◌-◌, ◌<◌, ◌^◌, ◌∙◌, ◌∷◌, ◌≡◌, ◌≤◌}
use Rattle.std.proofs.lemmas.List.{drop_more, reverse-append}

put_before : (begins : Bool) (stall : Stall) (met rest : List Stall) → reverse met ≡ rest
    → reverse (if begins then stall ∷ [] else []) ++ reverse met ≡ (if begins then stall ∷ rest else rest)
put_before true stall met rest e = ap (λ l. stall ∷ l) e
put_before false stall met rest e = e

-- the table after one finding more: that finding, where it is an end
abbrev pub EndsAfter : TimedFinding → (ends ends' : Ends) → Type 0
EndsAfter found ends ends' = (side : Side) (stream : ℕ)
    → end_in ends' side stream ≡ (if is_end_of side stream found then Some found else end_in ends side stream)

-- the times of its ends stay in range
pub still_in_time : (found : TimedFinding) (ends ends' : Ends) → found.nanos < 2 ^ 63 → AreEndsInTime ends
    → EndsAfter found ends ends' → AreEndsInTime ends'
still_in_time found ends ends' here before ended = record {
  at = λ side stream. subst (λ (end : Option TimedFinding). IfSome end (λ one. one.nanos < 2 ^ 63))
      (sym (ended side stream)) (either (is_end_of side stream found) (end_in ends side stream)
      (before.at side stream));
} where
  either : (is : Bool) (end : Option TimedFinding) → IfSome end (λ one. one.nanos < 2 ^ 63)
      → IfSome (if is then Some found else end) (λ one. one.nanos < 2 ^ 63)
  either true end was = here
  either false end was = was

-- one more finding
swept_more : (found : TimedFinding) (later : List TimedFinding) (ends ends' : Ends) (met : List Stall)
    → HasSweptTo later ends met → EndsAfter found ends ends'
    → HasSweptTo (found ∷ later) ends' (met ++ begun_by ends found)
swept_more found later ends ends' met swept ended = record {
  first = record {
    at = λ side stream. ended side stream
        ∙ ap (λ (o : Option TimedFinding). if is_end_of side stream found then Some found else o)
        (swept.first.at side stream);
  };
  reversed = reverse-append met (begun_by ends found)
      ∙ ap (λ (o : Option TimedFinding). reverse (if begins_stall found.kind then stall_of found o ∷ [] else [])
      ++ reverse met) (swept.first.at found.side (place_stream found.place))
      ∙ put_before (begins_stall found.kind)
      (stall_of found (first_end found.side (place_stream found.place) later)) met
      (timed_stalls later) swept.reversed;
}

-- what is left of a list from one place before
drop_one_less : {A : Type 0} (list : List A) (left : ℕ) (here : A) → 0 < left → left ≤ length list
    → here ≡ get_or list (left - 1) here → drop (left - 1) list ≡ here ∷ drop left list
drop_one_less list left here positive within is = grind (arith, drop_more)

-- one step down a list of what gives findings, before those that are later
pub swept_down : {A : Type 0} (give : A → TimedFinding) (list : List A) (later : List TimedFinding) (left : ℕ)
    (here : A) (ends ends' : Ends) (met met' : List Stall)
    → 0 < left → left ≤ length list → here ≡ get_or list (left - 1) here
    → HasSweptTo (map give (drop left list) ++ later) ends met → EndsAfter (give here) ends ends'
    → met' ≡ met ++ begun_by ends (give here)
    → HasSweptTo (map give (drop (left - 1) list) ++ later) ends' met'
swept_down {A = A} give list later left here ends ends' met met' positive within is swept ended begun =
    let P : List TimedFinding → List Stall → Type 0 = λ l m. HasSweptTo l ends' m in
    let rest = map give (drop left list) ++ later in
    let stepped : P (give here ∷ rest) (met ++ begun_by ends (give here)) =
    swept_more (give here) rest ends ends' met swept ended in
    subst (λ (l : List A). P (map give l ++ later) met') (sym (drop_one_less list left here positive within is))
    (subst (λ (m : List Stall). P (give here ∷ rest) m) (sym begun) stepped)
