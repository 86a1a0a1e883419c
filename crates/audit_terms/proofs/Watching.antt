-- How a watch goes from step to step.
use Rattle.std.{proofs.Common.append_assoc, proofs.Common.length-append, proofs.Math.Bool.or-true, specs.List.list_any}
use Rattle.std.proofs.Common.{Bool, List, None, Some, [], ap, refl, suc, sym, ℕ, ◌*◌, ◌+◌, ◌-◌, ◌<◌, ◌∙◌, ◌∷◌, ◌≡◌, ◌≤◌}
use Rattle.std.proofs.Common.{Option, append-nil, arith, false, length, slice_get, subst, true, zero, ◌++◌}
use Rattle.std.proofs.lemmas.{Bool.Decides.nat_tests, List.Folds.list_any-append, Option.slice_get_within}
use Rattle.audit_terms.specs.{code.Watch.NeverFallFrom, declared.findings.Finding.Finding, declared.looks.Watch.Watch}
use Rattle.audit_terms.specs.code.{Watch.IsStopped, Watch.Watches, runs.Look.found_before, runs.Look.steps_between}
use Rattle.audit_terms.specs.code.runs.Look.{Asked, IsRun, Looked, LooksInTime, LooksOn, is_past, last_answer, up_to}

looked-on : {L : Type 0} (answers : L → List Finding → Option ℕ → L → Type 0) (a b d : L) (asked : List Asked)
    (one : Asked) → Looked answers a asked b → answers b one.handed one.answer d
    → Looked answers a (asked ++ one ∷ []) d
looked-on answers a b d [] one is step = (d, subst (λ s. answers s one.handed one.answer d) (sym is) step, refl)
looked-on answers a b d (x ∷ xs) one (m, first, rest) step = (m, first, looked-on answers m b d xs one rest step)

last-on : (first : Option ℕ) (asked : List Asked) (one : Asked) → last_answer first (asked ++ one ∷ []) ≡ one.answer
last-on first [] one = refl
last-on first (x ∷ xs) one = last-on x.answer xs one

any-on : (test : ℕ → Bool) (met : List ℕ) (number : ℕ) → list_any test met ≡ false
    → test number ≡ false → list_any test (met ++ number ∷ []) ≡ false
any-on test met number none is = list_any-append test met (number ∷ []) ∙ rw (none, is) refl

any-at : (test : ℕ → Bool) (met : List ℕ) (number : ℕ) (left : List ℕ) → test number ≡ true
    → list_any test (met ++ number ∷ left) ≡ true
any-at test met number left is = list_any-append test met (number ∷ left) ∙ rw (is, or-true) refl

get-at : (met : List ℕ) (number : ℕ) (left : List ℕ) (at : ℕ) → length met ≡ at
    → slice_get (met ++ number ∷ left) at ≡ Some number
get-at [] number left at e = rw (← e) refl
get-at (x ∷ xs) number left at e = rw (← e) (get-at xs number left _ refl)

fall-at : (low number : ℕ) (numbers : List ℕ) (n : ℕ) → NeverFallFrom low numbers → slice_get numbers n ≡ Some number
    → low ≤ number
fall-at low number [] n fall is = cc
fall-at low number (x ∷ xs) zero fall is = grind (arith, fall.0)
fall-at low number (x ∷ xs) (suc n) fall is = omega (arith, fall-at x number xs n fall.1 is, fall.0)

past-lower : (stop : Option ℕ) (lower number : ℕ) → lower ≤ number → is_past stop number ≡ false
    → is_past stop lower ≡ false
past-lower stop lower number order is = grind (arith, nat_tests)

pub past-higher : (stop : Option ℕ) (number higher : ℕ) → number ≤ higher → is_past stop number ≡ true
    → is_past stop higher ≡ true
past-higher stop number higher order is = grind (arith, nat_tests)

none-past : (stop : Option ℕ) (low : ℕ) (met : List ℕ) (number : ℕ) (left : List ℕ)
    → NeverFallFrom low (met ++ number ∷ left) → is_past stop number ≡ false
    → (low ≤ number) × (list_any (is_past stop) met ≡ false)
none-past stop low [] number left fall is = (fall.0, refl)
none-past stop low (x ∷ xs) number left (order, fall) is =
    grind (arith, nat_tests, none-past stop x xs number left fall is, past-lower)

-- all steps from one that lies past on lie past
get-later : (stop : Option ℕ) (low : ℕ) (met : List ℕ) (number : ℕ) (left : List ℕ) (at later : ℕ)
    → NeverFallFrom low (met ++ number ∷ left) → is_past stop number ≡ true → length met ≤ at
    → slice_get (met ++ number ∷ left) at ≡ Some later → is_past stop later ≡ true
get-later stop low [] number left at later fall past order is = grind (arith, nat_tests, past-higher, fall-at)
get-later stop low (x ∷ xs) number left zero later fall past order is = absurd (omega arith)
get-later stop low (x ∷ xs) number left (suc at) later fall past order is =
    get-later stop x xs number left at later fall.1 past (omega arith) is

-- what lies at or before a stop was found before each frame that lies past the stop
up-to-before : (stop : Option ℕ) (number : ℕ) (whole : List Finding) → is_past stop number ≡ true
    → up_to stop (found_before number whole) ≡ up_to stop whole
up-to-before None number whole is = cc
up-to-before (Some place) number [] is = refl
up-to-before (Some place) number (x ∷ xs) is = grind (arith, nat_tests, up-to-before (Some place) number xs is)

module _ {L : Type 0} (answers : L → List Finding → Option ℕ → L → Type 0) (start : L) (whole : List Finding) where
  pub begins : (after : L) (numbers : List ℕ) (stop : Option ℕ) → answers start [] stop after → NeverFallFrom 0 numbers
      → Watches answers start after whole [] numbers (record { stop = stop; looks = 1; left = 256 })
  begins after numbers stop answered fall = record {
    asked = record { handed = []; answer = stop } ∷ [];
    looked = (after, answered, refl);
    count = refl;
    last = refl;
    due = refl;
    rise = fall;
    within = refl;
    in_time = λ rest on. (refl, on);
  }

  -- one more step
  pub steps : (now : L) (met : List ℕ) (number : ℕ) (left : List ℕ) (watch : Watch)
      → Watches answers start now whole met (number ∷ left) watch → is_past watch.stop number ≡ false → 0 < watch.left
      → Watches answers start now whole (met ++ number ∷ []) left (record watch { left = watch.left - 1 })
  steps now met number left watch w within some =
      let same = append_assoc met (number ∷ []) left in record {
        asked = w.asked;
        looked = w.looked;
        count = w.count;
        last = w.last;
        due = omega (arith, w.due, length-append met (number ∷ []));
        rise = subst (NeverFallFrom 0) (sym same) w.rise;
        within = any-on (is_past watch.stop) met number w.within within;
        in_time = subst (λ l. (rest : List Asked) → LooksOn l whole watch.looks watch.stop rest
            → LooksInTime l whole (w.asked ++ rest)) (sym same) w.in_time;
      }

  -- the look that is due before a step
  pub asks : (now after : L) (met : List ℕ) (number : ℕ) (left : List ℕ) (watch : Watch) (stop : Option ℕ)
      → Watches answers start now whole met (number ∷ left) watch → is_past watch.stop number ≡ false → watch.left ≡ 0
      → answers now (found_before number whole) stop after → is_past stop number ≡ false
      → Watches answers start after whole met (number ∷ left)
      (record { stop = stop; looks = watch.looks + 1; left = 256 })
  asks now after met number left watch stop w within none answered goes =
      let one : Asked = record { handed = found_before number whole; answer = stop } in record {
        asked = w.asked ++ one ∷ [];
        looked = looked-on answers start now after w.asked one w.looked answered;
        count = length-append w.asked (one ∷ []) ∙ ap (λ n. n + 1) w.count;
        last = last-on None w.asked one;
        due = omega (arith, w.due);
        rise = w.rise;
        within = (none-past stop 0 met number left w.rise goes).1;
        in_time = λ rest on. subst (LooksInTime (met ++ number ∷ left) whole)
            (sym (append_assoc w.asked (one ∷ []) rest)) (w.in_time (one ∷ rest)
            (number, get-at met number left _ (omega (arith, w.due)), within, refl, on));
      }

  -- the step lies past the last answer
  pub stops : (now : L) (met : List ℕ) (number : ℕ) (left : List ℕ) (watch : Watch)
      → Watches answers start now whole met (number ∷ left) watch → is_past watch.stop number ≡ true
      → IsStopped answers start now whole (met ++ number ∷ left) number watch
  stops now met number left watch w past = record {
    asked = w.asked;
    looked = w.looked;
    count = w.count;
    last = w.last;
    past = past;
    any = any-at (is_past watch.stop) met number left past;
    in_time = subst (LooksInTime (met ++ number ∷ left) whole) (append-nil w.asked)
        (w.in_time [] (λ later is. get-later watch.stop 0 met number left (steps_between * watch.looks) later
        w.rise past (omega (arith, w.due)) is));
  }

  -- the step lies past what a look before it answers
  pub asks-stops : (now after : L) (met : List ℕ) (number : ℕ) (left : List ℕ) (watch : Watch) (stop : Option ℕ)
      → Watches answers start now whole met (number ∷ left) watch → is_past watch.stop number ≡ false → watch.left ≡ 0
      → answers now (found_before number whole) stop after → is_past stop number ≡ true
      → IsStopped answers start after whole (met ++ number ∷ left) number
      (record { stop = stop; looks = watch.looks + 1; left = 256 })
  asks-stops now after met number left watch stop w within none answered past =
      let one : Asked = record { handed = found_before number whole; answer = stop } in record {
        asked = w.asked ++ one ∷ [];
        looked = looked-on answers start now after w.asked one w.looked answered;
        count = length-append w.asked (one ∷ []) ∙ ap (λ n. n + 1) w.count;
        last = last-on None w.asked one;
        past = past;
        any = any-at (is_past stop) met number left past;
        in_time = w.in_time (one ∷ []) (
          number,
          get-at met number left _ (omega (arith, w.due)),
          within,
          refl,
          λ later is. get-later stop 0 met number left _ later w.rise past (omega (arith, w.due)) is,
        );
      }

  -- a run that met all its steps is whole
  pub ends : (now : L) (met : List ℕ) (watch : Watch) → Watches answers start now whole met [] watch
      → IsRun answers start now met whole whole None watch.stop watch.looks
  ends now met watch w = record {
    asked = w.asked;
    looked = w.looked;
    in_time = subst (λ l. LooksInTime l whole w.asked) (append-nil met)
        (subst (LooksInTime (met ++ []) whole) (append-nil w.asked) (w.in_time [] (λ number is.
        absurd (omega (arith, w.due, slice_get_within (met ++ []) _ number is, length-append met [])))));
    count = w.count;
    last = w.last;
    goes = rw (w.within) refl;
    found = refl;
  }

  -- a run that stopped goes up to the last answer
  pub is-cut : (now : L) (numbers : List ℕ) (number : ℕ) (watch : Watch) (kept : List Finding)
      → IsStopped answers start now whole numbers number watch → kept ≡ up_to watch.stop (found_before number whole)
      → IsRun answers start now numbers whole kept watch.stop watch.stop watch.looks
  is-cut now numbers number watch kept w found = record {
    asked = w.asked;
    looked = w.looked;
    in_time = w.in_time;
    count = w.count;
    last = w.last;
    goes = rw (w.any) refl;
    found = found ∙ up-to-before watch.stop number whole w.past;
  }
