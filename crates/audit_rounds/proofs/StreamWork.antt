-- What is made of one stream, and of several.
use Rattle.audit_rounds.proofs.Words.{◌≡◌, ℕ, ◌-◌, ◌^◌, ◌≤◌, ◌⊎◌, inl, inr, min, ⊎_elim, Bool, List, [], ◌∷◌, ◌++◌, All}
use Rattle.audit_rounds.proofs.Words.{get_or, append-nil, append_assoc, Option, Some, None, refl, sym, ap, arith}
use Rattle.audit_rounds.proofs.Words.{option_to_list, All-contains, All-append, All-nil, Contains-append_left, Finding}
use Rattle.audit_rounds.proofs.Words.{in_order, Asked, IsRun, place_number, opened_up_to, IsPast, whole_is_cut_lem}
use Rattle.audit_rounds.proofs.Words.{RunLooks, Result, Ok, Err, IfOk, Frame, IsOrderly, shown, stream_run, Reaches}
use Rattle.audit_rounds.proofs.Words.{stream_at_end, StreamRow, frames_at, Streams, lesser_place, IsWork, IsRow}
use Rattle.audit_rounds.proofs.Words.{RowsLook, row_shown, row_opened, rows_shown, rows_opened}
use Rattle.std.proofs.lemmas.Bool.{cases_lt}
use Rattle.std.proofs.lemmas.List.{flat_map_more}
use Rattle.std.proofs.lemmas.List.Elements.{All-contains_itself, Contains-append_right}
use Rattle.audit_terms.specs.code.runs.Look.{Looked}
use Rattle.stop_desk.proofs.RoundMembers.{in_order-contains}
use Rattle.stop_desk.proofs.RoundCuts.{cuts_join_lem}
use Rattle.stream_credit.specs.declared.stream_parts.StreamRun.{StreamRun}
use Rattle.stream_credit.specs.code.Looks.{step_numbers}
use Rattle.split_merge.specs.code.Split.{row_positions}
use Rattle.audit_rounds.specs.code.Streams.{RowLooks}
use Rattle.audit_rounds.proofs.Jobs.{run-heeds, upto-cut}
use Rattle.audit_rounds.proofs.Openings.{agree-append, agree-opened, agree-reached}
use Rattle.audit_rounds.proofs.StreamOrder.{shown-ordered}

-- ---- one stream

module _ {L : Type 0} (answers : L → List Finding → Option ℕ → L → Type 0) where
  -- a run of a stream is its work
  pub work-of_run : (before after : L) (numbers : List ℕ) (whole kept : List Finding) (upto last_look : Option ℕ)
      (looks : ℕ) (opening opened : Option ℕ) → in_order whole ≡ whole
      → IsRun answers before after numbers whole kept upto last_look looks → opened ≡ opened_up_to upto opening
      → All (λ (found : Finding). place_number found.place ≤ 2 ^ 28 - 2) kept
      → IsWork answers (RunLooks numbers whole) before after whole (option_to_list opening) upto kept
      (option_to_list opened)
  work-of_run before after numbers whole kept upto last_look looks opening opened o run e n = record {
    cut = upto-cut whole kept upto o run.found;
    opens = rw e (agree-opened upto opening);
    numbered = n;
    looks = run-heeds answers before after numbers whole kept upto last_look looks run;
  }

-- ---- the lesser of two places

reaches-one : (one other : Option ℕ) → Reaches one (lesser_place one other)
reaches-one None other = tt
reaches-one (Some a) None = omega arith
reaches-one (Some a) (Some b) = omega arith

reaches-other : (one other : Option ℕ) → Reaches other (lesser_place one other)
reaches-other one None = tt
reaches-other None (Some b) = omega arith
reaches-other (Some a) (Some b) = omega arith

past-reached : (upto stop : Option ℕ) (place : ℕ) → Reaches upto stop → IsPast upto place → IsPast stop place
past-reached None stop place r h = absurd h
past-reached (Some a) None place r h = absurd r
past-reached (Some a) (Some b) place r h = omega arith

lesser-is : (one other : Option ℕ) (place : ℕ) → lesser_place one other ≡ Some place
    → (one ≡ Some place) ⊎ (other ≡ Some place)
lesser-is None other place e = inr e
lesser-is (Some a) None place e = inl e
lesser-is (Some a) (Some b) place e =
    let least : min a b ≡ place = cc in
    ⊎_elim (λ l. inl (ap Some (let same : a ≡ place = omega arith in same)))
    (λ l. inr (ap Some (let same : b ≡ place = omega arith in same))) (cases_lt a b)

lesser-none : (one : Option ℕ) → lesser_place one None ≡ one
lesser-none None = refl
lesser-none (Some a) = refl

lesser-assoc : (a b c : Option ℕ) → lesser_place (lesser_place a b) c ≡ lesser_place a (lesser_place b c)
lesser-assoc None b c = refl
lesser-assoc (Some a) None c = refl
lesser-assoc (Some a) (Some b) None = refl
lesser-assoc (Some a) (Some b) (Some c) = grind arith

-- ---- one row more

all-in_order : (P : Finding → Type 0) (xs : List Finding) → All P xs → All P (in_order xs)
all-in_order P xs h k d l =
    let x = get_or (in_order xs) k d in
    All-contains P xs x h (in_order-contains xs x (All-contains_itself (in_order xs) k d l))

module _ (frames_shown : Bool) (streams : Streams) (row : StreamRow) where
  looks-more : (rows : List StreamRow) (asked asked' : List Asked) (one other : Option ℕ)
      → RowsLook frames_shown streams rows asked one → RowLooks frames_shown streams row asked' other
      → RowsLook frames_shown streams (rows ++ row ∷ []) (asked ++ asked') (lesser_place one other)
  looks-more [] asked asked' one other (none, whole) k =
      rw (none, whole) (asked', [], other, None, sym (append-nil asked'), sym (lesser-none other), k, (refl, refl))
  looks-more (first ∷ rows) asked asked' one other (front, rest, a, b, is, least, h, later) k =
      rw (is, least) (
        front,
        rest ++ asked',
        a,
        lesser_place b other,
        append_assoc front rest asked',
        lesser-assoc a b other,
        h,
        looks-more rows rest asked' b other later k,
      )

module _ {L : Type 0} (answers : L → List Finding → Option ℕ → L → Type 0) (frames_shown : Bool) (streams : Streams)
  where
    -- the work of some rows
    abbrev pub IsRowsWork : (rows : List StreamRow) → L → L → Option ℕ → List Finding → List ℕ → Type 0
    IsRowsWork rows before after upto kept opened =
        IsWork answers (RowsLook frames_shown streams rows) before after (rows_shown frames_shown streams rows)
        (rows_opened streams rows) upto kept opened

    -- that of one row
    abbrev pub IsRowWork : (row : StreamRow) → L → L → Option ℕ → List Finding → Option ℕ → Type 0
    IsRowWork row before after upto kept opened =
        IsWork answers (RowLooks frames_shown streams row) before after (row_shown frames_shown streams row)
        (option_to_list (row_opened streams row)) upto kept (option_to_list opened)

    -- the work of no row
    pub work-none : (a : L) → IsRowsWork [] a a None [] []
    work-none a = record {
      cut = whole_is_cut_lem [] None refl;
      opens = λ number h. refl;
      numbered = All-nil (λ (found : Finding). place_number found.place ≤ 2 ^ 28 - 2);
      looks = record { asked = []; looked = refl; in_time = (refl, refl); answered = λ place e. cc };
    }

    looked-join : (a b c : L) (asked asked' : List Asked) → Looked answers a asked b → Looked answers b asked' c
        → Looked answers a (asked ++ asked') c
    looked-join a b c [] asked' h k = rw h k
    looked-join a b c (one ∷ asked) asked' h k = (h.0, h.1, looked-join h.0 b c asked asked' h.2 k)

    -- the work of some rows and of one more
    pub work-more : (rows : List StreamRow) (row : StreamRow) (a b c : L) (kept kept' : List Finding) (opened : List ℕ)
        (opened' one other : Option ℕ) → IsRowsWork rows a b one kept opened → IsRowWork row b c other kept' opened'
        → IsRowsWork (rows ++ row ∷ []) a c (lesser_place one other) (in_order (kept ++ kept'))
        (opened ++ option_to_list opened')
    work-more rows row a b c kept kept' opened opened' one other h k =
        let whole = rows_shown frames_shown streams rows in
        let openings = rows_opened streams rows in
        let own = row_shown frames_shown streams row in
        let opening = option_to_list (row_opened streams row) in
        let IsNumbered = λ (found : Finding). place_number found.place ≤ 2 ^ 28 - 2 in
        let first = reaches-one one other in
        let second = reaches-other one other in
        rw (
          ← flat_map_more (row_shown frames_shown streams) [] rows row,
          ← flat_map_more (λ row. option_to_list (row_opened streams row)) [] rows row,
        ) (record {
          cut = cuts_join_lem whole own kept kept' (lesser_place one other) one other h.cut k.cut
              (λ place. past-reached one _ place first) (λ place. past-reached other _ place second);
          opens = agree-append (lesser_place one other) opened openings (option_to_list opened') opening
              (agree-reached one _ opened openings first h.opens)
              (agree-reached other _ (option_to_list opened') opening second k.opens);
          numbered = all-in_order IsNumbered (kept ++ kept') (All-append IsNumbered kept kept' h.numbered k.numbered);
          looks = record {
            asked = h.looks.asked ++ k.looks.asked;
            looked = looked-join a b c h.looks.asked k.looks.asked h.looks.looked k.looks.looked;
            in_time = looks-more frames_shown streams row rows h.looks.asked k.looks.asked one other h.looks.in_time
                k.looks.in_time;
            answered = λ place e. ⊎_elim
                (λ is. let (asked, there, answer) = h.looks.answered place is in
                (asked, Contains-append_left h.looks.asked k.looks.asked asked there, answer))
                (λ is. let (asked, there, answer) = k.looks.answered place is in
                (asked, Contains-append_right h.looks.asked k.looks.asked asked there, answer))
                (lesser-is one other place e);
          };
        })

    -- what a run of a row's stream leaves
    module _ (row : StreamRow) (positions : List ℕ) (before after : L) where
      abbrev frames : List Frame
      frames = frames_at streams.of.now.frames.now positions

      abbrev whole : List Finding
      whole = shown frames_shown (stream_run row.stream frames streams.changes)

      abbrev opening : Option ℕ
      opening = (stream_at_end row.stream frames streams.changes).life.opened

      pub row-work : {E : Type 0} (r : Result StreamRun E) → IsRow streams row
          → positions ≡ row_positions streams.of.now.split row
          → IfOk r (λ run. IsRun answers before after (step_numbers row.stream frames streams.changes) whole
          run.findings.items run.upto run.last_look run.looks)
          → IfOk r (λ run. run.opened_at ≡ opened_up_to run.upto opening)
          → IfOk r (λ run. All (λ (found : Finding). place_number found.place ≤ 2 ^ 28 - 2) run.findings.items)
          → IfOk r (λ run. IsRowWork row before after run.upto run.findings.items run.opened_at)
      row-work (Err e) is_row e' h k n = tt
      row-work (Ok run) is_row e h k n =
          let orderly : IsOrderly frames = rw e is_row.orderly in
          rw e at (work-of_run answers before after (step_numbers row.stream frames streams.changes) whole
          run.findings.items run.upto run.last_look run.looks opening run.opened_at
          (shown-ordered row.stream is_row.in_range frames_shown frames streams.changes orderly) h k n)
