-- A change of the initial windows in force, and what it shows of all streams (RFC 9113, 6.9.2).
use Rattle.std.proofs.Common.{◌%◌, ap₂, get_or}
use Rattle.std.specs.List.{IsDistinct, list_any}
use Rattle.audit_terms.proofs.FindingLists.{each-append, each-weaker}
use Rattle.audit_terms.proofs.OrderlyFrames.{drop-at}
use Rattle.audit_terms.proofs.ShownFindings.{shown-append}
use Rattle.stream_credit.proofs.QuietSteps.{change_alone}
use Rattle.stream_credit.proofs.Words.{◌≡◌, ℕ, ◌<◌, ◌^◌, ◌==◌, ◌&&◌, Bool, true, false, List, [], ◌∷◌, ◌++◌, None}
use Rattle.stream_credit.proofs.Words.{Option, refl, sym, ap, ◌∙◌, subst, arith, append-nil, append_assoc, map}
use Rattle.stream_credit.proofs.Words.{cases_Bool, cases_eq, eq-eqb, eqb-true, ne_eqb, inl, inr, or_parts}
use Rattle.stream_credit.proofs.Words.{AllByRecursion, Change, Finding, Sides, Step, Stream, flat_map, flat_map-append}
use Rattle.stream_credit.proofs.Words.{idle_stream, initial_after, shown, stream_after, stream_said}
use Rattle.stream_credit.proofs.Words.{◌+◌, drop, length}
use Rattle.quiet_pass.proofs.RowLists.{each-of, parity-zip}
use Rattle.quiet_pass.proofs.StillLemmas.{unshown-change}
use Rattle.quiet_pass.proofs.StreamLemmas.{of-rows, rows-of, step-alone, unmoved-entry}
use Rattle.quiet_pass.specs.code.HeldStreams.{held}
use Rattle.quiet_pass.specs.code.Rows.{AreRisingFrom, AreRowsSaid, AreStepped, IsRowMoved, IsRowOfParity, IsRowSaid}
use Rattle.quiet_pass.specs.code.Rows.{IsRowStepped, entry_in, row_said}
use Rattle.quiet_pass.specs.code.Streams.{AreNames, AreRowsOf, AreStreams, IsChangeSaid}
use Rattle.quiet_pass.specs.declared.kept_streams.Streams.{Streams}
use Rattle.quiet_pass.specs.declared.opened_rows.Row.{Row}
use Rattle.stream_credit.specs.declared.stream_standings.Standings.{Standings}

-- ---- the streams of rows

abbrev pub named_in : List Row → List ℕ
named_in rows = map (λ (row : Row). row.stream) rows

each-named : (P : ℕ → Type 0) (rows : List Row) → AllByRecursion (λ (row : Row). P row.stream) rows
    → AllByRecursion P (named_in rows)
each-named P [] h = tt
each-named P (row ∷ rows) h = (h.0, each-named P rows h.1)

each-above : (low : ℕ) (rows : List Row) → AreRisingFrom low rows → AllByRecursion (λ s. low < s) (named_in rows)
each-above low [] h = tt
each-above low (row ∷ rows) h = (
  h.0,
  each-weaker (λ (s : ℕ). row.stream < s) (λ (s : ℕ). low < s) (λ s above. omega (arith, above, h.0)) (named_in rows)
      (each-above row.stream rows h.1),
)

distinct-in : (low : ℕ) (rows : List Row) → AreRisingFrom low rows → IsDistinct ◌==◌ (named_in rows)
unfolding IsDistinct
distinct-in low [] h = tt
distinct-in low (row ∷ rows) h = (
  each-weaker (λ (s : ℕ). row.stream < s) (λ (s : ℕ). (row.stream == s) ≡ false)
      (λ s above. ne_eqb row.stream s (λ e. absurd (omega (arith, above, e)))) (named_in rows)
      (each-above row.stream rows h.1),
  distinct-in row.stream rows h.1,
)

distinct-both : (a b : List ℕ) → IsDistinct ◌==◌ a → IsDistinct ◌==◌ b → AllByRecursion (λ s. s % 2 ≡ 1) a
    → AllByRecursion (λ s. s % 2 ≡ 0) b → IsDistinct ◌==◌ (a ++ b)
unfolding IsDistinct
distinct-both [] b p q odd even = q
distinct-both (x ∷ a) b p q odd even = (
  each-append (λ (y : ℕ). (x == y) ≡ false) a b p.0
      (each-weaker (λ (y : ℕ). y % 2 ≡ 0) (λ (y : ℕ). (x == y) ≡ false)
      (λ y e. ne_eqb x y (λ same. absurd (omega (arith, e, odd.0, same)))) b even),
  distinct-both a b p.1 q odd.1 even,
)

-- the streams of the rows of a connection
pub names-of : (base : ℕ → Stream) (kept : Streams) → AreRowsOf base kept
    → AreNames (named_in kept.opened.items ++ named_in kept.promised.items)
names-of base kept h =
    let one = named_in kept.opened.items in
    let two = named_in kept.promised.items in
    let odd = each-of (IsRowOfParity 1) kept.opened.items h.opened_odd in
    let even = each-of (IsRowOfParity 0) kept.promised.items h.promised_even in record {
      named = each-append (λ (s : ℕ). 0 < s) one two (each-above 0 kept.opened.items h.opened)
          (each-above 0 kept.promised.items h.promised);
      small = each-append (λ (s : ℕ). s < 2 ^ 31) one two
          (each-named (λ s. s < 2 ^ 31) kept.opened.items
          (each-weaker (IsRowOfParity 1) (λ (row : Row). row.stream < 2 ^ 31) (λ row h. h.small) kept.opened.items odd))
          (each-named (λ s. s < 2 ^ 31) kept.promised.items
          (each-weaker (IsRowOfParity 0) (λ (row : Row). row.stream < 2 ^ 31) (λ row h. h.small)
          kept.promised.items even));
      once = distinct-both one two (distinct-in 0 kept.opened.items h.opened)
          (distinct-in 0 kept.promised.items h.promised)
          (each-named (λ s. s % 2 ≡ 1) kept.opened.items
          (each-weaker (IsRowOfParity 1) (λ (row : Row). row.stream % 2 ≡ 1) (λ row h. h.parity) kept.opened.items
          odd))
          (each-named (λ s. s % 2 ≡ 0) kept.promised.items
          (each-weaker (IsRowOfParity 0) (λ (row : Row). row.stream % 2 ≡ 0) (λ row h. h.parity)
          kept.promised.items even));
    }

pub none-both : (test : ℕ → Bool) (a b : List ℕ) → list_any test (a ++ b) ≡ false
    → (list_any test a ≡ false) × (list_any test b ≡ false)
none-both test [] b h = (refl, h)
none-both test (x ∷ a) b h =
    let parts = or_parts (test x) (list_any test (a ++ b)) h in
    let rest = none-both test a b parts.1 in (rw (parts.0, rest.0) refl, rest.1)

pub missing-idle : (s : ℕ) (rows : List Row) → list_any (λ one. one == s) (named_in rows) ≡ false
    → entry_in rows s ≡ idle_stream
missing-idle s [] none = refl
missing-idle s (row ∷ rows) none =
    let parts = or_parts (row.stream == s) (list_any (λ one. one == s) (named_in rows)) none in
    rw parts.0 (missing-idle s rows parts.1)

pub both-kept : (a b : Bool) → (a && b) ≡ true → (a ≡ true) × (b ≡ true)
both-kept true b h = (refl, h)
both-kept false b h = cc

-- ---- rows after a step without a frame

module _ (frames_shown : Bool) (initial : Sides ℕ) (step : Step) (alone : step.frame ≡ None) where
  idle-said : (s : ℕ) → stream_said s initial idle_stream step ≡ []
  idle-said s = rw alone refl

  entries-stepped : (old new : List Row) (s : ℕ) → AreStepped initial step old new
      → stream_after s initial (entry_in old s) step ≡ entry_in new s
  entries-stepped [] [] s m = rw alone refl
  entries-stepped (one ∷ old) (two ∷ new) s m =
      rw m.0.same (elim (cases_Bool (one.stream == s)) [
        | inl e ↦
            rw e (subst (λ (n : ℕ). stream_after n initial (held one.standings) step ≡ held two.standings)
            (eqb-true one.stream s e) (sym m.0.after))
        | inr e ↦ rw e (entries-stepped old new s m.1)
      ])
  entries-stepped _ _ s m = absurd m

  rising-stepped : (low : ℕ) (old new : List Row) → AreStepped initial step old new → AreRisingFrom low old
      → AreRisingFrom low new
  rising-stepped low [] [] m h = tt
  rising-stepped low (one ∷ old) (two ∷ new) m h = rw m.0.same (h.0, rising-stepped one.stream old new m.1 h.1)
  rising-stepped low _ _ m h = absurd m

  -- what the step shows of the streams of which rows hold this, or this raised
  module _ (raise : Stream → Stream) (idle : raise idle_stream ≡ idle_stream) where
    abbrev said-of : Row → List Finding
    said-of row = stream_said row.stream initial (raise (held row.standings)) step

    rows-said : (remainder low : ℕ) (rows : List Row) (streams : ℕ → Stream) → AreRisingFrom low rows
        → AllByRecursion (IsRowOfParity remainder) rows
        → ((s : ℕ) → low < s → s % 2 ≡ remainder → streams s ≡ raise (entry_in rows s))
        → flat_map said-of rows ≡ flat_map (λ s. stream_said s initial (streams s) step) (named_in rows)
    rows-said remainder low [] streams h own is = refl
    rows-said remainder low (row ∷ rows) streams h own is =
        let here : streams row.stream ≡ raise (held row.standings) =
        is row.stream h.0 own.0.parity ∙ rw (eq-eqb row.stream row.stream refl) refl in
        ap₂ (λ (a b : List Finding). a ++ b)
        (ap (λ (entry : Stream). stream_said row.stream initial entry step) (sym here))
        (rows-said remainder row.stream rows streams h.1 own.1
        (λ s above p. is s (omega (arith, above, h.0)) p
        ∙ rw (ne_eqb row.stream s (λ e. absurd (omega (arith, above, e)))) refl))

    -- the rows, and what was added of them
    pub record AreRaised (old : Streams) (before after : List Finding) (streams : ℕ → Stream) : Type 0 where
      pub base : ℕ → Stream
      pub rows : AreRowsOf base old
      pub is : (s : ℕ) → 0 < s → streams s ≡ raise (base s)
      pub mid : List Finding
      pub one : shown frames_shown mid
          ≡ shown frames_shown before ++ shown frames_shown (flat_map said-of old.opened.items)
      pub two : shown frames_shown after
          ≡ shown frames_shown mid ++ shown frames_shown (flat_map said-of old.promised.items)

    own-odd : (old : Streams) {before after : List Finding} (streams : ℕ → Stream)
        → AreRaised old before after streams → AllByRecursion (IsRowOfParity 1) old.opened.items
    own-odd old streams r = each-of (IsRowOfParity 1) old.opened.items r.rows.opened_odd

    own-even : (old : Streams) {before after : List Finding} (streams : ℕ → Stream)
        → AreRaised old before after streams → AllByRecursion (IsRowOfParity 0) old.promised.items
    own-even old streams r = each-of (IsRowOfParity 0) old.promised.items r.rows.promised_even

    unnamed : (old : Streams) {before after : List Finding} (streams : ℕ → Stream)
        → AreRaised old before after streams → (s : ℕ) → 0 < s
        → list_any (λ n. n == s) (named_in old.opened.items) ≡ false
        → list_any (λ n. n == s) (named_in old.promised.items) ≡ false → streams s ≡ idle_stream
    unnamed old streams r s above p q =
        let base-is : r.base s ≡ idle_stream = elim (cases_eq (s % 2) 1) [
          | inl odd ↦ r.rows.odd s odd ∙ missing-idle s old.opened.items p
          | inr other ↦ r.rows.even s (omega (arith, other)) above ∙ missing-idle s old.promised.items q
        ] in r.is s above ∙ ap raise base-is ∙ idle

    all-said : (old : Streams) {before after : List Finding} (streams : ℕ → Stream)
        → AreRaised old before after streams
        → shown frames_shown after ≡ shown frames_shown before
        ++ shown frames_shown (flat_map (λ s. stream_said s initial (streams s) step)
        (named_in old.opened.items ++ named_in old.promised.items))
    all-said old {before} streams r =
        let rule = λ (s : ℕ). stream_said s initial (streams s) step in
        let one = flat_map said-of old.opened.items in
        let two = flat_map said-of old.promised.items in
        r.two ∙ ap (λ l. l ++ shown frames_shown two) r.one
        ∙ append_assoc (shown frames_shown before) (shown frames_shown one) (shown frames_shown two)
        ∙ ap (λ l. shown frames_shown before ++ l)
        (sym (shown-append frames_shown one two)
        ∙ ap (shown frames_shown)
        (ap₂ (λ (a b : List Finding). a ++ b)
        (rows-said 1 0 old.opened.items streams r.rows.opened (own-odd old streams r)
        (λ s above p. r.is s above ∙ ap raise (r.rows.odd s p)))
        (rows-said 0 0 old.promised.items streams r.rows.promised (own-even old streams r)
        (λ s above p. r.is s above ∙ ap raise (r.rows.even s p above)))
        ∙ sym (flat_map-append rule (named_in old.opened.items) (named_in old.promised.items))))

    -- the whole of it
    pub said-by : {old : Streams} (Kept : (ℕ → Stream) → Type 0) {before after : List Finding}
        → ((streams : ℕ → Stream) → AreStreams streams old → AreRaised old before after streams)
        → ((streams : ℕ → Stream) → AreStreams streams old
        → Kept (λ s. stream_after s initial (streams s) step))
        → IsChangeSaid frames_shown initial step (λ streams. AreStreams streams old) Kept before after
    said-by {old} Kept all met = record {
      some = named_in old.opened.items ++ named_in old.promised.items;
      names = λ streams h. names-of (all streams h).base old (all streams h).rows;
      said = λ streams h. all-said old streams (all streams h);
      others = λ streams h other above none.
          let parts = none-both (λ n. n == other) (named_in old.opened.items) (named_in old.promised.items) none in
          ap (λ (entry : Stream). shown frames_shown (stream_said other initial entry step))
          (unnamed old streams (all streams h) other above parts.0 parts.1) ∙ ap (shown frames_shown) (idle-said other);
      met = met;
    }

  -- where rows hold all of the streams
  pub change-said : {odd even : Bool} {old new : Streams} {before mid after : List Finding} → old.shifted ≡ None
      → new.shifted ≡ None → AreRowsSaid frames_shown initial step odd old.opened.items new.opened.items before mid
      → AreRowsSaid frames_shown initial step even old.promised.items new.promised.items mid after
      → (odd && even) ≡ true
      → IsChangeSaid frames_shown initial step (λ streams. AreStreams streams old)
      (λ streams. AreStreams streams new) before after
  change-said {odd} {even} {old} {new} {before} {mid} {after} none still o e k =
      said-by (λ entry. entry) refl (λ next. AreStreams next new)
      (λ streams h. record {
        base = streams;
        rows = rows-of streams old none h;
        is = λ s above. refl;
        mid = mid;
        one = o.said;
        two = e.said;
      })
      (λ streams all.
      let both = both-kept odd even k in
      let h = rows-of streams old none all in
      of-rows (λ s. stream_after s initial (streams s) step) new still (record {
        odd = λ s p.
            ap (λ (entry : Stream). stream_after s initial entry step) (h.odd s p)
            ∙ entries-stepped old.opened.items new.opened.items s (o.stepped both.0);
        even = λ s p above.
            ap (λ (entry : Stream). stream_after s initial entry step) (h.even s p above)
            ∙ entries-stepped old.promised.items new.promised.items s (e.stepped both.1);
        opened = rising-stepped 0 old.opened.items new.opened.items (o.stepped both.0) h.opened;
        promised = rising-stepped 0 old.promised.items new.promised.items (e.stepped both.1) h.promised;
        opened_odd = parity-zip (IsRowStepped initial step) (λ one two m. m.same) 1 old.opened.items new.opened.items
            (o.stepped both.0) h.opened_odd;
        promised_even = parity-zip (IsRowStepped initial step) (λ one two m. m.same) 0 old.promised.items
            new.promised.items (e.stepped both.1) h.promised_even;
      }))

-- ---- a change that moves no window

pub quiet-said : (frames_shown : Bool) (initial : Sides ℕ) (number : ℕ) (change : Option Change) (Kept : (ℕ
    → Stream) → Type 0)
    → ((f g : ℕ → Stream) → ((o : ℕ) → 0 < o → f o ≡ g o) → Kept f → Kept g) → (found : List Finding)
    → initial ≡ initial_after change initial
    → IsChangeSaid frames_shown initial (change_alone number change) Kept Kept found found
unfolding IsDistinct
quiet-said frames_shown initial number change Kept same found is =
    let still = λ (s : ℕ) (entry : Stream).
    step-alone s initial initial number change entry entry (unmoved-entry initial entry) is in record {
      some = [];
      names = λ streams h. record { named = tt; small = tt; once = tt };
      said = λ streams h. sym (append-nil (shown frames_shown found));
      others = λ streams h other above none.
          unshown-change frames_shown other initial initial number change (streams other) (streams other)
          (unmoved-entry initial (streams other)) is (λ _. refl) (λ _. refl);
      met = λ streams h.
          same streams (λ s. stream_after s initial (streams s) (change_alone number change))
          (λ s above. (still s (streams s)).after) h;
    }

-- ---- one row

pub row-quiet : (frames_shown : Bool) (initial : Sides ℕ) (step : Step) (old new : Row) {after : Sides ℕ}
    (found : List Finding) → step.frame ≡ None → after ≡ initial_after step.change initial
    → IsRowMoved initial after old new → (frames_shown ≡ true → new.standings ≡ old.standings)
    → IsRowSaid frames_shown initial step true old new found found
row-quiet frames_shown initial step old new {after} found alone is m still =
    let one = step-alone old.stream initial after step.number step.change (held old.standings) (held new.standings)
    m.moved is in
    let same : step ≡ change_alone step.number step.change = rw (← alone) refl in record {
      said = sym (append-nil (shown frames_shown found))
          ∙ ap (λ l. shown frames_shown found ++ l)
          (sym (ap (λ (step : Step). shown frames_shown (stream_said old.stream initial (held old.standings) step))
          same ∙ unshown-change frames_shown old.stream initial after step.number step.change (held old.standings)
          (held new.standings) m.moved is (λ e. ap (λ (s : Standings). (held s).window.client) (still e))
          (λ e. ap (λ (s : Standings). (held s).window.server) (still e))));
      stepped = λ _. record {
        same = m.same;
        after = one.after
            ∙ ap (λ (step : Step). stream_after old.stream initial (held old.standings) step) (sym same);
      };
    }

pub row-said : (frames_shown : Bool) (initial : Sides ℕ) (step : Step) (row : Row)
    (before : List Finding) {entry : Stream}
    {after : List Finding} → entry ≡ held row.standings → after ≡ before ++ stream_said row.stream initial entry step
    → shown frames_shown after ≡ shown frames_shown before ++ shown frames_shown (row_said initial step row)
row-said frames_shown initial step row before is said =
    ap (shown frames_shown)
    (said ∙ ap (λ (entry : Stream). before ++ stream_said row.stream initial entry step) is)
    ∙ shown-append frames_shown before (row_said initial step row)

-- one row more of those that were gone through
pub said-more : (frames_shown : Bool) (initial : Sides ℕ) (step : Step) (old : List Row) (at : ℕ) (row : Row)
    (found after : List Finding) {whole : List Finding} → row ≡ get_or old at row → at < length old
    → shown frames_shown found ++ shown frames_shown (flat_map (row_said initial step) (drop at old)) ≡ whole
    → shown frames_shown after ≡ shown frames_shown found ++ shown frames_shown (row_said initial step row)
    → shown frames_shown after ++ shown frames_shown (flat_map (row_said initial step) (drop (at + 1) old)) ≡ whole
said-more frames_shown initial step old at row found after is inside was said =
    let rest = flat_map (row_said initial step) (drop (at + 1) old) in
    ap (λ l. l ++ shown frames_shown rest) said
    ∙ append_assoc (shown frames_shown found) (shown frames_shown (row_said initial step row)) (shown frames_shown rest)
    ∙ ap (λ l. shown frames_shown found ++ l) (sym (shown-append frames_shown (row_said initial step row) rest))
    ∙ ap (λ l. shown frames_shown found ++ shown frames_shown (flat_map (row_said initial step) l))
    (sym (drop-at old at row is inside)) ∙ was

pub said-all : (frames_shown : Bool) (initial : Sides ℕ) (step : Step) (old : List Row) (at : ℕ)
    (found : List Finding) {whole : List Finding}
    → drop at old ≡ []
    → shown frames_shown found ++ shown frames_shown (flat_map (row_said initial step) (drop at old)) ≡ whole
    → shown frames_shown found ≡ whole
said-all frames_shown initial step old at found none was =
    sym (append-nil (shown frames_shown found))
    ∙ ap (λ l. shown frames_shown found ++ shown frames_shown (flat_map (row_said initial step) l)) (sym none) ∙ was

-- ---- what was found is put behind other findings

pub said-behind : {frames_shown : Bool} {initial : Sides ℕ} {step : Step} {Was Kept : (ℕ → Stream)
    → Type 0} {own after : List Finding}
    (before : List Finding) → IsChangeSaid frames_shown initial step Was Kept [] own → after ≡ before ++ own
    → IsChangeSaid frames_shown initial step Was Kept before after
said-behind {frames_shown} {own = own} before said is = record {
  some = said.some;
  names = said.names;
  said = λ streams h.
      ap (shown frames_shown) is ∙ shown-append frames_shown before own
      ∙ ap (λ (l : List Finding). shown frames_shown before ++ l) (said.said streams h);
  others = said.others;
  met = said.met;
}
