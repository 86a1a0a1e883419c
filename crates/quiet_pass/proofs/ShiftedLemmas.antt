-- Rows that hold credits less a shift, at a change of the initial windows in force.
use Rattle.std.proofs.Common.{◌%◌, get_or, Global, Vec}
use Rattle.audit_terms.proofs.ShownFindings.{shown-append}
use Rattle.stream_credit.proofs.QuietSteps.{change_alone}
use Rattle.stream_credit.proofs.Words.{◌≡◌, ℕ, ℤ, ◌+◌, ◌<◌, ◌≤◌, List, [], ◌∷◌, ◌++◌, None, Option, Some, refl}
use Rattle.stream_credit.proofs.Words.{sym, ap, Bool}
use Rattle.stream_credit.proofs.Words.{◌∙◌, subst, arith, ints, append_assoc, drop, zero, suc, slice_get}
use Rattle.stream_credit.proofs.Words.{Client, Finding, Server, Side, Sides, Step, Stream, credit_after_change}
use Rattle.stream_credit.proofs.Words.{flat_map, initial_after, new_initial, option_map, shown, side_of}
use Rattle.stream_credit.proofs.Words.{same_Some, stream_after, stream_said, window_after}
use Rattle.stream_credit.proofs.Words.{cases_Bool, cases_eq, inl, inr, length, ◌==◌}
use Rattle.stream_credit.proofs.Words.{if◌then◌else◌}
use Rattle.quiet_pass.proofs.ChangeLemmas.{said-by}
use Rattle.quiet_pass.proofs.RowLists.{each-row, parity-zip}
use Rattle.quiet_pass.proofs.StillLemmas.{unshown-change}
use Rattle.quiet_pass.proofs.StreamLemmas.{rows-of}
use Rattle.quiet_pass.specs.code.HeldStreams.{held, IsEntryMoved}
use Rattle.quiet_pass.specs.code.Rows.{AreLowered, AreRisingFrom, IsLowered, entry_in}
use Rattle.quiet_pass.specs.code.Rows.{shifted_said}
use Rattle.quiet_pass.specs.code.Shifts.{AreCovered, AreRowsQuiet, IsEntryQuiet, IsShiftMoved, raised, raised_by}
use Rattle.quiet_pass.specs.code.Shifts.{raised_in}
use Rattle.quiet_pass.specs.code.Streams.{AreGrouped, AreGroups, AreStreams, IsChangeSaid, shift_of}
use Rattle.quiet_pass.specs.declared.kept_streams.Shifted.{Shifted}
use Rattle.quiet_pass.specs.declared.kept_streams.Streams.{Streams}
use Rattle.quiet_pass.specs.declared.opened_rows.Row.{Row}

module _ (frames_shown : Bool) (initial : Sides ℕ) (step : Step) (alone : step.frame ≡ None) (shift next : Sides ℕ)
    (moved : IsShiftMoved initial (initial_after step.change initial) shift next) where
  abbrev after : Sides ℕ
  after = initial_after step.change initial

  -- ---- a window, and a stream

  window-moved : (s n i a : ℕ) (window : Option ℤ) → n + i ≡ s + a
      → raised_by n window ≡ option_map (credit_after_change i a) (raised_by s window)
  window-moved s n i a None e = refl
  window-moved s n i a (Some credit) e = ap Some (omega (arith, ints, e))

  entry-moved : (entry : Stream) → IsEntryQuiet frames_shown shift next entry
      → IsEntryMoved initial after (raised shift entry) (raised next entry)
  entry-moved entry quiet = record {
    life = refl;
    client = window-moved shift.client next.client initial.client after.client entry.window.client moved.client;
    server = window-moved shift.server next.server initial.server after.server entry.window.server moved.server;
    client_quiet = quiet.client.quiet;
    server_quiet = quiet.server.quiet;
  }

  as-alone : step ≡ change_alone step.number step.change
  as-alone = rw (← alone) refl

  -- nothing is shown of a row that both shifts are known for
  pub row-unshown : (row : Row) → IsEntryQuiet frames_shown shift next (held row.standings)
      → shown frames_shown (shifted_said shift initial step row) ≡ []
  row-unshown row quiet =
      let entry = held row.standings in
      ap (λ (step : Step). shown frames_shown (stream_said row.stream initial (raised shift entry) step)) as-alone
      ∙ unshown-change frames_shown row.stream initial after step.number step.change (raised shift entry)
      (raised next entry) (entry-moved entry quiet) refl quiet.client.still quiet.server.still

  after-moved : (d : Side) (stream s n : ℕ) (window : Option ℤ)
      → n + side_of d initial ≡ s + new_initial step.change d (side_of d initial)
      → window_after d stream initial step (raised_by s window) ≡ raised_by n window
  after-moved d stream s n None e = refl
  after-moved d stream s n (Some credit) e = rw alone (ap Some (omega (arith, ints, e)))

  -- the shift moves all streams as the change does
  pub stream-raised : (stream : ℕ) (entry : Stream)
      → stream_after stream initial (raised shift entry) step ≡ raised next entry
  stream-raised stream entry =
      rw (
        after-moved Client stream shift.client next.client entry.window.client moved.client,
        after-moved Server stream shift.server next.server entry.window.server moved.server,
      ) (rw alone refl)

  -- ---- rows

  abbrev said-in : List Row → List Finding
  said-in rows = flat_map (shifted_said shift initial step) rows

  skip : (rows : List Row) (from to : ℕ) → from ≤ to
      → ((at : ℕ) (row : Row) → from ≤ at → at < to → slice_get rows at ≡ Some row
      → shown frames_shown (shifted_said shift initial step row) ≡ [])
      → shown frames_shown (said-in (drop from rows)) ≡ shown frames_shown (said-in (drop to rows))
  skip [] zero zero le quiet = refl
  skip [] zero (suc to) le quiet = refl
  skip [] (suc from) zero le quiet = refl
  skip [] (suc from) (suc to) le quiet = refl
  skip (row ∷ rows) zero zero le quiet = refl
  skip (row ∷ rows) zero (suc to) le quiet =
      shown-append frames_shown (shifted_said shift initial step row) (said-in rows)
      ∙ ap (λ l. l ++ shown frames_shown (said-in rows)) (quiet zero row (omega arith) (omega arith) refl)
      ∙ skip rows zero to (omega arith)
      (λ at one above below there. quiet (suc at) one (omega arith) (omega (arith, below)) there)
  skip (row ∷ rows) (suc from) zero le quiet = absurd (omega (arith, le))
  skip (row ∷ rows) (suc from) (suc to) le quiet =
      skip rows from to (omega (arith, le))
      (λ at one above below there. quiet (suc at) one (omega (arith, above)) (omega (arith, below)) there)

  pub skipped : (rows : List Row) (from to count : ℕ) → from ≤ to → to ≤ from + count
      → AreRowsQuiet frames_shown shift next from count rows
      → shown frames_shown (said-in (drop from rows)) ≡ shown frames_shown (said-in (drop to rows))
  skipped rows from to count le fits quiet =
      skip rows from to le (λ at row above below there.
      row-unshown row (quiet at row above (omega (arith, below, fits)) there))

  pub row-said : (rows : List Row) (at : ℕ) (row : Row) → slice_get rows at ≡ Some row
      → shown frames_shown (said-in (drop at rows))
      ≡ shown frames_shown (shifted_said shift initial step row) ++ shown frames_shown (said-in (drop (at + 1) rows))
  row-said [] at row there = cc
  row-said (one ∷ rows) zero row there =
      subst (λ (row : Row). shown frames_shown (said-in (one ∷ rows))
      ≡ shown frames_shown (shifted_said shift initial step row)
      ++ shown frames_shown (said-in rows)) (same_Some one row there)
      (shown-append frames_shown (shifted_said shift initial step one) (said-in rows))
  row-said (one ∷ rows) (suc at) row there =
      let later : suc at + 1 ≡ suc (at + 1) = omega arith in
      subst (λ n. shown frames_shown (said-in (drop at rows))
      ≡ shown frames_shown (shifted_said shift initial step row)
      ++ shown frames_shown (said-in (drop n (one ∷ rows)))) (sym later)
      (row-said rows at row there)

  -- one row more of those that were gone through
  pub said-row : (rows : List Row) (at : ℕ) (row : Row) (before found : List Finding) → slice_get rows at ≡ Some row
      → shown frames_shown found ≡ shown frames_shown before ++ shown frames_shown (shifted_said shift initial step row)
      → shown frames_shown found ++ shown frames_shown (said-in (drop (at + 1) rows))
      ≡ shown frames_shown before ++ shown frames_shown (said-in (drop at rows))
  said-row rows at row before found there said =
      let own = shown frames_shown (shifted_said shift initial step row) in
      let rest = shown frames_shown (said-in (drop (at + 1) rows)) in
      ap (λ (l : List Finding). l ++ rest) said ∙ append_assoc (shown frames_shown before) own rest
      ∙ ap (λ (l : List Finding). shown frames_shown before ++ l) (sym (row-said rows at row there))

-- ---- rows that begin to hold credits less a shift

pub lowered-each : (shift : Sides ℕ) (old new : List Row) → length new ≡ length old
    → ((at : ℕ) (d : Row) → at < length old → IsLowered shift (get_or old at d) (get_or new at d))
    → AreLowered shift old new
lowered-each shift = each-row (IsLowered shift) (AreLowered shift) tt (λ one two old new row rest. (row, rest))

entries-lowered : (shift : Sides ℕ) (old new : List Row) (s : ℕ) → AreLowered shift old new
    → raised shift (entry_in new s) ≡ entry_in old s
entries-lowered shift [] [] s m = refl
entries-lowered shift (one ∷ old) (two ∷ new) s m =
    rw m.0.same (elim (cases_Bool (one.stream == s)) [
      | inl e ↦ rw e m.0.low
      | inr e ↦ rw e (entries-lowered shift old new s m.1)
    ])
entries-lowered shift _ _ s m = absurd m

rising-lowered : (shift : Sides ℕ) (low : ℕ) (old new : List Row) → AreLowered shift old new → AreRisingFrom low old
    → AreRisingFrom low new
rising-lowered shift low [] [] m h = tt
rising-lowered shift low (one ∷ old) (two ∷ new) m h =
    rw m.0.same (h.0, rising-lowered shift one.stream old new m.1 h.1)
rising-lowered shift low _ _ m h = absurd m

abbrev base-of : Streams → ℕ → Stream
base-of kept s = if s % 2 == 1 then entry_in kept.opened.items s else entry_in kept.promised.items s

base-odd : (kept : Streams) (s : ℕ) → s % 2 ≡ 1 → base-of kept s ≡ entry_in kept.opened.items s
base-odd kept s p = rw p refl

base-even : (kept : Streams) (s : ℕ) → s % 2 ≡ 0 → base-of kept s ≡ entry_in kept.promised.items s
base-even kept s p = rw p refl

pub begins-shifted : (shifted : Shifted) (old new : Streams) → old.shifted ≡ None → new.shifted ≡ Some shifted
    → AreLowered shifted.shift old.opened.items new.opened.items
    → AreLowered shifted.shift old.promised.items new.promised.items
    → AreCovered shifted.frames_shown shifted.opened.value new.opened.items
    → AreCovered shifted.frames_shown shifted.promised.value new.promised.items → (streams : ℕ → Stream)
    → AreStreams streams old
    → AreStreams streams new
begins-shifted shifted old new none some opened promised one two streams all =
    let h = rows-of streams old none all in
    let shift = shifted.shift in
    let by : shift_of new ≡ Some shift = ap (option_map (λ (shifted : Shifted). shifted.shift)) some in record {
      base = base-of new;
      rows = record {
        odd = λ s p. base-odd new s p;
        even = λ s p above. base-even new s p;
        opened = rising-lowered shift 0 old.opened.items new.opened.items opened h.opened;
        promised = rising-lowered shift 0 old.promised.items new.promised.items promised h.promised;
        opened_odd = parity-zip (IsLowered shift) (λ one two m. m.same) 1 old.opened.items new.opened.items opened
            h.opened_odd;
        promised_even = parity-zip (IsLowered shift) (λ one two m. m.same) 0 old.promised.items new.promised.items
            promised h.promised_even;
      };
      raised = λ s above.
          elim (cases_eq (s % 2) 1) [
            | inl p ↦
                h.odd s p ∙ sym (entries-lowered shift old.opened.items new.opened.items s opened)
                ∙ ap (raised shift) (sym (base-odd new s p))
            | inr other ↦
                let p : s % 2 ≡ 0 = omega (arith, other) in
                h.even s p above ∙ sym (entries-lowered shift old.promised.items new.promised.items s promised)
                ∙ ap (raised shift) (sym (base-even new s p))
          ] ∙ ap (λ (by : Option (Sides ℕ)). raised_in by (base-of new s)) (sym by);
      grouped = λ other e.
          subst (λ (shifted : Shifted). AreGroups shifted new) (same_Some shifted other (sym some ∙ e))
          (record { opened = one; promised = two });
    }

-- ---- what a change shows of them

pub shifted-change : (frames_shown : Bool) (initial : Sides ℕ) (step : Step) → step.frame ≡ None → (one two : Shifted)
    → one.frames_shown ≡ frames_shown → two.frames_shown ≡ frames_shown
    → IsShiftMoved initial (initial_after step.change initial) one.shift two.shift → (old new : Streams)
    → old.shifted ≡ Some one → new.shifted ≡ Some two → new.opened ≡ old.opened → new.promised ≡ old.promised
    → (before mid after : List Finding)
    → (AreCovered frames_shown one.opened.value old.opened.items → shown frames_shown mid
    ≡ shown frames_shown before ++ shown frames_shown (flat_map (shifted_said one.shift initial step) old.opened.items))
    → (AreCovered frames_shown one.promised.value old.promised.items → shown frames_shown after
    ≡ shown frames_shown mid ++ shown frames_shown (flat_map (shifted_said one.shift initial step) old.promised.items))
    → (AreCovered frames_shown one.opened.value old.opened.items
    → AreCovered frames_shown two.opened.value old.opened.items)
    → (AreCovered frames_shown one.promised.value old.promised.items
    → AreCovered frames_shown two.promised.value old.promised.items)
    → IsChangeSaid frames_shown initial step (λ streams. AreStreams streams old)
    (λ streams. AreStreams streams new) before after
shifted-change frames_shown initial step alone one two first second moved old new was now opened promised before mid
    after odd even keep-odd keep-even =
    let from : shift_of old ≡ Some one.shift = ap (option_map (λ (shifted : Shifted). shifted.shift)) was in
    let to : shift_of new ≡ Some two.shift = ap (option_map (λ (shifted : Shifted). shifted.shift)) now in
    said-by frames_shown initial step alone (raised one.shift) refl {old = old} (λ next. AreStreams next new)
    (λ streams h.
    let groups = h.grouped one was in record {
      base = h.base;
      rows = h.rows;
      is = λ s above. h.raised s above ∙ ap (λ (by : Option (Sides ℕ)). raised_in by (h.base s)) from;
      mid = mid;
      one = odd (rw first at groups.opened);
      two = even (rw first at groups.promised);
    })
    (λ streams h.
    let groups = h.grouped one was in record {
      base = h.base;
      rows = record {
        odd = λ s p. rw opened (h.rows.odd s p);
        even = λ s p above. rw promised (h.rows.even s p above);
        opened = rw opened h.rows.opened;
        promised = rw promised h.rows.promised;
        opened_odd = rw opened h.rows.opened_odd;
        promised_even = rw promised h.rows.promised_even;
      };
      raised = λ s above.
          ap (λ (entry : Stream). stream_after s initial entry step)
          (h.raised s above ∙ ap (λ (by : Option (Sides ℕ)). raised_in by (h.base s)) from)
          ∙ stream-raised frames_shown initial step alone one.shift two.shift moved s (h.base s)
          ∙ ap (λ (by : Option (Sides ℕ)). raised_in by (h.base s)) (sym to);
      grouped = λ other e.
          subst (λ (shifted : Shifted). AreGroups shifted new) (same_Some two other (sym now ∙ e))
          (record {
            opened = rw (second, opened) (keep-odd (rw first at groups.opened));
            promised = rw (second, promised) (keep-even (rw first at groups.promised));
          });
    })

-- what was said of rows that hold the same streams as others was said of those
pub said-from : {frames_shown : Bool} {initial : Sides ℕ} {step : Step} {Was Mid Kept : (ℕ → Stream)
    → Type 0} {before after : List Finding}
    → ((streams : ℕ → Stream) → Was streams → Mid streams)
    → IsChangeSaid frames_shown initial step Mid Kept before after
    → IsChangeSaid frames_shown initial step Was Kept before after
said-from same said = record {
  some = said.some;
  names = λ streams h. said.names streams (same streams h);
  said = λ streams h. said.said streams (same streams h);
  others = λ streams h. said.others streams (same streams h);
  met = λ streams h. said.met streams (same streams h);
}

-- ---- what holds of the streams

pub shift-by : (kept : Streams) (shifted : Shifted) → kept.shifted ≡ Some shifted → shift_of kept ≡ Some shifted.shift
shift-by kept shifted is = ap (option_map (λ (shifted : Shifted). shifted.shift)) is

pub raises-in : {by : Option (Sides ℕ)} {shift : Sides ℕ} → by ≡ Some shift → (low entry : Stream)
    → raised shift low ≡ entry → raised_in by low ≡ entry
raises-in is low entry raises = ap (λ (by : Option (Sides ℕ)). raised_in by low) is ∙ raises

pub grouped-by : (kept : Streams) (shifted : Shifted) → kept.shifted ≡ Some shifted → AreGroups shifted kept
    → AreGrouped kept
grouped-by kept shifted is groups other e =
    subst (λ (shifted : Shifted). AreGroups shifted kept) (same_Some shifted other (sym is ∙ e)) groups

-- ---- where nothing changes

pub same-parts : (old new : Streams) → new.opened ≡ old.opened → new.promised ≡ old.promised
    → new.shifted ≡ old.shifted → new ≡ old
same-parts old new opened promised shifted =
    let made : Vec Row Global → Vec Row Global → Option Shifted → Streams =
    λ opened promised shifted. record { opened = opened; promised = promised; shifted = shifted } in
    ap (λ (one : Vec Row Global). made one new.promised new.shifted) opened
    ∙ ap (λ (one : Vec Row Global). made old.opened one new.shifted) promised
    ∙ ap (λ (one : Option Shifted). made old.opened old.promised one) shifted

pub put-back : (old : Streams) (shifted now : Shifted) → old.shifted ≡ Some shifted → now ≡ shifted
    → Some now ≡ old.shifted
put-back old shifted now was same = ap (λ (one : Shifted). Some one) same ∙ sym was
