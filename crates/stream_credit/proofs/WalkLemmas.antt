-- A walk meets steps as the definition does, looks between them, and stops before one that lies past.
use Rattle.std.proofs.Common.{length-append}
use Rattle.stream_credit.proofs.Words.{◌≡◌, is_some, is_none, Finding, is_shown, met_from, WholeRun, in_order, CanCount}
use Rattle.stream_credit.proofs.Words.{ℕ, ℤ, ◌^◌, ◌<◌, ◌≤◌, inl, inr, ◌∷◌, sym, ◌∙◌}
use Rattle.stream_credit.proofs.Words.{◌+◌, ◌-◌, ◌*◌, ◌||◌, List, ◌++◌, Some, None, refl, ints, Side, Step, Walk, IsAt}
use Rattle.stream_credit.proofs.Words.{Bool, length, Option, Client, Server, Change, side_of, is_past, Watches, is_live}
use Rattle.stream_credit.proofs.Words.{true, ◌&&◌, ap, subst, arith, Sides, Frame, Stream, shown, is_met, met_by, up_to}
use Rattle.stream_credit.proofs.Words.{false, option_map_or, filter-append, initial_after, WindowHasRoom, NeverFallFrom}
use Rattle.stream_credit.proofs.Words.{if◌then◌else◌, AllByRecursion, stream_run_from, stream_after_all, IsAcknowledged}
use Rattle.stream_credit.proofs.Words.{[], cases_Bool, StreamLife, change_step, window_after, place_number, stream_said}
use Rattle.stream_credit.proofs.Words.{append_assoc, found_before, stream_after, IsStopped, opened_up_to, steps_between}
use Rattle.stream_credit.proofs.Words.{life_after, numbers_of, IsNumbered}
use Rattle.stream_credit.proofs.Words.{AreInOrder, HasCounted, HasRoomAt, HasStopped}
use Rattle.audit_terms.proofs.FindingLists.{each-append, each-filter, each-in_order, each-weaker}
use Rattle.audit_terms.proofs.SaidPlaces.{before-front, at-stream, numbered-at}
use Rattle.audit_terms.proofs.Watching.{past-higher}

-- ---- room

pub room-wide : (number : ℕ) (entry : Stream) → number ≤ 2 ^ 28 - 2 → HasRoomAt number entry → (d : Side)
    → WindowHasRoom (2 ^ 60) (side_of d entry.window)
room-wide number entry low room d x e = omega (arith, ints, low, room d x e)

pub room-next : (number : ℕ) (entry : Stream) → WindowHasRoom (number * 2 ^ 32 + 2 ^ 32) entry.window.client
    → WindowHasRoom (number * 2 ^ 32 + 2 ^ 32) entry.window.server → HasRoomAt (number + 1) entry
room-next number entry client server Client x e = omega (arith, ints, client x e)
room-next number entry client server Server x e = omega (arith, ints, server x e)

-- ---- steps in order

pub order-all : (P : ℕ → Type 0) (low : ℕ) (steps : List Step) → ((n : ℕ) → low ≤ n → n ≤ 2 ^ 28 - 2 → P n)
    → AreInOrder low steps → AllByRecursion P (numbers_of steps)
order-all P low [] p h = tt
order-all P low (step ∷ steps) p h =
    (p step.number h.0 h.1, order-all P (step.number + 1) steps (λ n least. p n (omega (arith, h.0, least))) h.3)

order-lower : (low least : ℕ) (steps : List Step) → least ≤ low → AreInOrder low steps → AreInOrder least steps
order-lower low least [] order h = tt
order-lower low least (step ∷ steps) order h = (omega (arith, order, h.0), h.1, h.2, h.3)

-- of steps in order some are met
pub fall-met : (low least stream : ℕ) (initial : Sides ℕ) (entry : Stream) (steps : List Step) → least ≤ low
    → AreInOrder low steps → NeverFallFrom least (met_from stream initial entry steps)
fall-met low least stream initial entry [] order h = tt
fall-met low least stream initial entry (step ∷ steps) order h =
    let later = λ (n : ℕ) (o : n ≤ step.number + 1). fall-met (step.number + 1) n stream
    (initial_after step.change initial) (stream_after stream initial entry step) steps o h.3 in
    elim (cases_Bool (is_met entry step)) [
      | inl e ↦ rw e (omega (arith, order, h.0), later step.number (omega arith))
      | inr e ↦ rw e (later least (omega (arith, order, h.0)))
    ]

-- ---- an opening

-- a step past the stop opens no stream up to it
opened-past : (stop : Option ℕ) (number stream : ℕ) (life : StreamLife) (frame : Option Frame)
    → IsNumbered number frame → is_past stop number ≡ true
    → opened_up_to stop (option_map_or (life_after stream life) frame life).opened ≡ opened_up_to stop life.opened
opened-past stop number stream life None own past = refl
opened-past stop number stream life (Some frame) own past = by_opened life.opened _ where
  by_opened : (opened : Option ℕ) (opens : Bool)
      → opened_up_to stop (if is_none opened && opens then Some frame.number else opened) ≡ opened_up_to stop opened
  by_opened None true = rw (own, past) refl
  by_opened None false = refl
  by_opened (Some n) opens = refl

opened-later : (stop : Option ℕ) (number low stream : ℕ) (initial : Sides ℕ) (entry : Stream) (steps : List Step)
    → is_past stop number ≡ true → number ≤ low → AreInOrder low steps
    → opened_up_to stop (stream_after_all stream initial entry steps).life.opened ≡ opened_up_to stop entry.life.opened
opened-later stop number low stream initial entry [] past order h = refl
opened-later stop number low stream initial entry (step ∷ steps) past order h =
    let within : number ≤ step.number = omega (arith, order, h.0) in
    opened-later stop number (step.number + 1) stream (initial_after step.change initial)
    (stream_after stream initial entry step) steps past (omega (arith, within)) h.3
    ∙ opened-past stop step.number stream entry.life step.frame h.2 (past-higher stop number step.number within past)

-- ---- a change that finds no live window

pub none-live : (client server : Option ℤ) → (is_some client || is_some server) ≡ false
    → (client ≡ None) × (server ≡ None)
none-live None None h = (refl, refl)
none-live None (Some credit) h = cc
none-live (Some credit) server h = cc

module _ (stream : ℕ) (initial : Sides ℕ) (entry : Stream) (change : Change) (dead : is_live entry ≡ false) where
  dead-windows : (entry.window.client ≡ None) × (entry.window.server ≡ None)
  dead-windows = none-live entry.window.client entry.window.server dead

  dead-said : in_order (stream_said stream initial entry (change_step change)) ≡ []
  dead-said = rw (dead-windows.0, dead-windows.1) refl

  dead-window : (d : Side) (window : Option ℤ) → window ≡ None
      → window_after d stream initial (change_step change) window ≡ window
  dead-window d None e = refl
  dead-window d (Some credit) e = cc

  dead-after : stream_after stream initial entry (change_step change) ≡ entry
  dead-after = rw (dead-window Client _ dead-windows.0, dead-window Server _ dead-windows.1) refl

-- a change ends no window
pub live-on : (stream : ℕ) (initial : Sides ℕ) (entry : Stream) (change : Change)
    → is_live (stream_after stream initial entry (change_step change)) ≡ is_live entry
live-on stream initial entry change = rw (on Client entry.window.client, on Server entry.window.server) refl where
  on : (d : Side) (window : Option ℤ)
      → is_some (window_after d stream initial (change_step change) window) ≡ is_some window
  on d None = refl
  on d (Some credit) = refl

-- ---- what is said stands at the number of its step

-- each finding's frame number is of a sort
abbrev pub HasNumber : (ℕ → Type 0) → Finding → Type 0
HasNumber P one = P (place_number one.place)

abbrev pub AreNumbered : (ℕ → Type 0) → List Finding → Type 0
AreNumbered P found = AllByRecursion (HasNumber P) found

pub below-more : (low number : ℕ) (xs : List Finding) → low ≤ number → AreNumbered (λ n. n < low) xs
    → AreNumbered (λ n. n < number) xs
below-more low number xs order h = grind (arith, each-weaker)

pub said-numbered : (P : ℕ → Type 0) (stream : ℕ) (initial : Sides ℕ) (entry : Stream) (step : Step)
    → stream < 2 ^ 31 → P step.number → AreNumbered P (in_order (stream_said stream initial entry step))
said-numbered P stream initial entry step h p =
    let said = stream_said stream initial entry step in
    each-in_order (HasNumber P) said
    (each-weaker (HasNumber (λ n. n ≡ step.number)) (HasNumber P) (λ one e. subst P (sym e) p) said
    (numbered-at step.number said (at-stream stream initial entry step h)))

pub run-numbered : (P : ℕ → Type 0) (frames_shown : Bool) (stream : ℕ) (initial : Sides ℕ) (entry : Stream)
    (steps : List Step) → stream < 2 ^ 31 → AllByRecursion P (numbers_of steps)
    → AreNumbered P (shown frames_shown (stream_run_from stream initial entry steps))
run-numbered P frames_shown stream initial entry steps h all =
    each-filter (HasNumber P) (is_shown frames_shown) _ (each initial entry steps all)
  where
    each : (initial : Sides ℕ) (entry : Stream) (steps : List Step) → AllByRecursion P (numbers_of steps)
        → AreNumbered P (stream_run_from stream initial entry steps)
    each initial entry [] all = tt
    each initial entry (step ∷ steps) all =
        each-append (HasNumber P) _ _ (said-numbered P stream initial entry step h all.0)
        (each (initial_after step.change initial) (stream_after stream initial entry step) steps all.1)

pub upto-numbered : (P : ℕ → Type 0) (upto : Option ℕ) (xs : List Finding) → AreNumbered P xs
    → AreNumbered P (up_to upto xs)
upto-numbered P None xs h = h
upto-numbered P (Some place) xs h = each-filter (HasNumber P) _ xs h

-- ---- a step

module _ {L : Type 0} {answers : L → List Finding → Option ℕ → L → Type 0} {run : WholeRun L} {before : L}
    {old : Walk} {low : ℕ} {step : Step} {rest : List Step} (h : IsAt answers run before old low (step ∷ rest)) where
  pub step-count : {asked : Walk} → asked ≡ record old { watch = asked.watch } → IsAcknowledged step
      → CanCount asked step
  step-count kept acknowledged = rw kept (record {
    numbered = h.order.1;
    streamed = h.streamed;
    acknowledged = acknowledged;
    room = λ d x e. omega (arith, ints, h.order.0, h.room d x e);
  })

  pub step-due : (met : ℕ) × (met ≤ step.number) × (met + old.watch.left ≡ steps_between * old.watch.looks)
  step-due = (length h.met, omega (arith, h.count, h.order.0), h.watches.due)

  -- what a walk found is what is found before the step
  at-step : old.found.items ≡ found_before step.number run.found
  at-step =
      sym (before-front step.number step.number old.found.items _ (omega arith)
      (below-more low step.number old.found.items h.order.0 h.below)
      (run-numbered (λ n. step.number ≤ n) old.frames_shown old.stream old.initial old.entry (step ∷ rest) h.streamed (
        omega arith,
        order-all (λ n. step.number ≤ n) (step.number + 1) rest (λ n least most. omega (arith, least))
            h.order.3,
      )))
      ∙ ap (found_before step.number) h.found

  module _ (met : is_met old.entry step ≡ true) where
    abbrev left : List ℕ
    left = met_from old.stream (initial_after step.change old.initial)
        (stream_after old.stream old.initial old.entry step) rest

    met-on : met_by old (step ∷ rest) ≡ step.number ∷ left
    met-on = rw met refl

    watching : Watches answers run.start before run.found h.met (step.number ∷ left) old.watch
    watching = rw met-on at h.watches

    module _ {now : L} {asked : Walk} (kept : asked ≡ record old { watch = asked.watch }) where
      pub step-on : {new : Walk} (to : ℕ)
          → ((start : L) (whole : List Finding) (met left : List ℕ)
          → old.found.items ≡ found_before step.number whole
          → Watches answers start before whole met (step.number ∷ left) old.watch
          → Watches answers start now whole (met ++ step.number ∷ []) left asked.watch)
          → HasCounted asked step new
          → IsAt answers run now (record new { met = to }) (step.number + 1) rest
      step-on {new} to goes counts =
          let counted : HasCounted (record old { watch = asked.watch }) step new = rw kept at counts in
          let said = said-numbered (λ n. n < step.number + 1) old.stream old.initial old.entry step h.streamed
          (omega arith) in
          let same : met_by new rest ≡ left = rw (counted.stream, counted.entry, counted.initial) refl in
          record {
            streamed = rw counted.stream h.streamed;
            room = counted.room;
            below = rw counted.found (each-append _ old.found.items _
                (below-more low (step.number + 1) old.found.items (omega (arith, h.order.0)) h.below)
                (each-filter _ _ _ said));
            found = rw (
              counted.stream,
              counted.frames_shown,
              counted.found,
              counted.entry,
              counted.initial,
              append_assoc old.found.items,
            ) (rw (filter-append (is_shown old.frames_shown)) at h.found);
            entry = rw (counted.stream, counted.entry, counted.initial) h.entry;
            met = h.met ++ step.number ∷ [];
            count = rw length-append (omega (arith, h.count, h.order.0));
            numbers = rw (same, append_assoc) (ap (λ l. h.met ++ l) (sym met-on) ∙ h.numbers);
            order = h.order.3;
            watches = rw (same, counted.watch) (goes run.start run.found h.met left at-step watching);
          }

      pub step-stops :
          ((start : L) (whole : List Finding) (met left : List ℕ)
          → old.found.items ≡ found_before step.number whole
          → Watches answers start before whole met (step.number ∷ left) old.watch
          → IsStopped answers start now whole (met ++ step.number ∷ left) step.number asked.watch)
          → HasStopped answers run now asked
      step-stops stop =
          let stopped = stop run.start run.found h.met left at-step watching in
          subst (HasStopped answers run now) (sym kept) (record {
            number = step.number;
            found = at-step;
            stopped = subst (λ l. IsStopped answers run.start now run.found l step.number asked.watch)
                (ap (λ l. h.met ++ l) (sym met-on) ∙ h.numbers) stopped;
            opened = sym (opened-later asked.watch.stop step.number step.number old.stream old.initial old.entry
                (step ∷ rest) stopped.past (omega arith) (omega arith, h.order.1, h.order.2, h.order.3))
                ∙ ap (λ (entry : Stream). opened_up_to asked.watch.stop entry.life.opened) h.entry;
          })

-- a change that finds no live window
pub step-passed : {L : Type 0} {answers : L → List Finding → Option ℕ → L → Type 0} {run : WholeRun L} {now : L}
    {walk : Walk} {low : ℕ} {change : Change} {rest : List Step} (to : ℕ) → is_live walk.entry ≡ false
    → IsAt answers run now walk low (change_step change ∷ rest)
    → IsAt answers run now (record walk { initial = initial_after (Some change) walk.initial; met = to }) low rest
step-passed {walk = walk} {low = low} {change = change} {rest = rest} to dead h =
    let after = dead-after walk.stream walk.initial walk.entry change dead in
    record {
      streamed = h.streamed;
      room = h.room;
      below = h.below;
      found = rw (dead-said walk.stream walk.initial walk.entry change dead, after) at h.found;
      entry = rw after at h.entry;
      met = h.met;
      count = h.count;
      numbers = rw (dead, after) at h.numbers;
      order = order-lower (change.number + 1) low rest (omega (arith, h.order.0)) h.order.3;
      watches = rw (dead, after) at h.watches;
    }
