-- All streams after a frame of which nothing is shown.
use Rattle.stream_credit.proofs.Words.{◌≡◌, ℕ, ℤ, ◌<◌, true, List, Some, None, refl, sym, ◌∙◌, inl, inr, ints}
use Rattle.stream_credit.proofs.Words.{◌==◌, Bool, false, ap, subst, arith, ne_eqb, Sides, Frame, Change, Stream}
use Rattle.stream_credit.proofs.Words.{credit_after_change}
use Rattle.stream_credit.proofs.Words.{option_map, and-false, StreamLife, initial_after}
use Rattle.stream_credit.proofs.Words.{idle_stream, if◌then◌else◌, stream_after}
use Rattle.stream_credit.proofs.Words.{[], Option, or-false, cases_eq}
use Rattle.stream_credit.proofs.Words.{eq-eqb, eqb-true, cases_Bool, and-true, ◌^◌, Body}
use Rattle.audit_terms.specs.declared.frames.Body.TheVariants.{Headers}
use Rattle.std.proofs.Common.{◌%◌, ◌≢◌, ap₂}
use Rattle.audit_terms.specs.Frame.{is_headers, is_promise, is_server_promise, promised_in, meets}
use Rattle.audit_terms.specs.Life.{is_opening}
use Rattle.audit_terms.specs.code.runs.Orderly.{IsInRange}
use Rattle.stream_credit.proofs.QuietSteps.{change_alone, quiet-changes, stream-quiet, stream-moved}
use Rattle.quiet_pass.specs.declared.opened_rows.Row.{Row}
use Rattle.quiet_pass.specs.declared.kept_streams.Streams.{Streams}
use Rattle.quiet_pass.specs.code.Rows.{entry_in, AreOfParity, AreRising, IsMetOn, IsPut}
use Rattle.quiet_pass.specs.code.Shifts.{raised_in}
use Rattle.quiet_pass.specs.code.Streams.{AreRowsOf, AreStreams, as_step, IsStep, AreMet, AreMetOn}
use Rattle.quiet_pass.specs.code.Streams.{ArePut, shift_of}
use Rattle.quiet_pass.proofs.ShiftLemmas.{both-true, none-some, window-quiet}
use Rattle.quiet_pass.specs.code.HeldStreams.{IsEntryMoved}

-- ---- a stream that the frame does not meet

pub step-alone : (s : ℕ) (initial after : Sides ℕ) (number : ℕ) (change : Option Change) (entry next : Stream)
    → IsEntryMoved initial after entry next → after ≡ initial_after change initial
    → IsStep s initial (change_alone number change) entry next
step-alone s initial after number change entry next m is =
    let step = change_alone number change in
    let quiet = quiet-changes s initial number change after entry.window next.window is m.client m.server
    m.client_quiet m.server_quiet in
    record {
      said = stream-quiet s initial entry step next.window refl quiet tt;
      after = ap (λ (life : StreamLife). record { life = life; window = next.window }) m.life
          ∙ sym (stream-moved s initial entry step next.window refl quiet);
    }

step-moved : (s : ℕ) (initial after : Sides ℕ) (frame : Frame) (change : Option Change) (entry next : Stream)
    → IsEntryMoved initial after entry next → after ≡ initial_after change initial → meets s frame ≡ false
    → IsStep s initial (as_step frame change s) entry next
step-moved s initial after frame change entry next m is unmet =
    rw unmet (step-alone s initial after frame.number change entry next m is)

-- windows that stay where the initial window does
window-stays : (i : ℕ) (window : Option ℤ) → window ≡ option_map (credit_after_change i i) window
window-stays i None = refl
window-stays i (Some credit) = ap Some (omega (arith, ints))

pub unmoved-entry : (initial : Sides ℕ) (entry : Stream) → IsEntryMoved initial initial entry entry
unmoved-entry initial entry = record {
  life = refl;
  client = window-stays initial.client entry.window.client;
  server = window-stays initial.server entry.window.server;
  client_quiet = window-quiet entry.window.client;
  server_quiet = window-quiet entry.window.server;
}

-- a frame does nothing to a stream that it does not meet
pub step-past : (s : ℕ) (initial : Sides ℕ) (frame : Frame) (entry : Stream) → meets s frame ≡ false
    → IsStep s initial (as_step frame None s) entry entry
step-past s initial frame entry m =
    step-moved s initial initial frame None entry entry (unmoved-entry initial entry) refl m

step-unmet : (s : ℕ) (initial : Sides ℕ) (frame : Frame) (rows : List Row) (entry : Stream) → meets s frame ≡ false
    → entry ≡ entry_in rows s → IsStep s initial (as_step frame None s) entry (entry_in rows s)
step-unmet s initial frame rows entry m is = rw (← is) (step-past s initial frame entry m)

-- ---- streams that are kept

pub rows-same : (f g : ℕ → Stream) (kept : Streams) → ((o : ℕ) → 0 < o → f o ≡ g o) → AreRowsOf f kept
    → AreRowsOf g kept
rows-same f g kept same h = record {
  odd = λ o p. sym (same o (omega (arith, p))) ∙ h.odd o p;
  even = λ o p above. sym (same o above) ∙ h.even o p above;
  opened = h.opened;
  promised = h.promised;
  opened_odd = h.opened_odd;
  promised_even = h.promised_even;
}

pub streams-same : (f g : ℕ → Stream) (kept : Streams) → ((o : ℕ) → 0 < o → f o ≡ g o) → AreStreams f kept
    → AreStreams g kept
streams-same f g kept same h = record {
  base = h.base;
  rows = h.rows;
  raised = λ o above. sym (same o above) ∙ h.raised o above;
  grouped = h.grouped;
}

-- where rows hold all of them
pub rows-of : (streams : ℕ → Stream) (kept : Streams) → kept.shifted ≡ None → AreStreams streams kept
    → AreRowsOf streams kept
rows-of streams kept none h =
    rows-same h.base streams kept
    (λ o above.
    let is : raised_in (shift_of kept) (h.base o) ≡ h.base o = rw none refl in sym (h.raised o above ∙ is)) h.rows

pub of-rows : (streams : ℕ → Stream) (kept : Streams) → kept.shifted ≡ None → AreRowsOf streams kept
    → AreStreams streams kept
of-rows streams kept none h = record {
  base = streams;
  rows = h;
  raised = λ o above. rw none refl;
  grouped = λ shifted e. none-some kept.shifted shifted none e;
}

-- before any frame
pub none-kept : (kept : Streams) → kept.opened.items ≡ [] → kept.promised.items ≡ [] → kept.shifted ≡ None
    → AreStreams (λ s. idle_stream) kept
none-kept kept opened promised none = of-rows (λ s. idle_stream) kept none (record {
  odd = λ s p. rw opened refl;
  even = λ s p above. rw promised refl;
  opened = rw opened tt;
  promised = rw promised tt;
  opened_odd = rw opened (none-of-parity 1);
  promised_even = rw promised (none-of-parity 0);
})
  where
    none-of-parity : (remainder : ℕ) → AreOfParity remainder []
    none-of-parity remainder at row there = cc

-- ---- one stream

step-met : (stream : ℕ) (initial : Sides ℕ) (frame : Frame) (opens : Bool) (old new : List Row)
    → IsMetOn stream initial frame opens old new → (s : ℕ) (entry : Stream) → entry ≡ entry_in old s
    → meets s frame ≡ (stream == s) → IsStep s initial (as_step frame None s) entry (entry_in new s)
step-met stream initial frame opens old new h s entry is m =
    elim (cases_eq stream s) [
      | inl own ↦
          let met : meets s frame ≡ true = m ∙ eq-eqb stream s own in
          subst (λ s. entry ≡ entry_in old s → meets s frame ≡ true
          → IsStep s initial (as_step frame None s) entry (entry_in new s)) own
          (λ is met. rw met (record { said = rw is h.said; after = rw is h.after })) is met
      | inr differ ↦
          step-unmet s initial frame new entry (m ∙ ne_eqb stream s differ)
          (is ∙ sym (h.others s (λ e. differ (sym e))))
    ]

-- ---- all of them

all-met : (initial : Sides ℕ) (frame : Frame) (change : Option Change) (streams : ℕ → Stream) (kept : Streams)
    → ((s : ℕ) → s % 2 ≡ 1
    → IsStep s initial (as_step frame change s) (streams s) (entry_in kept.opened.items s))
    → ((s : ℕ) → s % 2 ≡ 0 → 0 < s
    → IsStep s initial (as_step frame change s) (streams s) (entry_in kept.promised.items s))
    → AreRising kept.opened.items → AreRising kept.promised.items → AreOfParity 1 kept.opened.items
    → AreOfParity 0 kept.promised.items → kept.shifted ≡ None
    → AreMet initial frame change streams (λ next. AreStreams next kept)
all-met initial frame change streams kept odd even opened promised opened-odd promised-even none = record {
  said = λ s above. elim (cases_eq (s % 2) 1) [
    | inl p ↦ (odd s p).said
    | inr p ↦ (even s (omega (arith, p)) above).said
  ];
  after = of-rows (λ s. stream_after s initial (streams s) (as_step frame change s)) kept none (record {
    odd = λ s p. sym (odd s p).after;
    even = λ s p above. sym (even s p above).after;
    opened = opened;
    promised = promised;
    opened_odd = opened-odd;
    promised_even = promised-even;
  });
}

differ-parity : (a b m n : ℕ) → a % 2 ≡ m → b % 2 ≡ n → (m ≡ n → ⊥) → (a == b) ≡ false
differ-parity a b m n p q h = ne_eqb a b (λ e. h (sym p ∙ ap (λ x. x % 2) e ∙ q))

-- ---- a frame that promises nothing

pub meets-own : (frame : Frame) → is_server_promise frame ≡ false → (s : ℕ) → meets s frame ≡ (frame.stream == s)
meets-own frame unpromised s = rw unpromised (or-false (frame.stream == s))

module _ (initial : Sides ℕ) (frame : Frame) (opens : Bool) (old new : Streams) (streams : ℕ → Stream)
    (h : AreRowsOf streams old) (still : new.shifted ≡ None) (small : frame.stream < 2 ^ 31)
    (unpromised : is_server_promise frame ≡ false) where
  pub met-odd : frame.stream % 2 ≡ 1 → (AreRising old.opened.items
      → IsMetOn frame.stream initial frame opens old.opened.items new.opened.items)
      → new.promised.items ≡ old.promised.items
      → AreMetOn initial frame opens streams (λ next. AreStreams next new)
  met-odd p met same =
      let m = met h.opened in record {
        opening = rw (h.odd frame.stream p) m.opening;
        met = all-met initial frame None streams new
            (λ s q. step-met frame.stream initial frame opens old.opened.items new.opened.items m s (streams s)
            (h.odd s q) (meets-own frame unpromised s))
            (λ s q above. step-unmet s initial frame new.promised.items (streams s)
            (meets-own frame unpromised s ∙ differ-parity frame.stream s 1 0 p q (λ e. cc))
            (rw same (h.even s q above)))
            m.rising (rw same h.promised) (m.parity 1 (record { parity = p; small = small }) h.opened_odd)
            (rw same h.promised_even) still;
      }

  pub met-even : frame.stream % 2 ≡ 0 → 0 < frame.stream → (AreRising old.promised.items
      → IsMetOn frame.stream initial frame opens old.promised.items new.promised.items)
      → new.opened.items ≡ old.opened.items
      → AreMetOn initial frame opens streams (λ next. AreStreams next new)
  met-even p above met same =
      let m = met h.promised in record {
        opening = rw (h.even frame.stream p above) m.opening;
        met = all-met initial frame None streams new
            (λ s q. step-unmet s initial frame new.opened.items (streams s)
            (meets-own frame unpromised s ∙ differ-parity frame.stream s 0 1 p q (λ e. cc)) (rw same (h.odd s q)))
            (λ s q some. step-met frame.stream initial frame opens old.promised.items new.promised.items m s (streams s)
            (h.even s q some) (meets-own frame unpromised s))
            (rw same h.opened) m.rising (rw same h.opened_odd)
            (m.parity 0 (record { parity = p; small = small }) h.promised_even) still;
      }

-- ---- a promise of the server on one of the client's streams

unheaded : (body : Body) → is_promise body ≡ true → is_headers body ≡ false
unheaded Headers e = cc
unheaded _ e = refl

-- what it opens is even
opens-even : (s : ℕ) (life : StreamLife) (frame : Frame) → is_server_promise frame ≡ true
    → is_opening s life frame ≡ true → s % 2 ≡ 0
opens-even s life frame promised opening = elim (cases_Bool (s % 2 == 0)) [
  | inl even ↦ eqb-true (s % 2) 0 even
  | inr uneven ↦
      let headers : is_headers frame.body ≡ false = unheaded frame.body (both-true _ _ promised).1 in
      let none : is_opening s life frame ≡ false = simp (headers, uneven, and-false) in absurd (differ none)
]
  where
    differ : is_opening s life frame ≡ false → ⊥
    differ none = let both : true ≡ false = sym opening ∙ none in cc

module _ (initial : Sides ℕ) (frame : Frame) (old new : Streams) (streams : ℕ → Stream) (h : AreRowsOf streams old)
    (still : new.shifted ≡ None) (range : IsInRange frame) (promised : is_server_promise frame ≡ true)
    (odd : frame.stream % 2 ≡ 1) where
  unpromised-odd : (s : ℕ) → s % 2 ≡ 1 → meets s frame ≡ (frame.stream == s)
  unpromised-odd s q = let uneven : (s % 2 == 0) ≡ false = rw q refl in simp (uneven, and-false, or-false)

  promised-even : (s : ℕ) → s % 2 ≡ 0 → meets s frame ≡ (promised_in frame.body == s)
  promised-even s q =
      let even : (s % 2 == 0) ≡ true = rw q refl in
      simp (differ-parity frame.stream s 1 0 odd q (λ e. cc), promised, even, and-true)

  pub met-promise : (AreRising old.opened.items
      → IsMetOn frame.stream initial frame false old.opened.items new.opened.items)
      → (AreRising old.promised.items
      → IsMetOn (promised_in frame.body) initial frame true old.promised.items new.promised.items)
      → AreMetOn initial frame false streams (λ next. AreStreams next new)
  met-promise met opened =
      let m = met h.opened in
      let n = opened h.promised in
      let p = promised_in frame.body in
      let even = opens-even p (entry_in old.promised.items p).life frame promised n.opening in record {
        opening = rw (h.odd frame.stream odd) m.opening;
        met = all-met initial frame None streams new
            (λ s q. step-met frame.stream initial frame false old.opened.items new.opened.items m s (streams s)
            (h.odd s q) (unpromised-odd s q))
            (λ s q above. step-met (promised_in frame.body) initial frame true old.promised.items new.promised.items n s
            (streams s) (h.even s q above) (promised-even s q))
            m.rising n.rising (m.parity 1 (record { parity = odd; small = range.stream }) h.opened_odd)
            (n.parity 0 (record { parity = even; small = range.promised }) h.promised_even) still;
      }

pub same-sides : (a b : Sides ℕ) → a.client ≡ b.client → a.server ≡ b.server → a ≡ b
same-sides a b c s =
    let sides : ℕ → ℕ → Sides ℕ = λ client server. record { client = client; server = server } in ap₂ sides c s

-- ---- all streams, at a frame on stream 0

none-met : (frame : Frame) → frame.stream ≡ 0 → is_server_promise frame ≡ false → (s : ℕ) → 0 < s
    → meets s frame ≡ false
none-met frame zero unpromised s above =
    meets-own frame unpromised s ∙ ne_eqb frame.stream s (λ e. absurd (omega (arith, zero, above, e)))

pub all-past : (initial : Sides ℕ) (frame : Frame) (change : Option Change) (Kept : (ℕ → Stream) → Type 0)
    → ((f g : ℕ → Stream) → ((o : ℕ) → 0 < o → f o ≡ g o) → Kept f → Kept g) → (streams : ℕ → Stream)
    → frame.stream ≡ 0 → is_server_promise frame ≡ false → initial ≡ initial_after change initial → Kept streams
    → AreMet initial frame change streams Kept
all-past initial frame change Kept same streams zero unpromised is h =
    let past = λ (s : ℕ) (above : 0 < s).
    step-moved s initial initial frame change (streams s) (streams s) (unmoved-entry initial (streams s)) is
    (none-met frame zero unpromised s above) in record {
      said = λ s above. (past s above).said;
      after = same streams (λ s. stream_after s initial (streams s) (as_step frame change s))
          (λ s above. (past s above).after) h;
    }

-- ---- a stream that is put

module _ (s : ℕ) (entry : Stream) (f g : ℕ → Stream) (own : 0 < s → g s ≡ entry)
    (others : (o : ℕ) → 0 < o → o ≢ s → g o ≡ f o) where
  put-rows : (before rows : List Row) → IsPut s entry before rows → (o : ℕ) → 0 < o → f o ≡ entry_in before o
      → g o ≡ entry_in rows o
  put-rows before rows put o above e = elim (cases_eq o s) [
    | inl same ↦
        subst (λ (n : ℕ). g n ≡ entry_in rows n) (sym same) (own (subst (λ n. 0 < n) same above) ∙ sym put.own)
    | inr differ ↦ others o above differ ∙ e ∙ sym (put.others o differ)
  ]

  same-rows : (before rows : List Row) → rows ≡ before → (o : ℕ) → 0 < o → o ≢ s → f o ≡ entry_in before o
      → g o ≡ entry_in rows o
  same-rows before rows same o above differ e =
      others o above differ ∙ e ∙ ap (λ (rows : List Row). entry_in rows o) (sym same)

  -- one of them is put, and the others stay
  rows-put : (old new : Streams) → s < 2 ^ 31 → AreRowsOf f old
      → (s % 2 ≡ 1 → (AreRising old.opened.items → IsPut s entry old.opened.items new.opened.items)
      × (new.promised.items ≡ old.promised.items))
      → (s % 2 ≡ 0 → (AreRising old.promised.items → IsPut s entry old.promised.items new.promised.items)
      × (new.opened.items ≡ old.opened.items)) → AreRowsOf g new
  rows-put old new small h put-odd put-even = elim (cases_eq (s % 2) 1) [
    | inl odd ↦
        let one = (put-odd odd).0 h.opened in
        let same = (put-odd odd).1 in record {
          odd = λ o q. put-rows old.opened.items new.opened.items one o (omega (arith, q)) (h.odd o q);
          even = λ o q above. same-rows old.promised.items new.promised.items same o above
              (λ e. absurd (omega (arith, q, odd, e))) (h.even o q above);
          opened = one.rising;
          promised = rw same h.promised;
          opened_odd = one.parity 1 (record { parity = odd; small = small }) h.opened_odd;
          promised_even = rw same h.promised_even;
        }
    | inr other ↦
        let even : s % 2 ≡ 0 = omega (arith, other) in
        let one = (put-even even).0 h.promised in
        let same = (put-even even).1 in record {
          odd = λ o q. same-rows old.opened.items new.opened.items same o (omega (arith, q))
              (λ e. absurd (omega (arith, q, even, e))) (h.odd o q);
          even = λ o q above. put-rows old.promised.items new.promised.items one o above (h.even o q above);
          opened = rw same h.opened;
          promised = one.rising;
          opened_odd = rw same h.opened_odd;
          promised_even = one.parity 0 (record { parity = even; small = small }) h.promised_even;
        }
  ]

-- one of them is put, by what a row holds of it, and the others stay
pub streams-put : (s : ℕ) (entry : Stream) (f g : ℕ → Stream) → (0 < s → g s ≡ entry)
    → ((o : ℕ) → 0 < o → o ≢ s → g o ≡ f o) → (old new : Streams) → AreStreams f old → ArePut s entry old new
    → AreStreams g new
streams-put s entry f g own others old new h put = record {
  base = base;
  rows = rows-put s put.low h.base base (λ above. at-own) (λ o above differ. at-other o differ) old new put.small h.rows
      put.odd put.even;
  raised = λ o above. elim (cases_eq o s) [
    | inl same ↦
        subst (λ (n : ℕ). g n ≡ raised_in (shift_of new) (base n)) (sym same)
        (own (subst (λ n. 0 < n) same above) ∙ sym put.raises
        ∙ ap (λ (shift : Option (Sides ℕ)). raised_in shift put.low) (sym put.shift)
        ∙ ap (raised_in (shift_of new)) (sym at-own))
    | inr differ ↦
        others o above differ ∙ h.raised o above
        ∙ ap (λ (shift : Option (Sides ℕ)). raised_in shift (h.base o)) (sym put.shift)
        ∙ ap (raised_in (shift_of new)) (sym (at-other o differ))
  ];
  grouped = put.grouped h.grouped;
}
  where
    base : ℕ → Stream
    base o = if o == s then put.low else h.base o

    at-own : base s ≡ put.low
    at-own = rw (eq-eqb s s refl) refl

    at-other : (o : ℕ) → o ≢ s → base o ≡ h.base o
    at-other o differ = rw (ne_eqb o s differ) refl
