-- Streams in full, in a plain list.
use Rattle.std.proofs.Common.{◌%◌, ◌≢◌, ap₂, filter, find}
use Rattle.std.specs.Option.{option_map_or}
use Rattle.std.proofs.lemmas.Bool.{eqb-false}
use Rattle.std.specs.List.{IsDistinct, list_any}
use Rattle.audit_terms.proofs.FindingLists.{each-filter}
use Rattle.audit_terms.proofs.ShownFindings.{shown-append}
use Rattle.audit_terms.specs.code.Room.{WindowHasRoom}
use Rattle.stream_credit.proofs.Words.{◌≡◌, ℕ, ◌<◌, ◌^◌, ◌==◌, Bool, false, not, List, [], ◌∷◌, ◌++◌, None, Some}
use Rattle.stream_credit.proofs.Words.{Option, refl, sym, ap, ◌∙◌, subst, arith, map}
use Rattle.stream_credit.proofs.Words.{cases_Bool, cases_eq, eq-eqb, eqb-true, ne_eqb, inl, inr, or_parts}
use Rattle.stream_credit.proofs.Words.{AllByRecursion, Finding, Sides, Step, Stream, flat_map}
use Rattle.stream_credit.proofs.Words.{idle_stream, shown, stream_after, stream_said}
use Rattle.stream_credit.proofs.Words.{◌+◌, append_assoc, drop, suc, zero}
use Rattle.quiet_pass.proofs.ChangeLemmas.{missing-idle, named_in, names-of}
use Rattle.quiet_pass.proofs.RowLists.{each-of}
use Rattle.quiet_pass.specs.code.Rows.{IsRowOfParity, entry_in}
use Rattle.quiet_pass.specs.code.Shifts.{raised_in}
use Rattle.quiet_pass.specs.code.Streams.{AreNames, AreStreams, IsChangeSaid, shift_of}
use Rattle.quiet_pass.specs.code.WholeStreams.{AreListed, FitsWhole, HaveRoomIn, entry_among, names_among, put_among}
use Rattle.quiet_pass.specs.code.WholeStreams.{whole_after, whole_of, whole_said}
use Rattle.quiet_pass.specs.declared.kept_streams.Streams.{Streams}
use Rattle.quiet_pass.specs.declared.opened_rows.Row.{Row}
use Rattle.quiet_pass.specs.declared.whole_streams.WholeStream.{WholeStream}

-- ---- lists that are gone through

pub each-at : {A : Type 0} (P : A → Type 0) (list : List A) (at : ℕ) (one : A) (rest : List A)
    → drop at list ≡ one ∷ rest → AllByRecursion P list → P one
each-at P [] zero one rest e h = cc
each-at P [] (suc at) one rest e h = cc
each-at P (x ∷ list) zero one rest e h = let same : x ≡ one = cc in subst P same h.0
each-at P (x ∷ list) (suc at) one rest e h = each-at P list at one rest e h.1

pub flat-more : {A B : Type 0} (f : A → List B) (list : List A) (at : ℕ) (one : A) (found : List B)
    {after whole : List B} → drop at list ≡ one ∷ drop (at + 1) list → after ≡ found ++ f one
    → found ++ flat_map f (drop at list) ≡ whole → after ++ flat_map f (drop (at + 1) list) ≡ whole
flat-more {A} {B} f list at one found here said was =
    let rest : List B = flat_map f (drop (at + 1) list) in
    ap (λ (l : List B). l ++ rest) said ∙ append_assoc found (f one) rest
    ∙ ap (λ (l : List A). found ++ flat_map f l) (sym here) ∙ was

-- one more is put behind
pub push-more : {B : Type 0} (made : List B) (one : B) (after left rest whole : List B) → left ≡ one ∷ rest
    → after ≡ made ++ one ∷ [] → made ++ left ≡ whole → after ++ rest ≡ whole
push-more {B} made one after left rest whole here said was =
    ap (λ (l : List B). l ++ rest) said ∙ append_assoc made (one ∷ []) rest
    ∙ ap (λ (l : List B). made ++ l) (sym here) ∙ was

pub map-more : {A B : Type 0} (f : A → B) (list : List A) (at : ℕ) (one : A) (made : List B) {after whole : List B}
    → drop at list ≡ one ∷ drop (at + 1) list → after ≡ made ++ f one ∷ []
    → made ++ map f (drop at list) ≡ whole → after ++ map f (drop (at + 1) list) ≡ whole
map-more {A} {B} f list at one made {after} {whole} here said was =
    push-more made (f one) after (map f (drop at list)) (map f (drop (at + 1) list)) whole
    (ap (λ (l : List A). map f l) here) said was

-- ---- the stream of an identifier

among-front : (a b : List WholeStream) (s : ℕ) → entry_among b s ≡ idle_stream
    → entry_among (a ++ b) s ≡ entry_among a s
among-front [] b s none = none
among-front (one ∷ a) b s none = rw (among-front a b s none) refl

among-back : (a b : List WholeStream) (s : ℕ) → list_any (λ n. n == s) (names_among a) ≡ false
    → entry_among (a ++ b) s ≡ entry_among b s
among-back [] b s none = refl
among-back (one ∷ a) b s none =
    let parts = or_parts (one.stream == s) (list_any (λ n. n == s) (names_among a)) none in
    rw parts.0 (among-back a b s parts.1)

among-missing : (list : List WholeStream) (s : ℕ) → list_any (λ n. n == s) (names_among list) ≡ false
    → entry_among list s ≡ idle_stream
among-missing [] s none = refl
among-missing (one ∷ list) s none =
    let parts = or_parts (one.stream == s) (list_any (λ n. n == s) (names_among list)) none in
    rw parts.0 (among-missing list s parts.1)

pub found-among : (list : List WholeStream) (s : ℕ) (found : Option WholeStream)
    → found ≡ find (λ (one : WholeStream). one.stream == s) list
    → option_map_or (λ (one : WholeStream). one.entry) found idle_stream ≡ entry_among list s
found-among list s found is =
    ap (λ (found : Option WholeStream). option_map_or (λ (one : WholeStream). one.entry) found idle_stream) is
    ∙ each list
  where
    each : (list : List WholeStream)
        → option_map_or (λ (one : WholeStream). one.entry) (find (λ (one : WholeStream). one.stream == s) list)
        idle_stream ≡ entry_among list s
    each [] = refl
    each (one ∷ list) = elim (cases_Bool (one.stream == s)) [
      | inl own ↦ rw own refl
      | inr other ↦ rw other (each list)
    ]

-- ---- of rows

names-whole : (shift : Option (Sides ℕ)) (rows : List Row) → names_among (map (whole_of shift) rows) ≡ named_in rows
names-whole shift [] = refl
names-whole shift (row ∷ rows) = ap (λ (names : List ℕ). row.stream ∷ names) (names-whole shift rows)

names-append : (a b : List WholeStream) → names_among (a ++ b) ≡ names_among a ++ names_among b
names-append [] b = refl
names-append (one ∷ a) b = ap (λ (names : List ℕ). one.stream ∷ names) (names-append a b)

raised-idle : (shift : Option (Sides ℕ)) → raised_in shift idle_stream ≡ idle_stream
raised-idle None = refl
raised-idle (Some shift) = refl

among-rows : (shift : Option (Sides ℕ)) (rows : List Row) (s : ℕ)
    → entry_among (map (whole_of shift) rows) s ≡ raised_in shift (entry_in rows s)
among-rows shift [] s = sym (raised-idle shift)
among-rows shift (row ∷ rows) s = elim (cases_Bool (row.stream == s)) [
  | inl own ↦ rw own refl
  | inr other ↦ rw other (among-rows shift rows s)
]

unlike : (remainder : ℕ) (rows : List Row) (s : ℕ) → (s % 2 ≡ remainder → ⊥)
    → AllByRecursion (IsRowOfParity remainder) rows → list_any (λ n. n == s) (named_in rows) ≡ false
unlike remainder [] s differ h = refl
unlike remainder (row ∷ rows) s differ h =
    rw (
      ne_eqb row.stream s (λ e. differ (ap (λ n. n % 2) (sym e) ∙ h.0.parity)),
      unlike remainder rows s differ h.1,
    ) refl

-- the streams of both lists of rows, in full
abbrev pub whole_in : Streams → List WholeStream
whole_in kept = map (whole_of (shift_of kept)) kept.opened.items ++ map (whole_of (shift_of kept)) kept.promised.items

pub whole-listed : (kept : Streams) (streams : ℕ → Stream) → AreStreams streams kept → AreListed streams (whole_in kept)
whole-listed kept streams h =
    let shift = shift_of kept in
    let opened = kept.opened.items in
    let promised = kept.promised.items in
    let one = map (whole_of shift) opened in
    let two = map (whole_of shift) promised in
    let names : names_among (one ++ two) ≡ named_in opened ++ named_in promised =
    names-append one two
    ∙ ap₂ (λ (a b : List ℕ). a ++ b) (names-whole shift opened) (names-whole shift promised) in record {
      all = λ s above. h.raised s above ∙ elim (cases_eq (s % 2) 1) [
        | inl p ↦
            let even = each-of (IsRowOfParity 0) promised h.rows.promised_even in
            let none = unlike 0 promised s (λ e. absurd (omega (arith, e, p))) even in
            ap (raised_in shift) (h.rows.odd s p) ∙ sym (among-rows shift opened s)
            ∙ sym (among-front one two s
            (among-rows shift promised s ∙ ap (raised_in shift) (missing-idle s promised none) ∙ raised-idle shift))
        | inr other ↦
            let p : s % 2 ≡ 0 = omega (arith, other) in
            let odd = each-of (IsRowOfParity 1) opened h.rows.opened_odd in
            let none = unlike 1 opened s (λ e. absurd (omega (arith, e, p))) odd in
            ap (raised_in shift) (h.rows.even s p above) ∙ sym (among-rows shift promised s)
            ∙ sym (among-back one two s
            (ap (λ (names : List ℕ). list_any (λ n. n == s) names) (names-whole shift opened) ∙ none))
      ];
      names = subst (λ (names : List ℕ). AreNames names) (sym names) (names-of h.base kept h.rows);
    }

-- ---- one that is put

names-filter : (s : ℕ) (list : List WholeStream)
    → names_among (filter (λ (one : WholeStream). not (one.stream == s)) list)
    ≡ filter (λ n. not (n == s)) (names_among list)
names-filter s [] = refl
names-filter s (one ∷ list) = elim (cases_Bool (one.stream == s)) [
  | inl own ↦ rw own (names-filter s list)
  | inr other ↦ rw other (ap (λ (names : List ℕ). one.stream ∷ names) (names-filter s list))
]

among-filter : (list : List WholeStream) (s o : ℕ) → o ≢ s
    → entry_among (filter (λ (one : WholeStream). not (one.stream == s)) list) o ≡ entry_among list o
among-filter [] s o differ = refl
among-filter (one ∷ list) s o differ = elim (cases_Bool (one.stream == s)) [
  | inl own ↦
      rw (own, ne_eqb one.stream o (λ same. differ (sym same ∙ eqb-true one.stream s own)))
      (among-filter list s o differ)
  | inr other ↦ rw (other, among-filter list s o differ) refl
]

distinct-filter : (test : ℕ → Bool) (names : List ℕ) → IsDistinct ◌==◌ names → IsDistinct ◌==◌ (filter test names)
unfolding IsDistinct
distinct-filter test [] h = tt
distinct-filter test (x ∷ names) h = elim (cases_Bool (test x)) [
  | inl here ↦ rw here (each-filter (λ y. (x == y) ≡ false) test names h.0, distinct-filter test names h.1)
  | inr gone ↦ rw gone (distinct-filter test names h.1)
]

none-left : (s : ℕ) (names : List ℕ) → AllByRecursion (λ y. (s == y) ≡ false) (filter (λ n. not (n == s)) names)
none-left s [] = tt
none-left s (x ∷ names) = elim (cases_Bool (x == s)) [
  | inl own ↦ rw own (none-left s names)
  | inr other ↦ rw other (ne_eqb s x (λ same. eqb-false x s other (sym same)), none-left s names)
]

names-put : (s : ℕ) (names : List ℕ) → 0 < s → s < 2 ^ 31 → AreNames names
    → AreNames (s ∷ filter (λ n. not (n == s)) names)
unfolding IsDistinct
names-put s names above small h =
    let test : ℕ → Bool = λ n. not (n == s) in record {
      named = (above, each-filter (λ n. 0 < n) test names h.named);
      small = (small, each-filter (λ n. n < 2 ^ 31) test names h.small);
      once = (none-left s names, distinct-filter test names h.once);
    }

pub put-listed : (s : ℕ) (entry : Stream) (f g : ℕ → Stream) → s < 2 ^ 31 → (0 < s → g s ≡ entry)
    → ((o : ℕ) → 0 < o → o ≢ s → g o ≡ f o) → (list : List WholeStream) → AreListed f list
    → AreListed g (put_among s entry list)
put-listed s entry f g small own others list h = elim (cases_eq s 0) [
  | inl is0 ↦
      rw (eq-eqb s 0 is0) (record {
        all = λ o above. others o above (λ e. absurd (omega (arith, above, e, is0))) ∙ h.all o above;
        names = h.names;
      })
  | inr some ↦
      let rest = filter (λ (one : WholeStream). not (one.stream == s)) list in
      let names : names_among rest ≡ filter (λ n. not (n == s)) (names_among list) = names-filter s list in
      rw (ne_eqb s 0 some) (record {
        all = λ o above. elim (cases_eq o s) [
          | inl same ↦
              rw (eq-eqb s o (sym same))
              (subst (λ (n : ℕ). g n ≡ entry) (sym same) (own (subst (λ (n : ℕ). 0 < n) same above)))
          | inr differ ↦
              rw (ne_eqb s o (λ e. differ (sym e)))
              (others o above differ ∙ h.all o above ∙ sym (among-filter list s o differ))
        ];
        names = subst (λ (names : List ℕ). AreNames (s ∷ names)) (sym names)
            (names-put s (names_among list) (omega (arith, some)) small h.names);
      })
]

-- ---- a step without a frame

each-with : (P R : WholeStream → Type 0) (Q : ℕ → Type 0)
    → ((one : WholeStream) → P one → Q one.stream → R one) → (list : List WholeStream) → AllByRecursion P list
    → AllByRecursion Q (names_among list) → AllByRecursion R list
each-with P R Q step [] p q = tt
each-with P R Q step (one ∷ list) p q = (step one p.0 q.0, each-with P R Q step list p.1 q.1)

each-own : (list : List WholeStream) → IsDistinct ◌==◌ (names_among list)
    → AllByRecursion (λ (one : WholeStream). entry_among list one.stream ≡ one.entry) list
unfolding IsDistinct
each-own [] h = tt
each-own (one ∷ list) h = (
  rw (eq-eqb one.stream one.stream refl) refl,
  each-with (λ (other : WholeStream). entry_among list other.stream ≡ other.entry)
      (λ (other : WholeStream). entry_among (one ∷ list) other.stream ≡ other.entry)
      (λ (n : ℕ). (one.stream == n) ≡ false) (λ other is differ. rw differ is) list (each-own list h.1) h.0,
)

each-is : (streams : ℕ → Stream) (list : List WholeStream) → AreListed streams list
    → AllByRecursion (λ (one : WholeStream). streams one.stream ≡ one.entry) list
each-is streams list h =
    each-with (λ (one : WholeStream). entry_among list one.stream ≡ one.entry)
    (λ (one : WholeStream). streams one.stream ≡ one.entry) (λ (n : ℕ). 0 < n)
    (λ one is above. h.all one.stream above ∙ is) list (each-own list h.names.once) h.names.named

pub each-fits : (streams : ℕ → Stream) (list : List WholeStream) → AreListed streams list → HaveRoomIn streams
    → AllByRecursion FitsWhole list
each-fits streams list h room =
    each-with (λ (one : WholeStream). streams one.stream ≡ one.entry) FitsWhole (λ (n : ℕ). n < 2 ^ 31)
    (λ one is small. record {
      stream = small;
      client = subst (λ (entry : Stream). WindowHasRoom (2 ^ 60) entry.window.client) is (room.client one.stream);
      server = subst (λ (entry : Stream). WindowHasRoom (2 ^ 60) entry.window.server) is (room.server one.stream);
    }) list (each-is streams list h) h.names.small

-- a stream whose windows have room
pub record FitsSo (entry : Stream) : Type 0 where
  pub client : WindowHasRoom (2 ^ 60) entry.window.client
  pub server : WindowHasRoom (2 ^ 60) entry.window.server

pub room-among : (list : List WholeStream) (s : ℕ) → AllByRecursion FitsWhole list → FitsSo (entry_among list s)
room-among [] s h = record { client = λ credit e. cc; server = λ credit e. cc }
room-among (one ∷ list) s h = elim (cases_Bool (one.stream == s)) [
  | inl own ↦ rw own (record { client = h.0.client; server = h.0.server })
  | inr other ↦ rw other (room-among list s h.1)
]

module _ (initial : Sides ℕ) (step : Step) (alone : step.frame ≡ None) where
  names-after : (list : List WholeStream) → names_among (map (whole_after initial step) list) ≡ names_among list
  names-after [] = refl
  names-after (one ∷ list) = ap (λ (names : List ℕ). one.stream ∷ names) (names-after list)

  among-after : (list : List WholeStream) (s : ℕ)
      → entry_among (map (whole_after initial step) list) s ≡ stream_after s initial (entry_among list s) step
  among-after [] s = rw alone refl
  among-after (one ∷ list) s = elim (cases_Bool (one.stream == s)) [
    | inl own ↦
        rw own (ap (λ n. stream_after n initial one.entry step) (eqb-true one.stream s own))
    | inr other ↦ rw other (among-after list s)
  ]

  said-names : (streams : ℕ → Stream) (list : List WholeStream)
      → AllByRecursion (λ (one : WholeStream). streams one.stream ≡ one.entry) list
      → flat_map (whole_said initial step) list
      ≡ flat_map (λ s. stream_said s initial (streams s) step) (names_among list)
  said-names streams [] h = refl
  said-names streams (one ∷ list) h =
      ap₂ (λ (a b : List Finding). a ++ b)
      (ap (λ (entry : Stream). stream_said one.stream initial entry step) (sym h.0)) (said-names streams list h.1)

  idle-unsaid : (s : ℕ) → stream_said s initial idle_stream step ≡ []
  idle-unsaid s = rw alone refl

  pub whole-said : (frames_shown : Bool) (list : List WholeStream) (before : List Finding)
      → IsChangeSaid frames_shown initial step (λ streams. AreListed streams list)
      (λ streams. AreListed streams (map (whole_after initial step) list)) before
      (before ++ flat_map (whole_said initial step) list)
  whole-said frames_shown list before = record {
    some = names_among list;
    names = λ streams h. h.names;
    said = λ streams h.
        shown-append frames_shown before (flat_map (whole_said initial step) list)
        ∙ ap (λ l. shown frames_shown before
        ++ shown frames_shown l) (said-names streams list (each-is streams list h));
    others = λ streams h other above none.
        ap (λ (entry : Stream). shown frames_shown (stream_said other initial entry step))
        (h.all other above ∙ among-missing list other none) ∙ ap (shown frames_shown) (idle-unsaid other);
    met = λ streams h. record {
      all = λ s above.
          ap (λ (entry : Stream). stream_after s initial entry step) (h.all s above) ∙ sym (among-after list s);
      names = subst (λ (names : List ℕ). AreNames names) (sym (names-after list)) h.names;
    };
  }
