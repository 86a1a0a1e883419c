-- From one place of a dealer in a capture to the next.
use Rattle.capture_parts.proofs.Terms.{AllByRecursion, AllGrow, AreSplit, BeginsWithRecord, Bool, Dealer, Deals}
use Rattle.capture_parts.proofs.Terms.{HasEntered, IsDealt, IsRecord, List, OneGrows, Option, Part, [], ap, append-nil}
use Rattle.capture_parts.proofs.Terms.{append_assoc, arith, big_bytes, big_from-append, captured_length, cases_eq}
use Rattle.capture_parts.proofs.Terms.{concat, drop, false, front_of, if◌then◌else◌, inl, inr, length, length-append}
use Rattle.capture_parts.proofs.Terms.{length-take-le, little_from-append, min, order_of, part_at, part_bytes}
use Rattle.capture_parts.proofs.Terms.{part_numbers, refl, subst, sym, take, take-append-drop, take_min, true, ℕ, ◌++◌}
use Rattle.capture_parts.proofs.Terms.{HasBegun, full_at, pair_at, part_full, ◌+◌, ◌-◌, ◌<◌, ◌==◌, ◌∙◌, ◌∷◌, ◌≡◌, ◌≤◌}
use Rattle.std.proofs.SliceLists.{all_by_recursion_push}
use Rattle.std.proofs.lemmas.List.Folds.{concat-append}
use Rattle.pcap_records.proofs.Fronts.{ReadsFirst, in_front}
use Rattle.capture_parts.proofs.Given.{given-more, given-some, given_from-empty, given_from-more}
use Rattle.capture_parts.proofs.Fulls.{full_from-empty, full_front}
use Rattle.capture_parts.proofs.Given.{pair_at-more, part_at-more}
use Rattle.capture_parts.proofs.Growth.{AllGrow-full, AllGrow-none, AllGrow-one, OneGrows-bytes}

-- numbers are read from their own bytes
reads_first : (little : Bool) → ReadsFirst (order_of little)
reads_first true n xs ys h = little_from-append n xs ys h
reads_first false n xs ys h = big_from-append n xs ys h

-- a record's captured length does not change as more of it comes
pub captured-more : (little : Bool) (front more : List ℕ) → 16 ≤ length front
    → captured_length (order_of little) (front ++ more) ≡ captured_length (order_of little) front
captured-more little front more long = in_front (order_of little) (reads_first little) 8 front more
    (omega (arith, long))

-- of a record its bytes are taken, or its number
abbrev bytes_taken : ℕ → List ℕ → List ℕ
bytes_taken n bytes = bytes

abbrev number_taken : ℕ → List ℕ → List ℕ
number_taken n bytes = big_bytes 8 n

module _ {W : Type 0} (contents : W → Option (List ℕ)) where
  -- the parts have got these records and this front of one more
  abbrev HaveGot : (link : ℕ) (first new : List (Part W)) (records : List (List ℕ)) (front : List ℕ) → Type 0
  HaveGot link first new records front = AllGrow contents first new
      (λ i. part_bytes link (length first) i records front) (λ i. part_numbers link (length first) i records front)
      (λ i size. part_full link (length first) i size records front)

  -- behind a record's number and its first bytes, where the dealer stood between two records
  begun : {d : Dealer} (e : Dealer) {first old mid new : List (Part W)} {bytes x : List ℕ} → d.left ≡ 0
      → 0 < length x → HasEntered contents d e old mid (front_of (drop 16 x))
      → OneGrows contents mid new e.part x [] (λ size. full_at size (length x) e.pair)
      → (was : IsDealt contents d first old bytes)
      → (bytes ++ x ≡ concat was.records ++ x) × (e.number ≡ length was.records + 1)
      × (e.part ≡ part_at e.link (length first) e.number x) × HaveGot e.link first new was.records x
  begun {d} e {first} {old} {mid} {new} {bytes} {x} none some entered one was =
      let (empty, so_far) = was.stands.between none in
      let are = rw (empty, append-nil) at was.are in
      let next : e.number ≡ length was.records + 1 = entered.next.number ∙ ap (λ (k : ℕ). k + 1) so_far in
      let parts : ℕ = length first in
      let at : e.part ≡ part_at e.link parts e.number x = rw (← was.parts.count) entered.next.part in
      let more = λ (taken : ℕ → List ℕ → List ℕ) (i : ℕ). given_from-more e.link parts taken i was.records e.number []
      x (if e.part == i then taken e.number x else []) next
      (rw at (sym (given-some e.link parts taken i e.number x some))) in (
        ap (λ (l : List ℕ). l ++ x) are,
        next,
        at,
        AllGrow-one contents first old new e.part _ _ _ _ (λ i size. part_full e.link parts i size was.records [])
            (λ i size. part_full e.link parts i size was.records x) x (big_bytes 8 e.number)
            (λ size. full_at size (length x) e.pair) (more bytes_taken) (more number_taken)
            (λ i size small. rw entered.next.pair
            (full_front e.link parts i e.part size e.number was.records [] x x next small
            (rw at (sym (given-some e.link parts bytes_taken i e.number x some)))
            (λ no. absurd (omega (arith, no)))))
            (rw entered.next.link (subst (HaveGot d.link first old was.records) empty was.parts))
            (OneGrows-bytes contents old mid new e.part x (big_bytes 8 e.number)
            (λ size. full_at size (length x) e.pair) entered.grows one),
      )

  -- behind the bytes x of a record that was begun behind others
  settled : (d : Dealer) (first new : List (Part W)) (records : List (List ℕ)) (x bytes : List ℕ)
      → bytes ≡ concat records ++ x → AllByRecursion (IsRecord (order_of d.is_little)) records
      → d.number ≡ length records + 1 → d.part ≡ part_at d.link (length first) d.number x → d.pair ≡ pair_at d.link x
      → (0 < d.left → 98 ≤ length x) → 16 ≤ length x
      → length x + d.left ≡ 16 + captured_length (order_of d.is_little) x → HaveGot d.link first new records x
      → IsDealt contents d first new bytes
  settled d first new records x bytes are whole number part pair enough header left parts = elim (cases_eq d.left 0) [
    | inl done ↦ record {
      records = records ++ x ∷ [];
      front = [];
      are = rw (append-nil (concat (records ++ x ∷ [])), concat-append records (x ∷ []), append-nil x) are;
      stands = record {
        whole = all_by_recursion_push (IsRecord (order_of d.is_little)) records x whole
            ((header, omega (arith, left, done)), omega (arith, left, done));
        between = λ _. (refl, number ∙ sym (length-append records (x ∷ [])));
        within = λ some. absurd (omega (arith, some, done));
      };
      parts = AllGrow-full contents _ _
          (λ i size small. sym (full_from-empty d.link (length first) i size (records ++ x ∷ []) small))
          (simp given_from-empty parts);
    }
    | inr more ↦
        let some : 0 < d.left = omega (arith, more) in
        record {
          records = records;
          front = x;
          are = are;
          stands = record {
            whole = whole;
            between = λ none. absurd (more none);
            within = λ _. record { number = number; part = part; pair = pair; enough = enough some; left = left };
          };
          parts = parts;
        }
  ]

  -- more of a record was dealt
  pub dealt_more : {d : Dealer} {old new : List (Part W)} (unread : List ℕ) (n : ℕ) → 0 < d.left
      → n ≡ min d.left (length unread)
      → OneGrows contents old new d.part (take n unread) [] (λ size. full_at size (length (take n unread)) d.pair)
      → Deals contents d (record d { left = d.left - n }) old new (take n unread)
  dealt_more {d} {old} {new} unread n some count one = record { link = refl; is_little = refl; behind = behind }
    where
      behind : (first : List (Part W)) (bytes : List ℕ) → IsDealt contents d first old bytes
          → IsDealt contents (record d { left = d.left - n }) first new (bytes ++ take n unread)
      behind first bytes was =
          let record { number = number; part = part; pair = pair; enough = enough; left = left } =
          was.stands.within some in
          let parts : ℕ = length first in
          let front : List ℕ = was.front in
          let chunk : List ℕ = take n unread in
          let size : length chunk ≡ n = length-take-le n unread (omega (arith, count)) in
          let sum : length (front ++ chunk) ≡ length front + n = omega (arith, length-append front chunk, size) in
          let captured = captured-more d.is_little front chunk (omega (arith, enough)) in
          let none_more : big_bytes 8 d.number ≡ big_bytes 8 d.number ++ [] = sym (append-nil (big_bytes 8 d.number)) in
          settled (record d { left = d.left - n }) first new was.records (front ++ chunk) (bytes ++ chunk)
          (ap (λ (l : List ℕ). l ++ chunk) was.are ∙ append_assoc (concat was.records) front chunk)
          was.stands.whole number (part ∙ sym (part_at-more d.link parts d.number front chunk enough))
          (pair ∙ sym (pair_at-more d.link front chunk enough))
          (λ _. omega (arith, sum, enough)) (omega (arith, sum, enough)) (omega (arith, sum, left, captured, count))
          (AllGrow-one contents first old new d.part _ _ _ _ (λ i size. part_full d.link parts i size was.records front)
          (λ i size. part_full d.link parts i size was.records (front ++ chunk)) chunk []
          (λ size. full_at size (length chunk) d.pair)
          (λ i. given_from-more d.link parts bytes_taken i was.records d.number front (front ++ chunk) _ number
          (rw part (given-more d.link parts bytes_taken i d.number front chunk chunk enough refl)))
          (λ i. given_from-more d.link parts number_taken i was.records d.number front (front ++ chunk) _ number
          (rw part (given-more d.link parts number_taken i d.number front chunk [] enough none_more)))
          (λ i size small. rw (pair, ← pair_at-more d.link front chunk enough)
          (full_front d.link parts i d.part size d.number was.records front (front ++ chunk) chunk number small
          (rw part (given-more d.link parts bytes_taken i d.number front chunk chunk enough refl))
          (λ _. sym (pair_at-more d.link front chunk enough))))
          was.parts one)

  -- a record was begun, and its first bytes were dealt
  pub dealt_first : {d : Dealer} (e : Dealer) {old mid new : List (Part W)} (unread : List ℕ) (n : ℕ) → d.left ≡ 0
      → HasBegun contents d e old mid unread → e.left ≡ 16 + captured_length (order_of d.is_little) unread
      → n ≡ min e.left (length unread)
      → OneGrows contents mid new e.part (take n unread) [] (λ size. full_at size (length (take n unread)) e.pair)
      → Deals contents d (record e { left = e.left - n }) old new (take n unread)
  dealt_first {d} e {old} {mid} {new} unread n none started left count one =
      record { link = started.entered.next.link; is_little = started.entered.next.is_little; behind = behind }
    where
      behind : (first : List (Part W)) (bytes : List ℕ) → IsDealt contents d first old bytes
          → IsDealt contents (record e { left = e.left - n }) first new (bytes ++ take n unread)
      behind first bytes was =
          let record { entered = entered; front = enough } = started in
          let little = entered.next.is_little in
          let chunk : List ℕ = take n unread in
          let size : length chunk ≡ n = length-take-le n unread (omega (arith, count)) in
          let long : 16 ≤ length chunk = omega (arith, size, count, left, enough) in
          let whole : chunk ≡ take (16 + captured_length (order_of d.is_little) unread) unread =
          ap (λ (k : ℕ). take k unread) count ∙ take_min e.left unread ∙ ap (λ (k : ℕ). take k unread) left in
          let captured : captured_length (order_of d.is_little) unread ≡ captured_length (order_of d.is_little) chunk =
          ap (captured_length (order_of d.is_little)) (sym (take-append-drop n unread))
          ∙ captured-more d.is_little chunk (drop n unread) long in
          let (are, next, at, parts) = begun e none (omega (arith, long)) (rw whole entered) one was in
          settled (record e { left = e.left - n }) first new was.records chunk (bytes ++ chunk) are
          (rw little was.stands.whole) next at (rw whole entered.next.pair)
          (λ more. omega (arith, more, size, count, left, enough)) long
          (rw little (omega (arith, size, count, left, captured))) parts

  -- the end of a capture, where no bytes are left
  pub dealt_all : {d : Dealer} {first new : List (Part W)} {bytes : List ℕ}
      → IsDealt contents d first new bytes → AreSplit contents (order_of d.is_little) d.link bytes first new
  dealt_all {d} was = record {
    records = was.records;
    rest = was.front;
    reading = record {
      are = was.are;
      whole = was.stands.whole;
      none_left = λ begins. elim (cases_eq d.left 0) [
        | inl none ↦ let empty = ap length (was.stands.between none).0 in omega (arith, begins.0, empty)
        | inr more ↦ let w = was.stands.within (omega (arith, more)) in omega (arith, begins.1, w.left, more)
      ];
    };
    parts = was.parts;
  }

  -- the end of a capture within a record, of which too little is there to tell that it is cut
  pub dealt_rest : {d : Dealer} (e : Dealer) {first old mid new : List (Part W)} {bytes rest : List ℕ} → d.left ≡ 0
      → ¬ BeginsWithRecord (order_of d.is_little) rest → 0 < length rest
      → HasEntered contents d e old mid (front_of (drop 16 rest))
      → OneGrows contents mid new e.part rest [] (λ size. full_at size (length rest) e.pair)
      → IsDealt contents d first old bytes
      → AreSplit contents (order_of d.is_little) d.link (bytes ++ rest) first new
  dealt_rest e {rest = rest} none cut some entered one was =
      let (are, _, _, parts) = begun e none some entered one was in
      record {
        records = was.records;
        rest = rest;
        reading = record { are = are; whole = was.stands.whole; none_left = cut };
        parts = rw (← entered.next.link) parts;
      }

  -- before the first byte
  pub none_dealt : (d : Dealer) (parts : List (Part W)) → d.number ≡ 0 → d.left ≡ 0 → IsDealt contents d parts parts []
  none_dealt d parts number left = record {
    records = [];
    front = [];
    are = refl;
    stands = record {
      whole = tt;
      between = λ _. (refl, number);
      within = λ some. absurd (omega (arith, some, left));
    };
    parts = AllGrow-none contents parts _
        (λ i size small. sym (full_from-empty d.link (length parts) i size [] small));
  }
