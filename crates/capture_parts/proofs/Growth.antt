-- How parts grow, step by step.
use Rattle.capture_parts.proofs.Terms.{AllGrow, Appends-nil, Appends-trans, FullPart, Grows, IsNone, IsSome, List, None}
use Rattle.capture_parts.proofs.Terms.{OneGrows, Option, Part, Some, [], append-nil, ap, arith, both_ways, cases_eq}
use Rattle.capture_parts.proofs.Terms.{eq-eqb, false, get_or, if◌then◌else◌, inl, inr, length, length-append, ne_eqb}
use Rattle.capture_parts.proofs.Terms.{option_or, option_or-none, refl, sym, true, ℕ, ◌++◌, ◌+◌, ◌<◌, ◌==◌, ◌^◌, ◌∙◌}
use Rattle.capture_parts.proofs.Terms.{◌≡◌}

-- ---- what is full, after one step and another

none-is : {X : Type 0} (o : Option X) → IsNone o → o ≡ None
none-is None h = refl
none-is (Some x) h = absurd (both_ways true h refl)

stood : {X : Type 0} (b c : Option X) → (IsSome b → c ≡ b) → IsNone c → IsNone b
stood None c stays h = refl
stood (Some x) c stays h = rw (stays refl) at h

stays-trans : {X : Type 0} (a b c : Option X) → (IsSome a → b ≡ a) → (IsSome b → c ≡ b) → IsSome a → c ≡ a
stays-trans None b c first second h = absurd (both_ways false refl h)
stays-trans (Some x) b c first second h = second (rw (first refl) refl) ∙ first refl

fills-trans : {X : Type 0} (b c first second later : Option X) → (b ≡ None → second ≡ later) → b ≡ first
    → (IsSome b → c ≡ b) → (IsNone b → c ≡ second) → c ≡ option_or first later
fills-trans None c first second later same is stays fills = rw (← is) (fills refl ∙ same refl)
fills-trans (Some x) c first second later same is stays fills = rw (← is) (stays refl)

module _ {W : Type 0} (contents : W → Option (List ℕ)) where
  -- one step after another. `later` is by what the second fills a part that the first did not
  Grows-trans : (a b c : Part W) (x y m n : List ℕ) (first second later : Option FullPart)
      → (b.full ≡ None → IsNone a.full → second ≡ later) → Grows contents a b x m first
      → Grows contents b c y n second → Grows contents a c (x ++ y) (m ++ n) (option_or first later)
  Grows-trans a b c x y m n first second later same p q =
      let before = stood b.full c.full q.stays in
      record {
        packets = λ h. Appends-trans (contents a.packets) (contents b.packets) (contents c.packets) x y
            (p.packets (before h)) (q.packets h);
        numbering = λ h. Appends-trans (contents a.numbers) (contents b.numbers) (contents c.numbers) m n
            (p.numbering (before h)) (q.numbering h);
        size = λ h. omega (arith, p.size (before h), q.size h, length-append x y);
        stays = stays-trans a.full b.full c.full p.stays q.stays;
        fills = λ h. fills-trans b.full c.full first second later (λ e. same e h) (p.fills h) q.stays q.fills;
      }

  -- one part grows by a number, by which it is not full, and then by bytes
  pub OneGrows-bytes : (old mid new : List (Part W)) (p : ℕ) (bytes numbers : List ℕ) (full : ℕ → Option FullPart)
      → OneGrows contents old mid p [] numbers (λ size. None) → OneGrows contents mid new p bytes [] full
      → OneGrows contents old new p bytes numbers full
  OneGrows-bytes old mid new p bytes numbers full begun more = record {
    count = more.count ∙ begun.count;
    one = λ d.
        let a : Part W = get_or old p d in
        let b : Part W = get_or mid p d in
        let step = begun.one d in
        rw append-nil at (Grows-trans a b (get_or new p d) [] bytes numbers [] None (full b.size) (full a.size)
        (λ none was. ap full (let e : b.size ≡ a.size = omega (arith, step.size (rw none refl)) in e)) step
        (more.one d));
    others = λ j d other. more.others j d other ∙ begun.others j d other;
  }

  -- all parts have grown by what they got so far, and now one grows
  pub AllGrow-one : (first old new : List (Part W)) (p : ℕ) (bytes numbers all all_numbers : ℕ → List ℕ)
      (full all_full : ℕ → ℕ → Option FullPart) (more more_numbers : List ℕ) (now : ℕ → Option FullPart)
      → ((i : ℕ) → bytes i ++ (if p == i then more else []) ≡ all i)
      → ((i : ℕ) → numbers i ++ (if p == i then more_numbers else []) ≡ all_numbers i)
      → ((i size : ℕ) → size < 2 ^ 31 → option_or (full i size) (if p == i then now (size + length (bytes i)) else None)
      ≡ all_full i size)
      → AllGrow contents first old bytes numbers full → OneGrows contents old new p more more_numbers now
      → AllGrow contents first new all all_numbers all_full
  AllGrow-one first old new p bytes numbers all all_numbers full all_full more more_numbers now is is_numbers is_full
      grown one = record {
        count = one.count ∙ grown.count;
        each = λ i d small.
            let a : Part W = get_or first i d in
            let b : Part W = get_or old i d in
            let c : Part W = get_or new i d in
            let step = grown.each i d small in
            elim (cases_eq p i) [
              | inl same ↦
                  let at : (p == i) ≡ true = eq-eqb p i same in
                  let later = rw same at (one.one d) in
                  rw (← rw at at (is i), ← rw at at (is_numbers i), ← rw at at (is_full i a.size a.small))
                  (Grows-trans a b c (bytes i) more (numbers i) more_numbers (full i a.size) (now b.size)
                  (now (a.size + length (bytes i))) (λ none was. ap now (step.size (rw none refl))) step later)
              | inr other ↦
                  let at : (p == i) ≡ false = ne_eqb p i other in
                  let got = rw (at, append-nil) at (is i) in
                  let got_numbers = rw (at, append-nil) at (is_numbers i) in
                  let got_full = rw (at, option_or-none) at (is_full i a.size a.small) in
                  rw (one.others i d (λ e. other (sym e)), ← got, ← got_numbers, ← got_full) step
            ];
      }

  -- the same by another word for what is full
  pub AllGrow-full : {first new : List (Part W)} {bytes numbers : ℕ → List ℕ} (full all_full : ℕ → ℕ → Option FullPart)
      → ((i size : ℕ) → size < 2 ^ 31 → full i size ≡ all_full i size)
      → AllGrow contents first new bytes numbers full → AllGrow contents first new bytes numbers all_full
  AllGrow-full {first} full all_full same grown = record {
    count = grown.count;
    each = λ i d small.
        let a : Part W = get_or first i d in
        rw (← same i a.size a.small) (grown.each i d small);
  }

  pub AllGrow-none : (parts : List (Part W)) (full : ℕ → ℕ → Option FullPart)
      → ((i size : ℕ) → size < 2 ^ 31 → None ≡ full i size)
      → AllGrow contents parts parts (λ i. []) (λ i. []) full
  AllGrow-none parts full same = AllGrow-full (λ i size. None) full same
      (record { count = refl; each = λ i d small. none (get_or parts i d) })
    where
      none : (a : Part W) → Grows contents a a [] [] None
      none a = record {
        packets = λ h. Appends-nil (contents a.packets);
        numbering = λ h. Appends-nil (contents a.numbers);
        size = λ h. omega arith;
        stays = λ h. refl;
        fills = λ h. none-is a.full h;
      }
