-- One more record: what it brings counts where nothing was, and the flow grows at its end alone.
use Rattle.tcp_streams.proofs.Words.{◌≡◌, ℕ, ◌<◌, ◌≤◌, List, [], ◌∷◌, ◌++◌, Option, None, Some, refl, sym, ◌∙◌}
use Rattle.tcp_streams.proofs.Words.{arith, zero, suc, length, take, ap, IsSome, All, IfSome, IsSomeAnd, option_or}
use Rattle.tcp_streams.proofs.Words.{nat_lt}
use Rattle.tcp_streams.proofs.Words.{if◌then◌else◌, false≢true, lt-ltb, le-ltb, append-nil, All-nil, All-cons, All-head}
use Rattle.tcp_streams.proofs.Words.{All-tail, Rises, IsArrivalOf, arrival_at, Source, arrival, Arrival}
use Rattle.tcp_streams.specs.{Flow.IsLongestRun, Flow.AreBytes, Sequence.later_of}
use Rattle.tcp_streams.proofs.Lists.{by_Bool, by_lt}
use Rattle.tcp_streams.proofs.UniqueFlow.{Rises-end, arrivals-unique, entry-later, same-byte}
use Rattle.std.proofs.{Common.subst, lemmas.Grind.same_number_lists, lemmas.List.get_or-take}
use Rattle.std.proofs.lemmas.List.{length-take-le}

-- every source is of a record before this one
abbrev pub AreBefore : ℕ → (ℕ → Option Source) → Type 0
AreBefore rec F = (o : ℕ) → IfSome (F o) (λ (x : Source). x.rec < rec)

-- the source, if any, is of this record and time
abbrev pub IsOf : ℕ → ℕ → Option Source → Type 0
IsOf rec nanos p = IfSome p (λ (x : Source). (x.rec ≡ rec) × (x.nanos ≡ nanos))

-- the sources, and where there is none what the next record brings
abbrev pub grown : (ℕ → Option Source) → (ℕ → Option Source) → ℕ → Option Source
grown F b o = option_or (F o) (b o)

pub or-left : (p q : Option Source) → IsSome p → option_or p q ≡ p
or-left None q h = absurd (false≢true h)
or-left (Some x) q h = refl

-- of two sources, the later one
later-both : (P : Source → Type 0) (p q : Option Source) → IfSome p P → IfSome q P → IfSome (later_of p q) P
later-both P None q h k = k
later-both P (Some x) None h k = h
later-both P (Some x) (Some y) h k = by_Bool (nat_lt x.rec y.rec) (λ e. rw e k) (λ e. rw e h)

later-new : (rec nanos : ℕ) (p q : Option Source) → IfSome p (λ (x : Source). x.rec < rec) → IsOf rec nanos q
    → IsSome q → later_of p q ≡ q
later-new rec nanos None q h k some = refl
later-new rec nanos (Some x) None h k some = absurd (false≢true some)
later-new rec nanos (Some x) (Some y) h k some = rw (lt-ltb x.rec y.rec (omega (arith, h, k.0))) refl

later-stays : (rec nanos : ℕ) (p q : Option Source) → IsOf rec nanos p → IsSome p
    → IfSome q (λ (y : Source). y.rec ≤ rec) → later_of p q ≡ p
later-stays rec nanos None q h some k = absurd (false≢true some)
later-stays rec nanos (Some x) None h some k = refl
later-stays rec nanos (Some x) (Some y) h some k = rw (le-ltb x.rec y.rec (omega (arith, h.0, k))) refl

or-upto : (rec nanos : ℕ) (p q : Option Source) → IfSome p (λ (x : Source). x.rec < rec) → IsOf rec nanos q
    → IfSome (option_or p q) (λ (y : Source). y.rec ≤ rec)
or-upto rec nanos None None h k = tt
or-upto rec nanos None (Some y) h k = omega (arith, k.0)
or-upto rec nanos (Some x) q h k = omega (arith, h)

-- an arrival bears a source of the record
bears : (rec nanos : ℕ) (q : Option Source) (a : Arrival) → IsOf rec nanos q → IsSome q → a.rec ≡ rec
    → a.nanos ≡ nanos → IsArrivalOf a q
bears rec nanos None a k some r t = absurd (false≢true some)
bears rec nanos (Some y) a k some r t = (r ∙ sym k.0, t ∙ sym k.1)

bears-before : (rec : ℕ) (p : Option Source) (a : Arrival) → IsArrivalOf a p
    → IfSome p (λ (x : Source). x.rec < rec) → a.rec < rec
bears-before rec None a h k = absurd h
bears-before rec (Some x) a h k = omega (arith, h.0, k)

-- a record that an arrival after another bears is above it
bears-after : (low rec nanos : ℕ) (p : Option Arrival) (q : Option Source) → IfSome p (λ (f : Arrival). low < f.rec)
    → IsSomeAnd p (λ (a : Arrival). IsArrivalOf a q) → IsOf rec nanos q → low < rec
bears-after low rec nanos None q h k of = absurd k
bears-after low rec nanos (Some f) None h k of = absurd k
bears-after low rec nanos (Some f) (Some x) h k of = omega (arith, h, k.0, of.0)

-- one more arrival at the end of others
Rises-push : (low r : ℕ) (l : List Arrival) (n : ℕ) (a : Arrival) → Rises low r l n
    → All (λ (e : Arrival). e.rec < a.rec) l → r < a.rec → n < a.upto → Rises low r (l ++ a ∷ []) a.upto
Rises-push low r [] n a h all lt more = (omega (arith, h, more), lt, refl)
Rises-push low r (e ∷ l) n a h all lt more = (
  h.0,
  h.1,
  Rises-push e.upto e.rec l n a h.2 (All-tail (λ (x : Arrival). x.rec < a.rec) e l all)
      (All-head (λ (x : Arrival). x.rec < a.rec) e l all) more,
)

at-before : (low r : ℕ) (l : List Arrival) (n o : ℕ) (a : Arrival) → Rises low r l n → low ≤ o → o < n
    → arrival_at (l ++ a ∷ []) o ≡ arrival_at l o
at-before low r [] n o a h le lt = absurd (omega (arith, h, le, lt))
at-before low r (e ∷ l) n o a h le lt =
    by_lt o e.upto
    (λ t _. rw t refl)
    (λ t past. rw t (at-before e.upto e.rec l n o a h.2 past lt))

at-end : (low r : ℕ) (l : List Arrival) (n o : ℕ) (a : Arrival) → Rises low r l n → n ≤ o → o < a.upto
    → arrival_at (l ++ a ∷ []) o ≡ Some a
at-end low r [] n o a h le lt = rw (lt-ltb o a.upto lt) refl
at-end low r (e ∷ l) n o a h le lt =
    rw (le-ltb o e.upto (omega (arith, le, Rises-end e.upto e.rec l n h.2))) (at-end e.upto e.rec l n o a h.2 le lt)

-- arrivals that bear these sources have their records
are-before : (F : ℕ → Option Source) (rec low r : ℕ) (l : List Arrival) (n : ℕ) → AreBefore rec F → Rises low r l n
    → ((o : ℕ) → low ≤ o → o < n → IsSomeAnd (arrival_at l o) (λ (a : Arrival). IsArrivalOf a (F o)))
    → All (λ (e : Arrival). e.rec < rec) l
are-before F rec low r [] n before h bear = All-nil (λ (e : Arrival). e.rec < rec)
are-before F rec low r (e ∷ l) n before h bear =
    let end = Rises-end e.upto e.rec l n h.2 in
    let here : IsArrivalOf e (F low) =
    rw (lt-ltb low e.upto h.0) at (bear low (omega arith) (omega (arith, h.0, end))) in
    All-cons (λ (x : Arrival). x.rec < rec) e l (bears-before rec (F low) e here (before low))
    (are-before F rec e.upto e.rec l n before h.2
    (λ o le lt. rw (le-ltb o e.upto le) at (bear o (omega (arith, h.0, le)) lt)))

module _ (F b : ℕ → Option Source) (rec nanos : ℕ) (before : AreBefore rec F)
    (of : (o : ℕ) → IsOf rec nanos (b o)) where
  -- the run does not get shorter
  pub run-grows : (n m : ℕ) → IsLongestRun F n → IsLongestRun (grown F b) m → n ≤ m
  run-grows n m h k =
      by_lt m n
      (λ _ lt.
      let none : F m ≡ None = sym (or-left (F m) (b m) (h.covered m lt)) ∙ k.longest (omega (arith, lt, h.within)) in
      absurd (false≢true (rw none at (h.covered m lt))))
      (λ _ le. le)

  -- up to where all was there, arrivals stay
  arrival-stays : (o : ℕ) → ((p : ℕ) → p ≤ o → IsSome (F p)) → arrival (grown F b) o ≡ arrival F o
  arrival-stays zero h = or-left (F zero) (b zero) (h zero (omega arith))
  arrival-stays (suc o) h =
      let start = arrival-stays o (λ p le. h p (omega (arith, le))) in
      let here = or-left (F (suc o)) (b (suc o)) (h (suc o) (omega arith)) in
      (λ i. later_of (start i) (here i))

  arrival-before : (o : ℕ) → IfSome (arrival F o) (λ (x : Source). x.rec < rec)
  arrival-before zero = before zero
  arrival-before (suc o) =
      later-both (λ (x : Source). x.rec < rec) (arrival F o) (F (suc o)) (arrival-before o) (before (suc o))

  -- the offset at which the run had ended arrives with the record
  arrives-first : (n : ℕ) → ((p : ℕ) → p < n → IsSome (F p)) → F n ≡ None → IsSome (b n)
      → arrival (grown F b) n ≡ b n
  arrives-first zero h none some = rw none refl
  arrives-first (suc n) h none some =
      let start = arrival-stays n (λ p le. h p (omega (arith, le))) in
      let here : grown F b (suc n) ≡ b (suc n) = rw none refl in
      (λ i. later_of (start i) (here i))
      ∙ later-new rec nanos (arrival F n) (b (suc n)) (arrival-before n) (of (suc n)) some

  -- and so do all after it
  pub arrives : (n o : ℕ) → ((p : ℕ) → p < n → IsSome (F p)) → F n ≡ None → IsSome (b n) → n ≤ o
      → arrival (grown F b) o ≡ b n
  arrives zero zero h none some le = arrives-first zero h none some
  arrives (suc n) zero h none some le = absurd (omega arith)
  arrives n (suc o) h none some le =
      by_lt n (suc o)
      (λ _ lt.
      ap (λ p. later_of p (grown F b (suc o))) (arrives n o h none some (omega (arith, lt)))
      ∙ later-stays rec nanos (b n) (grown F b (suc o)) (of n) some
      (or-upto rec nanos (F (suc o)) (b (suc o)) (before (suc o)) (of (suc o))))
      (λ _ ge.
      let same : n ≡ suc o = omega (arith, le, ge) in
      ap (arrival (grown F b)) (sym same) ∙ arrives-first n h none some)

  -- the longest runs before and after the record
  module _ (n m : ℕ) (run : IsLongestRun F n) (more : IsLongestRun (grown F b) m) where
    none-yet : n < m → F n ≡ None
    none-yet lt = run.longest (omega (arith, lt, more.within))

    brought : n < m → IsSome (b n)
    brought lt = let none = none-yet lt in rw none at (more.covered n lt)

    pub arrives-new : (o : ℕ) → n ≤ o → o < m → arrival (grown F b) o ≡ b n
    arrives-new o le lt =
        let more-is : n < m = omega (arith, le, lt) in
        arrives n o run.covered (none-yet more-is) (brought more-is) le

    pub arrives-old : (o : ℕ) → o < n → arrival (grown F b) o ≡ arrival F o
    arrives-old o lt = arrival-stays o (λ p le. run.covered p (omega (arith, le, lt)))

    -- the arrivals of the grown flow: those that were, and one of the record where there are more bytes
    module _ (l : List Arrival) (rises : Rises 0 0 l n)
        (are : (o : ℕ) → o < n → IsSomeAnd (arrival_at l o) (λ (a : Arrival). IsArrivalOf a (arrival F o))) where
      pub old-bear : (o : ℕ) → o < n
          → IsSomeAnd (arrival_at l o) (λ (a : Arrival). IsArrivalOf a (arrival (grown F b) o))
      old-bear o lt = rw (arrives-old o lt) (are o lt)

      module _ (a : Arrival) (upto : a.upto ≡ m) (rec-is : a.rec ≡ rec) (nanos-is : a.nanos ≡ nanos) (lt : n < m) where
        pub rises-more : 0 < rec → Rises 0 0 (l ++ a ∷ []) m
        rises-more some =
            let all = rw (sym rec-is) at
            (are-before (arrival F) rec 0 0 l n arrival-before rises (λ o _ within. are o within)) in
            subst (λ (end : ℕ). Rises 0 0 (l ++ a ∷ []) end) upto
            (Rises-push 0 0 l n a rises all (omega (arith, some, rec-is)) (omega (arith, lt, upto)))

        pub more-bear : (o : ℕ) → o < m
            → IsSomeAnd (arrival_at (l ++ a ∷ []) o) (λ (e : Arrival). IsArrivalOf e (arrival (grown F b) o))
        more-bear o within =
            by_lt o n
            (λ _ old. rw (at-before 0 0 l n o a rises (omega arith) old) (old-bear o old))
            (λ _ past. rw (at-end 0 0 l n o a rises past (omega (arith, within, upto)), arrives-new o past within)
            (bears rec nanos (b n) a (of n) (brought lt) rec-is nanos-is))

  -- so a flow of the grown sources is the old flow, and what the record adds
  module _ (n m : ℕ) (run : IsLongestRun F n) (more : IsLongestRun (grown F b) m) (l k : List Arrival)
      (rises : Rises 0 0 l n) (risen : Rises 0 0 k m)
      (are : (o : ℕ) → o < n → IsSomeAnd (arrival_at l o) (λ (a : Arrival). IsArrivalOf a (arrival F o)))
      (bear : (o : ℕ) → o < m → IsSomeAnd (arrival_at k o) (λ (a : Arrival). IsArrivalOf a (arrival (grown F b) o)))
    where
      numbered : n < m → 0 < rec
      numbered lt =
          bears-after 0 rec nanos (arrival_at k n) (b n) (entry-later 0 0 k m n risen)
          (rw (arrives-new n m run more n (omega arith) lt) at (bear n lt)) (of n)

      pub arrivals-grow : k ≡ l ++ (if nat_lt n m then record { upto = m; rec = rec; nanos = nanos } ∷ [] else [])
      arrivals-grow =
          let a : Arrival = record { upto = m; rec = rec; nanos = nanos } in
          by_lt n m
          (λ t lt. rw t (arrivals-unique (arrival (grown F b)) m 0 0 0 k (l ++ a ∷ []) risen
          (rises-more n m run more l rises are a refl refl refl lt (numbered lt))
          (λ o _ within. bear o within)
          (λ o _ within. more-bear n m run more l rises are a refl refl refl lt o within)))
          (λ t ge.
          let same : n ≡ m = omega (arith, ge, run-grows n m run more) in
          rw (t, append-nil l) (arrivals-unique (arrival (grown F b)) m 0 0 0 k l risen (rw same at rises)
          (λ o _ within. bear o within)
          (λ o _ within. old-bear n m run more l rises are o (omega (arith, within, same)))))

  -- and its bytes begin with the old ones
  pub bytes-grow : (capture bytes bytes' : List ℕ) → IsLongestRun F (length bytes)
      → IsLongestRun (grown F b) (length bytes') → AreBytes capture F bytes → AreBytes capture (grown F b) bytes'
      → take (length bytes) bytes' ≡ bytes
  bytes-grow capture bytes bytes' run more are bear =
      let le = run-grows (length bytes) (length bytes') run more in
      let size : length (take (length bytes) bytes') ≡ length bytes = length-take-le (length bytes) bytes' le in
      same_number_lists (take (length bytes) bytes') bytes size (λ o lt.
      let within : o < length bytes = omega (arith, lt, size) in
      get_or-take (length bytes) bytes' o 0 within
      ∙ same-byte (F o) capture bytes' bytes o
      (rw (or-left (F o) (b o) (run.covered o within)) at (bear o (omega (arith, within, le)))) (are o within))
