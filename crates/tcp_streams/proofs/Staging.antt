-- On a side's flow that is handed on as its segments come.
use Rattle.tcp_streams.proofs.Words.{◌≡◌, ℕ, ◌<◌, ◌≤◌, Bool, true, List, [], ◌∷◌, ◌++◌, Option, None, Some, refl}
use Rattle.tcp_streams.proofs.Words.{sym, ◌∙◌, arith, ◌+◌, ◌-◌, ◌^◌, length, slice_get, ap, All}
use Rattle.tcp_streams.proofs.Words.{IsSomeAnd}
use Rattle.tcp_streams.proofs.Words.{append-nil, append_assoc, length-append, filter, ◌⊎◌}
use Rattle.tcp_streams.proofs.Words.{All-cons, All-head, All-nil, All-tail, ne_eqb, eq-eqb}
use Rattle.tcp_streams.proofs.Words.{Side, Interval, Source, Arrival, IsSame, at, width}
use Rattle.tcp_streams.proofs.Words.{Client, Server}
use Rattle.audit_terms.specs.Side.{is_side}
use Rattle.std.specs.{Prelude.◌==◌}
use Rattle.std.proofs.lemmas.List.{Elements.filter-append}
use Rattle.tcp_streams.specs.code.Grown.{Growth, IsNextGrowth, arrivals_grown, bytes_grown, of_side}
use Rattle.tcp_streams.specs.code.Grown.{with_arrival}
use Rattle.tcp_streams.specs.code.{Content.AreBytesIn, Side.AreGrowthsOf}
use Rattle.tcp_streams.specs.code.SideFlow.{Follows, IsSideFlow}
use Rattle.tcp_streams.specs.code.SideFlow.{run_end}
use Rattle.tcp_streams.specs.declared.{side_flow.SideFlow.SideFlow}
use Rattle.tcp_streams.proofs.Lists.{by_Bool, by_lt, slice_get-left, slice_get-right, slice_get-slice_range}
use Rattle.tcp_streams.proofs.IntervalLemmas.{at-in, at-past}

-- the bytes of growths, one list after the other
pub bytes_grown-append : (gs hs : List Growth) → bytes_grown (gs ++ hs) ≡ bytes_grown gs ++ bytes_grown hs
bytes_grown-append [] hs = refl
bytes_grown-append (g ∷ gs) hs = rw (bytes_grown-append gs hs) (sym (append_assoc g.bytes (bytes_grown gs) _))

pub length-grown : (gs hs : List Growth)
    → length (bytes_grown (gs ++ hs)) ≡ length (bytes_grown gs) + length (bytes_grown hs)
length-grown gs hs =
    ap length (bytes_grown-append gs hs) ∙ length-append (bytes_grown gs) (bytes_grown hs)

-- those of a side
pub of_side-append : (side : Side) (gs hs : List Growth) → of_side side (gs ++ hs) ≡ of_side side gs ++ of_side side hs
of_side-append side gs hs = filter-append (λ (g : Growth). is_side side g.side) gs hs

is_side-same : (side : Side) → is_side side side ≡ true
is_side-same Client = refl
is_side-same Server = refl

pub of_side-all : (side : Side) (gs : List Growth) → All (λ (g : Growth). g.side ≡ side) gs → of_side side gs ≡ gs
of_side-all side [] h = refl
of_side-all side (g ∷ gs) h =
    let here : is_side side g.side ≡ true =
    ap (is_side side) (All-head (λ (g : Growth). g.side ≡ side) g gs h) ∙ is_side-same side in
    rw here (ap (λ l. g ∷ l) (of_side-all side gs (All-tail (λ (g : Growth). g.side ≡ side) g gs h)))

-- one arrival for all growths of one record
module _ (rec nanos : ℕ) where
  abbrev IsOfIt : Growth → Type 0
  IsOfIt g = (g.rec ≡ rec) × (g.nanos ≡ nanos)

  one-arrival : (low : ℕ) (g : Growth) (hs : List Growth) → IsOfIt g → All IsOfIt hs
      → arrivals_grown low (g ∷ hs)
      ≡ record { upto = low + length (bytes_grown (g ∷ hs)); rec = rec; nanos = nanos } ∷ []
  one-arrival low g [] is all =
      let size : low + length g.bytes ≡ low + length (g.bytes ++ []) =
      omega (arith, ap length (append-nil g.bytes)) in
      (λ i. record { upto = size i; rec = is.0 i; nanos = is.1 i } ∷ [])
  one-arrival low g (h ∷ hs) is all =
      let later = one-arrival (low + length g.bytes) h hs (All-head IsOfIt h hs all) (All-tail IsOfIt h hs all) in
      let size : low + length g.bytes + length (bytes_grown (h ∷ hs)) ≡ low + length (bytes_grown (g ∷ h ∷ hs)) =
      omega (arith, length-append g.bytes (bytes_grown (h ∷ hs))) in
      ap (with_arrival g (low + length g.bytes)) later
      ∙ rw (eq-eqb rec g.rec (sym is.0)) (λ i. record { upto = size i; rec = rec; nanos = nanos } ∷ [])

  -- behind those of earlier records
  before-it : (g : Growth) (upto : ℕ) (l : List Arrival) (a : Arrival) → g.rec < a.rec
      → with_arrival g upto (l ++ a ∷ []) ≡ with_arrival g upto l ++ a ∷ []
  before-it g upto [] a lt = rw (ne_eqb a.rec g.rec (λ e. omega (arith, lt, e))) refl
  before-it g upto (b ∷ l) a lt = by_Bool (b.rec == g.rec) (λ e. rw e refl) (λ e. rw e refl)

  pub arrivals-more : (low : ℕ) (gs : List Growth) (h : Growth) (hs : List Growth)
      → All (λ (g : Growth). g.rec < rec) gs → IsOfIt h → All IsOfIt hs
      → arrivals_grown low (gs ++ h ∷ hs) ≡ arrivals_grown low gs
      ++ record { upto = low + length (bytes_grown gs) + length (bytes_grown (h ∷ hs)); rec = rec; nanos = nanos } ∷ []
  arrivals-more low [] h hs before is all =
      let size : low + length (bytes_grown (h ∷ hs)) ≡ low + 0 + length (bytes_grown (h ∷ hs)) = omega arith in
      one-arrival low h hs is all ∙ (λ i. record { upto = size i; rec = rec; nanos = nanos } ∷ [])
  arrivals-more low (g ∷ gs) h hs before is all =
      let first = All-head (λ (g : Growth). g.rec < rec) g gs before in
      let next = low + length g.bytes in
      let later = arrivals-more next gs h hs (All-tail (λ (g : Growth). g.rec < rec) g gs before) is all in
      let size : next + length (bytes_grown gs) + length (bytes_grown (h ∷ hs))
      ≡ low + length (bytes_grown (g ∷ gs)) + length (bytes_grown (h ∷ hs)) =
      omega (arith, length-append g.bytes (bytes_grown gs)) in
      ap (with_arrival g next) later
      ∙ before-it g next (arrivals_grown next gs) _ first
      ∙ (λ i. with_arrival g next (arrivals_grown next gs)
      ++ record { upto = size i; rec = rec; nanos = nanos } ∷ [])

-- growths that intervals bring
module _ (side : Side) (rec nanos : ℕ) where
  -- are as long as these
  pub length-brought : (low : ℕ) (run : List Interval) (more : List Growth) → Follows low run
      → AreGrowthsOf side rec nanos None run more → low + length (bytes_grown more) ≡ run_end low run
  length-brought low [] [] f h = omega arith
  length-brought low [] (g ∷ more) f h = absurd h
  length-brought low (x ∷ xs) [] f h = absurd h
  length-brought low (x ∷ xs) (g ∷ more) f h =
      omega (
        arith,
        f.0,
        f.1.some,
        h.0.3,
        length-append g.bytes (bytes_grown more),
        length-brought x.upto xs more f.2 h.1,
      )

  abbrev pub IsGrowthOf : Growth → Type 0
  IsGrowthOf g = (g.side ≡ side) × (g.rec ≡ rec) × (g.nanos ≡ nanos)

  pub all-of-it : (of : Option (List ℕ)) (run : List Interval) (more : List Growth)
      → AreGrowthsOf side rec nanos of run more → All IsGrowthOf more
  all-of-it of [] [] h = All-nil IsGrowthOf
  all-of-it of [] (g ∷ more) h = absurd h
  all-of-it of (x ∷ xs) [] h = absurd h
  all-of-it of (x ∷ xs) (g ∷ more) h =
      let here : IsGrowthOf g = (h.0.0, h.0.1, h.0.2) in All-cons IsGrowthOf g more here (all-of-it of xs more h.1)

  -- and each byte is the capture's
  pub brought-at : (capture : List ℕ) (low : ℕ) (run : List Interval) (more : List Growth) (o : ℕ) → Follows low run
      → AreGrowthsOf side rec nanos None run more → AreGrowthsOf side rec nanos (Some capture) run more → low ≤ o
      → o < run_end low run
      → IsSomeAnd (at run o) (λ (s : Source). slice_get capture s.index ≡ slice_get (bytes_grown more) (o - low))
  brought-at capture low [] more o f sized h a b = absurd (omega (arith, a, b))
  brought-at capture low (x ∷ xs) [] o f sized h a b = absurd h
  brought-at capture low (x ∷ xs) (g ∷ more) o f sized h a b =
      by_lt o x.upto
      (λ _ lt. rw (
        at-in x xs o (omega (arith, f.0, a)) lt,
        slice_get-left g.bytes (bytes_grown more) (o - low) (omega (arith, f.0, a, lt, sized.0.3)),
        h.0.3,
      ) (sym (slice_get-slice_range capture x.index (x.index + width x) (o - low) (x.index + (o - x.from))
      (omega (arith, f.0, a)) (omega (arith, f.0, a, lt)))))
      (λ _ past. rw (
        at-past x xs o past,
        slice_get-right g.bytes (bytes_grown more) (o - low) (o - x.upto)
            (omega (arith, f.0, f.1.some, past, sized.0.3)),
      ) (brought-at capture x.upto xs more o f.2 sized.1 h.1 past b))

  -- one more
  pub brought-more : (of : Option (List ℕ)) (run : List Interval) (more : List Growth) (y : Interval) (g : Growth)
      → AreGrowthsOf side rec nanos of run more → IsGrowthOf g → AreBytesIn of y g.bytes
      → AreGrowthsOf side rec nanos of (run ++ y ∷ []) (more ++ g ∷ [])
  brought-more of [] [] y g h is bytes = ((is.0, is.1, is.2, bytes), tt)
  brought-more of [] (f ∷ more) y g h is bytes = absurd h
  brought-more of (x ∷ xs) [] y g h is bytes = absurd h
  brought-more of (x ∷ xs) (f ∷ more) y g h is bytes = (h.0, brought-more of xs more y g h.1 is bytes)

  -- a growth of a record that comes next, if there is room for it
  abbrev pub IsBeforeIt : Growth → Type 0
  IsBeforeIt h = (h.rec < rec) ⊎ ((h.rec ≡ rec) × (h.nanos ≡ nanos) × (h.side ≡ side))

  pub comes-next : (grown : List Growth) (g : Growth) → 0 < rec → nanos < 2 ^ 63 → IsGrowthOf g
      → All IsBeforeIt grown → 0 < length g.bytes → length (bytes_grown grown) + length g.bytes < 2 ^ 31
      → IsNextGrowth grown g
  comes-next grown g numbered timely is before some room = record {
    some = some;
    room = room;
    numbered = omega (arith, is.1, numbered);
    timely = omega (arith, is.2, timely);
    behind = rw (is.0, is.1, is.2) before;
  }

-- what is so of all is so of those that pass a test
pub filter-each : {X : Type 0} (p : X → Bool) (P : X → Type 0) (xs : List X) → All P xs → All P (filter p xs)
filter-each p P [] h = All-nil P
filter-each p P (x ∷ xs) h =
    let later = filter-each p P xs (All-tail P x xs h) in
    by_Bool (p x)
    (λ e. rw e (All-cons P x (filter p xs) (All-head P x xs h) later))
    (λ e. rw e later)

pub of_side-each : (side : Side) (P : Growth → Type 0) (gs : List Growth) → All P gs → All P (of_side side gs)
of_side-each side P gs h = filter-each (λ (g : Growth). is_side side g.side) P gs h

-- sources that bring the same where offsets count have the same flow
module _ (F G : ℕ → Option Source) (same : IsSame F G) where
  pub stands-same : {K : Type 0} (flow : SideFlow K) → IsSideFlow F flow → IsSideFlow G flow
  stands-same flow h =
      let within = h.run.within in record {
        run = record {
          within = within;
          covered = λ o lt. rw (same o (omega (arith, lt, within))) at (h.run.covered o lt);
          longest = λ lt. sym (same flow.end lt) ∙ h.run.longest lt;
        };
        kept = record {
          placed = h.kept.placed;
          apart = h.kept.apart;
          brought = λ o k x held.
              let is = h.kept.placed k x held.is_kept in
              sym (same o (omega (arith, held.upto, is.interval.counts))) ∙ h.kept.brought o k x held;
          complete = λ o le counts some. h.kept.complete o le counts (rw (same o counts) some);
        };
      }
