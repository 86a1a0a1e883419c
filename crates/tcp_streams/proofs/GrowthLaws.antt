-- The laws of growth, of a side's segments.
use Rattle.tcp_streams.proofs.Words.{◌≡◌, ℕ, ◌<◌, List, [], ◌∷◌, ◌++◌, Option, None, Some, refl, ◌∙◌, arith, ap}
use Rattle.tcp_streams.proofs.Words.{IfSome, All-head, All-tail, option_or, nat_lt, Segment, Source, payload_length}
use Rattle.tcp_streams.proofs.Words.{source, le-ltb, length, arrival, IsFlow}
use Rattle.tcp_streams.specs.{Flow.IsLongestRun, Sequence.earlier_of, Sequence.brings, Sequence.distance}
use Rattle.tcp_streams.specs.laws.Growth.{ComesAfter, FlowGrows, NewBytesArrive, SourceGrows, SourceStays}
use Rattle.tcp_streams.proofs.Growth.{AreBefore, IsOf, arrivals-grow, arrives-new, bytes-grow, grown, or-left}
use Rattle.tcp_streams.proofs.Growth.{run-grows}
use Rattle.tcp_streams.proofs.Lists.{by_Bool}
use Rattle.std.proofs.Common.{subst}

pub earlier-none : (p : Option Source) → earlier_of p None ≡ p
earlier-none None = refl
earlier-none (Some x) = refl

earlier-both : (P : Source → Type 0) (p q : Option Source) → IfSome p P → IfSome q P → IfSome (earlier_of p q) P
earlier-both P None q h k = k
earlier-both P (Some x) None h k = h
earlier-both P (Some x) (Some y) h k = by_Bool (nat_lt y.rec x.rec) (λ e. rw e k) (λ e. rw e h)

-- one of a later record comes last
earlier-or : (rec nanos : ℕ) (p q r : Option Source) → IfSome p (λ (x : Source). x.rec < rec) → IsOf rec nanos r
    → earlier_of p (option_or q r) ≡ option_or (earlier_of p q) r
earlier-or rec nanos None q r h k = refl
earlier-or rec nanos (Some x) (Some y) r h k =
    by_Bool (nat_lt y.rec x.rec) (λ e. rw e refl) (λ e. rw e refl)
earlier-or rec nanos (Some x) None None h k = refl
earlier-or rec nanos (Some x) None (Some z) h k = rw (le-ltb z.rec x.rec (omega (arith, h, k.0))) refl

module _ (initial_number : ℕ) where
  pub brings-of : (s : Segment) (o : ℕ) → IsOf s.rec s.nanos (brings initial_number s o)
  brings-of s o =
      by_Bool (nat_lt (distance initial_number s o) (payload_length s)) (λ e. rw e (refl, refl)) (λ e. rw e tt)

  brings-before : (rec : ℕ) (t : Segment) (o : ℕ) → t.rec < rec
      → IfSome (brings initial_number t o) (λ (x : Source). x.rec < rec)
  brings-before rec t o lt =
      by_Bool (nat_lt (distance initial_number t o) (payload_length t)) (λ e. rw e lt) (λ e. rw e tt)

  pub sources-before : (segments : List Segment) (s : Segment) → ComesAfter segments s
      → AreBefore s.rec (source initial_number segments)
  sources-before [] s h o = tt
  sources-before (t ∷ segments) s h o =
      earlier-both (λ (x : Source). x.rec < s.rec) (brings initial_number t o) (source initial_number segments o)
      (brings-before s.rec t o (All-head (λ (x : Segment). x.rec < s.rec) t segments h))
      (sources-before segments s (All-tail (λ (x : Segment). x.rec < s.rec) t segments h) o)

  pub grows : (segments : List Segment) (s : Segment) (o : ℕ) → ComesAfter segments s
      → source initial_number (segments ++ s ∷ []) o
      ≡ grown (source initial_number segments) (brings initial_number s) o
  grows [] s o h = earlier-none (brings initial_number s o)
  grows (t ∷ segments) s o h =
      ap (earlier_of (brings initial_number t o))
      (grows segments s o (All-tail (λ (x : Segment). x.rec < s.rec) t segments h))
      ∙ earlier-or s.rec s.nanos (brings initial_number t o) (source initial_number segments o)
      (brings initial_number s o)
      (brings-before s.rec t o (All-head (λ (x : Segment). x.rec < s.rec) t segments h)) (brings-of s o)

  -- the sources of one segment more, as a function
  pub all-grow : (segments : List Segment) (s : Segment) → ComesAfter segments s
      → source initial_number (segments ++ s ∷ [])
      ≡ grown (source initial_number segments) (brings initial_number s)
  all-grow segments s h = (λ i. λ o. grows segments s o h i)

pub source-grows : SourceGrows
source-grows initial_number segments s o h = grows initial_number segments s o h

pub source-stays : SourceStays
source-stays initial_number segments s o h some =
    grows initial_number segments s o h
    ∙ or-left (source initial_number segments o) (brings initial_number s o) some

pub new-bytes-arrive : NewBytesArrive
new-bytes-arrive initial_number segments s n m o h run more le lt =
    let same = all-grow initial_number segments s h in
    ap (λ (F : ℕ → Option Source). arrival F o) same
    ∙ arrives-new (source initial_number segments) (brings initial_number s) s.rec s.nanos
    (sources-before initial_number segments s h) (brings-of initial_number s) n m run
    (subst (λ (F : ℕ → Option Source). IsLongestRun F m) same more) o le lt

pub flow-grows : FlowGrows
flow-grows capture initial_number segments s bytes bytes' arrivals arrivals' gap gap' h flow more =
    let F = source initial_number segments in
    let b = brings initial_number s in
    let before = sources-before initial_number segments s h in
    let of = brings-of initial_number s in
    let grown-flow = subst (λ (F : ℕ → Option Source). IsFlow capture F bytes' arrivals' gap')
    (all-grow initial_number segments s h) more in (
      run-grows F b s.rec s.nanos before of (length bytes) (length bytes') flow.run grown-flow.run,
      bytes-grow F b s.rec s.nanos before of capture bytes bytes' flow.run grown-flow.run flow.bytes_are
          grown-flow.bytes_are,
      arrivals-grow F b s.rec s.nanos before of (length bytes) (length bytes') flow.run grown-flow.run arrivals
          arrivals' flow.rises grown-flow.rises flow.arrivals_are grown-flow.arrivals_are,
    )
