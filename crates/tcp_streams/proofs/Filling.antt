-- A side's flow while it hands on what is no longer behind a hole.
use Rattle.tcp_streams.proofs.Words.{◌≡◌, ℕ, List, [], ◌∷◌, ◌++◌, Option, None, refl, arith}
use Rattle.tcp_streams.proofs.Words.{◌<◌, length, All-weaker, inl, inr, Interval, Side, Source, width}
use Rattle.std.proofs.{Common.Vec, lemmas.List.Elements.All-append}
use Rattle.std.specs.declared.alloc.Global.{Global}
use Rattle.tcp_streams.specs.code.Grown.{Growth, IsNextGrowth}
use Rattle.tcp_streams.specs.code.{Content.AreBytesIn}
use Rattle.tcp_streams.specs.code.Side.{AreGrowthsOf, HasGrown, IsNextPiece, holds_of}
use Rattle.tcp_streams.specs.code.SideFlow.{AllHold, AreKept, IsGrowth, IsRun, IsSideFlow, kept_at, with_interval}
use Rattle.tcp_streams.specs.declared.{interval.Piece.Piece, side_flow.SideFlow.SideFlow}
use Rattle.tcp_streams.proofs.SideFlowSteps.{growth-none, growth-then, run-so-far, with-interval}
use Rattle.tcp_streams.proofs.Staging.{IsBeforeIt, IsGrowthOf, all-of-it, brought-more, comes-next, length-brought}
use Rattle.tcp_streams.proofs.Staging.{length-grown}

abbrev pub Flow : Type 0
Flow = SideFlow (Vec ℕ Global)

-- a piece of the flow, as a growth with the record of an interval
abbrev pub growth_of : Side → Interval → Piece (Vec ℕ Global) → Growth
growth_of side x p = record { side = side; bytes = p.content.items; rec = x.rec; nanos = x.nanos }

-- a growth by one interval comes next
pub comes-by : (sources : ℕ → Option Source) (side : Side) (x y : Interval) (old : Flow) (high : ℕ)
    (grown : List Growth) (g : Growth) → IsNextPiece sources side grown old x → IsRun (with_interval sources x) high
    → IsGrowth (with_interval sources x) old.end high (y ∷ []) → IsGrowthOf side x.rec x.nanos g
    → length g.bytes ≡ width y → IsNextGrowth grown g
comes-by sources side x y old high grown g next run growth is size =
    let room = next.room high run in
    comes-next side x.rec x.nanos grown g next.numbered next.timely is
    (All-weaker (λ (h : Growth). h.rec < x.rec) (IsBeforeIt side x.rec x.nanos) (λ h lt. inl lt) grown next.before)
    (omega (arith, size, growth.follows.1.some))
    (omega (arith, size, growth.follows.0, growth.follows.1.some, growth.reaches, room))

-- by the interval with this payload the flow grows, and so far these growths are what it grew by
pub record IsGrowing
    (sources : ℕ → Option Source) (side : Side) (x : Interval) (payload : List ℕ) (old now : Flow) (more : List Growth)
    : Type 0 where
  pub run : List Interval
  pub kept : AreKept now.end (with_interval sources x) (kept_at now.kept)
  pub growth : IsGrowth (with_interval sources x) old.end now.end run
  pub are : (of : Option (List ℕ)) → AreBytesIn of x payload → AllHold (holds_of of) old.kept
      → AreGrowthsOf side x.rec x.nanos of run more
  pub holds : (of : Option (List ℕ)) → AreBytesIn of x payload → AllHold (holds_of of) old.kept
      → AllHold (holds_of of) now.kept

module _ (sources : ℕ → Option Source) (side : Side) (x : Interval) (payload : List ℕ) (old now : Flow) where
  -- before it hands on
  pub growing-first : now.end ≡ old.end → AreKept old.end (with_interval sources x) (kept_at now.kept)
      → ((of : Option (List ℕ)) → AreBytesIn of x payload → AllHold (holds_of of) old.kept
      → AllHold (holds_of of) now.kept)
      → IsGrowing sources side x payload old now []
  growing-first same kept holds = record {
    run = [];
    kept = rw same kept;
    growth = rw same (growth-none (with_interval sources x) old.end);
    are = λ of gives held. tt;
    holds = holds;
  }

  module _ (new : Flow) (more : List Growth) (p : Piece (Vec ℕ Global))
      (grows : (F : ℕ → Option Source) → AreKept now.end F (kept_at now.kept)
      → AreKept new.end F (kept_at new.kept) × IsGrowth F now.end new.end (p.interval ∷ []))
      (keeps : (of : Option (List ℕ)) → AllHold (holds_of of) now.kept
      → AllHold (holds_of of) new.kept × AreBytesIn of p.interval p.content.items)
      (h : IsGrowing sources side x payload old now more) where
    abbrev F : ℕ → Option Source
    F = with_interval sources x

    grown-by : IsGrowth F old.end new.end (h.run ++ p.interval ∷ [])
    grown-by = growth-then F old.end now.end new.end h.run p.interval h.growth (grows F h.kept).1

    -- one more
    pub growing-more : IsGrowing sources side x payload old new (more ++ growth_of side x p ∷ [])
    growing-more = record {
      run = h.run ++ p.interval ∷ [];
      kept = (grows F h.kept).0;
      growth = grown-by;
      are = λ of gives held.
          brought-more side x.rec x.nanos of h.run more p.interval (growth_of side x p) (h.are of gives held)
          (refl, refl, refl) (keeps of (h.holds of gives held)).1;
      holds = λ of gives held. (keeps of (h.holds of gives held)).0;
    }

    -- which comes next
    pub growing-next : (grown : List Growth) → AreBytesIn None x payload → IsNextPiece sources side grown old x
        → IsNextGrowth (grown ++ more) (growth_of side x p)
    growing-next grown gives next =
        let run = run-so-far sources F old new.end (h.run ++ p.interval ∷ []) next.stands (with-interval sources x)
        grown-by in
        let room = next.room new.end run in
        let sized = h.are None gives next.sized in
        let long = length-brought side x.rec x.nanos old.end h.run more h.growth.follows sized in
        let size : length p.content.items ≡ width p.interval = (keeps None (h.holds None gives next.sized)).1 in
        let one = (grows F h.kept).1 in
        let both = length-grown grown more in
        comes-next side x.rec x.nanos (grown ++ more) (growth_of side x p) next.numbered next.timely (refl, refl, refl)
        (All-append (IsBeforeIt side x.rec x.nanos) grown more
        (All-weaker (λ (g : Growth). g.rec < x.rec) (IsBeforeIt side x.rec x.nanos) (λ g lt. inl lt) grown next.before)
        (All-weaker (IsGrowthOf side x.rec x.nanos) (IsBeforeIt side x.rec x.nanos)
        (λ g is. inr (is.1, is.2, is.0)) more (all-of-it side x.rec x.nanos None h.run more sized)))
        (omega (arith, size, one.follows.1.some))
        (omega (arith, size, one.follows.0, one.follows.1.some, one.reaches, room, long, h.growth.reaches, both))

  -- nothing more begins where it ends
  pub growing-last : (new : Flow) (more : List Growth) → IsSideFlow sources old → new.end ≡ now.end
      → ((F : ℕ → Option Source) → AreKept now.end F (kept_at now.kept) → IsRun F now.end → IsSideFlow F new)
      → ((of : Option (List ℕ)) → AllHold (holds_of of) now.kept → AllHold (holds_of of) new.kept)
      → IsGrowing sources side x payload old now more
      → HasGrown sources side x payload old new more
  growing-last new more stood same stands keeps h =
      let F = with_interval sources x in record {
        run = h.run;
        stands = stands F h.kept (run-so-far sources F old now.end h.run stood (with-interval sources x) h.growth);
        growth = rw same h.growth;
        are = h.are;
        holds = λ of gives held. keeps of (h.holds of gives held);
      }
