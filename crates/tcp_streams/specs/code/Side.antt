-- A side's flow that is handed on as its segments come: what it keeps, and what was handed on. No public clause cites
-- these.
use Rattle.std.specs.Prelude.{◌≡◌, ℕ, ◌+◌, ◌-◌, ◌<◌, ◌≤◌, ◌^◌, All, List, [], ◌∷◌, length, map, slice_range}
use Rattle.std.specs.Prelude.{Option, None, Some, Vec}
use Rattle.std.specs.declared.alloc.Global.{Global}
use Rattle.audit_terms.specs.declared.sides.Side.{Side}
use Rattle.packet_heads.specs.declared.packets.Segment.{Segment}
use Rattle.tcp_streams.specs.declared.interval.Interval.{Interval}
use Rattle.tcp_streams.specs.declared.side_flow.SideFlow.{SideFlow}
use Rattle.tcp_streams.specs.declared.side_stage.SideStage.{SideStage}
use Rattle.tcp_streams.specs.Arrivals.{Rises}
use Rattle.tcp_streams.specs.Flow.{AreArrivals, AreBytes}
use Rattle.tcp_streams.specs.code.Grown.{Growth, arrivals_grown, bytes_grown, of_side}
use Rattle.tcp_streams.specs.Sequence.{Source, payload_length, source}
use Rattle.tcp_streams.specs.code.Content.{AreBytesIn}
use Rattle.tcp_streams.specs.code.Interval.{IsInterval}
use Rattle.tcp_streams.specs.code.Orderly.{payload_sum}
use Rattle.tcp_streams.specs.code.SideFlow.{AllHold, IsGrowth, IsRun, IsSideFlow, with_interval}

-- a segment, and its payload
abbrev pub Sent : Type 0
Sent = Segment × List ℕ

abbrev pub segments_among : List Sent → List Segment
segments_among sent = map (λ (one : Sent). one.0) sent

-- the payloads stand in this capture; where none is named, nothing is said
abbrev pub AreSentIn : Option (List ℕ) → List Sent → Type 0
AreSentIn None sent = Unit {0}
AreSentIn (Some capture) sent = All (λ (one : Sent). one.1 ≡ slice_range capture one.0.lo one.0.hi) sent

-- a segment's payload, none of which stands past 2 ^ 31, and its time
pub record IsSent (s : Segment) (payload : List ℕ) : Type 0 where
  pub ordered : s.lo ≤ s.hi
  pub short : s.hi ≤ 2 ^ 31
  pub size : length payload ≡ s.hi - s.lo
  pub numbered : 0 < s.rec
  pub timely : s.nanos < 2 ^ 63

-- the segment's record comes after those of the side's segments and of all growths; and beside what was handed on of
-- the other side, the side's payloads with its own are shorter than 2 ^ 31
pub record ComesNext (side : Side) (sent : List Sent) (grown : List Growth) (s : Segment) : Type 0 where
  pub sent_before : All (λ (one : Sent). one.0.rec < s.rec) sent
  pub grown_before : All (λ (g : Growth). g.rec < s.rec) grown
  pub room : length (bytes_grown grown) + payload_sum (segments_among sent) + payload_length s
      < 2 ^ 31 + length (bytes_grown (of_side side grown))

-- what intervals bring, as growths of one record
abbrev pub AreGrowthsOf : Side → ℕ → ℕ → Option (List ℕ) → List Interval → List Growth → Type 0
AreGrowthsOf side rec nanos of [] [] = Unit {0}
AreGrowthsOf side rec nanos of (x ∷ xs) (g ∷ grown) =
    ((g.side ≡ side) × (g.rec ≡ rec) × (g.nanos ≡ nanos) × AreBytesIn of x g.bytes)
    × AreGrowthsOf side rec nanos of xs grown
AreGrowthsOf side rec nanos of _ _ = ⊥

-- all growths are of this record
abbrev pub AreOfRecord : Side → Segment → List Growth → Type 0
AreOfRecord side s more = All (λ (g : Growth). (g.side ≡ side) × (g.rec ≡ s.rec) × (g.nanos ≡ s.nanos)) more

-- of what is kept of intervals, these are the bytes
abbrev pub holds_of : Option (List ℕ) → Interval → Vec ℕ Global → Type 0
holds_of of x kept = AreBytesIn of x kept.items

-- a side's segments were taken, and its flow, so far as it goes without a hole, was handed on by these growths
pub record IsSideStage (sent : List Sent) (grown : List Growth) (stage : SideStage) : Type 0 where
  pub stands : IsSideFlow (source stage.initial_number (segments_among sent)) stage.flow
  pub holds : (of : Option (List ℕ)) → AreSentIn of sent → AllHold (holds_of of) stage.flow.kept
  pub reaches : length (bytes_grown grown) ≡ stage.flow.end
  pub bytes_are : (capture : List ℕ) → AreSentIn (Some capture) sent
      → AreBytes capture (source stage.initial_number (segments_among sent)) (bytes_grown grown)
  pub rises : Rises 0 0 (arrivals_grown 0 grown) stage.flow.end
  pub arrivals_are : AreArrivals (source stage.initial_number (segments_among sent)) (arrivals_grown 0 grown)
      stage.flow.end

-- an interval of a record that comes next: the flow stands for these sources, and was handed on by the side's growths;
-- so far as it may grow, there is room for it beside the other side's
pub record IsNextPiece
    (sources : ℕ → Option Source) (side : Side) (grown : List Growth) (flow : SideFlow (Vec ℕ Global)) (x : Interval)
    : Type 0 where
  pub interval : IsInterval x
  pub stands : IsSideFlow sources flow
  pub sized : AllHold (holds_of None) flow.kept
  pub reaches : length (bytes_grown (of_side side grown)) ≡ flow.end
  pub before : All (λ (g : Growth). g.rec < x.rec) grown
  pub room : (n : ℕ) → IsRun (with_interval sources x) n → length (bytes_grown grown) + n < 2 ^ 31 + flow.end
  pub numbered : 0 < x.rec
  pub timely : x.nanos < 2 ^ 63

-- by the interval with this payload the flow grew, and these growths are what it grew by
pub record HasGrown
    (sources : ℕ → Option Source) (side : Side) (x : Interval) (payload : List ℕ) (old new : SideFlow (Vec ℕ Global))
    (more : List Growth) : Type 0 where
  pub run : List Interval
  pub stands : IsSideFlow (with_interval sources x) new
  pub growth : IsGrowth (with_interval sources x) old.end new.end run
  pub are : (of : Option (List ℕ)) → AreBytesIn of x payload → AllHold (holds_of of) old.kept
      → AreGrowthsOf side x.rec x.nanos of run more
  pub holds : (of : Option (List ℕ)) → AreBytesIn of x payload → AllHold (holds_of of) old.kept
      → AllHold (holds_of of) new.kept
