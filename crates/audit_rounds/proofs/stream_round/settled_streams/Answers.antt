use Rattle.audit_rounds.proofs.Words.{◌≡◌, ◌∙◌, ◌≤◌, sym, length, length-map, map, Bool, ℕ, List, Option, Vec, Global}
use Rattle.audit_rounds.proofs.Words.{job_of, plan_from, Streams, StreamJob, Settled, HasSettled, PerConnection}
use Rattle.audit_rounds.proofs.Words.{AreStreamsOf, IfOk-weaker}
use Rattle.audit_rounds.specs.code.StreamJobs.{Makes}
use Rattle.audit_rounds.specs.code.StreamRound.{StreamsHaveSettled}
use Rattle.audit_rounds.proofs.Batches.{few-rows}
use Rattle.audit_rounds.proofs.Lists.{as-many, stop_in}
use Rattle.audit_rounds.proofs.Settles.{parts-within}
use Rattle.audit_rounds.proofs.StreamRounds.{jobs-inside, planned, ready-each, stops-are-places}
use Rattle.audit_rounds.proofs.stream_round.settled_streams.Goals as goal

pub stream_plan-requires-clause-ready : goal.stream_plan-requires-clause-ready
stream_plan-requires-clause-ready g c =
    rw c.as_slice-streams.ensures.value (ready-each c.args.division.now.frames_shown c.args.connections.now
    c.in_ok-streams.streams.items c.requires.ready c.in_ok-streams.ensures)

pub stream_plan-requires-clause-few : goal.stream_plan-requires-clause-few
stream_plan-requires-clause-few g c =
    rw c.as_slice-streams.ensures.value (few-rows c.args.division.now.frames_shown c.args.connections.now
    c.in_ok-streams.streams.items c.requires.ready c.in_ok-streams.ensures c.requires.few)

pub invariant_of-round-clause-ready : goal.invariant_of-round-clause-ready
invariant_of-round-clause-ready g c =
    rw c.as_slice-streams.ensures.value (ready-each c.args.division.now.frames_shown c.args.connections.now
    c.in_ok-streams.streams.items c.requires.ready c.in_ok-streams.ensures)

pub invariant_of-round-clause-planned : goal.invariant_of-round-clause-planned
invariant_of-round-clause-planned g c =
    let division = c.args.division.now in
    rw (c.as_slice.ensures.value, c.in_ok-plan.ensures.plan)
    (planned division.groups division.some_groups c.as_slice-streams.result.now)

pub settle-requires-clause-places : goal.settle-requires-clause-places
settle-requires-clause-places g c κs within = rw (c.as_slice-2.ensures.value, c.in_ok-stops.ensures)
    (stops-are-places c.args.division.now.frames_shown c.args.connections.now c.requires.ready)

-- as many as the connections
many : (connections : List PerConnection) (streams : List Streams) → AreStreamsOf connections streams
    → length streams ≡ length connections
many connections streams are =
    as-many (λ (streams : Streams). streams.of.now) (λ (one : PerConnection). one.prepared) streams connections are.of

pub settle-requires-clause-connections : goal.settle-requires-clause-connections
settle-requires-clause-connections g c κs within =
    let division = c.args.division.now in
    rw (
      c.as_slice-2.ensures.value,
      c.in_ok-stops.ensures,
      c.as_slice.ensures.value,
      c.in_ok-plan.ensures.plan,
      c.as_slice-streams.ensures.value,
    ) (jobs-inside division.groups division.some_groups division.frames_shown c.in_ok-streams.streams.items _
    (many c.args.connections.now c.in_ok-streams.streams.items c.in_ok-streams.ensures
    ∙ sym (length-map c.args.connections.now stop_in)))

-- its jobs are those of the plan
settled-as : (frames_shown : Bool) (groups : ℕ) (some : 1 ≤ groups) (connections : List PerConnection)
    (streams : List Streams) (plan : List StreamJob) (opening : List (Option ℕ)) (settled : Settled (Vec ℕ Global))
    → plan ≡ plan_from groups 0 streams → opening ≡ map stop_in connections → AreStreamsOf connections streams
    → HasSettled (λ (job : ℕ) (upto : Option ℕ) (made : Vec ℕ Global). Makes streams plan job upto made.items)
    (map (job_of frames_shown streams) plan) opening settled
    → StreamsHaveSettled frames_shown groups connections settled
settled-as frames_shown groups some connections streams plan opening settled e f are h =
    let done = rw (e, f) at h in
    record {
      streams = streams;
      of = are;
      done = done;
      inside = parts-within _ _ settled (length connections) done
          (jobs-inside groups some frames_shown streams (length connections) (many connections streams are));
    }

pub returns : goal.returns
returns g c = IfOk-weaker c.settle.result _ _ (λ settled done.
    settled-as _ _ c.args.division.now.some_groups c.args.connections.now c.as_slice-streams.result.now
    c.as_slice.result.now _ settled (c.as_slice.ensures.value ∙ c.in_ok-plan.ensures.plan)
    (c.as_slice-2.ensures.value ∙ c.in_ok-stops.ensures)
    (rw c.as_slice-streams.ensures.value c.in_ok-streams.ensures) done) c.settle.ensures.settled
