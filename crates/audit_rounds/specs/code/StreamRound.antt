-- The round over streams: what settles, and what is left of connections after it.
use Rattle.std.specs.Global.{Global}
use Rattle.std.specs.Prelude.{◌≡◌, ℕ, ◌<◌, Bool, All, List, Option, Vec, length, map}
use Rattle.stop_desk.specs.declared.{parts.Part.Part, settling.Settled.Settled}
use Rattle.stop_desk.specs.code.Settling.{HasSettled}
use Rattle.audit_rounds.specs.declared.per_connection.PerConnection.{PerConnection}
use Rattle.audit_rounds.specs.declared.connection_streams.Streams.{Streams}
use Rattle.audit_rounds.specs.code.PerConnection.{IsThroughStreams, prepared_of}
use Rattle.audit_rounds.specs.code.StreamJobs.{Makes, job_of, plan_from}

-- the streams of each connection
pub record AreStreamsOf (connections : List PerConnection) (all : List Streams) : Type 0 where
  pub of : map (λ (streams : Streams). streams.of.now) all ≡ prepared_of connections
  pub changes : All (λ (streams : Streams). streams.changes ≡ streams.of.now.changes.items) all

-- the round over the streams of connections, in so many groups of each at most, is settled
pub record StreamsHaveSettled (frames_shown : Bool) (groups : ℕ) (connections : List PerConnection)
    (settled : Settled (Vec ℕ Global)) : Type 0 where
  pub streams : List Streams
  pub of : AreStreamsOf connections streams
  pub done : HasSettled (λ (job : ℕ) (upto : Option ℕ) (made : Vec ℕ Global). Makes streams (plan_from groups 0 streams)
      job upto made.items)
      (map (job_of frames_shown streams) (plan_from groups 0 streams))
      (map (λ (one : PerConnection). one.stop) connections) settled
  pub inside : All (λ (part : Part (Vec ℕ Global)). part.connection < length connections) settled.parts.items

-- the connections after it are those before it
pub record AreThroughStreams (frames_shown : Bool) (before after : List PerConnection) : Type 0 where
  pub same : prepared_of after ≡ prepared_of before
  pub each : All (IsThroughStreams frames_shown) after
