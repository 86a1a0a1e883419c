-- How much a batch of connections has: so few frames that the jobs of each of its rounds are fewer than 2^32.
use Rattle.std.specs.Prelude.{◌^◌, ◌≤◌, List, length}
use Rattle.std.specs.List.{sum_by}
use denote.Ref.{Bor}
use Rattle.audit_terms.specs.declared.frames.Frame.{Frame}
use Rattle.audit_rounds.specs.declared.connection_streams.Streams.{Streams}
use Rattle.audit_rounds.specs.declared.per_connection.PerConnection.{PerConnection}

-- the frames of connections in the rounds, all together
abbrev pub AreFew : List (Bor (List Frame)) → Type 0
AreFew connections = sum_by (λ (frames : Bor (List Frame)). length frames.now) connections ≤ 2 ^ 28

-- the same of connections in the rounds
abbrev pub FramesAreFew : List PerConnection → Type 0
FramesAreFew connections = sum_by (λ (one : PerConnection). length one.prepared.frames.now) connections ≤ 2 ^ 28

-- the rows of connections: each frame is of at most two streams
abbrev pub RowsAreFew : List Streams → Type 0
RowsAreFew connections = sum_by (λ (one : Streams). length one.of.now.split.rows.items) connections ≤ 2 ^ 29
