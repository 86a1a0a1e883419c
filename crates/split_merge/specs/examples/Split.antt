-- Worked examples: frames by stream, streams that are quiet, groups of what there is, what a merge of findings ends
-- with.
use Rattle.std.specs.Prelude.{◌≡◌, ℕ, ◌*◌, pos, true, false, List, [], ◌∷◌, ◌++◌}
use Rattle.audit_terms.specs.declared.sides.Side.{Side}
use Rattle.audit_terms.specs.declared.sides.Side.TheVariants.{Client, Server}
use Rattle.audit_terms.specs.declared.frames.Body.{Body}
use Rattle.audit_terms.specs.declared.frames.Body.TheVariants.{Content, Headers, PushPromise, WindowUpdate}
use Rattle.audit_terms.specs.declared.frames.Frame.{Frame}
use Rattle.audit_terms.specs.declared.findings.Finding.{Finding}
use Rattle.audit_terms.specs.declared.kinds.Kind.TheVariants.{NotOpened, ConnectionOverflow, ConnectionCredit}
use Rattle.audit_terms.specs.declared.kinds.Kind.TheVariants.{StreamCredit}
use Rattle.audit_terms.specs.Finding.{finding_at, in_order, shown, upto_stop}
use Rattle.audit_terms.specs.Pass.{streams_of}
use Rattle.audit_terms.specs.code.runs.Streams.{frames_of, stream_run}
use Rattle.split_merge.specs.code.Split.{opening_of, positions_of}
use Rattle.split_merge.specs.code.Groups.{groups}

abbrev frame : Side → (number code stream : ℕ) → Body → Frame
frame side number code stream body = record {
  number = number;
  side = side;
  rec = number;
  nanos = number * 1000;
  code = code;
  flags = 4;
  stream = stream;
  length = 0;
  body = body;
}

-- two requests, grants on a stream that was never opened and on the connection, DATA on another stream
abbrev four_streams : List Frame
four_streams =
    frame Client 5 1 1 Headers ∷ frame Client 6 1 3 Headers ∷ frame Server 7 8 9 (WindowUpdate 1)
    ∷ frame Server 8 8 0 (WindowUpdate 2147418113) ∷ frame Client 9 0 11 Content ∷ []

-- each stream other than 0, in order of first frames, and a promise with both its streams
abbrev promised : List Frame
promised = frame Client 5 1 1 Headers ∷ frame Server 6 5 1 (PushPromise 2) ∷ frame Server 7 0 2 Content ∷ []

pub record SplitsByStream : Type 0 where
  pub four : streams_of four_streams ≡ 1 ∷ 3 ∷ 9 ∷ 11 ∷ []
  pub last : positions_of 11 four_streams ≡ 4 ∷ []
  pub both : streams_of promised ≡ 1 ∷ 2 ∷ []
  pub own : positions_of 1 promised ≡ 0 ∷ 1 ∷ []
  pub pushed : positions_of 2 promised ≡ 1 ∷ 2 ∷ []

abbrev not_opened : Finding
not_opened = finding_at NotOpened 7 9 Server (pos 8)

-- nothing is shown of stream 3 but its credits, and a frame opens it; stream 9 has something shown, and is never opened
pub record TellsQuietStreams : Type 0 where
  pub quiet : shown false (stream_run 3 (frames_of 3 four_streams) []) ≡ []
  pub credits : shown true (stream_run 3 (frames_of 3 four_streams) [])
      ≡ finding_at StreamCredit 6 3 Client (pos 65535) ∷ finding_at StreamCredit 6 3 Server (pos 65535) ∷ []
  pub opened : opening_of four_streams [] 3 ≡ 6 ∷ []
  pub pushed : opening_of promised [] 2 ≡ 6 ∷ []
  pub loud : shown false (stream_run 9 (frames_of 9 four_streams) []) ≡ not_opened ∷ []
  pub never : opening_of four_streams [] 9 ≡ []

-- as many groups as asked for, or one for each of what there is
pub record GroupsOfFour : Type 0 where
  pub three : groups 4 3 ≡ (0, 1) ∷ (1, 2) ∷ (2, 4) ∷ []
  pub many : groups 4 1024 ≡ (0, 1) ∷ (1, 2) ∷ (2, 3) ∷ (3, 4) ∷ []
  pub none : groups 0 5 ≡ []

abbrev overflow : Finding
overflow = finding_at ConnectionOverflow 8 0 Client (pos 2147483648)

abbrev credit : Finding
credit = finding_at ConnectionCredit 6 0 Client (pos 65000)

-- the list that comes first has an error at frame 8; the report ends with the other's, at frame 7
abbrev pub CutsAtFirstReportedError : Type 0
CutsAtFirstReportedError =
    upto_stop (in_order ((overflow ∷ []) ++ (credit ∷ not_opened ∷ []))) ≡ credit ∷ not_opened ∷ []
