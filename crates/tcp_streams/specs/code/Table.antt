-- The table that says which connection a segment belongs to, against the past that it has seen. No public clause cites
-- these, but those on a stage (`Opened`).
use Rattle.std.specs.Prelude.{◌≡◌, ℕ, ◌+◌, ◌<◌, ◌^◌, true, false, if◌then◌else◌, List, [], ◌∷◌, ◌++◌, length, map}
use Rattle.std.specs.Prelude.{Option, None, Some, slice_get}
use Rattle.std.specs.List.{AllZip, list_any}
use Rattle.std.specs.Option.{option_or}
use Rattle.packet_heads.specs.declared.packets.Segment.{Segment}
use Rattle.tcp_streams.specs.declared.members.Connection.{Connection}
use Rattle.tcp_streams.specs.declared.members.Stray.{Stray}
use Rattle.tcp_streams.specs.declared.pair.Pair.{Pair}
use Rattle.tcp_streams.specs.declared.standings.Standing.{Standing}
use Rattle.tcp_streams.specs.declared.standings.Standing.TheVariants.{Unopened, Opened}
use Rattle.tcp_streams.specs.declared.table.Opener.{Opener}
use Rattle.tcp_streams.specs.declared.table.Table.{Table}
use Rattle.tcp_streams.specs.declared.table.Turn.{Turn}
use Rattle.tcp_streams.specs.declared.table.Turn.TheVariants.{Opens, Joins, Counts, Begins}
use Rattle.tcp_streams.specs.code.Standings.{standing_of}
use Rattle.tcp_streams.specs.code.Pairs.{is_of, pair_of}
use Rattle.tcp_streams.specs.code.Past.{Membership, answers, connection_of, first_strays, last_opening, membership}
use Rattle.tcp_streams.specs.code.Past.{openings, opens, stray_of, strays}

-- who opens a connection by this segment
abbrev pub opener_of : Segment → Opener
opener_of s = record { client = s.from; number = s.seq }

-- the connection with one more segment
abbrev pub joined : Membership → Segment → Membership
joined c s = record {
  client = c.client;
  server = c.server;
  rec = c.rec;
  client_isn = c.client_isn;
  server_isn = option_or c.server_isn (if answers c.client s then Some s.seq else None);
  members = c.members ++ s.rec ∷ [];
}

-- the first stray of a pair, and one more of it
abbrev pub first_stray : Segment → Stray
first_stray s = record { from = s.from; to = s.to; segments = 1 }

abbrev pub counted : Stray → Stray
counted t = record { from = t.from; to = t.to; segments = t.segments + 1 }

-- nothing is known of the pair
pub record IsUnknown (past : List Segment) (p : Pair) : Type 0 where
  pub unopened : last_opening p past ≡ None
  pub no_stray : list_any (is_of p) (strays past) ≡ false

-- the pair has strays and no opening; its first stray stands at k
pub record IsUnopened (past : List Segment) (p : Pair) (k : ℕ) : Type 0 where
  pub unopened : last_opening p past ≡ None
  pub some_stray : list_any (is_of p) (strays past) ≡ true
  pub first : Segment
  pub at : slice_get (first_strays past) k ≡ Some first
  pub of_pair : is_of p first ≡ true

-- the pair's last opening stands at k
pub record IsOpened (past : List Segment) (p : Pair) (k : ℕ) : Type 0 where
  pub last : Segment
  pub opened : last_opening p past ≡ Some last
  pub at : slice_get (openings past) k ≡ Some last

-- what the table says of the pair is so
abbrev pub Stands : List Segment → Pair → Option Standing → Type 0
Stands past p None = IsUnknown past p
Stands past p (Some (Unopened k)) = IsUnopened past p k
Stands past p (Some (Opened k)) = IsOpened past p k

-- the parts of a table show this past
pub record IsShown
    (past : List Segment) (standing : Pair → Option Standing) (openers : List Opener) (found : List Stray)
    : Type 0 where
  pub openers_are : openers ≡ map opener_of (openings past)
  pub strays_are : found ≡ map (stray_of (strays past)) (first_strays past)
  pub stands : (p : Pair) → Stands past p (standing p)

-- the table shows this past
abbrev pub IsTableOf : List Segment → Table → Type 0
IsTableOf past t = IsShown past (standing_of t.standings) t.openers.items t.strays.items

-- the records fall along the past, from below n
abbrev pub RecordsDescend : ℕ → List Segment → Type 0
RecordsDescend n [] = Unit {0}
RecordsDescend n (s ∷ earlier) = (s.rec < n) × RecordsDescend s.rec earlier

-- the table shows some past, with room for one more segment to be counted
abbrev pub HasPast : Table → Type 0
HasPast t = (past : List Segment) × IsTableOf past t × (length past + 1 < 2 ^ 32)

-- these are the connections of the past, in order of opening
abbrev pub AreConnectionsOf : List Segment → List Connection → Type 0
AreConnectionsOf past found =
    AllZip (λ (o : Segment) (c : Connection). membership c ≡ connection_of past o) (openings past) found

-- what a segment does to a table of this past
abbrev pub IsTurn : List Segment → Segment → Turn → Type 0
IsTurn past s Opens = opens s past ≡ true
IsTurn past s (Joins k) = (opens s past ≡ false) × IsOpened past (pair_of s) k
IsTurn past s (Counts k) = (opens s past ≡ false) × IsUnopened past (pair_of s) k
IsTurn past s Begins = (opens s past ≡ false) × IsUnknown past (pair_of s)
