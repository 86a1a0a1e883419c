-- Every kind of finding with its rank and the word that a report prints.
use Rattle.std.specs.Prelude.{◌≡◌, ℕ, Bool, List, [], ◌∷◌, map, filter, codes}
use Rattle.audit_terms.specs.declared.kinds.Kind.{Kind}
use Rattle.audit_terms.specs.declared.kinds.Kind.TheVariants.{BadPreface, BrokenBlock, TooLong, WrongStream, WrongSize}
use Rattle.audit_terms.specs.declared.kinds.Kind.TheVariants.{BadPadding, BadSetting, Push, NotOpened, IdNotGreater}
use Rattle.audit_terms.specs.declared.kinds.Kind.TheVariants.{ZeroConnectionGrant, ConnectionOverflow, SettingOverflow}
use Rattle.audit_terms.specs.declared.kinds.Kind.TheVariants.{LongFrame, AfterEnd, ConnectionOverrun, StreamOverrun}
use Rattle.audit_terms.specs.declared.kinds.Kind.TheVariants.{ZeroStreamGrant, StreamOverflow, UnmatchedAck}
use Rattle.audit_terms.specs.declared.kinds.Kind.TheVariants.{BadPriority, ConnectionStallEnd, ConnectionStallBegin}
use Rattle.audit_terms.specs.declared.kinds.Kind.TheVariants.{StreamStallEnd, StreamStallBegin, ConnectionCredit}
use Rattle.audit_terms.specs.declared.kinds.Kind.TheVariants.{StreamCredit}
use Rattle.audit_terms.specs.Kind.{rank_of, is_connection_error, is_fault, begins_stall, ends_stall, is_credit}
use Rattle.audit_terms.specs.Kind.{kind_name}

-- a row of the table
pub record KindRow : Type 0 where
  pub kind : Kind
  pub rank : ℕ
  pub name : List ℕ

abbrev row : Kind → ℕ → List ℕ → KindRow
row kind rank name = record { kind = kind; rank = rank; name = name }

-- the table: connection errors, other faults, stalls, credits
abbrev pub kind_table : List KindRow
kind_table =
    row BadPreface 0 (codes "bad-preface")
    ∷ row BrokenBlock 1 (codes "broken-block")
    ∷ row TooLong 2 (codes "too-long")
    ∷ row WrongStream 3 (codes "wrong-stream")
    ∷ row WrongSize 4 (codes "wrong-size")
    ∷ row BadPadding 5 (codes "bad-padding")
    ∷ row BadSetting 6 (codes "bad-setting")
    ∷ row Push 7 (codes "push")
    ∷ row NotOpened 8 (codes "not-opened")
    ∷ row IdNotGreater 9 (codes "id-not-greater")
    ∷ row ZeroConnectionGrant 10 (codes "zero-connection-grant")
    ∷ row ConnectionOverflow 11 (codes "connection-overflow")
    ∷ row SettingOverflow 12 (codes "setting-overflow")
    ∷ row LongFrame 13 (codes "long-frame")
    ∷ row AfterEnd 14 (codes "after-end")
    ∷ row ConnectionOverrun 15 (codes "connection-overrun")
    ∷ row StreamOverrun 16 (codes "stream-overrun")
    ∷ row ZeroStreamGrant 17 (codes "zero-stream-grant")
    ∷ row StreamOverflow 18 (codes "stream-overflow")
    ∷ row UnmatchedAck 19 (codes "unmatched-ack")
    ∷ row BadPriority 20 (codes "bad-priority")
    ∷ row ConnectionStallEnd 21 (codes "connection-stall-end")
    ∷ row ConnectionStallBegin 22 (codes "connection-stall-begin")
    ∷ row StreamStallEnd 23 (codes "stream-stall-end")
    ∷ row StreamStallBegin 24 (codes "stream-stall-begin")
    ∷ row ConnectionCredit 25 (codes "connection-credit")
    ∷ row StreamCredit 26 (codes "stream-credit") ∷ []

-- ranks and names are those of the table
abbrev pub KindsAreTabled : Type 0
KindsAreTabled =
    map (λ (one : KindRow). row one.kind (rank_of one.kind) (kind_name one.kind)) kind_table ≡ kind_table

-- the ranks of the kinds of the table that pass a test
abbrev pub ranks_where : (Kind → Bool) → List ℕ
ranks_where test = map (λ (one : KindRow). one.rank) (filter (λ (one : KindRow). test one.kind) kind_table)

-- which kinds are errors of the connection and which are faults; which tell of stalls and of credit
abbrev pub ErrorKinds : Type 0
ErrorKinds = ranks_where is_connection_error ≡ 0 ∷ 1 ∷ 2 ∷ 3 ∷ 4 ∷ 5 ∷ 6 ∷ 7 ∷ 8 ∷ 9 ∷ 10 ∷ 11 ∷ 12 ∷ []

abbrev pub FaultKinds : Type 0
FaultKinds =
    ranks_where is_fault
    ≡ 0 ∷ 1 ∷ 2 ∷ 3 ∷ 4 ∷ 5 ∷ 6 ∷ 7 ∷ 8 ∷ 9 ∷ 10 ∷ 11 ∷ 12 ∷ 13 ∷ 14 ∷ 15 ∷ 16 ∷ 17 ∷ 18 ∷ 19 ∷ 20 ∷ []

abbrev pub StallEndKinds : Type 0
StallEndKinds = ranks_where ends_stall ≡ 21 ∷ 23 ∷ []

abbrev pub StallBeginKinds : Type 0
StallBeginKinds = ranks_where begins_stall ≡ 22 ∷ 24 ∷ []

abbrev pub CreditKinds : Type 0
CreditKinds = ranks_where is_credit ≡ 25 ∷ 26 ∷ []
