-- A connection in the rounds: what holds of it as they begin, and after the round over streams.
use Rattle.std.specs.Prelude.{◌≡◌, Bool, List, [], map}
use Rattle.audit_terms.specs.declared.items.Item.{Item}
use Rattle.audit_terms.specs.code.Stops.{IsFirstStop}
use Rattle.split_merge.specs.code.Findings.{findings_in}
use Rattle.conn_scan.specs.code.Items.{items_with}
use Rattle.stop_desk.specs.code.Stop.{IsStop}
use Rattle.audit_rounds.specs.declared.per_connection.PerConnection.{PerConnection}
use Rattle.audit_rounds.specs.declared.prepared.Prepared.{Prepared}
use Rattle.audit_rounds.specs.code.Prepared.{IsPrepared, found_before}
use Rattle.audit_rounds.specs.code.Within.{IsAfterStreams, frames_within}

-- what never changes of connections
abbrev pub prepared_of : List PerConnection → List Prepared
prepared_of connections = map (λ (one : PerConnection). one.prepared) connections

-- it is prepared, and of it is known what is found before the rounds
pub record BeginsRounds (frames_shown : Bool) (one : PerConnection) : Type 0 where
  pub prepared : IsPrepared frames_shown one.prepared
  pub found : findings_in one.found ≡ found_before one.prepared
  pub stop : IsFirstStop (findings_in one.found) one.stop
  pub none_opened : one.opened.items ≡ []

-- it is known what the round over streams leaves
pub record IsThroughStreams (frames_shown : Bool) (one : PerConnection) : Type 0 where
  pub prepared : IsPrepared frames_shown one.prepared
  pub after : IsAfterStreams frames_shown one.prepared.frames.now (findings_in one.found) one.stop one.opened.items
  pub place : IsStop one.stop

-- the items that are left: those of the frames up to the stop, with the openings that are known and all changes
abbrev pub rest_of : PerConnection → List Item
rest_of one =
    items_with one.opened.items one.prepared.changes.items (frames_within one.stop one.prepared.frames.now)

-- those of each connection
abbrev pub wholes : List PerConnection → List (List Item)
wholes connections = map rest_of connections
