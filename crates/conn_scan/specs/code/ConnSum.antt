-- All that a list of items does to its connection.
use Rattle.std.specs.Prelude.{max, unwrap_or, List, map}
use Rattle.audit_terms.specs.declared.connection_state.ConnectionState.{ConnectionState}
use Rattle.audit_terms.specs.declared.frames.Frame.{Frame}
use Rattle.audit_terms.specs.declared.items.Item.{Item}
use Rattle.audit_terms.specs.Connection.{credit_moved}
use Rattle.audit_terms.specs.Sides.{side_of, each_side}
use Rattle.conn_scan.specs.declared.sums.ConnSum.{ConnSum}
use Rattle.conn_scan.specs.code.Credit.{credit_change, credit_of, no_change, credit_join, credit_met, credit_advance}
use Rattle.conn_scan.specs.code.Rising.{present, rising_of, no_identifier, rising_join, rising_met}
use Rattle.conn_scan.specs.code.Ids.{opened_id, promise_of, promised_id}
use Rattle.conn_scan.specs.code.Latest.{latest_of, no_item, latest_join, latest_seen, latest_marked, latest_met}

-- the summary of some items: what they do to each side's credit, which streams they open, what they bring into force
abbrev pub conn_sum_of : List Item → ConnSum
conn_sum_of items = record {
  credit = each_side (λ d. credit_of (map (credit_change d) items));
  opened = rising_of (present (map opened_id items));
  promised = rising_of (present (map promised_id items));
  latest = latest_of items;
}

abbrev pub conn_none : ConnSum
conn_none = record {
  credit = each_side (λ _. no_change);
  opened = no_identifier;
  promised = no_identifier;
  latest = no_item;
}

-- a summary, and then the length of a frame, what it moves, and whether it grants 0
abbrev pub conn_counted : ConnSum → Frame → ConnSum
conn_counted a frame = record a {
  credit = each_side (λ d. credit_met (side_of d a.credit) (credit_moved d frame));
  latest = latest_seen a.latest frame;
}

-- a summary, and then a promise of the server, if the frame is one
abbrev pub conn_promised : ConnSum → Frame → ConnSum
conn_promised a frame = record a {
  promised = rising_met a.promised (promise_of frame);
  latest = latest_marked a.latest frame;
}

-- the items of a summary, and then one more
abbrev pub conn_met : ConnSum → Item → ConnSum
conn_met a item = record {
  credit = each_side (λ d. credit_met (side_of d a.credit) (credit_change d item));
  opened = rising_met a.opened (opened_id item);
  promised = rising_met a.promised (promised_id item);
  latest = latest_met a.latest item;
}

abbrev pub conn_one : Item → ConnSum
conn_one = conn_met conn_none

-- the items of one summary, and then those of another
abbrev pub conn_join : ConnSum → ConnSum → ConnSum
conn_join a b = record {
  credit = each_side (λ d. credit_join (side_of d a.credit) (side_of d b.credit));
  opened = rising_join a.opened b.opened;
  promised = rising_join a.promised b.promised;
  latest = latest_join a.latest b.latest;
}

-- the connection after the items of a summary
abbrev pub conn_advance : ConnectionState → ConnSum → ConnectionState
conn_advance now items = record {
  credit = each_side (λ d. credit_advance (side_of d now.credit) (side_of d items.credit));
  opened = max now.opened items.opened.greatest;
  promised = max now.promised items.promised.greatest;
  push = unwrap_or items.latest.push now.push;
  limit = each_side (λ d. unwrap_or (side_of d items.latest.limit) (side_of d now.limit));
}
