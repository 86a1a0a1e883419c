-- What clears a block of items: it then shows nothing but connection credit (RFC 9113, 4.2, 5.1.1, 6.9, 8.4).
use Rattle.std.specs.Prelude.{ℤ, pos, ◌%◌, Bool, true, ◌==◌, ◌&&◌, ◌||◌, not, nat_le, int_lt, int_le, List, [], ◌∷◌}
use Rattle.std.specs.List.{list_all}
use Rattle.audit_terms.specs.declared.sides.Side.{Side}
use Rattle.audit_terms.specs.declared.sides.Side.TheVariants.{Client, Server}
use Rattle.audit_terms.specs.declared.connection_state.ConnectionState.{ConnectionState}
use Rattle.audit_terms.specs.declared.items.Item.{Item}
use Rattle.audit_terms.specs.Sides.{side_of}
use Rattle.audit_terms.specs.Frame.{is_server_promise, promised_in}
use Rattle.audit_terms.specs.Window.{largest_window}
use Rattle.audit_terms.specs.Connection.{is_opened_by_headers, connection_after}
use Rattle.conn_scan.specs.code.Latest.{grants_zero, longest_by}

-- the connection on entry, and after every item
abbrev pub connections : ConnectionState → List Item → List ConnectionState
connections now [] = now ∷ []
connections now (item ∷ items) = now ∷ connections (connection_after now item) items

-- credit above 0, and at most the largest window (6.9.1)
abbrev pub is_usable : ℤ → Bool
is_usable credit = int_lt (pos 0) credit && int_le credit largest_window

-- the credit of side d is usable on entry and after every item
abbrev pub keeps_credit : Side → ConnectionState → List Item → Bool
keeps_credit d now items =
    list_all (λ (at : ConnectionState). is_usable (side_of d at.credit)) (connections now items)

-- the longest frame of side d is at most its limit on entry and after every item (4.2)
abbrev pub keeps_length : Side → ConnectionState → List Item → Bool
keeps_length d now items =
    list_all (λ (at : ConnectionState). nat_le (longest_by d items) (side_of d at.limit)) (connections now items)

-- a test of an item and the connection before it holds of no item
abbrev pub at_none : (ConnectionState → Item → Bool) → ConnectionState → List Item → Bool
at_none test now [] = true
at_none test now (item ∷ items) = not (test now item) && at_none test (connection_after now item) items

-- no increment of 0 on stream 0 (6.9)
abbrev pub grants_something : ConnectionState → List Item → Bool
grants_something = at_none (λ now item. grants_zero item.frame)

-- each stream that HEADERS of the client open is above all that it opened before (5.1.1)
abbrev pub openings_rise : ConnectionState → List Item → Bool
openings_rise = at_none (λ now item. is_opened_by_headers item && nat_le item.frame.stream now.opened)

-- no promise of the server while the client takes none (8.4)
abbrev pub promises_allowed : ConnectionState → List Item → Bool
promises_allowed = at_none (λ now item. is_server_promise item.frame && (now.push == 0))

-- each stream that the server promises is even, and above all even ones that it promised before, so not 0 (5.1.1)
abbrev pub promises_rise : ConnectionState → List Item → Bool
promises_rise = at_none (λ now item.
    is_server_promise item.frame
    && ((promised_in item.frame.body % 2 == 1) || nat_le (promised_in item.frame.body) now.promised))

abbrev pub is_clear : ConnectionState → List Item → Bool
is_clear now items =
    ((keeps_credit Client now items && keeps_credit Server now items)
    && (grants_something now items && openings_rise now items))
    && ((promises_allowed now items && promises_rise now items)
    && (keeps_length Client now items && keeps_length Server now items))
