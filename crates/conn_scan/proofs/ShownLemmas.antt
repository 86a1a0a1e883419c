-- A clear block shows connection credit alone.
use Rattle.conn_scan.proofs.Terms.{◌||◌, ◌%◌, ◌==◌, is_server_promise, promised_in, is_opened_by_headers, nat_lt, ◌≡◌}
use Rattle.conn_scan.proofs.Terms.{ℕ, ◌≤◌, ℤ, pos, int_lt, nat_le, Bool, true, false, ◌&&◌, List, [], ◌∷◌, refl, arith}
use Rattle.conn_scan.proofs.Terms.{AllByRecursion, list_all, ints, nat_tests, Side, Client, Server, ConnectionState}
use Rattle.conn_scan.proofs.Terms.{Item, Frame, Finding, largest_window, is_used_up, overflows, overruns, new_limit}
use Rattle.conn_scan.proofs.Terms.{in_order, shown, credit_after, connection_window_said, connection_said}
use Rattle.conn_scan.proofs.Terms.{connection_after, block_run, each-append, each-in_order, each-said, length_by}
use Rattle.conn_scan.proofs.Terms.{longest_by, connections, is_usable, keeps_credit, grants_something, openings_rise}
use Rattle.conn_scan.proofs.Terms.{promises_allowed, promises_rise, not_above, content_by, grants_nothing}
use Rattle.std.proofs.lemmas.Bool.{and_parts, or_parts, not-true, and_right}
use Rattle.audit_terms.specs.declared.kinds.Kind.TheVariants.{ConnectionCredit}
use Rattle.audit_terms.specs.Side.{other, is_side}
use Rattle.audit_terms.specs.Sides.{side_of}
use Rattle.conn_scan.specs.laws.Clear.{ClearShowsCredit}
use Rattle.conn_scan.proofs.ClearLemmas.{not_most, usable_parts}

abbrev IsCredit : Finding → Type 0
IsCredit found = found.kind ≡ ConnectionCredit

abbrev Only : List Finding → Type 0
Only = AllByRecursion IsCredit

hidden : (found : List Finding) → Only found → shown false found ≡ []
hidden [] h = refl
hidden (x ∷ found) h = rw h.0 (hidden found h.1)

-- ---- windows

-- a frame that carries content of side d grants nothing to d
one_side : (d s : Side) → (is_side (other d) s && is_side d s) ≡ false
one_side Client Client = refl
one_side Client Server = refl
one_side Server Client = refl
one_side Server Server = refl

window_only : (d : Side) (before : ℤ) (frame : Frame) → is_usable before ≡ true
    → is_usable (credit_after d before frame) ≡ true → grants_nothing d 0 frame ≡ false
    → Only (connection_window_said d before frame)
window_only d before frame entry left grants =
    let after = credit_after d before frame in
    let some = (usable_parts before entry).0 in
    let kept = usable_parts after left in
    let overflow : overflows before after ≡ false =
    and_right (int_lt before after) (int_lt largest_window after) (not_above largest_window after kept.1) in
    let overrun : overruns before (content_by d frame) ≡ false =
    grind (arith, ints, nat_tests, kept.0, one_side d frame.side) in
    let full : is_used_up before ≡ false = not_most before (pos 0) some in
    let still : is_used_up after ≡ false = not_most after (pos 0) kept.0 in
    rw (grants, overflow, overrun, full, still) (each-said IsCredit _ _ refl)

-- ---- an item

-- the limit after an item bounds the frame of its side
length_kept : (d : Side) (now : ConnectionState) (item : Item) (longest : ℕ) → item.frame.side ≡ d
    → length_by d item.frame ≤ longest → nat_le longest (side_of d (connection_after now item).limit) ≡ true
    → nat_lt (new_limit item.change d (side_of d now.limit)) item.frame.length ≡ false
length_kept Client now item longest side short kept = grind (arith, nat_tests)
length_kept Server now item longest side short kept = grind (arith, nat_tests)

-- what clears the items from one on, where no frame of a side is longer than its bound
record Clears (longest : Side → ℕ) (now : ConnectionState) (items : List Item) : Type 0 where
  credit : (d : Side) → keeps_credit d now items ≡ true
  grants : grants_something now items ≡ true
  openings : openings_rise now items ≡ true
  allowed : promises_allowed now items ≡ true
  promises : promises_rise now items ≡ true
  limit : (d : Side)
      → list_all (λ (at : ConnectionState). nat_le (longest d) (side_of d at.limit)) (connections now items) ≡ true
  short : (d : Side) → longest_by d items ≤ longest d

-- a test that holds at each connection holds at the first
at_first : (test : ConnectionState → Bool) (now : ConnectionState) (items : List Item)
    → list_all test (connections now items) ≡ true → test now ≡ true
at_first test now [] h = (and_parts (test now) true h).0
at_first test now (item ∷ items) h = (and_parts (test now) _ h).0

module _ (longest : Side → ℕ) (now : ConnectionState) (item : Item) (items : List Item)
    (h : Clears longest now (item ∷ items)) where
  rest_clear : Clears longest (connection_after now item) items
  rest_clear = record {
    credit = λ d. (and_parts _ _ (h.credit d)).1;
    grants = (and_parts _ _ h.grants).1;
    openings = (and_parts _ _ h.openings).1;
    allowed = (and_parts _ _ h.allowed).1;
    promises = (and_parts _ _ h.promises).1;
    limit = λ d. (and_parts _ _ (h.limit d)).1;
    short = λ d. let short = h.short d in omega arith;
  }

  item_only : Only (connection_said now item)
  item_only =
      let after = connection_after now item in
      let d = item.frame.side in
      let short = h.short item.frame.side in
      let length = length_kept d now item (longest d) refl (omega arith)
      (at_first (λ (at : ConnectionState). nat_le (longest d) (side_of d at.limit)) after items (rest_clear.limit d)) in
      let grants = or_parts (grants_nothing Client 0 item.frame) (grants_nothing Server 0 item.frame)
      (not-true _ (and_parts _ _ h.grants).0) in
      let client = at_first (λ (at : ConnectionState). is_usable at.credit.client) after items
      (rest_clear.credit Client) in
      let server = at_first (λ (at : ConnectionState). is_usable at.credit.server) after items
      (rest_clear.credit Server) in
      let allowed : is_server_promise item.frame && (now.push == 0) ≡ false =
      not-true _ (and_parts _ _ h.allowed).0 in
      let opening : is_opened_by_headers item && nat_le item.frame.stream now.opened ≡ false =
      not-true _ (and_parts _ _ h.openings).0 in
      let promise : is_server_promise item.frame
      && ((promised_in item.frame.body % 2 == 1) || nat_le (promised_in item.frame.body) now.promised) ≡ false =
      not-true _ (and_parts _ _ h.promises).0 in
      rw (length, allowed, opening, promise)
      (each-append IsCredit _ _
      (window_only Client now.credit.client item.frame (and_parts _ _ (h.credit Client)).0 client grants.0)
      (window_only Server now.credit.server item.frame (and_parts _ _ (h.credit Server)).0 server grants.1))

items_only : (longest : Side → ℕ) (now : ConnectionState) (items : List Item) → Clears longest now items
    → Only (block_run now items)
items_only longest now [] h = tt
items_only longest now (item ∷ items) h =
    each-append IsCredit (in_order (connection_said now item)) (block_run (connection_after now item) items)
    (each-in_order IsCredit (connection_said now item) (item_only longest now item items h))
    (items_only longest (connection_after now item) items (rest_clear longest now item items h))

pub clear_shows_credit : ClearShowsCredit
clear_shows_credit now items e =
    let (credit_and_streams, promises_and_lengths) = and_parts _ _ e in
    let (credits, streams) = and_parts _ _ credit_and_streams in
    let (promises, lengths) = and_parts _ _ promises_and_lengths in
    let credit = and_parts _ _ credits in
    let stream = and_parts _ _ streams in
    let promise = and_parts _ _ promises in
    let length = and_parts _ _ lengths in
    let only = items_only (λ d. longest_by d items) now items record {
      credit = elim [ Client ↦ credit.0 | Server ↦ credit.1 ];
      grants = stream.0;
      openings = stream.1;
      allowed = promise.0;
      promises = promise.1;
      limit = elim [ Client ↦ length.0 | Server ↦ length.1 ];
      short = λ d. omega arith;
    } in
    (only, hidden (block_run now items) only)
