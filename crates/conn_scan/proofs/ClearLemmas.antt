-- What the summary of a block tells is what its items do.
use Rattle.conn_scan.proofs.Terms.{◌≡◌, ℕ, max, ◌%◌, ℤ, pos, not, ◌∷◌, map, None, refl, ints, Side, Item, high, low}
use Rattle.conn_scan.proofs.Terms.{neg_ℤ, least_limit, conn_sum_of, connections, high-signed, length_clear, promised_in}
use Rattle.conn_scan.proofs.Terms.{◌+ℤ◌, nat_tests, new_limit, credit_change, credit_of, longest_by, low-signed}
use Rattle.conn_scan.proofs.Terms.{push_clear}
use Rattle.conn_scan.proofs.Terms.{◌-ℤ◌, Bool, true, false, ◌&&◌, ◌||◌, ◌==◌, ◌<ℤ◌, ◌≤ℤ◌, List, [], Some, arith}
use Rattle.conn_scan.proofs.Terms.{lesser_limit}
use Rattle.conn_scan.proofs.Terms.{nat_le, connection_after, some_early_promise, some_barred_promise, is_server_promise}
use Rattle.conn_scan.proofs.Terms.{int_lt, int_le, Option, int_min, clamps, by_lt_z, Client, Server, push_in, is_zero}
use Rattle.conn_scan.proofs.Terms.{if◌then◌else◌, ConnectionState, some_odd_promise, grants_something, promises_allowed}
use Rattle.conn_scan.proofs.Terms.{list_all, limit_in, latest_of, is_usable, is_clear, ids_clear, is_within, sum_clear}
use Rattle.conn_scan.proofs.Terms.{int_max, largest_window, some_zero_grant, openings_rise, promises_rise, credit_clear}
use Rattle.std.specs.Prelude.{unwrap_or, is_none}
use Rattle.std.proofs.Common.{inl, inr}
use Rattle.std.proofs.lemmas.Bool.{cases_Bool}
use Rattle.conn_scan.specs.code.Rising.{present, rising_of}
use Rattle.conn_scan.specs.code.Ids.{opened_id, promised_id}
use Rattle.conn_scan.specs.code.LatestLaws.{limit_is, push_is}

-- ---- credit

pub not_most : (a b : ℤ) → b <ℤ a → int_le a b ≡ false
not_most a b h = grind (arith, ints)

pub usable_parts : (c : ℤ) → is_usable c ≡ true → (pos 0 <ℤ c) × (c ≤ℤ largest_window)
usable_parts c e = (grind (arith, ints), grind (arith, ints))

-- at a usable credit, what holds of the least and the greatest credit that later changes reach holds of all three
low_same : (c x l : ℤ) → pos 0 <ℤ c → int_lt (neg_ℤ (c +ℤ x)) l ≡ int_lt (neg_ℤ c) (int_min (pos 0) (x +ℤ l))
low_same c x l p = grind (arith, ints, clamps)

high_same : (c x h : ℤ) → c ≤ℤ largest_window
    → int_le h (largest_window -ℤ (c +ℤ x)) ≡ int_le (int_max (pos 0) (x +ℤ h)) (largest_window -ℤ c)
high_same c x h p =
    by_lt_z (largest_window -ℤ (c +ℤ x)) h (λ q. grind (arith, ints, clamps)) (λ q. grind (arith, ints, clamps))

-- a credit is usable where such extremes are
usable_within : (c l h : ℤ) → l ≤ℤ pos 0 → pos 0 ≤ℤ h
    → is_usable c && (int_lt (neg_ℤ c) l && int_le h (largest_window -ℤ c))
    ≡ int_lt (neg_ℤ c) l && int_le h (largest_window -ℤ c)
usable_within c l h p q = grind (arith, ints)

no_change_same : (c : ℤ) → is_usable c && true ≡ credit_clear c (credit_of [])
no_change_same c = grind (arith, ints)

change_same : (c x : ℤ) (xs : List ℤ)
    → is_usable c && credit_clear (c +ℤ x) (credit_of xs) ≡ credit_clear c (credit_of (x ∷ xs))
change_same c x xs =
    let within = usable_within (c +ℤ x) (low xs) (high xs) (low-signed xs) (high-signed xs) in
    let parts = usable_parts c in
    let low = low_same c x (low xs) in
    let high = high_same c x (high xs) in
    rw within (elim (cases_Bool (is_usable c)) [
      | inl usable ↦ rw (usable, low (parts usable).0, high (parts usable).1) refl
      | inr not ↦ rw not refl
    ])

-- of one side
credit_same : (credit : ConnectionState → ℤ) (change : Item → ℤ)
    → ((now : ConnectionState) (item : Item) → credit (connection_after now item) ≡ credit now +ℤ change item)
    → (now : ConnectionState) (items : List Item)
    → list_all (λ (at : ConnectionState). is_usable (credit at)) (connections now items)
    ≡ credit_clear (credit now) (credit_of (map change items))
credit_same credit change step now [] = no_change_same (credit now)
credit_same credit change step now (item ∷ items) =
    rw (credit_same credit change step (connection_after now item) items, step now item)
    (change_same (credit now) (change item) (map change items))

-- ---- identifiers

-- one more stands before those of a summary
id_same : (g x : ℕ) (ids : List ℕ)
    → not (nat_le x g) && ids_clear (max g x) (rising_of ids) ≡ ids_clear g (rising_of (x ∷ ids))
id_same g x [] = grind (arith, nat_tests)
id_same g x (y ∷ ids) = grind (arith, nat_tests)

openings_same : (now : ConnectionState) (items : List Item)
    → openings_rise now items ≡ ids_clear now.opened (rising_of (present (map opened_id items)))
openings_same now [] = refl
openings_same now (item ∷ items) =
    let later = openings_same (connection_after now item) items in
    let one = id_same now.opened item.frame.stream (present (map opened_id items)) in
    grind arith

promises_same : (now : ConnectionState) (items : List Item) → promises_rise now items
    ≡ ids_clear now.promised (rising_of (present (map promised_id items))) && not (some_odd_promise items)
promises_same now [] = refl
promises_same now (item ∷ items) =
    let n = promised_in item.frame.body in
    rw (promises_same (connection_after now item) items)
    (turn (is_server_promise item.frame) (n % 2 == 0) (n % 2 == 1) n now.promised (map promised_id items)
    (some_odd_promise items) (grind (arith, nat_tests))) where
      turn : (p e d : Bool) (n g : ℕ) (later : List (Option ℕ)) (o : Bool) → d ≡ not e
          → not (p && (d || nat_le n g))
          && (ids_clear (if p && e then max g n else g) (rising_of (present later)) && not o)
          ≡ ids_clear g (rising_of (present ((if p && e then Some n else None) ∷ later))) && not ((p && d) || o)
      turn true true d n g later o is = let one = id_same g n (present later) in grind arith
      turn true false d n g later o is = grind arith
      turn false e d n g later o is = refl

push_same : (now : ConnectionState) (items : List Item) → promises_allowed now items
    ≡ push_clear now.push (latest_of items)
push_same now [] = refl
push_same now (item ∷ items) =
    rw (push_same (connection_after now item) items, ← push_is item.change now.push)
    (turn (is_server_promise item.frame) (push_in item.change) now.push (some_early_promise items)
    (some_barred_promise items)) where
      turn : (p : Bool) (c : Option ℕ) (push : ℕ) (e b : Bool)
          → not (p && (push == 0)) && (not (e && (unwrap_or c push == 0)) && not b)
          ≡ not ((p || (is_none c && e)) && (push == 0)) && not ((is_zero c && e) || b)
      turn p None push e b = grind arith
      turn p (Some v) push e b = grind arith

-- ---- grants of 0 and lengths

grants_same : (now : ConnectionState) (items : List Item) → grants_something now items ≡ not (some_zero_grant items)
grants_same now [] = refl
grants_same now (item ∷ items) = let later = grants_same (connection_after now item) items in grind arith

within_same : (d : Side) (limit : ConnectionState → ℕ)
    → ((now : ConnectionState) (item : Item)
    → limit (connection_after now item) ≡ new_limit item.change d (limit now))
    → (l : ℕ) (now : ConnectionState) (items : List Item)
    → list_all (λ (at : ConnectionState). nat_le l (limit at)) (connections now items)
    ≡ length_clear (limit now) l (least_limit d items)
within_same d limit step l now [] = refl
within_same d limit step l now (item ∷ items) =
    rw (
      within_same d limit step l (connection_after now item) items,
      step now item,
      ← limit_is d item.change (limit now),
    )
    (turn l (limit now) (limit_in d item.change) (least_limit d items)) where
      turn : (l limit : ℕ) (m least : Option ℕ)
          → nat_le l limit && (nat_le l (unwrap_or m limit) && is_within l least)
          ≡ nat_le l limit && is_within l (lesser_limit m least)
      turn l limit None least = grind arith
      turn l limit (Some v) None = grind arith
      turn l limit (Some v) (Some y) = grind (arith, nat_tests)

pub clear_same : (now : ConnectionState) (items : List Item) → sum_clear now (conn_sum_of items) ≡ is_clear now items
clear_same now items =
    let client = credit_same (λ s. s.credit.client) (credit_change Client) (λ s x. refl) now items in
    let server = credit_same (λ s. s.credit.server) (credit_change Server) (λ s x. refl) now items in
    let grants = grants_same now items in
    let openings = openings_same now items in
    let push = push_same now items in
    let promises = promises_same now items in
    let longest = within_same Client (λ s. s.limit.client) (λ s x. refl) (longest_by Client items) now items in
    let longest' = within_same Server (λ s. s.limit.server) (λ s x. refl) (longest_by Server items) now items in
    cc
