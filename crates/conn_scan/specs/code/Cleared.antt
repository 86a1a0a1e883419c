-- What clears a block, by its summary.
use Rattle.std.specs.Prelude.{ℕ, ℤ, neg_ℤ, ◌-ℤ◌, Bool, true, ◌==◌, ◌&&◌, ◌||◌, not, nat_lt, nat_le, int_lt, int_le}
use Rattle.std.specs.Prelude.{Option, Some, None}
use Rattle.audit_terms.specs.declared.connection_state.ConnectionState.{ConnectionState}
use Rattle.audit_terms.specs.Window.{largest_window}
use Rattle.conn_scan.specs.declared.credits.Credit.{Credit}
use Rattle.conn_scan.specs.declared.rising.Rising.{Rising}
use Rattle.conn_scan.specs.declared.latest.Latest.{Latest}
use Rattle.conn_scan.specs.declared.sums.ConnSum.{ConnSum}
use Rattle.conn_scan.specs.code.Clear.{is_usable}

-- the credit is usable before the changes of a summary and after each
abbrev pub credit_clear : ℤ → Credit → Bool
credit_clear credit changes =
    is_usable credit && (int_lt (neg_ℤ credit) changes.low && int_le changes.high (largest_window -ℤ credit))

-- the identifiers of a summary rise past one
abbrev pub ids_clear : ℕ → Rising → Bool
ids_clear before ids = ids.none || (nat_lt before ids.least && ids.rises)

-- no promise while an ENABLE_PUSH of 0 is in force
abbrev pub push_clear : ℕ → Latest → Bool
push_clear push latest = not (latest.early_promise && (push == 0)) && not latest.barred_promise

-- a length at most a limit that may be there
abbrev pub is_within : ℕ → Option ℕ → Bool
is_within length None = true
is_within length (Some limit) = nat_le length limit

-- a length at most the limit in force and the least that comes
abbrev pub length_clear : (limit longest : ℕ) → (least : Option ℕ) → Bool
length_clear limit longest least = nat_le longest limit && is_within longest least

abbrev pub sum_clear : ConnectionState → ConnSum → Bool
sum_clear now sum =
    let latest = sum.latest in
    ((credit_clear now.credit.client sum.credit.client && credit_clear now.credit.server sum.credit.server)
    && (not latest.zero_grant && ids_clear now.opened sum.opened))
    && ((push_clear now.push latest && (ids_clear now.promised sum.promised && not latest.odd_promise))
    && (length_clear now.limit.client latest.longest.client latest.least.client
    && length_clear now.limit.server latest.longest.server latest.least.server))
