-- What a list of signed changes does to the credit of a window (RFC 9113, 6.9).
use Rattle.std.specs.Prelude.{ℤ, pos, ◌-◌, ◌*◌, ◌^◌, ◌≤◌, ◌+ℤ◌, ◌-ℤ◌, ◌==◌, int_lt, if◌then◌else◌, List, [], ◌∷◌}
use Rattle.std.specs.Prelude.{length}
use Rattle.std.specs.List.{AllByRecursion}
use Rattle.std.specs.Int.{int_max, int_min}
use Rattle.audit_terms.specs.declared.sides.Side.{Side}
use Rattle.audit_terms.specs.declared.frames.Frame.{Frame}
use Rattle.audit_terms.specs.declared.items.Item.{Item}
use Rattle.audit_terms.specs.Frame.{is_content, increment}
use Rattle.audit_terms.specs.Connection.{credit_moved}
use Rattle.audit_terms.specs.code.Room.{HasRoom}
use Rattle.conn_scan.specs.declared.credits.Credit.{Credit}

-- what an item moves the connection credit of side d by; 0 where it leaves the side untouched
abbrev pub credit_change : Side → Item → ℤ
credit_change d item = credit_moved d item.frame

-- the same of the credit of a frame's sender, which its content takes from
abbrev pub spent_by : Frame → ℤ
spent_by frame = pos 0 -ℤ pos (if is_content frame.body then frame.length else 0)

-- the same of the other side's, which its grant adds to
abbrev pub granted_by : Frame → ℤ
granted_by frame = pos (if frame.stream == 0 then increment frame.body else 0) -ℤ pos 0

-- the changes, added up
abbrev pub total : List ℤ → ℤ
total [] = pos 0
total (change ∷ changes) = change +ℤ total changes

-- the greatest sum of the first changes: of none, of one, and so on to all
abbrev pub high : List ℤ → ℤ
high [] = pos 0
high (change ∷ changes) = int_max (pos 0) (change +ℤ high changes)

-- the least of these sums
abbrev pub low : List ℤ → ℤ
low [] = pos 0
low (change ∷ changes) = int_min (pos 0) (change +ℤ low changes)

-- the summary of some changes
abbrev pub credit_of : List ℤ → Credit
credit_of changes = record { sum = total changes; high = high changes; low = low changes }

-- no change
abbrev pub no_change : Credit
no_change = record { sum = pos 0; high = pos 0; low = pos 0 }

-- one change
abbrev pub one_change : ℤ → Credit
one_change change = record { sum = change; high = int_max change (pos 0); low = int_min change (pos 0) }

-- the changes of one summary, and then those of another
abbrev pub credit_join : Credit → Credit → Credit
credit_join a b = record {
  sum = a.sum +ℤ b.sum;
  high = int_max a.high (a.sum +ℤ b.high);
  low = int_min a.low (a.sum +ℤ b.low);
}

-- the changes of a summary, and then one more: what rises makes no sum less, and what falls none greater
abbrev pub credit_met : Credit → ℤ → Credit
credit_met a change = record {
  sum = a.sum +ℤ change;
  high = (if int_lt (pos 0) change then int_max a.high (a.sum +ℤ change) else a.high);
  low = (if int_lt change (pos 0) then int_min a.low (a.sum +ℤ change) else a.low);
}

-- the credit after the changes of a summary
abbrev pub credit_advance : ℤ → Credit → ℤ
credit_advance credit changes = credit +ℤ changes.sum

-- each change is at most 2^32 in size
abbrev pub AreSmall : List ℤ → Type 0
AreSmall = AllByRecursion (HasRoom (2 ^ 32))

-- At most 2^28 changes, each at most 2^32 in size, from a credit that none of them can bring beyond 2^61: so any credit
-- of at most 2^60 in size fits 2^28 changes.
pub record ChangesFit (credit : ℤ) (changes : List ℤ) : Type 0 where
  pub number : length changes ≤ 2 ^ 28
  pub sizes : AreSmall changes
  pub room : HasRoom (2 ^ 61 - 2 ^ 32 * length changes) credit
