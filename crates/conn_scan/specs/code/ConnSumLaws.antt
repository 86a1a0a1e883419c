-- The summary of a connection's items obeys the laws.
use Rattle.std.proofs.Common.{◌≡◌, ℕ, max, Bool, List, [], ◌∷◌, ◌++◌, map, Option, Some}
use Rattle.std.proofs.Common.{None}
use Rattle.std.proofs.Common.{refl, sym, ap, subst, ◌∙◌, arith}
use Rattle.std.proofs.Math.IntN.{+ℤ_assoc, +ℤ_idr}
use Rattle.std.proofs.Math.Nat.{max-zero}
use Rattle.std.specs.Prelude.{if◌then◌else◌}
use Rattle.std.proofs.lemmas.List.{map-append}
use Rattle.audit_terms.specs.declared.sides.Side.{Side}
use Rattle.audit_terms.specs.declared.connection_state.ConnectionState.{ConnectionState}
use Rattle.audit_terms.specs.declared.items.Item.{Item}
use Rattle.audit_terms.specs.Sides.{side_of, each_side}
use Rattle.audit_terms.specs.Frame.{promised_in}
use Rattle.audit_terms.specs.Connection.{connection_after, is_opened_by_headers, is_even_promise}
use Rattle.audit_terms.specs.code.runs.Blocks.{connection_after_all}
use Rattle.conn_scan.specs.code.Summary.{SummaryLaws}
use Rattle.conn_scan.specs.code.List.{after_all}
use Rattle.conn_scan.specs.code.Shown.{Shows, lawful}
use Rattle.conn_scan.specs.code.Credit.{credit_change, credit_of, credit_join, credit_met, total}
use Rattle.conn_scan.specs.code.Rising.{greatest_of, present, rising_of, rising_join, rising_met}
use Rattle.conn_scan.specs.code.Ids.{opened_id, promised_id}
use Rattle.conn_scan.specs.code.ConnSum.{conn_sum_of, conn_none, conn_one, conn_met, conn_join, conn_advance}
use Rattle.conn_scan.specs.code.Block.{ItemsFit}
use Rattle.conn_scan.specs.code.FitLaws.{first_fit, rest_fit}
use Rattle.conn_scan.specs.code.CreditLaws.{credit_of-append, credit_of-met}
use Rattle.conn_scan.specs.code.RisingLaws.{present-append, rising_of-append, rising_of-met}
use Rattle.conn_scan.specs.code.LatestLaws.{limit-next, push-next, latest_of-append, latest_of-met}

credits-append : (d : Side) (a b : List Item) → credit_of (map (credit_change d) (a ++ b))
    ≡ credit_join (credit_of (map (credit_change d) a)) (credit_of (map (credit_change d) b))
credits-append d a b = ap credit_of (map-append (credit_change d) a b)
    ∙ credit_of-append (map (credit_change d) a) (map (credit_change d) b)

ids-append : (ids : Item → Option ℕ) (a b : List Item) → rising_of (present (map ids (a ++ b)))
    ≡ rising_join (rising_of (present (map ids a))) (rising_of (present (map ids b)))
ids-append ids a b = ap (λ l. rising_of (present l)) (map-append ids a b)
    ∙ ap rising_of (present-append (map ids a) (map ids b))
    ∙ rising_of-append (present (map ids a)) (present (map ids b))

conn_sum_of-append : (a b : List Item) → conn_sum_of (a ++ b) ≡ conn_join (conn_sum_of a) (conn_sum_of b)
conn_sum_of-append a b = λ i. record {
  credit = each_side (λ d. credits-append d a b i);
  opened = ids-append opened_id a b i;
  promised = ids-append promised_id a b i;
  latest = latest_of-append a b i;
}

credits-met : (d : Side) (a : List Item) (x : Item) → credit_of (map (credit_change d) (a ++ x ∷ []))
    ≡ credit_met (credit_of (map (credit_change d) a)) (credit_change d x)
credits-met d a x = ap credit_of (map-append (credit_change d) a (x ∷ []))
    ∙ credit_of-met (map (credit_change d) a) (credit_change d x)

ids-met : (ids : Item → Option ℕ) (a : List Item) (x : Item) → rising_of (present (map ids (a ++ x ∷ [])))
    ≡ rising_met (rising_of (present (map ids a))) (ids x)
ids-met ids a x = ap (λ l. rising_of (present l)) (map-append ids a (x ∷ [])) ∙ rising_of-met (map ids a) (ids x)

-- the summary of one item more
pub conn_sum_of-met : (a : List Item) (x : Item) → conn_sum_of (a ++ x ∷ []) ≡ conn_met (conn_sum_of a) x
conn_sum_of-met a x = λ i. record {
  credit = each_side (λ d. credits-met d a x i);
  opened = ids-met opened_id a x i;
  promised = ids-met promised_id a x i;
  latest = latest_of-met a x i;
}

greatest-next : (b : Bool) (s x : ℕ) (rest : List (Option ℕ))
    → max s (greatest_of (present ((if b then Some x else None) ∷ rest)))
    ≡ max (if b then max s x else s) (greatest_of (present rest))
greatest-next b s x rest = grind arith

pub advance-sum : (s : ConnectionState) (a : List Item) → conn_advance s (conn_sum_of a) ≡ connection_after_all s a
advance-sum s [] = λ i. record s {
  credit = each_side (λ d. +ℤ_idr (side_of d s.credit) i);
  opened = max-zero s.opened i;
  promised = max-zero s.promised i;
}
advance-sum s (x ∷ a) =
    (λ i. record {
      credit = each_side (λ d.
          sym (+ℤ_assoc (side_of d s.credit) (credit_change d x) (total (map (credit_change d) a))) i);
      opened = greatest-next (is_opened_by_headers x) s.opened x.frame.stream (map opened_id a) i;
      promised =
          greatest-next (is_even_promise x.frame) s.promised (promised_in x.frame.body) (map promised_id a) i;
      push = push-next x a s.push i;
      limit = each_side (λ d. limit-next d x a (side_of d s.limit) i);
    })
    ∙ advance-sum (connection_after s x) a

-- the fold of a scan is that of the connection
pub all-after : (s : ConnectionState) (a : List Item)
    → connection_after_all s a ≡ after_all connection_after s a
all-after s [] = refl
all-after s (x ∷ a) = all-after (connection_after s x) a

pub conn_shows : Shows conn_sum_of conn_none conn_one conn_join conn_advance connection_after ItemsFit
conn_shows = record {
  first_fit = first_fit;
  rest_fits = λ s a b f. subst (λ s. ItemsFit s b) (all-after s a) (rest_fit s a b f);
  none = refl;
  one = conn_sum_of-met [];
  joined = conn_sum_of-append;
  moved = λ s a f. advance-sum s a ∙ all-after s a;
}

pub conn_laws : SummaryLaws conn_none conn_one conn_join conn_advance connection_after ItemsFit
conn_laws = lawful conn_shows
