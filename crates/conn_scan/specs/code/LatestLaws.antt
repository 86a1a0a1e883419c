-- How the summary of settings and lengths goes on.
use Rattle.std.proofs.Common.{◌≡◌, ℕ, max, Bool, false, ◌&&◌, ◌||◌, List, [], ◌∷◌, ◌++◌, Option, Some, None, refl}
use Rattle.std.proofs.Common.{◌∙◌, arith}
use Rattle.std.proofs.Math.Bool.{or-false}
use Rattle.std.proofs.Math.Nat.{max-zero}
use Rattle.std.specs.Prelude.{is_none, unwrap_or}
use Rattle.audit_terms.specs.declared.sides.Side.{Side}
use Rattle.audit_terms.specs.declared.items.Change.{Change}
use Rattle.audit_terms.specs.declared.items.Item.{Item}
use Rattle.audit_terms.specs.Sides.{side_of, each_side}
use Rattle.audit_terms.specs.Frame.{is_server_promise}
use Rattle.audit_terms.specs.Change.{new_limit, new_push}
use Rattle.conn_scan.specs.code.Latest.{limit_in, push_in, length_by, grants_zero, promises_odd, is_zero, newer}
use Rattle.conn_scan.specs.code.Latest.{lesser_limit}
use Rattle.conn_scan.specs.code.Latest.{last_limit, least_limit, last_push, longest_by, some_zero_grant}
use Rattle.conn_scan.specs.code.Latest.{some_odd_promise, some_early_promise, some_barred_promise, latest_of}
use Rattle.conn_scan.specs.code.Latest.{latest_join, latest_met}

limit-append : (d : Side) (a b : List Item) → last_limit d (a ++ b) ≡ newer (last_limit d a) (last_limit d b)
limit-append d [] b = grind arith
limit-append d (x ∷ a) b = grind (arith, limit-append d a b)

least-append : (d : Side) (a b : List Item) → least_limit d (a ++ b) ≡ lesser_limit (least_limit d a) (least_limit d b)
least-append d [] b = grind arith
least-append d (x ∷ a) b = grind (arith, least-append d a b)

push-append : (a b : List Item) → last_push (a ++ b) ≡ newer (last_push a) (last_push b)
push-append [] b = grind arith
push-append (x ∷ a) b = grind (arith, push-append a b)

longest-append : (d : Side) (a b : List Item) → longest_by d (a ++ b) ≡ max (longest_by d a) (longest_by d b)
longest-append d [] b = grind arith
longest-append d (x ∷ a) b = grind (arith, longest-append d a b)

zero-append : (a b : List Item) → some_zero_grant (a ++ b) ≡ some_zero_grant a || some_zero_grant b
zero-append [] b = grind arith
zero-append (x ∷ a) b = grind (arith, zero-append a b)

odd-append : (a b : List Item) → some_odd_promise (a ++ b) ≡ some_odd_promise a || some_odd_promise b
odd-append [] b = grind arith
odd-append (x ∷ a) b = grind (arith, odd-append a b)

early-append : (a b : List Item) → some_early_promise (a ++ b)
    ≡ some_early_promise a || (is_none (last_push a) && some_early_promise b)
early-append [] b = grind arith
early-append (x ∷ a) b = grind (arith, early-append a b)

barred-append : (a b : List Item) → some_barred_promise (a ++ b)
    ≡ (some_barred_promise a || some_barred_promise b) || (is_zero (last_push a) && some_early_promise b)
barred-append [] b = grind arith
barred-append (x ∷ a) b = grind (arith, early-append a b, barred-append a b)

pub limit_is : (d : Side) (change : Option Change) (before : ℕ) → unwrap_or (limit_in d change) before
    ≡ new_limit change d before
limit_is d None before = refl
limit_is d (Some change) before = grind arith

pub push_is : (change : Option Change) (before : ℕ) → unwrap_or (push_in change) before ≡ new_push change before
push_is None before = refl
push_is (Some change) before = grind arith

pub limit-next : (d : Side) (x : Item) (a : List Item) (before : ℕ)
    → unwrap_or (last_limit d (x ∷ a)) before ≡ unwrap_or (last_limit d a) (new_limit x.change d before)
limit-next d x a before = grind (arith, limit_is d x.change before)

pub push-next : (x : Item) (a : List Item) (before : ℕ) → unwrap_or (last_push (x ∷ a)) before ≡ unwrap_or (last_push a)
    (new_push x.change before)
push-next x a before = grind (arith, push_is x.change before)

pub latest_of-append : (a b : List Item) → latest_of (a ++ b) ≡ latest_join (latest_of a) (latest_of b)
latest_of-append a b = λ i. record {
  limit = each_side (λ d. limit-append d a b i);
  least = each_side (λ d. least-append d a b i);
  longest = each_side (λ d. longest-append d a b i);
  push = push-append a b i;
  zero_grant = zero-append a b i;
  odd_promise = odd-append a b i;
  early_promise = early-append a b i;
  barred_promise = barred-append a b i;
}

early_one : (n p z : Bool) → n && (p || (z && false)) ≡ p && n
early_one n p z = grind arith

barred_one : (b p n z w : Bool) → (b || ((w && false) || false)) || (z && (p || (n && false))) ≡ b || (p && z)
barred_one b p n z w = grind arith

-- the summary of one item more
pub latest_of-met : (a : List Item) (x : Item) → latest_of (a ++ x ∷ []) ≡ latest_met (latest_of a) x
latest_of-met a x = latest_of-append a (x ∷ []) ∙ (λ i.
    let from = latest_of a in
    let none = is_none (push_in x.change) in
    record (latest_met from x) {
      longest = each_side (λ d. max (side_of d from.longest) (max-zero (length_by d x.frame) i));
      zero_grant = from.zero_grant || or-false (grants_zero x.frame) i;
      odd_promise = from.odd_promise || or-false (promises_odd x.frame) i;
      early_promise =
          from.early_promise || early_one (is_none from.push) (is_server_promise x.frame) none i;
      barred_promise =
          barred_one from.barred_promise (is_server_promise x.frame) none (is_zero from.push)
          (is_zero (push_in x.change)) i;
    })
