-- Reads of a file, one after the other, and what was dealt of them.
use Rattle.capture_parts.proofs.Terms.{BeginsWithRecord, Consumes, Consumes-nil, Consumes-trans, Dealer, Deals}
use Rattle.capture_parts.proofs.Terms.{HasTurned, IsDealt, List, Option, Part, [], append-nil, append_assoc, arith}
use Rattle.capture_parts.proofs.Terms.{ap, length, length-append, order_of, refl, subst, ◌+◌, ℕ, ◌++◌, ◌<◌, ◌∙◌, ◌≡◌}

-- some bytes were dealt, and then more
pub Deals-trans : {W : Type 0} (contents : W → Option (List ℕ)) (d e f : Dealer) (old mid new : List (Part W))
    (x y : List ℕ) → Deals contents d e old mid x → Deals contents e f mid new y → Deals contents d f old new (x ++ y)
Deals-trans contents d e f old mid new x y before after = record {
  link = after.link ∙ before.link;
  is_little = after.is_little ∙ before.is_little;
  behind = λ first bytes was. subst (IsDealt contents f first new) (append_assoc bytes x y)
      (after.behind first (bytes ++ x) (before.behind first bytes was));
}

-- nothing more was dealt
pub Deals-nil : {W : Type 0} (contents : W → Option (List ℕ)) (d : Dealer) (parts : List (Part W))
    → Deals contents d d parts parts []
Deals-nil contents d parts = record {
  link = refl;
  is_little = refl;
  behind = λ first bytes was. rw append-nil was;
}

module _ {W R : Type 0} (contents : W → Option (List ℕ)) (left : R → Option (List ℕ)) where
  -- before the first read
  pub no_turn : (d : Dealer) (m : ℕ) (parts : List (Part W)) (reader : R)
      → HasTurned contents left d d m m parts parts reader reader []
  no_turn d m parts reader = record {
    given = [];
    count = omega arith;
    consumed = Consumes-nil (left reader);
    none_whole = λ some. absurd (let no : 0 < 0 = some in omega (arith, no));
    dealt = Deals-nil contents d parts;
  }

  -- one read more, of which some was dealt together with what was unread
  pub next_turn : {d e : Dealer} (f : Dealer) {m n : ℕ} (k : ℕ) {old mid : List (Part W)} (new : List (Part W))
      {before now : R} (after : R) {unread : List ℕ} (more dealt rest : List ℕ)
      → k + length rest ≡ n + length (unread ++ more) → Consumes (left now) (left after) more
      → unread ++ more ≡ dealt ++ rest
      → (0 < length rest → (f.left ≡ 0) × ¬ BeginsWithRecord (order_of f.is_little) rest)
      → Deals contents e f mid new dealt → HasTurned contents left d e m n old mid before now unread
      → HasTurned contents left d f m k old new before after rest
  next_turn {d} {e} f {m} {n} k {old} {mid} new {before} {now} after {unread} more dealt rest count read same cut step
      was = record {
        given = was.given ++ dealt;
        count =
            let all = ap length same in
            omega (arith, count, all, was.count, length-append dealt rest, length-append was.given dealt);
        consumed = rw (append_assoc was.given dealt rest, ← same, ← append_assoc was.given unread more)
            (Consumes-trans (left before) (left now) (left after) (was.given ++ unread) more was.consumed read);
        none_whole = cut;
        dealt = Deals-trans contents d e f old mid new was.given dealt was.dealt step;
      }
