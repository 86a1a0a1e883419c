-- What is added to connections, one part of a round after the other.
use Rattle.audit_rounds.proofs.Words.{◌≡◌, ℕ, ◌+◌, ◌<◌, ◌≤◌, List, [], ◌∷◌, ◌++◌, length, get_or, set, refl, sym, ap}
use Rattle.audit_rounds.proofs.Words.{◌∙◌, arith, append_assoc, length-set, Vec, Global, Option, Part, PerConnection}
use Rattle.audit_rounds.proofs.Words.{findings_in, AreEach, HasTaken, IsClosed, numbers_told}
use Rattle.stop_desk.specs.code.Board.{PartView, stop_of}
use Rattle.audit_rounds.specs.code.Gathered.{AreGathered}
use Rattle.audit_rounds.proofs.Lists.{each-changed, said-other, said-own}

-- one of the connections is changed
changed : (Was Is : ℕ → PerConnection → PerConnection → Type 0) (before all : List PerConnection) (k : ℕ)
    (old new : PerConnection) → k < length all → old ≡ get_or all k old
    → ((one : PerConnection) → Was k one old → Is k one new)
    → ((n : ℕ) (one after : PerConnection) → (k ≡ n → ⊥) → Was n one after → Is n one after)
    → AreEach Was before all → AreEach Is before (set all k new)
changed Was Is before all k old new l is own others are =
    let number = are.number in
    record {
      number = length-set all k new ∙ number;
      each = λ n one other m. each-changed (λ n. Was n (get_or before n one)) (λ n. Is n (get_or before n one)) all k
          old new l is (own (get_or before k one)) (λ n. others n (get_or before n one))
          (λ n d m. are.each n one d (omega (arith, number, m))) n other (omega (arith, number, m));
    }

-- it takes the findings of a part
pub taken-part : (parts : List PartView) (part : PartView) (before all : List PerConnection) (old new : PerConnection)
    → part.connection < length all → old ≡ get_or all part.connection old → new ≡ record old { found = new.found }
    → findings_in new.found ≡ findings_in old.found ++ part.findings → AreGathered parts before all
    → AreGathered (parts ++ part ∷ []) before (set all part.connection new)
taken-part parts part before all old new l is same added =
    let connection = λ (part : PartView). part.connection in
    let says = λ (part : PartView). part.findings in
    changed (HasTaken parts) (HasTaken (parts ++ part ∷ [])) before all part.connection old new l is
    (λ one was. record {
      same = same ∙ ap (λ (old : PerConnection). record old { found = new.found }) was.same;
      found = added ∙ ap (λ l. l ++ part.findings) was.found ∙ append_assoc _ _ part.findings
          ∙ ap (λ l. findings_in one.found ++ l) (sym (said-own connection says part.connection parts part refl));
    })
    (λ n one after ne was. record {
      same = was.same;
      found = was.found ∙ ap (λ l. findings_in one.found ++ l) (sym (said-other connection says n parts part ne));
    })

-- ---- the numbers that are told

-- those of these parts were added to connection n
pub record HasHeard (parts : List (Part (Vec ℕ Global))) (n : ℕ) (before after : PerConnection) : Type 0 where
  pub same : after ≡ record before { opened = after.opened }
  pub opened : after.opened.items ≡ before.opened.items ++ numbers_told n parts

-- it is closed, if it is one of the first, and has heard all parts otherwise
pub record IsHalf (parts : List (Part (Vec ℕ Global))) (stops : List (Option ℕ)) (done n : ℕ)
    (before after : PerConnection) : Type 0 where
  pub closed : n < done → IsClosed (stop_of stops n) (before.opened.items ++ numbers_told n parts) before after
  pub heard : done ≤ n → HasHeard parts n before after

pub half-more : (parts : List (Part (Vec ℕ Global))) (stops : List (Option ℕ)) (before all : List PerConnection) (k : ℕ)
    (old new : PerConnection) → k < length all → old ≡ get_or all k old
    → IsClosed (stop_of stops k) old.opened.items old new → AreEach (IsHalf parts stops k) before all
    → AreEach (IsHalf parts stops (k + 1)) before (set all k new)
half-more parts stops before all k old new l is closes =
    changed (IsHalf parts stops k) (IsHalf parts stops (k + 1)) before all k old new l is
    (λ one was.
    let heard = was.heard (omega arith) in
    record {
      closed = λ m. record {
        same = closes.same
            ∙ ap (λ (old : PerConnection). record old { stop = stop_of stops k; opened = new.opened }) heard.same;
        opened = rw (heard.opened, ap (λ (old : PerConnection). old.prepared) heard.same) at closes.opened;
      };
      heard = λ m. absurd (omega arith);
    })
    (λ n one after ne was. record {
      closed = λ m. was.closed (let less : n < k = omega (arith, m, ne) in less);
      heard = λ m. was.heard (omega (arith, m));
    })
