-- A short way to the laws of a summary: a closed form of the summary of each list, which `join` keeps and which
-- moves a state as the steps do.
use Rattle.std.proofs.Common.{◌≡◌, List, [], ◌∷◌, ◌++◌, refl, sym, ap, ◌∙◌, append_assoc, append-nil}
use Rattle.conn_scan.specs.code.Summary.{SummaryLaws, summary_of}
use Rattle.conn_scan.specs.code.List.{after_all}

pub after_all-append : {State Item : Type 0} (step : State → Item → State) (s : State) (a b : List Item)
    → after_all step s (a ++ b) ≡ after_all step (after_all step s a) b
after_all-append step s [] b = refl
after_all-append step s (x ∷ a) b = after_all-append step (step s x) a b

-- What the closed form `shown` must keep.
pub record Shows {Sum Item State : Type 0} (shown : List Item → Sum) (empty : Sum) (of : Item → Sum) (join : Sum
    → Sum → Sum) (advance : State → Sum → State) (step : State → Item → State) (fits : State → List Item
    → Type 0) : Type 0 where
  pub first_fit : (s : State) (a b : List Item) → fits s (a ++ b) → fits s a
  pub rest_fits : (s : State) (a b : List Item) → fits s (a ++ b) → fits (after_all step s a) b
  pub none : shown [] ≡ empty
  pub one : (item : Item) → shown (item ∷ []) ≡ of item
  pub joined : (a b : List Item) → shown (a ++ b) ≡ join (shown a) (shown b)
  pub moved : (s : State) (a : List Item) → fits s a → advance s (shown a) ≡ after_all step s a

module _ {Sum Item State : Type 0} {shown : List Item → Sum} {empty : Sum} {of : Item → Sum} {join : Sum → Sum
    → Sum} {advance : State → Sum → State} {step : State → Item → State} {fits : State → List Item → Type 0}
    (is : Shows shown empty of join advance step fits) where
  pub summary-shown : (a : List Item) → summary_of empty of join a ≡ shown a
  summary-shown [] = sym is.none
  summary-shown (x ∷ a) = ap (join (of x)) (summary-shown a) ∙ ap (λ y. join y (shown a)) (sym (is.one x))
      ∙ sym (is.joined (x ∷ []) a)

  pub append-shown : (a b : List Item) → let sum = summary_of empty of join in sum (a ++ b) ≡ join (sum a) (sum b)
  append-shown a b = summary-shown (a ++ b) ∙ is.joined a b ∙ ap (join (shown a)) (sym (summary-shown b))
      ∙ ap (λ y. join y (summary_of empty of join b)) (sym (summary-shown a))

  pub advance-shown : (s : State) (a : List Item) → fits s a → advance s (summary_of empty of join a)
      ≡ after_all step s a
  advance-shown s a f = ap (advance s) (summary-shown a) ∙ is.moved s a f

  pub lawful : SummaryLaws empty of join advance step fits
  lawful = record {
    first_fit = is.first_fit;
    rest_fits = is.rest_fits;
    one = λ s x f. summary-shown (x ∷ []) ∙ is.one x;
    left_unit = λ s a f. sym (append-shown [] a);
    right_unit = λ s a f. sym (append-shown a []) ∙ ap (summary_of empty of join) (append-nil a);
    associative = λ s a b c f.
        let sum = summary_of empty of join in
        ap (λ y. join y (sum c)) (sym (append-shown a b)) ∙ sym (append-shown (a ++ b) c) ∙ ap sum (append_assoc a b c)
        ∙ append-shown a (b ++ c) ∙ ap (join (sum a)) (append-shown b c);
    appended = λ s a b f. append-shown a b;
    advance_by_none = λ s f. advance-shown s [] f;
    advance_by_one = λ s x f. ap (advance s) (sym (is.one x)) ∙ is.moved s (x ∷ []) f;
    advance_twice = λ s a b f.
        let sum = summary_of empty of join in
        ap (λ t. advance t (sum b)) (advance-shown s a (is.first_fit s a b f))
        ∙ advance-shown (after_all step s a) b (is.rest_fits s a b f) ∙ sym (after_all-append step s a b)
        ∙ sym (advance-shown s (a ++ b) f) ∙ ap (advance s) (append-shown a b);
  }
