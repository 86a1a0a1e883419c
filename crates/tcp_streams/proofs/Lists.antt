-- Cases of a test; lists by index, and lists to which one may be added.
use Rattle.tcp_streams.proofs.Words.{◌≡◌, ℕ, ◌<◌, ◌≤◌, Bool, true, false, List, [], ◌∷◌, Option, None, Some, refl, sym}
use Rattle.tcp_streams.proofs.Words.{◌∙◌, arith, ◌+◌, ◌-◌, ◌++◌, length, drop, slice_get, ap, get_or, ◌⊎◌, map, set}
use Rattle.tcp_streams.proofs.Words.{inl, inr, All, nat_lt, AllPairs, list_any, slice_range, lt-ltb, le-ltb}
use Rattle.tcp_streams.proofs.Words.{common_steps, get_or-map, length-map, map-append, length-take-le, All-head}
use Rattle.tcp_streams.proofs.Words.{All-tail, All-push, list_any-append, get_or_from_slice_get, slice_get_within}
use Rattle.tcp_streams.proofs.Words.{Segment, with_if, take, filter_map, filter_map-append, option_to_list}
use Rattle.std.proofs.{Common.◌≢◌, lemmas.Bool.cases_lt, lemmas.List.Quantifiers.all_pairs_push, lemmas.Option.gets}
use Rattle.std.specs.Prelude.{Result, Ok, Err, OnOk}
use Rattle.std.proofs.lemmas.List.{length-drop, get_or-set_other, get_or-set_same, length-set, same_lists, take_more}

-- a goal, by whether one number is below another
pub by_lt : {G : Type 0} (a b : ℕ) → (nat_lt a b ≡ true → a < b → G) → (nat_lt a b ≡ false → b ≤ a → G) → G
by_lt a b below not_below = elim (cases_lt a b) [ inl h ↦ below (lt-ltb a b h) h | inr h ↦ not_below (le-ltb a b h) h ]

-- the same by any test
pub by_Bool : {G : Type 0} (b : Bool) → (b ≡ true → G) → (b ≡ false → G) → G
by_Bool true holds fails = holds refl
by_Bool false holds fails = fails refl

-- and by an option
pub by_option : {X G : Type 0} (o : Option X) → (o ≡ None → G) → ((x : X) → o ≡ Some x → G) → G
by_option None nothing something = nothing refl
by_option (Some x) nothing something = something x refl

module _ {X : Type 0} where
  -- an element of two lists, one after the other, and of a part of a list
  pub slice_get-left : (xs ys : List X) (i : ℕ) → i < length xs → slice_get (xs ++ ys) i ≡ slice_get xs i
  slice_get-left xs ys i lt = grind (arith, common_steps, gets)

  pub slice_get-right : (xs ys : List X) (i j : ℕ) → i ≡ length xs + j → slice_get (xs ++ ys) i ≡ slice_get ys j
  slice_get-right xs ys i j e = grind (arith, common_steps, gets)

  pub slice_get-drop : (a : ℕ) (xs : List X) (i j : ℕ) → j ≡ a + i → slice_get (drop a xs) i ≡ slice_get xs j
  slice_get-drop a xs i j e = grind (arith, common_steps, gets)

  pub slice_get-slice_range : (xs : List X) (a b i j : ℕ) → j ≡ a + i → j < b → slice_get (slice_range xs a b) i
      ≡ slice_get xs j
  slice_get-slice_range xs a b i j e lt = grind (arith, common_steps, gets)

  pub length-slice_range : (xs : List X) (a b : ℕ) → a ≤ b → b ≤ length xs → length (slice_range xs a b) ≡ b - a
  length-slice_range xs a b le le' = length-take-le (b - a) (drop a xs) (omega (arith, length-drop a xs, le, le'))

  pub slice_get-last : (xs : List X) (y : X) → slice_get (xs ++ y ∷ []) (length xs) ≡ Some y
  slice_get-last xs y = slice_get-right xs (y ∷ []) (length xs) 0 (omega arith)

  -- two functions that agree at each element
  pub map-agree : {Y : Type 0} (f g : X → Y) (xs : List X) → All (λ x. f x ≡ g x) xs → map f xs ≡ map g xs
  map-agree f g [] h = refl
  map-agree f g (x ∷ xs) h =
      (λ i. All-head (λ x. f x ≡ g x) x xs h i ∷ map-agree f g xs (All-tail (λ x. f x ≡ g x) x xs h) i)

  -- and one element more
  pub map-pushed : {Y : Type 0} (f g : X → Y) (xs : List X) (x : X) (y : Y) → All (λ x. f x ≡ g x) xs → y ≡ g x
      → map f xs ++ y ∷ [] ≡ map g (xs ++ x ∷ [])
  map-pushed f g xs x y h e = rw (map-append g xs (x ∷ []), map-agree f g xs h, e)

  -- two functions that agree at each element but one, from which the others stand apart
  pub map-but : {Y : Type 0} (R : X → X → Type 0) (f g : X → Y) (xs : List X) (k : ℕ) (o : X) → AllPairs R xs
      → slice_get xs k ≡ Some o → ((x : X) → R x o ⊎ R o x → f x ≡ g x) → map g xs ≡ set (map f xs) k (g o)
  map-but R f g xs k o apart at agree =
      same_lists (map g xs) (set (map f xs) k (g o)) (simp (length-set, length-map)) (λ j d lt.
      let within : j < length xs = rw (length-map xs g) at lt in
      let here : get_or xs k o ≡ o = get_or_from_slice_get xs k o o at in
      let inside = slice_get_within xs k o at in
      let other = λ (ne : j ≢ k) (r : R (get_or xs j o) o ⊎ R o (get_or xs j o)).
      get_or-map g xs j o d within ∙ sym (agree (get_or xs j o) r) ∙ sym (get_or-map f xs j o d within)
      ∙ sym (get_or-set_other (map f xs) k j (g o) d ne) in
      by_lt j k
      (λ _ before. other (λ e. omega arith) (inl (rw here at (apart j k o before inside))))
      (λ _ le. by_lt k j
      (λ _ past. other (λ e. omega arith) (inr (rw here at (apart k j o past within))))
      (λ _ ge. rw (let same : j ≡ k = omega arith in same)
      (get_or-map g xs k o d inside ∙ ap g here
      ∙ sym (get_or-set_same (map f xs) k (g o) d (omega (arith, length-map xs f)))))))

module _ (b : Bool) (xs : List Segment) (s : Segment) where
  -- what stands in a list stands in it at the same index where one may be added
  pub slice_get-with_if : (k : ℕ) (x : Segment) → slice_get xs k ≡ Some x → slice_get (with_if b xs s) k ≡ Some x
  slice_get-with_if k x h = grind (arith, slice_get-left xs (s ∷ []) k (slice_get_within xs k x h))

  pub All-with_if : (P : Segment → Type 0) → All P xs → (b ≡ true → P s) → All P (with_if b xs s)
  All-with_if P h new = by_Bool b (λ e. rw e (All-push P xs s h (new e))) (λ e. rw e h)

  pub AllPairs-with_if : (R : Segment → Segment → Type 0) → AllPairs R xs → (b ≡ true → All (λ x. R x s) xs)
      → AllPairs R (with_if b xs s)
  AllPairs-with_if R h new = by_Bool b (λ e. rw e (all_pairs_push R xs s h (new e))) (λ e. rw e h)

  pub list_any-with_if : (test : Segment → Bool) → list_any test xs ≡ true → list_any test (with_if b xs s) ≡ true
  list_any-with_if test h = grind (arith, list_any-append test xs (s ∷ []))

  -- one that does not pass counts for nothing
  pub list_any-other : (test : Segment → Bool) → test s ≡ false → list_any test (with_if b xs s) ≡ list_any test xs
  list_any-other test h = grind (arith, list_any-append test xs (s ∷ []))

-- what follows from two facts that hold where an answer is good
pub both_ok : {T E P Q R : Type 0} (answer : Result T E) → (P → Q → R) → OnOk answer P → OnOk answer Q → OnOk answer R
both_ok (Ok _) follows p q = follows p q
both_ok (Err _) follows p q = tt

-- several clauses of one call that went well
pub on_ok_3 : {A E P Q R W : Type 0} (r : Result A E) → OnOk r P → OnOk r Q → OnOk r R → (P → Q → R → W) → OnOk r W
on_ok_3 (Ok x) p q h f = f p q h
on_ok_3 (Err e) p q h f = tt

-- what one element more gives
pub filter_map-more : {X Y : Type 0} (f : X → Option Y) (xs : List X) (k : ℕ) (d : X) (o : Option Y) → k < length xs
    → o ≡ f (get_or xs k d) → filter_map f (take (k + 1) xs) ≡ filter_map f (take k xs) ++ option_to_list o
filter_map-more f xs k d None lt is = grind (arith, common_steps, take_more, filter_map-append)
filter_map-more f xs k d (Some y) lt is = grind (arith, common_steps, take_more, filter_map-append)
