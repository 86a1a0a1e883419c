-- Frames that a record completes follow all earlier ones in capture order.
use Rattle.std.proofs.Common.{◌≡◌, ℕ, ◌+◌, ◌<◌, Bool, true, false, List, [], ◌∷◌, ◌++◌, length, refl, ap, sym, ◌∙◌}
use Rattle.std.proofs.Common.{arith, length-append}
use Rattle.std.proofs.lemmas.List.{append_assoc}
use Rattle.std.proofs.lemmas.List.Elements.{All-cons, All-head, All-nil, All-tail}
use Rattle.std.specs.Prelude.{All, if◌then◌else◌}
use Rattle.h2_frames.proofs.Words.{nat_tests, SideFrame, put_by, ordered_by, comes_after, numbered, capture_order}
use Rattle.h2_frames.proofs.Words.{append-nil}
use Rattle.h2_frames.specs.laws.Growth.{AreBefore, AreThereWith, CaptureOrderGrows}

-- a frame of a later record comes after, and one of an earlier does not
later-after : (x y : SideFrame) → y.frame.rec < x.frame.rec → comes_after x y ≡ true
later-after x y lt = grind (arith, nat_tests)

earlier-not : (x y : SideFrame) → x.frame.rec < y.frame.rec → comes_after x y ≡ false
earlier-not x y lt = grind (arith, nat_tests)

-- a frame that comes after none of these
abbrev pub IsBeforeAll : List SideFrame → SideFrame → Type 0
IsBeforeAll more x = All (λ (y : SideFrame). comes_after x y ≡ false) more

-- goes where it went without them, if they are last
put-front : (x : SideFrame) (xs more : List SideFrame) → IsBeforeAll more x
    → put_by comes_after x (xs ++ more) ≡ put_by comes_after x xs ++ more
put-front x [] [] h = refl
put-front x [] (y ∷ more) h = rw (All-head (λ (z : SideFrame). comes_after x z ≡ false) y more h) refl
put-front x (z ∷ xs) more h = by (comes_after x z) (put-front x xs more h)
  where
    by : (b : Bool) → put_by comes_after x (xs ++ more) ≡ put_by comes_after x xs ++ more
        → (if b then z ∷ put_by comes_after x (xs ++ more) else x ∷ z ∷ (xs ++ more))
        ≡ (if b then z ∷ put_by comes_after x xs else x ∷ z ∷ xs) ++ more
    by true e = ap (λ l. z ∷ l) e
    by false e = refl

-- one that comes after all of them goes past them
put-past : (x : SideFrame) (xs more : List SideFrame) → All (λ (y : SideFrame). y.frame.rec < x.frame.rec) xs
    → put_by comes_after x (xs ++ more) ≡ xs ++ put_by comes_after x more
put-past x [] more h = refl
put-past x (y ∷ xs) more h =
    rw (later-after x y (All-head (λ (z : SideFrame). z.frame.rec < x.frame.rec) y xs h))
    (ap (λ l. y ∷ l) (put-past x xs more (All-tail (λ (z : SideFrame). z.frame.rec < x.frame.rec) y xs h)))

-- what is so of all frames is so of them in order
put-all : (P : SideFrame → Type 0) (x : SideFrame) (xs : List SideFrame) → P x → All P xs
    → All P (put_by comes_after x xs)
put-all P x [] p h = All-cons P x [] p h
put-all P x (y ∷ xs) p h = by (comes_after x y) (put-all P x xs p (All-tail P y xs h))
  where
    by : (b : Bool) → All P (put_by comes_after x xs) → All P (if b then y ∷ put_by comes_after x xs else x ∷ y ∷ xs)
    by true rest = All-cons P y (put_by comes_after x xs) (All-head P y xs h) rest
    by false rest = All-cons P x (y ∷ xs) p h

ordered-all : (P : SideFrame → Type 0) (xs : List SideFrame) → All P xs → All P (ordered_by comes_after xs)
ordered-all P [] h = h
ordered-all P (x ∷ xs) h =
    put-all P x (ordered_by comes_after xs) (All-head P x xs h) (ordered-all P xs (All-tail P x xs h))

put-length : (x : SideFrame) (xs : List SideFrame) → length (put_by comes_after x xs) ≡ 1 + length xs
put-length x [] = refl
put-length x (y ∷ xs) = by (comes_after x y) (put-length x xs)
  where
    by : (b : Bool) → length (put_by comes_after x xs) ≡ 1 + length xs
        → length (if b then y ∷ put_by comes_after x xs else x ∷ y ∷ xs) ≡ 1 + length (y ∷ xs)
    by true e = omega (arith, e)
    by false e = omega arith

pub ordered-length : (xs : List SideFrame) → length (ordered_by comes_after xs) ≡ length xs
ordered-length [] = refl
ordered-length (x ∷ xs) = omega (arith, put-length x (ordered_by comes_after xs), ordered-length xs)

numbered-append : (n : ℕ) (xs ys : List SideFrame)
    → numbered n (xs ++ ys) ≡ numbered n xs ++ numbered (n + length xs) ys
numbered-append n [] ys = ap (λ m. numbered m ys) (let e : n ≡ n + 0 = omega arith in e)
numbered-append n (x ∷ xs) ys =
    let count : n + 1 + length xs ≡ n + length (x ∷ xs) = omega arith in
    ap (λ l. record x.frame { number = n } ∷ l)
    (numbered-append (n + 1) xs ys ∙ ap (λ m. numbered (n + 1) xs ++ numbered m ys) count)

module _ (rec : ℕ) (more : List SideFrame) (there : AreThereWith rec more) where
  -- a frame of an earlier record
  earlier : (x : SideFrame) → x.frame.rec < rec → IsBeforeAll more x
  earlier x lt = by more there.arrive
    where
      by : (ys : List SideFrame) → All (λ (y : SideFrame). y.frame.rec ≡ rec) ys → IsBeforeAll ys x
      by [] h = All-nil _
      by (y ∷ ys) h =
          let is = All-head (λ (z : SideFrame). z.frame.rec ≡ rec) y ys h in
          All-cons (λ (z : SideFrame). comes_after x z ≡ false) y ys (earlier-not x y (omega (arith, is, lt)))
          (by ys (All-tail (λ (z : SideFrame). z.frame.rec ≡ rec) y ys h))

  pub all_earlier : (xs : List SideFrame) → AreBefore rec xs → All (IsBeforeAll more) xs
  all_earlier [] h = All-nil _
  all_earlier (x ∷ xs) h =
      All-cons (IsBeforeAll more) x xs (earlier x (All-head (λ (z : SideFrame). z.frame.rec < rec) x xs h))
      (all_earlier xs (All-tail (λ (z : SideFrame). z.frame.rec < rec) x xs h))

  -- behind others they stay behind them
  ordered-end : (xs : List SideFrame) → All (IsBeforeAll more) xs
      → ordered_by comes_after (xs ++ more) ≡ ordered_by comes_after xs ++ more
  ordered-end [] h = there.in_order
  ordered-end (x ∷ xs) h =
      ap (put_by comes_after x) (ordered-end xs (All-tail (IsBeforeAll more) x xs h))
      ∙ put-front x (ordered_by comes_after xs) more (All-head (IsBeforeAll more) x xs h)

  -- and before others they go behind them
  ordered-start : (ys server : List SideFrame) → All (λ (y : SideFrame). y.frame.rec ≡ rec) ys → AreBefore rec server
      → ordered_by comes_after (ys ++ server) ≡ ordered_by comes_after server ++ ordered_by comes_after ys
  ordered-start [] server h b = sym (append-nil (ordered_by comes_after server))
  ordered-start (y ∷ ys) server h b =
      let is = All-head (λ (z : SideFrame). z.frame.rec ≡ rec) y ys h in
      let below = ordered-all (λ (z : SideFrame). z.frame.rec < y.frame.rec) server (rw (sym is) at b) in
      ap (put_by comes_after y)
      (ordered-start ys server (All-tail (λ (z : SideFrame). z.frame.rec ≡ rec) y ys h) b)
      ∙ put-past y (ordered_by comes_after server) (ordered_by comes_after ys) below

  ordered-middle : (client server : List SideFrame) → All (IsBeforeAll more) client → AreBefore rec server
      → ordered_by comes_after ((client ++ more) ++ server) ≡ ordered_by comes_after (client ++ server) ++ more
  ordered-middle [] server h b =
      ordered-start more server there.arrive b ∙ ap (λ l. ordered_by comes_after server ++ l) there.in_order
  ordered-middle (x ∷ client) server h b =
      ap (put_by comes_after x) (ordered-middle client server (All-tail (IsBeforeAll more) x client h) b)
      ∙ put-front x (ordered_by comes_after (client ++ server)) more (All-head (IsBeforeAll more) x client h)

  numbers : (client server : List SideFrame)
      → numbered 1 (ordered_by comes_after (client ++ server) ++ more)
      ≡ capture_order client server ++ numbered (1 + (length client + length server)) more
  numbers client server =
      let count : 1 + length (ordered_by comes_after (client ++ server)) ≡ 1 + (length client + length server) =
      omega (arith, ordered-length (client ++ server), length-append client server) in
      numbered-append 1 (ordered_by comes_after (client ++ server)) more
      ∙ ap (λ m. capture_order client server ++ numbered m more) count

  -- the client sent them
  pub client-grows : (client server : List SideFrame) → All (IsBeforeAll more) client → AreBefore rec server
      → capture_order (client ++ more) server
      ≡ capture_order client server ++ numbered (1 + (length client + length server)) more
  client-grows client server h b = ap (numbered 1) (ordered-middle client server h b) ∙ numbers client server

  -- the server did
  pub server-grows : (client server : List SideFrame) → AreBefore rec client → All (IsBeforeAll more) server
      → capture_order client (server ++ more)
      ≡ capture_order client server ++ numbered (1 + (length client + length server)) more
  server-grows client server b h =
      ap (λ l. numbered 1 (ordered_by comes_after l)) (sym (append_assoc client server more))
      ∙ ap (numbered 1) (ordered-end (client ++ server) (All-append client server (all_earlier client b) h))
      ∙ numbers client server
    where
      All-append : (xs ys : List SideFrame) → All (IsBeforeAll more) xs → All (IsBeforeAll more) ys
          → All (IsBeforeAll more) (xs ++ ys)
      All-append [] ys h k = k
      All-append (x ∷ xs) ys h k =
          All-cons (IsBeforeAll more) x (xs ++ ys) (All-head (IsBeforeAll more) x xs h)
          (All-append xs ys (All-tail (IsBeforeAll more) x xs h) k)

pub capture-order-grows : CaptureOrderGrows
capture-order-grows rec client server more c s there = (
  client-grows rec more there client server (all_earlier rec more there client c) s,
  server-grows rec more there client server c (all_earlier rec more there server s),
)
