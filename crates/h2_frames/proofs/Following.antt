-- The frames that a record completes follow those that were there in capture order.
use Rattle.h2_frames.proofs.Arising.{brought_from}
use Rattle.std.proofs.Common.{◌≡◌, ℕ, ◌+◌, ◌-◌, ◌<◌, ◌≤◌, false, List, [], ◌∷◌, ◌++◌, length, refl, ap, sym}
use Rattle.std.proofs.Common.{◌∙◌, arith, length-append, inl, inr}
use Rattle.std.proofs.lemmas.Bool.{cases_lt, le-ltb, lt-ltb}
use Rattle.std.proofs.lemmas.List.Elements.{All-cons, All-head, All-nil, All-tail}
use Rattle.std.specs.Prelude.{All}
use Rattle.h2_frames.proofs.Growth.{IsBeforeAll, client-grows, ordered-length, server-grows}
use Rattle.h2_frames.proofs.Merging.{IsAscendingFrom, later_number, ordered-ascending}
use Rattle.h2_frames.proofs.Words.{Arrival, Client, Server, Side, SideFrame, Spelled}
use Rattle.h2_frames.proofs.Words.{byte_arrival, capture_order, captured, captured_from, comes_after}
use Rattle.h2_frames.proofs.Words.{numbered, ordered_by}
use Rattle.h2_frames.specs.code.Brought.{frames_from}
use Rattle.h2_frames.specs.code.Fed.{Fed, MayBring}
use Rattle.h2_frames.proofs.Words.{Frame, Sides}
use Rattle.h2_frames.specs.declared.side_frames.Source.{Source}
use Rattle.h2_frames.specs.laws.Growth.{AreBefore, AreThereWith}

-- no byte comes with a later record than the last one
rec_within : (o rec : ℕ) (arrivals : List Arrival) → All (λ (a : Arrival). a.rec ≤ rec) arrivals
    → (byte_arrival arrivals o).rec ≤ rec
rec_within o rec [] h = omega arith
rec_within o rec (a ∷ later) h =
    elim (cases_lt o a.upto) [
      | inl first ↦ rw (lt-ltb o a.upto first) (All-head (λ (b : Arrival). b.rec ≤ rec) a later h)
      | inr past ↦ rw (le-ltb o a.upto past)
          (rec_within o rec later (All-tail (λ (b : Arrival). b.rec ≤ rec) a later h))
    ]

rec_before : (o rec : ℕ) (arrivals : List Arrival) → 0 < rec → All (λ (a : Arrival). a.rec < rec) arrivals
    → (byte_arrival arrivals o).rec < rec
rec_before o rec [] some h = some
rec_before o rec (a ∷ later) some h =
    elim (cases_lt o a.upto) [
      | inl first ↦ rw (lt-ltb o a.upto first) (All-head (λ (b : Arrival). b.rec < rec) a later h)
      | inr past ↦ rw (le-ltb o a.upto past)
          (rec_before o rec later some (All-tail (λ (b : Arrival). b.rec < rec) a later h))
    ]

module _ (side : Side) (a : Arrival) where
  -- an earlier frame of the side comes before those
  before-brought : (x : SideFrame) (k : ℕ) (xs : List Spelled) → x.frame.rec ≤ a.rec → x.frame.number < k
      → IsBeforeAll (brought_from side a k xs) x
  before-brought x k [] le lt = All-nil _
  before-brought x k (y ∷ ys) le lt =
      All-cons (λ (z : SideFrame). comes_after x z ≡ false) (captured side k a y) (brought_from side a (k + 1) ys)
      (later_number x (captured side k a y) lt le)
      (before-brought x (k + 1) ys le (omega (arith, lt)))

  own-before : (arrivals : List Arrival) → All (λ (b : Arrival). b.rec ≤ a.rec) arrivals
      → (n offset k : ℕ) (xs ys : List Spelled) → n + length xs ≤ k
      → All (IsBeforeAll (brought_from side a k ys)) (captured_from side arrivals n offset xs)
  own-before arrivals h n offset k [] ys le = All-nil _
  own-before arrivals h n offset k (x ∷ xs) ys le =
      let upto = offset + (9 + x.header.length) in
      All-cons (IsBeforeAll (brought_from side a k ys)) (captured side n (byte_arrival arrivals (upto - 1)) x)
      (captured_from side arrivals (n + 1) upto xs)
      (before-brought (captured side n (byte_arrival arrivals (upto - 1)) x) k ys
      (rec_within (upto - 1) a.rec arrivals h) (omega (arith, le)))
      (own-before arrivals h (n + 1) upto k xs ys (omega (arith, le)))

  brought-ascending : (x : SideFrame) (k : ℕ) (xs : List Spelled) → x.frame.rec ≡ a.rec → x.frame.number < k
      → IsAscendingFrom x (brought_from side a k xs)
  brought-ascending x k [] same lt = tt
  brought-ascending x k (y ∷ ys) same lt = (
    later_number x (captured side k a y) lt (omega (arith, same)),
    brought-ascending (captured side k a y) (k + 1) ys refl (omega arith),
  )

  brought-arrive : (k : ℕ) (xs : List Spelled)
      → All (λ (x : SideFrame). x.frame.rec ≡ a.rec) (brought_from side a k xs)
  brought-arrive k [] = All-nil _
  brought-arrive k (y ∷ ys) =
      All-cons (λ (x : SideFrame). x.frame.rec ≡ a.rec) (captured side k a y) (brought_from side a (k + 1) ys) refl
      (brought-arrive (k + 1) ys)

  brought-in_order : (k : ℕ) (xs : List Spelled)
      → ordered_by comes_after (brought_from side a k xs) ≡ brought_from side a k xs
  brought-in_order k [] = refl
  brought-in_order k (y ∷ ys) =
      ordered-ascending (brought_from side a k (y ∷ ys)) (brought-ascending (captured side k a y) (k + 1) ys refl
      (omega arith))

  brought-there : (k : ℕ) (xs : List Spelled) → AreThereWith a.rec (brought_from side a k xs)
  brought-there k xs = record { arrive = brought-arrive k xs; in_order = brought-in_order k xs }

-- the other side's frames come before
other-before : (side : Side) (arrivals : List Arrival) (rec n offset : ℕ) (xs : List Spelled) → 0 < rec
    → All (λ (b : Arrival). b.rec < rec) arrivals → AreBefore rec (captured_from side arrivals n offset xs)
other-before side arrivals rec n offset [] some h = All-nil _
other-before side arrivals rec n offset (x ∷ xs) some h =
    let upto = offset + (9 + x.header.length) in
    All-cons (λ (y : SideFrame). y.frame.rec < rec) (captured side n (byte_arrival arrivals (upto - 1)) x)
    (captured_from side arrivals (n + 1) upto xs) (rec_before (upto - 1) rec arrivals some h)
    (other-before side arrivals rec (n + 1) upto xs some h)

-- numbered, they are the frames that a source brings
numbered-brought : (source : Source) (upto n k : ℕ) (xs : List Spelled)
    → numbered n (brought_from source.side (record { upto = upto; rec = source.rec; nanos = source.nanos }) k xs)
    ≡ frames_from source n xs
numbered-brought source upto n k [] = refl
numbered-brought source upto n k (x ∷ xs) =
    ap (λ l. (captured source.side n (record { upto = 0; rec = source.rec; nanos = source.nanos }) x).frame ∷ l)
    (numbered-brought source upto (n + 1) (k + 1) xs)

numbered-length : (n : ℕ) (xs : List SideFrame) → length (numbered n xs) ≡ length xs
numbered-length n [] = refl
numbered-length n (x ∷ xs) = omega (arith, numbered-length (n + 1) xs)

pub capture_order-length : (client server : List SideFrame)
    → length (capture_order client server) ≡ length client + length server
capture_order-length client server =
    omega (
      arith,
      numbered-length 1 (ordered_by comes_after (client ++ server)),
      ordered-length (client ++ server),
      length-append client server,
    )

module _ (source : Source) (fed : Sides Fed) (upto : ℕ) where
  -- the last arrival
  abbrev last : Arrival
  last = record { upto = upto; rec = source.rec; nanos = source.nanos }

  numbered_on : (side : Side) → source.side ≡ side → (client server : List SideFrame) (k : ℕ) (ys : List Spelled)
      → capture_order client server ++ numbered (1 + (length client + length server)) (brought_from side last k ys)
      ≡ capture_order client server ++ frames_from source (length (capture_order client server) + 1) ys
  numbered_on side same client server k ys =
      let count : 1 + (length client + length server) ≡ length (capture_order client server) + 1 =
      omega (arith, capture_order-length client server) in
      ap (λ (l : List Frame). capture_order client server ++ l)
      (ap (λ (s : Side). numbered (1 + (length client + length server)) (brought_from s last k ys)) (sym same)
      ∙ numbered-brought source upto (1 + (length client + length server)) k ys
      ∙ ap (λ (n : ℕ). frames_from source n ys) count)

  pub client_order : source.side ≡ Client → MayBring source.rec fed.client fed.server
      → (start other : ℕ) (xs ss ys : List Spelled)
      → capture_order
      (captured_from Client fed.client.arrivals 1 start xs ++ brought_from Client last (1 + length xs) ys)
      (captured_from Server fed.server.arrivals 1 other ss)
      ≡ capture_order (captured_from Client fed.client.arrivals 1 start xs)
      (captured_from Server fed.server.arrivals 1 other ss)
      ++ frames_from source (length (capture_order (captured_from Client fed.client.arrivals 1 start xs)
      (captured_from Server fed.server.arrivals 1 other ss)) + 1) ys
  client_order same may start other xs ss ys =
      let client = captured_from Client fed.client.arrivals 1 start xs in
      let server = captured_from Server fed.server.arrivals 1 other ss in
      client-grows source.rec (brought_from Client last (1 + length xs) ys)
      (brought-there Client last (1 + length xs) ys) client server
      (own-before Client last fed.client.arrivals may.own_before 1 start (1 + length xs) xs ys (omega arith))
      (other-before Server fed.server.arrivals source.rec 1 other ss may.counted may.other_before)
      ∙ numbered_on Client same client server (1 + length xs) ys

  pub server_order : source.side ≡ Server → MayBring source.rec fed.server fed.client
      → (start other : ℕ) (cs xs ys : List Spelled)
      → capture_order (captured_from Client fed.client.arrivals 1 other cs)
      (captured_from Server fed.server.arrivals 1 start xs ++ brought_from Server last (1 + length xs) ys)
      ≡ capture_order (captured_from Client fed.client.arrivals 1 other cs)
      (captured_from Server fed.server.arrivals 1 start xs)
      ++ frames_from source (length (capture_order (captured_from Client fed.client.arrivals 1 other cs)
      (captured_from Server fed.server.arrivals 1 start xs)) + 1) ys
  server_order same may start other cs xs ys =
      let client = captured_from Client fed.client.arrivals 1 other cs in
      let server = captured_from Server fed.server.arrivals 1 start xs in
      server-grows source.rec (brought_from Server last (1 + length xs) ys)
      (brought-there Server last (1 + length xs) ys) client server
      (other-before Client fed.client.arrivals source.rec 1 other cs may.counted may.other_before)
      (own-before Server last fed.server.arrivals may.own_before 1 start (1 + length xs) xs ys (omega arith))
      ∙ numbered_on Server same client server (1 + length xs) ys
