-- On both sides of a connection whose segments are taken.
use Rattle.tcp_streams.proofs.Words.{◌≡◌, ℕ, ◌<◌, ◌≤◌, true, false, List, [], ◌∷◌, ◌++◌, Option, Some, refl}
use Rattle.tcp_streams.proofs.Words.{sym, ◌∙◌, arith, ap, All, append-nil, is_endpoint, Side, Segment}
use Rattle.tcp_streams.proofs.Words.{All-cons, All-head, All-tail, All-weaker, All-push, Client, Server, length}
use Rattle.tcp_streams.proofs.Words.{◌+◌, ◌^◌, payload_length, payload_sum}
use Rattle.audit_terms.specs.Side.{is_side}
use Rattle.std.proofs.Common.{subst}
use Rattle.std.proofs.lemmas.List.{Elements.filter-append}
use Rattle.packet_heads.specs.declared.packets.Endpoint.{Endpoint}
use Rattle.tcp_streams.specs.code.Grown.{Growth, bytes_grown, of_side}
use Rattle.tcp_streams.specs.code.Side.{AreOfRecord, ComesNext, IsSideStage, Sent, segments_among}
use Rattle.tcp_streams.specs.code.Taken.{AreSameSides, AreTaken, IsNextSent, ServerStands, is_by, sent_by}
use Rattle.tcp_streams.specs.declared.{both_sides.BothSides.BothSides, side_stage.SideStage.SideStage}
use Rattle.tcp_streams.proofs.Rooms.{both-grown, both-sent, server-fits, stage-fits}
use Rattle.tcp_streams.proofs.Staging.{filter-each, of_side-all, of_side-append}

-- the growths of one side are none of the other's
pub of_side-none : (side other : Side) (gs : List Growth) → is_side other side ≡ false
    → All (λ (g : Growth). g.side ≡ side) gs → of_side other gs ≡ []
of_side-none side other [] apart h = refl
of_side-none side other (g ∷ gs) apart h =
    let here : is_side other g.side ≡ false =
    ap (is_side other) (All-head (λ (g : Growth). g.side ≡ side) g gs h) ∙ apart in
    rw here (of_side-none side other gs apart (All-tail (λ (g : Growth). g.side ≡ side) g gs h))

-- the growths of a record, and others
pub sides-of : (side : Side) (s : Segment) (more : List Growth) → AreOfRecord side s more
    → All (λ (g : Growth). g.side ≡ side) more
sides-of side s more h =
    All-weaker (λ (g : Growth). (g.side ≡ side) × (g.rec ≡ s.rec) × (g.nanos ≡ s.nanos))
    (λ (g : Growth). g.side ≡ side) (λ g is. is.0) more h

pub recs-of : (side : Side) (s : Segment) (more : List Growth) → AreOfRecord side s more
    → All (λ (g : Growth). g.rec ≤ s.rec) more
recs-of side s more h =
    All-weaker (λ (g : Growth). (g.side ≡ side) × (g.rec ≡ s.rec) × (g.nanos ≡ s.nanos))
    (λ (g : Growth). g.rec ≤ s.rec) (λ g is. omega (arith, is.1)) more h

all-append : {X : Type 0} (P : X → Type 0) (xs ys : List X) → All P xs → All P ys → All P (xs ++ ys)
all-append P [] ys h k = k
all-append P (x ∷ xs) ys h k =
    All-cons P x (xs ++ ys) (All-head P x xs h) (all-append P xs ys (All-tail P x xs h) k)

-- a segment more, of the side or not
module _ (client : Endpoint) (side : Side) (sent : List Sent) (one : Sent) where
  pub sent_by-more : is_by client side one.0 ≡ true
      → sent_by client side (sent ++ one ∷ []) ≡ sent_by client side sent ++ one ∷ []
  sent_by-more is =
      filter-append (λ (one : Sent). is_by client side one.0) sent (one ∷ [])
      ∙ ap (λ (l : List Sent). sent_by client side sent ++ l) (rw is refl)

  pub sent_by-same : is_by client side one.0 ≡ false
      → sent_by client side (sent ++ one ∷ []) ≡ sent_by client side sent
  sent_by-same is =
      filter-append (λ (one : Sent). is_by client side one.0) sent (one ∷ [])
      ∙ ap (λ (l : List Sent). sent_by client side sent ++ l) (rw is refl)
      ∙ append-nil (sent_by client side sent)

module _ {V : Type 0} (after : List Growth → V → Type 0) (sent : List Sent) (last : ℕ) (both : BothSides V)
    (h : AreTaken after sent last both) (s : Segment) (payload : List ℕ) (next : IsNextSent sent last s) where
  lt : last < s.rec
  lt = next.above

  -- beside the other side, there is room for its payload
  room : (side : Side)
      → length (bytes_grown h.grown) + payload_sum (segments_among (sent_by both.client side sent)) + payload_length s
      < 2 ^ 31 + length (bytes_grown (of_side side h.grown))
  room Client =
      omega (
        arith,
        next.room,
        both-grown h.grown,
        both-sent both.client sent,
        server-fits (sent_by both.client Server sent) (of_side Server h.grown) both.server_side h.server_is,
      )
  room Server =
      omega (
        arith,
        next.room,
        both-grown h.grown,
        both-sent both.client sent,
        stage-fits (sent_by both.client Client sent) (of_side Client h.grown) both.client_side h.client_is,
      )

  comes : (side : Side) → ComesNext side (sent_by both.client side sent) h.grown s
  comes side = record {
    sent_before = filter-each (λ (one : Sent). is_by both.client side one.0) (λ (one : Sent). one.0.rec < s.rec) sent
        (All-weaker (λ (one : Sent). one.0.rec ≤ last) (λ (one : Sent). one.0.rec < s.rec)
        (λ one le. omega (arith, le, lt)) sent h.sent_upto);
    grown_before = All-weaker (λ (g : Growth). g.rec ≤ last) (λ (g : Growth). g.rec < s.rec)
        (λ g le. omega (arith, le, lt)) h.grown h.grown_upto;
    room = room side;
  }

  -- so it comes next for the stage of its side
  pub comes-next : (side : Side) (stage : SideStage) → stage.side ≡ side
      → ComesNext stage.side (sent_by both.client side sent) h.grown s
  comes-next side stage is =
      subst (λ (x : Side). ComesNext x (sent_by both.client side sent) h.grown s) (sym is) (comes side)

  sent-upto : All (λ (one : Sent). one.0.rec ≤ s.rec) (sent ++ (s, payload) ∷ [])
  sent-upto =
      All-push (λ (one : Sent). one.0.rec ≤ s.rec) sent (s, payload)
      (All-weaker (λ (one : Sent). one.0.rec ≤ last) (λ (one : Sent). one.0.rec ≤ s.rec)
      (λ one le. omega (arith, le, lt)) sent h.sent_upto)
      (omega arith)

  grown-upto : (side : Side) (more : List Growth) → AreOfRecord side s more
      → All (λ (g : Growth). g.rec ≤ s.rec) (h.grown ++ more)
  grown-upto side more are =
      all-append (λ (g : Growth). g.rec ≤ s.rec) h.grown more
      (All-weaker (λ (g : Growth). g.rec ≤ last) (λ (g : Growth). g.rec ≤ s.rec)
      (λ g le. omega (arith, le, lt)) h.grown h.grown_upto)
      (recs-of side s more are)

  -- the growths of either side, with more of one
  own : (side : Side) (more : List Growth) → AreOfRecord side s more
      → of_side side (h.grown ++ more) ≡ of_side side h.grown ++ more
  own side more are =
      of_side-append side h.grown more
      ∙ ap (λ l. of_side side h.grown ++ l) (of_side-all side more (sides-of side s more are))

  others : (side other : Side) (more : List Growth) → is_side other side ≡ false → AreOfRecord side s more
      → of_side other (h.grown ++ more) ≡ of_side other h.grown
  others side other more apart are =
      of_side-append other h.grown more
      ∙ ap (λ l. of_side other h.grown ++ l) (of_side-none side other more apart (sides-of side s more are))
      ∙ append-nil (of_side other h.grown)

  server-same : (stage : Option SideStage) (xs ys : List Sent) (gs hs : List Growth) → xs ≡ ys → gs ≡ hs
      → ServerStands xs gs stage → ServerStands ys hs stage
  server-same stage xs ys gs hs e f k =
      subst (λ (l : List Sent). ServerStands l hs stage) e (subst (λ (l : List Growth). ServerStands xs l stage) f k)

  pub client-taken : (visitor : V) (stage : SideStage) (more : List Growth) → is_endpoint s.from both.client ≡ true
      → after (h.grown ++ more) visitor → AreOfRecord Client s more → stage.side ≡ both.client_side.side
      → IsSideStage (sent_by both.client Client sent ++ (s, payload) ∷ []) (of_side Client h.grown ++ more) stage
      → AreTaken after (sent ++ (s, payload) ∷ []) s.rec
      (record { client = both.client; client_side = stage; server_side = both.server_side; visitor = visitor })
  client-taken visitor stage more is visited are side taken = record {
    grown = h.grown ++ more;
    visited = visited;
    client_side = side ∙ h.client_side;
    client_is = subst (λ (l : List Sent). IsSideStage l (of_side Client (h.grown ++ more)) stage)
        (sym (sent_by-more both.client Client sent (s, payload) is))
        (subst (λ (l : List Growth). IsSideStage (sent_by both.client Client sent ++ (s, payload) ∷ []) l stage)
        (sym (own Client more are)) taken);
    server_is = server-same both.server_side (sent_by both.client Server sent)
        (sent_by both.client Server (sent ++ (s, payload) ∷ [])) (of_side Server h.grown)
        (of_side Server (h.grown ++ more))
        (sym (sent_by-same both.client Server sent (s, payload) (rw is refl)))
        (sym (others Client Server more refl are)) h.server_is;
    sent_upto = sent-upto;
    grown_upto = grown-upto Client more are;
  }

  pub server-taken : (visitor : V) (old stage : SideStage) (more : List Growth)
      → is_endpoint s.from both.client ≡ false → after (h.grown ++ more) visitor → AreOfRecord Server s more
      → stage.side ≡ Server
      → IsSideStage (sent_by both.client Server sent ++ (s, payload) ∷ []) (of_side Server h.grown ++ more) stage
      → AreTaken after (sent ++ (s, payload) ∷ []) s.rec
      (record { client = both.client; client_side = both.client_side; server_side = Some stage; visitor = visitor })
  server-taken visitor old stage more not-is visited are side taken = record {
    grown = h.grown ++ more;
    visited = visited;
    client_side = h.client_side;
    client_is = subst (λ (l : List Sent). IsSideStage l (of_side Client (h.grown ++ more)) both.client_side)
        (sym (sent_by-same both.client Client sent (s, payload) not-is))
        (subst (λ (l : List Growth). IsSideStage (sent_by both.client Client sent) l both.client_side)
        (sym (others Server Client more refl are)) h.client_is);
    server_is = (
      subst (λ (l : List Sent). IsSideStage l (of_side Server (h.grown ++ more)) stage)
          (sym (sent_by-more both.client Server sent (s, payload) (rw not-is refl)))
          (subst (λ (l : List Growth). IsSideStage (sent_by both.client Server sent ++ (s, payload) ∷ []) l stage)
          (sym (own Server more are)) taken),
      side,
    );
    sent_upto = sent-upto;
    grown_upto = grown-upto Server more are;
  }

-- what stays the same twice
pub same-more : {V : Type 0} (a b c : BothSides V) → AreSameSides a b → AreSameSides b c → AreSameSides a c
same-more a b c h k = record {
  client = k.client ∙ h.client;
  client_number = k.client_number ∙ h.client_number;
  server_number = k.server_number ∙ h.server_number;
}
