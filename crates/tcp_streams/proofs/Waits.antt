-- On a connection whose server's number may not be known yet.
use Rattle.tcp_streams.proofs.Words.{◌≡◌, ℕ, ◌<◌, ◌≤◌, true, false, List, [], ◌∷◌, ◌++◌, Option, None, Some, refl}
use Rattle.tcp_streams.proofs.Words.{sym, ◌∙◌, arith, ap, append-nil, append_assoc, is_endpoint, Segment}
use Rattle.tcp_streams.proofs.Words.{All-head, All-nil, All-tail, All-push, Server, Source, source}
use Rattle.tcp_streams.proofs.Words.{◌^◌, payload_sum, sum_by-cons}
use Rattle.tcp_streams.proofs.Words.{payload_length, option_or, if◌then◌else◌, none-some, false≢true, length}
use Rattle.tcp_streams.proofs.Words.{le-ltb}
use Rattle.std.proofs.Common.{subst}
use Rattle.packet_heads.specs.declared.packets.Endpoint.{Endpoint}
use Rattle.tcp_streams.specs.{code.Grown.Growth}
use Rattle.tcp_streams.specs.{code.Grown.of_side}
use Rattle.tcp_streams.specs.{Sequence.brings, Sequence.distance}
use Rattle.tcp_streams.specs.code.{SideFlow.IsSideFlow}
use Rattle.tcp_streams.specs.code.Side.{AreSentIn, IsSent, IsSideStage, Sent, segments_among}
use Rattle.tcp_streams.specs.code.Taken.{AreSameSides, AreTaken, IsNextSent, ServerStands, number_of, sent_by}
use Rattle.tcp_streams.specs.code.Flows.{AreEmpty, AreWaiting, HasTakenAll, IsOpenedBy, MayFollow, RiseAbove, Waits}
use Rattle.tcp_streams.specs.code.Past.{answers}
use Rattle.tcp_streams.specs.code.Flows.{has_to_wait, is_answered, last_of, server_number}
use Rattle.tcp_streams.specs.declared.{both_sides.BothSides.BothSides, side_stage.SideStage.SideStage}
use Rattle.tcp_streams.specs.declared.{connection_flows.ConnectionFlows.ConnectionFlows, waiting.Waiting.Waiting}
use Rattle.tcp_streams.proofs.Lists.{by_Bool, by_lt}
use Rattle.tcp_streams.proofs.{Both.sent_by-more, Both.sent_by-same, Rooms.sent-sum}

-- segments without payload bring nothing
no-source : (initial : ℕ) (sent : List Sent) (o : ℕ) → AreEmpty sent
    → source initial (segments_among sent) o ≡ None
no-source initial [] o h = refl
no-source initial (one ∷ sent) o h =
    let P = λ (one : Sent). payload_length one.0 ≡ 0 in
    let none = All-head P one sent h in
    let here : brings initial one.0 o ≡ None =
    rw (le-ltb (distance initial one.0 o) (payload_length one.0) (omega (arith, none))) refl in
    rw (here, no-source initial sent o (All-tail P one sent h)) refl

none-sent : (of : Option (List ℕ)) → AreSentIn of []
none-sent None = tt
none-sent (Some capture) = All-nil _

pub stage-empty : (sent : List Sent) (stage : SideStage) → AreEmpty sent → IsSideStage [] [] stage
    → IsSideStage sent [] stage
stage-empty sent stage empty h =
    let same : (λ (o : ℕ). None) ≡ source stage.initial_number (segments_among sent) =
    (λ i. λ o. sym (no-source stage.initial_number sent o empty) i) in record {
      stands = subst (λ (F : ℕ → Option Source). IsSideFlow F stage.flow) same h.stands;
      holds = λ of _. h.holds of (none-sent of);
      reaches = h.reaches;
      bytes_are = λ capture _ o lt. absurd (omega (arith, lt));
      rises = h.rises;
      arrivals_are = λ o lt. absurd (omega (arith, lt, h.reaches));
    }

-- the server's number, with one segment more
pub number-more : (client : Endpoint) (sent : List Sent) (s : Segment) (payload : List ℕ)
    → server_number client (sent ++ (s, payload) ∷ [])
    ≡ option_or (server_number client sent) (if answers client s then Some s.seq else None)
number-more client [] s payload =
    by_Bool (answers client s) (λ e. rw e refl) (λ e. rw e refl)
number-more client (one ∷ sent) s payload =
    by_Bool (answers client one.0) (λ e. rw e refl) (λ e. rw e (number-more client sent s payload))

-- records that rise
pub rise-push : (low : ℕ) (sent : List Sent) (one : Sent) → RiseAbove low sent → last_of low sent < one.0.rec
    → RiseAbove low (sent ++ one ∷ [])
rise-push low [] one h lt = (lt, tt)
rise-push low (first ∷ sent) one h lt = (h.0, rise-push first.0.rec sent one h.1 lt)

pub last-push : (low : ℕ) (sent : List Sent) (one : Sent) → last_of low (sent ++ one ∷ []) ≡ one.0.rec
last-push low [] one = refl
last-push low (first ∷ sent) one = last-push first.0.rec sent one

pub last-after : (low : ℕ) (sent : List Sent) → RiseAbove low sent → low ≤ last_of low sent
last-after low [] h = omega arith
last-after low (one ∷ sent) h = omega (arith, h.0, last-after one.0.rec sent h.1)

-- who opened a connection stays
opened-same : {V : Type 0} (opening : Segment) (old new : BothSides V) → IsOpenedBy opening old → AreSameSides old new
    → IsOpenedBy opening new
opened-same opening old new opened same =
    record { client = same.client ∙ opened.client; number = same.client_number ∙ opened.number }

-- a segment that has to wait tells no number, and the number is not known
pub waits-unknown : (client : Endpoint) (server : Option SideStage) (waiting : List Sent) (s : Segment)
    (payload : List ℕ) → has_to_wait client server waiting s payload ≡ true
    → (server ≡ None) × (answers client s ≡ false)
waits-unknown client (Some stage) waiting s payload h = absurd (false≢true h)
waits-unknown client None waiting s payload h =
    (refl, by_Bool (answers client s) (λ e. absurd (false≢true (rw e at h))) (λ e. e))

-- one that tells the number, which is not known
pub answered-is : (client : Endpoint) (server : Option SideStage) (s : Segment) → is_answered client server s ≡ true
    → (server ≡ None) × (answers client s ≡ true)
answered-is client None s h = (refl, h)
answered-is client (Some stage) s h = absurd (false≢true h)

-- one that has not to wait, and is no answer to one that is not known: none wait, and it is not the server's payload
pub waits-not : (client : Endpoint) (waiting : List Sent) (s : Segment) (payload : List ℕ)
    → has_to_wait client None waiting s payload ≡ false → answers client s ≡ false
    → (waiting ≡ []) × (is_endpoint s.from client ≡ false → length payload ≡ 0)
waits-not client [] s payload h e = (
  refl,
  λ apart. by_lt 0 (length payload)
      (λ t lt. absurd (false≢true (sym h ∙ rw (e, apart, t) refl)))
      (λ t le. omega (arith, le)),
)
waits-not client (one ∷ waiting) s payload h e = absurd (false≢true (sym h ∙ rw e refl))

pub unknown-is : (client : Endpoint) (server : Option SideStage) (waiting : List Sent) (s : Segment)
    (payload : List ℕ) → has_to_wait client server waiting s payload ≡ false → is_answered client server s ≡ false
    → server ≡ None
    → (answers client s ≡ false) × (is_endpoint s.from client ≡ false → length payload ≡ 0)
unknown-is client None waiting s payload h e none = (e, (waits-not client waiting s payload h e).1)
unknown-is client (Some stage) waiting s payload h e none = absurd (none-some stage (sym none))

pub none-waits : (client : Endpoint) (taken waiting : List Sent) (server : Option SideStage) (s : Segment)
    (payload : List ℕ) → Waits client taken waiting server → has_to_wait client server waiting s payload ≡ false
    → is_answered client server s ≡ false → waiting ≡ []
none-waits client taken waiting None s payload w h e = (waits-not client waiting s payload h e).0
none-waits client taken waiting (Some stage) s payload w h e = w

module _ {V : Type 0} (after : List Growth → V → Type 0) where
  -- what comes next of all comes next of those that were taken
  pub next-of-taken : (opening : Segment) (sent : List Sent) (last : ℕ) (flows : ConnectionFlows V)
      (h : HasTakenAll after opening sent last flows) (s : Segment) → IsNextSent sent last s
      → IsNextSent h.taken h.low s
  next-of-taken opening sent last flows h s next = record {
    above = omega (arith, last-after h.low h.waiting h.follow.rise, h.last_is, next.above);
    room = omega (
      arith,
      ap (λ (l : List Sent). payload_sum (segments_among l)) h.split,
      sent-sum h.taken h.waiting,
      next.room,
    );
  }

  -- the server's side, from the SYN ACK on
  pub server-begun : (taken waiting : List Sent) (low : ℕ) (both : BothSides V) (stage : SideStage)
      → AreTaken after taken low both → both.server_side ≡ None → Waits both.client taken waiting both.server_side
      → IsSideStage [] [] stage → stage.side ≡ Server
      → AreTaken after taken low
      (record {
        client = both.client;
        client_side = both.client_side;
        server_side = Some stage;
        visitor = both.visitor;
      })
  server-begun taken waiting low both stage h none waits new side =
      let by-server = sent_by both.client Server taken in
      let nothing = subst (λ s. ServerStands by-server (of_side Server h.grown) s) none h.server_is in
      let empty = subst (λ s. Waits both.client taken waiting s) none waits in record {
        grown = h.grown;
        visited = h.visited;
        client_side = h.client_side;
        client_is = h.client_is;
        server_is = (
          subst (λ gs. IsSideStage by-server gs stage) (sym nothing) (stage-empty by-server stage empty new),
          side,
        );
        sent_upto = h.sent_upto;
        grown_upto = h.grown_upto;
      }

  module _ (opening : Segment) (sent : List Sent) (last : ℕ) (flows : ConnectionFlows V)
      (h : HasTakenAll after opening sent last flows) (s : Segment) (payload : List ℕ) (is : IsSent s payload)
      (next : IsNextSent sent last s) where
    abbrev one : Sent
    one = (s, payload)

    short-more : payload_sum (segments_among (sent ++ one ∷ [])) < 2 ^ 31
    short-more =
        omega (arith, sent-sum sent (one ∷ []), sum_by-cons payload_length s [], next.room)

    -- of no segments that wait
    none-follow : (taken : List Sent) (low : ℕ) → payload_sum (segments_among taken) < 2 ^ 31 → MayFollow taken low []
    none-follow taken low short = record {
      each = All-nil (λ (one : Sent). IsSent one.0 one.1);
      rise = tt;
      short = rw (append-nil taken) short;
    }

    -- the segment waits
    pub waits-more : (waiting : Waiting) → AreWaiting (h.waiting ++ one ∷ []) waiting
        → has_to_wait flows.both.client flows.both.server_side h.waiting s payload ≡ true
        → HasTakenAll after opening (sent ++ one ∷ []) s.rec (record { both = flows.both; waiting = waiting })
    waits-more waiting waits-now has =
        let (none, no-answer) = waits-unknown flows.both.client flows.both.server_side h.waiting s payload has in
        let before : number_of flows.both.server_side ≡ None = ap number_of none in
        let split : sent ++ one ∷ [] ≡ h.taken ++ (h.waiting ++ one ∷ []) =
        ap (λ (l : List Sent). l ++ one ∷ []) h.split ∙ append_assoc h.taken h.waiting (one ∷ []) in record {
          taken = h.taken;
          waiting = h.waiting ++ one ∷ [];
          low = h.low;
          split = split;
          opened = h.opened;
          are_taken = h.are_taken;
          are_waiting = waits-now;
          follow = record {
            each = All-push (λ (one : Sent). IsSent one.0 one.1) h.waiting one h.follow.each is;
            rise = rise-push h.low h.waiting one h.follow.rise (omega (arith, h.last_is, next.above));
            short = rw split at short-more;
          };
          last_is = last-push h.low h.waiting one;
          waits = subst (λ server. Waits flows.both.client h.taken (h.waiting ++ one ∷ []) server) (sym none)
              (subst (λ server. Waits flows.both.client h.taken h.waiting server) none h.waits);
          number = before
              ∙ sym (number-more flows.both.client sent s payload
              ∙ rw (no-answer, sym h.number ∙ before) refl);
        }

    -- the segment is taken, where none waits
    module _ (none : h.waiting ≡ []) (both : BothSides V) (same : AreSameSides flows.both both)
        (now : AreTaken after (h.taken ++ one ∷ []) s.rec both)
        (unknown : flows.both.server_side ≡ None
        → (answers flows.both.client s ≡ false) × (is_endpoint s.from flows.both.client ≡ false → length payload ≡ 0))
      where
        sent-is : sent ≡ h.taken
        sent-is = h.split ∙ ap (λ (l : List Sent). h.taken ++ l) none ∙ append-nil h.taken

        empty-more : AreEmpty (sent_by flows.both.client Server h.taken)
            → (is_endpoint s.from flows.both.client ≡ false → length payload ≡ 0)
            → AreEmpty (sent_by flows.both.client Server (h.taken ++ one ∷ []))
        empty-more empty others =
            by_Bool (is_endpoint s.from flows.both.client)
            (λ e. subst (λ (l : List Sent). AreEmpty l)
            (sym (sent_by-same flows.both.client Server h.taken one (rw e refl))) empty)
            (λ e. subst (λ (l : List Sent). AreEmpty l)
            (sym (sent_by-more flows.both.client Server h.taken one (rw e refl)))
            (All-push (λ (one : Sent). payload_length one.0 ≡ 0) (sent_by flows.both.client Server h.taken) one empty
            (sym is.size ∙ others e)))

        waits-still : (old new : Option SideStage) → flows.both.server_side ≡ old → number_of new ≡ number_of old
            → Waits flows.both.client (h.taken ++ one ∷ []) [] new
        waits-still old (Some stage) e f = refl
        waits-still (Some stage) None e f = absurd (none-some stage.initial_number f)
        waits-still None None e f =
            empty-more (subst (λ server. Waits flows.both.client h.taken h.waiting server) e h.waits) (unknown e).1

        number-still : (old : Option SideStage) → flows.both.server_side ≡ old
            → number_of old ≡ server_number flows.both.client (sent ++ one ∷ [])
        number-still old e =
            let was : number_of old ≡ server_number flows.both.client sent = ap number_of (sym e) ∙ h.number in
            by-old old e was
          where
            by-old : (old : Option SideStage) → flows.both.server_side ≡ old
                → number_of old ≡ server_number flows.both.client sent
                → number_of old ≡ server_number flows.both.client (sent ++ one ∷ [])
            by-old (Some stage) e was = sym (number-more flows.both.client sent s payload ∙ rw (← was) refl)
            by-old None e was =
                sym (number-more flows.both.client sent s payload ∙ rw (← was, (unknown e).0) refl)

        pub taken-now : AreWaiting [] flows.waiting
            → HasTakenAll after opening (sent ++ one ∷ []) s.rec (record { both = both; waiting = flows.waiting })
        taken-now waiting-is = record {
          taken = h.taken ++ one ∷ [];
          waiting = [];
          low = s.rec;
          split = ap (λ (l : List Sent). l ++ one ∷ []) sent-is ∙ sym (append-nil (h.taken ++ one ∷ []));
          opened = opened-same opening flows.both both h.opened same;
          are_taken = now;
          are_waiting = waiting-is;
          follow = none-follow (h.taken ++ one ∷ []) s.rec
              (rw (ap (λ (l : List Sent). l ++ one ∷ []) sent-is) at short-more);
          last_is = refl;
          waits = subst (λ client. Waits client (h.taken ++ one ∷ []) [] both.server_side) (sym same.client)
              (waits-still flows.both.server_side both.server_side refl same.server_number);
          number = same.server_number
              ∙ subst (λ client. number_of flows.both.server_side ≡ server_number client (sent ++ one ∷ []))
              (sym same.client) (number-still flows.both.server_side refl);
        }

    -- the segment is the answer
    pub answered-now : (begun both : BothSides V) (waiting : Waiting) → flows.both.server_side ≡ None
        → answers flows.both.client s ≡ true → AreTaken after (sent ++ one ∷ []) s.rec both
        → begun.client ≡ flows.both.client
        → begun.client_side.initial_number ≡ flows.both.client_side.initial_number
        → number_of begun.server_side ≡ Some s.seq → AreSameSides begun both
        → AreWaiting [] waiting
        → HasTakenAll after opening (sent ++ one ∷ []) s.rec (record { both = both; waiting = waiting })
    answered-now begun both waiting none answer now client client-number number same waiting-is =
        let known : number_of both.server_side ≡ Some s.seq = same.server_number ∙ number in
        let before : server_number flows.both.client sent ≡ None = sym h.number ∙ ap number_of none in record {
          taken = sent ++ one ∷ [];
          waiting = [];
          low = s.rec;
          split = sym (append-nil (sent ++ one ∷ []));
          opened = record {
            client = same.client ∙ client ∙ h.opened.client;
            number = same.client_number ∙ client-number ∙ h.opened.number;
          };
          are_taken = now;
          are_waiting = waiting-is;
          follow = none-follow (sent ++ one ∷ []) s.rec short-more;
          last_is = refl;
          waits = by-known both.server_side known;
          number = known
              ∙ subst (λ client. Some s.seq ≡ server_number client (sent ++ one ∷ [])) (sym (same.client ∙ client))
              (sym (number-more flows.both.client sent s payload ∙ rw (before, answer) refl));
        }
      where
        by-known : (server : Option SideStage) → number_of server ≡ Some s.seq
            → Waits both.client (sent ++ one ∷ []) [] server
        by-known None e = absurd (none-some s.seq e)
        by-known (Some stage) e = refl
