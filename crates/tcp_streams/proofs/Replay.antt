-- On segments that wait, and are taken in their turn.
use Rattle.tcp_streams.proofs.Words.{◌≡◌, ℕ, ◌<◌, ◌≤◌, List, [], ◌∷◌, ◌++◌, refl, sym, ◌∙◌, arith, zero, suc, ap}
use Rattle.tcp_streams.proofs.Words.{◌+◌, ◌-◌, length, drop, take, get_or, append_assoc, length-append}
use Rattle.tcp_streams.proofs.Words.{Segment, length-map, get_or-map, append-nil, payload_length, payload_sum}
use Rattle.tcp_streams.proofs.Words.{sum_by-cons, take-append-drop}
use Rattle.std.proofs.Common.{subst}
use Rattle.std.proofs.lemmas.List.{Elements.All-get_or, drop_at, drop_more, take_at, take_more}
use Rattle.tcp_streams.specs.code.Flows.{HasSegments, MayFollow, RiseAbove, last_of, payloads}
use Rattle.tcp_streams.specs.code.Side.{IsSent, Sent, segments_among}
use Rattle.tcp_streams.specs.code.{Taken.IsNextSent}
use Rattle.tcp_streams.proofs.Rooms.{sent-sum}
use Rattle.tcp_streams.specs.declared.waiting.WaitingSegments.{WaitingSegments}

pub payloads-append : (xs ys : List Sent) → payloads (xs ++ ys) ≡ payloads xs ++ payloads ys
payloads-append [] ys = refl
payloads-append (x ∷ xs) ys = rw (payloads-append xs ys) (sym (append_assoc x.1 (payloads xs) (payloads ys)))

pub payloads-push : (sent : List Sent) (one : Sent) → payloads (sent ++ one ∷ []) ≡ payloads sent ++ one.1
payloads-push sent one = payloads-append sent (one ∷ []) ∙ ap (λ l. payloads sent ++ l) (append-nil one.1)

-- a segment that is next of those that wait behind others, with the bytes from its payload on
pub record IsAt (taken : List Sent) (low : ℕ) (sent : List Sent) (k : ℕ) (s : Segment) (rest : List ℕ) : Type 0 where
  pub payload : List ℕ
  pub is_sent : IsSent s payload
  pub fits : s.hi - s.lo ≤ length rest
  pub front : take (s.hi - s.lo) rest ≡ payload
  pub back : drop (s.hi - s.lo) rest ≡ payloads (drop (k + 1) sent)
  pub next : IsNextSent (taken ++ take k sent) (last_of low (take k sent)) s
  pub last : last_of low (take (k + 1) sent) ≡ s.rec
  pub more : take (k + 1) sent ≡ take k sent ++ (s, payload) ∷ []

rises-to : (low : ℕ) (sent : List Sent) (k : ℕ) (d : Sent) → k < length sent → RiseAbove low sent
    → (last_of low (take k sent) < (get_or sent k d).0.rec)
    × (last_of low (take (k + 1) sent) ≡ (get_or sent k d).0.rec)
rises-to low [] k d lt h = absurd (omega (arith, lt))
rises-to low (one ∷ sent) zero d lt h = (h.0, refl)
rises-to low (one ∷ sent) (suc k) d lt h =
    let (before, last) = rises-to one.0.rec sent k d (omega (arith, lt)) h.1 in
    let next : suc k + 1 ≡ suc (k + 1) = omega arith in
    (before, ap (λ n. last_of low (take n (one ∷ sent))) next ∙ last)

pub is-at : (taken : List Sent) (low : ℕ) (sent : List Sent) (waiting : WaitingSegments) (k : ℕ) (s : Segment)
    (rest : List ℕ) → HasSegments sent waiting → MayFollow taken low sent → k < length waiting.segments.items
    → s ≡ get_or waiting.segments.items k s → rest ≡ payloads (drop k sent) → IsAt taken low sent k s rest
is-at taken low sent waiting k s rest w follow lt is rest-is =
    let d : Sent = (s, []) in
    let within : k < length sent =
    omega (arith, lt, ap length w.segments_are, length-map sent (λ (one : Sent). one.0)) in
    let one = get_or sent k d in
    let here : s ≡ one.0 =
    is ∙ ap (λ l. get_or l k s) w.segments_are ∙ get_or-map (λ (one : Sent). one.0) sent k d s within in
    let sent-is : IsSent one.0 one.1 = All-get_or (λ (one : Sent). IsSent one.0 one.1) sent k d within follow.each in
    let is-sent : IsSent s one.1 = subst (λ (t : Segment). IsSent t one.1) (sym here) sent-is in
    let all : rest ≡ one.1 ++ payloads (drop (k + 1) sent) =
    rest-is ∙ ap payloads (drop_more sent k d within) in
    let size : s.hi - s.lo ≡ length one.1 = sym is-sent.size in
    let (before, last) = rises-to low sent k d within follow.rise in
    let rec-is : one.0.rec ≡ s.rec = ap (λ (t : Segment). t.rec) (sym here) in
    let more : take (k + 1) sent ≡ take k sent ++ (s, one.1) ∷ [] =
    take_more sent k d within ∙ ap (λ (t : Segment). take k sent ++ (t, one.1) ∷ []) (sym here) in record {
      payload = one.1;
      is_sent = is-sent;
      fits = omega (arith, size, ap length all, length-append one.1 (payloads (drop (k + 1) sent)));
      front = ap (take (s.hi - s.lo)) all ∙ take_at one.1 (payloads (drop (k + 1) sent)) (s.hi - s.lo) is-sent.size;
      back = ap (drop (s.hi - s.lo)) all ∙ drop_at one.1 (payloads (drop (k + 1) sent)) (s.hi - s.lo) is-sent.size;
      next = record {
        above = omega (arith, before, rec-is);
        room = omega (
          arith,
          follow.short,
          sent-sum taken sent,
          ap (λ (l : List Sent). payload_sum (segments_among l)) (sym (take-append-drop (k + 1) sent)),
          sent-sum (take (k + 1) sent) (drop (k + 1) sent),
          ap (λ (l : List Sent). payload_sum (segments_among l)) more,
          sent-sum (take k sent) ((s, one.1) ∷ []),
          sum_by-cons payload_length s [],
          sent-sum taken (take k sent),
        );
      };
      last = last ∙ rec-is;
      more = more;
    }
