-- On packets that are numbered by their records: what their past is, and that members name segments.
use Rattle.tcp_streams.proofs.Words.{◌≡◌, ℕ, ◌<◌, ◌≤◌, List, [], ◌∷◌, Some, refl, sym, ◌∙◌, arith, zero, suc, ◌+◌, ◌-◌}
use Rattle.tcp_streams.proofs.Words.{◌++◌, length, drop, take, slice_get, ap, IsSome, get_or, map, All, common_steps}
use Rattle.tcp_streams.proofs.Words.{get_or-map, length-map, map-append, drop-drop, All-nil, All-weaker, All-head}
use Rattle.tcp_streams.proofs.Words.{All-tail, All-push, none-some, AreNumberedFrom, Packet, Carried, Segment}
use Rattle.tcp_streams.proofs.Words.{is_opening, segment_of, AreMembers, members, opening_at, openings, Membership}
use Rattle.tcp_streams.proofs.Words.{membership, connection_of, connections_of, past_after, past_of, with_packet}
use Rattle.tcp_streams.proofs.Words.{RecordsDescend}
use Rattle.tcp_streams.proofs.Words.{Connection, IfSome, get_or_from_slice_get, inl, inr, slice_get_within}
use Rattle.tcp_streams.proofs.{Lists.by_Bool, Past.RecordsDescend-weaker}
use Rattle.std.proofs.lemmas.List.{length-take, take_more, Elements.All-map}
use Rattle.std.proofs.lemmas.Option.{gets, slice_get_cases}
use Rattle.packet_heads.specs.code.Standing.{IsPassedOver}

pub past_after-push : (past : List Segment) (xs : List Packet) (p : Packet)
    → past_after past (xs ++ p ∷ []) ≡ with_packet (past_after past xs) p
past_after-push past [] p = refl
past_after-push past (x ∷ xs) p = past_after-push (with_packet past x) xs p

-- the past of one more packet
pub past_of-more : (packets : List Packet) (i : ℕ) (p : Packet) → slice_get packets i ≡ Some p
    → past_of (take (i + 1) packets) ≡ with_packet (past_of (take i packets)) p
past_of-more packets i p is =
    rw (take_more packets i p (slice_get_within packets i p is), get_or_from_slice_get packets i p p is)
    (past_after-push [] (take i packets) p)

with_packet-passed : (past : List Segment) (p : Packet) → IsPassedOver p → with_packet past p ≡ past
with_packet-passed past (Carried s) h = absurd h
with_packet-passed past _ h = refl

-- one that is passed over changes nothing
pub past_of-passed : (packets : List Packet) (i : ℕ) → i < length packets → IfSome (slice_get packets i) IsPassedOver
    → past_of (take (i + 1) packets) ≡ past_of (take i packets)
past_of-passed packets i lt h =
    elim (slice_get_cases packets i).1 [
      | inl (p, _, is, _) ↦ past_of-more packets i p is ∙ with_packet-passed (past_of (take i packets)) p (rw is at h)
      | inr (le, _) ↦ absurd (omega arith)
    ]

-- a segment bears the number of its index
pub numbered_at : (n : ℕ) (packets : List Packet) (i : ℕ) (s : Segment) → AreNumberedFrom n packets
    → slice_get packets i ≡ Some (Carried s) → s.rec ≡ n + i
numbered_at n [] i s h at = absurd (none-some (Carried s) at)
numbered_at n (Carried t ∷ rest) zero s h at = rw (let same : s ≡ t = cc in same) (omega (arith, h.0))
numbered_at n (_ ∷ rest) zero s h at = absurd cc
numbered_at n (Carried t ∷ rest) (suc i) s h at = omega (arith, numbered_at (n + 1) rest i s h.1 at)
numbered_at n (_ ∷ rest) (suc i) s h at = omega (arith, numbered_at (n + 1) rest i s h at)

pub RecordsDescend-past_after : (n : ℕ) (past : List Segment) (packets : List Packet) → AreNumberedFrom n packets
    → RecordsDescend n past
    → RecordsDescend (n + length packets) (past_after past packets)
RecordsDescend-past_after n past [] h f = RecordsDescend-weaker n (n + 0) past (omega arith) f
RecordsDescend-past_after n past (Carried s ∷ rest) h f =
    grind (
      arith,
      common_steps,
      RecordsDescend-past_after (n + 1) (s ∷ past) rest h.1 (omega (arith, h.0), rw h.0 f),
      h.1,
      h.0,
    )
RecordsDescend-past_after n past (_ ∷ rest) h f =
    grind (
      arith,
      common_steps,
      RecordsDescend-past_after (n + 1) past rest h (RecordsDescend-weaker n (n + 1) past (omega arith) f),
    )

-- the records fall along the past, from below the next segment's
pub RecordsDescend-next : (n : ℕ) (past : List Segment) (packets : List Packet) (i : ℕ) (s : Segment)
    → AreNumberedFrom n packets
    → RecordsDescend n past → slice_get packets i ≡ Some (Carried s)
    → RecordsDescend s.rec (past_after past (take i packets))
RecordsDescend-next n past [] i s h f at = absurd (none-some (Carried s) at)
RecordsDescend-next n past (Carried t ∷ rest) zero s h f at = rw ((let same : s ≡ t = cc in same), h.0) f
RecordsDescend-next n past (_ ∷ rest) zero s h f at = absurd cc
RecordsDescend-next n past (Carried t ∷ rest) (suc i) s h f at =
    RecordsDescend-next (n + 1) (t ∷ past) rest i s h.1 (omega (arith, h.0), rw h.0 f) at
RecordsDescend-next n past (_ ∷ rest) (suc i) s h f at =
    RecordsDescend-next (n + 1) past rest i s h (RecordsDescend-weaker n (n + 1) past (omega arith) f) at

pub past_after-few : (past : List Segment) (packets : List Packet)
    → length (past_after past packets) ≤ length past + length packets
past_after-few past [] = omega arith
past_after-few past (Carried s ∷ rest) = omega (arith, past_after-few (s ∷ past) rest)
past_after-few past (_ ∷ rest) = omega (arith, past_after-few past rest)

-- there are no more segments than packets
pub past_of-few : (packets : List Packet) (i : ℕ) → length (past_of (take i packets)) ≤ i
past_of-few packets i = omega (arith, past_after-few [] (take i packets), length-take i packets)

-- the past's segments stand among the packets
abbrev pub Known : List Packet → List Segment → Type 0
Known packets [] = Unit {0}
Known packets (s ∷ past) = (0 < s.rec) × (segment_of packets s.rec ≡ Some s) × Known packets past

drop-here : {X : Type 0} (xs : List X) (n : ℕ) (x : X) (rest : List X) → drop n xs ≡ x ∷ rest
    → (slice_get xs n ≡ Some x) × (drop (n + 1) xs ≡ rest)
drop-here xs n x rest h = (grind (arith, common_steps, gets), sym (drop-drop 1 n xs) ∙ ap (drop 1) h)

Known-past_after : (packets : List Packet) (n : ℕ) (past : List Segment) (rest : List Packet)
    → AreNumberedFrom (n + 1) rest → drop n packets ≡ rest → Known packets past → Known packets (past_after past rest)
Known-past_after packets n past [] h d k = k
Known-past_after packets n past (Carried s ∷ rest) h d k =
    let here = drop-here packets n (Carried s) rest d in
    let number : s.rec - 1 ≡ n = omega (arith, h.0) in
    Known-past_after packets (n + 1) (s ∷ past) rest h.1 here.1 (omega (arith, h.0), rw (number, here.0), k)
Known-past_after packets n past (p ∷ rest) h d k =
    Known-past_after packets (n + 1) past rest h (drop-here packets n p rest d).1 k

pub Known-past_of : (packets : List Packet) → AreNumberedFrom 1 packets → Known packets (past_of packets)
Known-past_of packets h = Known-past_after packets 0 [] packets h refl tt

AreMembers-push : (low : ℕ) (packets : List Packet) (xs : List ℕ) (m : ℕ) → low < m → All (λ k. k < m) xs
    → IsSome (segment_of packets m) → AreMembers low packets xs → AreMembers low packets (xs ++ m ∷ [])
AreMembers-push low packets [] m lt b some h = (lt, some, tt)
AreMembers-push low packets (x ∷ xs) m lt b some h = (
  h.0,
  h.1,
  AreMembers-push x packets xs m (All-head (λ k. k < m) x xs b) (All-tail (λ k. k < m) x xs b) some h.2,
)

abbrev pub recs : List Segment → List ℕ
recs segments = map (λ (s : Segment). s.rec) segments

-- an opening's members rise and name segments
members-are : (packets : List Packet) (o : Segment) (n : ℕ) (past : List Segment) → RecordsDescend n past
    → Known packets past
    → AreMembers 0 packets (recs (members o past)) × All (λ k. k < n) (recs (members o past))
members-are packets o n [] f k = (tt, All-nil (λ k. k < n))
members-are packets o n (s ∷ past) f k =
    let (rise, below) = members-are packets o s.rec past f.1 k.2 in
    let wider = All-weaker (λ m. m < s.rec) (λ m. m < n) (λ m h. omega (arith, f.0)) (recs (members o past)) below in
    by_Bool (is_opening o (opening_at s past))
    (λ e. rw (e, map-append (λ (t : Segment). t.rec) (members o past) (s ∷ [])) (
      AreMembers-push 0 packets (recs (members o past)) s.rec k.0 below (rw k.1) rise,
      All-push (λ m. m < n) (recs (members o past)) s.rec wider f.0,
    ))
    (λ e. rw e (rise, wider))

-- so do those of all connections of the capture
abbrev IsNamed : List Packet → Membership → Type 0
IsNamed packets m = AreMembers 0 packets m.members

pub connections-members : (packets : List Packet) (found : List Connection) → AreNumberedFrom 1 packets
    → map membership found ≡ connections_of (past_of packets)
    → All (λ (c : Connection). AreMembers 0 packets c.members.items) found
connections-members packets found h same =
    let past = past_of packets in
    let named : All (IsNamed packets) (map membership found) =
    rw same (All-map (IsNamed packets) (connection_of past) (openings past) (λ k d lt.
    (members-are packets (get_or (openings past) k d) (1 + length packets) past
    (RecordsDescend-past_after 1 [] packets h tt) (Known-past_of packets h)).0)) in
    λ k d lt. rw (get_or-map membership found k d (membership d) lt) at
    (named k (membership d) (omega (arith, length-map found membership)))
