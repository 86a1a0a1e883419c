-- All flows of a capture fit in it together: a payload belongs to one connection at most.
use Rattle.tcp_streams.proofs.Words.{◌≡◌, ℕ, ◌≤◌, List, [], ◌∷◌, Option, None, Some, refl, ◌∙◌, arith, suc, ◌+◌}
use Rattle.tcp_streams.proofs.Words.{◌-◌, drop, filter, false≢true, drop-drop, sum_by-cons, Side, Client, Server}
use Rattle.tcp_streams.proofs.Words.{PayloadsRise, Packet, Carried, Segment, is_sent_by, segments_of, side_segments}
use Rattle.tcp_streams.proofs.Words.{segment_of, payload_length, AreMembers, payload_sum, Connection, Bool, false, ◌++◌}
use Rattle.tcp_streams.proofs.Words.{ap, map, if◌then◌else◌, option_to_list, nat_tests, append-nil, true, append_assoc}
use Rattle.tcp_streams.proofs.Words.{map-append, AreNumberedFrom, is_opening, with_if, members, opening_at, openings}
use Rattle.tcp_streams.proofs.Words.{Membership, membership, connection_of, connections_of, past_after, past_of}
use Rattle.tcp_streams.proofs.Words.{RecordsDescend}
use Rattle.tcp_streams.proofs.Lists.{by_option, slice_get-drop}
use Rattle.tcp_streams.proofs.Numbered.{RecordsDescend-past_after, Known, Known-past_of, recs}
use Rattle.tcp_streams.proofs.PieceLemmas.{PayloadsRise-end, found-at, rise-drop}
use Rattle.std.specs.Prelude.{sum_by}
use Rattle.std.proofs.lemmas.List.{Filters.sum_by-filter_both, Folds.fold-map, Sums.sum_by_push}

-- the payloads of rising members lie apart
members-fit : (packets : List Packet) (done from size : ℕ) (members : List ℕ)
    → PayloadsRise from size (drop done packets) → AreMembers done packets members
    → from + payload_sum (segments_of packets members) ≤ size
members-fit packets done from size [] h m = omega (arith, PayloadsRise-end from size (drop done packets) h)
members-fit packets done from size (n ∷ rest) h m =
    by_option (segment_of packets n)
    (λ e. absurd (false≢true (rw e at m.1)))
    (λ s e.
    let here = slice_get-drop done packets (n - 1 - done) (n - 1) (omega (arith, m.0)) ∙ found-at packets n s e in
    let r = rise-drop from size (drop done packets) (n - 1 - done) s h here in
    let place : done + suc (n - 1 - done) ≡ n = omega (arith, m.0) in
    let after = rw (drop-drop (suc (n - 1 - done)) done packets, place) at r.2 in
    let later = members-fit packets n s.hi size rest after m.2 in
    rw e (omega (arith, r.0, r.1, sum_by-cons payload_length s (segments_of packets rest))))

-- what the two sides have together
pub sides-sum : (connection : Connection) (segments : List Segment)
    → payload_sum (filter (is_sent_by connection Client) segments) + payload_sum
    (filter (is_sent_by connection Server) segments) ≡ payload_sum segments
sides-sum connection segments = grind (arith, nat_tests, sum_by-filter_both)

-- both sides' payloads fit in the capture together
pub sides-fit : (packets : List Packet) (size : ℕ) (connection : Connection) → PayloadsRise 0 size packets
    → AreMembers 0 packets connection.members.items
    → payload_sum (side_segments packets connection Client) + payload_sum
    (side_segments packets connection Server) ≤ size
sides-fit packets size connection rise members =
    let sum = sides-sum connection (segments_of packets connection.members.items) in
    omega (arith, sum, members-fit packets 0 0 size connection.members.items rise members)

pub side-fits : (packets : List Packet) (size : ℕ) (connection : Connection) (side : Side) → PayloadsRise 0 size packets
    → AreMembers 0 packets connection.members.items → payload_sum (side_segments packets connection side) ≤ size
side-fits packets size connection Client rise members = omega (arith, sides-fit packets size connection rise members)
side-fits packets size connection Server rise members = omega (arith, sides-fit packets size connection rise members)

-- on sums
sum-agree : {X : Type 0} (f g : X → ℕ) (xs : List X) → ((x : X) → f x ≡ g x) → sum_by f xs ≡ sum_by g xs
sum-agree f g xs h = λ i. sum_by (λ x. h x i) xs

sum-map : {X Y : Type 0} (f : Y → ℕ) (g : X → Y) (xs : List X) → sum_by f (map g xs) ≡ sum_by (λ x. f (g x)) xs
sum-map f g xs = fold-map (λ n y. n + f y) g 0 xs

sum-plus : {X : Type 0} (f g : X → ℕ) (xs : List X) → sum_by (λ x. f x + g x) xs ≡ sum_by f xs + sum_by g xs
sum-plus f g [] = refl
sum-plus f g (x ∷ xs) =
    omega (arith, sum_by-cons (λ x. f x + g x) x xs, sum_by-cons f x xs, sum_by-cons g x xs, sum-plus f g xs)

-- the payloads of the past
pub past-sum : (from size : ℕ) (past : List Segment) (packets : List Packet) → PayloadsRise from size packets
    → from + payload_sum (past_after past packets) ≤ size + payload_sum past
past-sum from size past [] h = omega (arith, h)
past-sum from size past (Carried s ∷ rest) h =
    omega (arith, h.0, h.1, sum_by-cons payload_length s past, past-sum s.hi size (s ∷ past) rest h.2)
past-sum from size past (_ ∷ rest) h = past-sum from size past rest h

-- what a segment of this opening, if any, adds to another opening's payloads
abbrev share : Option Segment → ℕ → Segment → ℕ
share x v o = if is_opening o x then v else 0

share-none : (v : ℕ) (xs : List Segment) → sum_by (share None v) xs ≡ 0
share-none v [] = refl
share-none v (x ∷ xs) = omega (arith, sum_by-cons (share None v) x xs, share-none v xs)

-- openings of other records take no share, and of one record there is one opening at most
module _ (q : Segment) (v : ℕ) where
  abbrev shares : List Segment → ℕ
  shares xs = sum_by (share (Some q) v) xs

  shares-few : (n : ℕ) (past : List Segment) → RecordsDescend n past
      → (shares (openings past) ≤ v) × (n ≤ q.rec → shares (openings past) ≡ 0)
  shares-few n [] f = (omega arith, λ le. refl)
  shares-few n (s ∷ past) f = grind (arith, nat_tests, shares-few s.rec past f.1, sum_by_push, f.1)

share-most : (x : Option Segment) (v n : ℕ) (past : List Segment) → RecordsDescend n past
    → sum_by (share x v) (openings past) ≤ v
share-most None v n past f = omega (arith, share-none v (openings past))
share-most (Some q) v n past f = (shares-few q v n past f).0

payload-push : (b : Bool) (ms : List Segment) (s : Segment)
    → payload_sum (with_if b ms s) ≡ payload_sum ms + (if b then payload_length s else 0)
payload-push true ms s = sum_by_push payload_length ms s
payload-push false ms s = omega arith

-- the payloads of all openings' members are payloads of the past, each once
members-sum : (n : ℕ) (all : List Segment) → RecordsDescend n all → (past : List Segment)
    → sum_by (λ o. payload_sum (members o past)) (openings all) ≤ payload_sum past
members-sum n all f [] = omega (arith, share-none 0 (openings all))
members-sum n all f (s ∷ past) =
    let before = λ (o : Segment). payload_sum (members o past) in
    let own = share (opening_at s past) (payload_length s) in
    let pushed = sum-agree (λ (o : Segment). payload_sum (members o (s ∷ past))) (λ o. before o + own o) (openings all)
    (λ o. payload-push (is_opening o (opening_at s past)) (members o past) s) in
    let most = share-most (opening_at s past) (payload_length s) n all f in
    let both = sum-plus before own (openings all) in
    omega (arith, pushed, both, most, sum_by-cons payload_length s past, members-sum n all f past)

-- the segments that an opening's members name are these
segments-push : (packets : List Packet) (xs : List ℕ) (m : ℕ) → segments_of packets (xs ++ m ∷ [])
    ≡ segments_of packets xs ++ option_to_list (segment_of packets m)
segments-push packets [] m = append-nil (option_to_list (segment_of packets m))
segments-push packets (x ∷ xs) m = grind (arith, nat_tests, segments-push packets xs m, append_assoc)

pub members-named : (packets : List Packet) (o : Segment) (past : List Segment) → Known packets past
    → segments_of packets (recs (members o past)) ≡ members o past
members-named packets o [] k = refl
members-named packets o (s ∷ past) k =
    grind (arith, nat_tests, members-named packets o past k.2, map-append, segments-push, recs, k.2)

-- all flows together
pub flows-fit : (packets : List Packet) (size : ℕ) (found : List Connection) → AreNumberedFrom 1 packets
    → PayloadsRise 0 size packets → map membership found ≡ connections_of (past_of packets)
    → sum_by (λ (c : Connection). payload_sum (side_segments packets c Client) + payload_sum
    (side_segments packets c Server)) found ≤ size
flows-fit packets size found numbered rise same =
    let past : List Segment = past_of packets in
    let payload = λ (m : Membership). payload_sum (segments_of packets m.members) in
    let sides = sum-agree _ (λ (c : Connection). payload (membership c)) found
    (λ c. sides-sum c (segments_of packets c.members.items)) in
    let shown = sum-map payload membership found in
    let defined = sum-map payload (connection_of past) (openings past) in
    let named = sum-agree (λ o. payload (connection_of past o)) (λ o. payload_sum (members o past)) (openings past)
    (λ o. ap payload_sum (members-named packets o past (Known-past_of packets numbered))) in
    let falls = members-sum _ past (RecordsDescend-past_after 1 [] packets numbered tt) past in
    omega (arith, sides, ap (sum_by payload) same, falls, past-sum 0 size [] packets rise)

pub ruleset laws = (sides-fit)
