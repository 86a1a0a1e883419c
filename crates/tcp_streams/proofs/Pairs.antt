-- On endpoints and pairs: the tests are equality, and two segments are of one pair exactly where they have the same two
-- ends, in one direction or the other.
use Rattle.tcp_streams.proofs.Words.{◌≡◌, Bool, true, false, ◌&&◌, refl, arith, if◌then◌else◌, nat_tests, common_steps}
use Rattle.tcp_streams.proofs.Words.{Segment, is_endpoint, is_same_pair, is_of, pair_of, is_pair, Pair}
use Rattle.std.proofs.Common.{◌||◌}
use Rattle.packet_heads.specs.declared.packets.Endpoint.{Endpoint}
use Rattle.tcp_streams.specs.code.Pairs.{is_before}

pub is_pair-same : (p q : Pair) → is_pair p q ≡ true → p ≡ q
is_pair-same p q h = grind (arith, common_steps)

pub is_pair-refl : (p : Pair) → is_pair p p ≡ true
is_pair-refl p = grind (arith, common_steps)

pub is_pair-sym : (p q : Pair) → is_pair p q ≡ is_pair q p
is_pair-sym p q = grind (arith, common_steps)

abbrev ordered : Bool → Endpoint → Endpoint → Pair
ordered later a b = if later then record { low = b; high = a } else record { low = a; high = b }

by_order : (a b c d : Endpoint) (u v : Bool) → is_before b a ≡ u → is_before d c ≡ v
    → ((is_endpoint a c && is_endpoint b d) || (is_endpoint a d && is_endpoint b c))
    ≡ is_pair (ordered u a b) (ordered v c d)
by_order a b c d true true h k = grind (arith, nat_tests)
by_order a b c d true false h k = grind (arith, nat_tests)
by_order a b c d false true h k = grind (arith, nat_tests)
by_order a b c d false false h k = grind (arith, nat_tests)

pub same-pair : (s t : Segment) → is_same_pair s t ≡ is_of (pair_of s) t
same-pair s t = by_order s.from s.to t.from t.to (is_before s.to s.from) (is_before t.to t.from) refl refl
