-- The worked example of a flow whose sequence numbers come round.
use Rattle.tcp_streams.proofs.Words.{◌≡◌, ℕ, ◌<◌, List, [], ◌∷◌, Option, None, Some, refl, arith, zero, suc, ◌-◌}
use Rattle.tcp_streams.proofs.Words.{◌^◌, length, slice_get, ap, filter, map, le-ltb, Segment, bytes_of, IsFlow}
use Rattle.tcp_streams.proofs.Words.{segments_of, is_endpoint, Source, source, Membership, membership, Connection}
use Rattle.tcp_streams.proofs.{Words.Arrival, Words.length-map, Belongings.connections-shown, UniqueFlow.IsFlow-unique}
use Rattle.tcp_streams.specs.examples.Retransmission.{WrappedRetransmission, client, letters, server, wrapped}
use Rattle.std.{proofs.Common.subst, proofs.Common.lit<, specs.Prelude.codes}

-- what the client's segments bring, by the connection's view
abbrev brought : Membership → ℕ → Option Source
brought m = source m.client_isn (filter (λ (s : Segment). is_endpoint s.from m.client) (segments_of wrapped m.members))

abbrev opened : Membership
opened = record {
  client = client;
  server = server;
  rec = 1;
  client_isn = 2 ^ 32 - 4;
  server_isn = Some 5000;
  members = 1 ∷ 2 ∷ 3 ∷ 4 ∷ 5 ∷ [];
}

abbrev arrived : List Arrival
arrived = record { upto = 6; rec = 5; nanos = 5000 } ∷ []

below_six : (P : ℕ → Type 0) → P 0 → P 1 → P 2 → P 3 → P 4 → P 5 → (o : ℕ) → o < 6 → P o
below_six P a b c d e f zero lt = a
below_six P a b c d e f (suc zero) lt = b
below_six P a b c d e f (suc (suc zero)) lt = c
below_six P a b c d e f (suc (suc (suc zero))) lt = d
below_six P a b c d e f (suc (suc (suc (suc zero)))) lt = e
below_six P a b c d e f (suc (suc (suc (suc (suc zero))))) lt = f
below_six P a b c d e f (suc (suc (suc (suc (suc (suc o)))))) lt = absurd (omega arith)

none-later : (o : ℕ) → 6 < o → o < 2 ^ 31 → brought opened o ≡ None
none-later o low high = grind (arith, le-ltb)

flow-is : IsFlow letters (brought opened) (codes "abcdEF") arrived None
flow-is = record {
  run = record {
    within = omega arith;
    covered = below_six _ refl refl refl refl refl refl;
    longest = λ _. refl;
  };
  bytes_are = below_six _ refl refl refl refl refl refl;
  rises = (lit< tt, lit< tt, refl);
  arrivals_are = below_six _ (refl, refl) (refl, refl) (refl, refl) (refl, refl) (refl, refl) (refl, refl);
  gap_is = none-later;
}

one-alone : (found : List Connection) (m : Membership) (connection : Connection) → map membership found ≡ m ∷ []
    → slice_get found 0 ≡ Some connection → (length found ≡ 1) × (membership connection ≡ m)
one-alone [] m connection e at = absurd (cc)
one-alone (c ∷ rest) m connection e at = (omega (arith, ap length e, length-map rest membership), cc)

pub wrapped-retransmission : WrappedRetransmission
wrapped-retransmission found connection flow are at flows =
    let shown : map membership found ≡ opened ∷ [] = connections-shown wrapped found are in
    let one = one-alone found opened connection shown at in
    let flows' : IsFlow letters (brought opened) (bytes_of flow) flow.arrivals.items flow.gap =
    subst (λ (m : Membership). IsFlow letters (brought m) (bytes_of flow) flow.arrivals.items flow.gap) one.1 flows in
    let same = IsFlow-unique letters (brought opened) (bytes_of flow) (codes "abcdEF") flow.arrivals.items arrived
    flow.gap None flows' flow-is in
    (one.0, ap (λ (m : Membership). Some m.client_isn) one.1, same.0, same.1, same.2)
