-- Connections by the records of their members: what one segment more makes of them.
use Rattle.std.proofs.lemmas.List.{Folds.find-append}
use Rattle.std.specs.Prelude.{option_map}
use Rattle.std.specs.List.{AllZip}
use Rattle.tcp_streams.proofs.Past.{members-to_come, opening_at-kept, opening_at-opens}
use Rattle.tcp_streams.proofs.Words.{Bool, Connection, IsOpened, List, Membership, None, Option, RecordsDescend}
use Rattle.tcp_streams.proofs.Words.{Segment, Some, [], ap, arith, connection_of, connections_of, eq-eqb, false, get_or}
use Rattle.tcp_streams.proofs.Words.{if◌then◌else◌, is_opening, map, map-append, members, membership, opening_at}
use Rattle.tcp_streams.proofs.Words.{openings, opens, option_or, pair_of, refl, set, sym, true, ℕ, ◌++◌, ◌∙◌, ◌∷◌, ◌≡◌}
use Rattle.tcp_streams.proofs.Kept.{kept-joins, kept-opens, kept-strays, zip-at, zip-long}
use Rattle.tcp_streams.proofs.Words.{length, slice_get, slice_get_within, ◌<◌}
use Rattle.tcp_streams.specs.code.Past.{connection_with}
use Rattle.tcp_streams.specs.code.Table.{AreConnectionsOf, joined}

-- the number of the first answer, where one more may answer
first-seq : (x : Option Segment) (b : Bool) (s : Segment)
    → option_map (λ (t : Segment). t.seq) (option_or x (if b then Some s else None))
    ≡ option_or (option_map (λ (t : Segment). t.seq) x) (if b then Some s.seq else None)
first-seq x b s = grind arith

-- with one more member it has joined
pub connection_with-push : (o s : Segment) (ms : List Segment) → connection_with o (ms ++ s ∷ []) ≡ joined
    (connection_with o ms) s
connection_with-push o s ms = grind (arith, find-append, map-append, first-seq)

abbrev IsOf : List Segment → Segment → Connection → Type 0
IsOf past o c = membership c ≡ connection_of past o

module _ (past : List Segment) (s : Segment) where
  -- a segment that does not look back to an opening leaves its connection as it was
  connection-kept : (o : Segment) → is_opening o (opening_at s past) ≡ false
      → connection_of past o ≡ connection_of (s ∷ past) o
  connection-kept o e = rw e

  stays : (o : Segment) → is_opening o (opening_at s past) ≡ false → (c : Connection) → IsOf past o c
      → IsOf (s ∷ past) o c
  stays o e c is = is ∙ connection-kept o e

  module _ (found : List Connection) (are : AreConnectionsOf past found) (falls : RecordsDescend s.rec past) where
    -- the segment opens a connection
    pub connections-open : (c : Connection) → opens s past ≡ true → membership c ≡ connection_with s (s ∷ [])
        → AreConnectionsOf (s ∷ past) (found ++ c ∷ [])
    connections-open c e is =
        let first : members s (s ∷ past) ≡ s ∷ [] =
        rw (opening_at-opens past s e, eq-eqb s.rec s.rec refl, members-to_come s past falls) in
        kept-opens past s (IsOf past) (IsOf (s ∷ past)) stays found are falls e c
        (is ∙ sym (ap (connection_with s) first))

    -- it joins one
    pub connections-join : (k : ℕ) (old new : Connection) → opens s past ≡ false → IsOpened past (pair_of s) k
        → old ≡ get_or found k old → membership new ≡ joined (membership old) s
        → AreConnectionsOf (s ∷ past) (set found k new)
    connections-join k old new e o was is =
        let before = zip-at (IsOf past) (openings past) found k o.last old are o.at was in
        let grows : members o.last (s ∷ past) ≡ members o.last past ++ s ∷ [] =
        rw (opening_at-kept past s e ∙ o.opened, eq-eqb o.last.rec o.last.rec refl) in
        kept-joins past s (IsOf past) (IsOf (s ∷ past)) stays found are falls e k o new
        (is ∙ ap (λ (m : Membership). joined m s) before ∙ sym (connection_with-push o.last s (members o.last past))
        ∙ sym (ap (connection_with o.last) grows))

  -- it joins none
  pub connections-stay : (found : List Connection) → AreConnectionsOf past found → opens s past ≡ false
      → opening_at s past ≡ None → AreConnectionsOf (s ∷ past) found
  connections-stay found are e none =
      kept-strays past s (IsOf past) (IsOf (s ∷ past)) stays found are e none

-- one stands at the index of each opening
pub connections-within : (past : List Segment) (found : List Connection) (k : ℕ) (o : Segment)
    → AreConnectionsOf past found → slice_get (openings past) k ≡ Some o → k < length found
connections-within past found k o are at =
    omega (arith, slice_get_within (openings past) k o at, zip-long (IsOf past) (openings past) found are)

-- connections side by side with the openings are the list of them
map-of : (past os : List Segment) (found : List Connection) → AllZip (IsOf past) os found
    → map membership found ≡ map (connection_of past) os
map-of past [] [] h = refl
map-of past [] (c ∷ found) h = absurd h
map-of past (o ∷ os) [] h = absurd h
map-of past (o ∷ os) (c ∷ found) h = λ i. h.0 i ∷ map-of past os found h.1 i

pub connections-map : (past : List Segment) (found : List Connection) → AreConnectionsOf past found
    → map membership found ≡ connections_of past
connections-map past found are = map-of past (openings past) found are
