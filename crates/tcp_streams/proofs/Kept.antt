-- What is kept of each opening, beside the openings: what one segment more makes of it, whatever it is.
use Rattle.std.specs.List.{AllZip}
use Rattle.tcp_streams.proofs.Lists.{by_lt}
use Rattle.tcp_streams.proofs.Past.{IsBefore, openings-below, openings-rise, opening_at-kept, opening_at-opens}
use Rattle.tcp_streams.proofs.Words.{AllPairs, IsOpened, List, None, RecordsDescend, Segment, Some, [], ap, arith}
use Rattle.tcp_streams.proofs.Words.{false, get_or, get_or_from_slice_get, is_opening, length, ne_eqb, none-some}
use Rattle.tcp_streams.proofs.Words.{opening_at}
use Rattle.tcp_streams.proofs.Words.{openings, opens, pair_of, set, slice_get, slice_get_within, suc, sym, true, zero}
use Rattle.tcp_streams.proofs.Words.{ℕ, ◌++◌, ◌<◌, ◌∙◌, ◌∷◌, ◌≡◌}
use Rattle.std.proofs.Common.{◌≢◌, subst}

-- lists of two kinds, side by side
module _ {X V : Type 0} where
  -- another relation, which each two have that have the first
  pub zip-each : (P Q : X → V → Type 0) (xs : List X) (vs : List V)
      → ((i : ℕ) (d : X) → i < length xs → (v : V) → P (get_or xs i d) v → Q (get_or xs i d) v)
      → AllZip P xs vs → AllZip Q xs vs
  zip-each P Q [] [] each h = tt
  zip-each P Q [] (v ∷ vs) each h = absurd h
  zip-each P Q (x ∷ xs) [] each h = absurd h
  zip-each P Q (x ∷ xs) (v ∷ vs) each h =
      (each 0 x (omega arith) v h.0, zip-each P Q xs vs (λ i d lt. each (suc i) d (omega (arith, lt))) h.1)

  zip-push : (P : X → V → Type 0) (xs : List X) (vs : List V) (x : X) (v : V) → AllZip P xs vs → P x v
      → AllZip P (xs ++ x ∷ []) (vs ++ v ∷ [])
  zip-push P [] [] x v h new = (new, tt)
  zip-push P [] (w ∷ vs) x v h new = absurd h
  zip-push P (y ∷ xs) [] x v h new = absurd h
  zip-push P (y ∷ xs) (w ∷ vs) x v h new = (h.0, zip-push P xs vs x v h.1 new)

  -- one is set, and all others have another relation too
  zip-set : (P Q : X → V → Type 0) (xs : List X) (vs : List V) (k : ℕ) (x : X) (w : V) → slice_get xs k ≡ Some x
      → ((i : ℕ) (d : X) → i < length xs → i ≢ k → (v : V) → P (get_or xs i d) v → Q (get_or xs i d) v) → Q x w
      → AllZip P xs vs → AllZip Q xs (set vs k w)
  zip-set P Q [] vs k x w at but new h = absurd (none-some x at)
  zip-set P Q (y ∷ xs) [] k x w at but new h = absurd h
  zip-set P Q (y ∷ xs) (v ∷ vs) zero x w at but new h =
      let same : x ≡ y = cc in (
        subst (λ z. Q z w) same new,
        zip-each P Q xs vs (λ i d lt. but (suc i) d (omega (arith, lt)) (λ e. omega (arith, e))) h.1,
      )
  zip-set P Q (y ∷ xs) (v ∷ vs) (suc k) x w at but new h = (
    but 0 y (omega arith) (λ e. omega (arith, e)) v h.0,
    zip-set P Q xs vs k x w at (λ i d lt ne. but (suc i) d (omega (arith, lt)) (λ e. ne (omega (arith, e)))) new h.1,
  )

  pub zip-long : (P : X → V → Type 0) (xs : List X) (vs : List V) → AllZip P xs vs → length vs ≡ length xs
  zip-long P [] [] h = omega arith
  zip-long P [] (v ∷ vs) h = absurd h
  zip-long P (x ∷ xs) [] h = absurd h
  zip-long P (x ∷ xs) (v ∷ vs) h = omega (arith, zip-long P xs vs h.1)

  -- what stands at an index
  pub zip-at : (P : X → V → Type 0) (xs : List X) (vs : List V) (k : ℕ) (x : X) (v : V) → AllZip P xs vs
      → slice_get xs k ≡ Some x → v ≡ get_or vs k v → P x v
  zip-at P [] vs k x v h at is = absurd (none-some x at)
  zip-at P (y ∷ xs) [] k x v h at is = absurd h
  zip-at P (y ∷ xs) (w ∷ vs) zero x v h at is =
      let same : y ≡ x = cc in subst (λ z. P z v) same (subst (P y) (sym is) h.0)
  zip-at P (y ∷ xs) (w ∷ vs) (suc k) x v h at is = zip-at P xs vs k x v h.1 at is

-- all openings but one are of other records
apart : (os : List Segment) (k : ℕ) (o : Segment) → AllPairs IsBefore os → slice_get os k ≡ Some o → (i : ℕ)
    (d : Segment) → i < length os → i ≢ k → o.rec ≢ (get_or os i d).rec
apart os k o rise at i d lt ne same =
    let there = ap (λ (x : Segment). x.rec) (get_or_from_slice_get os k o d at) in
    by_lt i k
    (λ _ before. absurd (omega (arith, rise i k d before (slice_get_within os k o at), there, same)))
    (λ _ le. by_lt k i
    (λ _ past. absurd (omega (arith, rise k i d past lt, there, same)))
    (λ _ ge. absurd (ne (omega (arith, le, ge)))))

module _ {V : Type 0} (past : List Segment) (s : Segment) (F G : Segment → V → Type 0)
    (stays : (o : Segment) → is_opening o (opening_at s past) ≡ false → (v : V) → F o v → G o v) (vs : List V)
    (h : AllZip F (openings past) vs) where
  -- the segment opens a connection
  pub kept-opens : RecordsDescend s.rec past → opens s past ≡ true → (v : V) → G s v
      → AllZip G (openings (s ∷ past)) (vs ++ v ∷ [])
  kept-opens falls e v new =
      let os = openings past in
      let grown : openings (s ∷ past) ≡ openings past ++ s ∷ [] = rw e in
      let below = openings-below s.rec past falls in
      subst (λ l. AllZip G l (vs ++ v ∷ [])) (sym grown)
      (zip-push G os vs s v
      (zip-each F G os vs
      (λ i d lt. stays (get_or os i d) (rw (opening_at-opens past s e)
      (ne_eqb s.rec (get_or os i d).rec (λ same. omega (arith, below i d lt, same)))))
      h) new)

  -- it belongs to the connection at an index
  pub kept-joins : RecordsDescend s.rec past → opens s past ≡ false → (k : ℕ) (o : IsOpened past (pair_of s) k) (v : V)
      → G o.last v → AllZip G (openings (s ∷ past)) (set vs k v)
  kept-joins falls e k o v new =
      let os = openings past in
      let same : openings (s ∷ past) ≡ openings past = rw e in
      let rise = openings-rise s.rec past falls in
      subst (λ l. AllZip G l (set vs k v)) (sym same)
      (zip-set F G os vs k o.last v o.at
      (λ i d lt ne. stays (get_or os i d) (rw (opening_at-kept past s e ∙ o.opened)
      (ne_eqb o.last.rec (get_or os i d).rec (apart os k o.last rise o.at i d lt ne))))
      new h)

  -- it belongs to none
  pub kept-strays : opens s past ≡ false → opening_at s past ≡ None → AllZip G (openings (s ∷ past)) vs
  kept-strays e none =
      let os = openings past in
      let same : openings (s ∷ past) ≡ openings past = rw e in
      subst (λ l. AllZip G l vs) (sym same)
      (zip-each F G os vs (λ i d lt. stays (get_or os i d) (rw none)) h)
