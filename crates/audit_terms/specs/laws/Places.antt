-- That places stand in order: of frame numbers, then of ranks, then of streams.
use Rattle.std.specs.Prelude.{◌≡◌, ℕ, ◌-◌, ◌^◌, ◌<◌, ◌≤◌}
use Rattle.std.specs.Ordering.{nat_cmp, ordering_then}
use Rattle.audit_terms.specs.Place.{place_of}
use Rattle.audit_terms.specs.code.Places.{no_place}

-- the numbers, ranks and streams that a place can hold
pub record IsPlaceable (number rank stream : ℕ) : Type 0 where
  pub numbered : number ≤ 2 ^ 28 - 2
  pub ranked : rank ≤ 31
  pub streamed : stream < 2 ^ 31

-- places stand in the order of frame number, then rank, then stream, and none is all ones
pub record PlacesAreInOrder : Type 0 where
  pub compared : (number rank stream number' rank' stream' : ℕ) →
      IsPlaceable number rank stream → IsPlaceable number' rank' stream' →
      nat_cmp (place_of number rank stream) (place_of number' rank' stream')
      ≡ ordering_then (nat_cmp number number') (ordering_then (nat_cmp rank rank') (nat_cmp stream stream'))
  pub below_all_ones : (number rank stream : ℕ) → IsPlaceable number rank stream →
      place_of number rank stream < no_place
