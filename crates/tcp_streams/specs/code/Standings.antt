-- The pairs of which anything is known, with what is. No public clause cites it.
use Rattle.std.specs.Prelude.{◌≡◌, if◌then◌else◌, List, Option, Some}
use Rattle.std.specs.Map.{lookup}
use Rattle.tcp_streams.specs.declared.pair.Pair.{Pair}
use Rattle.tcp_streams.specs.declared.standings.Standing.{Standing}
use Rattle.tcp_streams.specs.code.Pairs.{is_pair}

-- how the pair stands
abbrev pub standing_of : List (Pair × Standing) → Pair → Option Standing
standing_of standings p = lookup (is_pair p) standings

-- the pair stands so, and every other pair as before
abbrev pub SetsStandingIn : Pair → Standing → (Pair → Option Standing) → (Pair → Option Standing) → Type 0
SetsStandingIn p w old new = (q : Pair) → new q ≡ (if is_pair p q then Some w else old q)

abbrev pub SetsStanding : Pair → Standing → List (Pair × Standing) → List (Pair × Standing) → Type 0
SetsStanding p w old new = SetsStandingIn p w (standing_of old) (standing_of new)
