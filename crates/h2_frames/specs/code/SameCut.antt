-- When two cuts are the same.
use Rattle.std.specs.Prelude.{◌≡◌}
use Rattle.h2_frames.specs.declared.cuts.Cut.{Cut}
use Rattle.h2_frames.specs.declared.cuts.Cut.TheVariants.{Http2, NotHttp2, NoPreface, NoHandshake}

-- the same cut, wherever its frames lie in memory
abbrev pub IsSameCut : Cut → Cut → Type 0
IsSameCut NoHandshake NoHandshake = Unit {0}
IsSameCut NoPreface NoPreface = Unit {0}
IsSameCut NotHttp2 NotHttp2 = Unit {0}
IsSameCut (Http2 frames tails) (Http2 others other_tails) = (frames.items ≡ others.items) × (tails ≡ other_tails)
IsSameCut _ _ = ⊥
