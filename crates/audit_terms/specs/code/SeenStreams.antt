-- The streams that frames have named so far, each once.
use Rattle.std.specs.Prelude.{ℕ, ◌==◌, ◌||◌, Bool, not, if◌then◌else◌, List, [], ◌∷◌, ◌++◌, filter}
use Rattle.std.specs.List.{list_any}

-- does the stream stand among these?
abbrev pub is_among : (stream : ℕ) → List ℕ → Bool
is_among stream streams = list_any (λ other. stream == other) streams

-- these streams, and behind them this one, if it is none of them and not 0
abbrev pub with_stream : (stream : ℕ) → List ℕ → List ℕ
with_stream stream seen = if (stream == 0) || is_among stream seen then seen else seen ++ stream ∷ []

-- the streams that are not among those seen
abbrev pub without : (seen : List ℕ) → List ℕ → List ℕ
without seen streams = filter (λ stream. not (is_among stream seen)) streams
