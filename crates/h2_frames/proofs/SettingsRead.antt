-- Reading the settings of a payload one after the other.
use Rattle.h2_frames.proofs.Words.{Setting, Settings, first_bad, last_value, setting_at, settings_in, with_setting}
use Rattle.std.proofs.Common.{Bool, List, None, Option, Some, arith, drop, length, not, refl, take, ℕ, ◌&&◌, ◌+◌, ◌∷◌}
use Rattle.std.proofs.Common.{◌≡◌, ◌≤◌}
use Rattle.std.specs.{Option.option_or, Prelude.if◌then◌else◌, Prelude.is_none, Prelude.option_map}

-- the settings so far, with later ones put over them
abbrev pub with_later : Settings → List Setting → Settings
with_later settings later = record {
  push = option_or (last_value 2 later) settings.push;
  initial = option_or (last_value 4 later) settings.initial;
  max_frame = option_or (last_value 5 later) settings.max_frame;
  bad = option_or settings.bad (first_bad later);
}

value_step : (later : Option ℕ) (test : Bool) (value : ℕ) (before : Option ℕ) →
    option_or later (if test then Some value else before) ≡ option_or
    (option_or later (if test then Some value else None)) before
value_step later test value before = grind arith

bad_step : (before : Option ℕ) (fine : Bool) (s : Setting) (later : Option Setting) →
    option_or (if is_none before && not fine then Some s.identifier else before)
    (option_map (λ (t : Setting). t.identifier) later)
    ≡ option_or before (option_map (λ (t : Setting). t.identifier) (if not fine then Some s else later))
bad_step before fine s later = grind arith

-- one more setting read is one setting less to come
with_later-step : (settings : Settings) (s : Setting) (later : List Setting) →
    with_later (with_setting settings s) later ≡ with_later settings (s ∷ later)
with_later-step settings s later = grind (arith, value_step, bad_step)

-- whole settings begin with one
pub settings_in-step : (payload : List ℕ) → 6 ≤ length payload →
    settings_in payload ≡ setting_at (take 6 payload) ∷ settings_in (drop 6 payload)
settings_in-step (a ∷ b ∷ c ∷ d ∷ e ∷ f ∷ later) h = refl
settings_in-step _ h = absurd (omega arith)

-- one turn of the loop over a payload
pub with_later-turn : (settings new : Settings) (s : Setting) (rest pair later : List ℕ) → pair ≡ take 6 rest
    → later ≡ drop 6 rest → length later + 6 ≡ length rest → s ≡ setting_at pair → new ≡ with_setting settings s
    → with_later new (settings_in later) ≡ with_later settings (settings_in rest)
with_later-turn settings new s rest pair later pair_is later_is size s_is new_is =
    grind (arith, settings_in-step, with_later-step)
