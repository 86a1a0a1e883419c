-- The payload of a SETTINGS frame (RFC 9113, 6.5.1 and 6.5.2).
use Rattle.std.specs.Prelude.{ℕ, ◌-◌, ◌^◌, ◌&&◌, drop, Bool, true, not, ◌==◌, nat_le, if◌then◌else◌, List, [], ◌∷◌}
use Rattle.std.specs.Prelude.{Option, None, Some, option_map, find}
use Rattle.std.specs.Option.{option_or}
use Rattle.byteorder.specs.Endian.{big_number}
use Rattle.audit_terms.specs.declared.settings.Settings.{Settings}
use Rattle.h2_frames.specs.declared.settings.Setting.{Setting}

-- an identifier of 16 bits and a value of 32
abbrev pub setting_at : List ℕ → Setting
setting_at bytes = record { identifier = big_number 2 bytes; value = big_number 4 (drop 2 bytes) }

-- one setting after the other, six bytes each
abbrev pub settings_in : List ℕ → List Setting
settings_in (a ∷ b ∷ c ∷ d ∷ e ∷ f ∷ later) = setting_at (a ∷ b ∷ c ∷ d ∷ e ∷ f ∷ []) ∷ settings_in later
settings_in _ = []

-- ENABLE_PUSH (2) is 0 or 1, INITIAL_WINDOW_SIZE (4) at most 2 ^ 31 - 1, MAX_FRAME_SIZE (5) from 2 ^ 14 to 2 ^ 24 - 1;
-- any value of another identifier is in range
abbrev pub is_in_range : Setting → Bool
is_in_range s =
    if s.identifier == 2 then nat_le s.value 1
    else if s.identifier == 4 then nat_le s.value (2 ^ 31 - 1)
    else if s.identifier == 5 then nat_le (2 ^ 14) s.value && nat_le s.value (2 ^ 24 - 1)
    else true

-- the value of the last pair of the identifier, in range or not
abbrev pub last_value : ℕ → List Setting → Option ℕ
last_value identifier [] = None
last_value identifier (s ∷ later) =
    option_or (last_value identifier later) (if s.identifier == identifier then Some s.value else None)

-- the identifier of the first pair that is out of range
abbrev pub first_bad : List Setting → Option ℕ
first_bad settings = option_map (λ (s : Setting). s.identifier) (find (λ (s : Setting). not (is_in_range s)) settings)

-- what the payload says of the three settings that matter here
abbrev pub settings_of : List ℕ → Settings
settings_of payload = record {
  push = last_value 2 (settings_in payload);
  initial = last_value 4 (settings_in payload);
  max_frame = last_value 5 (settings_in payload);
  bad = first_bad (settings_in payload);
}
