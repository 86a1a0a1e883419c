-- How the values of a SETTINGS frame are kept: three words, and a byte of marks. The marks say which of the words hold
-- a value, and before these three bits one more than the identifier out of range, or 0.
use Rattle.std.specs.Prelude.{◌≡◌, ℕ, zero, suc, ◌+◌, ◌*◌, ◌/◌, ◌%◌, Option, None, Some, unwrap_or}
use Rattle.audit_terms.specs.declared.settings.Settings.{Settings}
use Rattle.audit_terms.specs.declared.settings.PackedSettings.TheInside.{Inside}

-- a value as a number: one more than the value, 0 where there is none
abbrev pub one_more : Option ℕ → ℕ
one_more None = 0
one_more (Some value) = value + 1

-- the value of such a number
abbrev pub one_less : ℕ → Option ℕ
one_less zero = None
one_less (suc value) = Some value

-- 1 where there is a value
abbrev pub mark : Option ℕ → ℕ
mark None = 0
mark (Some _) = 1

-- the value in a word, if it is marked
abbrev pub marked : (mark word : ℕ) → Option ℕ
marked zero word = None
marked (suc _) word = Some word

-- the settings that are kept so
abbrev pub unpacked : Inside → Settings
unpacked a = record {
  push = marked (a.marks % 2) a.push;
  initial = marked (a.marks / 2 % 2) a.initial;
  max_frame = marked (a.marks / 4 % 2) a.max_frame;
  bad = one_less (a.marks / 8);
}

-- how settings are kept
abbrev pub packed : Settings → Inside
packed settings = record {
  marks = ((one_more settings.bad * 2 + mark settings.max_frame) * 2 + mark settings.initial) * 2 + mark settings.push;
  push = unwrap_or settings.push 0;
  initial = unwrap_or settings.initial 0;
  max_frame = unwrap_or settings.max_frame 0;
}

-- kept as its settings are
abbrev pub IsPacked : Inside → Type 0
IsPacked a = packed (unpacked a) ≡ a
