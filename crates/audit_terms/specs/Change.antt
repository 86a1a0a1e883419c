-- What an acknowledged SETTINGS frame brings into force (RFC 9113, 6.5.3), for the endpoint that acknowledges.
use Rattle.std.specs.Prelude.{ℕ, if◌then◌else◌, Option, Some, None, unwrap_or}
use Rattle.audit_terms.specs.declared.sides.Side.{Side}
use Rattle.audit_terms.specs.declared.sides.Side.TheVariants.{Server}
use Rattle.audit_terms.specs.declared.settings.Settings.{Settings}
use Rattle.audit_terms.specs.declared.frames.Frame.{Frame}
use Rattle.audit_terms.specs.declared.items.Change.{Change}
use Rattle.audit_terms.specs.Side.{is_side}

-- the change that an acknowledgement of these settings makes
abbrev pub change_by : Frame → Settings → Change
change_by frame settings = record {
  number = frame.number;
  side = frame.side;
  initial = settings.initial;
  max_frame = settings.max_frame;
  push = settings.push;
}

-- SETTINGS_INITIAL_WINDOW_SIZE in force for endpoint d after a change, from the one before it (6.5.2, 6.9.2)
abbrev pub new_initial : Option Change → Side → ℕ → ℕ
new_initial None d before = before
new_initial (Some change) d before = if is_side d change.side then unwrap_or change.initial before else before

-- SETTINGS_MAX_FRAME_SIZE in force for endpoint d after a change, from the one before it (6.5.2)
abbrev pub new_limit : Option Change → Side → ℕ → ℕ
new_limit None d before = before
new_limit (Some change) d before = if is_side d change.side then unwrap_or change.max_frame before else before

-- SETTINGS_ENABLE_PUSH of the client, in force for the server, after a change, from the one before it (6.5.2)
abbrev pub new_push : Option Change → ℕ → ℕ
new_push None before = before
new_push (Some change) before = if is_side Server change.side then unwrap_or change.push before else before
