-- The values of a SETTINGS frame (RFC 9113, 6.5.2).
use Rattle.std.specs.Prelude.{None}
use Rattle.audit_terms.specs.declared.settings.Settings.{Settings}

-- settings that say nothing
abbrev pub no_settings : Settings
no_settings = record { push = None; initial = None; max_frame = None; bad = None }
