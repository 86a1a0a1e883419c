-- What options say, without what is known of their ranges.
use Rattle.std.specs.Prelude.{ℕ, Bool}
use Rattle.h2audit.specs.declared.command_line.options.Options.{Options}

-- what a run is asked for
pub record Choices : Type 0 where
  pub workers : ℕ
  pub groups : ℕ
  pub block : ℕ
  pub frames_shown : Bool

-- what these options ask for
abbrev pub choices : Options → Choices
choices o = record { workers = o.workers; groups = o.groups; block = o.block; frames_shown = o.frames_shown }
