-- The SETTINGS that each side sent, as they are kept.
use Rattle.std.specs.Prelude.{◌≡◌, ◌∷◌, List, Option, Some, None}
use Rattle.audit_terms.specs.declared.frames.Frame.{Frame}
use Rattle.audit_terms.specs.declared.items.Change.{Change}
use Rattle.audit_terms.specs.InForce.{InForce, change_of, in_force_after}
use Rattle.audit_terms.specs.declared.settings.Settings.{Settings}
use Rattle.fault_rules.specs.declared.pending_settings.Pending.{Pending}
use Rattle.fault_rules.specs.declared.pending_settings.SentSettings.{SentSettings}

-- settings in the order in which they were sent: the first ones, if there are any, and those behind them
abbrev pub from_first : Option Settings → List Settings → List Settings
from_first None later = later
from_first (Some first) later = first ∷ later

-- the settings of a side
abbrev pub all_of : SentSettings → List Settings
all_of sent = from_first sent.first sent.later.items

-- what is kept of the settings that stand
pub record IsPending (now : InForce) (pending : Pending) : Type 0 where
  pub client : all_of pending.sent.client ≡ now.sent.client
  pub server : all_of pending.sent.server ≡ now.sent.server
  pub by_client : pending.taken.client ≡ now.paired.client
  pub by_server : pending.taken.server ≡ now.paired.server

-- the change that a frame brings, and what is kept after it
pub record IsBrought (now : InForce) (frame : Frame) (change : Option Change) (pending : Pending) : Type 0 where
  pub brings : change_of now frame ≡ change
  pub kept : IsPending (in_force_after now frame) pending
