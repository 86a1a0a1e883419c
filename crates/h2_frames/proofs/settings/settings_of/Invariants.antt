use Rattle.std.proofs.Common.{◌≡◌, length}
use Rattle.h2_frames.proofs.{Words.settings_in, Words.settings_of, SettingsRead.with_later}
use Rattle.h2_frames.proofs.settings.settings_of.Given as goal

abbrev pub invariant-loop-pair : goal.invariant-loop-pair
invariant-loop-pair l = with_later l.settings (settings_in l.rest) ≡ settings_of l.payload

abbrev pub decreases-loop-pair : goal.decreases-loop-pair
decreases-loop-pair l = length l.rest
