use Rattle.quiet_pass.proofs.ShiftedLemmas.{said-from}
use Rattle.quiet_pass.proofs.SettingsLemmas.{brought-quietly}
use Rattle.quiet_pass.proofs.passes.QuietPass.say_change.Goals as goal

pub returns-then-leaves_windows : goal.returns-then-leaves_windows
returns-then-leaves_windows c =
    brought-quietly c.args.frames_shown c.args.self.now c.args.found.now.items c.if-leaves_windows.ensures

pub say_change-requires-clause-room : goal.say_change-requires-clause-room
say_change-requires-clause-room c =
    let room = c.requires.room in (room.0, c.in_ok-count_moves.ensures.streams room.0 room.1, room.2)

pub returns : goal.returns
returns c =
    let counted = c.in_ok-count_moves.ensures in record {
      initial = c.initial_after-after.ensures;
      streams = said-from counted.streams (rw counted.initial at c.in_ok-say_change.ensures);
      connection = counted.connection;
      last = counted.last;
      pending = counted.pending;
    }
