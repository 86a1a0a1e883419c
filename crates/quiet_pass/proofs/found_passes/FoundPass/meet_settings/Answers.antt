use Rattle.stream_credit.proofs.Words.{ap, refl, ◌∙◌}
use Rattle.quiet_pass.proofs.FoundLemmas.{quiet-more, said-more}
use Rattle.quiet_pass.specs.declared.found_passes.FoundPass.{FoundPass}
use Rattle.quiet_pass.proofs.found_passes.FoundPass.meet_settings.Goals as goal

pub say_settings-requires-clause-room : goal.say_settings-requires-clause-room
say_settings-requires-clause-room c =
    let room = c.requires.room in
    rw c.if-meet_still.ensures.left (record {
      state = room.state;
      connection = room.connection;
      streams = room.streams;
      room = room.room;
    })

pub returns-then-meet_still-clause-after : goal.returns-then-meet_still-clause-after
returns-then-meet_still-clause-after c = λ frames h orderly.
    let met = c.if-meet_still.ensures in
    quiet-more c.args.frame.now h c.requires.on c.requires.little orderly
    (met.quiet c.args.self.now.pass
    (record { brought = c.in_ok-change.ensures; last = refl; initial = refl; connection = refl; streams = refl }) _
    (h.goes_on c.requires.on).1) (ap (λ (one : FoundPass). one.found) met.rest)
    (ap (λ (one : FoundPass). one.has_stopped) met.rest) met.hidden
    (ap (λ (one : FoundPass). one.frames_shown) met.rest)

pub returns-clause-after : goal.returns-clause-after
returns-clause-after c = λ frames h orderly.
    let adds = c.in_ok-add.ensures in
    let rest = c.if-meet_still.ensures.rest in
    said-more c.args.frame.now h c.requires.on c.requires.little orderly c.in_ok-said.said.items
    (rw (adds.pass, ← ap (λ (one : FoundPass). one.frames_shown) rest)
    (c.in_ok-said.ensures c.args.self.now.pass
    (rw c.if-meet_still.ensures.left (record {
      brought = c.in_ok-change.ensures;
      last = refl;
      initial = refl;
      connection = refl;
      streams = refl;
    })) _ (h.goes_on c.requires.on).1))
    (record {
      found = rw (← ap (λ (one : FoundPass). one.found) rest) (rw c.as_slice.ensures.value at adds.added.found);
      stopped = rw c.as_slice.ensures.value at adds.added.stopped;
      same = adds.added.same ∙ ap (λ (one : FoundPass). one.frames_shown) rest;
    })
