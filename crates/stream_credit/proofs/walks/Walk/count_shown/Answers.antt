use Rattle.stream_credit.proofs.{WalkLemmas.room-next, WalkLemmas.room-wide, Words.Client, Words.Server, Words.refl}
use Rattle.stream_credit.proofs.walks.Walk.count_shown.Goals as goal

pub say_stream-requires-clause-client : goal.say_stream-requires-clause-client
say_stream-requires-clause-client c =
    room-wide c.args.step.now.number c.args.self.now.entry c.requires.numbered c.requires.room Client

pub say_stream-requires-clause-server : goal.say_stream-requires-clause-server
say_stream-requires-clause-server c =
    room-wide c.args.step.now.number c.args.self.now.entry c.requires.numbered c.requires.room Server

pub returns : goal.returns
returns c =
    let said = c.in_ok-say_stream.ensures in
    record {
      stream = refl;
      frames_shown = refl;
      found = rw (
        c.in_ok-extend_from_slice.ensures.items,
        c.as_slice.ensures.value,
        c.keep_shown.ensures,
        c.in_ok-put_in_order.ensures.ok,
        said.said,
        c.clear.ensures.items,
      ) refl;
      entry = said.after;
      initial = c.initial_after-self.ensures;
      met = refl;
      watch = refl;
      room = room-next c.args.step.now.number c.say_stream.new.entry (said.client _ (c.requires.room Client))
          (said.server _ (c.requires.room Server));
    }
