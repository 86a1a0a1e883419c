use Rattle.audit_terms.specs.code.Room.{WindowHasRoom}
use Rattle.stream_credit.proofs.Words.{Stream, subst, sym, ◌^◌}
use Rattle.quiet_pass.proofs.WholeLemmas.{each-fits, room-among}
use Rattle.quiet_pass.specs.code.AllStreams.{HoldRoom}
use Rattle.quiet_pass.specs.declared.all_streams.AllStreams.{AllStreams}
use Rattle.quiet_pass.specs.declared.all_streams.AllStreams.TheVariants.{Whole}
use Rattle.quiet_pass.proofs.all_streams.AllStreams.entry_of.Goals as goal

pub returns-in-Whole-clause-client : goal.returns-in-Whole-clause-client
returns-in-Whole-clause-client c =
    let list = c.in-Whole.whole.list.items in
    let room : HoldRoom (Whole c.in-Whole.whole) =
    subst (λ (kept : AllStreams). HoldRoom kept) c.in-Whole.is c.requires in
    subst (λ (entry : Stream). WindowHasRoom (2 ^ 60) entry.window.client) (sym c.entry_of-in-Whole.ensures)
    (room-among list c.args.stream (each-fits room.0 list room.1 room.2)).client

pub returns-in-Whole-clause-server : goal.returns-in-Whole-clause-server
returns-in-Whole-clause-server c =
    let list = c.in-Whole.whole.list.items in
    let room : HoldRoom (Whole c.in-Whole.whole) =
    subst (λ (kept : AllStreams). HoldRoom kept) c.in-Whole.is c.requires in
    subst (λ (entry : Stream). WindowHasRoom (2 ^ 60) entry.window.server) (sym c.entry_of-in-Whole.ensures)
    (room-among list c.args.stream (each-fits room.0 list room.1 room.2)).server
