use Rattle.audit_rounds.proofs.StreamWork.{row-work}
use Rattle.audit_rounds.proofs.connection_streams.run_of_row.Goals as goal

pub returns : goal.returns
returns g c =
    row-work g.L.Look.answers c.args.frames_shown c.args.streams.now c.args.row.now c.positions_of.result.now
    c.args.look.now c.stream_run.new.look c.stream_run.result c.requires.row c.positions_of.ensures
    c.stream_run.ensures.run c.stream_run.ensures.opened c.stream_run.ensures.numbered
