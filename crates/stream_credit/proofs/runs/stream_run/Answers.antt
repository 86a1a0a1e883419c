use Rattle.stream_credit.proofs.{RunLemmas.kept-numbered, RunLemmas.run-ends, RunLemmas.run-starts, Words.◌∙◌}
use Rattle.stream_credit.proofs.runs.stream_run.Goals as goal

pub meet_all-requires-clause-sound : goal.meet_all-requires-clause-sound
meet_all-requires-clause-sound g c =
    let ask = c.requires in
    (_, run-starts ask.own.in_range ask.own.orderly ask.changes ask.acknowledged c.idle-walk.ensures)

pub returns : goal.returns
returns g c =
    let ask = c.requires in
    let end = c.run_of.ensures in
    let met = c.in_ok-is_whole.ensures _ (run-starts ask.own.in_range ask.own.orderly ask.changes ask.acknowledged
    c.idle-walk.ensures) in
    let (run, opened) = run-ends _ c.meet_all.new.walk c.in_ok-is_whole.is_whole met end.upto end.findings in
    record {
      run = rw (end.last_look, end.looks) run;
      opened = end.opened ∙ opened;
      numbered = kept-numbered _ _ _ c.args.changes.now ask.own.in_range ask.own.orderly ask.changes _ _ run.found;
    }
