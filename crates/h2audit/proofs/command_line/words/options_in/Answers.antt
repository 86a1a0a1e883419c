use Rattle.std.proofs.Common.{codes}
use Rattle.clap.specs.Words.{found_of, rows_of}
use Rattle.h2audit.proofs.OptionReads.{flag_read, found_of-choices}
use Rattle.h2audit.proofs.command_line.words.options_in.Goals as goal

pub returns : goal.returns
returns c =
    let f = found_of c.args.found.now in
    let flag = c.get_one.ensures in
    let shown = flag_read _ f (codes "frames") c.get_one.result flag.none flag.value in
    found_of-choices (rows_of f) c.unwrap.result _ (rw c.unwrap.ensures at c.of.ensures).1 (
      c.number_in-workers.ensures.value,
      c.number_in-groups.ensures.value,
      c.number_in-block.ensures.value,
      rw c.unwrap_or-frames_shown.ensures shown,
    )
