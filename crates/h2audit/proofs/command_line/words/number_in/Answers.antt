use Rattle.clap.specs.Words.{found_of}
use Rattle.h2audit.proofs.OptionReads.{number_read}
use Rattle.h2audit.proofs.command_line.words.number_in.Goals as goal

pub unwrap-requires : goal.unwrap-requires
unwrap-requires c =
    (number_read (found_of c.args.found.now) c.args.name.now c.args.most c.get_one.result c.ranges.most.fits c.requires
    c.get_one.ensures.value).0

pub returns : goal.returns
returns c =
    let read = number_read (found_of c.args.found.now) c.args.name.now c.args.most c.get_one.result c.ranges.most.fits
    c.requires c.get_one.ensures.value in
    let got = rw c.unwrap.ensures at read.1 in
    record { range = got.0; value = got.1 }
