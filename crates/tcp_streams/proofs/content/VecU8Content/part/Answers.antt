use Rattle.tcp_streams.proofs.Words.{sym}
use Rattle.tcp_streams.proofs.Contents.{if-ok, part-bytes}
use Rattle.tcp_streams.specs.code.Content.{AreBytesIn}
use Rattle.tcp_streams.specs.code.Interval.{part_of}
use Rattle.std.proofs.Common.{subst}
use Rattle.tcp_streams.proofs.content.VecU8Content.part.Goals as goal

pub returns : goal.returns
returns c = λ of gives.
    let x = c.args.x.now in
    if-ok c.copied.result
    (λ copy is. subst (λ bytes. AreBytesIn of (part_of x c.args.low c.args.high) bytes) (sym is)
    (part-bytes of x c.args.payload.now c.args.low c.args.high c.requires.low c.requires.some c.requires.high
    c.requires.given gives))
    c.copied.ensures
