use Rattle.tcp_streams.proofs.{Words.arith, PieceLemmas.stands-at}
use Rattle.tcp_streams.proofs.pieces.piece_of_member.Goals as goal

pub piece_of-requires : goal.piece_of-requires
piece_of-requires c =
    let (size, small, rise) = c.requires in
    let stands = stands-at size c.args.of.now.packets.now _ _ rise c.in_ok-segment.ensures.some in
    record { payload = stands.ordered; short = omega (arith, stands.within) }
