use Rattle.stop_desk.proofs.RoundMerge.{board_merges_lem}
use Rattle.stop_desk.proofs.laws.board_merges.Goals as goal

pub returns : goal.returns
returns c = board_merges_lem
