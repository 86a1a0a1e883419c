use Rattle.h2_frames.proofs.Arising.{fed-grows}
use Rattle.h2_frames.proofs.laws.fed_grows.Goals as goal

pub returns : goal.returns
returns c = fed-grows
