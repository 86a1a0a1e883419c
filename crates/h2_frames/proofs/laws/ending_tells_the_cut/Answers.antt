use Rattle.h2_frames.proofs.Endings.{ending-tells}
use Rattle.h2_frames.proofs.laws.ending_tells_the_cut.Goals as goal

pub returns : goal.returns
returns g c = ending-tells g.V.FrameVisitor.after
