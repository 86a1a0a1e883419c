use Rattle.h2_frames.proofs.Growth.{capture-order-grows}
use Rattle.h2_frames.proofs.laws.capture_order_grows.Goals as goal

pub returns : goal.returns
returns c = capture-order-grows
