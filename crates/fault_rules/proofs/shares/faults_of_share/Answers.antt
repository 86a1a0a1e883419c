use Rattle.fault_rules.proofs.Terms.{◌*◌, All, drop, sym, subst, All-take, All-drop, IsInRange}
use Rattle.fault_rules.proofs.shares.faults_of_share.Goals as goal

pub faults_after-requires : goal.faults_after-requires
faults_after-requires c =
    let frames = c.args.frames.now in
    let start = c.args.n * c.args.size in
    subst (All IsInRange) (sym c.share.ensures)
    (All-take IsInRange c.args.size (drop start frames) (All-drop IsInRange start frames c.requires.in_range))
