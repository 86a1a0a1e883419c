use Rattle.fault_rules.proofs.Terms.{◌≡◌, ◌*◌, ◌-◌, ◌∙◌, ap, drop, take, length, min, arith, length-drop, take_min}
use Rattle.fault_rules.proofs.Terms.{take_all}
use Rattle.fault_rules.proofs.shares.share.Goals as goal

pub returns : goal.returns
returns c =
    let frames = c.args.frames.now in
    let start = c.args.n * c.args.size in
    let rest = drop start frames in
    let whole : take (length frames - start) rest ≡ rest = take_all _ rest (omega (arith, length-drop start frames)) in
    let size : c.min.result ≡ min c.args.size (length rest) = c.min.ensures
    ∙ ap (λ l. min c.args.size (length l)) whole in
    ap (take c.min.result) whole ∙ ap (λ k. take k rest) size ∙ take_min c.args.size rest
