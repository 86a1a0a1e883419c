use Rattle.std.proofs.Common.{◌-◌, ◌∙◌, ◌++◌, List, ap, arith, drop, length, length-drop, subst, take, ℕ}
use Rattle.std.proofs.Common.{take-append-drop}
use Rattle.std.proofs.lemmas.List.{length-take, take_all}
use Rattle.std.proofs.lemmas.Result.{on_ok_weaker}
use Rattle.input_output.proofs.front.feed_rest.Goals as goal

pub feed-requires : goal.feed-requires
feed-requires g c =
    let capture = c.args.capture.now in
    let fed = c.args.fed in
    let rest = drop fed capture in (
      take fed capture,
      c.requires.walk,
      omega (
        arith,
        length-take fed capture,
        length-take (length capture - fed) rest,
        length-drop fed capture,
        c.requires.within,
        c.requires.short,
      ),
    )

pub returns : goal.returns
returns g c =
    let capture = c.args.capture.now in
    let fed = c.args.fed in
    let rest = drop fed capture in
    let whole = ap (λ l. take fed capture ++ l)
    (take_all (length capture - fed) rest (omega (arith, length-drop fed capture)))
    ∙ take-append-drop fed capture in
    on_ok_weaker c.feed.result (subst (λ (bytes : List ℕ). g.W.FrontWalk.stands bytes c.feed.new.self) whole)
    (c.feed.ensures (take fed capture) c.requires.walk)
