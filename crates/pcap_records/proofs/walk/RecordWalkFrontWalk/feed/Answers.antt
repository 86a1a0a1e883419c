use Rattle.std.proofs.Common.{◌-◌, ◌∙◌, ◌++◌, ap, arith, drop, length, length-append, length-drop, subst, take}
use Rattle.std.proofs.Common.{append_assoc, take-append-drop}
use Rattle.std.proofs.lemmas.List.{length-take, length-take-le}
use Rattle.std.proofs.lemmas.Result.{on_ok_weaker}
use Rattle.pcap_records.specs.code.Walk.{HasFed}
use Rattle.pcap_records.proofs.Fronts.{behind}
use Rattle.pcap_records.proofs.walk.RecordWalkFrontWalk.feed.Goals as goal

pub go_on-requires-clause-fed : goal.go_on-requires-clause-fed
go_on-requires-clause-fed g c =
    let (front, fed, short) = c.requires in
    let more = c.args.more.now in
    let used = c.in_ok-used.used in (
      front ++ take used more,
      c.in_ok-used.ensures.fed front fed,
      omega (
        arith,
        short,
        length-append front (take used more),
        length-take-le used more c.in_ok-used.ensures.within,
        length-take (length more - used) (drop used more),
        length-drop used more,
        c.in_ok-used.ensures.within,
      ),
    )

pub returns : goal.returns
returns g c = λ front fed.
    let more = c.args.more.now in
    let used = c.in_ok-used.used in
    on_ok_weaker c.go_on.result
    (λ is. subst (λ bytes. HasFed g.V.RecordVisitor.after bytes c.go_on.new.self)
    (append_assoc front (take used more) (take (length more - used) (drop used more))
    ∙ ap (λ l. front ++ (take used more ++ l)) (behind used more)
    ∙ ap (λ l. front ++ l) (take-append-drop used more)) is)
    (c.go_on.ensures (front ++ take used more) (c.in_ok-used.ensures.fed front fed))
