use Rattle.std.proofs.Common.{◌≡◌, ◌<◌, ◌∙◌, ◌++◌, ◌-◌, ap, arith, drop, length, length-append, subst}
use Rattle.std.proofs.Common.{sym, take}
use Rattle.pcap_records.specs.code.Walk.{IsAt}
use Rattle.pcap_records.proofs.Fronts.{behind}
use Rattle.pcap_records.proofs.Walking.{none_at}
use Rattle.pcap_records.proofs.walk.RecordWalk.go_on.Goals as goal

pub hand_on_all-requires : goal.hand_on_all-requires
hand_on_all-requires g c =
    let (front, fed, short) = c.requires.fed in
    let more = c.args.more.now in
    let some : 0 < length more = grind (arith, c.is_empty.ensures, c.if-is_empty.false, c.if-is_empty.ensures) in (
      front ++ more,
      none_at g.V.RecordVisitor.after front more c.args.self.now fed (c.requires.none some),
      omega (arith, short, length-append front more),
    )

pub returns : goal.returns
returns g c = λ front fed.
    let after = g.V.RecordVisitor.after in
    let more = c.args.more.now in
    let passed = c.in_ok-passed.passed in
    let some : 0 < length more = grind (arith, c.is_empty.ensures, c.if-is_empty.false, c.if-is_empty.ensures) in
    let none = c.requires.none some in
    let handed = c.in_ok-passed.ensures in
    let at = handed.at (front ++ more) (none_at after front more c.args.self.now fed none) in
    let kept : c.extend_from_slice.new.self.items ≡ drop passed more =
    c.in_ok-extend_from_slice.ensures.items
    ∙ ap (λ l. l ++ take (length more - passed) (drop passed more)) none ∙ behind passed more in
    record {
      at = subst (λ bytes. IsAt after (front ++ more) bytes c.hand_on_all.new.cursor c.hand_on_all.new.visitor)
          (sym kept) at;
      through = rw kept handed.through;
    }
