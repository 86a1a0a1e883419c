use Rattle.std.proofs.Common.{◌≡◌, ◌<◌, arith, length}
use Rattle.std.proofs.lemmas.Bool.Decides.{nat_tests}
use Rattle.pcap_records.proofs.Walking.{reading_of}
use Rattle.pcap_records.proofs.walk.RecordWalk.cut.Goals as goal

pub returns-then-is_empty : goal.returns-then-is_empty
returns-then-is_empty g c = λ capture is found rows count link cut.
    let begun = c.args.self.now.begun in
    let none : length begun.items ≡ 0 = grind (arith, c.is_empty.ensures, c.if-is_empty.true, c.if-is_empty.ensures) in
    reading_of g.V.RecordVisitor.after capture c.args.self.now found is link rows
    (grind (arith, nat_tests, cut, count, none))

pub returns-else-is_empty : goal.returns-else-is_empty
returns-else-is_empty g c = λ capture is found rows count link cut.
    let begun = c.args.self.now.begun in
    let some : 0 < length begun.items = grind (arith, c.is_empty.ensures, c.if-is_empty.false, c.if-is_empty.ensures) in
    reading_of g.V.RecordVisitor.after capture c.args.self.now found is link rows
    (grind (arith, nat_tests, cut, count, some))
