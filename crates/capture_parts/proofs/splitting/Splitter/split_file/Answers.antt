use Rattle.capture_parts.proofs.Terms.{append-nil, arith}
use Rattle.std.proofs.lemmas.Grind.{common_steps}
use Rattle.capture_parts.proofs.splitting.Splitter.split_file.Goals as goal

pub returns-then-is_between-clause-dealt : goal.returns-then-is_between-clause-dealt
returns-then-is_between-clause-dealt g c =
    let filed = c.in_ok-filled.ensures in
    let turned = rw c.if-filled-eq0.true at filed.turned in
    (turned.given, rw append-nil at turned.consumed, filed.end, turned.count, turned.dealt)

pub returns-then-is_between-clause-whole : goal.returns-then-is_between-clause-whole
returns-then-is_between-clause-whole g c = grind (arith, common_steps)
