use Rattle.packet_heads.specs.code.Walk.{HasMade}
use Rattle.h2audit.specs.code.Listed.{HasListed}
use Rattle.h2audit.proofs.MetAudits.{fed-end}
use Rattle.h2audit.specs.code.Met.{HasMetPackets}
use Rattle.h2audit.proofs.running.report_listed_behind.Goals as goal

pub report_listed-requires-after_bounds : goal.report_listed-requires-after_bounds
report_listed-requires-after_bounds g c κs within =
    let (capture, is, short) = c.requires in
    let made : HasMade (HasMetPackets HasListed) capture c.in-Taken.walk = rw c.in-Taken.is at is in
    let end = c.end.ensures in (
      capture,
      fed-end HasListed capture c.end.result (end.taken capture made) (end.met capture made)
          (end.refused capture made) (end.err capture made),
    )

pub returns-in-Taken-clause-report : goal.returns-in-Taken-clause-report
returns-in-Taken-clause-report g c = λ capture is.
    let made : HasMade (HasMetPackets HasListed) capture c.in-Taken.walk = rw c.in-Taken.is at is in
    let end = c.end.ensures in
    c.report_listed.ensures.report capture (fed-end HasListed capture c.end.result (end.taken capture made)
    (end.met capture made) (end.refused capture made) (end.err capture made))

pub returns-in-Taken-clause-refused : goal.returns-in-Taken-clause-refused
returns-in-Taken-clause-refused g c = λ capture is.
    let made : HasMade (HasMetPackets HasListed) capture c.in-Taken.walk = rw c.in-Taken.is at is in
    let end = c.end.ensures in
    c.report_listed.ensures.refused capture (fed-end HasListed capture c.end.result (end.taken capture made)
    (end.met capture made) (end.refused capture made) (end.err capture made))
