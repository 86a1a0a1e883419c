use Rattle.packet_heads.specs.code.Walk.{HasMade}
use Rattle.quiet_pass.specs.code.FoundFlows.{HasMetSent}
use Rattle.h2audit.proofs.MetAudits.{fed-end}
use Rattle.h2audit.specs.code.Met.{HasMetPackets}
use Rattle.h2audit.proofs.running.report_found_behind.Goals as goal

pub report_found-requires : goal.report_found-requires
report_found-requires g c =
    let (capture, is, short) = c.requires in
    let made : HasMade (HasMetPackets
    (HasMetSent g.S.Showing.frames_shown)) capture c.in-Taken.walk = rw c.in-Taken.is at is in
    let end = c.end.ensures in (
      capture,
      fed-end (HasMetSent g.S.Showing.frames_shown) capture c.end.result (end.taken capture made) (end.met capture made)
          (end.refused capture made) (end.err capture made),
    )

pub returns-in-Taken-clause-report : goal.returns-in-Taken-clause-report
returns-in-Taken-clause-report g c = λ capture is.
    let made : HasMade (HasMetPackets
    (HasMetSent g.S.Showing.frames_shown)) capture c.in-Taken.walk = rw c.in-Taken.is at is in
    let end = c.end.ensures in
    c.report_found.ensures.report capture (fed-end (HasMetSent g.S.Showing.frames_shown) capture c.end.result
    (end.taken capture made)
    (end.met capture made) (end.refused capture made) (end.err capture made))

pub returns-in-Taken-clause-refused : goal.returns-in-Taken-clause-refused
returns-in-Taken-clause-refused g c = λ capture is.
    let made : HasMade (HasMetPackets
    (HasMetSent g.S.Showing.frames_shown)) capture c.in-Taken.walk = rw c.in-Taken.is at is in
    let end = c.end.ensures in
    c.report_found.ensures.refused capture (fed-end (HasMetSent g.S.Showing.frames_shown) capture c.end.result
    (end.taken capture made)
    (end.met capture made) (end.refused capture made) (end.err capture made))
