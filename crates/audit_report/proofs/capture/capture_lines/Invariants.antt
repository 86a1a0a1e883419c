use Rattle.std.proofs.Common.{take}
use Rattle.audit_report.specs.code.Packets.{HasCounted}
use Rattle.audit_report.proofs.capture.capture_lines.Given as goal

-- the packets so far were taken
abbrev pub invariant-loop-packet : goal.invariant-loop-packet
invariant-loop-packet l = HasCounted (take l.packet-index l.packets) l.lines
