-- The exit status of the program, where its words parse, and its line on standard error.
use Rattle.std.specs.Prelude.{ℕ, List, ◌++◌, Result, Ok, Err, codes}
use Rattle.pcap_records.specs.RefusalName.{refusal_name}
use Rattle.pcap_records.specs.declared.faults.PcapFault.TheVariants.{OutOfMemory}
use Rattle.h2audit.specs.declared.fault.AuditFault.{AuditFault}
use Rattle.h2audit.specs.declared.fault.AuditFault.TheVariants as fault
use Rattle.h2audit.specs.declared.verdict.Verdict.{Verdict}
use Rattle.h2audit.specs.declared.verdict.Verdict.TheVariants.{Clean, Faults}

-- both, by what a run answered; where the line is empty, none is said. Want of memory is no refusal of the capture
abbrev pub ending_of : Result Verdict AuditFault → ℕ × List ℕ
ending_of (Ok Clean) = (0, codes "")
ending_of (Ok Faults) = (1, codes "")
ending_of (Err (fault.Pcap OutOfMemory)) = (5, codes "h2audit: out of memory")
ending_of (Err (fault.Pcap refusal)) = (3, codes "h2audit: capture refused: " ++ refusal_name refusal)
ending_of (Err fault.Read) = (4, codes "h2audit: read failed")
ending_of (Err fault.Write) = (4, codes "h2audit: write failed")
ending_of (Err fault.OutOfMemory) = (5, codes "h2audit: out of memory")
