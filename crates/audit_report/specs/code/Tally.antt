-- What a tally of packets says.
use Rattle.std.specs.Prelude.{◌≡◌, List, count_by}
use Rattle.audit_report.specs.CaptureLine.{is_segment, is_snapped, is_not_ipv4, is_fragment, is_not_tcp, is_refused}
use Rattle.packet_heads.specs.declared.packets.Packet.{Packet}
use Rattle.audit_report.specs.declared.tally.Tally.{Tally}

-- the tally has how many of these packets there are of each kind
pub record IsTallyOf (packets : List Packet) (tally : Tally) : Type 0 where
  pub segments : tally.segments ≡ count_by is_segment packets
  pub snapped : tally.snapped ≡ count_by is_snapped packets
  pub not_ipv4 : tally.not_ipv4 ≡ count_by is_not_ipv4 packets
  pub fragments : tally.fragments ≡ count_by is_fragment packets
  pub not_tcp : tally.not_tcp ≡ count_by is_not_tcp packets
  pub refused : tally.refused ≡ count_by is_refused packets
