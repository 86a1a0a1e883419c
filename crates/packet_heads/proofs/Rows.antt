-- Where the packets of rows stand, from where the rows do.
use Rattle.std.proofs.Common.{◌≡◌, ℕ, ◌+◌, ◌≤◌, List, [], ◌∷◌, ◌++◌, length, refl, arith}
use Rattle.pcap_records.specs.declared.pcap_record.Record.{Record}
use Rattle.pcap_records.specs.code.Place.{AreTimely, RiseFrom}
use Rattle.packet_heads.specs.declared.packets.Packet.{Packet}
use Rattle.packet_heads.specs.declared.packets.Packet.TheVariants.{Segment}
use Rattle.packet_heads.specs.code.Order.{AreNumberedFrom, PayloadsRise, TimesFit}
use Rattle.packet_heads.specs.code.Standing.{AllStand, StandsIn}

-- as many packets as rows, numbered and timed as they are
pub record AreAlong (number : ℕ) (rows : List Record) (packets : List Packet) : Type 0 where
  pub count : length packets ≡ length rows
  pub numbered : AreNumberedFrom number packets
  pub times : TimesFit packets

pub along : (number : ℕ) (rows : List Record) (packets : List Packet) → AreTimely rows → AllStand number rows packets
    → AreAlong number rows packets
along number [] [] times h = record { count = refl; numbered = tt; times = tt }
along number (row ∷ rows) (Segment s ∷ packets) times h =
    let later = along (number + 1) rows packets times.1 h.1 in
    record {
      count = omega (arith, later.count);
      numbered = (h.0.0, later.numbered);
      times = (omega (arith, times.0, h.0.1), later.times);
    }
along number (row ∷ rows) (_ ∷ packets) times h =
    let later = along (number + 1) rows packets times.1 h.1 in
    record { count = omega (arith, later.count); numbered = later.numbered; times = later.times }
along number _ _ times h = absurd h

-- payloads rise as rows do, up to an end within the capture
pub payloads_rise : (number from before end size : ℕ) (rows : List Record) (packets : List Packet) → before ≤ from
    → end ≤ size → RiseFrom from end rows → AllStand number rows packets → PayloadsRise before size packets
payloads_rise number from before end size [] [] e within rise h = omega (arith, e, within, rise)
payloads_rise number from before end size (row ∷ rows) (Segment s ∷ packets) e within rise h = (
  omega (arith, e, rise.0, h.0.2),
  h.0.3,
  payloads_rise (number + 1) (row.start + row.length) s.hi end size rows packets h.0.4 within rise.1 h.1,
)
payloads_rise number from before end size (row ∷ rows) (_ ∷ packets) e within rise h =
    payloads_rise (number + 1) (row.start + row.length) before end size rows packets (omega (arith, e, rise.0)) within
    rise.1 h.1
payloads_rise number from before end size _ _ e within rise h = absurd h

-- and that of the next record is behind them
pub payloads_push : (number from size : ℕ) (row : Record) (packets : List Packet) (packet : Packet)
    → PayloadsRise from row.start packets → row.start + row.length ≤ size → StandsIn number row packet
    → PayloadsRise from size (packets ++ packet ∷ [])
payloads_push number from size row [] (Segment s) h within stands =
    (omega (arith, h, stands.2), stands.3, omega (arith, within, stands.4))
payloads_push number from size row [] _ h within stands = omega (arith, h, within)
payloads_push number from size row (Segment s ∷ packets) packet h within stands =
    (h.0, h.1, payloads_push number s.hi size row packets packet h.2 within stands)
payloads_push number from size row (_ ∷ packets) packet h within stands =
    payloads_push number from size row packets packet h within stands
