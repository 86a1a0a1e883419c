-- What the packets of a capture keep: each names its place among them, and payloads lie apart.
use Rattle.std.specs.Prelude.{◌≡◌, ℕ, ◌+◌, ◌^◌, ◌<◌, ◌≤◌, List, [], ◌∷◌}
use Rattle.packet_heads.specs.declared.packets.Packet.{Packet}
use Rattle.packet_heads.specs.declared.packets.Packet.TheVariants.{Segment}

-- each segment names its own place, where the first packet has this number
abbrev pub AreNumberedFrom : ℕ → List Packet → Type 0
AreNumberedFrom number [] = Unit {0}
AreNumberedFrom number (Segment s ∷ later) = (s.rec ≡ number) × AreNumberedFrom (number + 1) later
AreNumberedFrom number (_ ∷ later) = AreNumberedFrom (number + 1) later

-- the payloads stand one after the other from `from` on, none past `size`
abbrev pub PayloadsRise : ℕ → ℕ → List Packet → Type 0
PayloadsRise from size [] = from ≤ size
PayloadsRise from size (Segment s ∷ later) = (from ≤ s.lo) × (s.lo ≤ s.hi) × PayloadsRise s.hi size later
PayloadsRise from size (_ ∷ later) = PayloadsRise from size later

-- each segment's time is below 2 ^ 63 nanoseconds
abbrev pub TimesFit : List Packet → Type 0
TimesFit [] = Unit {0}
TimesFit (Segment s ∷ later) = (s.nanos < 2 ^ 63) × TimesFit later
TimesFit (_ ∷ later) = TimesFit later
