-- What is kept of intervals' bytes. No public clause cites it.
use Rattle.std.specs.Prelude.{◌≡◌, ℕ, ◌+◌, List, length, Option, None, Some, slice_range}
use Rattle.tcp_streams.specs.declared.interval.Interval.{Interval}
use Rattle.tcp_streams.specs.code.Interval.{width}

-- these are the bytes of an interval of the capture; where none is named, they are as many
abbrev pub AreBytesIn : Option (List ℕ) → Interval → List ℕ → Type 0
AreBytesIn None x bytes = length bytes ≡ width x
AreBytesIn (Some capture) x bytes = bytes ≡ slice_range capture x.index (x.index + width x)
