-- The frames of one side in its bytes. No public clause cites this.
use Rattle.std.specs.Prelude.{◌≡◌, ℕ, ◌*◌, ◌≤◌, List, length}
use Rattle.std.specs.List.{AllByRecursion}
use Rattle.tcp_streams.specs.declared.flows.Arrival.{Arrival}
use Rattle.audit_terms.specs.declared.sides.Side.{Side}
use Rattle.h2_frames.specs.declared.side_frames.SentFrames.{SentFrames}
use Rattle.h2_frames.specs.declared.side_frames.SideFrame.{SideFrame}
use Rattle.h2_frames.specs.declared.spelling.Spelled.{Spelled}
use Rattle.h2_frames.specs.Spelling.{Spells}
use Rattle.h2_frames.specs.CaptureOrder.{captured_from}
use Rattle.h2_frames.specs.code.Steps.{IsReadable}

-- the bytes from an offset on hold these frames of a side, numbered from here on, and then the tail
abbrev pub AreAhead : Side → List Arrival → (number offset : ℕ) → (bytes : List ℕ) → List SideFrame → (tail : List ℕ)
    → Type 0
AreAhead side arrivals number offset bytes frames tail =
    (spelled : List Spelled) × Spells bytes spelled tail × (frames ≡ captured_from side arrivals number offset spelled)

-- all frames in the bytes from an offset on, and how many bytes follow them; no frame is shorter than nine bytes
pub record AreSent (side : Side) (arrivals : List Arrival) (offset : ℕ) (bytes : List ℕ) (sent : SentFrames)
    : Type 0 where
  pub rest : List ℕ
  pub tail : sent.tail ≡ length rest
  pub ahead : AreAhead side arrivals 1 offset bytes sent.frames.items rest
  pub readable : AllByRecursion IsReadable sent.frames.items
  pub few : 9 * length sent.frames.items ≤ length bytes
