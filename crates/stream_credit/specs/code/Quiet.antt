-- Frames that show nothing of a stream where credits are not shown.
use Rattle.std.specs.Prelude.{◌≡◌, ℕ, ◌^◌, ℤ, pos, ◌+ℤ◌, ◌-ℤ◌, false, ◌&&◌, Option, Some, is_some}
use Rattle.audit_terms.specs.declared.sides.Side.{Side}
use Rattle.audit_terms.specs.declared.sides.Sides.{Sides}
use Rattle.audit_terms.specs.declared.frames.Frame.{Frame}
use Rattle.audit_terms.specs.declared.lives.StreamLife.{StreamLife}
use Rattle.audit_terms.specs.Side.{other}
use Rattle.audit_terms.specs.Sides.{side_of}
use Rattle.audit_terms.specs.Frame.{is_zero_grant, content_by, grant_to}
use Rattle.audit_terms.specs.Life.{is_opening, ends_window, is_not_opened, is_after_end, life_after}
use Rattle.audit_terms.specs.Window.{is_used_up, overflows, overruns}
use Rattle.audit_terms.specs.code.Room.{HasRoom}
use Rattle.stream_credit.specs.declared.quiet_moves.Move.{Move}

-- what DATA moves, and HEADERS by 0
abbrev pub sent : Frame → Move
sent frame = record { side = frame.side; amount = pos 0 -ℤ pos (content_by frame.side frame) }

-- what a WINDOW_UPDATE moves
abbrev pub granted : Frame → (increment : ℕ) → Move
granted frame increment = record { side = other frame.side; amount = pos increment }

-- the frame moves one window of the stream, and does nothing else to it
pub record IsMove (stream : ℕ) (life : StreamLife) (frame : Frame) (move : Move) : Type 0 where
  pub opens : is_opening stream life frame ≡ false
  pub kept : life_after stream life frame ≡ life
  pub opened : is_not_opened stream life frame ≡ false
  pub in_time : is_after_end life frame ≡ false
  pub grants : (is_zero_grant frame.body && is_some life.opened) ≡ false
  pub goes_on : (d : Side) → ends_window d frame ≡ false
  pub amount : pos (grant_to move.side stream frame) -ℤ pos (content_by move.side frame) ≡ move.amount
  pub within : (before : ℤ) → is_used_up (before +ℤ move.amount) ≡ false
      → overruns before (content_by move.side frame) ≡ false
  pub other_grant : grant_to (other move.side) stream frame ≡ 0
  pub other_content : content_by (other move.side) frame ≡ 0
  pub small : HasRoom (2 ^ 32) move.amount

-- a credit that rises by an amount, where some is left before and after it, and no more than the largest window
pub record IsRaised (before amount after : ℤ) : Type 0 where
  pub moved : after ≡ before +ℤ amount
  pub some : is_used_up before ≡ false
  pub left : is_used_up after ≡ false
  pub fits : overflows before after ≡ false

-- the credit of a window after such a move
pub record IsCredit (window : Option ℤ) (move : Move) (after : ℤ) : Type 0 where
  pub before : ℤ
  pub live : window ≡ Some before
  pub raised : IsRaised before move.amount after

-- the windows after such a move
pub record IsMovedQuietly (windows : Sides (Option ℤ)) (move : Move) (next : Sides (Option ℤ)) : Type 0 where
  pub after : ℤ
  pub credit : IsCredit (side_of move.side windows) move after
  pub own : side_of move.side next ≡ Some after
  pub rest : side_of (other move.side) next ≡ side_of (other move.side) windows
