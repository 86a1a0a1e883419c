-- Frames that do nothing but move credit, as most do.
use Rattle.std.specs.Prelude.{◌≡◌, ℕ, false, true, is_some, List, [], ◌++◌, None}
use Rattle.audit_terms.specs.Connection.{connection_windows_said, credit_after, length_said}
use Rattle.audit_terms.specs.Finding.{say_of}
use Rattle.audit_terms.specs.Frame.{is_headers, is_server_promise}
use Rattle.audit_terms.specs.Life.{is_after_end, is_last_of, is_not_opened, is_opening}
use Rattle.audit_terms.specs.Frame.{is_zero_grant}
use Rattle.audit_terms.specs.Sides.{each_side, side_of}
use Rattle.audit_terms.specs.Stream.{frame_said, life_at, opens}
use Rattle.audit_terms.specs.declared.connection_state.ConnectionState.{ConnectionState}
use Rattle.audit_terms.specs.declared.findings.Finding.{Finding}
use Rattle.audit_terms.specs.declared.frames.Frame.{Frame}
use Rattle.audit_terms.specs.declared.items.Item.{Item}
use Rattle.audit_terms.specs.declared.items.Step.{Step}
use Rattle.audit_terms.specs.declared.lives.StreamLife.{StreamLife}
use Rattle.audit_terms.specs.declared.sides.Side.{Side}
use Rattle.audit_terms.specs.declared.stream_state.Stream.{Stream}

-- of the connection the item can show its length, and move the windows
pub record IsPlainItem (item : Item) : Type 0 where
  pub change : item.change ≡ None
  pub unpromised : is_server_promise item.frame ≡ false
  pub headless : is_headers item.frame.body ≡ false

-- what it shows of the connection
abbrev pub plain_said : ConnectionState → Frame → List Finding
plain_said now frame =
    length_said (side_of frame.side now.limit) frame ++ connection_windows_said now.credit frame

-- the connection after it
abbrev pub plain_after : ConnectionState → Frame → ConnectionState
plain_after now frame = record now { credit = each_side (λ d. credit_after d (side_of d now.credit) frame) }

-- a stream of this life is opened, and the frame does not end it, and shows nothing of it but of its windows
pub record MovesAlone (life : StreamLife) (frame : Frame) : Type 0 where
  pub some : is_some life.opened ≡ true
  pub opens : (stream : ℕ) → is_opening stream life frame ≡ false
  pub end : (d : Side) (stream : ℕ) → is_last_of d stream frame ≡ false
  pub opened : (stream : ℕ) → is_not_opened stream life frame ≡ false
  pub unended : is_after_end life frame ≡ false
  pub grant : is_zero_grant frame.body ≡ false

-- the step neither opens nor ends the stream, and shows nothing of it but of its windows
pub record IsPlainStep (stream : ℕ) (entry : Stream) (step : Step) : Type 0 where
  pub opens : opens stream entry step ≡ false
  pub life : life_at stream entry step ≡ entry.life
  pub said : say_of (frame_said stream entry step) step.frame ≡ []
