-- The connection between two frames, as it is kept. No public clause cites this.
use Rattle.std.specs.Prelude.{◌≡◌, ℕ, ℤ, false, pos, ◌+ℤ◌, ◌-ℤ◌, int_lt, nat_lt, max, Bool, if◌then◌else◌, []}
use Rattle.std.specs.Prelude.{Option}
use Rattle.audit_terms.specs.declared.sides.Side.{Side}
use Rattle.audit_terms.specs.declared.sides.Side.TheVariants.{Client, Server}
use Rattle.audit_terms.specs.declared.sides.Sides.{Sides}
use Rattle.audit_terms.specs.Sides.{side_of}
use Rattle.audit_terms.specs.declared.frames.Frame.{Frame}
use Rattle.audit_terms.specs.declared.items.Change.{Change}
use Rattle.audit_terms.specs.declared.items.Item.{Item}
use Rattle.audit_terms.specs.Frame.{promised_in, content_by, grant_to, grants_nothing}
use Rattle.audit_terms.specs.Connection.{connection_said, connection_after, connection_window_said, credit_after}
use Rattle.audit_terms.specs.Connection.{is_opened_by_headers, is_even_promise, opening_order_said}
use Rattle.audit_terms.specs.Connection.{promise_order_said, push_said}
use Rattle.audit_terms.specs.Window.{is_used_up, largest_window}
use Rattle.quiet_pass.specs.declared.kept_connection.KeptConnection.{KeptConnection}
use Rattle.stream_credit.specs.code.Standings.{AreQuiet}

-- a frame with what the connection meets beside it
abbrev pub as_item : Frame → (opens : Bool) → Option Change → Item
as_item frame opens change = record { frame = frame; opens = opens; change = change }

-- the connection after a frame: nothing of that is shown
pub record IsConnectionAfter (frame : Frame) (opens : Bool) (change : Option Change)
    (old new : KeptConnection) : Type 0 where
  pub said : AreQuiet (connection_said old.state (as_item frame opens change))
  pub after : new.state ≡ connection_after old.state (as_item frame opens change)

-- a credit after a frame, where some is left before and after it, and no more than the largest
pub record IsCountedCredit (d : Side) (frame : Frame) (before after : ℤ) : Type 0 where
  pub moved : after ≡ before +ℤ (pos (grant_to d 0 frame) -ℤ pos (content_by d frame))
  pub some : is_used_up before ≡ false
  pub left : is_used_up after ≡ false
  pub within : int_lt largest_window after ≡ false

-- a credit after a frame: nothing of that is shown
pub record IsCreditAfter (d : Side) (frame : Frame) (before after : ℤ) : Type 0 where
  pub moved : after ≡ credit_after d before frame
  pub said : AreQuiet (connection_window_said d before frame)

-- the credits of both sides after a frame: nothing of that is shown
pub record AreCreditsAfter (frame : Frame) (before after : Sides ℤ) : Type 0 where
  pub client : IsCreditAfter Client frame before.client after.client
  pub server : IsCreditAfter Server frame before.server after.server

-- these are the credits after a frame: nothing of them and of its length is shown
pub record HasCredits (frame : Frame) (old : KeptConnection) (credit : Sides ℤ) : Type 0 where
  pub short : nat_lt (side_of frame.side old.state.limit) frame.length ≡ false
  pub moved : AreCreditsAfter frame old.state.credit credit

-- the frame moves no credit of side d
pub record LeavesCredit (d : Side) (frame : Frame) : Type 0 where
  pub grant : grant_to d 0 frame ≡ 0
  pub nothing : grants_nothing d 0 frame ≡ false
  pub content : content_by d frame ≡ 0

-- the greatest stream opened by the client after a frame: nothing of that is shown
pub record IsOpenedAfter (frame : Frame) (opens : Bool) (before after : ℕ) : Type 0 where
  pub opened : (change : Option Change)
      → after ≡ (if is_opened_by_headers (as_item frame opens change) then max before frame.stream else before)
  pub said : (change : Option Change) → opening_order_said before (as_item frame opens change) ≡ []

-- the greatest even stream promised by the server after a frame: nothing of that is shown
pub record IsPromisedAfter (frame : Frame) (push before after : ℕ) : Type 0 where
  pub promised : after ≡ (if is_even_promise frame then max before (promised_in frame.body) else before)
  pub order_said : promise_order_said before frame ≡ []
  pub allowed : push_said push frame ≡ []
