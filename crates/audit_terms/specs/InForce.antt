-- Settings in force (RFC 9113, 6.5.3): the acknowledgements of one side answer the SETTINGS of the other in their
-- order.
use Rattle.std.specs.Prelude.{ℕ, pos, ◌+◌, ◌&&◌, if◌then◌else◌, List, [], ◌++◌, slice_get, Option, Some, None, is_some}
use Rattle.std.specs.Prelude.{is_none}
use Rattle.audit_terms.specs.declared.sides.Sides.{Sides}
use Rattle.audit_terms.specs.declared.kinds.Kind.TheVariants.{UnmatchedAck}
use Rattle.audit_terms.specs.declared.settings.Settings.{Settings}
use Rattle.audit_terms.specs.declared.frames.Frame.{Frame}
use Rattle.audit_terms.specs.declared.items.Change.{Change}
use Rattle.audit_terms.specs.declared.findings.Finding.{Finding}
use Rattle.audit_terms.specs.Side.{other, is_side}
use Rattle.audit_terms.specs.Sides.{side_of, each_side}
use Rattle.audit_terms.specs.Frame.{is_ack, settings_in}
use Rattle.audit_terms.specs.Change.{change_by, new_initial}
use Rattle.audit_terms.specs.Window.{first_window}
use Rattle.audit_terms.specs.Finding.{finding_at, say}

-- what stands after some frames
pub record InForce : Type 0 where
  pub sent : Sides (List Settings)  -- all SETTINGS that each side sent
  pub paired : Sides ℕ  -- how many acknowledgements of each side took one
  pub initial : Sides ℕ  -- the initial window in force for the streams on which the side sends (6.9.2)

-- before any frame
-- //= https://www.rfc-editor.org/rfc/rfc9113#section-6.5.2
-- //# The initial value is 2^16-1 (65,535) octets.
abbrev pub initial_in_force : InForce
initial_in_force = record {
  sent = each_side (λ _. []);
  paired = each_side (λ _. 0);
  initial = each_side (λ _. first_window);
}

-- the SETTINGS that a frame takes: with m acknowledgements of its side paired before it, an acknowledgement takes the
-- one at position m of the other side, if that was sent before
-- //= https://www.rfc-editor.org/rfc/rfc9113#section-6.5.3
-- //# Upon receiving a SETTINGS frame with the ACK flag set, the sender of the altered settings can rely on the values
-- //# from the oldest unacknowledged SETTINGS frame having been applied.
abbrev pub taken : InForce → Frame → Option Settings
taken now frame =
    if is_ack frame.body then slice_get (side_of (other frame.side) now.sent) (side_of frame.side now.paired) else None

-- the change of a frame that takes these settings
abbrev pub change_taking : Frame → Option Settings → Option Change
change_taking frame None = None
change_taking frame (Some settings) = Some (change_by frame settings)

-- the change that a frame brings, where it is an acknowledgement that takes a SETTINGS
abbrev pub change_of : InForce → Frame → Option Change
change_of now frame = change_taking frame (taken now frame)

-- what stands after a frame
-- //= https://www.rfc-editor.org/rfc/rfc9113#section-6.5.3
-- //# Once all values have been processed, the recipient MUST immediately emit a SETTINGS frame with the ACK flag set.
abbrev pub in_force_after : InForce → Frame → InForce
in_force_after now frame = record {
  sent = each_side (λ d. side_of d now.sent ++ (if is_side d frame.side then settings_in frame.body else []));
  paired = each_side (λ d. side_of d now.paired + (if is_side d frame.side && is_some (taken now frame) then 1 else 0));
  initial = each_side (λ d. new_initial (change_of now frame) d (side_of d now.initial));
}

-- an acknowledgement with no SETTINGS left to take
abbrev pub settings_said : InForce → Frame → List Finding
settings_said now frame =
    say (is_ack frame.body && is_none (taken now frame))
    (finding_at UnmatchedAck frame.number frame.stream frame.side (pos 0))
