use Rattle.fault_rules.proofs.Terms.{◌≡◌, Frame, None, Option, Settings, Some, ap, change_taking, refl, sym, taken, ◌∙◌}
use Rattle.std.proofs.Common.{is_none}
use Rattle.fault_rules.proofs.pairing.meet.Goals as goal

-- a frame that takes settings brings a change
none-taken : (frame : Frame) (settings : Option Settings) → is_none (change_taking frame settings) ≡ is_none settings
none-taken frame None = refl
none-taken frame (Some settings) = refl

pub returns : goal.returns
returns c =
    let frame = c.args.frame.now in record {
      pending = λ now h. (c.in_ok-change.ensures now h).kept;
      changes = λ now h. rw ((c.in_ok-change.ensures now h).brings) c.in_ok-add.ensures.changes;
      findings = λ now h.
          rw (sym (none-taken frame (taken now frame)) ∙ ap is_none (c.in_ok-change.ensures now h).brings)
          c.in_ok-add.ensures.findings;
    }
