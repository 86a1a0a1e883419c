use Rattle.fault_rules.proofs.Terms.{append_assoc, refl, ◌≡◌, ◌∙◌}
use Rattle.std.proofs.Common.{Option, Some, None, arith}
use Rattle.std.proofs.lemmas.Result.{on_ok_weaker}
use Rattle.audit_terms.specs.LocalFault.{breaks_block}
use Rattle.audit_terms.specs.code.LastFrame.{breaks, last_of}
use Rattle.audit_terms.specs.declared.frames.Frame.{Frame}
use Rattle.audit_terms.specs.declared.last_frames.LastFrame.{LastFrame}
use Rattle.fault_rules.proofs.frame_faults.say_local_after.Goals as goal

breaks-last : (previous : Option Frame) (last : LastFrame) (frame : Frame) → last ≡ last_of previous
    → breaks last frame ≡ breaks_block previous frame
breaks-last None last frame e = rw e refl
breaks-last (Some one) last frame e = grind arith

pub returns : goal.returns
returns c =
    on_ok_weaker c.say_fault-4.result
    (λ said previous kept. said ∙ rw (
      c.in_ok-say_body.ensures,
      c.in_ok-say_fault-3.ensures,
      c.in_ok-say_fault-2.ensures,
      c.in_ok-say_fault.ensures,
      c.is_missing.ensures previous kept,
      c.is_settings.ensures,
      c.breaks-broken_block.ensures,
      breaks-last previous c.args.last c.args.frame.now kept,
      c.is_on_wrong_stream-wrong_stream.ensures,
      c.is_of.ensures,
      c.from-code.ensures,
    ) (simp append_assoc))
    c.say_fault-4.ensures
