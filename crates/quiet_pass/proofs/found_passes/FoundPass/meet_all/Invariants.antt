use Rattle.std.proofs.Common.{◌++◌, ◌≡◌, List, take}
use Rattle.audit_terms.specs.code.runs.Orderly.{IsOrderly}
use Rattle.audit_terms.specs.declared.frames.Frame.{Frame}
use Rattle.quiet_pass.specs.code.FoundPass.{IsFoundAfter}
use Rattle.quiet_pass.proofs.found_passes.FoundPass.meet_all.Given as goal

-- the frames so far were met
abbrev pub invariant-loop-frame : goal.invariant-loop-frame
invariant-loop-frame l = record {
  after : (before : List Frame) → IsFoundAfter before l.fn.self → IsOrderly (before ++ l.frames)
      → IsFoundAfter (before ++ take l.frame-index l.frames) l.self;
  same : l.self.frames_shown ≡ l.fn.self.frames_shown;
}
