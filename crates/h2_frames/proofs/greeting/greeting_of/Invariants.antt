use Rattle.std.proofs.Common.{◌-◌, ◌≤◌, ◌++◌, take, ◌≡◌}
use Rattle.h2_frames.specs.Preface.{preface}
use Rattle.h2_frames.proofs.greeting.greeting_of.Given as goal

abbrev pub invariant-loop-count : goal.invariant-loop-count
invariant-loop-count l = record {
  within : l.count ≤ 24;
  bytes : take l.matched preface ++ l.more ≡ take l.count preface ++ l.rest;
}

abbrev pub decreases-loop-count : goal.decreases-loop-count
decreases-loop-count l = 24 - l.count
