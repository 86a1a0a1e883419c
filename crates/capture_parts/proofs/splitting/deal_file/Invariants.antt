use Rattle.capture_parts.proofs.Terms.{HasTurned, take, ◌+◌, ◌-◌, ◌<◌, ◌^◌}
use Rattle.capture_parts.proofs.splitting.deal_file.Given as goal

abbrev pub invariant-loop-count : goal.invariant-loop-count
invariant-loop-count g l = record {
  few : l.filled < 98;
  turned : HasTurned g.W.Write.contents g.R.Read.remaining l.initial.dealing.dealer l.dealing.dealer
      l.initial.dealing.count l.dealing.count l.initial.dealing.parts.items l.dealing.parts.items l.initial.reader
      l.reader (take l.filled l.buffer);
}

-- each turn deals or keeps a byte more
abbrev pub decreases-loop-count : goal.decreases-loop-count
decreases-loop-count g l = 2 ^ 64 + 98 - (l.dealing.count + l.filled)
