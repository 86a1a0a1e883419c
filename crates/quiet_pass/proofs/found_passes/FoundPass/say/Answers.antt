use Rattle.quiet_pass.proofs.found_passes.FoundPass.say.Goals as goal

pub returns : goal.returns
returns c =
    let adds = c.in_ok-add.ensures in record {
      said = c.in_ok-said.said.items;
      step = λ state stands. rw adds.pass (c.in_ok-said.ensures state stands);
      added = record {
        found = rw c.as_slice.ensures.value at adds.added.found;
        stopped = rw c.as_slice.ensures.value at adds.added.stopped;
        same = adds.added.same;
      };
    }
