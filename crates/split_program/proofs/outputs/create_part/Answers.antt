use Rattle.split_program.proofs.outputs.create_part.Goals as goal

pub returns-in-Ok-clause-made : goal.returns-in-Ok-clause-made
returns-in-Ok-clause-made g c =
    let (answer, call, (file, is, over)) = c.in_ok-packets.ensures.called in
    let (second, more, (numbers, same, above)) = c.in_ok-numbers.ensures.called in
    let begun = c.in-Ok.ensures in
    record {
      mid = c.create_file.new.outside;
      packets = c.in_ok-packets.packets;
      first = (file, rw (c.as_str.ensures.value, is) at call, over);
      second = rw begun.numbers (numbers, rw (c.as_str-2.ensures.value, same) at more, above);
      begins = begun.packets;
      size = begun.size;
      full = begun.full;
    }
