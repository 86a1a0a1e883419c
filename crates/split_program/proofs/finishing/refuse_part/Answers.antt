use Rattle.std.proofs.Common.{inl, inr}
use Rattle.std.specs.Prelude.{is_ok}
use Rattle.capture_parts.specs.Outside.{RemovedFile, Said}
use Rattle.split_program.specs.code.Finishing.{IsRemoval}
use Rattle.split_program.proofs.Calls.{did_both, did_one}
use Rattle.split_program.proofs.finishing.refuse_part.Goals as goal

pub returns-in_err-remove_file-clause-only : goal.returns-in_err-remove_file-clause-only
returns-in_err-remove_file-clause-only g c =
    did_both g.O.Outside.does (IsRemoval c.args.paths.now) c.args.outside.now c.say.new.self c.remove_file.new.outside
    (did_one g.O.Outside.does (IsRemoval c.args.paths.now) c.args.outside.now c.say.new.self (Said c.as_str.result.now)
    tt c.say.ensures)
    (did_one g.O.Outside.does (IsRemoval c.args.paths.now) c.say.new.self c.remove_file.new.outside
    (RemovedFile c.as_str-2.result.now (is_ok c.remove_file.result)) (inl c.as_str-2.ensures.value)
    c.remove_file.ensures.called)

pub returns-clause-only : goal.returns-clause-only
returns-clause-only g c =
    did_both g.O.Outside.does (IsRemoval c.args.paths.now) c.args.outside.now c.say.new.self
    c.remove_file-2.new.outside
    (did_one g.O.Outside.does (IsRemoval c.args.paths.now) c.args.outside.now c.say.new.self (Said c.as_str.result.now)
    tt c.say.ensures)
    (did_both g.O.Outside.does (IsRemoval c.args.paths.now) c.say.new.self c.remove_file.new.outside
    c.remove_file-2.new.outside
    (did_one g.O.Outside.does (IsRemoval c.args.paths.now) c.say.new.self c.remove_file.new.outside
    (RemovedFile c.as_str-2.result.now (is_ok c.remove_file.result)) (inl c.as_str-2.ensures.value)
    c.remove_file.ensures.called)
    (did_one g.O.Outside.does (IsRemoval c.args.paths.now) c.remove_file.new.outside c.remove_file-2.new.outside
    (RemovedFile c.as_str-3.result.now (is_ok c.remove_file-2.result)) (inr c.as_str-3.ensures.value)
    c.remove_file-2.ensures.called))
