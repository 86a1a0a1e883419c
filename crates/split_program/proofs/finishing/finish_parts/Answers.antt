use Rattle.std.proofs.lemmas.Result.{err_from_is_err_and}
use Rattle.std.specs.Prelude.{is_ok}
use Rattle.capture_parts.specs.Outside.{Wrote}
use Rattle.split_program.specs.Program.{IsFinishing}
use Rattle.split_program.specs.code.Finishing.{IsRefusal}
use Rattle.split_program.proofs.Calls.{did_both, did_more, did_one}
use Rattle.split_program.proofs.Refusals.{finishing_of}
use Rattle.split_program.proofs.finishing.finish_parts.Goals as goal

pub returns-in_err-any-clause-failed : goal.returns-in_err-any-clause-failed
returns-in_err-any-clause-failed g c =
    let p = err_from_is_err_and c.from_residual-in_err-any.result c.from_residual-in_err-any.ensures.1 in
    rw p.1 (did_more g.O.Outside.does (IsRefusal c.args.paths.now.parts.items) (IsFinishing c.args.paths.now)
    c.args.outside.now c.refuse_full.new.outside (finishing_of c.args.paths.now)
    (rw c.as_slice.ensures.value at c.refuse_full.ensures.only))

pub returns-clause-failed : goal.returns-clause-failed
returns-clause-failed g c =
    did_both g.O.Outside.does (IsFinishing c.args.paths.now) c.args.outside.now c.refuse_full.new.outside
    c.write.new.self
    (did_more g.O.Outside.does (IsRefusal c.args.paths.now.parts.items) (IsFinishing c.args.paths.now)
    c.args.outside.now c.refuse_full.new.outside (finishing_of c.args.paths.now)
    (rw c.as_slice.ensures.value at c.refuse_full.ensures.only))
    (did_one g.O.Outside.does (IsFinishing c.args.paths.now) c.refuse_full.new.outside c.write.new.self
    (Wrote c.as_str.result.now c.as_str-2.result.now (is_ok c.write.result)) c.as_str.ensures.value c.write.ensures)
