use Rattle.std.proofs.Common.{arith, inl}
use Rattle.std.proofs.lemmas.Result.{err_from_is_err_and}
use Rattle.split_program.proofs.Works.{format_known, works_of}
use Rattle.split_program.proofs.program.split_behind.Goals as goal

pub returns-in_err-parts : goal.returns-in_err-parts
returns-in_err-parts g c =
    let p = err_from_is_err_and c.from_residual.result c.from_residual.ensures.1 in
    rw (p.1, p.2) (inl (rw c.as_slice.ensures.value at c.in_err-parts.ensures.failed, c.in_err-parts.ensures.told))

pub finish_parts-requires : goal.finish_parts-requires
finish_parts-requires g c =
    let (given, behind, consumed, end, held, split) = c.in-Ok.ensures.split in
    let (format, are) = format_known _ c.args.header.now c.requires.long c.requires.taken split in
    omega (arith, are.parts.count, c.as_mut_slice.ensures.len, c.in_ok-parts.ensures.count, c.as_slice.ensures.len)

pub returns-in-Ok : goal.returns-in-Ok
returns-in-Ok g c =
    works_of g.O.Outside.does g.F.Write.contents g.F.Read.remaining c.args.header.now _ _ c.args.outside.now
    c.create_parts.new.outside c.split_capture.new.outside c.finish_parts.new.outside c.args.paths.now
    c.args.later.now c.in_ok-parts.parts.items c.in-Ok.parts.items c.finish_parts.result
    (rw c.as_slice.ensures.value at c.in_ok-parts.ensures.made) c.in-Ok.ensures.split
    (rw c.as_mut_slice.ensures.value at c.finish_parts.ensures.finished) c.finish_parts.ensures.failed
    c.finish_parts.ensures.told
