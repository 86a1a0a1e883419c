use Rattle.capture_parts.proofs.Terms.{append-nil, arith, nil_from_length, refl, [], ◌++◌}
use Rattle.capture_parts.specs.declared.fault.FileFault.{FileFault}
use Rattle.std.proofs.lemmas.Result.{err_from_is_err_and}
use Rattle.capture_parts.proofs.Opened.{EndsSplit-behind, HasHeld-read, HaveHeld-snoc, of_fault, of_ok}
use Rattle.capture_parts.proofs.Opened.{given_none, given_some, none_many, stopped_first, stopped_last, stopped_later}
use Rattle.capture_parts.proofs.files.split_files.Goals as goal

pub returns-in_default-clause-split : goal.returns-in_default-clause-split
returns-in_default-clause-split g c =
    let none = nil_from_length c.args.later.now c.in_default.ensures.cases in
    of_ok c.finish_file.result c.in_file.result c.in_file.ensures.ok c.finish_file.ensures.ends
    (λ (given, consumed, end, ends). (given, [], consumed, end, rw none (refl, refl), rw (append-nil given) ends))

pub returns-in_default-clause-stopped : goal.returns-in_default-clause-stopped
returns-in_default-clause-stopped g c =
    of_fault c.finish_file.result c.in_file.result 0 _ _ c.in_file.ensures.err c.finish_file.ensures.fault
    (λ wrong at over. stopped_first g.O.Outside.does g.F.Read.remaining _ _ _ c.args.later.now c.args.outside.now wrong
    at over)

pub returns-clause-split : goal.returns-clause-split
returns-clause-split g c =
    let (given, consumed, end, count, deals) = rw c.in_ok-in_file.ensures.ok at c.split_file.ensures.dealt in
    let (more, held, more_count, dealt) = c.in_ok-split_between.ensures.held in
    let (opened, first, call, long, continues, header) = rw c.in_ok-file.ensures.ok at c.open_later.ensures.opened in
    of_ok c.finish_file-2.result c.in_file-4.result c.in_file-4.ensures.ok c.finish_file-2.ensures.ends
    (λ (last, rest, over, ends).
    let one = HasHeld-read g.O.Outside.does g.F.Read.remaining c.args.header.now c.as_str.result.now opened
    c.in_ok-file.file c.finish_file-2.new.reader c.as_str.ensures.value call long continues header rest over in (
      given,
      more ++ last,
      consumed,
      end,
      rw c.in-Some.ensures.cases.0
          (HaveHeld-snoc g.O.Outside.does g.F.Read.remaining c.args.header.now c.in-Some.between.now
          c.in-Some.last.now more last c.args.outside.now c.split_between.new.outside c.open_later.new.outside
          held one),
      EndsSplit-behind g.W.Write.contents _ _ _ _ _ given (more ++ last) deals
          (EndsSplit-behind g.W.Write.contents _ _ _ _ _ more last dealt ends),
    ))

pub returns-clause-stopped : goal.returns-clause-stopped
returns-clause-stopped g c =
    let (given, consumed, end, count, deals) = rw c.in_ok-in_file.ensures.ok at c.split_file.ensures.dealt in
    let (more, held, more_count, dealt) = c.in_ok-split_between.ensures.held in
    let (opened, first, call, long, continues, header) = rw c.in_ok-file.ensures.ok at c.open_later.ensures.opened in
    of_fault c.finish_file-2.result c.in_file-4.result _ _ _ c.in_file-4.ensures.err c.finish_file-2.ensures.fault
    (λ wrong at over.
    let (own, gave, many) = given_some g.O.Outside.does g.F.Read.remaining c.as_str.result.now c.in-Some.last.now
    first _ wrong.fault c.split_between.new.outside c.open_later.new.outside opened c.in_ok-file.file
    c.finish_file-2.new.reader c.as_str.ensures.value call header over in
    rw c.in-Some.ensures.cases.0 (stopped_last g.O.Outside.does g.F.Read.remaining c.args.header.now _ _ _ given more
    own
    c.in-Some.between.now c.in-Some.last.now c.args.outside.now c.split_between.new.outside c.open_later.new.outside
    wrong (rw c.in-Some.ensures.cases.0 at at) consumed held gave
    (λ is. let all = many is in omega (arith, all, count, more_count))))

pub returns-in_err-split_between-clause-stopped : goal.returns-in_err-split_between-clause-stopped
returns-in_err-split_between-clause-stopped g c =
    let (given, consumed, end, count, deals) = rw c.in_ok-in_file.ensures.ok at c.split_file.ensures.dealt in
    let p = err_from_is_err_and c.from_residual-in_err-split_between.result
    c.from_residual-in_err-split_between.ensures.1 in
    rw (p.1, p.2, c.in-Some.ensures.cases.0) (stopped_later g.O.Outside.does g.F.Read.remaining
    c.args.splitter.now.dealing.count _ _ given c.in-Some.between.now c.in-Some.last.now c.args.outside.now
    c.split_between.new.outside c.in_err-split_between.field-0.0 consumed
    (rw count at c.in_err-split_between.ensures.stopped))

pub returns-in_err-file-clause-stopped : goal.returns-in_err-file-clause-stopped
returns-in_err-file-clause-stopped g c =
    let (given, consumed, end, count, deals) = rw c.in_ok-in_file.ensures.ok at c.split_file.ensures.dealt in
    let (more, held, more_count, dealt) = c.in_ok-split_between.ensures.held in
    let p = err_from_is_err_and c.from_residual-in_err-file.result c.from_residual-in_err-file.ensures.1 in
    let wrong : FileFault = c.in_err-file.field-0.0 in
    let at = c.in_err-file.ensures.err in
    let stops = rw at.1 at c.open_later.ensures.stopped in
    rw (p.1, p.2, c.in-Some.ensures.cases.0) (stopped_last g.O.Outside.does g.F.Read.remaining c.args.header.now
    c.args.splitter.now.dealing.count _ _ given more [] c.in-Some.between.now c.in-Some.last.now c.args.outside.now
    c.split_between.new.outside c.open_later.new.outside wrong (rw c.in-Some.ensures.cases.0 at at.0) consumed held
    (given_none g.O.Outside.does g.F.Read.remaining c.as_str.result.now c.in-Some.last.now wrong.fault
    c.split_between.new.outside c.open_later.new.outside c.as_str.ensures.value stops)
    (none_many g.O.Outside.does g.F.Read.remaining _ wrong.fault c.split_between.new.outside c.open_later.new.outside
    c.as_str.result.now stops))
