use Rattle.capture_parts.proofs.Terms.{List, String, add-one, length-append, refl, take, take-suc, ℕ, ◌+◌, ◌++◌, ◌<◌}
use Rattle.capture_parts.proofs.Terms.{[], arith, length, ◌∷◌, ◌≡◌}
use Rattle.std.specs.{Global.Global}
use Rattle.std.proofs.lemmas.Result.{err_from_is_err_and}
use Rattle.capture_parts.proofs.Opened.{HasHeld-read, HaveHeld-snoc, given_none, given_some, none_many}
use Rattle.capture_parts.proofs.Opened.{stopped_between}
use Rattle.capture_parts.specs.declared.fault.FileFault.{FileFault}
use Rattle.capture_parts.proofs.Turns.{Deals-trans}
use Rattle.capture_parts.proofs.files.split_between.Goals as goal

pub loop-index-preserved : goal.loop-index-preserved
loop-index-preserved g c =
    let i : ℕ = c.loop-index.index in
    let paths : List (String Global) = c.args.between.now in
    let path : String Global = c.index-between-index.result in
    let (given, held, count, deals) = c.loop-index.invariant in
    let (opened, first, call, long, continues, header) = rw c.in_ok-file.ensures.ok at c.open_later.ensures.opened in
    let (own, consumed, end, more_count, dealt) = rw c.in_ok-in_file.ensures.ok at c.split_file.ensures.dealt in
    let one = HasHeld-read g.O.Outside.does g.F.Read.remaining c.args.header.now c.as_str.result.now opened
    c.in_ok-file.file c.split_file.new.reader c.as_str.ensures.value call long continues header consumed end in
    let within : i < length paths = c.loop-index-test.true in
    let more : take (i + 1) paths ≡ take i paths ++ path ∷ [] =
    rw (add-one, take-suc paths i path, ← c.index-between-index.is) refl in (
      given ++ own,
      rw more (HaveHeld-snoc g.O.Outside.does g.F.Read.remaining c.args.header.now (take i paths) path given own
          c.args.outside.now c.loop-index.outside c.open_later.new.outside held one),
      omega (arith, count, more_count, length-append given own),
      Deals-trans g.W.Write.contents _ _ _ _ _ _ given own deals dealt,
    )

pub returns-in_err-file-clause-stopped : goal.returns-in_err-file-clause-stopped
returns-in_err-file-clause-stopped g c =
    let i : ℕ = c.loop-index.index in
    let paths : List (String Global) = c.args.between.now in
    let path : String Global = c.index-between-index.result in
    let (given, held, count, deals) = c.loop-index.invariant in
    let within : i < length paths = c.loop-index-test.true in
    let more : take (i + 1) paths ≡ take i paths ++ path ∷ [] =
    rw (add-one, take-suc paths i path, ← c.index-between-index.is) refl in
    let p = err_from_is_err_and c.from_residual.result c.from_residual.ensures.1 in
    let wrong : FileFault = c.in_err-file.field-0.0 in
    let at = c.in_err-file.ensures.err in
    let stops = rw at.1 at c.open_later.ensures.stopped in
    rw (p.1, p.2) (stopped_between g.O.Outside.does g.F.Read.remaining c.args.header.now _ i paths path given []
    c.args.outside.now c.loop-index.outside c.open_later.new.outside wrong within more at.0 held
    (given_none g.O.Outside.does g.F.Read.remaining c.as_str.result.now path wrong.fault c.loop-index.outside
    c.open_later.new.outside c.as_str.ensures.value stops)
    (none_many g.O.Outside.does g.F.Read.remaining _ wrong.fault c.loop-index.outside c.open_later.new.outside
    c.as_str.result.now stops))

pub returns-in_err-in_file-clause-stopped : goal.returns-in_err-in_file-clause-stopped
returns-in_err-in_file-clause-stopped g c =
    let i : ℕ = c.loop-index.index in
    let paths : List (String Global) = c.args.between.now in
    let path : String Global = c.index-between-index.result in
    let (given, held, count, deals) = c.loop-index.invariant in
    let (opened, first, call, long, continues, header) = rw c.in_ok-file.ensures.ok at c.open_later.ensures.opened in
    let within : i < length paths = c.loop-index-test.true in
    let more : take (i + 1) paths ≡ take i paths ++ path ∷ [] =
    rw (add-one, take-suc paths i path, ← c.index-between-index.is) refl in
    let p = err_from_is_err_and c.from_residual-in_err-in_file.result c.from_residual-in_err-in_file.ensures.1 in
    let wrong : FileFault = c.in_err-in_file.field-0.0 in
    let at = c.in_err-in_file.ensures.err in
    let (own, gave, many) = given_some g.O.Outside.does g.F.Read.remaining c.as_str.result.now path first
    c.loop-index.splitter.dealing.count wrong.fault c.loop-index.outside c.open_later.new.outside opened
    c.in_ok-file.file c.split_file.new.reader c.as_str.ensures.value call header
    (rw at.1 at c.split_file.ensures.fault) in
    rw (p.1, p.2) (stopped_between g.O.Outside.does g.F.Read.remaining c.args.header.now _ i paths path given own
    c.args.outside.now c.loop-index.outside c.open_later.new.outside wrong within more at.0 held gave
    (λ is. let all = many is in omega (arith, all, count)))
