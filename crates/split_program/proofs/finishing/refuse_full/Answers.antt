use Rattle.std.proofs.Common.{Bool, List, None, Some, ap, drop, false, refl, sym, true, ◌||◌, ℕ, ◌+◌, ◌∙◌, ◌∷◌}
use Rattle.std.proofs.Common.{◌≡◌, ◌<◌, arith, length, subst}
use Rattle.std.specs.Prelude.{Contains}
use Rattle.std.proofs.lemmas.List.{at_drop_more}
use Rattle.std.proofs.lemmas.List.Elements.{Contains-get_or}
use Rattle.std.specs.Global.{Global}
use Rattle.std.specs.declared.io.buffered.BufWriter.{BufWriter}
use Rattle.capture_parts.specs.declared.part.Part.{Part}
use Rattle.split_program.specs.code.Finishing.{IsRefusal, IsRemoval}
use Rattle.split_program.specs.declared.paths.PartPaths.{PartPaths}
use Rattle.split_program.proofs.Calls.{did_both, did_more}
use Rattle.split_program.proofs.Refusals.{refusal_of}
use Rattle.split_program.proofs.finishing.refuse_full.Goals as goal
use Rattle.split_program.proofs.finishing.refuse_full.Goals.{in-Some+in_ok-refuse_part, in_default}

or_true : (b : Bool) → (b || true) ≡ true
or_true true = refl
or_true false = refl

pub loop-index-preserved : goal.loop-index-preserved
loop-index-preserved g c =
    let at : ℕ = c.loop-index.index in
    let parts : List (Part (BufWriter g.row.F.Denot Global)) = c.args.parts.now in
    let part : Part (BufWriter g.row.F.Denot Global) = c.index-parts-index.result in
    let paths : List PartPaths = c.args.paths.now in
    let path : PartPaths = c.index-paths-index.result in
    let within : at < length paths = omega (arith, c.loop-index-test.true, c.requires) in
    let first : drop at parts ≡ part ∷ drop (at + 1) parts =
    at_drop_more (λ (ps : List (Part (BufWriter g.row.F.Denot Global))). ps) parts at part c.loop-index-test.true
    ∙ ap (λ (p : Part (BufWriter g.row.F.Denot Global)). p ∷ drop (at + 1) parts) (sym c.index-parts-index.is) in
    let named : drop at paths ≡ path ∷ drop (at + 1) paths =
    at_drop_more (λ (ps : List PartPaths). ps) paths at path within
    ∙ ap (λ (p : PartPaths). p ∷ drop (at + 1) paths) (sym c.index-paths-index.is) in
    elim c.match-full.branch [
      | in-Some+in_ok-refuse_part w ↦
          let is_full : part.full ≡ Some w.in-Some.full = sym c.full.ensures ∙ w.in-Some.is in
          record {
            refused = λ last more. c.loop-index.invariant.refused last (rw (named, first, is_full)
                (w.refuse_part.new.outside, w.in_ok-refuse_part.ensures.refused, rw w.outside-is at more));
            any = rw w.any-is (sym (or_true c.loop-index.any) ∙ rw (first, is_full) at c.loop-index.invariant.any);
            only = rw w.outside-is (did_both g.O.Outside.does (IsRefusal paths) c.args.outside.now c.loop-index.outside
                w.refuse_part.new.outside c.loop-index.invariant.only
                (did_more g.O.Outside.does (IsRemoval path) (IsRefusal paths) c.loop-index.outside
                w.refuse_part.new.outside (refusal_of paths path (subst (λ p. Contains paths p)
                (sym c.index-paths-index.is) (Contains-get_or paths at path within))) w.refuse_part.ensures.only));
          }
      | in_default w ↦
          let whole : part.full ≡ None = sym c.full.ensures ∙ w.in_default.is in
          record {
            refused = λ last more. c.loop-index.invariant.refused last
                (rw (named, first, whole) (c.loop-index.outside, refl, rw w.outside-is at more));
            any = rw w.any-is (rw (first, whole) at c.loop-index.invariant.any);
            only = rw w.outside-is c.loop-index.invariant.only;
          }
    ]

pub returns-in_err-refuse_part-clause-only : goal.returns-in_err-refuse_part-clause-only
returns-in_err-refuse_part-clause-only g c =
    let at : ℕ = c.loop-index.index in
    let paths : List PartPaths = c.args.paths.now in
    let path : PartPaths = c.index-paths-index.result in
    let within : at < length paths = omega (arith, c.loop-index-test.true, c.requires) in
    did_both g.O.Outside.does (IsRefusal paths) c.args.outside.now c.loop-index.outside
    c.refuse_part.new.outside c.loop-index.invariant.only
    (did_more g.O.Outside.does (IsRemoval path) (IsRefusal paths) c.loop-index.outside
    c.refuse_part.new.outside (refusal_of paths path (subst (λ p. Contains paths p)
    (sym c.index-paths-index.is) (Contains-get_or paths at path within))) c.refuse_part.ensures.only)
