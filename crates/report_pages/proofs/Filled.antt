-- Pages that are filled one after the other.
use Rattle.std.proofs.Common.{◌≡◌, ℕ, suc, ◌+◌, ◌*◌, List, ◌∷◌, ◌++◌, Vec, drop, length, take, ap, sym, arith, ◌∙◌}
use Rattle.std.proofs.Math.Seq.{take-add}
use Rattle.std.proofs.lemmas.List.Elements.{All-cons}
use Rattle.std.proofs.lemmas.List.Folds.{concat-append}
use Rattle.std.specs.{Global.Global, List.concat}
use Rattle.report_pages.specs.code.Entries.{entries_at}
use Rattle.report_pages.specs.code.Pages.{AreFilled, HoldsEntries, IsFilled}
use Rattle.report_pages.specs.declared.cursors.Cursor.{Cursor}

-- one page, and those behind it
pub page-and-others : (cursor behind : Cursor) (entries : ℕ) (before page : Vec ℕ Global)
    (others after : List (Vec ℕ Global)) → entries_at behind ≡ drop entries (entries_at cursor)
    → IsFilled cursor entries page → AreFilled behind entries others after
    → AreFilled cursor entries (before ∷ others) (page ∷ after)
page-and-others cursor behind entries before page others after is one rest =
    let all = entries_at cursor in
    let more = entries * length others in
    let sum : entries * suc (length others) ≡ entries + more = grind arith in
    let whole : concat (take (entries * suc (length others)) all)
    ≡ concat (take entries all) ++ concat (take more (drop entries all)) =
    ap (λ n. concat (take n all)) sum ∙ ap concat (take-add entries more all)
    ∙ concat-append (take entries all) (take more (drop entries all)) in
    record {
      text = rw (one.text, rest.text, is) (sym whole);
      room = All-cons (HoldsEntries entries) page after one.room rest.room;
      same = ap suc rest.same;
    }
