use Rattle.audit_rounds.proofs.Words.{◌≡◌, Bool, true, false, not, List, [], sym, Item, block_run, shown, conn_sum_of}
use Rattle.std.specs.Bool.{OnFalse}
use Rattle.conn_scan.specs.code.Clear.{is_clear}
use Rattle.conn_scan.proofs.ShownLemmas.{clear_shows_credit}
use Rattle.audit_rounds.proofs.block_plans.may_show.Goals as goal

pub returns-else-frames_shown : goal.returns-else-frames_shown
returns-else-frames_shown c = by_test c.clear.result c.clear.ensures where
  by_test : (clear : Bool) → ((items : List Item) → c.args.sum.now ≡ conn_sum_of items
      → clear ≡ is_clear c.args.before.now items)
      → OnFalse (not clear) ((items : List Item) → c.args.sum.now ≡ conn_sum_of items
      → shown c.args.frames_shown (block_run c.args.before.now items) ≡ [])
  by_test true is = λ items e.
      rw c.if-frames_shown.false (clear_shows_credit c.args.before.now items (sym (is items e))).1
  by_test false is = tt
