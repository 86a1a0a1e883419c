use Rattle.stream_credit.proofs.Words.{List, OnTrue_at, ap, arith, length, refl, same_Some, slice_get}
use Rattle.stream_credit.proofs.Words.{sym, ◌∙◌, ◌≡◌}
use Rattle.quiet_pass.proofs.GroupLemmas.{push-elsewhere}
use Rattle.quiet_pass.proofs.RowLists.{row-added}
use Rattle.quiet_pass.specs.declared.opened_rows.Row.{Row}
use Rattle.quiet_pass.proofs.opened_rows.put_new.Goals as goal

pub returns-then-is_idle-clause-put : goal.returns-then-is_idle-clause-put
returns-then-is_idle-clause-put c at e =
    rw (← same_Some _ _ e) (record {
      put = λ rising. record {
        own = c.requires rising ∙ sym (OnTrue_at c.if-is_idle.true c.is_idle.ensures);
        others = λ other differ. refl;
        rising = rising;
        parity = λ remainder is all. all;
      };
      others = λ other differ. refl;
    })

pub returns-clause-put : goal.returns-clause-put
returns-clause-put c at e =
    let rows = c.args.rows.now.items in
    let row = c.args.row in
    let end : c.len-at.result ≡ length rows = omega (arith, c.len-at.ensures, c.args.rows.now.ok.0) in
    rw (← same_Some _ _ e) (record {
      put = λ rising.
          rw c.in_ok-push.ensures.items
          (row-added rows row ((rw c.as_slice.ensures.value at c.if-not-is_above_all.ensures) rising) rising);
      others = λ other differ.
          ap (λ (items : List Row). slice_get items other) c.in_ok-push.ensures.items
          ∙ push-elsewhere rows other row (λ same. differ (same ∙ sym end));
    })
