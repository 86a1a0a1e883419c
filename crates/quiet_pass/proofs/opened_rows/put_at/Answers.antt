use Rattle.stream_credit.proofs.Words.{sym}
use Rattle.quiet_pass.proofs.GroupLemmas.{set-elsewhere}
use Rattle.quiet_pass.proofs.RowLists.{row-put}
use Rattle.quiet_pass.proofs.opened_rows.put_at.Goals as goal

pub returns : goal.returns
returns c =
    let of = c.requires in
    let rows = c.args.rows.now.items in
    let row = c.args.row in record {
      put = row-put rows row.stream c.args.at row of (sym of.same);
      others = λ other differ. set-elsewhere rows c.args.at other row differ;
    }
