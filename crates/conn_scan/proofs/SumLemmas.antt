-- What the sums of a block's items need.
use Rattle.conn_scan.proofs.Terms.{◌≡◌, ℤ, ◌-◌, ◌*◌, ◌^◌, ◌≤◌, [], ◌∷◌, map, ap, sym, ◌∙◌, Side, Item}
use Rattle.conn_scan.proofs.Terms.{List, ◌++◌, arith, Client, Server, roomy, Block, walked, ItemsFit, conn_one, IsRoomy}
use Rattle.conn_scan.proofs.Terms.{length, credit_of, AreSmall, ChangesFit, conn_none, conn_join, room-wider, no_change}
use Rattle.conn_scan.proofs.Terms.{length-append, AllByRecursion, ConnectionState, HasRoom, summary-shown, credit_shows}
use Rattle.conn_scan.proofs.Terms.{length-map, summary_of, credit_change, one_change, credit_join, MovesLittle}
use Rattle.conn_scan.proofs.Terms.{conn_sum_of}
use Rattle.audit_terms.specs.Sides.{side_of}
use Rattle.conn_scan.specs.declared.sums.ConnSum.{ConnSum}
use Rattle.conn_scan.specs.code.ConnSumLaws.{conn_shows}
use Rattle.conn_scan.proofs.WalkLemmas.{length-walked}

-- the credit of one side, which each item changes by little
module _ (change : Item → ℤ) (small : (item : Item) → MovesLittle item → HasRoom (2 ^ 32) (change item)) where
  changes_small : (items : List Item) → AllByRecursion MovesLittle items → AreSmall (map change items)
  changes_small [] h = tt
  changes_small (x ∷ items) h = (small x h.0, changes_small items h.1)

  pub changes_roomy : (items : List Item) → length items ≤ 2 ^ 28 → AllByRecursion MovesLittle items
      → IsRoomy (credit_of (map change items))
  changes_roomy items number little =
      let same = length-map items change in roomy (map change items) (omega arith) (changes_small items little)

  pub changes_fit : (credit : ℤ) (items : List Item) → length items ≤ 2 ^ 28 → AllByRecursion MovesLittle items
      → HasRoom (2 ^ 60 - 2 ^ 32 * length items) credit → ChangesFit credit (map change items)
  changes_fit credit items number little room =
      let same = length-map items change in
      record {
        number = omega arith;
        sizes = changes_small items little;
        room = room-wider _ _ credit (omega arith) room;
      }

-- the changes of one side's credit fit it
pub side_fit : (d : Side) (now : ConnectionState) (items : List Item) → ItemsFit now items
    → ChangesFit (side_of d now.credit) (map (credit_change d) items)
side_fit Client now items f = changes_fit (credit_change Client) (λ x h. h.0) _ items f.0.number f.1 f.0.client
side_fit Server now items f = changes_fit (credit_change Server) (λ x h. h.1) _ items f.0.number f.1 f.0.server

-- the summary of a connection's items has that of the changes of each side's credit
pub side_summed : (d : Side) (items : List Item) (sum : ConnSum) → sum ≡ summary_of conn_none conn_one conn_join items
    → side_of d sum.credit ≡ summary_of no_change one_change credit_join (map (credit_change d) items)
side_summed Client items sum e =
    ap (λ s. s.credit.client) (e ∙ summary-shown conn_shows items)
    ∙ sym (summary-shown credit_shows (map (credit_change Client) items))
side_summed Server items sum e =
    ap (λ s. s.credit.server) (e ∙ summary-shown conn_shows items)
    ∙ sym (summary-shown credit_shows (map (credit_change Server) items))

-- the sum of the first items of a block is far from what a word holds
pub sum_roomy : (block : Block) (done rest : List Item) (sum : ConnSum)
    → done ++ rest ≡ walked block.opened.now block.changes.now block.frames.now
    → length block.frames.now ≤ 2 ^ 28 → AllByRecursion MovesLittle done → sum ≡ conn_sum_of done
    → HasRoom (2 ^ 60) sum.credit.client.sum × HasRoom (2 ^ 60) sum.credit.server.sum
sum_roomy block done rest sum split number little is =
    let all = length-walked block.opened.now block.changes.now block.frames.now in
    let few : length done ≤ 2 ^ 28 = omega (arith, ap length split, length-append done rest) in
    rw is (
      (changes_roomy (credit_change Client) (λ x h. h.0) done few little).sum,
      (changes_roomy (credit_change Server) (λ x h. h.1) done few little).sum,
    )
