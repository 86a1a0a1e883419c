-- Of items that fit a connection, the first ones fit it, and the rest fit the connection after them.
use Rattle.std.proofs.Common.{◌≡◌, ℕ, ℤ, ◌≤◌, ◌+◌, ◌*◌, ◌^◌, ◌+ℤ◌, List, [], ◌∷◌, ◌++◌, length, length-append, refl}
use Rattle.std.proofs.Common.{arith}
use Rattle.std.proofs.lemmas.Int.{ints}
use Rattle.std.specs.List.{AllByRecursion}
use Rattle.audit_terms.specs.declared.sides.Side.TheVariants.{Client, Server}
use Rattle.audit_terms.specs.declared.connection_state.ConnectionState.{ConnectionState}
use Rattle.audit_terms.specs.declared.items.Item.{Item}
use Rattle.audit_terms.specs.Connection.{connection_after}
use Rattle.audit_terms.specs.code.runs.Blocks.{connection_after_all}
use Rattle.audit_terms.specs.code.Room.{HasRoom}
use Rattle.conn_scan.specs.code.Credit.{credit_change}
use Rattle.conn_scan.specs.code.Each.{all-front, all-back}
use Rattle.conn_scan.specs.code.Block.{MovesLittle, ItemsFit}

pub room-wider : (n m : ℕ) (x : ℤ) → n ≤ m → HasRoom n x → HasRoom m x
room-wider n m x le h = let l = h.0 in let u = h.1 in (omega (arith, ints), omega (arith, ints))

moved_room : (n : ℕ) (credit change : ℤ) → HasRoom n credit → HasRoom (2 ^ 32) change
    → HasRoom (n + 2 ^ 32) (credit +ℤ change)
moved_room n credit change h k =
    let a = h.0 in let b = h.1 in let c = k.0 in let d = k.1 in (omega (arith, ints), omega (arith, ints))

module _ (credit : ConnectionState → ℤ) (change : Item → ℤ)
    (step : (now : ConnectionState) (item : Item) → credit (connection_after now item) ≡ credit now +ℤ change item)
    (small : (item : Item) → MovesLittle item → HasRoom (2 ^ 32) (change item)) where
  room-after : (n : ℕ) (now : ConnectionState) (items : List Item) → AllByRecursion MovesLittle items
      → HasRoom n (credit now) → HasRoom (n + 2 ^ 32 * length items) (credit (connection_after_all now items))
  room-after n now [] little h = room-wider _ _ (credit now) (omega arith) h
  room-after n now (item ∷ items) little h =
      room-wider _ _ (credit (connection_after_all now (item ∷ items))) (omega arith)
      (room-after (n + 2 ^ 32) (connection_after now item) items little.1
      (rw (step now item) (moved_room n (credit now) (change item) h (small item little.0))))

pub first_fit : (now : ConnectionState) (a b : List Item) → ItemsFit now (a ++ b) → ItemsFit now a
first_fit now a b f =
    let both = length-append a b in
    let number = f.0.number in (
      record {
        number = omega arith;
        client = room-wider _ _ now.credit.client (omega arith) f.0.client;
        server = room-wider _ _ now.credit.server (omega arith) f.0.server;
      },
      all-front MovesLittle a b f.1,
    )

pub rest_fit : (now : ConnectionState) (a b : List Item) → ItemsFit now (a ++ b)
    → ItemsFit (connection_after_all now a) b
rest_fit now a b f =
    let both = length-append a b in
    let number = f.0.number in
    let first = all-front MovesLittle a b f.1 in (
      record {
        number = omega arith;
        client = room-wider _ _ (connection_after_all now a).credit.client (omega arith)
            (room-after (λ s. s.credit.client) (credit_change Client) (λ s x. refl) (λ x h. h.0) _ now a first
            f.0.client);
        server = room-wider _ _ (connection_after_all now a).credit.server (omega arith)
            (room-after (λ s. s.credit.server) (credit_change Server) (λ s x. refl) (λ x h. h.1) _ now a first
            f.0.server);
      },
      all-back MovesLittle a b f.1,
    )
