-- The connection after a frame of which nothing is shown.
use Rattle.audit_terms.specs.Connection.{connection_window_said, credit_after}
use Rattle.audit_terms.specs.Frame.{content_by, grants_nothing, is_server_promise}
use Rattle.audit_terms.specs.Side.{is_side, other}
use Rattle.audit_terms.specs.Window.{is_used_up, largest_window, overflows, overruns, stall_begins, stall_ends}
use Rattle.audit_terms.specs.code.Sides.{with_side}
use Rattle.std.proofs.lemmas.Int.{ints}
use Rattle.stream_credit.proofs.Words.{◌≡◌, ℕ, ℤ, nat_lt, Bool, true, false, None, Some, Option, [], refl, sym, arith}
use Rattle.stream_credit.proofs.Words.{Client, Server, Side, Sides, Frame, Change, side_of, new_limit, new_push}
use Rattle.stream_credit.proofs.Words.{and-false, int_lt, nat_tests, subst, ◌&&◌}
use Rattle.stream_credit.proofs.QuietSteps.{both, said-quiet, unsaid}
use Rattle.quiet_pass.specs.declared.kept_connection.KeptConnection.{KeptConnection}
use Rattle.quiet_pass.specs.code.Connection.{AreCreditsAfter, IsConnectionAfter, IsCountedCredit, IsCreditAfter}
use Rattle.quiet_pass.specs.code.Connection.{HasCredits, IsOpenedAfter, IsPromisedAfter, LeavesCredit}

pub connection-met : (frame : Frame) (opens : Bool) (change : Option Change) (old : KeptConnection)
    (opened promised push : ℕ) (credit : Sides ℤ) (limit : Sides ℕ)
    → nat_lt (new_limit change frame.side (side_of frame.side old.state.limit)) frame.length ≡ false
    → IsOpenedAfter frame opens old.state.opened opened
    → IsPromisedAfter frame old.state.push old.state.promised promised → AreCreditsAfter frame old.state.credit credit
    → push ≡ new_push change old.state.push
    → limit.client ≡ new_limit change Client old.state.limit.client
    → limit.server ≡ new_limit change Server old.state.limit.server
    → IsConnectionAfter frame opens change old (record {
      state = record { credit = credit; opened = opened; promised = promised; push = push; limit = limit };
    })
connection-met frame opens change old opened promised push credit limit short o p c pushed lc ls =
    record {
      said = both _ _
          (both _ _ (both _ _ (both _ _ (unsaid _ _ short) (rw p.allowed tt)) (rw (o.said change) tt))
          (rw p.order_said tt)) (both _ _ c.client.said c.server.said);
      after = rw (o.opened change, p.promised, c.client.moved, c.server.moved, pushed, lc, ls) refl;
    }

-- ---- a credit that is there before a frame and after it

-- a frame sends through a window or grants to it, never both
one-side : (d side : Side) → (is_side (other d) side && is_side d side) ≡ false
one-side Client Client = refl
one-side Client Server = refl
one-side Server Client = refl
one-side Server Server = refl

pub counted-credit : (d : Side) (frame : Frame) (before after : ℤ) → grants_nothing d 0 frame ≡ false
    → IsCountedCredit d frame before after → IsCreditAfter d frame before after
counted-credit d frame before after granted c =
    let left : is_used_up (credit_after d before frame) ≡ false =
    subst (λ (credit : ℤ). is_used_up credit ≡ false) c.moved c.left in
    let within : int_lt largest_window (credit_after d before frame) ≡ false =
    subst (λ (credit : ℤ). int_lt largest_window credit ≡ false) c.moved c.within in
    let fits : overflows before (credit_after d before frame) ≡ false = rw within (and-false _) in
    let over : overruns before (content_by d frame) ≡ false =
    grind (arith, ints, nat_tests, left, one-side d frame.side) in
    let ends : stall_ends before (credit_after d before frame) ≡ false = rw c.some refl in
    let begins : stall_begins before (credit_after d before frame) ≡ false = rw left (and-false _) in
    record {
      moved = c.moved;
      said = both _ _
          (both _ _
          (both _ _ (both _ _ (both _ _ (unsaid _ _ granted) (unsaid _ _ fits)) (unsaid _ _ over)) (unsaid _ _ ends))
          (unsaid _ _ begins)) (said-quiet _ _ refl);
    }

-- ---- the credits of both sides

credit-stays : (d : Side) (frame : Frame) (credit : ℤ) → LeavesCredit d frame → IsCreditAfter d frame credit credit
credit-stays d frame credit leaves =
    let same : credit_after d credit frame ≡ credit = omega (arith, ints, leaves.grant, leaves.content) in
    let unsaid : connection_window_said d credit frame ≡ [] =
    grind (arith, ints, same, leaves.nothing, leaves.content) in
    record { moved = sym same; said = rw unsaid tt }

-- a frame moves the credit of one side alone
pub credits-moved : (side : Side) (frame : Frame) (before : Sides ℤ) (credit : ℤ)
    → ((Some side ≡ Some Client → ⊥) → LeavesCredit Client frame)
    → ((Some side ≡ Some Server → ⊥) → LeavesCredit Server frame)
    → IsCreditAfter side frame (side_of side before) credit
    → AreCreditsAfter frame before (with_side side credit before)
credits-moved Client frame before credit _ server moves =
    record { client = moves; server = credit-stays Server frame before.server (server (λ e. cc)) }
credits-moved Server frame before credit client _ moves =
    record { client = credit-stays Client frame before.client (client (λ e. cc)); server = moves }

-- ---- a frame that opens and promises nothing

unpromised : (frame : Frame) (push promised : ℕ) → is_server_promise frame ≡ false
    → IsPromisedAfter frame push promised promised
unpromised frame push promised none = record {
  promised = rw none refl;
  order_said = rw none refl;
  allowed = rw none refl;
}

pub lone-met : (frame : Frame) (old : KeptConnection) (credit : Sides ℤ) → is_server_promise frame ≡ false
    → HasCredits frame old credit
    → IsConnectionAfter frame false None old (record { state = record old.state { credit = credit } })
lone-met frame old credit none has =
    let now = old.state in
    connection-met frame false None old now.opened now.promised now.push credit now.limit has.short
    (record { opened = λ _. refl; said = λ _. refl }) (unpromised frame now.push now.promised none) has.moved refl refl
    refl

-- ---- a frame that opens its stream and promises nothing

pub opening-met : (frame : Frame) (old : KeptConnection) (credit : Sides ℤ) (opened : ℕ)
    → is_server_promise frame ≡ false → HasCredits frame old credit → IsOpenedAfter frame true old.state.opened opened
    → IsConnectionAfter frame true None old (record { state = record old.state { credit = credit; opened = opened } })
opening-met frame old credit opened none has opens =
    let now = old.state in
    connection-met frame true None old opened now.promised now.push credit now.limit has.short opens
    (unpromised frame now.push now.promised none) has.moved refl refl refl
