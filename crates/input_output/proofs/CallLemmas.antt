-- Calls of a reader or a writer, one after the other.
use Rattle.std.proofs.Common.{◌≡◌, ◌∙◌, ℕ, ◌<◌, List, [], ◌∷◌, ◌++◌, length, drop, Option, sym, ap, subst, arith}
use Rattle.std.specs.Io.{StartsWith, appended_bytes}
use Rattle.std.specs.List.{AllByRecursion}
use Rattle.std.proofs.KnownBytes.{Consumes-trans, starts_with_rest}
use Rattle.std.proofs.Transfers.{starts_with_length}
use Rattle.std.proofs.lemmas.Grind.{flat_map-append}
use Rattle.std.proofs.lemmas.List.{append-nil, append_assoc, drop-append-le}
use Rattle.input_output.specs.Calls.{Call, EndIn, MovesBytes, bytes_moved, bytes_of, moved}
use Rattle.input_output.specs.code.Reads.{AreCallsIn, Gives, HasCalled, IsStateAfter}
use Rattle.input_output.specs.declared.capture_reader.ReadState.{ReadState}
use Rattle.input_output.specs.declared.capture_reader.ReadState.TheVariants.{Open}
use Rattle.input_output.specs.declared.traced_reader.TracedReader.{TracedReader}

-- calls and others behind them moved the bytes of both
pub moved-append : (calls more : List Call) → bytes_moved (calls ++ more) ≡ bytes_moved calls ++ bytes_moved more
moved-append calls more = flat_map-append bytes_of calls more

pub each-append : (calls more : List Call) → AllByRecursion MovesBytes calls → AllByRecursion MovesBytes more
    → AllByRecursion MovesBytes (calls ++ more)
each-append [] more each rest = rest
each-append (call ∷ calls) more each rest = (each.0, each-append calls more each.1 rest)

-- behind calls that moved bytes comes another, of whatever answer
pub end_in : (calls : List Call) (call : Call) → EndIn [] calls → EndIn (call ∷ []) (calls ++ call ∷ [])
end_in calls call (earlier, each, is) = (earlier, each, ap (λ l. l ++ call ∷ []) (is ∙ append-nil earlier))

-- or one that moved bytes too
pub end_on : (calls : List Call) (call : Call) → EndIn [] calls → MovesBytes call → EndIn [] (calls ++ call ∷ [])
end_on calls call (earlier, each, is) moves = (
  earlier ++ call ∷ [],
  each-append earlier (call ∷ []) each (moves, tt),
  ap (λ l. l ++ call ∷ []) (is ∙ append-nil earlier) ∙ sym (append-nil (earlier ++ call ∷ [])),
)

-- the calls after a read that gave n bytes are in line with the state after it
pub calls_after : (old new : List Call) (given : List ℕ) (n : ℕ) (state : ReadState) → AreCallsIn Open old
    → new ≡ old ++ moved given ∷ [] → length given ≡ n → IsStateAfter n state → AreCallsIn state new
calls_after old new [] n state calls is count after =
    subst (λ s. AreCallsIn s new) (sym (after.ended (sym count)))
    (subst (EndIn (moved [] ∷ [])) (sym is) (end_in old (moved []) calls))
calls_after old new (byte ∷ bytes) n state calls is count after =
    let some : 0 < n = omega (arith, count) in
    subst (λ s. AreCallsIn s new) (sym (after.unended some))
    (subst (EndIn []) (sym is) (end_on old (moved (byte ∷ bytes)) calls tt))

module _ {R : Type 0} where
  -- what a read gave
  pub gave : (before after : TracedReader R) (given : List ℕ) → HasCalled before after (moved given)
      → bytes_moved after.calls.list ≡ bytes_moved before.calls.list ++ given
  gave before after given is =
      ap bytes_moved is ∙ moved-append before.calls.list (moved given ∷ [])
      ∙ ap (λ l. bytes_moved before.calls.list ++ l) (append-nil given)

  -- what reads gave, and then others
  pub gives-trans : (left : R → Option (List ℕ)) (a b c : TracedReader R) (bs cs : List ℕ) → Gives left a b bs
      → Gives left b c cs → Gives left a c (bs ++ cs)
  gives-trans left a b c bs cs first second = (
    Consumes-trans (left a.reader) (left b.reader) (left c.reader) bs cs first.0 second.0,
    second.1 ∙ ap (λ l. l ++ cs) first.1 ∙ append_assoc (bytes_moved a.calls.list) bs cs,
  )

  -- the same of bytes that are kept behind each other
  pub gives-more : (left : R → Option (List ℕ)) (a b c : TracedReader R) (old mid new : List ℕ) → StartsWith mid old
      → StartsWith new mid → Gives left a b (appended_bytes old mid) → Gives left b c (appended_bytes mid new)
      → Gives left a c (appended_bytes old new)
  gives-more left a b c old mid new front more first second =
      let rest = drop (length mid) new in
      let joined : drop (length old) new ≡ drop (length old) mid ++ rest =
      ap (drop (length old)) (starts_with_rest new mid more)
      ∙ drop-append-le (length old) mid rest (starts_with_length mid old front) in
      subst (Gives left a c) (sym joined) (gives-trans left a b c _ _ first second)
