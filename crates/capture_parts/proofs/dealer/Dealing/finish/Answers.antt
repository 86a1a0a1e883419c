use Rattle.capture_parts.proofs.Terms.{List, ap, append-nil, arith, drop, drop_min, eqb-false, eqb-true, length}
use Rattle.capture_parts.proofs.Terms.{length-take-le, nil_from_length, on_ok_weaker, sym, take, take_min}
use Rattle.capture_parts.proofs.Terms.{take_rest, ℕ, ◌-◌, ◌<◌, ◌∙◌, ◌≡◌}
use Rattle.capture_parts.proofs.Standing.{dealt_all, dealt_rest}
use Rattle.capture_parts.proofs.dealer.Dealing.finish.Goals as goal

pub returns-then-is_empty-clause-split : goal.returns-then-is_empty-clause-split
returns-then-is_empty-clause-split g c = λ first bytes cut was.
    let none = eqb-true (length c.args.rest.now) 0 (sym c.is_empty.ensures ∙ c.if-is_empty.true) in
    rw (nil_from_length c.args.rest.now none, append-nil bytes) (dealt_all g.W.Write.contents was)

pub returns-clause-split : goal.returns-clause-split
returns-clause-split g c = on_ok_weaker c.give.result (λ one first bytes cut was.
    let rest : List ℕ = c.args.rest.now in
    let some : 0 < length rest =
    omega (arith, eqb-false (length rest) 0 (sym c.is_empty.ensures ∙ c.if-is_empty.false)) in
    let packet : take (length rest - c.min-header.result) (drop c.min-header.result rest) ≡ drop 16 rest =
    take_rest rest c.min-header.result ∙ ap (λ (k : ℕ). drop k rest) c.min-header.ensures ∙ drop_min 16 rest in
    dealt_rest g.W.Write.contents c.at_next-next.result (c.requires some) cut some
    (record {
      next = rw (c.min.ensures, take_min, packet, c.len.ensures, ← c.give_number.ensures.length)
          at c.at_next-next.ensures.next;
      grows = c.in_ok-give_number.ensures.grows;
    }) one was)
    c.give.ensures.grows

pub at_next-next-requires-clause-room : goal.at_next-next-requires-clause-room
at_next-next-requires-clause-room g c = omega (
  arith,
  c.args.self.now.few,
  c.args.self.now.counted,
  c.requires (omega (arith, eqb-false _ 0 (sym c.is_empty.ensures ∙ c.if-is_empty.false))),
)

pub slice_bounds-front-end : goal.slice_bounds-front-end
slice_bounds-front-end g c = sym (length-take-le _ _ (omega (arith, c.min.ensures)))
