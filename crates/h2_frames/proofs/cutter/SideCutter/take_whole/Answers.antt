use Rattle.std.proofs.Common.{◌+◌, ◌≡◌, ◌∙◌, ap, arith, drop, length, refl, sym, take}
use Rattle.std.proofs.lemmas.List.{take-append-drop, take_rest}
use Rattle.h2_frames.proofs.Cutters.{kept_length, needed_within, same_needed, whole_frame}
use Rattle.h2_frames.proofs.Words.{Header}
use Rattle.h2_frames.specs.code.Cutter.{needed_by}
use Rattle.h2_frames.proofs.cutter.SideCutter.take_whole.Goals as goal

pub body_of_front-body-requires : goal.body_of_front-body-requires
body_of_front-body-requires c =
    let header = c.in_ok-header.header in
    let begun = c.args.self.now.begun.items in
    let (tail, is) = c.requires in
    let (long, header_is) = c.in_ok-header.ensures.is tail is in
    let within = needed_within header.code header.flags header.length in
    let kept : length (drop 9 begun) ≡ needed_by header =
    kept_length tail begun header.length (needed_by header) (omega (arith, is.count)) within
    (is.kept ∙ same_needed tail header header_is) in
    let front = take_rest c.deref.result.now 9 ∙ ap (drop 9) c.deref.ensures.value in
    record {
      size = c.in_ok-header.ensures.length;
      known = rw front (omega (arith, kept));
      within = rw front (omega (arith, kept, within));
    }

pub returns-clause-taken : goal.returns-clause-taken
returns-clause-taken c = λ tail is one.
    let header = c.in_ok-header.header in
    let begun = c.args.self.now.begun.items in
    let (long, header_is) = c.in_ok-header.ensures.is tail is in
    let size : length tail ≡ 9 + header.length =
    omega (arith, one long, is.count, ap (λ (h : Header). h.length) header_is) in
    let front = take_rest c.deref.result.now 9 ∙ ap (drop 9) c.deref.ensures.value in (
      take 9 tail,
      drop 9 tail,
      sym (take-append-drop 9 tail),
      whole_frame tail begun (record { header = header; body = c.body_of_front-body.result }) long header_is size
          (is.kept ∙ same_needed tail header header_is) (rw front at c.body_of_front-body.ensures),
      record { count = refl; kept = c.shrink_to.ensures.items ∙ c.clear.ensures.items },
    )
