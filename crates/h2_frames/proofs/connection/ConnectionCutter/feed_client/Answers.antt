use Rattle.std.proofs.lemmas.Result.{on_ok_weaker}
use Rattle.std.proofs.Common.{◌≡◌, ◌++◌, ◌∙◌, ap, append_assoc, arith, refl, subst, sym}
use Rattle.h2_frames.proofs.Connecting.{client_fed, client_room, cut_fed, fed_cut, whole_length}
use Rattle.h2_frames.proofs.Feeding.{spells-tail}
use Rattle.h2_frames.proofs.Words.{preface}
use Rattle.h2_frames.specs.code.Greeting.{IsGreeted}
use Rattle.h2_frames.specs.declared.greeting.Greeting.TheVariants.{Other}
use Rattle.h2_frames.proofs.connection.ConnectionCutter.feed_client.Goals as goal

pub feed-requires-clause-begun : goal.feed-requires-clause-begun
feed-requires-clause-begun g c =
    let after = g.V.FrameVisitor.after in
    let (fed, has, few) = c.requires.fed in
    let no : c.args.self.now.greeting ≡ Other → ⊥ = λ e. cc (c.in-Whole.is) in
    let is = fed_cut after c.args.self.now.greeting fed c.args.self.now no has in (
      is.client_tail,
      is.client_begun,
      spells-tail is.rest is.client_tail is.client_frames is.client_spells,
      client_room after fed c.args.self.now _ is no few,
    )

pub returns-in-Whole : goal.returns-in-Whole
returns-in-Whole g c = λ fed has may.
    let after = g.V.FrameVisitor.after in
    let old = c.args.self.now in
    let bytes = c.args.bytes.now in
    let no : old.greeting ≡ Other → ⊥ = λ e. cc (c.in-Whole.is) in
    let is = fed_cut after old.greeting fed old no has in
    let whole = subst (λ greeting. IsGreeted fed.client.bytes is.rest greeting) c.in-Whole.is is.greeted in
    let size = whole_length fed.client.bytes is.rest whole in
    let new = record old { client = c.feed.new.self; stage = c.feed.new.stage } in
    let greeted : IsGreeted (fed.client.bytes ++ bytes) (is.rest ++ bytes) old.greeting =
    subst (λ greeting. IsGreeted (fed.client.bytes ++ bytes) (is.rest ++ bytes) greeting) (sym c.in-Whole.is)
    (ap (λ l. l ++ bytes) whole ∙ append_assoc preface is.rest bytes) in
    on_ok_weaker c.feed.result
    (λ cut. cut_fed after old.greeting _ new no
    (client_fed after c.args.source fed old new bytes bytes c.requires.side may is greeted refl cut
    (λ some. omega (arith, size)) (omega (arith, size)) (omega (arith, size))))
    (c.feed.ensures is.client_tail is.client_begun
    (spells-tail is.rest is.client_tail is.client_frames is.client_spells))
