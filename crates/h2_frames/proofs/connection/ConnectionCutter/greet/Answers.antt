use Rattle.std.proofs.lemmas.Result.{on_ok_weaker}
use Rattle.std.proofs.Common.{◌≡◌, ◌+◌, ◌++◌, ◌<◌, ◌∙◌, [], ap, arith, length, length-append}
use Rattle.std.proofs.Common.{refl, subst}
use Rattle.std.proofs.Common.{sym, take}
use Rattle.std.proofs.lemmas.List.{length-take}
use Rattle.h2_frames.proofs.Connecting.{client_fed, client_room, cut_fed, fed_cut, none_sent, still_short, whole_length}
use Rattle.h2_frames.proofs.Feeding.{spells-tail}
use Rattle.h2_frames.proofs.Words.{preface}
use Rattle.h2_frames.specs.code.Greeting.{IsGreeted}
use Rattle.h2_frames.specs.declared.greeting.Greeting.TheVariants.{Other}
use Rattle.h2_frames.proofs.connection.ConnectionCutter.greet.Goals as goal

pub feed-requires-clause-begun : goal.feed-requires-clause-begun
feed-requires-clause-begun g c =
    let after = g.V.FrameVisitor.after in
    let (fed, has, few) = c.requires.fed in
    let old = c.args.self.now in
    let matched = c.args.matched in
    let bytes = c.args.bytes.now in
    let no : old.greeting ≡ Other → ⊥ = λ e. cc (c.requires.short) in
    let is = fed_cut after old.greeting fed old no has in
    let short = subst (λ greeting. IsGreeted fed.client.bytes is.rest greeting) c.requires.short is.greeted in
    let whole = subst (λ greeting. IsGreeted (take matched preface ++ bytes) c.greeting_of-greeting.result.1.now
    greeting) c.in-Whole.is c.greeting_of-greeting.ensures in
    let size = whole_length (take matched preface ++ bytes) c.greeting_of-greeting.result.1.now whole in (
      is.client_tail,
      is.client_begun,
      spells-tail is.rest is.client_tail is.client_frames is.client_spells,
      client_room after fed old _ is no (omega (
        arith,
        few,
        size,
        length-append (take matched preface) bytes,
        length-take matched preface,
        short.0,
      )),
    )

pub returns-in-CutShort : goal.returns-in-CutShort
returns-in-CutShort g c = λ fed has may.
    let after = g.V.FrameVisitor.after in
    let old = c.args.self.now in
    let bytes = c.args.bytes.now in
    let greeting = c.greeting_of-greeting.result.0 in
    let no : old.greeting ≡ Other → ⊥ = λ e. cc (c.requires.short) in
    let not_now : greeting ≡ Other → ⊥ = λ e. cc (c.in-CutShort.is) in
    let is = fed_cut after old.greeting fed old no has in
    let short = subst (λ greeting. IsGreeted fed.client.bytes is.rest greeting) c.requires.short is.greeted in
    let then = subst (λ greeting. IsGreeted (take c.args.matched preface ++ bytes) c.greeting_of-greeting.result.1.now
    greeting) c.in-CutShort.is c.greeting_of-greeting.ensures in
    let new = record old { greeting = greeting } in
    let greeted : IsGreeted (fed.client.bytes ++ bytes) [] greeting =
    subst (λ greeting. IsGreeted (fed.client.bytes ++ bytes) [] greeting) (sym c.in-CutShort.is)
    (then.0, ap (λ l. l ++ bytes) short.1 ∙ then.1, refl) in
    cut_fed after greeting _ new not_now (still_short after c.args.source fed old new bytes is short.2 greeted refl refl
    refl)

pub returns-in-Whole : goal.returns-in-Whole
returns-in-Whole g c = λ fed has may.
    let after = g.V.FrameVisitor.after in
    let old = c.args.self.now in
    let matched = c.args.matched in
    let bytes = c.args.bytes.now in
    let greeting = c.greeting_of-greeting.result.0 in
    let more = c.greeting_of-greeting.result.1.now in
    let no : old.greeting ≡ Other → ⊥ = λ e. cc (c.requires.short) in
    let not_now : greeting ≡ Other → ⊥ = λ e. cc (c.in-Whole.is) in
    let is = fed_cut after old.greeting fed old no has in
    let short = subst (λ greeting. IsGreeted fed.client.bytes is.rest greeting) c.requires.short is.greeted in
    let whole = subst (λ greeting. IsGreeted (take matched preface ++ bytes) more greeting) c.in-Whole.is
    c.greeting_of-greeting.ensures in
    let size = whole_length (take matched preface ++ bytes) more whole in
    let none : length is.rest ≡ 0 = ap length short.2 in
    let few : length fed.client.bytes < 24 = omega (arith, ap length short.1, length-take matched preface, short.0) in
    let all : length fed.client.bytes + length bytes ≡ 24 + length more =
    omega (arith, size, ap length short.1, length-append (take matched preface) bytes) in
    let new = record old { greeting = greeting; client = c.feed.new.self; stage = c.feed.new.stage } in
    let greeted : IsGreeted (fed.client.bytes ++ bytes) (is.rest ++ more) greeting =
    subst (λ greeting. IsGreeted (fed.client.bytes ++ bytes) (is.rest ++ more) greeting) (sym c.in-Whole.is)
    (ap (λ l. l ++ bytes) short.1 ∙ whole ∙ ap (λ l. preface ++ (l ++ more)) (sym short.2)) in
    on_ok_weaker c.feed.result
    (λ cut. cut_fed after greeting _ new not_now
    (client_fed after c.args.source fed old new bytes more c.requires.side may is greeted refl cut
    (λ some. absurd (omega (arith, some, ap length (none_sent after fed old is short.2))))
    (omega (arith, few)) (omega (arith, none, all))))
    (c.feed.ensures is.client_tail is.client_begun
    (spells-tail is.rest is.client_tail is.client_frames is.client_spells))
