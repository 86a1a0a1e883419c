use Rattle.std.proofs.Common.{◌≡◌, subst, sym, ◌∙◌}
use Rattle.h2_frames.proofs.Connecting.{fed_cut, has_met, tails_short}
use Rattle.h2_frames.proofs.Greetings.{cut_short, not_begun, not_short}
use Rattle.h2_frames.proofs.Words.{IsPrefaceCutShort}
use Rattle.h2_frames.specs.code.Connection.{HasFedBy}
use Rattle.h2_frames.specs.code.Greeting.{IsGreeted}
use Rattle.h2_frames.specs.declared.greeting.Greeting.TheVariants.{Other}
use Rattle.h2_frames.proofs.connection.ConnectionCutter.ending.Goals as goal

pub tail-requires : goal.tail-requires
tail-requires g c =
    let after = g.V.FrameVisitor.after in
    let (fed, has, few) = c.requires in
    let no : c.args.self.now.greeting ≡ Other → ⊥ = λ e. cc (c.in-Whole.is) in
    (tails_short after fed c.args.self.now (fed_cut after c.args.self.now.greeting fed c.args.self.now no has) no few).0

pub tail-requires-in-Whole : goal.tail-requires-in-Whole
tail-requires-in-Whole g c =
    let after = g.V.FrameVisitor.after in
    let (fed, has, few) = c.requires in
    let no : c.args.self.now.greeting ≡ Other → ⊥ = λ e. cc (c.in-Whole.is) in
    (tails_short after fed c.args.self.now (fed_cut after c.args.self.now.greeting fed c.args.self.now no has) no few).1

pub returns-in-CutShort : goal.returns-in-CutShort
returns-in-CutShort g c = λ fed client server has sent answered started.
    let after = g.V.FrameVisitor.after in
    let old = c.args.self.now in
    let no : old.greeting ≡ Other → ⊥ = λ e. cc (c.in-CutShort.is) in
    let is = fed_cut after old.greeting fed old no has in
    let short = subst (λ greeting. IsGreeted fed.client.bytes is.rest greeting) c.in-CutShort.is is.greeted in
    (started ∙ c.if-not-started.false, cut_short _ _ short.0 (sent.bytes ∙ short.1))

pub returns-in-Other : goal.returns-in-Other
returns-in-Other g c = λ fed client server has sent answered started.
    let differs =
    subst (λ greeting. HasFedBy g.V.FrameVisitor.after greeting fed c.args.self.now) c.in-Other.is has in (
      started ∙ c.if-not-started.false,
      (λ short. not_short fed.client.bytes differs (subst (λ l. IsPrefaceCutShort l) sent.bytes short)),
      (λ rest begins. not_begun fed.client.bytes rest differs (sym sent.bytes ∙ begins)),
    )

pub returns-in-Whole : goal.returns-in-Whole
returns-in-Whole g c = λ fed client server has sent answered started.
    let after = g.V.FrameVisitor.after in
    let old = c.args.self.now in
    let no : old.greeting ≡ Other → ⊥ = λ e. cc (c.in-Whole.is) in
    let is = fed_cut after old.greeting fed old no has in
    let whole = subst (λ greeting. IsGreeted fed.client.bytes is.rest greeting) c.in-Whole.is is.greeted in (
      started ∙ c.if-not-started.false,
      has_met after fed old client server (record { client = c.tail.result; server = c.tail-in-Whole.result }) is whole
          sent answered c.tail.ensures c.tail-in-Whole.ensures,
    )
