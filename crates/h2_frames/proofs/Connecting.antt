-- Both sides of a connection, whose frames are cut out as bytes come.
use Rattle.std.proofs.Common.{◌≡◌, ℕ, ◌+◌, ◌*◌, ◌<◌, ◌≤◌, ◌^◌, List, [], ◌++◌, length, refl, ap, ap₂, sym}
use Rattle.std.proofs.Common.{subst, ◌∙◌, arith, length-append}
use Rattle.std.proofs.lemmas.List.{nil_from_length}
use Rattle.h2_frames.proofs.Arising.{captured_from-length, reach-more, same_captured, side_grows, spells-size}
use Rattle.h2_frames.proofs.Following.{capture_order-length, client_order, server_order}
use Rattle.h2_frames.proofs.Feeding.{spells-append, spells-length}
use Rattle.h2_frames.proofs.Words.{Client, Flow, Frame, Server, Sides, Spelled, Spells}
use Rattle.h2_frames.proofs.Words.{capture_order}
use Rattle.h2_frames.proofs.Words.{captured_from, preface}
use Rattle.h2_frames.specs.code.Connection.{AreCut, HasFedBy, HasMet, ReachFrom, fed_length, grown}
use Rattle.h2_frames.specs.code.Cutter.{HasCut, IsBegun}
use Rattle.h2_frames.specs.code.Fed.{Fed, IsFlowFed, MayBring, with_more}
use Rattle.h2_frames.specs.code.Greeting.{IsGreeted}
use Rattle.h2_frames.specs.code.Handed.{HasHanded, HasRoomFor}
use Rattle.h2_frames.specs.declared.connection.ConnectionCutter.{ConnectionCutter}
use Rattle.h2_frames.specs.declared.cutter.SideCutter.{SideCutter}
use Rattle.h2_frames.specs.declared.greeting.Greeting.{Greeting}
use Rattle.h2_frames.specs.declared.greeting.Greeting.TheVariants.{CutShort, Other, Whole}
use Rattle.h2_frames.specs.declared.numbering.Numbering.{Numbering}
use Rattle.h2_frames.specs.declared.side_frames.Source.{Source}

-- the client's bytes behind the preface are no more than all of them
pub rest_within : (g : Greeting) (bytes rest : List ℕ) → (g ≡ Other → ⊥) → IsGreeted bytes rest g
    → length rest ≤ length bytes
rest_within (CutShort n) bytes rest never is = omega (arith, ap length is.2)
rest_within Other bytes rest never is = absurd (never refl)
rest_within Whole bytes rest never is = omega (arith, ap length is, length-append preface rest)

pub whole_length : (bytes rest : List ℕ) → IsGreeted bytes rest Whole → length bytes ≡ 24 + length rest
whole_length bytes rest is = ap length is ∙ length-append preface rest

module _ {V : Type 0} (after : List Frame → V → Type 0) where
  pub fed_cut : (g : Greeting) (fed : Sides Fed) (cutter : ConnectionCutter V) → (g ≡ Other → ⊥)
      → HasFedBy after g fed cutter → AreCut after fed cutter
  fed_cut (CutShort n) fed cutter never is = is
  fed_cut Other fed cutter never is = absurd (never refl)
  fed_cut Whole fed cutter never is = is

  pub cut_fed : (g : Greeting) (fed : Sides Fed) (cutter : ConnectionCutter V) → (g ≡ Other → ⊥)
      → AreCut after fed cutter → HasFedBy after g fed cutter
  cut_fed (CutShort n) fed cutter never is = is
  cut_fed Other fed cutter never is = absurd (never refl)
  cut_fed Whole fed cutter never is = is

  -- how many bytes the frames take at least
  few_frames : (fed : Sides Fed) (cutter : ConnectionCutter V) → (is : AreCut after fed cutter)
      → (cutter.greeting ≡ Other → ⊥)
      → 9 * length (capture_order (captured_from Client fed.client.arrivals 1 24 is.client_frames)
      (captured_from Server fed.server.arrivals 1 0 is.server_frames)) + length is.client_tail + length is.server_tail
      ≤ fed_length fed
  few_frames fed cutter is never =
      let client = captured_from Client fed.client.arrivals 1 24 is.client_frames in
      let server = captured_from Server fed.server.arrivals 1 0 is.server_frames in
      omega (
        arith,
        capture_order-length client server,
        captured_from-length Client fed.client.arrivals 1 24 is.client_frames,
        captured_from-length Server fed.server.arrivals 1 0 is.server_frames,
        spells-length is.rest is.client_tail is.client_frames is.client_spells,
        spells-length fed.server.bytes is.server_tail is.server_frames is.server_spells,
        rest_within cutter.greeting fed.client.bytes is.rest never is.greeted,
      )

  pub tails_short : (fed : Sides Fed) (cutter : ConnectionCutter V) → AreCut after fed cutter
      → (cutter.greeting ≡ Other → ⊥) → fed_length fed < 2 ^ 31
      → (cutter.client.count < 2 ^ 32) × (cutter.server.count < 2 ^ 32)
  tails_short fed cutter is never few =
      let all = few_frames fed cutter is never in
      (omega (arith, all, few, is.client_begun.count), omega (arith, all, few, is.server_begun.count))

  -- there is room for the frames of a side's next bytes
  pub client_room : (fed : Sides Fed) (cutter : ConnectionCutter V) (n : ℕ) → (is : AreCut after fed cutter)
      → (cutter.greeting ≡ Other → ⊥) → fed_length fed + n < 2 ^ 31
      → HasRoomFor after (length is.client_tail + n) cutter.stage
  client_room fed cutter n is never few = (
    capture_order (captured_from Client fed.client.arrivals 1 24 is.client_frames)
        (captured_from Server fed.server.arrivals 1 0 is.server_frames),
    is.handed,
    omega (arith, few, few_frames fed cutter is never),
  )

  pub server_room : (fed : Sides Fed) (cutter : ConnectionCutter V) (n : ℕ) → (is : AreCut after fed cutter)
      → (cutter.greeting ≡ Other → ⊥) → fed_length fed + n < 2 ^ 31
      → HasRoomFor after (length is.server_tail + n) cutter.stage
  server_room fed cutter n is never few = (
    capture_order (captured_from Client fed.client.arrivals 1 24 is.client_frames)
        (captured_from Server fed.server.arrivals 1 0 is.server_frames),
    is.handed,
    omega (arith, few, few_frames fed cutter is never),
  )

  -- the client's next bytes were cut
  pub client_fed : (source : Source) (fed : Sides Fed) (old new : ConnectionCutter V) (bytes more : List ℕ)
      → source.side ≡ Client → MayBring source.rec fed.client fed.server → (is : AreCut after fed old)
      → IsGreeted (fed.client.bytes ++ bytes) (is.rest ++ more) new.greeting → new.server ≡ old.server
      → HasCut after source old.stage (is.client_tail ++ more) new.client new.stage
      → (0 < length is.client_frames → 24 + length is.rest ≤ length fed.client.bytes)
      → length fed.client.bytes ≤ 24 + length is.rest
      → 24 + length is.rest + length more ≤ length fed.client.bytes + length bytes
      → AreCut after (grown Client bytes source.rec source.nanos fed) new
  client_fed source fed old new bytes more side may is greeted server cut low high fits =
      let upto = length fed.client.bytes + length bytes in
      let server_frames = captured_from Server fed.server.arrivals 1 0 is.server_frames in
      record {
        rest = is.rest ++ more;
        client_frames = is.client_frames ++ cut.spelled;
        client_tail = cut.tail;
        server_frames = is.server_frames;
        server_tail = is.server_tail;
        greeted = greeted;
        client_spells = spells-append is.rest is.client_tail more cut.tail is.client_frames cut.spelled
            is.client_spells cut.spells;
        server_spells = is.server_spells;
        client_begun = cut.begun;
        server_begun = subst (λ (c : SideCutter). IsBegun is.server_tail c) (sym server) is.server_begun;
        client_reached = subst (λ (n : ℕ). ReachFrom 0 (with_more fed.client bytes source.rec source.nanos).arrivals n)
            (sym (length-append fed.client.bytes bytes))
            (reach-more 0 (length fed.client.bytes) fed.client.arrivals
            (record { upto = upto; rec = source.rec; nanos = source.nanos }) is.client_reached (omega arith));
        server_reached = is.server_reached;
        handed = subst (λ (l : List Frame). HasHanded after l new.stage)
            (sym (ap (λ l. capture_order l server_frames)
            (side_grows Client fed.client source.rec source.nanos 24 bytes is.rest more is.client_tail cut.tail
            is.client_frames cut.spelled is.client_reached is.client_spells cut.spells low high fits)
            ∙ client_order source fed upto side may 24 0 is.client_frames is.server_frames cut.spelled))
            (cut.handed _ is.handed);
      }

  -- the server's were
  pub server_fed : (source : Source) (fed : Sides Fed) (old new : ConnectionCutter V) (bytes : List ℕ)
      → source.side ≡ Server → MayBring source.rec fed.server fed.client → (is : AreCut after fed old)
      → new.greeting ≡ old.greeting → new.client ≡ old.client
      → HasCut after source old.stage (is.server_tail ++ bytes) new.server new.stage
      → AreCut after (grown Server bytes source.rec source.nanos fed) new
  server_fed source fed old new bytes side may is greeting client cut =
      let upto = length fed.server.bytes + length bytes in
      let client_frames = captured_from Client fed.client.arrivals 1 24 is.client_frames in
      record {
        rest = is.rest;
        client_frames = is.client_frames;
        client_tail = is.client_tail;
        server_frames = is.server_frames ++ cut.spelled;
        server_tail = cut.tail;
        greeted = subst (λ (g : Greeting). IsGreeted fed.client.bytes is.rest g) (sym greeting) is.greeted;
        client_spells = is.client_spells;
        server_spells = spells-append fed.server.bytes is.server_tail bytes cut.tail is.server_frames cut.spelled
            is.server_spells cut.spells;
        client_begun = subst (λ (c : SideCutter). IsBegun is.client_tail c) (sym client) is.client_begun;
        server_begun = cut.begun;
        client_reached = is.client_reached;
        server_reached = subst (λ (n : ℕ). ReachFrom 0 (with_more fed.server bytes source.rec source.nanos).arrivals n)
            (sym (length-append fed.server.bytes bytes))
            (reach-more 0 (length fed.server.bytes) fed.server.arrivals
            (record { upto = upto; rec = source.rec; nanos = source.nanos }) is.server_reached (omega arith));
        handed = subst (λ (l : List Frame). HasHanded after l new.stage)
            (sym (ap (λ l. capture_order client_frames l)
            (side_grows Server fed.server source.rec source.nanos 0 bytes fed.server.bytes bytes is.server_tail cut.tail
            is.server_frames cut.spelled is.server_reached is.server_spells cut.spells (λ some. omega arith)
            (omega arith) (omega arith))
            ∙ server_order source fed upto side may 0 24 is.client_frames is.server_frames cut.spelled))
            (cut.handed _ is.handed);
      }

  -- no frame of the client is begun where its preface is cut short
  pub none_sent : (fed : Sides Fed) (cutter : ConnectionCutter V) → (is : AreCut after fed cutter) → is.rest ≡ []
      → is.client_frames ≡ []
  none_sent fed cutter is none =
      nil_from_length is.client_frames (omega (
        arith,
        ap length none,
        spells-length is.rest is.client_tail is.client_frames is.client_spells,
      ))

  -- it is still cut short
  pub still_short : (source : Source) (fed : Sides Fed) (old new : ConnectionCutter V) (bytes : List ℕ)
      → (is : AreCut after fed old) → is.rest ≡ [] → IsGreeted (fed.client.bytes ++ bytes) [] new.greeting
      → new.client ≡ old.client → new.server ≡ old.server → new.stage ≡ old.stage
      → AreCut after (grown Client bytes source.rec source.nanos fed) new
  still_short source fed old new bytes is none greeted client server stage =
      let none_are : is.client_frames ≡ [] = none_sent fed old is none in
      let upto = length fed.client.bytes + length bytes in
      record {
        rest = is.rest;
        client_frames = is.client_frames;
        client_tail = is.client_tail;
        server_frames = is.server_frames;
        server_tail = is.server_tail;
        greeted = subst (λ (l : List ℕ). IsGreeted (fed.client.bytes ++ bytes) l new.greeting) (sym none) greeted;
        client_spells = is.client_spells;
        server_spells = is.server_spells;
        client_begun = subst (λ (c : SideCutter). IsBegun is.client_tail c) (sym client) is.client_begun;
        server_begun = subst (λ (c : SideCutter). IsBegun is.server_tail c) (sym server) is.server_begun;
        client_reached = subst (λ (m : ℕ). ReachFrom 0 (with_more fed.client bytes source.rec source.nanos).arrivals m)
            (sym (length-append fed.client.bytes bytes))
            (reach-more 0 (length fed.client.bytes) fed.client.arrivals
            (record { upto = upto; rec = source.rec; nanos = source.nanos }) is.client_reached (omega arith));
        server_reached = is.server_reached;
        handed = subst (λ (xs : List Spelled). HasHanded after
            (capture_order
            (captured_from Client (with_more fed.client bytes source.rec source.nanos).arrivals 1 24 xs)
            (captured_from Server fed.server.arrivals 1 0 is.server_frames)) new.stage) (sym none_are)
            (subst (λ (s : Numbering V). HasHanded after
            (capture_order [] (captured_from Server fed.server.arrivals 1 0 is.server_frames)) s) (sym stage)
            (subst (λ (xs : List Spelled). HasHanded after
            (capture_order (captured_from Client fed.client.arrivals 1 24 xs)
            (captured_from Server fed.server.arrivals 1 0 is.server_frames)) old.stage) none_are is.handed));
      }

  -- all bytes of the two flows of an HTTP/2 connection were fed
  pub has_met : (fed : Sides Fed) (cutter : ConnectionCutter V) (client server : Flow) (tails : Sides ℕ)
      → (is : AreCut after fed cutter) → IsGreeted fed.client.bytes is.rest Whole → IsFlowFed client fed.client
      → IsFlowFed server fed.server → tails.client ≡ cutter.client.count → tails.server ≡ cutter.server.count
      → HasMet after client server cutter.stage.visitor cutter.stage.taken tails
  has_met fed cutter client server tails is greeted sent answered client_tail server_tail = record {
    frames = capture_order (captured_from Client fed.client.arrivals 1 24 is.client_frames)
        (captured_from Server fed.server.arrivals 1 0 is.server_frames);
    visited = is.handed.visited;
    http2 = record {
      after_preface = is.rest;
      client_frames = is.client_frames;
      client_tail = is.client_tail;
      server_frames = is.server_frames;
      server_tail = is.server_tail;
      client_begins = sent.bytes ∙ greeted;
      client_spells = is.client_spells;
      server_spells = subst (λ (l : List ℕ). Spells l is.server_frames is.server_tail) (sym answered.bytes)
          is.server_spells;
      in_order = sym (ap₂ capture_order
          (same_captured Client client.arrivals.items fed.client.arrivals (length fed.client.bytes) 1 24
          is.client_frames sent.recs sent.times (omega (
            arith,
            whole_length fed.client.bytes is.rest greeted,
            spells-size is.rest is.client_tail is.client_frames is.client_spells,
          )))
          (same_captured Server server.arrivals.items fed.server.arrivals (length fed.server.bytes) 1 0
          is.server_frames answered.recs answered.times (omega (
            arith,
            spells-size fed.server.bytes is.server_tail is.server_frames is.server_spells,
          ))));
      tails_are = ap₂ (λ (m n : ℕ). record { client = m; server = n }) (client_tail ∙ is.client_begun.count)
          (server_tail ∙ is.server_begun.count);
    };
    orderly = is.handed.orderly;
    counted = is.handed.count;
  }
