-- Bytes have one spelling, flows one cut.
use Rattle.std.proofs.Common.{◌≡◌, ℕ, List, [], ◌∷◌, ◌++◌, length, take, drop, refl, ap, sym, ◌∙◌, arith, length-append}
use Rattle.std.proofs.Common.{append_assoc, inl, inr}
use Rattle.std.specs.Prelude.{IfOk, IsTrue}
use Rattle.std.{specs.declared.alloc.AllocError.AllocError, proofs.lemmas.Bool.false≢true}
use Rattle.std.proofs.lemmas.List.{append_cancel_left, take_at, drop_at}
use Rattle.h2_frames.proofs.Fronts.{header_of-append}
use Rattle.h2_frames.proofs.Words.{Result, Ok, Err, Cut, Flow, Frame, Sides, Http2, NotHttp2, NoPreface, NoHandshake}
use Rattle.h2_frames.proofs.Words.{Header, Spelled, header_of, HoldsNoFrame, Makes, Spells, preface, IsPrefaceCutShort}
use Rattle.h2_frames.proofs.Words.{BeginsWithPreface, IsCut, IsHttp2, SpellingIsUnique, IsSameFlow, CutIsUnique}
use Rattle.h2_frames.proofs.Words.{IsSameCut, HasOrderlyFrames, IsFoundCut, IsOrderlyCut, bytes_of}

-- two fronts of one length are one front, and so are the rests
same_parts : (a b x y : List ℕ) → a ++ x ≡ b ++ y → length a ≡ length b → (a ≡ b) × (x ≡ y)
same_parts a b x y e h = (
  sym (take_at a x (length b) h) ∙ ap (take (length b)) e ∙ take_at b y (length b) refl,
  sym (drop_at a x (length b) h) ∙ ap (drop (length b)) e ∙ drop_at b y (length b) refl,
)

-- a frame that bytes begin with, and what follows it
record BeginWith (bytes : List ℕ) (frame : Spelled) (rest : List ℕ) : Type 0 where
  pub header : List ℕ
  pub payload : List ℕ
  pub split : bytes ≡ header ++ payload ++ rest
  pub makes : Makes header payload frame

-- its header is the one that the bytes begin with
header_is : (bytes : List ℕ) (frame : Spelled) (rest : List ℕ) → BeginWith bytes frame rest
    → header_of bytes ≡ frame.header
header_is bytes frame rest first =
    ap header_of (first.split ∙ append_assoc first.header first.payload rest)
    ∙ header_of-append first.header (first.payload ++ rest) (omega (arith, first.makes.nine))
    ∙ sym first.makes.header_is

-- bytes that hold no whole frame begin with none
holds_none : (bytes : List ℕ) (frame : Spelled) (rest : List ℕ) → HoldsNoFrame bytes → BeginWith bytes frame rest → ⊥
holds_none bytes frame rest holds first =
    let size = simp length-append at (ap length first.split) in
    let same = ap (λ (h : Header). h.length) (header_is bytes frame rest first) in
    elim holds [
      | inl short ↦ omega (arith, size, short, first.makes.nine)
      | inr short ↦ omega (arith, size, short, same, first.makes.nine, first.makes.whole)
    ]

-- two frames that one list of bytes begins with are one, and so is what follows them
same_first : (bytes : List ℕ) (f g : Spelled) (rest other : List ℕ) → BeginWith bytes f rest → BeginWith bytes g other
    → (f ≡ g) × (rest ≡ other)
same_first bytes f g rest other first second =
    let headers : f.header ≡ g.header = sym (header_is bytes f rest first) ∙ header_is bytes g other second in
    let parts = same_parts first.header second.header (first.payload ++ rest) (second.payload ++ other)
    (sym (first.split ∙ append_assoc first.header first.payload rest) ∙ second.split
    ∙ append_assoc second.header second.payload other) (first.makes.nine ∙ sym second.makes.nine) in
    let payloads = same_parts first.payload second.payload rest other parts.1
    (first.makes.whole ∙ ap (λ (h : Header). h.length) headers ∙ sym second.makes.whole) in
    let bodies : f.body ≡ g.body =
    rw (first.makes.body_is, headers, payloads.0) (sym second.makes.body_is) in
    ((λ i. record { header = headers i; body = bodies i }), payloads.1)

begin_with : (bytes : List ℕ) (frame : Spelled) (later : List Spelled) (tail : List ℕ)
    → (spells : Spells bytes (frame ∷ later) tail) → BeginWith bytes frame spells.2
begin_with bytes frame later tail spells =
    record { header = spells.0; payload = spells.1; split = spells.3; makes = spells.4 }

pub spelling-unique : SpellingIsUnique
spelling-unique bytes [] [] tail other_tail first second = (refl, sym first.0 ∙ second.0)
spelling-unique bytes [] (f ∷ others) tail other_tail first second =
    absurd (holds_none bytes f second.2 first.1 (begin_with bytes f others other_tail second))
spelling-unique bytes (f ∷ frames) [] tail other_tail first second =
    absurd (holds_none bytes f first.2 second.1 (begin_with bytes f frames tail first))
spelling-unique bytes (f ∷ frames) (g ∷ others) tail other_tail first second =
    let same = same_first bytes f g first.2 second.2 (begin_with bytes f frames tail first)
    (begin_with bytes g others other_tail second) in
    let later = spelling-unique first.2 frames others tail other_tail first.5 (rw same.1 second.5) in
    (cc (same.0, later.0), later.1)

-- no bytes are a part of the preface and begin with all of it
pub not_both : (bytes rest : List ℕ) → IsPrefaceCutShort bytes → BeginsWithPreface bytes rest → ⊥
not_both bytes rest short begins =
    let all = simp length-append at (ap length begins) in
    omega (arith, length-append bytes short.0, ap length short.2, all, short.1)

same_flow : (flow : Flow) → IsSameFlow flow flow
same_flow flow = record { started = refl; bytes = refl; arrivals = refl }

module _ (client server other_client other_server : Flow) (c : IsSameFlow client other_client)
    (s : IsSameFlow server other_server) where
  same_http2 : (frames others : List Frame) (tails other_tails : Sides ℕ) → IsHttp2 client server frames tails →
      IsHttp2 other_client other_server others other_tails → (frames ≡ others) × (tails ≡ other_tails)
  same_http2 frames others tails other_tails first second =
      let rests : first.after_preface ≡ second.after_preface =
      append_cancel_left preface _ _ (sym first.client_begins ∙ c.bytes ∙ second.client_begins) in
      let clients = spelling-unique _ _ _ _ _ first.client_spells (rw (← rests) at second.client_spells) in
      let servers = spelling-unique _ _ _ _ _ first.server_spells (rw (← s.bytes) at second.server_spells) in (
        rw (first.in_order, second.in_order, clients.0, servers.0, c.arrivals, s.arrivals) refl,
        rw (first.tails_are, second.tails_are, clients.1, servers.1) refl,
      )

  same_cuts : (cut other : Cut) → IsCut client server cut → IsCut other_client other_server other → IsSameCut cut other
  same_cuts NoHandshake NoHandshake first second = tt
  same_cuts NoHandshake _ first second = absurd (false≢true (sym first ∙ s.started ∙ second.0))
  same_cuts _ NoHandshake first second = absurd (false≢true (sym second ∙ sym s.started ∙ first.0))
  same_cuts NoPreface NoPreface first second = tt
  same_cuts NoPreface NotHttp2 first second = absurd (second.1 (rw (← c.bytes) first.1))
  same_cuts NoPreface (Http2 frames tails) first second =
      absurd (not_both _ _ (rw (← c.bytes) first.1) second.1.client_begins)
  same_cuts NotHttp2 NoPreface first second = absurd (first.1 (rw c.bytes second.1))
  same_cuts NotHttp2 NotHttp2 first second = tt
  same_cuts NotHttp2 (Http2 frames tails) first second = absurd (first.2 _ (c.bytes ∙ second.1.client_begins))
  same_cuts (Http2 frames tails) NoPreface first second =
      absurd (not_both _ _ (rw c.bytes second.1) first.1.client_begins)
  same_cuts (Http2 frames tails) NotHttp2 first second = absurd (second.2 _ (sym c.bytes ∙ first.1.client_begins))
  same_cuts (Http2 frames tails) (Http2 others other_tails) first second =
      same_http2 frames.items others.items tails other_tails first.1 second.1

pub cut-unique : CutIsUnique
cut-unique client server other_client other_server cut other c s =
    same_cuts client server other_client other_server c s cut other

-- two flows are spelled by no other frames
pub one_http2 : (client server : Flow) (frames others : List Frame) (tails other_tails : Sides ℕ)
    → IsHttp2 client server frames tails → IsHttp2 client server others other_tails
    → (frames ≡ others) × (tails ≡ other_tails)
one_http2 client server frames others tails other_tails first second =
    same_http2 client server client server (same_flow client) (same_flow server) frames others tails other_tails first
    second

-- two flows have no other cut
pub only-cut : (client server : Flow) (cut other : Cut) → IsCut client server cut → IsCut client server other
    → IsSameCut cut other
only-cut client server cut other first second =
    cut-unique client server client server cut other (same_flow client) (same_flow server) first second

-- a cut that is found
pub found-cut : (client server : Flow) (cut : Cut) → IsCut client server cut → HasOrderlyFrames cut
    → IsFoundCut client server (Ok cut)
found-cut client server cut is orderly = record {
  is = is;
  only = λ other second. only-cut client server cut other is second;
  orderly = orderly;
  memory = tt;
}

-- what is found of both sides' frames
pub found-all : (client server : Flow) (rest : List ℕ) (found : Result Cut AllocError) → IsTrue server.started →
    BeginsWithPreface (bytes_of client) rest → IfOk found (IsOrderlyCut client server) → IsFoundCut client server found
found-all client server rest (Ok cut) started begins is = found-cut client server cut is.0 is.1
found-all client server rest (Err e) started begins is =
    record { is = tt; only = tt; orderly = tt; memory = (started, rest, begins) }

pub ruleset uniqueness = (spelling-unique, cut-unique)
