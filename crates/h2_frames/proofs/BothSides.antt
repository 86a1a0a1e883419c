-- The frames of both sides make an HTTP/2 connection's cut.
use Rattle.std.proofs.Common.{◌≡◌, ℕ, ◌+◌, List, length, refl, ap, ap₂, ◌∙◌, arith, length-append}
use Rattle.h2_frames.proofs.Words.{Flow, bytes_of, IsOrderly, Client, Server, SideFrame, numbered, preface}
use Rattle.h2_frames.proofs.Words.{BeginsWithPreface, IsHttp2, merged, AreAhead}
use Rattle.std.proofs.Common.{◌-◌, drop, length-drop, take}
use Rattle.std.proofs.lemmas.List.{drop_at, take_all}
use Rattle.h2_frames.proofs.Merging.{captured-in_order, merged-capture_order}

pub http2-is : (client server : Flow) (rest : List ℕ) (sent answered all : List SideFrame)
    (sent_tail answered_tail : List ℕ) →
    BeginsWithPreface (bytes_of client) rest → IsOrderly client → IsOrderly server →
    AreAhead Client client.arrivals.items 1 24 rest sent sent_tail →
    AreAhead Server server.arrivals.items 1 0 (bytes_of server) answered answered_tail →
    all ≡ merged sent answered →
    IsHttp2 client server (numbered 1 all) (record { client = length sent_tail; server = length answered_tail })
http2-is client server rest sent answered all sent_tail answered_tail begins client_flow server_flow first second
    all_are =
    let size : length (bytes_of client) ≡ 24 + length rest = ap length begins ∙ length-append preface rest in
    let sent_order = captured-in_order Client client.arrivals.items (length (bytes_of client)) client_flow.rises 24
    first.0 rest sent_tail first.1 (omega arith) in
    let answered_order = captured-in_order Server server.arrivals.items (length (bytes_of server)) server_flow.rises 0
    second.0 (bytes_of server) answered_tail second.1 (omega arith) in
    record {
      after_preface = rest;
      client_frames = first.0;
      client_tail = sent_tail;
      server_frames = second.0;
      server_tail = answered_tail;
      client_begins = begins;
      client_spells = first.1;
      server_spells = second.1;
      in_order = ap (numbered 1) (all_are ∙ ap₂ merged first.2 second.2)
          ∙ merged-capture_order _ _ sent_order answered_order;
      tails_are = refl;
    }

-- what stands behind the preface
pub behind_preface : (bytes rest : List ℕ) → BeginsWithPreface bytes rest
    → take (length bytes - 24) (drop 24 bytes) ≡ rest
behind_preface bytes rest begins =
    take_all (length bytes - 24) (drop 24 bytes) (omega (arith, length-drop 24 bytes))
    ∙ ap (drop 24) begins ∙ drop_at preface rest 24 refl
