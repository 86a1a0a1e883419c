use Rattle.std.proofs.Common.{IfSome, List, subst, sym}
use Rattle.audit_terms.specs.declared.frames.Frame.{Frame}
use Rattle.h2_frames.specs.Cut.{IsCut, IsHttp2}
use Rattle.h2_frames.specs.declared.cuts.Cut.TheVariants.{Http2}
use Rattle.h2audit.proofs.Flows.{found-in-time, held-found}
use Rattle.quiet_pass.specs.code.FoundConnections.{IsFoundOf}
use Rattle.h2audit.proofs.flow_round.outcome_at_once.Goals as goal

pub outcome_found-requires : goal.outcome_found-requires
outcome_found-requires c =
    let (flows, cut) = c.requires in
    let client = flows.client in
    let server = flows.server in
    let http2 : IsCut client server (Http2 c.in-Http2.frames c.in-Http2.tails) = rw c.in-Http2.is at cut.is in
    let is : IfSome c.in_ok-found.field-0 (IsFoundOf c.args.frames_shown client server) =
    c.in_ok-found.ensures.found client server http2.0
    (subst (λ (l : List Frame). IsHttp2 client server l c.in-Http2.tails) (sym c.as_slice.ensures.value) http2.1) in
    found-in-time c.args.frames_shown client server c.in-Some.found (rw c.in-Some.is at is)

pub returns : goal.returns
returns c = λ client server cut.
    let http2 : IsCut client server (Http2 c.in-Http2.frames c.in-Http2.tails) = rw c.in-Http2.is at cut in
    let is : IfSome c.in_ok-found.field-0 (IsFoundOf c.args.frames_shown client server) =
    c.in_ok-found.ensures.found client server http2.0
    (subst (λ (l : List Frame). IsHttp2 client server l c.in-Http2.tails) (sym c.as_slice.ensures.value) http2.1) in
    held-found c.args.frames_shown client server c.in-Some.found c.in_ok-outcome_found.field-0
    c.in_ok-outcome_found.ensures (rw c.in-Some.is at is)
