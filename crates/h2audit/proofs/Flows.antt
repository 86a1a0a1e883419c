-- The jobs of the round over connections, and what their parts keep of flows.
use Rattle.std.proofs.Common.{◌≡◌, ℕ, suc, ◌<◌, ◌^◌, Bool, List, [], ◌∷◌, ◌++◌, length, slice_get}
use Rattle.std.proofs.Common.{All, Option, Some, None, Bor, map, refl, sym, subst, ap, ◌∙◌}
use Rattle.std.proofs.Common.{arith}
use Rattle.std.proofs.lemmas.List.{get_or-map, length-map}
use Rattle.std.proofs.lemmas.List.FromFn.{get_or-map-range_with_len, length-map-range_with_len}
use Rattle.std.proofs.lemmas.Option.{get_or_from_slice_get, slice_get_within}
use Rattle.std.proofs.lemmas.List.Elements.{All-cons, All-head, All-nil, All-tail}
use Rattle.report_pages.specs.code.Reach.{HasGapAtEnd}
use Rattle.report_pages.specs.code.Told.{HasOrderlyOutcome}
use Rattle.report_pages.specs.declared.told.Outcome.{Outcome}
use Rattle.report_pages.specs.declared.told.Outcome.TheVariants as outcome
use Rattle.report_pages.specs.declared.told.Told.{Told}
use Rattle.audit_terms.specs.code.runs.Orderly as runs
use Rattle.audit_terms.specs.declared.frames.Frame.{Frame}
use Rattle.audit_terms.specs.declared.sides.Sides.{Sides}
use Rattle.h2_frames.specs.Cut as h2
use Rattle.h2_frames.specs.code.Orderly.{HasOrderlyFrames}
use Rattle.h2_frames.specs.declared.cuts.Cut.{Cut}
use Rattle.h2_frames.specs.declared.cuts.Cut.TheVariants.{Http2, NotHttp2, NoPreface, NoHandshake}
use Rattle.tcp_streams.specs.{Flow.IsFlowFrom}
use Rattle.h2audit.specs.code.Flows.{AreMadeOf, AreToldFlows, FlowView, IsHeldBy, IsMadeOf, KeepsCut, KeepsFound}
use Rattle.h2audit.specs.code.Flows.{IsToldOfFlows, flow_job, flow_jobs}
use Rattle.h2audit.specs.code.Listed.{HoldsFlows}
use Rattle.h2audit.specs.declared.listed_connections.HeldFlows.{HeldFlows}
use Rattle.quiet_pass.specs.code.FoundConnections.{IsFoundOf}
use Rattle.quiet_pass.specs.declared.found_connections.FoundConnection.{FoundConnection}
use Rattle.h2audit.specs.code.KeptFrames.{frames_of, kept_frames}
use Rattle.h2audit.proofs.TimedFindings.{all-in-time, alone}
use Rattle.audit_terms.specs.code.TimedFindings.{finding_in}
use Rattle.audit_terms.specs.declared.timed_findings.TimedFinding.{TimedFinding}
use Rattle.audit_terms.specs.{Finding.shown, Pass.pass}
use Rattle.stop_desk.specs.code.Board.{Job, IsCut}
use Rattle.stop_desk.specs.declared.parts.Part.{Part}
use Rattle.packet_heads.specs.declared.packets.Packet.{Packet}
use Rattle.packet_heads.specs.declared.packets.Segment.{Segment}
use Rattle.tcp_streams.specs.Bytes.{bytes_of}
use Rattle.tcp_streams.specs.Flow.{IsGap}
use Rattle.tcp_streams.specs.Sequence.{Source, source}
use Rattle.tcp_streams.specs.declared.members.Connection.{Connection}
use Rattle.tcp_streams.specs.declared.flows.Flow.{Flow}

pub flow_jobs-length : (held : List HeldFlows) → length (flow_jobs held) ≡ length held
flow_jobs-length held = length-map-range_with_len flow_job 0 (length held)

pub flow_jobs-at : (held : List HeldFlows) (n : ℕ) (one : Job) → slice_get (flow_jobs held) n ≡ Some one
    → one ≡ flow_job n
flow_jobs-at held n one is =
    let within = slice_get_within (flow_jobs held) n one is in
    sym (get_or_from_slice_get (flow_jobs held) n one one is)
    ∙ get_or-map-range_with_len flow_job 0 (length held) n n one (omega (arith, within, flow_jobs-length held))
    (omega arith)

pub flow_jobs-within : (held : List HeldFlows)
    → All (λ (job : Job). job.connection < length held) (flow_jobs held)
flow_jobs-within held = λ k d within.
    let low : k < length held = omega (arith, within, flow_jobs-length held) in
    subst (λ (job : Job). job.connection < length held)
    (sym (get_or-map-range_with_len flow_job 0 (length held) k k d low (omega arith))) low

-- the connection of a job
pub job-within : (inside view : FlowView) (job : ℕ) → inside ≡ view → job < length (flow_jobs view.held)
    → job < length inside.held
job-within inside view job is within =
    omega (arith, within, flow_jobs-length view.held, ap (λ (v : FlowView). length v.held) is)

pub nothing-cut : IsCut [] None []
nothing-cut = record {
  ordered = refl;
  left_out = [];
  together = refl;
  past = λ found among. let below = among.1 in absurd (omega arith);
}

pub are-made : (credits : Bool) (held : List HeldFlows) (parts : List (Part (Option Outcome)))
    → length parts ≡ length held
    → ((n : ℕ) (part : Part (Option Outcome)) (one : HeldFlows) → slice_get parts n ≡ Some part
    → slice_get held n ≡ Some one → IsMadeOf credits one part.made) → AreMadeOf credits held parts
are-made credits [] [] same each = tt
are-made credits [] (p ∷ parts) same each = absurd (omega arith)
are-made credits (h ∷ held) [] same each = absurd (omega arith)
are-made credits (h ∷ held) (p ∷ parts) same each =
    (each 0 p h refl refl, are-made credits held parts (omega arith) (λ n. each (suc n)))

pub held-orderly : (credits : Bool) (client server : Flow) (o : Outcome) → IsHeldBy credits client server o
    → HasOrderlyOutcome o
held-orderly credits client server (outcome.Audited audited) held = held.2
held-orderly credits client server _ held = tt

module _ (credits : Bool) (capture : List ℕ) (packets : List Packet) where
  pub told-orderly : (opened : List Connection) (told : List Told)
      → AreToldFlows credits capture packets opened told → All (λ (one : Told). HasOrderlyOutcome one.outcome) told
  told-orderly [] [] are = All-nil (λ (one : Told). HasOrderlyOutcome one.outcome)
  told-orderly [] (one ∷ told) are = absurd are
  told-orderly (c ∷ opened) [] are = absurd are
  told-orderly (c ∷ opened) (one ∷ told) are =
      All-cons (λ (one : Told). HasOrderlyOutcome one.outcome) one told
      (held-orderly credits are.0.flows.client are.0.flows.server one.outcome are.0.told.held)
      (told-orderly opened told are.1)

-- what is kept of a cut is held by the flows that it is the cut of
held-in : (credits : Bool) (client server : Flow) (o : Outcome) (cut : Cut) → KeepsCut o cut
    → h2.IsCut client server cut → HasOrderlyFrames cut → IsHeldBy credits client server o
held-in credits client server (outcome.Audited audited) (Http2 frames tails) keeps is orderly = (
  is.0,
  subst (λ l. h2.IsHttp2 client server l audited.value.tails) (sym keeps.0)
      (subst (λ (t : Sides ℕ). h2.IsHttp2 client server frames.items t) (sym keeps.1) is.1),
  subst (λ l. runs.IsOrderly l) (sym keeps.0) orderly,
)
held-in credits client server outcome.NotHttp2 NotHttp2 keeps is orderly = is
held-in credits client server outcome.NoPreface NoPreface keeps is orderly = is
held-in credits client server outcome.NoHandshake NoHandshake keeps is orderly = is
held-in credits client server _ _ keeps is orderly = absurd keeps

-- what is told at once of flows, or what their cut keeps, is told of them
module _ (credits : Bool) (held : HeldFlows) (o : Outcome) (client server : Flow) where
  pub told-at-once : (made : Option Outcome) → IsMadeOf credits held made → made ≡ Some o
      → HoldsFlows client server held
      → IsToldOfFlows credits client server (record { reach = held.reach; outcome = o })
  told-at-once made is same holds =
      let at_once : IsMadeOf credits held (Some o) = subst (IsMadeOf credits held) same is in
      record {
        extents = holds.extents;
        held = at_once client server holds.cut.is;
      }

  pub told-kept : KeepsCut o held.cut → HoldsFlows client server held
      → IsToldOfFlows credits client server (record { reach = held.reach; outcome = o })
  told-kept keeps holds = record {
    extents = holds.extents;
    held = held-in credits client server o held.cut keeps holds.cut.is holds.cut.orderly;
  }

-- so is what is kept of what was found in them
pub held-found : (credits : Bool) (client server : Flow) (found : FoundConnection) (o : Outcome) → KeepsFound o found
    → IsFoundOf credits client server found → IsHeldBy credits client server o
held-found credits client server found (outcome.Quiet quiet) keeps is = record {
  frames = is.frames;
  started = is.started;
  http2 = subst (λ (t : Sides ℕ). h2.IsHttp2 client server is.frames t) (sym keeps.1) is.http2;
  orderly = is.orderly;
  count = keeps.0 ∙ is.count;
  silent = sym (alone is.frames (shown credits (pass is.frames)))
      ∙ ap (map finding_in) (sym is.findings ∙ keeps.2);
}
held-found credits client server found (outcome.Found made) keeps is =
    record { found = found; of_flows = is; kept = keeps }
held-found credits client server found _ keeps is = absurd keeps

-- times of what is found in flows are in range
pub found-in-time : (credits : Bool) (client server : Flow) (found : FoundConnection)
    → IsFoundOf credits client server found → All (λ (one : TimedFinding). one.nanos < 2 ^ 63) found.findings.items
found-in-time credits client server found is =
    subst (All (λ (one : TimedFinding). one.nanos < 2 ^ 63)) (sym is.findings)
    (all-in-time is.frames is.orderly (shown credits (pass is.frames)))

gap-from : (sources : ℕ → Option Source) (n : ℕ) (gap : Option ℕ) → IsGap sources n gap
    → (offset : ℕ) → gap ≡ Some offset → offset ≡ n
gap-from sources n None is offset at = cc
gap-from sources n (Some g) is offset at = let same : g ≡ offset = cc in sym same ∙ is.0

-- the flow of a side has its gap at its end
pub gap-at-end : (initial : Option ℕ) (capture : List ℕ) (segments : List Segment) (flow : Flow)
    → IsFlowFrom initial capture segments flow → HasGapAtEnd flow
gap-at-end (Some isn) capture segments flow is =
    gap-from (source isn segments) (length (bytes_of flow)) flow.gap is.1.gap_is
gap-at-end None capture segments flow is = λ offset at. let none : None ≡ Some offset = sym is.3 ∙ at in absurd cc

kept-first : (o : Outcome) (rest : List (List Frame)) → HasOrderlyOutcome o → All runs.IsOrderly rest
    → All runs.IsOrderly (frames_of o ++ rest)
kept-first (outcome.Audited audited) rest orderly all =
    All-cons runs.IsOrderly audited.value.frames.items rest orderly all
kept-first _ rest orderly all = all

pub kept-orderly : (told : List Told) → All (λ (one : Told). HasOrderlyOutcome one.outcome) told
    → All runs.IsOrderly (kept_frames told)
kept-orderly [] all = All-nil runs.IsOrderly
kept-orderly (one ∷ told) all =
    let whole = λ (one : Told). HasOrderlyOutcome one.outcome in
    kept-first one.outcome (kept_frames told) (All-head whole one told all)
    (kept-orderly told (All-tail whole one told all))

-- a fact of what each of some references stands for
pub All-lent : (lent : List (Bor (List Frame))) → All runs.IsOrderly (map (λ frames. frames.now) lent)
    → All (λ frames. runs.IsOrderly frames.now) lent
All-lent lent all = λ k d within.
    let now = λ (frames : Bor (List Frame)). frames.now in
    subst runs.IsOrderly (get_or-map now lent k d d.now within)
    (all k d.now (omega (arith, within, length-map lent now)))
