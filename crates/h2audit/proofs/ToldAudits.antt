-- The audits for which what is told of connections stands.
use Rattle.audit_report.specs.FlowLine.{extents_of}
use Rattle.audit_report.specs.declared.audited.Audited.{Audited as Audit}
use Rattle.audit_terms.proofs.OrderlyFrames.{length-orderly}
use Rattle.audit_terms.specs.{Finding.shown, Kind.is_fault, Pass.pass}
use Rattle.audit_terms.specs.declared.{findings.Finding.Finding}
use Rattle.audit_terms.specs.declared.sides.{Side.TheVariants.Client, Side.TheVariants.Server, Sides.Sides}
use Rattle.h2_frames.specs.{Cut.IsCut, declared.cuts.Cut.Cut}
use Rattle.h2audit.proofs.TimedFindings.{faults-timed}
use Rattle.h2audit.specs.Audited.{IsAudited, IsFlowOf, findings_of, has_fault}
use Rattle.h2audit.specs.code.Flows.{AreToldAudits, AreToldFlows, IsHeldBy}
use Rattle.h2audit.specs.code.KeptFrames.{AreFound, AreToldWith, IsOutcomeWith, IsToldWith, frames_of, kept_frames}
use Rattle.h2audit.specs.code.KeptFrames.{left_after, shown_in_kept}
use Rattle.split_merge.specs.{code.Findings.findings_in, declared.findings.Findings.Findings}
use Rattle.report_pages.specs.declared.told.AuditedFrames.{AuditedFrames}
use Rattle.audit_report.specs.Stalls.{stalls, timed_stalls}
use Rattle.audit_terms.specs.{code.runs.Orderly.IsOrderly, declared.frames.Frame.Frame}
use Rattle.h2audit.specs.code.Verdict.{has_fault_in}
use Rattle.report_pages.specs.code.Reach.{extents_in}
use Rattle.report_pages.specs.code.Told.{AreToldOf, HasOrderlyOutcome, IsOutcomeOf, IsToldOf}
use Rattle.report_pages.specs.declared.{reach.Reach.Reach, told.Outcome.Outcome, told.Told.Told}
use Rattle.report_pages.specs.declared.told.Outcome.TheVariants.{Audited, Found, NoHandshake, NoPreface, NotHttp2}
use Rattle.report_pages.specs.declared.told.Outcome.TheVariants.{Quiet}
use Rattle.packet_heads.specs.declared.packets.Packet.{Packet}
use Rattle.audit_terms.specs.Timed.{timed}
use Rattle.audit_terms.specs.declared.timed_findings.TimedFinding.{TimedFinding}
use Rattle.std.specs.List.{flat_map}
use Rattle.std.proofs.Common.{true, false, Bool, Box, Global, List, Vec, [], ap, arith, length, map, refl, subst, sym}
use Rattle.std.proofs.Common.{ℕ, ◌++◌, ◌<◌}
use Rattle.std.proofs.{Common.◌^◌, Common.◌||◌, Common.◌∙◌, Common.◌∷◌, Common.◌≡◌}
use Rattle.std.proofs.lemmas.List.{length-map, map-append}
use Rattle.std.proofs.{Common.All, lemmas.List.Elements.All-cons, lemmas.List.Elements.All-head}
use Rattle.std.{proofs.lemmas.List.Elements.All-nil, proofs.lemmas.List.Elements.All-tail, specs.List.list_any}
use Rattle.tcp_streams.specs.declared.{members.Connection.Connection, flows.Flow.Flow}
use Rattle.h2_frames.specs.declared.cuts.Cut.TheVariants as cut

-- a list in memory of these items, in the place of another one
abbrev pub list-of : {X Y : Type 0} → Vec X Global → (items : List Y) → length items < 2 ^ 63 → Vec Y Global
list-of place items few = record {
  ptr = place.ptr;
  len = length items;
  cap = length items;
  alloc = place.alloc;
  items = items;
  ok = (refl, omega arith);
  small = few;
}

-- what one connection adds: its audit, and the findings that are left for those after it
pub record Step
    (credits : Bool) (capture : List ℕ) (packets : List Packet) (connection : Connection) (made one : Told)
    (found : List Findings) (rest : List (List Finding))
    : Type 0 where
  pub audited : Audit
  pub audits : IsAudited credits capture packets connection audited
  pub stands : IsToldOf one audited
  pub orderly : HasOrderlyOutcome one.outcome
  pub left : map findings_in (left_after made.outcome found) ≡ rest

module _ (credits : Bool) (capture : List ℕ) (packets : List Packet) (c : Connection) (flows : Sides Flow)
    (client : IsFlowOf capture packets c Client flows.client) (server : IsFlowOf capture packets c Server flows.server)
    (reach : Sides Reach) (reaches : extents_in reach ≡ extents_of flows.client flows.server)
    (rest : List (List Finding)) where
  -- a connection of which not all frames are kept
  unkept : (o : Outcome) (held : Cut) (findings : Vec Finding Global) → IsCut flows.client flows.server held
      → findings.items ≡ findings_of credits held
      → (found : List Findings) → map findings_in found ≡ rest → left_after o found ≡ found
      → (one : Told) → one.reach ≡ reach → one.outcome ≡ o → IsOutcomeOf o held findings.items → HasOrderlyOutcome o
      → Step credits capture packets c (record { reach = reach; outcome = o }) one found rest
  unkept o held findings is all found same left one reached here stands orderly = record {
    audited = record { extents = extents_of flows.client flows.server; cut = held; findings = findings };
    audits = record {
      flows = flows;
      client = client;
      server = server;
      extents = refl;
      cut = is;
      findings = all;
    };
    stands = record {
      extents = ap extents_in reached ∙ reaches;
      outcome = subst (λ o. IsOutcomeOf o held findings.items) (sym here) stands;
    };
    orderly = subst HasOrderlyOutcome (sym here) orderly;
    left = ap (map findings_in) left ∙ same;
  }

  -- a connection with all its frames
  kept : (made told : Box AuditedFrames Global) → IsHeldBy credits flows.client flows.server (Audited made)
      → (findings : Findings) (found : List Findings)
      → findings_in findings ∷ map findings_in found ≡ shown credits (pass made.value.frames.items) ∷ rest
      → (one : Told) → one.reach ≡ reach → one.outcome ≡ Audited told
      → IsOutcomeWith (Audited made) (findings ∷ found) (Audited told)
      → Step credits capture packets c (record { reach = reach; outcome = Audited made }) one (findings ∷ found) rest
  kept made told held findings found same one reached here is =
      let put : findings_in told.value.findings ≡ findings_in findings = is.2 in
      let all = list-of told.value.frames (findings_in told.value.findings) is.4 in
      let frames : told.value.frames ≡ made.value.frames = is.0 in
      let stands : IsOutcomeOf (Audited told) (cut.Http2 made.value.frames made.value.tails) all.items =
      (ap (λ f. f.items) frames, is.1, refl, is.3 ∙ ap (stalls made.value.frames.items) (sym put)) in
      let found_all : findings_in findings ≡ shown credits (pass made.value.frames.items) = cc in
      record {
        audited = record {
          extents = extents_of flows.client flows.server;
          cut = cut.Http2 made.value.frames made.value.tails;
          findings = all;
        };
        audits = record {
          flows = flows;
          client = client;
          server = server;
          extents = refl;
          cut = (held.0, held.1);
          findings = put ∙ found_all;
        };
        stands = record {
          extents = ap extents_in reached ∙ reaches;
          outcome = subst (λ o. IsOutcomeOf o (cut.Http2 made.value.frames made.value.tails) all.items) (sym here)
              stands;
        };
        orderly = subst HasOrderlyOutcome (sym here)
            (subst (λ (f : Vec Frame Global). IsOrderly f.items) (sym frames) held.2);
        left = cc;
      }

  pub step-of : (o : Outcome) → IsHeldBy credits flows.client flows.server o → (found : List Findings)
      → map findings_in found ≡ map (λ frames. shown credits (pass frames)) (frames_of o) ++ rest
      → (one : Told) → one.reach ≡ reach → (made : Outcome) → one.outcome ≡ made → IsOutcomeWith o found made
      → Step credits capture packets c (record { reach = reach; outcome = o }) one found rest
  step-of (Quiet quiet) held found same one reached made here with_them =
      let is = held in
      let fit = length-orderly 0 is.frames (omega arith) is.orderly in
      let frames = list-of c.members is.frames (omega arith) in
      unkept (Quiet quiet) (cut.Http2 frames quiet.tails) (list-of c.members [] (omega arith)) (is.started, is.http2)
      (sym is.silent) found same refl one reached (here ∙ with_them)
      (is.count, refl, refl) tt
  step-of (Found told) held found same one reached made here with_them =
      let is = held.of_flows in
      let kept = held.kept in
      let findings = shown credits (pass is.frames) in
      let fit = length-orderly 0 is.frames (omega arith) is.orderly in
      let frames = list-of c.members is.frames (omega arith) in
      let timed_are : told.value.findings.items ≡ map (timed is.frames) findings =
      ap (λ (l : Vec TimedFinding Global). l.items) kept.findings ∙ is.findings in
      let all = list-of told.value.findings findings
      (omega (arith, told.value.findings.small, ap length timed_are, length-map findings (timed is.frames))) in
      unkept (Found told) (cut.Http2 frames held.found.tails) all (is.started, is.http2)
      (refl {A = List Finding}) found same refl one reached (here ∙ with_them)
      (kept.count ∙ is.count, kept.tails, timed_are, kept.stalls_are ∙ ap timed_stalls is.findings) tt
  step-of (Audited audited) held [] same one reached made here with_them = absurd cc
  step-of (Audited audited) held (findings ∷ found) same one reached (Audited told) here with_them =
      kept audited told held findings found same one reached here with_them
  step-of (Audited audited) held (findings ∷ found) same one reached _ here with_them = absurd with_them
  step-of NotHttp2 held found same one reached made here with_them =
      unkept NotHttp2 cut.NotHttp2 (list-of c.members [] (omega arith)) held refl found same refl one reached
      (here ∙ with_them) refl tt
  step-of NoPreface held found same one reached made here with_them =
      unkept NoPreface cut.NoPreface (list-of c.members [] (omega arith)) held refl found same refl one reached
      (here ∙ with_them) refl tt
  step-of NoHandshake held found same one reached made here with_them =
      unkept NoHandshake cut.NoHandshake (list-of c.members [] (omega arith)) held refl found same refl one reached
      (here ∙ with_them) refl tt

module _ (credits : Bool) (capture : List ℕ) (packets : List Packet) where
  pub told-audits : (opened : List Connection) (made : List Told) (found : List Findings) (told : List Told)
      → AreToldFlows credits capture packets opened made → map findings_in found ≡ shown_in_kept credits made
      → AreToldWith made found told → AreToldAudits credits capture packets opened told
  told-audits [] [] found told are same put = subst (AreToldAudits credits capture packets []) (sym put) (record {
    audited = [];
    audits = tt;
    stands = tt;
    orderly = All-nil (λ (one : Told). HasOrderlyOutcome one.outcome);
  })
  told-audits [] (m ∷ made) found told are same put = absurd are
  told-audits (c ∷ opened) [] found told are same put = absurd are
  told-audits (c ∷ opened) (m ∷ made) found [] are same put = absurd put
  told-audits (c ∷ opened) (m ∷ made) found (one ∷ told) are same put =
      let flows = are.0.flows in
      let step = step-of credits capture packets c flows are.0.client are.0.server m.reach
      are.0.told.extents (shown_in_kept credits made) m.outcome are.0.told.held found
      (same ∙ map-append (λ frames. shown credits (pass frames)) (frames_of m.outcome) (kept_frames made))
      one put.0.reach one.outcome refl put.0.outcome in
      let rest = told-audits opened made (left_after m.outcome found) told are.1 step.left put.1 in
      record {
        audited = step.audited ∷ rest.audited;
        audits = (step.audits, rest.audits);
        stands = (step.stands, rest.stands);
        orderly = All-cons (λ (one : Told). HasOrderlyOutcome one.outcome) one told step.orderly rest.orderly;
      }

  pub found-audits : (opened : List Connection) (made told : List Told)
      → AreToldFlows credits capture packets opened made → AreFound credits made told
      → AreToldAudits credits capture packets opened told
  found-audits opened made told are found = told-audits opened made found.found told are found.are found.put

-- what is told is the outcome that it has, where no frame is left to be audited
with-none : (o : Outcome) → frames_of o ≡ [] → IsOutcomeWith o [] o
with-none (Audited audited) none = absurd cc
with-none _ none = refl

none-left : (o : Outcome) → left_after o [] ≡ []
none-left (Audited audited) = refl
none-left _ = refl

abbrev IsWhole : Told → Type 0
IsWhole told = frames_of told.outcome ≡ []

none-kept : (told : List Told) → All IsWhole told → kept_frames told ≡ []
none-kept [] all = refl
none-kept (one ∷ told) all =
    rw (All-head IsWhole one told all) (none-kept told (All-tail IsWhole one told all))

all-with-none : (told : List Told) → All IsWhole told → AreToldWith told [] told
all-with-none [] all = refl
all-with-none (one ∷ told) all = (
  record { reach = refl; outcome = with-none one.outcome (All-head IsWhole one told all) },
  rw (none-left one.outcome) (all-with-none told (All-tail IsWhole one told all)),
)

-- so nothing is found in frames that are kept, where none are
pub whole-found : (credits : Bool) (told : List Told) → All IsWhole told → AreFound credits told told
whole-found credits told all = record {
  found = [];
  are = sym (ap (map (λ frames. shown credits (pass frames))) (none-kept told all));
  put = all-with-none told all;
}

abbrev IsOrderlyTold : Told → Type 0
IsOrderlyTold told = HasOrderlyOutcome told.outcome

-- what is told with findings has the frames that it had before
pub with-orderly : (made : Outcome) (found : List Findings) (outcome : Outcome) → HasOrderlyOutcome made
    → IsOutcomeWith made found outcome → HasOrderlyOutcome outcome
with-orderly (Audited made) found (Audited told) orderly is =
    subst (λ (f : Vec Frame Global). IsOrderly f.items) (sym is.0) orderly
with-orderly (Audited made) found _ orderly is = absurd is
with-orderly made found outcome orderly is = subst HasOrderlyOutcome (sym is) orderly

-- as much is told of all as was before, and their frames are orderly
pub all-fit : (made : List Told) (found : List Findings) (told : List Told) → All IsOrderlyTold made
    → AreToldWith made found told → (length told ≡ length made) × All IsOrderlyTold told
all-fit [] found told all put = subst (λ (l : List Told). (length l ≡ 0) × All IsOrderlyTold l) (sym put)
    (refl, All-nil IsOrderlyTold)
all-fit (m ∷ made) found [] all put = absurd put
all-fit (m ∷ made) found (one ∷ told) all put =
    let rest = all-fit made (left_after m.outcome found) told (All-tail IsOrderlyTold m made all) put.1 in (
      omega (arith, rest.0),
      All-cons IsOrderlyTold one told (with-orderly m.outcome found one.outcome
          (All-head IsOrderlyTold m made all) put.0.outcome) rest.1,
    )

-- a list of no length
pub nothing : {X : Type 0} (xs : List X) → length xs ≡ 0 → xs ≡ []
nothing [] none = refl
nothing (x ∷ xs) none = absurd (omega arith)

-- what is told of one more
pub with-more : (first : Told) (made : List Told) (found : List Findings) (one : Told) (told : List Told)
    → IsToldWith first found one → AreToldWith made (left_after first.outcome found) told
    → AreToldWith (first ∷ made) found (one ∷ told)
with-more first made found one told with_them rest = (with_them, rest)

any-append : (f : Finding → Bool) (xs ys : List Finding) → list_any f xs || list_any f ys ≡ list_any f (xs ++ ys)
any-append f [] ys = refl
any-append f (x ∷ xs) ys = either (f x) (any-append f xs ys) where
  either : (b : Bool) → list_any f xs || list_any f ys ≡ list_any f (xs ++ ys)
      → (b || list_any f xs) || list_any f ys ≡ b || list_any f (xs ++ ys)
  either true rest = refl
  either false rest = rest

-- some finding in one of the lists
pub any-of-all : (f : Finding → Bool) (lists : List (Vec Finding Global))
    → list_any (λ (list : Vec Finding Global). list_any f list.items) lists
    ≡ list_any f (flat_map (λ (list : Vec Finding Global). list.items) lists)
any-of-all f [] = refl
any-of-all f (list ∷ lists) =
    ap (λ b. list_any f list.items || b) (any-of-all f lists)
    ∙ any-append f list.items (flat_map (λ (list : Vec Finding Global). list.items) lists)

-- a fault is in what is told exactly where it is in the findings
fault-same : (o : Outcome) (held : Cut) (findings : List Finding) → IsOutcomeOf o held findings
    → has_fault_in o ≡ list_any (λ (finding : Finding). is_fault finding.kind) findings
fault-same (Quiet quiet) (cut.Http2 frames tails) findings h = rw h.2 refl
fault-same (Found found) (cut.Http2 frames tails) findings h = rw h.2 (faults-timed frames.items findings)
fault-same (Audited audited) (cut.Http2 frames tails) findings h = rw h.2 refl
fault-same NotHttp2 cut.NotHttp2 findings h = rw h refl
fault-same NoPreface cut.NoPreface findings h = rw h refl
fault-same NoHandshake cut.NoHandshake findings h = rw h refl
fault-same _ _ findings h = absurd h

pub faults-same : (told : List Told) (audited : List Audit) → AreToldOf told audited
    → list_any (λ (one : Told). has_fault_in one.outcome) told ≡ list_any has_fault audited
faults-same [] [] h = refl
faults-same [] (a ∷ audited) h = absurd h
faults-same (t ∷ told) [] h = absurd h
faults-same (t ∷ told) (a ∷ audited) h =
    ap (λ b. b || list_any (λ (one : Told). has_fault_in one.outcome) told)
    (fault-same t.outcome a.cut a.findings.items h.0.outcome)
    ∙ ap (λ b. has_fault a || b) (faults-same told audited h.1)
