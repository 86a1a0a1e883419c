-- What settled rounds give, and what is merged of it.
use Rattle.audit_rounds.proofs.Words.{◌≡◌, ℕ, ◌+◌, ◌<◌, Bool, List, ◌++◌, map, length, get_or, All, Option, None, ap}
use Rattle.audit_rounds.proofs.Words.{◌∙◌, arith, Findings, findings_in, length-map, get_or-map, slice_get_within}
use Rattle.audit_rounds.proofs.Words.{get_or_from_slice_get, slice_get-get_or, All-map, Finding, in_order, upto_stop}
use Rattle.audit_rounds.proofs.Words.{shown, pass, connection_start, BlockFits, ConnSum, IsStop, IsLeast, StopsAt, Job}
use Rattle.audit_rounds.proofs.Words.{HasSettled, board_merges_lem, Part, Settled, part_of, ConnectionBlock, IsSum}
use Rattle.audit_rounds.proofs.Words.{AreSums, sum_job, block_job, whole_shown, shown_at, PerConnection}
use Rattle.audit_rounds.proofs.Words.{IsThroughStreams, rest_of, wholes, ReadyBlock, IsPlan}
use Rattle.audit_rounds.specs.code.Blocks.{AreBlocksOf}
use Rattle.audit_rounds.specs.code.Gathered.{AreGathered}
use Rattle.audit_rounds.specs.code.Plans.{BlocksHaveSettled}
use Rattle.audit_rounds.proofs.Lists.{maps-each, some_of, stop_in}
use Rattle.audit_rounds.proofs.Plans.{IsWalk, cut-walk, little-each, shown-at}
use Rattle.audit_rounds.proofs.Settling.{rest-fits, rest-settles}

-- what the findings of a connection are merged to
abbrev pub merged : Findings → List Finding
merged found = upto_stop (in_order (findings_in found))

-- ---- the parts of settled rounds

-- they hold the sum of each block
pub sums-settled : (blocks : List ConnectionBlock) (stops : List (Option ℕ)) (settled : Settled ConnSum)
    → HasSettled (λ (job : ℕ) (upto : Option ℕ) (made : ConnSum). (one : ConnectionBlock)
    → IsSum (get_or blocks job one).block made) (map sum_job blocks) stops settled
    → AreSums blocks (map (λ (part : Part ConnSum). part.made) settled.parts.items)
sums-settled blocks stops settled h =
    let parts = settled.parts.items in
    let made = λ (part : Part ConnSum). part.made in
    let number : length parts ≡ length blocks = h.count ∙ length-map blocks sum_job in
    record {
      number = length-map parts made ∙ number;
      each = λ n one sum l.
          let inside : n < length parts = omega arith in
          let d = some_of parts n inside in
          let own = h.in_order n (get_or parts n d) (slice_get-get_or parts n d inside) in
          rw (get_or-map made parts n d sum inside) (own.1 one);
    }

-- each is of one of the connections
pub parts-within : {M : Type 0} {makes : ℕ → Option ℕ → M → Type 0} (jobs : List Job) (stops : List (Option ℕ))
    (settled : Settled M) (bound : ℕ) → HasSettled makes jobs stops settled
    → All (λ (job : Job). job.connection < bound) jobs
    → All (λ (part : Part M). part.connection < bound) settled.parts.items
parts-within jobs stops settled bound h all k d l =
    let parts = settled.parts.items in
    let number = length-map parts part_of in
    let part = part_of (get_or parts k d) in
    let (job, at, is) = h.board.parts_of_jobs part (k, omega arith, get_or-map part_of parts k d part l) in
    rw (is.of_connection, ← get_or_from_slice_get jobs part.job job job at)
    (all part.job job (slice_get_within jobs part.job job at))

-- each job of a plan is of one of the connections
pub jobs-inside : (c : Bool) (connections bound : ℕ) (finds : ℕ → List Finding) (plan : List ReadyBlock)
    → connections ≡ bound → IsPlan c connections finds plan
    → All (λ (job : Job). job.connection < bound) (map (block_job c) plan)
jobs-inside c connections bound finds plan same planned =
    All-map (λ (job : Job). job.connection < bound) (block_job c) plan
    (λ n d l. let one = planned.within n d l in omega (arith, same, one))

-- ---- what is left of connections

module _ (c : Bool) (connections : List PerConnection) (through : All (IsThroughStreams c) connections) where
  each-fits : All (BlockFits connection_start) (wholes connections)
  each-fits = All-map (BlockFits connection_start) rest_of connections
      (λ n d l. rest-fits c (get_or connections n d) (through n d l))

  -- their blocks make what is shown of each, whole
  pub blocks-walk : (blocks : List ConnectionBlock) (sums : List ConnSum) → AreBlocksOf (wholes connections) blocks
      → AreSums blocks sums → IsWalk c 0 connection_start blocks (shown_at c 0 (wholes connections))
  blocks-walk blocks sums of are =
      cut-walk c (wholes connections) blocks of each-fits (little-each blocks sums are)

  pub each-place : All IsStop (map stop_in connections)
  each-place = All-map IsStop stop_in connections (λ n d l. (through n d l).place)

  -- and what is shown of each, when its blocks are gone through
  pub all-shown : (settled : Settled (Unit {0})) (all : List PerConnection) → BlocksHaveSettled c connections settled
      → AreGathered (map part_of settled.parts.items) connections all
      → map (λ (one : PerConnection). merged one.found) all
      ≡ map (λ (one : PerConnection). shown c (pass one.prepared.frames.now)) connections
  all-shown settled all h are = maps-each (λ (one : PerConnection). merged one.found)
      (λ (one : PerConnection). shown c (pass one.prepared.frames.now)) all connections are.number (λ n after one l.
      let own = through n one l in
      let before = findings_in (get_or connections n one).found in
      let least : IsLeast (StopsAt before) (get_or (map stop_in connections) n None) =
      rw (get_or-map stop_in connections n one None l) own.after.kept in
      let number : length (wholes connections) ≡ length connections = length-map connections rest_of in
      let at : n ≡ 0 + n = omega arith in
      ap (λ l. upto_stop (in_order l)) (are.each n one after l).found
      ∙ (board_merges_lem (record { jobs = map (block_job c) h.plan; opening_stops = map stop_in connections }) _
      h.done.board n before least).findings
      ∙ ap (λ l. upto_stop (in_order (before ++ l))) (h.planned.of_each n ∙ ap (shown_at c 0 (wholes connections)) at
      ∙ shown-at c 0 (wholes connections) n (rest_of one) (omega arith)
      ∙ ap (whole_shown c) (get_or-map rest_of connections n one (rest_of one) l))
      ∙ rest-settles c (get_or connections n one) own)
