-- Blocks of connections' frames, and what the jobs of a plan find.
use Rattle.audit_rounds.proofs.Words.{◌≡◌, ℕ, zero, suc, ◌+◌, ◌<◌, ◌≤◌, List, [], ◌∷◌, ◌++◌, append_assoc, append-nil}
use Rattle.audit_rounds.proofs.Words.{map, take, drop, length, get_or, All, refl, sym, ap, ◌∙◌, arith, length-map}
use Rattle.audit_rounds.proofs.Words.{length-take-le, take-append-drop, map-append, All-append, AllByRecursion, Frame}
use Rattle.audit_rounds.proofs.Words.{Item, IsOrderly, IsOrderlyFrom, items_in_blocks, Block, item_with, items_in}
use Rattle.audit_rounds.proofs.Words.{IsBlock, length-orderly, ConnSum, ConnectionBlock, IsShort, AreSums}
use Rattle.audit_rounds.proofs.Words.{blocks_of_connection, PerConnection, rest_of, wholes, AddsBlocks, ◌==◌, Bool}
use Rattle.audit_rounds.proofs.Words.{if◌then◌else◌, All-head, All-tail, flat_map-append, ne_eqb, ConnectionState}
use Rattle.audit_rounds.proofs.Words.{Finding, connection_start, connection_after_all, block_run, shown, Job, BlockFits}
use Rattle.audit_rounds.proofs.Words.{IsSum, findings_of_jobs, ReadyBlock, block_job, where_of, whole_shown, shown_at}
use Rattle.audit_rounds.proofs.Words.{IsPlan, shown-append, drop-at, length-append}
use Rattle.std.proofs.lemmas.List.{map_more}
use Rattle.std.proofs.lemmas.Bool.{eq-eqb}
use Rattle.conn_scan.specs.code.Block.{MovesLittle, ItemsFit}
use Rattle.conn_scan.specs.code.Walk.{numbers_not_below, changes_not_below}
use Rattle.conn_scan.proofs.WalkLemmas.{numbers_not_below-rise, changes_not_below-orderly, items_with-from}
use Rattle.conn_scan.specs.code.ConnSum.{conn_advance}
use Rattle.conn_scan.specs.code.ConnSumLaws.{advance-sum}
use Rattle.conn_scan.specs.code.FitLaws.{first_fit, rest_fit}
use Rattle.audit_terms.proofs.FindingLists.{each-append}
use Rattle.audit_rounds.specs.code.Blocks.{AreBlocksOf, laid_out, AreFit, IsReady, after_of, before_of}
use Rattle.audit_rounds.specs.code.Plans.{AreReady, shown_from}
use Rattle.audit_rounds.proofs.Lists.{some_of}
use Rattle.audit_core.proofs.PartsLemmas.{block_run-append}
use Rattle.audit_terms.proofs.OrderlyFrames.{orderly-drop, orderly-take}

-- ---- one block more

-- a block of some frames of another, with the numbers and the changes from a frame on
pub record IsPart (whole : Block) (first : Frame) (own : List Frame) (part : Block) : Type 0 where
  pub opened : part.opened.now ≡ numbers_not_below first.number whole.opened.now
  pub changes : part.changes.now ≡ changes_not_below first.number whole.changes.now
  pub frames : part.frames.now ≡ own

module _ (whole : Block) (first : Frame) (later : List Frame) (h : IsBlock whole)
    (is : whole.frames.now ≡ first ∷ later) where
  part-is : (frames : List Frame) (part : Block) → IsPart whole first frames part → IsOrderly frames → IsBlock part
  part-is frames part p orderly = record {
    frames = rw p.frames orderly;
    opened = rw p.opened (numbers_not_below-rise 0 0 first.number whole.opened.now (omega arith) h.opened);
    changes = rw p.changes (changes_not_below-orderly 0 0 first.number whole.changes.now (omega arith) h.changes);
  }

  -- a block of the first frames, and one of the others
  pub block-cut : (n : ℕ) (front back : Block) → IsPart whole first (take n whole.frames.now) front
      → IsPart whole first (drop n whole.frames.now) back
      → IsShort front × IsBlock back × (items_in front ++ items_in back ≡ items_in whole)
  block-cut n front back f b =
      let frames = whole.frames.now in
      let item = item_with (numbers_not_below first.number whole.opened.now)
      (changes_not_below first.number whole.changes.now) in
      let block = part-is _ front f (orderly-take 0 n frames h.frames) in
      let few = length-orderly 0 front.frames.now (omega arith) block.frames in
      let all = rw is at h.frames in
      let orderly : IsOrderlyFrom first.number frames = rw is (omega arith, all.1, all.2) in (
        record { is_block = block; number = omega arith },
        part-is _ back b (orderly-drop 0 n frames h.frames),
        rw (f.opened, f.changes, f.frames, b.opened, b.changes, b.frames) (
            sym (map-append item (take n frames) (drop n frames)) ∙ ap (map item) (take-append-drop n frames)
            ∙ sym (items_with-from first.number first.number whole.opened.now whole.changes.now frames (omega arith)
            orderly)),
      )

-- the items of one block more
pub items-push : (blocks : List Block) (block : Block)
    → items_in_blocks (map items_in (blocks ++ block ∷ [])) ≡ items_in_blocks (map items_in blocks) ++ items_in block
items-push [] block = append-nil (items_in block)
items-push (b ∷ blocks) block = rw (items-push blocks block, append_assoc) refl

-- ---- one connection more

laid-push : (connection : ℕ) (cuts : List (List Block)) (cut : List Block)
    → laid_out connection (cuts ++ cut ∷ [])
    ≡ laid_out connection cuts ++ blocks_of_connection (connection + length cuts) cut
laid-push connection [] cut =
    let e : connection + 0 ≡ connection = omega arith in rw (e, append-nil) refl
laid-push connection (blocks ∷ cuts) cut =
    let e : (connection + 1) + length cuts ≡ connection + length (blocks ∷ cuts) = omega arith in
    rw (laid-push (connection + 1) cuts cut, e, append_assoc) refl

pub cut-next : (all : List PerConnection) (at : ℕ) (one : PerConnection) (whole : Block)
    (blocks new : List ConnectionBlock) → at < length all → one ≡ get_or all at one → items_in whole ≡ rest_of one
    → AreBlocksOf (wholes (take at all)) blocks → AddsBlocks at whole blocks new
    → AreBlocksOf (wholes (take (at + 1) all)) new
cut-next all at one whole blocks new l is same h adds =
    let joined = λ (cut : List Block). items_in_blocks (map items_in cut) in
    let cuts = sym (length-map h.cuts joined) ∙ sym (ap length h.items) ∙ length-map (take at all) rest_of in
    let front = length-take-le at all (omega arith) in
    let number : 0 + length h.cuts ≡ at = omega (arith, cuts, front) in
    record {
      cuts = h.cuts ++ adds.cut ∷ [];
      laid = adds.added ∙ ap (λ l. l ++ blocks_of_connection at adds.cut) h.laid
          ∙ ap (λ k. laid_out 0 h.cuts ++ blocks_of_connection k adds.cut) (sym number)
          ∙ sym (laid-push 0 h.cuts adds.cut);
      items = map_more rest_of all at one l ∙ ap (λ one. wholes (take at all) ++ rest_of one ∷ []) (sym is)
          ∙ ap (λ l. l ++ rest_of one ∷ []) h.items
          ∙ ap (λ l. map joined h.cuts ++ l ∷ []) (sym (adds.items ∙ same))
          ∙ sym (map-append joined h.cuts (adds.cut ∷ []));
    }

-- ---- what is known of each block

own-blocks : (P : ConnectionBlock → Type 0) (connection : ℕ) (cut : List Block)
    → ((block : Block) → P (record { connection = connection; block = block }))
    → All P (blocks_of_connection connection cut)
own-blocks P connection [] h n d l = absurd (omega arith)
own-blocks P connection (block ∷ cut) h zero d l = h block
own-blocks P connection (block ∷ cut) h (suc n) d l = own-blocks P connection cut h n d (omega arith)

laid-within : (connection bound : ℕ) (cuts : List (List Block)) → connection + length cuts ≤ bound
    → All (λ (one : ConnectionBlock). one.connection < bound) (laid_out connection cuts)
laid-within connection bound [] l n d within = absurd (omega arith)
laid-within connection bound (cut ∷ cuts) l n d within =
    let P = λ (one : ConnectionBlock). one.connection < bound in
    All-append P (blocks_of_connection connection cut) _ (own-blocks P connection cut (λ block. omega arith))
    (laid-within (connection + 1) bound cuts (omega arith)) n d within

-- each is of one of the connections
pub cut-within : (connections : List PerConnection) (blocks : List ConnectionBlock) (bound : ℕ)
    → length connections ≡ bound → AreBlocksOf (wholes connections) blocks
    → All (λ (one : ConnectionBlock). one.connection < bound) blocks
cut-within connections blocks bound e h =
    let number = sym (length-map connections rest_of) ∙ ap length h.items ∙ length-map h.cuts _ in
    rw h.laid (laid-within 0 bound h.cuts (omega arith))

-- its items move credits by little
abbrev pub Little : ConnectionBlock → Type 0
Little one = AllByRecursion MovesLittle (items_in one.block)

pub little-each : (blocks : List ConnectionBlock) (sums : List ConnSum) → AreSums blocks sums → All Little blocks
little-each blocks sums h n one l =
    let number = h.number in (h.each n one (some_of sums 0 (omega arith)) l).little

where-append : (connection n : ℕ) (xs ys : List Finding)
    → where_of connection n xs ++ where_of connection n ys ≡ where_of connection n (xs ++ ys)
where-append connection n xs ys = grind arith

where-none : (connection n : ℕ) → where_of connection n [] ≡ []
where-none connection n = grind arith

-- the same plan, whose jobs find the same
pub plan-as : (c : Bool) (connections : ℕ) (f g : ℕ → List Finding) (plan : List ReadyBlock)
    → IsPlan c connections f plan → ((n : ℕ) → f n ≡ g n) → IsPlan c connections g plan
plan-as c connections f g plan h e =
    record { ready = h.ready; within = h.within; of_each = λ n. h.of_each n ∙ e n }

-- ---- one block after the other

-- what is planned so far of blocks, of which these are left
pub record ArePlanned (frames_shown : Bool) (blocks rest : List ConnectionBlock) (last : ℕ) (now : ConnectionState)
    (plan : List ReadyBlock) : Type 0 where
  pub fits : AreFit last now rest
  pub ready : AreReady plan
  pub within : (bound : ℕ) → All (λ (one : ConnectionBlock). one.connection < bound) blocks
      → All (λ (one : ReadyBlock). one.connection < bound) plan
  pub shows : (n : ℕ) → findings_of_jobs n (map (block_job frames_shown) plan) ++ shown_from frames_shown last now
      rest n
      ≡ shown_from frames_shown 0 connection_start blocks n
  pub few : length plan + length rest ≤ length blocks

-- the jobs of one block: one, or none where nothing is shown of it
pub record AreJobs (frames_shown : Bool) (one : ConnectionBlock) (before : ConnectionState) (jobs : List ReadyBlock)
    : Type 0 where
  pub ready : AreReady jobs
  pub within : (bound : ℕ) → one.connection < bound → All (λ (job : ReadyBlock). job.connection < bound) jobs
  pub shows : (n : ℕ) → findings_of_jobs n (map (block_job frames_shown) jobs)
      ≡ where_of one.connection n (shown frames_shown (block_run before (items_in one.block)))
  pub few : length jobs ≤ 1

pub no-job : (c : Bool) (one : ConnectionBlock) (before : ConnectionState)
    → shown c (block_run before (items_in one.block)) ≡ [] → AreJobs c one before []
no-job c one before e = record {
  ready = λ n d l. absurd (omega arith);
  within = λ bound b n d l. absurd (omega arith);
  shows = λ n. rw e (sym (where-none one.connection n));
  few = omega arith;
}

one-job : {X : Type 0} (P : X → Type 0) (x : X) → P x → All P (x ∷ [])
one-job P x h zero d l = h
one-job P x h (suc n) d l = absurd (omega arith)

pub own-job : (c : Bool) (one : ConnectionBlock) (before : ConnectionState) → IsReady before one.block
    → AreJobs c one before (record { connection = one.connection; block = one.block; before = before } ∷ [])
own-job c one before h = record {
  ready = one-job (λ (one : ReadyBlock). IsReady one.before one.block) _ h;
  within = λ bound. one-job (λ (one : ReadyBlock). one.connection < bound) _;
  shows = λ n. append-nil _;
  few = omega arith;
}

-- one of the blocks, and the connection before it
module _ (blocks : List ConnectionBlock) (at : ℕ) (one : ConnectionBlock) (l : at < length blocks)
    (is : one ≡ get_or blocks at one) where
  pub here-sum : (sums : List ConnSum) (sum : ConnSum) → AreSums blocks sums → IsSum one.block (get_or sums at sum)
  here-sum sums sum h = rw (← is) at (h.each at one sum l)

  module _ (last : ℕ) (now before : ConnectionState) (e : before ≡ before_of last now one) where
    pub here-fits : AreFit last now (drop at blocks) → BlockFits before (items_in one.block)
    here-fits h = rw e (rw (drop-at blocks at one is l) at h).0

    pub plan-next : (c : Bool) (sum : ConnSum) (next : ConnectionState) (plan new jobs : List ReadyBlock)
        → IsSum one.block sum → next ≡ conn_advance before sum → new ≡ plan ++ jobs → AreJobs c one before jobs
        → ArePlanned c blocks (drop at blocks) last now plan
        → ArePlanned c blocks (drop (at + 1) blocks) one.connection next new
    plan-next c sum next plan new jobs summed moves more own so_far =
        let left = drop-at blocks at one is l in
        let fits = rw left at so_far.fits in
        let after : next ≡ after_of last now one = moves ∙ rw (summed.is, e)
        (advance-sum (before_of last now one) (items_in one.block)) in
        let longer = ap length more ∙ length-append plan jobs in
        let shorter = ap length left in
        let few = so_far.few in
        let added = own.few in
        record {
          fits = rw after fits.1;
          ready = rw more (All-append (λ (one : ReadyBlock). IsReady one.before one.block) plan jobs so_far.ready
              own.ready);
          within = λ bound h. rw more (All-append (λ (one : ReadyBlock). one.connection < bound) plan jobs
              (so_far.within bound h) (own.within bound (rw (← is) at (h at one l))));
          shows = λ n. rw (
            more,
            after,
            map-append (block_job c) plan jobs,
            flat_map-append (λ (job : Job). if job.connection == n then job.findings else []) (map (block_job c) plan)
                (map (block_job c) jobs),
            own.shows n,
            e,
            append_assoc,
          ) (rw left at (so_far.shows n));
          few = omega arith;
        }

-- ---- all blocks of all connections

-- these blocks may be gone through from here, and this is shown of each connection
pub record IsWalk (c : Bool) (last : ℕ) (now : ConnectionState) (blocks : List ConnectionBlock)
    (shows : ℕ → List Finding) : Type 0 where
  pub fits : AreFit last now blocks
  pub shown : (n : ℕ) → shown_from c last now blocks n ≡ shows n

-- no block was met of this connection, or of a later one
abbrev IsNew : (connection last : ℕ) → ConnectionState → Type 0
IsNew connection last now =
    (m : ℕ) → connection ≤ m → (if m == last then now else connection_start) ≡ connection_start

module _ (c : Bool) (connection : ℕ) (rest : List ConnectionBlock) (later : ℕ → List Finding)
    (walk : (last : ℕ) (now : ConnectionState) → IsNew (connection + 1) last now → IsWalk c last now rest later) where
  own-walk : (last : ℕ) (now before : ConnectionState) (cut : List Block)
      → (if connection == last then now else connection_start) ≡ before
      → ItemsFit before (items_in_blocks (map items_in cut)) → IsNew (connection + 1) last now
      → IsWalk c last now (blocks_of_connection connection cut ++ rest)
      (λ n. where_of connection n (shown c (block_run before (items_in_blocks (map items_in cut)))) ++ later n)
  own-walk last now before [] e fits new =
      let others = walk last now new in
      record {
        fits = others.fits;
        shown = λ n. others.shown n ∙ ap (λ l. l ++ later n) (sym (where-none connection n));
      }
  own-walk last now before (block ∷ cut) e fits new =
      let items = items_in block in
      let others = items_in_blocks (map items_in cut) in
      let after = connection_after_all before items in
      let here = eq-eqb connection connection refl in
      let next = own-walk connection after after cut (rw here refl) (rest_fit before items others fits)
      (λ m l. rw (ne_eqb m connection (λ e. absurd (omega arith))) refl) in
      record {
        fits = rw e ((first_fit before items others fits).0, next.fits);
        shown = λ n. rw (e, next.shown n, block_run-append before items others) (
            sym (append_assoc _ _ (later n))
            ∙ ap (λ l. l ++ later n) (where-append connection n _ _
            ∙ ap (where_of connection n) (sym (shown-append c (block_run before items) (block_run after others)))));
      }

-- the items of a connection's blocks move credits by little
little-joined : (connection : ℕ) (cut : List Block) (rest : List ConnectionBlock)
    → All Little (blocks_of_connection connection cut ++ rest)
    → AllByRecursion MovesLittle (items_in_blocks (map items_in cut)) × All Little rest
little-joined connection [] rest h = (tt, h)
little-joined connection (block ∷ cut) rest h =
    let later = little-joined connection cut rest (All-tail Little _ _ h) in
    (each-append MovesLittle (items_in block) _ (All-head Little _ _ h) later.0, later.1)

laid-walk : (c : Bool) (connection last : ℕ) (now : ConnectionState) (cuts : List (List Block))
    → IsNew connection last now
    → All (BlockFits connection_start) (map (λ (cut : List Block). items_in_blocks (map items_in cut)) cuts)
    → All Little (laid_out connection cuts)
    → IsWalk c last now (laid_out connection cuts)
    (shown_at c connection (map (λ (cut : List Block). items_in_blocks (map items_in cut)) cuts))
laid-walk c connection last now [] new fits little = record { fits = tt; shown = λ n. refl }
laid-walk c connection last now (cut ∷ cuts) new fits little =
    let own = little-joined connection cut (laid_out (connection + 1) cuts) little in
    own-walk c connection (laid_out (connection + 1) cuts) _
    (λ last' now' new'. laid-walk c (connection + 1) last' now' cuts new'
    (All-tail (BlockFits connection_start) _ _ fits) own.1)
    last now connection_start cut (new connection (omega arith))
    (All-head (BlockFits connection_start) _ _ fits, own.0) (λ m l. new m (omega arith))

pub cut-walk : (c : Bool) (wholes : List (List Item)) (blocks : List ConnectionBlock) → AreBlocksOf wholes blocks
    → All (BlockFits connection_start) wholes → All Little blocks
    → IsWalk c 0 connection_start blocks (shown_at c 0 wholes)
cut-walk c wholes blocks h fits little =
    rw (h.laid, h.items) (laid-walk c 0 0 connection_start h.cuts (λ m l. either (m == 0)) (rw h.items at fits)
    (rw h.laid at little)) where
      either : (b : Bool) → (if b then connection_start else connection_start) ≡ connection_start
      either b = grind arith

-- ---- what is shown of one of the connections

shown-below : (c : Bool) (connection : ℕ) (wholes : List (List Item)) (n : ℕ) → n < connection
    → shown_at c connection wholes n ≡ []
shown-below c connection [] n l = refl
shown-below c connection (items ∷ wholes) n l =
    rw (ne_eqb connection n (λ e. absurd (omega arith))) (shown-below c (connection + 1) wholes n (omega arith))

pub shown-at : (c : Bool) (connection : ℕ) (wholes : List (List Item)) (k : ℕ) (d : List Item) → k < length wholes
    → shown_at c connection wholes (connection + k) ≡ whole_shown c (get_or wholes k d)
shown-at c connection [] k d l = absurd (omega arith)
shown-at c connection (items ∷ wholes) zero d l =
    let e : connection ≡ connection + 0 = omega arith in
    rw (eq-eqb connection (connection + 0) e, shown-below c (connection + 1) wholes (connection + 0) (omega arith))
    (append-nil (whole_shown c items))
shown-at c connection (items ∷ wholes) (suc k) d l =
    let e : connection + suc k ≡ (connection + 1) + k = omega arith in
    rw (ne_eqb connection (connection + suc k) (λ e. absurd (omega arith)), e)
    (shown-at c (connection + 1) wholes k d (omega arith))
