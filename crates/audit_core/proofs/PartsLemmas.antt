-- The pass, put together from its parts.
use Rattle.std.proofs.{Common.ℕ, lemmas.Grind.flat_map-append}
use Rattle.std.proofs.Common.{List, None, Option, [], ap, append-nil, append_assoc, ap₂, refl, sym, ◌++◌, ◌∙◌, ◌∷◌, ◌≡◌}
use Rattle.audit_core.proofs.{PassOrder.findings_stand_in_order, Words.connection_after_all, Words.in_order-append_comm}
use Rattle.audit_core.proofs.QuietSteps.{stream_after-quiet, stream_said-quiet}
use Rattle.audit_core.proofs.StreamSteps.{step_if_any, steps_from, steps_of-steps_from}
use Rattle.audit_core.proofs.Words.{Change, Frame, Item, Sides, Step, Stream, item_of, joined, next, side_of, step_of}
use Rattle.audit_core.proofs.Words.{ConnectionState, connection_said, in_force_after, initial_in_force, stream_run_from}
use Rattle.audit_core.proofs.Words.{Finding, block_run, change_of, flat_map, frames_of, full_from, group_run, in_order}
use Rattle.audit_core.proofs.Words.{IsOrderly, PassState, items_from, local_said, pass_start, stream_run, streams_of}
use Rattle.audit_core.proofs.Words.{PartsMakeFull, in_order-alike, initial_after, local_run_from, settings_said}
use Rattle.audit_core.proofs.Words.{block_runs, changes_of, idle_stream, stream_after, stream_said, streams_said}
use Rattle.audit_core.proofs.Words.{connection_after, connection_start, in_order-in_order, settings_run_from}
use Rattle.audit_terms.specs.code.runs.{Changes.settings_run, LocalFaults.local_run}

-- ---- a stream by itself

-- what the pass says of one stream
abbrev alone : (stream : ℕ) → PassState → List Frame → List Finding
alone stream state [] = []
alone stream state (frame ∷ frames) =
    in_order (stream_said stream state.in_force.initial (state.streams stream) (step_of state.in_force frame stream))
    ++ alone stream (next state frame) frames

-- one step of the run, whether it counts as a step or not
one_step : (stream number : ℕ) (initial : Sides ℕ) (entry : Stream) (o : Option Frame) (c : Option Change)
    (rest : List Step) (later : List Finding) → stream_run_from stream (initial_after c initial)
    (stream_after stream initial entry (record { number = number; frame = o; change = c })) rest ≡ later
    → stream_run_from stream initial entry (step_if_any (record { number = number; frame = o; change = c }) ++ rest)
    ≡ in_order (stream_said stream initial entry (record { number = number; frame = o; change = c })) ++ later
one_step stream number initial entry None None rest later h =
    ap (λ now. stream_run_from stream initial now rest) (sym (stream_after-quiet stream initial number None entry refl))
    ∙ h ∙ ap (λ said. in_order said ++ later) (sym (stream_said-quiet stream initial number None entry refl))
one_step stream number initial entry _ _ rest later h = rw h refl

-- the run over the steps at which something is there
run_from-alone : (stream : ℕ) (state : PassState) (frames : List Frame)
    → stream_run_from stream state.in_force.initial (state.streams stream) (steps_from stream state.in_force frames)
    ≡ alone stream state frames
run_from-alone stream state [] = refl
run_from-alone stream state (frame ∷ frames) =
    one_step stream frame.number state.in_force.initial (state.streams stream)
    (step_of state.in_force frame stream).frame (change_of state.in_force frame)
    (steps_from stream (in_force_after state.in_force frame) frames) (alone stream (next state frame) frames)
    (run_from-alone stream (next state frame) frames)

-- the run of a stream
run-alone : (stream : ℕ) (frames : List Frame) → IsOrderly frames
    → stream_run stream (frames_of stream frames) (changes_of frames) ≡ alone stream pass_start frames
run-alone stream frames h =
    ap (stream_run_from stream initial_in_force.initial idle_stream)
    (steps_of-steps_from 0 stream initial_in_force frames h) ∙ run_from-alone stream pass_start frames

-- ---- parts, put in order

-- the findings of two parts, put in order
merged : List Finding → List Finding → List Finding
merged a b = in_order (a ++ b)

merged-is : (a b : List Finding) → in_order (a ++ b) ≡ merged (in_order a) (in_order b)
unfolding merged
merged-is a b = in_order-alike a (in_order a) b (in_order b) (sym (in_order-in_order a)) (sym (in_order-in_order b))

merged-in_order : (a b : List Finding) → in_order (merged a b) ≡ merged a b
unfolding merged
merged-in_order a b = in_order-in_order (a ++ b)

merged-comm : (a b : List Finding) → merged a b ≡ merged b a
unfolding merged
merged-comm = in_order-append_comm

merged-assoc : (a b c : List Finding) → merged (merged a b) c ≡ merged a (merged b c)
unfolding merged
merged-assoc a b c =
    in_order-alike (in_order (a ++ b)) (a ++ b) c c (in_order-in_order (a ++ b)) refl ∙ ap in_order (append_assoc a b c)
    ∙ in_order-alike a a (b ++ c) (in_order (b ++ c)) refl (sym (in_order-in_order (b ++ c)))

merged-left_comm : (a b c : List Finding) → merged a (merged b c) ≡ merged b (merged a c)
merged-left_comm a b c = sym (merged-assoc a b c) ∙ ap (λ l. merged l c) (merged-comm a b) ∙ merged-assoc b a c

-- in which order parts are joined makes no difference
ruleset merging = (merged-is, in_order-in_order, merged-in_order, merged-assoc, merged-comm, merged-left_comm)

-- what some streams show together, and each after the other
streams-apart : (f g : ℕ → List Finding) (streams : List ℕ)
    → in_order (flat_map (λ s. in_order (f s) ++ g s) streams) ≡ in_order (flat_map f streams ++ flat_map g streams)
streams-apart f g [] = refl
streams-apart f g (s ∷ streams) =
    one_more (f s) (flat_map f streams) (g s) (flat_map g streams) _ (streams-apart f g streams) where
      one_more : (a b c d both : List Finding) → in_order both ≡ in_order (b ++ d)
          → in_order ((in_order a ++ c) ++ both) ≡ in_order ((a ++ b) ++ (c ++ d))
      one_more a b c d both h = simp (h, merging)

-- a frame's findings of four sorts, before the findings of the frames after it
four_sorts : (l s c t lr sr tr cr rest streams : List Finding)
    → in_order rest ≡ in_order (((lr ++ sr) ++ tr) ++ cr) → in_order streams ≡ in_order (t ++ tr)
    → in_order (in_order (((l ++ s) ++ c) ++ t) ++ rest)
    ≡ in_order ((((in_order l ++ lr) ++ (s ++ sr)) ++ streams) ++ (in_order c ++ cr))
four_sorts l s c t lr sr tr cr rest streams p q = simp (p, q, merging)

-- the findings from a state on, by their sorts
abbrev sorts_from : List ℕ → PassState → List Frame → List Finding
sorts_from streams state frames =
    ((local_run_from state.previous frames ++ settings_run_from state.in_force frames)
    ++ flat_map (λ stream. alone stream state frames) streams)
    ++ block_run state.connection (items_from state frames)

nothing_of : (streams : List ℕ) → flat_map (λ stream. alone stream pass_start []) streams ≡ []
nothing_of [] = refl
nothing_of (s ∷ streams) = nothing_of streams

full-sorts : (streams : List ℕ) (state : PassState) (frames : List Frame)
    → in_order (full_from streams state frames) ≡ in_order (sorts_from streams state frames)
full-sorts streams state [] = ap in_order (sym (append-nil _ ∙ nothing_of streams))
full-sorts streams state (frame ∷ frames) =
    let rest = next state frame in
    four_sorts (local_said (side_of frame.side state.previous) frame) (settings_said state.in_force frame)
    (connection_said state.connection (item_of state frame)) (streams_said streams state frame)
    (local_run_from rest.previous frames) (settings_run_from rest.in_force frames)
    (flat_map (λ stream. alone stream rest frames) streams) (block_run rest.connection (items_from rest frames))
    _ _ (full-sorts streams rest frames) (streams-apart _ (λ stream. alone stream rest frames) streams)

-- blocks, one after the other, are one block
pub block_run-append : (now : ConnectionState) (xs ys : List Item)
    → block_run now (xs ++ ys) ≡ block_run now xs ++ block_run (connection_after_all now xs) ys
block_run-append now [] ys = refl
block_run-append now (x ∷ xs) ys =
    rw (block_run-append (connection_after now x) xs ys) (sym (append_assoc (in_order (connection_said now x)) _ _))

block_runs-joined : (now : ConnectionState) (blocks : List (List Item))
    → block_runs now blocks ≡ block_run now (joined blocks)
block_runs-joined now [] = refl
block_runs-joined now (block ∷ blocks) =
    rw (block_runs-joined (connection_after_all now block) blocks) (sym (block_run-append now block (joined blocks)))

-- groups, one after the other, are one group
groups-joined : (frames : List Frame) (groups : List (List ℕ))
    → flat_map (group_run frames) groups ≡ group_run frames (joined groups)
groups-joined frames [] = refl
groups-joined frames (group ∷ groups) = rw (groups-joined frames groups) (sym (flat_map-append _ group (joined groups)))

group-alone : (frames : List Frame) (streams : List ℕ) → IsOrderly frames → group_run frames streams
    ≡ flat_map (λ stream. alone stream pass_start frames) streams
group-alone frames [] h = refl
group-alone frames (stream ∷ streams) h = ap₂ ◌++◌ (run-alone stream frames h) (group-alone frames streams h)

pub parts_make_full_lem : PartsMakeFull
parts_make_full_lem frames groups blocks h same_streams same_items =
    let by_stream : flat_map (group_run frames) groups ≡ flat_map (λ stream. alone stream pass_start frames)
    (streams_of frames) =
    groups-joined frames groups ∙ ap (group_run frames) same_streams ∙ group-alone frames (streams_of frames) h in
    let by_block : block_runs connection_start blocks ≡ block_run connection_start (items_from pass_start frames) =
    block_runs-joined connection_start blocks ∙ ap (block_run connection_start) same_items in
    sym (findings_stand_in_order frames h) ∙ full-sorts (streams_of frames) pass_start frames
    ∙ ap₂ (λ streams blocks. in_order (((local_run frames ++ settings_run frames) ++ streams) ++ blocks))
    (sym by_stream) (sym by_block)
