-- The rounds make the pass.
use Rattle.audit_rounds.proofs.Words.{◌==◌, ◌&&◌, not, is_none, pos, is_ack, taken, ◌≡◌, ℕ, ◌+◌, Bool, false, List, []}
use Rattle.audit_rounds.proofs.Words.{◌∷◌, ◌++◌, Option, Some, None, refl, sym, ap, ◌∙◌, append-nil, AllByRecursion}
use Rattle.audit_rounds.proofs.Words.{Sides, Body, Unreadable, Frame, Finding, side_of, in_order, upto_stop, shown}
use Rattle.audit_rounds.proofs.Words.{local_said, no_previous, previous_after, local_run, local_run_from, InForce}
use Rattle.audit_rounds.proofs.Words.{settings_said, initial_in_force, in_force_after, settings_run, settings_run_from}
use Rattle.audit_rounds.proofs.Words.{changes_of, connection_start, streams_of, frames_of, stream_run, shown-append}
use Rattle.audit_rounds.proofs.Words.{streams_shown, blocks_shown, IsOrderly, IsOrderlyFrom}
use Rattle.std.proofs.Math.Bool.{or-true}
use Rattle.audit_terms.specs.declared.kinds.Kind.{Kind}
use Rattle.audit_terms.specs.declared.kinds.Kind.TheVariants.{BadPadding, BadPreface, BadPriority, BadSetting}
use Rattle.audit_terms.specs.declared.kinds.Kind.TheVariants.{BrokenBlock, Push, UnmatchedAck, WrongSize, WrongStream}
use Rattle.audit_terms.specs.declared.frames.Body.TheVariants.{Settings as SettingsBody}
use Rattle.audit_terms.specs.declared.sides.Side.TheVariants.{Client}
use Rattle.audit_terms.specs.Finding.{finding_at, say, say_of}
use Rattle.audit_terms.specs.FrameType.{push_promise_type}
use Rattle.audit_terms.specs.Side.{is_side}
use Rattle.audit_terms.specs.Kind.{is_credit}
use Rattle.audit_terms.specs.LocalFault.{body_said, breaks_block, fault, is_on_wrong_stream, is_settings, reading_fault}
use Rattle.audit_terms.specs.Pass.{full}
use Rattle.audit_terms.specs.code.runs.Streams.{group_run}
use Rattle.audit_terms.specs.code.runs.Blocks.{block_runs}
use Rattle.audit_terms.specs.code.runs.Orderly.{IsInRange}
use Rattle.audit_terms.proofs.FindingLists.{each-append, each-in_order, each-said}
use Rattle.audit_core.proofs.PartsLemmas.{parts_make_full_lem}
use Rattle.audit_terms.proofs.ShownFindings.{shown-flat_map}
use Rattle.split_merge.proofs.ShownMerge.{merge-shown}
use Rattle.audit_rounds.specs.laws.Rounds.{RoundsMakePass}

-- ---- what is found before the rounds

-- what holds of all that frames by themselves say, and of what they say of settings
module _ (P : Finding → Type 0) where
  pub local-each : ((previous : Option Frame) (frame : Frame) → IsInRange frame
      → AllByRecursion P (local_said previous frame))
      → (previous : Sides (Option Frame)) (low : ℕ) (frames : List Frame) → IsOrderlyFrom low frames
      → AllByRecursion P (local_run_from previous frames)
  local-each said previous low [] h = tt
  local-each said previous low (frame ∷ frames) h =
      let own = local_said (side_of frame.side previous) frame in
      each-append P (in_order own) _ (each-in_order P own (said (side_of frame.side previous) frame h.1))
      (local-each said (previous_after previous frame) (frame.number + 1) frames h.2)

  pub settings-each : ((now : InForce) (frame : Frame) → IsInRange frame → AllByRecursion P (settings_said now frame))
      → (now : InForce) (low : ℕ) (frames : List Frame) → IsOrderlyFrom low frames
      → AllByRecursion P (settings_run_from now frames)
  settings-each said now low [] h = tt
  settings-each said now low (frame ∷ frames) h =
      each-append P (settings_said now frame) _ (said now frame h.1)
      (settings-each said (in_force_after now frame) (frame.number + 1) frames h.2)

-- it is no credit
abbrev IsFault : Finding → Type 0
IsFault found = is_credit found.kind ≡ false

fault-reading : (kind : Kind) (frame : Frame) (value : ℕ) → AllByRecursion IsFault (reading_fault kind frame value)
fault-reading WrongSize frame value = (refl, tt)
fault-reading BadPadding frame value = (refl, tt)
fault-reading BadPriority frame value = (refl, tt)
fault-reading _ frame value = tt

fault-setting : (frame : Frame) (bad : Option ℕ)
    → AllByRecursion IsFault (say_of (λ identifier. fault BadSetting frame identifier ∷ []) bad)
fault-setting frame None = tt
fault-setting frame (Some identifier) = (refl, tt)

fault-body : (frame : Frame) (body : Body) → AllByRecursion IsFault (body_said frame body)
fault-body frame (Unreadable kind value) = fault-reading kind frame value
fault-body frame (SettingsBody words) = fault-setting frame words.bad
fault-body frame _ = tt

fault-local : (previous : Option Frame) (frame : Frame) → AllByRecursion IsFault (local_said previous frame)
fault-local previous frame =
    let join = each-append IsFault in
    let one = each-said IsFault in
    let unopened = is_none previous && not (is_settings frame) in
    let pushes = (frame.code == push_promise_type) && is_side Client frame.side in
    let preface = say unopened (fault BadPreface frame frame.code) in
    let block = say (breaks_block previous frame) (fault BrokenBlock frame frame.code) in
    let stream = say (is_on_wrong_stream frame) (fault WrongStream frame frame.code) in
    let body = body_said frame frame.body in
    join (((preface ++ block) ++ stream) ++ body) (say pushes (fault Push frame 0))
    (join ((preface ++ block) ++ stream) body (join (preface ++ block) stream (join preface block
    (one unopened (fault BadPreface frame frame.code) refl)
    (one (breaks_block previous frame) (fault BrokenBlock frame frame.code) refl))
    (one (is_on_wrong_stream frame) (fault WrongStream frame frame.code) refl)) (fault-body frame frame.body))
    (one pushes (fault Push frame 0) refl)

-- so all of it is shown
all-shown : (c : Bool) (found : List Finding) → AllByRecursion IsFault found → shown c found ≡ found
all-shown c [] h = refl
all-shown c (one ∷ found) h = rw (h.0, or-true c, all-shown c found h.1) refl

before-shown : (c : Bool) (frames : List Frame) → IsOrderly frames
    → shown c (local_run frames ++ settings_run frames) ≡ local_run frames ++ settings_run frames
before-shown c frames h = all-shown c _ (each-append IsFault (local_run frames) (settings_run frames)
    (local-each IsFault (λ previous frame r. fault-local previous frame) no_previous 0 frames h)
    (settings-each IsFault (λ now frame r. each-said IsFault (is_ack frame.body && is_none (taken now frame))
    (finding_at UnmatchedAck frame.number frame.stream frame.side (pos 0)) refl) initial_in_force 0 frames h))

-- ---- the law

pub rounds_make_pass_lem : RoundsMakePass
rounds_make_pass_lem c frames blocks h cut =
    let found = local_run frames ++ settings_run frames in
    let streams = group_run frames (streams_of frames) in
    let conn = block_runs connection_start blocks in
    let run = λ (stream : ℕ). stream_run stream (frames_of stream frames) (changes_of frames) in
    let all : full frames ≡ in_order ((found ++ streams) ++ conn) =
    rw append-nil at (parts_make_full_lem frames (streams_of frames ∷ []) blocks h (append-nil (streams_of frames)) cut)
    in
    let parts : (found ++ streams_shown c frames) ++ blocks_shown c blocks ≡ shown c ((found ++ streams) ++ conn) =
    rw (
      shown-append c (found ++ streams) conn,
      shown-append c found streams,
      before-shown c frames h,
      shown-flat_map c run (streams_of frames),
    ) refl in
    ap (λ l. upto_stop (in_order l)) parts ∙ merge-shown c _ ∙ ap (λ l. shown c (upto_stop l)) (sym all)
