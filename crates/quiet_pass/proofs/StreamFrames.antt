-- A frame that moves no stream but by a change.
use Rattle.stream_credit.proofs.Words.{or_parts, ◌≡◌, ℕ, false, List, [], Some, None, Option}
use Rattle.stream_credit.proofs.Words.{refl, sym, ◌∙◌, arith, and-false, or-false, ◌||◌, cases_Bool, inl, inr}
use Rattle.stream_credit.proofs.Words.{Side, Client, Server, Sides, Body, WindowUpdate, Frame, Change, Step, Stream}
use Rattle.stream_credit.proofs.Words.{is_reset, increment, ends_window, content_by, grant_to, frame_said, is_last_of}
use Rattle.stream_credit.proofs.Words.{life_after, stream_said, stream_after, stream_window_said, frame_step}
use Rattle.stream_credit.proofs.Words.{StreamLife, ℤ, window_after}
use Rattle.std.proofs.Common.{ap₂}
use Rattle.audit_terms.specs.Frame.{is_content, is_headers, is_update, meets, needs_opening, is_server_promise}
use Rattle.audit_terms.specs.Life.{is_opening}
use Rattle.stream_credit.proofs.QuietSteps.{change_alone}
use Rattle.quiet_pass.specs.declared.opened_rows.Row.{Row}
use Rattle.quiet_pass.specs.code.QuietPass.{MovesNoStream}
use Rattle.quiet_pass.specs.code.Rows.{entry_in, AreRising, IsMetOn}
use Rattle.quiet_pass.specs.code.Streams.{as_step, IsStep}
use Rattle.quiet_pass.proofs.StreamLemmas.{step-alone, unmoved-entry}

-- ---- a frame that moves no stream but by a change

no-increment : (body : Body) → is_update body ≡ false → increment body ≡ 0
no-increment (WindowUpdate amount) e = cc
no-increment _ e = refl

module _ (frame : Frame) (still : MovesNoStream frame) (s : ℕ) (initial : Sides ℕ) (entry : Stream) where
  update : is_update frame.body ≡ false
  update = (or_parts _ _ still.unneeded).1

  unended : (is_content frame.body || is_headers frame.body || is_reset frame.body) ≡ false
  unended = (or_parts _ _ still.unneeded).0

  reset : is_reset frame.body ≡ false
  reset = (or_parts _ _ unended).1

  unsent : (is_content frame.body || is_headers frame.body) ≡ false
  unsent = (or_parts _ _ unended).0

  content : is_content frame.body ≡ false
  content = (or_parts _ _ unsent).0

  headers : is_headers frame.body ≡ false
  headers = (or_parts _ _ unsent).1

  unpromised : is_server_promise frame ≡ false
  unpromised = still.unpromised

  goes_on : (d : Side) → ends_window d frame ≡ false
  goes_on d = simp (content, headers, reset, and-false)

  granted : (d : Side) → grant_to d s frame ≡ 0
  granted d = let none = no-increment frame.body update in grind arith

  sent : (d : Side) → content_by d frame ≡ 0
  sent d = simp (content, and-false)

  pub unopened-still : is_opening s entry.life frame ≡ false
  unopened-still = simp (headers, unpromised, and-false)

  silent : (step : Step) → frame_said s entry step frame ≡ []
  silent step = simp (content, headers, reset, update, unpromised)

  window-still : (d : Side) (change : Option Change)
      → stream_window_said d s initial entry (record { number = frame.number; frame = Some frame; change = change })
      ≡ stream_window_said d s initial entry (change_alone frame.number change)
  window-still d change = rw (unopened-still, granted d, sent d, goes_on d) refl

  life-still : life_after s entry.life frame ≡ entry.life
  life-still =
      let client : is_last_of Client s frame ≡ false = simp (content, headers, reset, unpromised, and-false) in
      let server : is_last_of Server s frame ≡ false = simp (content, headers, reset, unpromised, and-false) in
      simp (unopened-still, client, server, and-false, or-false)

  met-said : (change : Option Change)
      → stream_said s initial entry (record { number = frame.number; frame = Some frame; change = change })
      ≡ stream_said s initial entry (change_alone frame.number change)
  met-said change =
      rw (
        silent (record { number = frame.number; frame = Some frame; change = change }),
        window-still Client change,
        window-still Server change,
      ) refl

  window-after-still : (d : Side) (change : Option Change) (window : Option ℤ)
      → window_after d s initial (record { number = frame.number; frame = Some frame; change = change }) window
      ≡ window_after d s initial (change_alone frame.number change) window
  window-after-still d change None = refl
  window-after-still d change (Some before) = rw (granted d, sent d, goes_on d) refl

  met-after : (change : Option Change)
      → stream_after s initial entry (record { number = frame.number; frame = Some frame; change = change })
      ≡ stream_after s initial entry (change_alone frame.number change)
  met-after change =
      let windows : (stream_after s initial entry
      (record { number = frame.number; frame = Some frame; change = change })).window
      ≡ (stream_after s initial entry (change_alone frame.number change)).window =
      rw unopened-still
      (ap₂ (λ (client server : Option ℤ). record { client = client; server = server })
      (window-after-still Client change entry.window.client) (window-after-still Server change entry.window.server)) in
      ap₂ (λ (life : StreamLife) (window : Sides (Option ℤ)). record { life = life; window = window }) life-still
      windows

  -- it is as if the stream did not meet the frame
  pub said-still : (change : Option Change)
      → stream_said s initial entry (as_step frame change s)
      ≡ stream_said s initial entry (change_alone frame.number change)
  said-still change = elim (cases_Bool (meets s frame)) [
    | inl met ↦ rw met (met-said change)
    | inr unmet ↦ rw unmet refl
  ]

  pub after-still : (change : Option Change)
      → stream_after s initial entry (as_step frame change s)
      ≡ stream_after s initial entry (change_alone frame.number change)
  after-still change = elim (cases_Bool (meets s frame)) [
    | inl met ↦ rw met (met-after change)
    | inr unmet ↦ rw unmet refl
  ]

  -- and without a change, nothing is shown and nothing moves
  none-still : IsStep s initial (change_alone frame.number None) entry entry
  none-still = step-alone s initial initial frame.number None entry entry (unmoved-entry initial entry) refl

  pub step-still : IsStep s initial (frame_step frame) entry entry
  step-still = record {
    said = rw (met-said None) none-still.said;
    after = none-still.after ∙ sym (met-after None);
  }

pub idle-met : (frame : Frame) → needs_opening frame ≡ false → is_server_promise frame ≡ false → (initial : Sides ℕ)
    (rows : List Row) → AreRising rows → IsMetOn frame.stream initial frame false rows rows
idle-met frame unneeded unpromised initial rows rising =
    let still : MovesNoStream frame = record { unneeded = unneeded; unpromised = unpromised } in
    let entry = entry_in rows frame.stream in record {
      opening = unopened-still frame still frame.stream initial entry;
      said = (step-still frame still frame.stream initial entry).said;
      after = (step-still frame still frame.stream initial entry).after;
      others = λ other differ. refl;
      rising = rising;
      parity = λ remainder is all. all;
    }
