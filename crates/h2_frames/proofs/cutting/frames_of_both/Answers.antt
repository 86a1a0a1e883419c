use Rattle.std.proofs.Common.{◌≡◌, ◌∙◌, ap, refl}
use Rattle.h2_frames.proofs.BothSides.{behind_preface, http2-is}
use Rattle.h2_frames.proofs.Words.{bytes_of, joined}
use Rattle.h2_frames.proofs.cutting.frames_of_both.Goals as goal

pub returns : goal.returns
returns c =
    let client = c.args.client.now in
    let server = c.args.server.now in
    let flows = c.requires.flows in
    let rest = c.requires.begins.0 in
    let begins = c.requires.begins.1 in
    let bytes : c.deref.result.now ≡ bytes_of client =
    c.deref.ensures.value ∙ c.in_ok-bytes.ensures ∙ ap joined c.as_slice.ensures.value in
    let behind = behind_preface c.deref.result.now rest (bytes ∙ begins) in
    let other : c.deref-2.result.now ≡ bytes_of server =
    c.deref-2.ensures.value ∙ c.in_ok-bytes-2.ensures ∙ ap joined c.as_slice-2.ensures.value in
    let sent = rw (behind, c.as_slice-arrivals.ensures.value) at c.in_ok-sent.ensures in
    let answered = rw (other, c.as_slice-arrivals-2.ensures.value) at c.in_ok-answered.ensures in
    let http2 = http2-is client server rest c.in_ok-sent.sent.frames.items c.in_ok-answered.answered.frames.items _
    sent.rest answered.rest begins flows.client_orderly flows.server_orderly sent.ahead answered.ahead refl in (
      (
        c.requires.started,
        rw (
          c.in_ok-frames.ensures.all,
          c.deref-3.ensures.value,
          c.deref-4.ensures.value,
          sent.tail,
          answered.tail,
        ) http2,
      ),
      c.in_ok-frames.ensures.orderly,
    )
