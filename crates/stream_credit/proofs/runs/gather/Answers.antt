use Rattle.stream_credit.proofs.Words.{◌∷◌, ◌++◌, [], slice_get, slice_index_or, take, ap, ◌∙◌, option_to_list}
use Rattle.stream_credit.proofs.Words.{flat_map-append, take_more, slice_get-get_or, Frame}
use Rattle.stream_credit.proofs.runs.gather.Goals as goal

pub loop-position-preserved : goal.loop-position-preserved
loop-position-preserved c =
    let frames = c.args.frames.now in
    let positions = c.args.positions.now in
    let i = c.loop-position.position-index in
    let frame : Frame = c.index-frames-position.result in
    let within = c.loop-position-test.true in
    rw (
      take_more positions i 0 within,
      flat_map-append (λ position. option_to_list (slice_get frames position)) (take i positions)
          (slice_index_or positions i 0 ∷ []),
      slice_get-get_or frames _ frame (c.requires i 0 within),
      ← c.index-frames-position.is,
    ) (c.in_ok-extend_from_slice.ensures.items ∙ ap (λ l. l ++ frame ∷ []) c.loop-position.invariant)
