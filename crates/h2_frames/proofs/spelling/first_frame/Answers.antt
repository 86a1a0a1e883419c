use Rattle.h2_frames.proofs.spelling.first_frame.Goals as goal

pub returns-clause-found : goal.returns-clause-found
returns-clause-found c =
    let (start, split, makes) = c.in_ok-header.ensures.found in
    (start, c.in_ok-header.payload.now, split, makes _ c.body_of-body.ensures)
