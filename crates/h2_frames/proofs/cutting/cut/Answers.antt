use Rattle.std.proofs.Common.{◌≡◌, ap}
use Rattle.h2_frames.proofs.Greetings.{cut_short, not_begun, not_short}
use Rattle.h2_frames.proofs.Words.{NoHandshake, NoPreface, NotHttp2, bytes_of, joined}
use Rattle.h2_frames.proofs.Uniqueness.{found-all, found-cut}
use Rattle.h2_frames.proofs.cutting.cut.Goals as goal

pub returns-then-not-server : goal.returns-then-not-server
returns-then-not-server c = found-cut c.args.client.now c.args.server.now NoHandshake c.if-not-server.true tt

pub returns-in-CutShort : goal.returns-in-CutShort
returns-in-CutShort c =
    let bytes : joined c.as_slice.result.now ≡ bytes_of c.args.client.now = ap joined c.as_slice.ensures.value in
    let short = rw bytes at c.in-CutShort.ensures in
    found-cut c.args.client.now c.args.server.now NoPreface
    (c.if-not-server.false, cut_short _ c.in-CutShort.field-0 short.1.0 short.1.1) tt

pub returns-in-Other : goal.returns-in-Other
returns-in-Other c =
    let bytes : joined c.as_slice.result.now ≡ bytes_of c.args.client.now = ap joined c.as_slice.ensures.value in
    let other = rw bytes at c.in-Other.ensures in
    found-cut c.args.client.now c.args.server.now NotHttp2
    (c.if-not-server.false, not_short _ other.1, (λ rest. not_begun _ rest other.1)) tt

pub returns-in-Whole : goal.returns-in-Whole
returns-in-Whole c =
    let bytes : joined c.as_slice.result.now ≡ bytes_of c.args.client.now = ap joined c.as_slice.ensures.value in
    let begins = rw bytes at c.in-Whole.ensures in
    found-all c.args.client.now c.args.server.now begins.0 c.frames_of_both.result c.if-not-server.false begins.1
    c.frames_of_both.ensures
