use Rattle.std.proofs.Common.{List, subst, sym}
use Rattle.audit_terms.specs.code.runs.Orderly.{IsOrderly}
use Rattle.audit_terms.specs.declared.frames.Frame.{Frame}
use Rattle.h2_frames.specs.Cut.{IsHttp2}
use Rattle.h2_frames.proofs.frame_list.FrameList.cut.Goals as goal

pub returns-in-Http2 : goal.returns-in-Http2
returns-in-Http2 c = λ client server is.
    let (started, has) = rw c.in-Http2.is at is in
    record {
      is = (
        started,
        subst (λ (l : List Frame). IsHttp2 client server l c.in-Http2.tails) (sym has.visited) has.http2,
      );
      orderly = subst IsOrderly (sym has.visited) has.orderly;
    }
