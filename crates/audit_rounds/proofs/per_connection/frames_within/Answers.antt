use Rattle.audit_rounds.proofs.Words.{not, nat_lt, leb, filter, sym, ap, ◌∙◌, rules, Frame, frames_within}
use Rattle.std.proofs.lemmas.List.Sorted.{IsPartitionPoint-from_clause}
use Rattle.audit_rounds.proofs.Settling.{frames-parted, within-point, all-within}
use Rattle.audit_rounds.proofs.per_connection.frames_within.Goals as goal

pub returns-in-Some : goal.returns-in-Some
returns-in-Some c =
    let frames = c.args.frames.now in
    let last = c.number-last.result in
    let point = IsPartitionPoint-from_clause (λ (frame : Frame). leb frame.number last) _ _
    c.partition_point.ensures.partitioned (frames-parted last frames c.requires) (λ a r q k. search rules) in
    within-point last c.partition_point.result frames c.partition_point.ensures.bound point
    ∙ ap (λ number. filter (λ (frame : Frame). not (nat_lt number frame.number)) frames) c.number-last.ensures
    ∙ ap (λ stop. frames_within stop frames) (sym c.in-Some.is)

pub returns-in-None : goal.returns-in-None
returns-in-None c = rw c.in-None.is (all-within c.args.frames.now)
