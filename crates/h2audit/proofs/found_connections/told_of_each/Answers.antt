use Rattle.std.proofs.Common.{[], List, ap, map, subst, sym, ◌++◌, ◌∙◌, ◌∷◌}
use Rattle.std.specs.List.{AllZip}
use Rattle.std.specs.Vec.Iter.{into_iter_items}
use Rattle.std.proofs.lemmas.List.{map-append}
use Rattle.quiet_pass.specs.code.FoundFlows.{HasMetSent}
use Rattle.quiet_pass.specs.declared.connection_findings.ConnectionFindings.{ConnectionFindings}
use Rattle.tcp_streams.specs.Membership.{belongings, openings}
use Rattle.tcp_streams.specs.code.Opened.{IsVisited}
use Rattle.audit_report.specs.declared.headings.SectionHeading.{SectionHeading}
use Rattle.h2audit.proofs.MetAudits.{Answers, visited-headings}
use Rattle.h2audit.proofs.Zips.{taken-all, taken-more, zip-more, zip-next, zip-through}
use Rattle.h2audit.specs.code.Met.{HasMetSegments, IsWholeOfOpening, heading_by}
use Rattle.h2audit.specs.declared.met_connections.MetConnection.{MetConnection}
use Rattle.h2audit.proofs.found_connections.told_of_each.Goals as goal

pub told_of-requires : goal.told_of-requires
told_of-requires g c =
    let at = c.loop-connection in
    let (capture, packets, visited) = c.requires in
    let (opening, is) = zip-next (IsVisited (HasMetSegments (HasMetSent g.S.Showing.frames_shown)) capture packets)
    (openings (belongings packets))
    at.yielded c.in-Some.connection (into_iter_items c.next.new.self) _ _ c.in-Some.ensures.steps.0 at.invariant.all
    visited in
    (capture, packets, opening, is)

pub loop-connection-preserved : goal.loop-connection-preserved
loop-connection-preserved g c =
    let at = c.loop-connection in
    let rest = into_iter_items c.next.new.self in
    let heading = λ (one : MetConnection (ConnectionFindings g.row.S.Denot)). heading_by one.opening in
    record {
      all = taken-more at.yielded c.in-Some.connection rest _ _ c.in-Some.ensures.steps.0 at.invariant.all;
      headed = c.in_ok-push.ensures.items
          ∙ ap (λ (hs : List SectionHeading). hs ++ c.heading.result ∷ []) at.invariant.headed
          ∙ ap (λ (h : SectionHeading). map heading at.yielded ++ h ∷ []) c.heading.ensures
          ∙ sym (map-append heading at.yielded (c.in-Some.connection ∷ []));
      told = rw c.in_ok-push-2.ensures.items (zip-more (Answers (HasMetSent g.S.Showing.frames_shown)
          (IsWholeOfOpening g.S.Showing.frames_shown)) at.yielded at.told.items
          c.in-Some.connection c.in_ok-told_of.field-0 at.invariant.told c.in_ok-told_of.ensures);
    }

pub returns : goal.returns
returns g c = λ capture packets numbered visited.
    let at = c.loop-connection in
    let heading = λ (one : MetConnection (ConnectionFindings g.row.S.Denot)). heading_by one.opening in
    let all = taken-all at.yielded (into_iter_items at.connection-iterator) c.args.opened.items
    (sym at.connection-iterator.rest.ok.0 ∙ c.in-None.ensures.steps.0) at.invariant.all in
    let os = openings (belongings packets) in
    record {
      headed = at.invariant.headed ∙ ap (map heading) all
          ∙ visited-headings (HasMetSent g.S.Showing.frames_shown) capture packets os c.args.opened.items visited;
      each = zip-through (IsVisited (HasMetSegments (HasMetSent g.S.Showing.frames_shown)) capture packets) (Answers
          (HasMetSent g.S.Showing.frames_shown) (IsWholeOfOpening g.S.Showing.frames_shown))
          (IsWholeOfOpening g.S.Showing.frames_shown capture packets)
          (λ o connection made is answers. answers capture packets o numbered is) os
          c.args.opened.items at.told.items visited
          (subst (λ (cs : List (MetConnection (ConnectionFindings g.row.S.Denot))). AllZip (Answers
          (HasMetSent g.S.Showing.frames_shown) (IsWholeOfOpening g.S.Showing.frames_shown)) cs
          at.told.items) all at.invariant.told);
    }
