use Rattle.std.proofs.Common.{◌∙◌, ◌+◌, ◌++◌, [], ◌∷◌, ap, arith, if◌then◌else◌, length-append, sym}
use Rattle.audit_report.proofs.Counting.{count-more, lines-more, on-ok}
use Rattle.audit_report.specs.CaptureLine.{is_fragment, is_not_ipv4, is_not_tcp, is_refused, is_segment, is_snapped}
use Rattle.audit_report.specs.RecordLines.{record_line, record_lines_from}
use Rattle.audit_report.proofs.capture.CaptureLines.take.Goals as goal

pub returns : goal.returns
returns c = λ packets has.
    let x = c.args.packet.now in
    let added = c.add.ensures in
    on-ok c.push_record_line.result (λ pushed. record {
      count = omega (arith, has.count, length-append packets (x ∷ []));
      tally = record {
        segments = added.segments ∙ ap (λ n. n + (if is_segment x then 1 else 0)) has.tally.segments
            ∙ sym (count-more is_segment packets x);
        snapped = added.snapped ∙ ap (λ n. n + (if is_snapped x then 1 else 0)) has.tally.snapped
            ∙ sym (count-more is_snapped packets x);
        not_ipv4 = added.not_ipv4 ∙ ap (λ n. n + (if is_not_ipv4 x then 1 else 0)) has.tally.not_ipv4
            ∙ sym (count-more is_not_ipv4 packets x);
        fragments = added.fragments ∙ ap (λ n. n + (if is_fragment x then 1 else 0)) has.tally.fragments
            ∙ sym (count-more is_fragment packets x);
        not_tcp = added.not_tcp ∙ ap (λ n. n + (if is_not_tcp x then 1 else 0)) has.tally.not_tcp
            ∙ sym (count-more is_not_tcp packets x);
        refused = added.refused ∙ ap (λ n. n + (if is_refused x then 1 else 0)) has.tally.refused
            ∙ sym (count-more is_refused packets x);
      };
      records = pushed ∙ ap (λ front. front ++ record_line (c.args.self.now.count + 1) x) has.records
          ∙ ap (λ n. record_lines_from 1 packets ++ record_line n x) (omega (arith, has.count))
          ∙ sym (lines-more 1 packets x);
    }) c.push_record_line.ensures
