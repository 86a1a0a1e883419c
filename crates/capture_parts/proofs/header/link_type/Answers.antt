use Rattle.capture_parts.proofs.Terms.{◌≡◌}
use Rattle.std.proofs.lemmas.Option.{IfSome_then}
use Rattle.pcap_records.specs.FileHeader.{format_of, link_of, number_of}
use Rattle.capture_parts.proofs.header.link_type.Goals as goal

pub returns : goal.returns
returns c =
    let header = c.args.header.now in
    IfSome_then (format_of header) {P = λ format. c.endian.result ≡ format.endian}
    {Q = λ format. c.link_in.result ≡ link_of (number_of format.endian) header} c.endian.ensures
    (λ format same. rw (← same) c.link_in.ensures)
