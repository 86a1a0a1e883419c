use Rattle.capture_parts.proofs.Terms.{AreSplit, IfSome, List, None, Option, Some, [], ℕ, ◌++◌, ◌≡◌}
use Rattle.pcap_records.specs.FileHeader.{ByteOrder, link_of, number_of}
use Rattle.pcap_records.specs.declared.format.Format.{Format}
use Rattle.capture_parts.proofs.files.split_capture.Goals as goal

-- what holds by the order and the link type of a dealer holds by those of the header
by_header : (P : ByteOrder → ℕ → Type 0) (order : ByteOrder) (link : ℕ) (header : List ℕ) (told : Option Format)
    → IfSome told (λ format. order ≡ number_of format.endian)
    → IfSome told (λ format. link ≡ link_of (number_of format.endian) header)
    → P order link → IfSome told (λ format. P (number_of format.endian) (link_of (number_of format.endian) header))
by_header P order link header None orders links holds = tt
by_header P order link header (Some format) orders links holds = rw (← links, ← orders) holds

pub returns-clause-split : goal.returns-clause-split
returns-clause-split g c =
    let behind = c.behind-splitter.ensures in
    let parts = c.args.parts.items in
    let (given, more, consumed, end, held, ends) = c.in_ok-split_files.ensures.split in
    let got = c.split_files.new.splitter.dealing.parts.items in
    rw c.into_parts.ensures (
      given,
      more,
      consumed,
      end,
      held,
      by_header (λ number link. AreSplit g.W.Write.contents number link (given ++ more) parts got)
          _ _ c.args.header.now _ behind.order behind.link (ends parts [] behind.none),
    )
