use Rattle.std.proofs.Common.{◌∙◌, ◌++◌, ◌<◌, ap, arith, drop, length, length-append, subst, sym, take}
use Rattle.std.proofs.lemmas.List.{drop_all, length-take-le}
use Rattle.pcap_records.specs.FileHeader.{number_of}
use Rattle.pcap_records.specs.code.Walk.{IsAt}
use Rattle.pcap_records.proofs.Walking.{all_of_first, none_first, topped_at}
use Rattle.pcap_records.proofs.walk.RecordWalk.complete.Goals as goal

pub hand_on-requires : goal.hand_on-requires
hand_on-requires g c =
    let (front, fed, bound) = c.requires in
    let more = c.args.more.now in
    let used = c.in_ok-used.used in
    let topped = c.in_ok-used.ensures in (
      front ++ take used more,
      topped_at g.V.RecordVisitor.after front more c.top_up.new.begun.items c.deref.result.now used c.args.self.now fed
          topped c.deref.ensures.value,
      omega (
        arith,
        bound,
        length-append front (take used more),
        length-take-le used more topped.within,
        topped.within,
      ),
    )

pub returns-then-size-eq0-clause-fed : goal.returns-then-size-eq0-clause-fed
returns-then-size-eq0-clause-fed g c = λ front fed.
    let after = g.V.RecordVisitor.after in
    let old = c.args.self.now in
    let used = c.in_ok-used.used in
    let size = c.in_ok-size.size in
    let value = c.deref.ensures.value in
    let bytes = c.deref.result.now in
    let handed = c.in_ok-size.ensures in
    let at = handed.at (front ++ take used c.args.more.now)
    (topped_at after front c.args.more.now c.top_up.new.begun.items bytes used old fed c.in_ok-used.ensures value) in
    let none = none_first (number_of old.cursor.format.endian) bytes size handed.size c.if-size-eq0.true in
    record {
      at = subst
          (λ bytes. IsAt after (front ++ take used c.args.more.now) bytes c.hand_on.new.cursor c.hand_on.new.visitor)
          (ap (λ n. drop n bytes) c.if-size-eq0.true ∙ value) at;
      through = rw (handed.format, sym value) none;
    }

pub returns-clause-fed : goal.returns-clause-fed
returns-clause-fed g c = λ front fed.
    let after = g.V.RecordVisitor.after in
    let old = c.args.self.now in
    let used = c.in_ok-used.used in
    let size = c.in_ok-size.size in
    let value = c.deref.ensures.value in
    let bytes = c.deref.result.now in
    let handed = c.in_ok-size.ensures in
    let topped = c.in_ok-used.ensures in
    let at = handed.at (front ++ take used c.args.more.now)
    (topped_at after front c.args.more.now c.top_up.new.begun.items bytes used old fed topped value) in
    let some : 0 < size = omega (arith, c.if-size-eq0.false) in
    let all = all_of_first (number_of old.cursor.format.endian) old.begun.items c.args.more.now
    c.top_up.new.begun.items bytes used size topped value handed.size some in
    record {
      at = subst
          (λ bytes. IsAt after (front ++ take used c.args.more.now) bytes c.hand_on.new.cursor c.hand_on.new.visitor)
          (drop_all size bytes all ∙ sym c.clear.ensures.items) at;
      through = λ begins. omega (arith, begins.0, ap length c.clear.ensures.items);
    }
