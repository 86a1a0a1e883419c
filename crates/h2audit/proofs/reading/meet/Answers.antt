use Rattle.std.proofs.Common.{rules, ◌≡◌, ◌∙◌, ◌+◌, ◌++◌, length, length-append, sym, ap, subst, take, arith, List}
use Rattle.std.proofs.Common.{ℕ, Some, IfErr, IfOk, refl}
use Rattle.std.proofs.lemmas.List.{take_all}
use Rattle.std.proofs.lemmas.Result.{IfOk-weaker}
use Rattle.pcap_records.specs.Refusal.{refusal}
use Rattle.input_output.specs.Account.{given, kept}
use Rattle.input_output.proofs.CallLemmas.{gives-trans}
use Rattle.input_output.proofs.Kept.{gave_front, read_to_end}
use Rattle.packet_heads.specs.code.Walk.{HasMade}
use Rattle.h2audit.proofs.Kept.{header_answers, met_header_of}
use Rattle.h2audit.proofs.Leaving.{refusal_of_given}
use Rattle.h2audit.specs.code.Met.{HasMetPackets}
use Rattle.h2audit.proofs.reading.meet.Goals as goal

pub returns-then-has_ended-clause-read : goal.returns-then-has_ended-clause-read
returns-then-has_ended-clause-read g c =
    let after = g.V.ConnectionVisitor.after in
    let now = c.keep_up_to.new.reader in
    let read = c.in_ok-keep_up_to.ensures in
    let none = c.keep_up_to.ensures.grown.unpassed in
    let start = rw c.requires.unread.kept at read.bytes in
    let same : given now ≡ kept now = rw c.requires.unread.reads at start.1 in
    let size : length (given now) ≡ length (kept now) + now.passed = omega (arith, ap length same, none) in
    let slice : c.kept.result.now ≡ given now = c.kept.ensures ∙ sym same in
    let few = take_all 24 (given now)
    (omega (arith, ap length same, read.ended.sound.within, c.keep_up_to.ensures.grown.room)) in
    record {
      bytes = gave_front (g.R.Read.remaining c.args.reader.now.source.reader) (g.R.Read.remaining now.source.reader) now
          (rw (← same) at start.0) read.ended.sound size (λ unended. search rules) read.ended.end;
      short = omega (arith, size, read.ended.sound.limit);
      ok = read_to_end now read.ended.sound size (λ unended. search rules);
      brief = λ _. c.keep_up_to.ensures.grown.room;
      header = met_header_of after (given now) c.begin-begun.result c.header_by.result c.header_by.ensures.taken
          c.header_by.ensures.refused
          (subst (λ (bytes : List ℕ). IfOk c.begin-begun.result (HasMade (HasMetPackets after) bytes))
          (ap (take 24) slice ∙ few) c.begin-begun.ensures.ok)
          (subst (λ (bytes : List ℕ). IfErr c.begin-begun.result (λ e. refusal bytes ≡ Some e)) slice
          c.begin-begun.ensures.err);
    }

pub walk_and_let_go-read-requires-clause-walk : goal.walk_and_let_go-read-requires-clause-walk
walk_and_let_go-read-requires-clause-walk g c =
    let after = g.V.ConnectionVisitor.after in
    let now = c.keep_up_to.new.reader in
    let start = rw c.requires.unread.kept at c.in_ok-keep_up_to.ensures.bytes in
    let same : given now ≡ kept now = rw c.requires.unread.reads at start.1 in
    let slice : c.kept.result.now ≡ given now = c.kept.ensures ∙ sym same in
    let few = take_all 24 (given now) (omega (
      arith,
      ap length same,
      c.in_ok-keep_up_to.ensures.ended.sound.within,
      c.keep_up_to.ensures.grown.room,
    )) in
    record {
      stands = subst (λ (bytes : List ℕ). HasMade (HasMetPackets after) bytes c.in-Ok.walk)
          (ap (take 24) slice ∙ few) c.in-Ok.ensures.ok;
      counted = omega (arith, ap length same, c.keep_up_to.ensures.grown.unpassed);
    }

pub returns-in-Ok-clause-read : goal.returns-in-Ok-clause-read
returns-in-Ok-clause-read g c = IfOk-weaker c.behind_read.result _ _ (λ gives is.
    let header = c.keep_up_to.new.reader in
    let now = c.walk_and_let_go-read.new.reader in
    let read = rw is.0 at c.walk_and_let_go-read.ensures in
    let ended = read.ended in
    let (passed, count, behind) = read.bytes in
    let start = rw c.requires.unread.kept at c.in_ok-keep_up_to.ensures.bytes in
    let gave = gives-trans g.R.Read.remaining c.args.reader.now.source header.source now.source (kept header) passed
    start behind in
    rw is.1 (record {
      bytes = gave_front (g.R.Read.remaining c.args.reader.now.source.reader) (g.R.Read.remaining now.source.reader) now
          (rw (← (rw c.requires.unread.reads at gave.1)) at gave.0) ended.sound read.walk.counted ended.whole ended.end;
      short = omega (arith, read.walk.counted, ended.sound.limit);
      ok = read_to_end now ended.sound read.walk.counted ended.whole;
      brief = λ _. rw c.walk_and_let_go-read.ensures.kept c.keep_up_to.ensures.grown.room;
      header = read.walk.stands;
    })) c.behind_read.ensures.ok

pub returns-in-Err-clause-read : goal.returns-in-Err-clause-read
returns-in-Err-clause-read g c = IfOk-weaker c.behind_read-in-Err.result _ _ (λ gives is.
    let header = c.keep_up_to.new.reader in
    let now = c.pass_over.new.reader in
    let read = rw is.0 at c.pass_over.ensures in
    let ended = read.ended in
    let (passed, count, behind) = read.bytes in
    let start = rw c.requires.unread.kept at c.in_ok-keep_up_to.ensures.bytes in
    let same : kept now ≡ kept header = rw c.pass_over.ensures.kept refl in
    let gave = gives-trans g.R.Read.remaining c.args.reader.now.source header.source now.source (kept header) passed
    start behind in
    let all : given now ≡ kept now ++ passed =
    (rw c.requires.unread.reads at gave.1) ∙ ap (λ front. front ++ passed) (sym same) in
    let size : length (given now) ≡ length (kept now) + now.passed = omega (
      arith,
      ap length all,
      length-append (kept now) passed,
      count,
      c.keep_up_to.ensures.grown.unpassed,
    ) in
    let filled : length (kept header) ≡ 24 = search rules in
    let refused = ap refusal (same ∙ sym c.kept.ensures) ∙ c.in-Err.ensures.err in
    let answers = header_answers now passed c.in-Err.refusal all (ap length same ∙ filled) refused in
    rw is.1 (record {
      bytes = gave_front (g.R.Read.remaining c.args.reader.now.source.reader) (g.R.Read.remaining now.source.reader) now
          (rw (← (rw c.requires.unread.reads at gave.1)) at gave.0) ended.sound size ended.whole ended.end;
      short = omega (arith, size, ended.sound.limit);
      ok = read_to_end now ended.sound size ended.whole;
      brief = λ _. rw c.pass_over.ensures.kept c.keep_up_to.ensures.grown.room;
      header = refusal_of_given now (Some c.in-Err.refusal) answers refused;
    })) c.behind_read-in-Err.ensures.ok
