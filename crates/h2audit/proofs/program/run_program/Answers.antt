use Rattle.std.proofs.Common.{◌≡◌, ℕ, List, Option, Some, None, IfSome, Result, String, ap, inr, refl, rules}
use Rattle.std.specs.Prelude.{string_bytes}
use Rattle.std.proofs.KnownBytes.{Appends-nil}
use Rattle.std.specs.Fn.{CalledAt}
use Rattle.std.specs.Global.{Global}
use Rattle.std.specs.Process.{exit_status}
use Rattle.std.specs.declared.io.Error.{Error}
use Rattle.h2audit.specs.Program.{Answers}
use Rattle.h2audit.specs.code.Inputs.{HasAuditedFile, HasAuditedInput}
use Rattle.h2audit.specs.declared.command_line.options.Options.{Options}
use Rattle.h2audit.specs.declared.command_line.words.Parsed.TheVariants.{Run}
use Rattle.h2audit.specs.declared.fault.AuditFault.{AuditFault}
use Rattle.h2audit.specs.declared.program.Outside.{Outside}
use Rattle.h2audit.specs.declared.verdict.Verdict.{Verdict}
use Rattle.h2audit.proofs.program.run_program.Goals as goal

module _ {O S I F W : Type 0} (opens : O → List ℕ → Result F Error → O → Type 0) (says : S → List ℕ → S → Type 0)
    (input_left : I → Option (List ℕ)) (file_left : F → Option (List ℕ)) (before after : Outside O S I F W) (said : S)
    (status : ℕ) (options : Options) (answer : Result Verdict AuditFault) where
  -- the input that was asked for was audited, whatever is said then
  answered : (path : Option (String Global))
      → IfSome path (λ p. HasAuditedFile opens file_left before after (string_bytes p) options.frames_shown answer)
      → IfSome path (λ p. after.input ≡ before.input)
      → (path ≡ None → HasAuditedInput input_left before after options.frames_shown answer)
      → Answers opens says input_left file_left before (record after { say = said }) status (Run options path) answer
  answered (Some path) file alone input = (rw alone refl, file)
  answered None file alone input =
      let is = input refl in (ap (λ (o : Outside O S I F W). record o { say = said }) is.0, is.1, is.2)

pub returns-in-Ok-Run-clause-ends : goal.returns-in-Ok-Run-clause-ends
returns-in-Ok-Run-clause-ends g c =
    let found = c.in-Ok-Run in
    let audited = c.audit_input-answer.ensures in
    let ended = c.end.ensures in
    inr (
      found.field-0,
      found.ensures,
      rw found.field-0-is (
        c.audit_input-answer.result,
        answered (CalledAt g.O.FnMut) (λ say line. CalledAt g.S.FnMut say line tt) g.I.Read.remaining g.F.Read.remaining
            c.args.outside.now c.audit_input-answer.new.outside c.end.new.say (exit_status c.end.result) found.options
            c.audit_input-answer.result found.path audited.file audited.file_alone audited.input,
        (ended.status, rw audited.silent at ended.line, rw audited.silent at ended.silent),
      ),
    )

pub returns-in-Ok-Help-clause-ends : goal.returns-in-Ok-Help-clause-ends
returns-in-Ok-Help-clause-ends g c =
    let found = c.in-Ok-Help in
    let ended = c.end-in-Ok-Help.ensures in
    inr (
      found.field-0,
      found.ensures,
      rw found.field-0-is
          (c.show.result, (refl, c.show.ensures.shown), (ended.status, ended.line, ended.silent)),
    )

pub returns-in-Ok-Version-clause-ends : goal.returns-in-Ok-Version-clause-ends
returns-in-Ok-Version-clause-ends g c =
    let found = c.in-Ok-Version in
    let ended = c.end-in-Ok-Version.ensures in
    let shown = c.show-in-Ok-Version in
    inr (
      found.field-0,
      found.ensures,
      rw found.field-0-is
          (shown.result, (refl, shown.ensures.shown), (ended.status, ended.line, ended.silent)),
    )

pub returns-in-Ok-Refused : goal.returns-in-Ok-Refused
returns-in-Ok-Refused g c =
    let found = c.in-Ok-Refused in
    record {
      ends = inr (
        found.field-0,
        found.ensures,
        rw found.field-0-is
            (c.from.ensures, refl, record { shown = c.trim_end.result; shows = search rules; called = c.say.ensures }),
      );
      taken = rw c.requires.unwritten (Appends-nil (g.W.Write.contents c.args.outside.now.output.writer));
    }
