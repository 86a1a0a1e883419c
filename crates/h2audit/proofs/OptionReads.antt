-- What the getters of clap's matches read for the program's options.
use Rattle.std.proofs.Common.{ℕ, ◌≡◌, ◌∙◌, ◌<◌, ◌≤◌, ◌^◌, ap, sym, subst, refl, Bool, true, false, List, Option, Some}
use Rattle.std.proofs.Common.{None, Result, codes}
use Rattle.std.specs.Prelude.{unwrap_or, IfSome, IsSome}
use Rattle.std.specs.Bool.{Decides}
use Rattle.std.specs.Str.Parse.{ParsesBool, ParsesUnsigned, ExplainsUnsignedError, HasUnsignedDigitsIfOk}
use Rattle.std.specs.declared.num.ParseIntError.{ParseIntError}
use Rattle.clap.specs.Words.{ReadsOne, Row, Text, one_of, one_text, rows_of, without_minus}
use Rattle.clap.specs.declared.parser.matches.Found.{Found}
use Rattle.clap.proofs.CallerReads.{signed_reads}
use Rattle.clap.proofs.WalkLemmas.{one_text-rows}
use Rattle.h2audit.specs.declared.command_line.options.Options.{Options}
use Rattle.h2audit.specs.Asked.{IsFound, IsNumberOf}
use Rattle.h2audit.specs.code.Choices.{Choices, choices}
use Rattle.h2audit.specs.code.Numbers.{HasNumber}

-- what `u32` reads in a text
abbrev ReadsU32 : List ℕ → Result ℕ ParseIntError → Type 0
ReadsU32 bs r = ParsesUnsigned 32 10 bs r × ExplainsUnsignedError 10 bs r × HasUnsignedDigitsIfOk bs r

-- a getter's answer for a name
abbrev pub IsReadOf : Found → (name : Text) → Option ℕ → Type 0
IsReadOf f name r = (t : Text) → one_text f name ≡ Some t → ReadsOne ReadsU32 t r

-- a number that was found is read, is in its range, and the one that is spelled
pub number_read : (f : Found) (name : Text) (most : ℕ) (r : Option ℕ) → most < 2 ^ 32 → HasNumber f name most
    → IsReadOf f name r
    → IsSome r × IfSome r (λ n. ((1 ≤ n) × (n ≤ most)) × IsNumberOf name (rows_of f) n)
number_read f name most r fits (text, found, signed) reads =
    let read = reads (without_minus text) found in
    let (n, is, some, few) = signed_reads ParseIntError ReadsU32 32 1 most text r read (λ u x g. g.0) fits signed in
    let ((numeral, _), value) = (rw is at read).0 in
    let named = sym (one_text-rows f name) ∙ found in
    rw is (refl, ((some, few), (without_minus text, named, (numeral, value))))

-- a flag is true exactly where its text is
pub flag_read : (E : Type 0) (f : Found) (name : Text) (r : Option Bool) → (one_text f name ≡ None → r ≡ None)
    → ((t : Text) → one_text f name ≡ Some t → ReadsOne (ParsesBool {E = E}) t r)
    → Decides (unwrap_or r false) (one_of name (rows_of f) ≡ Some (codes "true"))
flag_read E f name r none reads = rw (sym (one_text-rows f name)) (go (one_text f name) refl)
  where
    at_text : (t : Text) (o : Option Bool) → ReadsOne (ParsesBool {E = E}) t o
        → Decides (unwrap_or o false) (Some t ≡ Some (codes "true"))
    at_text t (Some true) is = (λ _. ap Some is, λ _. refl)
    at_text t (Some false) is = (λ e. let bad : false ≡ true = e in cc, λ e. cc)
    at_text t None is = (
      λ e. let bad : false ≡ true = e in cc,
      λ e. absurd (is.1.0 (ap (λ (o : Option Text). unwrap_or o t) e)),
    )

    go : (o : Option Text) → one_text f name ≡ o → Decides (unwrap_or r false) (o ≡ Some (codes "true"))
    go None e = rw (none e) (λ h. let bad : false ≡ true = h in cc, λ h. cc)
    go (Some t) e = at_text t r (reads t e)

-- the choices are what was found
abbrev AreFoundIn : List Row → Choices → Type 0
AreFoundIn found v = IsNumberOf (codes "workers") found v.workers × IsNumberOf (codes "groups") found v.groups
    × IsNumberOf (codes "block") found v.block
    × Decides v.frames_shown (one_of (codes "frames") found ≡ Some (codes "true"))

-- and so are options with these choices
pub found_of-choices : (found : List Row) (options : Options) (v : Choices) → choices options ≡ v → AreFoundIn found v
    → IsFound found options
found_of-choices found options v is by =
    let (workers, groups, block, shown) = subst (AreFoundIn found) (sym is) by in
    record { workers = workers; groups = groups; block = block; frames_shown = shown }
