use Rattle.capture_parts.proofs.Terms.{IfSome, List, None, Option, Some, ap, arith, big_from-take, eq-eqb, eqb-true}
use Rattle.capture_parts.proofs.Terms.{big_number, not-false, refl, sym, take, ℕ, ◌∙◌, ◌≡◌}
use Rattle.std.proofs.lemmas.Slice.Eq.{slice_eq-Decides}
use Rattle.pcap_records.specs.FileHeader.{format_by}
use Rattle.pcap_records.specs.declared.format.Format.{Format}
use Rattle.capture_parts.proofs.files.like_first.Goals as goal

both : (told : Option Format) (a b : ℕ) (p q : Format → ℕ) → a ≡ b → IfSome told (λ format. a ≡ p format)
    → IfSome told (λ format. b ≡ q format) → IfSome told (λ format. p format ≡ q format)
both None a b p q same own first = tt
both (Some format) a b p q same own first = sym own ∙ same ∙ first

-- four bytes are a number
magic : (bytes : List ℕ) → big_number 4 (take 4 bytes) ≡ big_number 4 bytes
magic bytes = big_from-take 0 4 4 bytes (omega arith)

pub returns-clause-continues : goal.returns-clause-continues
returns-clause-continues c =
    let own : List ℕ = c.args.own.now in
    let first : List ℕ = c.args.header.now in
    let fronts : take 4 own ≡ take 4 first =
    (slice_eq-Decides (λ (a b : ℕ). (eqb-true a b, eq-eqb a b)) (take 4 own) (take 4 first) _ refl).0
    (not-false _ (sym c.ne.ensures ∙ c.if-ne.false)) in
    let format = ap format_by (sym (magic own) ∙ ap (big_number 4) fronts ∙ magic first) in
    record {
      taken = sym c.refusal.ensures ∙ c.in_default.is;
      format = format;
      link = both _ _ _ _ _ c.if-link_type.false (rw format at c.link_type.ensures) c.link_type-2.ensures;
    }
