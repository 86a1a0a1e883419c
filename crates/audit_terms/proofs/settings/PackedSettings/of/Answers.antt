use Rattle.{audit_terms.proofs.Packing.packed-IsPacked, audit_terms.proofs.Packing.packed_fields, std.proofs.Common.◌∙◌}
use Rattle.audit_terms.proofs.settings.PackedSettings.of.Goals as goal

pub invariant_of-result : goal.invariant_of-result
invariant_of-result c =
    packed-IsPacked c.args.settings.now _
    (packed_fields c.args.settings.now c.one_more.ensures c.mark.ensures c.mark-2.ensures
    c.mark-3.ensures (c.of.ensures ∙ c.unwrap_or.ensures) (c.of-2.ensures ∙ c.unwrap_or-2.ensures)
    (c.of-3.ensures ∙ c.unwrap_or-3.ensures))
