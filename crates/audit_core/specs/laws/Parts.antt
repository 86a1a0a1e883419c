-- The pass is, in order, what its parts show by themselves, however streams are grouped and frames divided.
use Rattle.std.specs.Prelude.{◌≡◌, ℕ, List, ◌++◌}
use Rattle.std.specs.List.{flat_map}
use Rattle.audit_terms.specs.declared.frames.Frame.{Frame}
use Rattle.audit_terms.specs.declared.items.Item.{Item}
use Rattle.audit_terms.specs.declared.findings.Finding.{Finding}
use Rattle.audit_terms.specs.code.runs.Orderly.{IsOrderly}
use Rattle.audit_terms.specs.Finding.{in_order}
use Rattle.audit_terms.specs.code.runs.LocalFaults.{local_run}
use Rattle.audit_terms.specs.code.runs.Changes.{settings_run}
use Rattle.audit_terms.specs.Connection.{connection_start}
use Rattle.audit_terms.specs.Pass.{full, streams_of}
use Rattle.audit_terms.specs.code.runs.States.{items_of}
use Rattle.audit_terms.specs.code.runs.Streams.{group_run}
use Rattle.audit_terms.specs.code.runs.Blocks.{block_runs}

-- consecutive parts of a list, joined
abbrev pub joined : {A : Type 0} → List (List A) → List A
joined parts = flat_map (λ part. part) parts

-- the local faults, the unmatched acknowledgements, the findings of all groups of streams and those of all blocks
abbrev pub runs_of_parts : List Frame → (groups : List (List ℕ)) → (blocks : List (List Item)) → List Finding
runs_of_parts frames groups blocks =
    ((local_run frames ++ settings_run frames) ++ flat_map (group_run frames) groups)
    ++ block_runs connection_start blocks

-- all findings of a connection are those of its parts, put in order
abbrev pub PartsMakeFull : Type 0
PartsMakeFull = (frames : List Frame) (groups : List (List ℕ)) (blocks : List (List Item)) → IsOrderly frames →
    joined groups ≡ streams_of frames → joined blocks ≡ items_of frames →
    full frames ≡ in_order (runs_of_parts frames groups blocks)
