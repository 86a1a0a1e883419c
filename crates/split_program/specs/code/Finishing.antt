-- What may be called while full parts are refused.
use Rattle.std.specs.Prelude.{◌≡◌, ◌⊎◌, ⊤, List, Contains, string_bytes}
use Rattle.capture_parts.specs.Outside.{Call, RemovedFile, Said}
use Rattle.split_program.specs.declared.paths.PartPaths.{PartPaths}

module _ {F : Type 0} where
  -- while a part is
  abbrev pub IsRemoval : PartPaths → Call F → Type 0
  IsRemoval part (Said line) = ⊤
  IsRemoval part (RemovedFile path done) = (path ≡ string_bytes part.packets) ⊎ (path ≡ string_bytes part.numbers)
  IsRemoval part _ = ⊥

  -- while several are
  abbrev pub IsRefusal : List PartPaths → Call F → Type 0
  IsRefusal parts (Said line) = ⊤
  IsRefusal parts (RemovedFile path done) = (part : PartPaths) × Contains parts part
      × ((path ≡ string_bytes part.packets) ⊎ (path ≡ string_bytes part.numbers))
  IsRefusal parts _ = ⊥
