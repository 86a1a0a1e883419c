-- What may be called while parts are refused, and while a split is finished.
use Rattle.std.proofs.Common.{List}
use Rattle.std.specs.Prelude.{Contains}
use Rattle.capture_parts.specs.Outside.{Call, Created, MadeFolder, Opened, Printed, RemovedFile, RemovedFolder, Said}
use Rattle.capture_parts.specs.Outside.{Wrote}
use Rattle.split_program.specs.Program.{IsFinishing}
use Rattle.split_program.specs.code.Finishing.{IsRefusal, IsRemoval}
use Rattle.split_program.specs.declared.paths.PartPaths.{PartPaths}
use Rattle.split_program.specs.declared.paths.Paths.{Paths}

module _ {F : Type 0} where
  pub refusal_of : (parts : List PartPaths) (part : PartPaths) → Contains parts part → (call : Call F)
      → IsRemoval part call → IsRefusal parts call
  refusal_of parts part within (Said line) may = tt
  refusal_of parts part within (RemovedFile path done) may = (part, within, may)
  refusal_of parts part within (Opened path answer) may = absurd may
  refusal_of parts part within (MadeFolder path done) may = absurd may
  refusal_of parts part within (Created path answer) may = absurd may
  refusal_of parts part within (Wrote path text done) may = absurd may
  refusal_of parts part within (RemovedFolder path done) may = absurd may
  refusal_of parts part within (Printed text done) may = absurd may

  pub finishing_of : (paths : Paths) (call : Call F) → IsRefusal paths.parts.items call → IsFinishing paths call
  finishing_of paths (Said line) may = tt
  finishing_of paths (RemovedFile path done) may = may
  finishing_of paths (Opened path answer) may = absurd may
  finishing_of paths (MadeFolder path done) may = absurd may
  finishing_of paths (Created path answer) may = absurd may
  finishing_of paths (Wrote path text done) may = absurd may
  finishing_of paths (RemovedFolder path done) may = absurd may
  finishing_of paths (Printed text done) may = absurd may
