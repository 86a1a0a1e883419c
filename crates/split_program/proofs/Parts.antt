-- Parts that are made, one after the other.
use Rattle.std.proofs.Common.{◌≡◌, ◌+◌, ◌∷◌, ◌++◌, [], ℕ, List, Option, refl, subst, arith, length}
use Rattle.std.specs.Global.{Global}
use Rattle.std.specs.declared.io.buffered.BufWriter.{BufWriter}
use Rattle.capture_parts.specs.Outside.{Call}
use Rattle.capture_parts.specs.declared.part.Part.{Part}
use Rattle.split_program.specs.Paths.{AreNamed, IsNamed}
use Rattle.split_program.specs.Program.{MakesPart, MakesParts}
use Rattle.split_program.specs.declared.paths.PartPaths.{PartPaths}

-- one part more
pub AreNamed-snoc : (folder : List ℕ) (n m : ℕ) (paths : List PartPaths) (last : PartPaths) → m ≡ n + length paths
    → AreNamed folder n paths → IsNamed folder m last → AreNamed folder n (paths ++ last ∷ [])
AreNamed-snoc folder n m [] last is named one =
    (subst (λ k. IsNamed folder k last) (let e : m ≡ n = omega (arith, is) in e) one, tt)
AreNamed-snoc folder n m (p ∷ ps) last is (first, others) one =
    (first, AreNamed-snoc folder (n + 1) m ps last (omega (arith, is)) others one)

module _ {O F : Type 0} (does : O → Call F → O → Type 0) (contents : F → Option (List ℕ)) where
  pub MakesParts-snoc : (header : List ℕ) (before mid after : O) (paths : List PartPaths)
      (parts : List (Part (BufWriter F Global))) (path : PartPaths) (part : Part (BufWriter F Global))
      → MakesParts does contents header before paths parts mid
      → MakesPart does contents header mid path part after
      → MakesParts does contents header before (paths ++ path ∷ []) (parts ++ part ∷ []) after
  MakesParts-snoc header before mid after [] [] path part same one =
      (after, subst (λ o. MakesPart does contents header o path part after) same one, refl)
  MakesParts-snoc header before mid after [] (q ∷ qs) path part made one = absurd made
  MakesParts-snoc header before mid after (p ∷ ps) [] path part made one = absurd made
  MakesParts-snoc header before mid after (p ∷ ps) (q ∷ qs) path part (next, first, others) one =
      (next, first, MakesParts-snoc header next mid after ps qs path part others one)
