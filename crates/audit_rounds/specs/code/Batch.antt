-- The connections of a batch, made ready, and what is found of each.
use Rattle.std.specs.Prelude.{◌≡◌, ◌++◌, All, Bool, List, Result, Ok, Vec, map}
use Rattle.std.specs.Global.{Global}
use denote.Ref.{Bor}
use Rattle.audit_terms.specs.declared.frames.Frame.{Frame}
use Rattle.split_merge.specs.declared.findings.Findings.{Findings}
use Rattle.split_merge.specs.code.Findings.{findings_in}
use Rattle.audit_terms.specs.code.runs.Orderly.{IsOrderly}
use Rattle.audit_terms.specs.Finding.{shown}
use Rattle.audit_terms.specs.Pass.{pass}
use Rattle.audit_rounds.specs.declared.per_connection.PerConnection.{PerConnection}
use Rattle.audit_rounds.specs.code.Few.{AreFew}
use Rattle.audit_rounds.specs.code.PerConnection.{BeginsRounds}

-- connections that may go through the rounds together
pub record IsBatch (connections : List (Bor (List Frame))) : Type 0 where
  pub orderly : All (λ (frames : Bor (List Frame)). IsOrderly frames.now) connections
  pub few : AreFew connections

-- the same, made ready
pub record AreReady (frames_shown : Bool) (connections : List (Bor (List Frame))) (ready : List PerConnection) : Type 0
  where
    pub frames : map (λ (one : PerConnection). one.prepared.frames.now) ready
        ≡ map (λ (frames : Bor (List Frame)). frames.now) connections
    pub each : All (BeginsRounds frames_shown) ready

-- what is shown of each connection
abbrev pub AreShown : (frames_shown : Bool) → List (Bor (List Frame)) → List Findings → Type 0
AreShown frames_shown connections found = map findings_in found
    ≡ map (λ (frames : Bor (List Frame)). shown frames_shown (pass frames.now)) connections

-- what was made of a share, and then what was made of the rest
pub record AreBoth {T E : Type 0} (one other : Result (Vec T Global) E) (all : List T) : Type 0 where
  pub front : Vec T Global
  pub back : Vec T Global
  pub one_made : one ≡ Ok front
  pub other_made : other ≡ Ok back
  pub whole : front.items ++ back.items ≡ all
