-- A connection made ready for the rounds.
use Rattle.std.specs.Prelude.{◌≡◌, ◌<◌, ◌^◌, ◌++◌, Bool, List, length}
use Rattle.audit_terms.specs.declared.findings.Finding.{Finding}
use Rattle.audit_terms.specs.declared.frames.Frame.{Frame}
use Rattle.audit_terms.specs.declared.items.Change.{Change}
use Rattle.audit_terms.specs.code.runs.Orderly.{IsOrderly}
use Rattle.audit_terms.specs.code.runs.LocalFaults.{local_run}
use Rattle.audit_terms.specs.code.runs.Changes.{AreAcknowledged, AreOrderly, changes_of, settings_run}
use Rattle.split_merge.specs.code.Split.{IsSplit}
use Rattle.audit_rounds.specs.declared.prepared.Prepared.{Prepared}

-- the frames of a connection, with changes by which they are split
pub record AreForSplit (frames : List Frame) (changes : List Change) : Type 0 where
  pub orderly : IsOrderly frames
  pub few : length frames < 2 ^ 28
  pub changes_orderly : AreOrderly changes
  pub acknowledged : AreAcknowledged frames changes

-- the frames of a connection, the changes that they bring, and their split
pub record IsPrepared (frames_shown : Bool) (prepared : Prepared) : Type 0 where
  pub orderly : IsOrderly prepared.frames.now
  pub changes : prepared.changes.items ≡ changes_of prepared.frames.now
  pub changes_orderly : AreOrderly prepared.changes.items
  pub acknowledged : AreAcknowledged prepared.frames.now prepared.changes.items
  pub split : IsSplit frames_shown prepared.changes.items prepared.frames.now prepared.split

-- what is found of a connection before the rounds: its local faults, then its unmatched acknowledgements
abbrev pub found_before : Prepared → List Finding
found_before prepared = local_run prepared.frames.now ++ settings_run prepared.frames.now
