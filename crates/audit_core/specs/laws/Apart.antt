-- No two findings of a connection share place and side, and no two errors of the connection share a place.
use Rattle.std.specs.Prelude.{◌≡◌, ◌≢◌, true, List}
use Rattle.audit_terms.specs.declared.frames.Frame.{Frame}
use Rattle.audit_terms.specs.declared.findings.Finding.{Finding}
use Rattle.audit_terms.specs.Finding.{stops}
use Rattle.audit_terms.specs.code.runs.Orderly.{IsOrderly}
use Rattle.audit_terms.specs.Pass.{full}
use Rattle.audit_terms.specs.laws.Pairs.{EachPair}

-- two findings that differ in place or in side
abbrev pub AreApart : Finding → Finding → Type 0
AreApart x y = x.place ≡ y.place → x.side ≢ y.side

-- no two of these findings share place and side
abbrev pub StandApart : List Finding → Type 0
StandApart findings = EachPair AreApart findings

-- so it is with all findings of a connection: what is said of an endpoint at a place is said once
abbrev pub FindingsStandApart : Type 0
FindingsStandApart = (frames : List Frame) → IsOrderly frames → StandApart (full frames)

-- two findings that differ in place, if both are errors of the connection (RFC 9113, 5.4.1)
abbrev pub AreApartAsErrors : Finding → Finding → Type 0
AreApartAsErrors x y = stops x ≡ true → stops y ≡ true → x.place ≢ y.place

-- at each place at most one error of the connection is said, whichever endpoint it is of
abbrev pub ErrorsStandAlone : Type 0
ErrorsStandAlone = (frames : List Frame) → IsOrderly frames → EachPair AreApartAsErrors (full frames)
