-- Which windows are live (RFC 9113, 5.1): those of streams that are opened, on which their endpoint still sends.
use Rattle.std.specs.Prelude.{ℕ, List, OnSome, IsSome, IsFalse}
use Rattle.audit_terms.specs.declared.sides.Side.{Side}
use Rattle.audit_terms.specs.declared.frames.Frame.{Frame}
use Rattle.audit_terms.specs.Sides.{side_of}
use Rattle.audit_terms.specs.code.runs.States.{state_after}

-- after any frames a window that is live is of a stream that is opened
abbrev pub LiveWindowsAreOpened : Type 0
LiveWindowsAreOpened = (d : Side) (stream : ℕ) (frames : List Frame) →
    let now = (state_after frames).streams stream in OnSome (side_of d now.window) (IsSome now.life.opened)

-- and the endpoint that sends through it has not ended the stream
abbrev pub LiveWindowsAreUnended : Type 0
LiveWindowsAreUnended = (d : Side) (stream : ℕ) (frames : List Frame) →
    let now = (state_after frames).streams stream in OnSome (side_of d now.window) (IsFalse (side_of d now.life.ended))
