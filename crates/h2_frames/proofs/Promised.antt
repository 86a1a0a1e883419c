-- The stream that a payload promises is a number of 31 bits.
use Rattle.std.proofs.Common.{ℕ, ◌<◌, ◌^◌, List, drop, if◌then◌else◌, lit<, arith}
use Rattle.std.proofs.lemmas.Nat.{mod_below}
use Rattle.audit_terms.specs.declared.frames.Body.{Body}
use Rattle.byteorder.specs.Endian.{big_number}
use Rattle.h2_frames.specs.Body.{is_padded, padded_body}
use Rattle.h2_frames.proofs.Words.{Makes, Spelled, body_of, promised_in}

padded : (flags : ℕ) (payload : List ℕ) (fields : ℕ) (body : Body) → promised_in body < 2 ^ 31
    → promised_in (padded_body flags payload fields body) < 2 ^ 31
padded flags payload fields body fits = grind (arith, fits)

said : (code flags : ℕ) (payload : List ℕ) → promised_in (body_of code flags payload) < 2 ^ 31
said code flags payload =
    let promised = mod_below (big_number 4 (drop (if is_padded flags then 1 else 0) payload)) (2 ^ 31) (lit< tt) in
    grind (arith, promised, padded flags payload)

pub promised-fits : (frame : Spelled) → {header payload : List ℕ} → Makes header payload frame
    → promised_in frame.body < 2 ^ 31
promised-fits frame {payload = payload} makes =
    rw makes.body_is (said frame.header.code frame.header.flags payload)
