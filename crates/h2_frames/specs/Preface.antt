-- The connection preface of a client (RFC 9113, 3.4).
use Rattle.std.specs.Prelude.{◌≡◌, ℕ, ◌<◌, List, [], ◌∷◌, ◌++◌, length, codes}

-- "PRI * HTTP/2.0\r\n\r\nSM\r\n\r\n", 24 bytes
abbrev pub preface : List ℕ
preface = codes "PRI * HTTP/2.0" ++ 13 ∷ 10 ∷ 13 ∷ 10 ∷ [] ++ codes "SM" ++ 13 ∷ 10 ∷ 13 ∷ 10 ∷ []

-- a part of the preface from its start, not all of it
abbrev pub IsPrefaceCutShort : List ℕ → Type 0
IsPrefaceCutShort bytes = (missing : List ℕ) × (0 < length missing) × (bytes ++ missing ≡ preface)

-- the preface, and then the rest
-- //= https://www.rfc-editor.org/rfc/rfc9113#section-3.4
-- //# The client connection preface starts with a sequence of 24 octets
abbrev pub BeginsWithPreface : (bytes rest : List ℕ) → Type 0
BeginsWithPreface bytes rest = bytes ≡ preface ++ rest
