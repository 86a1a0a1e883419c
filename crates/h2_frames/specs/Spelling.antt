-- How bytes spell frames (RFC 9113, 4.1).
use Rattle.std.specs.Prelude.{◌≡◌, ℕ, ◌+◌, ◌<◌, ◌⊎◌, List, [], ◌∷◌, ◌++◌, length}
use Rattle.h2_frames.specs.declared.spelling.Spelled.{Spelled}
use Rattle.h2_frames.specs.Header.{header_of}
use Rattle.h2_frames.specs.Body.{body_of}

-- nine header bytes, and the payload of the length that they give, make the frame
pub record Makes (header payload : List ℕ) (frame : Spelled) : Type 0 where
  pub nine : length header ≡ 9
  pub whole : length payload ≡ frame.header.length
  pub header_is : frame.header ≡ header_of header
  pub body_is : frame.body ≡ body_of frame.header.code frame.header.flags payload

-- fewer bytes than a frame header has, or than the frame has that they begin
abbrev pub HoldsNoFrame : List ℕ → Type 0
HoldsNoFrame bytes = (length bytes < 9) ⊎ (length bytes < 9 + (header_of bytes).length)

-- the bytes are these frames, one after the other, and then a tail that holds no whole frame
-- //= https://www.rfc-editor.org/rfc/rfc9113#section-4.1
-- //# All frames begin with a fixed 9-octet header followed by a variable-length frame payload.
abbrev pub Spells : (bytes : List ℕ) → List Spelled → (tail : List ℕ) → Type 0
Spells bytes [] tail = (bytes ≡ tail) × HoldsNoFrame bytes
Spells bytes (frame ∷ later) tail =
    (header : List ℕ) × (payload : List ℕ) × (rest : List ℕ)
    × (bytes ≡ header ++ payload ++ rest) × Makes header payload frame × Spells rest later tail
