-- Pieces, one after the other.
use Rattle.std.proofs.Common.{◌≡◌, ◌∙◌, ℕ, ◌+◌, ◌<◌, ◌∷◌, ◌++◌, [], List, ap, drop, get_or, length, map, sym, take}
use Rattle.std.proofs.Common.{take-append-drop}
use Rattle.std.proofs.lemmas.List.{append-nil, map-append, take_more}
use Rattle.std.proofs.lemmas.List.Folds.{concat-append}
use Rattle.std.specs.Borrow.{Bor}
use Rattle.std.specs.List.{concat}
use Rattle.h2_frames.proofs.Words.{joined}

abbrev bytes_at : Bor (List ℕ) → List ℕ
bytes_at piece = piece.now

joined-append : (pieces more : List (Bor (List ℕ))) → joined (pieces ++ more) ≡ joined pieces ++ joined more
joined-append pieces more =
    ap concat (map-append bytes_at pieces more) ∙ concat-append (map bytes_at pieces) (map bytes_at more)

-- no piece
abbrev pub no_piece : Bor (List ℕ)
no_piece = record { ref_ptr = (0, 0); now = [] }

-- one piece more
pub joined-more : (pieces : List (Bor (List ℕ))) (i : ℕ) → i < length pieces
    → joined (take (i + 1) pieces) ≡ joined (take i pieces) ++ (get_or pieces i no_piece).now
joined-more pieces i lt =
    ap joined (take_more pieces i no_piece lt)
    ∙ joined-append (take i pieces) (get_or pieces i no_piece ∷ [])
    ∙ ap (λ l. joined (take i pieces) ++ l) (append-nil (get_or pieces i no_piece).now)

-- and those that follow
pub joined-parts : (pieces : List (Bor (List ℕ))) (i : ℕ)
    → joined pieces ≡ joined (take i pieces) ++ joined (drop i pieces)
joined-parts pieces i =
    ap joined (sym (take-append-drop i pieces)) ∙ joined-append (take i pieces) (drop i pieces)
