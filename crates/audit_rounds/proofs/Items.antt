-- The items of the pass, by what the streams by themselves tell of openings.
use Rattle.audit_rounds.proofs.Words.{◌≡◌, ℕ, ◌==◌, ◌&&◌, List, [], ◌∷◌, map, ap, ◌∙◌, list_any-IsPermutation, Frame}
use Rattle.audit_rounds.proofs.Words.{Item, is_headers, PassState, pass_start, AllByRecursion, next, items_from}
use Rattle.audit_rounds.proofs.Words.{is_marked}
use Rattle.conn_scan.proofs.ItemsLemmas.{items_are_the_pass}
use Rattle.audit_rounds.specs.laws.Items.{ItemsAreFound}
use Rattle.audit_rounds.proofs.Openings.{openings_are_found_lem}

-- what opens its stream is marked, item by item
marked-each : (opened : List ℕ) (state : PassState) (frames : List Frame)
    → map (λ (item : Item). item.opens) (items_from state frames) ≡ map (is_marked opened) frames
    → AllByRecursion (λ (item : Item). is_marked opened item.frame ≡ item.opens) (items_from state frames)
marked-each opened state [] e = tt
marked-each opened state (frame ∷ frames) e = (cc, marked-each opened (next state frame) frames (cc))

pub items_are_found_lem : ItemsAreFound
items_are_found_lem frames opened h p =
    let permuted = ap (λ f. map f frames)
    (λ i frame. is_headers frame.body && list_any-IsPermutation (λ number. number == frame.number) _ opened p i) in
    items_are_the_pass frames opened h
    (marked-each opened pass_start frames (openings_are_found_lem frames h ∙ permuted))
