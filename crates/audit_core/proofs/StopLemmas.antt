-- What is kept of the findings ends at the first that stops.
use Rattle.std.proofs.Common.{◌≡◌, Bool, true, false, List, [], ◌∷◌, refl, ap, ◌⊎◌, inl, inr, arith}
use Rattle.audit_core.proofs.Words.{Finding, stops, upto_stop, NoneStops, EndsAt, KeptUptoFirstStop}
use Rattle.audit_core.proofs.PassOrder.{findings_stand_in_order}

abbrev Kept : List Finding → Type 0
Kept findings =
    (NoneStops findings × (upto_stop findings ≡ findings))
    ⊎ ((front : List Finding) × (last : Finding) × (rest : List Finding) × EndsAt findings front last rest)

kept-step : (x : Finding) (xs : List Finding) (b : Bool) → stops x ≡ b → Kept xs → Kept (x ∷ xs)
kept-step x xs true e h = inr ([], x, xs, record { parts = refl; front_goes_on = tt; last_stops = e; kept = rw e refl })
kept-step x xs false e (inl h) = inl ((e, h.0), rw e (ap (λ l. x ∷ l) h.1))
kept-step x xs false e (inr h) = inr (x ∷ h.0, h.1, h.2, grind (arith, h.3))

pub kept_upto_first_stop : KeptUptoFirstStop
kept_upto_first_stop [] = inl (tt, refl)
kept_upto_first_stop (x ∷ xs) = kept-step x xs _ refl (kept_upto_first_stop xs)

pub ruleset stop_laws = (kept_upto_first_stop, findings_stand_in_order)
