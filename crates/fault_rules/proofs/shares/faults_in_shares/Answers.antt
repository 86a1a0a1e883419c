use Rattle.fault_rules.proofs.Terms.{◌≡◌, ◌-◌, ◌<◌, ◌∙◌, All, length, flat_map, ap, arith, range_with_len, nat_range}
use Rattle.fault_rules.proofs.Terms.{nat_range-All, IsInRange, AreBefores}
use Rattle.rayon.proofs.ListFacts.{IfOk-then}
use Rattle.fault_rules.proofs.ShareLemmas.{shares-all}
use Rattle.fault_rules.proofs.shares.faults_in_shares.Goals as goal

pub collect-requires-clause-ready : goal.collect-requires-clause-ready
collect-requires-clause-ready g c κs within =
    let ends = c.into_par_iter.ensures in
    let frames = c.args.frames.now in
    let befores = c.args.befores.now in
    let inside = nat_range-All
    (λ n. (n < length befores) × All IsInRange frames × AreBefores c.args.size frames befores)
    0 (length befores) (λ n low high. (high, c.requires.in_range, c.requires.befores)) in
    rw (c.with_min_len.ensures.base, c.map.ensures.base, c.map.ensures.f, ends.0, ends.1)
    (λ k d lt. (inside k d lt, λ y p. tt))

pub returns : goal.returns
returns g c =
    let ends = c.into_par_iter.ensures in
    let n = length c.args.befores.now in
    let whole : n - 0 ≡ n = omega arith in
    let h = c.in_ok-collect.ensures in
    let chain = rw (c.with_min_len.ensures.base, c.map.ensures.base, c.map.ensures.f) at h.1 in
    let got = rw c.in_ok-shares.was at h.2 in
    let places = chain.1 ∙ (λ i. nat_range (ends.0 i) (ends.1 i)) ∙ ap (range_with_len 0) whole in
    let zipped = rw (places, got.1) at chain.2 in
    IfOk-then c.joined.result _ _ c.joined.ensures (λ v joined.
    joined ∙ ap (flat_map (λ share. share.items)) (c.as_slice.ensures.value ∙ got.2)
    ∙ shares-all _ (λ share. share.items) c.args.size c.args.frames.now n got.0 c.requires.befores.whole zipped)
