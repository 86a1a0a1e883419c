-- Settings are the same after they were kept in words.
use Rattle.std.proofs.Common.{Option, ap, arith, refl, subst, sym, ℕ, ◌*◌, ◌+◌, ◌≡◌, ◌≤◌}
use Rattle.std.specs.Prelude.{unwrap_or}
use Rattle.audit_terms.specs.code.Packing.{IsPacked, mark, marked, one_less, one_more, packed, unpacked}
use Rattle.audit_terms.specs.declared.settings.{PackedSettings.TheInside.Inside, Settings.Settings}

back : (value : Option ℕ) → one_less (one_more value) ≡ value
back value = grind arith

kept : (value : Option ℕ) → marked (mark value) (unwrap_or value 0) ≡ value
kept value = grind arith

little : (value : Option ℕ) → mark value ≤ 1
little value = grind arith

same : {a b c d a' b' c' d' : Option ℕ} → a ≡ a' → b ≡ b' → c ≡ c' → d ≡ d' →
    (let left : Settings = record { push = a; initial = b; max_frame = c; bad = d } in
    let right : Settings = record { push = a'; initial = b'; max_frame = c'; bad = d' } in left ≡ right)
same p q r s = cc

pub packing_keeps : (settings : Settings) → unpacked (packed settings) ≡ settings
packing_keeps settings = grind (arith, little, same, kept, back)

fields : {marks push initial max_frame marks' push' initial' max_frame' : ℕ} → marks ≡ marks' → push ≡ push'
    → initial ≡ initial' → max_frame ≡ max_frame' →
    (let left : Inside = record { marks = marks; push = push; initial = initial; max_frame = max_frame } in
    let right : Inside = record { marks = marks'; push = push'; initial = initial'; max_frame = max_frame' } in left
    ≡ right)
fields p q r s = cc

-- fields that were made as `packed` makes them
pub packed_fields : (settings : Settings) {bad push initial max_frame : ℕ} {push-word initial-word max_frame-word : ℕ}
    → bad ≡ one_more settings.bad → max_frame ≡ mark settings.max_frame → initial ≡ mark settings.initial
    → push ≡ mark settings.push → push-word ≡ unwrap_or settings.push 0 → initial-word ≡ unwrap_or settings.initial 0
    → max_frame-word ≡ unwrap_or settings.max_frame 0 → (let made : Inside = record {
      marks = ((bad * 2 + max_frame) * 2 + initial) * 2 + push;
      push = push-word;
      initial = initial-word;
      max_frame = max_frame-word;
    } in
    made ≡ packed settings)
packed_fields settings b m i p pw iw mw = fields (rw (b, m, i, p) refl) pw iw mw

pub packed-IsPacked : (settings : Settings) (made : Inside) → made ≡ packed settings → IsPacked made
packed-IsPacked settings made is = subst IsPacked (sym is) (ap packed (packing_keeps settings))
