-- The stretches of sections, one after the other.
use Rattle.std.proofs.Common.{◌≡◌, ◌≢◌, ℕ, suc, ◌+◌, ◌-◌, ◌<◌, ◌≤◌, Bool, List, [], ◌∷◌, ◌++◌, drop, get_or, length}
use Rattle.std.proofs.Common.{refl, ap, sym, subst, arith, ◌∙◌, append-nil, length-append}
use Rattle.std.proofs.lemmas.List.{drop_all, get_or_default, drop_more, drop-drop, drop-append-le}
use Rattle.std.proofs.Common.{Option, Vec, map}
use Rattle.std.proofs.lemmas.List.{get_or-append_right, length-map}
use Rattle.std.specs.{Global.Global, Prelude.slice_get}
use Rattle.audit_report.specs.{EndLine.end_line, FindingLine.shown_line, StallLine.stall_line}
use Rattle.audit_report.specs.declared.headings.SectionHeading.{SectionHeading}
use Rattle.audit_terms.specs.declared.findings.Finding.{Finding}
use Rattle.split_merge.specs.code.Findings.{findings_in}
use Rattle.report_pages.specs.declared.told.AuditedFrames.{AuditedFrames}
use Rattle.report_pages.specs.code.Entries.{Entries, StandsIn, audited_stretches, listed, section_stretches}
use Rattle.report_pages.specs.code.Entries.{told_stretches}
use Rattle.report_pages.specs.declared.told.Told.{Told}

-- one of the stretches in front, and those behind it
drop-front : (front rest : List Entries) (i : ℕ) (e : Entries) → i < length front → e ≡ get_or front i e
    → drop i (front ++ rest) ≡ e ∷ drop 1 (drop i (front ++ rest))
drop-front front rest i e low is =
    let here : drop i (front ++ rest) ≡ drop i front ++ rest = drop-append-le i front rest (omega arith) in
    let more : drop i front ≡ e ∷ drop (i + 1) front = drop_more front i e low
    ∙ ap (λ x. x ∷ drop (i + 1) front) (sym is) in
    let all : drop i (front ++ rest) ≡ e ∷ (drop (i + 1) front ++ rest) = here ∙ ap (λ l. l ++ rest) more in
    all ∙ ap (λ l. e ∷ l) (sym (ap (drop 1) all))

-- a fact of a heading and of what is told under it
of-first : (h' : SectionHeading) (t' : Told) (h : SectionHeading) (t : Told) → h ≡ h' → t ≡ t'
    → (P : SectionHeading → Told → Type 0) → P h t → P h' t'
of-first h' t' h t is this P p = subst (λ (t : Told). P h' t) this (subst (λ (h : SectionHeading). P h t) is p)

-- the stretch at which a cursor stands is the first from there on
pub current : (shown : Bool) (at stretch k : ℕ) (hs : List SectionHeading) (ts : List Told) (h hd : SectionHeading)
    (t td : Told) (e : Entries) → StandsIn shown at stretch k hs ts → length ts ≡ length hs → 0 < length ts
    → h ≡ get_or hs 0 hd → t ≡ get_or ts 0 td
    → e ≡ get_or (section_stretches shown k h t) stretch e
    → drop stretch (told_stretches shown k hs ts) ≡ e ∷ drop 1 (drop stretch (told_stretches shown k hs ts))
current shown at stretch k hs [] h hd t td e stands same some is this found = absurd (omega arith)
current shown at stretch k [] (t' ∷ ts) h hd t td e stands same some is this found = absurd (omega arith)
current shown at stretch k (h' ∷ hs) (t' ∷ ts) h hd t td e stands same some is this found =
    drop-front (section_stretches shown k h' t') (told_stretches shown (k + 1) hs ts) stretch e stands.0
    (of-first h' t' h t is this (λ h t. e ≡ get_or (section_stretches shown k h t) stretch e) found)

-- it is a stretch of the first section
pub within : (shown : Bool) (at stretch k : ℕ) (hs : List SectionHeading) (ts : List Told) (h hd : SectionHeading)
    (t td : Told) → StandsIn shown at stretch k hs ts → length ts ≡ length hs → 0 < length ts
    → h ≡ get_or hs 0 hd → t ≡ get_or ts 0 td
    → (stretch < length (section_stretches shown k h t))
    × (at ≤ length (get_or (section_stretches shown k h t) stretch []))
within shown at stretch k hs [] h hd t td stands same some is this = absurd (omega arith)
within shown at stretch k [] (t' ∷ ts) h hd t td stands same some is this = absurd (omega arith)
within shown at stretch k (h' ∷ hs) (t' ∷ ts) h hd t td stands same some is this =
    of-first h t h' t' (sym is) (sym this) (λ h t. (stretch < length (section_stretches shown k h t))
    × (at ≤ length (get_or (section_stretches shown k h t) stretch []))) stands

-- behind the last stretch of a section those of the next one stand
pub behind : (shown : Bool) (stretch k : ℕ) (hs : List SectionHeading) (ts : List Told) (h hd : SectionHeading)
    (t td : Told) → length ts ≡ length hs → 0 < length ts → h ≡ get_or hs 0 hd → t ≡ get_or ts 0 td
    → stretch + 1 ≡ length (section_stretches shown k h t)
    → told_stretches shown (k + 1) (drop 1 hs) (drop 1 ts) ≡ drop 1 (drop stretch (told_stretches shown k hs ts))
behind shown stretch k hs [] h hd t td same some is this last = absurd (omega arith)
behind shown stretch k [] (t' ∷ ts) h hd t td same some is this last = absurd (omega arith)
behind shown stretch k (h' ∷ hs) (t' ∷ ts) h hd t td same some is this last =
    let front : List Entries = section_stretches shown k h' t' in
    let rest : List Entries = told_stretches shown (k + 1) hs ts in
    let whole : stretch + 1 ≡ length front =
    of-first h' t' h t is this (λ h t. stretch + 1 ≡ length (section_stretches shown k h t)) last in
    let none : drop (stretch + 1) front ≡ [] = drop_all (stretch + 1) front (omega arith) in
    sym (drop-drop 1 stretch (front ++ rest) ∙ drop-append-le (stretch + 1) front rest (omega arith)
    ∙ ap (λ l. l ++ rest) none)

-- the next stretch of a section, and its first entry
pub stands-next : (shown : Bool) (at stretch k : ℕ) (hs : List SectionHeading) (ts : List Told) (h hd : SectionHeading)
    (t td : Told) → StandsIn shown at stretch k hs ts → length ts ≡ length hs → 0 < length ts
    → h ≡ get_or hs 0 hd → t ≡ get_or ts 0 td → stretch + 1 < length (section_stretches shown k h t)
    → StandsIn shown 0 (stretch + 1) k hs ts
stands-next shown at stretch k hs [] h hd t td stands same some is this more = absurd (omega arith)
stands-next shown at stretch k [] (t' ∷ ts) h hd t td stands same some is this more = absurd (omega arith)
stands-next shown at stretch k (h' ∷ hs) (t' ∷ ts) h hd t td stands same some is this more =
    (of-first h' t' h t is this (λ h t. stretch + 1 < length (section_stretches shown k h t)) more, omega arith)

-- the line on the end stands last
pub end-last : (shown : Bool) (audited : AuditedFrames) (index : ℕ) (d : Entries)
    → index < length (audited_stretches shown audited) → length audited.findings.lists.items ≤ index
    → index ≢ length audited.findings.lists.items
    → (end_line (findings_in audited.findings) ∷ []) ≡ get_or (audited_stretches shown audited) index d
end-last shown audited index d low past other =
    let lists = audited.findings.lists.items in
    let frames = audited.frames.items in
    let front : List Entries = listed shown frames lists in
    let stalls : Entries = map stall_line audited.stalls.items in
    let end : Entries = end_line (findings_in audited.findings) ∷ [] in
    let size : length front ≡ length lists =
    length-map lists (λ (list : Vec Finding Global). map (shown_line shown frames) list.items) in
    let at : index ≡ length lists + 1 = omega (arith, low, size, length-append front (stalls ∷ end ∷ [])) in
    let second : index - length lists ≡ 1 = omega arith in
    sym (get_or-append_right front (stalls ∷ end ∷ []) (length lists) index d size past
    ∙ ap (λ n. get_or (stalls ∷ end ∷ []) n d) second)

-- the last of two lists is that of the second, if it has one
last-some : (xs : List Finding) (y : Finding) (ys : List Finding)
    → slice_get (xs ++ y ∷ ys) (length (xs ++ y ∷ ys) - 1) ≡ slice_get (y ∷ ys) (length (y ∷ ys) - 1)
last-some [] y ys = refl
last-some (x ∷ xs) y ys =
    let more : length (x ∷ xs ++ y ∷ ys) - 1 ≡ suc (length (xs ++ y ∷ ys) - 1) =
    omega (arith, length-append xs (y ∷ ys)) in
    ap (slice_get (x ∷ xs ++ y ∷ ys)) more ∙ last-some xs y ys

pub last_more : (xs ys : List Finding) → 0 < length ys
    → slice_get (xs ++ ys) (length (xs ++ ys) - 1) ≡ slice_get ys (length ys - 1)
last_more xs [] some = absurd (omega arith)
last_more xs (y ∷ ys) some = last-some xs y ys

pub last_none : (xs ys : List Finding) (last : Option Finding) → length ys ≡ 0
    → last ≡ slice_get xs (length xs - 1) → last ≡ slice_get (xs ++ ys) (length (xs ++ ys) - 1)
last_none xs [] last none is = rw (append-nil xs) is
last_none xs (y ∷ ys) last none is = absurd (omega arith)

pub ruleset last_of_both = (last_more, last_none)

-- a heading, where one has to be named
pub nothing-headed : SectionHeading
nothing-headed =
    record { client = record { address = 0; port = 0 }; server = record { address = 0; port = 0 }; rec = 0 }

-- a cursor further on in its stretch
pub stands-further : (shown : Bool) (at to stretch k : ℕ) (hs : List SectionHeading) (ts : List Told) (e : Entries)
    (all : List Entries) → StandsIn shown at stretch k hs ts → length ts ≡ length hs → 0 < length ts
    → all ≡ drop stretch (told_stretches shown k hs ts) → all ≡ e ∷ drop 1 all → to ≤ length e
    → StandsIn shown to stretch k hs ts
stands-further shown at to stretch k hs [] e all stands same some from is low = absurd (omega arith)
stands-further shown at to stretch k [] (t ∷ ts) e all stands same some from is low = absurd (omega arith)
stands-further shown at to stretch k (h ∷ hs) (t ∷ ts) e all stands same some from is low =
    let front : List Entries = section_stretches shown k h t in
    let rest : List Entries = told_stretches shown (k + 1) hs ts in
    let one : Entries = get_or front stretch [] in
    let there : all ≡ one ∷ drop 1 all = from ∙ drop-front front rest stretch one stands.0
    (get_or_default front stretch [] one stands.0)
    ∙ ap (λ l. one ∷ drop 1 l) (sym from) in
    let equal : one ≡ e = ap (λ l. get_or l 0 []) (sym there ∙ is) in
    (stands.0, rw equal low)
