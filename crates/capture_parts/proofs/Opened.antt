-- Files that were opened, read and dealt.
use Rattle.capture_parts.proofs.Terms.{Consumes, Dealer, Deals, EndsSplit, Err, HasHeld, HaveHeld, IfOk, IfSome}
use Rattle.capture_parts.proofs.Terms.{IsAtEnd, List, None, Ok, OnOk, Option, Part, Result, Some, String, []}
use Rattle.capture_parts.proofs.Terms.{append-nil}
use Rattle.capture_parts.proofs.Terms.{append_assoc, arith, inl, inr, length, length-append, refl, string_bytes, subst}
use Rattle.capture_parts.proofs.Terms.{sym, take, take-append-le, take_all, ℕ, ◌++◌, ◌+◌, ◌<◌, ◌^◌, ◌∙◌, ◌∷◌, ◌≡◌}
use Rattle.capture_parts.proofs.Terms.{◌≤◌}
use Rattle.std.specs.Prelude.{◌≢◌, ◌⊎◌, IfErr, unwrap_or}
use Rattle.std.specs.Global.{Global}
use Rattle.capture_parts.specs.Inputs.{Continues, HasGiven, HasStopped, HaveGiven}
use Rattle.capture_parts.specs.Outside.{Call, Opened}
use Rattle.capture_parts.specs.code.Counting.{HasStoppedBetween, IsOpened, IsUnopened, Overflows}
use Rattle.capture_parts.specs.declared.fault.FileFault.{FileFault}
use Rattle.capture_parts.specs.declared.fault.SplitFault.{SplitFault}
use Rattle.capture_parts.specs.declared.fault.SplitFault.TheVariants as fault

-- what holds where a call went well holds where what it answered was passed on
pub of_ok : {T E D X Y : Type 0} (found : Result T E) (result : Result T D) → IfOk result (λ value. found ≡ Ok value)
    → OnOk found X → (X → Y) → OnOk result Y
of_ok found (Ok value) is holds then = then (rw is at holds)
of_ok found (Err e) is holds then = tt

-- and so where it did not
pub of_fault : {T : Type 0} (found : Result T SplitFault) (result : Result T FileFault) (file : ℕ)
    (P : SplitFault → Type 0) (Q : FileFault → Type 0)
    → IfErr result (λ wrong. (wrong.file ≡ file) × (found ≡ Err wrong.fault)) → IfErr found P
    → ((wrong : FileFault) → wrong.file ≡ file → P wrong.fault → Q wrong) → IfErr result Q
of_fault found (Ok value) file P Q is holds then = tt
of_fault found (Err wrong) file P Q is holds then = then wrong is.0 (rw is.1 at holds)

held_all : (before mid after : Option (List ℕ)) (header given : List ℕ) → Consumes before mid header
    → Consumes mid after given → IsAtEnd after → IfSome before (λ bytes. bytes ≡ header ++ given)
held_all None mid after header given first later end = tt
held_all (Some xs) None after header given first later end = absurd first
held_all (Some xs) (Some ys) None header given first later end = absurd later
held_all (Some xs) (Some ys) (Some zs) header given first later end = rw (first, later, end, append-nil given) refl

gave_some : (before mid after : Option (List ℕ)) (header given : List ℕ) → Consumes before mid header
    → Consumes mid after given → IfSome before (λ bytes. bytes ≡ header ++ (given ++ unwrap_or after []))
gave_some None mid after header given first later = tt
gave_some (Some xs) None after header given first later = absurd first
gave_some (Some xs) (Some ys) None header given first later = absurd later
gave_some (Some xs) (Some ys) (Some zs) header given first later = rw (first, later) refl

gave_none : (had : Option (List ℕ)) → IfSome had (λ bytes. bytes ≡ [] ++ ([] ++ unwrap_or had []))
gave_none None = tt
gave_none (Some xs) = refl

gave_all : (had : Option (List ℕ)) (header given : List ℕ) → IfSome had (λ bytes. bytes ≡ header ++ given)
    → IfSome had (λ bytes. bytes ≡ header ++ (given ++ []))
gave_all None header given held = tt
gave_all (Some xs) header given held = rw (append-nil given) held

-- is it told that there are too many bytes?
too_long : (e : SplitFault) → (e ≡ fault.TooLong) ⊎ (e ≢ fault.TooLong)
too_long fault.TooLong = inl refl
too_long fault.Open = inr (λ is. cc)
too_long (fault.Refused x) = inr (λ is. cc)
too_long fault.AnotherFormat = inr (λ is. cc)
too_long fault.AnotherLinkType = inr (λ is. cc)
too_long fault.CutRecord = inr (λ is. cc)
too_long fault.Read = inr (λ is. cc)
too_long (fault.Write n f) = inr (λ is. cc)

-- bytes that a reader gave, which are too many if that is told
pub given_at : (had has : Option (List ℕ)) (n : ℕ) (e : SplitFault) → Overflows had has n e
    → (given : List ℕ) × (e ≡ fault.TooLong → Consumes had has given × (2 ^ 64 ≤ n + length given))
given_at had has n e over = elim (too_long e) [
  | inl is ↦ let all = over.many is in (all.0, λ _. (all.1, all.2))
  | inr other ↦ ([], λ is. absurd (other is))
]

module _ {O F : Type 0} (does : O → Call F → O → Type 0) (left : F → Option (List ℕ)) where
  -- a file was opened, its header was read, and then all that was behind it
  pub HasHeld-read : (top : List ℕ) {before after : O} (name : List ℕ) {path header given : List ℕ} (file mid end : F)
      → name ≡ path → does before (Opened name (Ok file)) after → length header ≡ 24 → Continues top header
      → Consumes (left file) (left mid) header → Consumes (left mid) (left end) given → IsAtEnd (left end)
      → HasHeld does left top before path given after
  HasHeld-read top {before} {after} name {header = header} {given = given} file mid end is opened long continues first
      later all = record {
        file = file;
        opened = subst (λ p. does before (Opened p (Ok file)) after) is opened;
        header = header;
        long = long;
        continues = continues;
        held = held_all (left file) (left mid) (left end) header given first later all;
      }

  -- one file more
  pub HaveHeld-snoc : (top : List ℕ) (paths : List (String Global)) (path : String Global) (given own : List ℕ)
      (before mid after : O) → HaveHeld does left top before paths given mid
      → HasHeld does left top mid (string_bytes path) own after
      → HaveHeld does left top before (paths ++ path ∷ []) (given ++ own) after
  HaveHeld-snoc top [] path given own before mid after (is, same) held = (
    after,
    own,
    [],
    subst (λ o. HasHeld does left top o (string_bytes path) own after) same held,
    (refl, refl),
    rw (is, append-nil own) refl,
  )
  HaveHeld-snoc top (p ∷ ps) path given own before mid after (next, first, behind, one, others, is) held = (
    next,
    first,
    behind ++ own,
    one,
    HaveHeld-snoc top ps path behind own next mid after others held,
    rw (is, append_assoc first behind own) refl,
  )

  HasGiven-held : (top : List ℕ) (before after : O) (path given : List ℕ)
      → HasHeld does left top before path given after → HasGiven does left before path given after
  HasGiven-held top before after path given held = record {
    file = held.file;
    opened = held.opened;
    header = held.header;
    rest = [];
    gave = gave_all (left held.file) held.header given held.held;
  }

  -- files were read to their ends, and then others
  pub given_behind : (top : List ℕ) (paths more : List (String Global)) (given behind : List ℕ) (e : SplitFault)
      (before mid after : O) → HaveHeld does left top before paths given mid
      → HaveGiven does left mid more behind e after
      → HaveGiven does left before (paths ++ more) (given ++ behind) e after
  given_behind top [] more given behind e before mid after (is, same) gave =
      rw is (subst (λ o. HaveGiven does left o more behind e after) same gave)
  given_behind top (p ∷ ps) more given behind e before mid after (next, own, later, one, others, is) gave = inr (
    next,
    own,
    later ++ behind,
    HasGiven-held top before next (string_bytes p) own one,
    given_behind top ps more later behind e next mid after others gave,
    rw (is, append_assoc own later behind) refl,
  )

  -- the last file could not be opened, or had another fault before its bytes were dealt
  pub given_none : (name : List ℕ) (path : String Global) (e : SplitFault) (before after : O) → name ≡ string_bytes path
      → (IsUnopened does before name after e) ⊎ (IsOpened does before name after e)
      → HaveGiven does left before (path ∷ []) [] e after
  given_none name path e before after same (inl (why, call, is)) =
      inl (why, subst (λ p. does before (Opened p (Err why)) after) same call, refl, refl, is)
  given_none name path e before after same (inr (file, call, at)) = inr (
    after,
    [],
    [],
    record {
      file = file;
      opened = subst (λ p. does before (Opened p (Ok file)) after) same call;
      header = [];
      rest = unwrap_or (left file) [];
      gave = gave_none (left file);
    },
    (refl, refl, at.opened),
    refl,
  )

  -- it was not too much
  pub none_many : (n : ℕ) (e : SplitFault) (before after : O) (path : List ℕ)
      → (IsUnopened does before path after e) ⊎ (IsOpened does before path after e) → e ≡ fault.TooLong → 2 ^ 64 ≤ n
  none_many n e before after path (inl (why, call, is)) many =
      absurd (let no : fault.Open ≡ fault.TooLong = sym is ∙ many in cc)
  none_many n e before after path (inr (file, call, at)) many = absurd (let no = at.many many in omega (arith, no))

  -- or it was opened, and there was a fault behind its header
  pub given_some : (name : List ℕ) (path : String Global) (header : List ℕ) (n : ℕ) (e : SplitFault) (before after : O)
      (file mid end : F) → name ≡ string_bytes path → does before (Opened name (Ok file)) after
      → Consumes (left file) (left mid) header → Overflows (left mid) (left end) n e
      → (own : List ℕ) × HaveGiven does left before (path ∷ []) own e after
      × (e ≡ fault.TooLong → 2 ^ 64 ≤ n + length own)
  given_some name path header n e before after file mid end same called first over =
      let call = subst (λ p. does before (Opened p (Ok file)) after) same called in
      elim (too_long e) [
        | inl is ↦
            let (given, consumed, many) = over.many is in (
              given,
              inr (
                after,
                given,
                [],
                record {
                  file = file;
                  opened = call;
                  header = header;
                  rest = unwrap_or (left end) [];
                  gave = gave_some (left file) (left mid) (left end) header given first consumed;
                },
                (refl, refl, over.opened),
                sym (append-nil given),
              ),
              λ _. many,
            )
        | inr other ↦ (
          [],
          inr (
            after,
            [],
            [],
            record {
              file = file;
              opened = call;
              header = [];
              rest = unwrap_or (left file) [];
              gave = gave_none (left file);
            },
            (refl, refl, over.opened),
            refl,
          ),
          λ is. absurd (other is),
        )
      ]

  -- a split stopped in the last of these files
  pub stopped_between : (top : List ℕ) (n i : ℕ) (paths : List (String Global)) (path : String Global)
      (given own : List ℕ) (before mid after : O) (wrong : FileFault) → i < length paths
      → take (i + 1) paths ≡ take i paths ++ path ∷ [] → wrong.file ≡ i + 1
      → HaveHeld does left top before (take i paths) given mid
      → HaveGiven does left mid (path ∷ []) own wrong.fault after
      → (wrong.fault ≡ fault.TooLong → 2 ^ 64 ≤ n + length given + length own)
      → HasStoppedBetween does left n before paths after wrong
  stopped_between top n i paths path given own before mid after wrong within more at held gave many = (
    given ++ own,
    omega (arith, within, at),
    rw (at, more) (given_behind top (take i paths) (path ∷ []) given own wrong.fault before mid after held gave),
    λ is. let all = many is in let size = length-append given own in omega (arith, all, size),
  )

  -- a split stopped in the first file
  pub stopped_first : (n : ℕ) (had has : Option (List ℕ)) (paths : List (String Global)) (before : O)
      (wrong : FileFault) → wrong.file ≡ 0 → Overflows had has n wrong.fault
      → HasStopped does left n had has before paths before wrong
  stopped_first n had has paths before wrong at over =
      let (given, many) = given_at had has n wrong.fault over in (
        given,
        [],
        rw at (refl, refl, over.opened),
        λ is. let all = many is in (all.0, let some = all.1 in omega (arith, some)),
      )

  -- or between the first and the last
  pub stopped_later : (n : ℕ) (had has : Option (List ℕ)) (given : List ℕ) (between : List (String Global))
      (last : String Global) (before after : O) (wrong : FileFault) → Consumes had has given
      → HasStoppedBetween does left (n + length given) before between after wrong
      → HasStopped does left n had has before (between ++ last ∷ []) after wrong
  stopped_later n had has given between last before after wrong consumed (behind, within, gave, many) = (
    given,
    behind,
    rw (take-append-le wrong.file between (last ∷ []) within) gave,
    λ is. (consumed, many is),
  )

  -- or in the last
  pub stopped_last : (top : List ℕ) (n : ℕ) (had has : Option (List ℕ)) (given more own : List ℕ)
      (between : List (String Global)) (last : String Global) (before mid after : O) (wrong : FileFault)
      → wrong.file ≡ length (between ++ last ∷ []) → Consumes had has given
      → HaveHeld does left top before between more mid
      → HaveGiven does left mid (last ∷ []) own wrong.fault after
      → (wrong.fault ≡ fault.TooLong → 2 ^ 64 ≤ n + length given + length more + length own)
      → HasStopped does left n had has before (between ++ last ∷ []) after wrong
  stopped_last top n had has given more own between last before mid after wrong at consumed held gave many = (
    given,
    more ++ own,
    rw (at, take_all (length (between ++ last ∷ [])) (between ++ last ∷ []) (omega arith))
        (given_behind top between (last ∷ []) more own wrong.fault before mid after held gave),
    λ is. (consumed, let all = many is in let size = length-append more own in omega (arith, all, size)),
  )

-- bytes were dealt, and then the last of the capture
pub EndsSplit-behind : {W : Type 0} (contents : W → Option (List ℕ)) (d e : Dealer) (old mid new : List (Part W))
    (x y : List ℕ) → Deals contents d e old mid x → EndsSplit contents e mid new y
    → EndsSplit contents d old new (x ++ y)
EndsSplit-behind contents d e old mid new x y deals ends first bytes was =
    rw (← deals.link, ← deals.is_little, ← append_assoc bytes x y)
    (ends first (bytes ++ x) (deals.behind first bytes was))
