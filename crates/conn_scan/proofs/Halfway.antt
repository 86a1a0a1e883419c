-- A block's run between two items, and how it goes on.
use Rattle.conn_scan.proofs.Terms.{◌≡◌, Bool, List, ◌++◌, Option, Some, None, subst, arith, Frame, Change, shown, Block}
use Rattle.conn_scan.proofs.Terms.{ℕ, length-append, AllByRecursion, ConnectionState, connection_said, connection_after}
use Rattle.conn_scan.proofs.Terms.{◌+◌, ◌-◌, ◌^◌, ◌≤◌, ◌∷◌, map, All, refl, sym, ap, ◌∙◌, Item, IsBlock, BlockFits}
use Rattle.conn_scan.proofs.Terms.{[], block_run, IsStopped, append-nil, items_with, each-weaker, IsInRange, room-wider}
use Rattle.conn_scan.proofs.Terms.{append_assoc, IsOrderlyFrom, NeverFallFrom, each-append, each-filter, each-in_order}
use Rattle.conn_scan.proofs.Terms.{length, Finding, in_order, is_shown, HaveMovedLittle, Watches, items_in}
use Rattle.audit_terms.specs.Place.{place_number}
use Rattle.audit_terms.proofs.SaidPlaces.{IsBelow, before-front, IsFrom, at-connection, numbered-at}
use Rattle.std.proofs.lemmas.List.Elements.{All-from_recursion, filter-append}
use Rattle.audit_terms.specs.declared.looks.Watch.{Watch}
use Rattle.audit_terms.specs.code.runs.Look.{found_before, up_to, IsRun}
use Rattle.audit_terms.proofs.Watching.{ends, is-cut}

-- ---- at which frames the findings of items stand

abbrev frames_of : List Item → List Frame
frames_of items = map (λ (item : Item). item.frame) items

-- what holds of all that stands at an item's frame holds of what the item shows
item-shows : (P : Finding → Type 0) (now : ConnectionState) (item : Item) → IsInRange item.frame
    → ((one : Finding) → place_number one.place ≡ item.frame.number → P one)
    → AllByRecursion P (in_order (connection_said now item))
item-shows P now item range holds =
    let said = connection_said now item in
    each-in_order P said (each-weaker (λ (one : Finding). place_number one.place ≡ item.frame.number) P holds said
    (numbered-at item.frame.number said (at-connection now item range)))

-- what items show whose frames are numbered `low` or above stands from `low` on
block-from : (low base : ℕ) (now : ConnectionState) (items : List Item) → low ≤ base
    → IsOrderlyFrom base (frames_of items) → AllByRecursion (IsFrom low) (block_run now items)
block-from low base now [] le h = tt
block-from low base now (item ∷ items) le h =
    let first = h.0 in
    each-append (IsFrom low) (in_order (connection_said now item)) (block_run (connection_after now item) items)
    (item-shows (IsFrom low) now item h.1 (λ one at. omega arith))
    (block-from low (item.frame.number + 1) (connection_after now item) items (omega arith) h.2)

-- at the number of a frame in range
abbrev IsNumbered : Finding → Type 0
IsNumbered one = place_number one.place ≤ 2 ^ 28 - 2

-- ---- between two items

-- the items that are left fit the connection after the first of them
pub fits_next : (now next : ConnectionState) (item : Item) (rest : List Item) → BlockFits now (item ∷ rest)
    → HaveMovedLittle now.credit next.credit → BlockFits next rest
fits_next now next item rest fits little =
    let number = fits.number in
    record {
      number = omega arith;
      client = room-wider _ _ next.credit.client (omega arith) (little.0 _ fits.client);
      server = room-wider _ _ next.credit.server (omega arith) (little.1 _ fits.server);
    }

abbrev pub numbers_of : List Frame → List ℕ
numbers_of frames = map (λ (frame : Frame). frame.number) frames

-- what was found so far stands below `low`, the frames that are left stand from it on, and what their items show from
-- here is what is left of all
pub record Halfway {L : Type 0} (answers : L → List Finding → Option ℕ → L → Type 0) (before now : L) (credits : Bool)
    (numbers : List ℕ) (whole found : List Finding) (state : ConnectionState) (left : List Item) (watch : Watch) :
    Type 0 where
  pub met : List ℕ
  pub low : ℕ
  pub all : met ++ numbers_of (frames_of left) ≡ numbers
  pub few : length met ≤ low
  pub narrow : low ≤ 2 ^ 28 - 1
  pub orderly : IsOrderlyFrom low (frames_of left)
  pub said : whole ≡ found ++ shown credits (block_run state left)
  pub below : AllByRecursion (IsBelow low) found
  pub watches : Watches answers before now whole met (numbers_of (frames_of left)) watch

frames_with : (opened : List ℕ) (changes : List Change) (frames : List Frame)
    → frames_of (items_with opened changes frames) ≡ frames
frames_with opened changes [] = refl
frames_with opened changes (frame ∷ frames) = ap (λ rest. frame ∷ rest) (frames_with opened changes frames)

never-fall : (start low : ℕ) (frames : List Frame) → start ≤ low → IsOrderlyFrom low frames
    → NeverFallFrom start (numbers_of frames)
never-fall start low [] le h = tt
never-fall start low (frame ∷ frames) le h =
    let first = h.0 in (omega arith, never-fall frame.number (frame.number + 1) frames (omega arith) h.2)

-- the run of a whole block, before its first item
pub begins : {L : Type 0} (answers : L → List Finding → Option ℕ → L → Type 0) (before : L) (credits : Bool)
    (block : Block) (now : L) (state : ConnectionState) (watch : Watch) → IsBlock block
    → ((whole : List Finding) (numbers : List ℕ) → NeverFallFrom 0 numbers
    → Watches answers before now whole [] numbers watch)
    → Halfway answers before now credits (numbers_of block.frames.now)
    (shown credits (block_run state (items_in block))) [] state (items_in block) watch
begins answers before credits block now state watch h begun =
    let frames = frames_with block.opened.now block.changes.now block.frames.now in
    record {
      met = [];
      low = 0;
      all = ap numbers_of frames;
      few = omega arith;
      narrow = omega arith;
      orderly = subst (IsOrderlyFrom 0) (sym frames) h.frames;
      said = refl;
      below = tt;
      watches = begun (shown credits (block_run state (items_in block))) (numbers_of (frames_of (items_in block)))
          (subst (λ all. NeverFallFrom 0 (numbers_of all)) (sym frames)
          (never-fall 0 0 block.frames.now (omega arith) h.frames));
    }

module _ {L : Type 0} {answers : L → List Finding → Option ℕ → L → Type 0} {before : L} {credits : Bool}
    {numbers : List ℕ} {whole : List Finding} {now : L} {found : List Finding} {state : ConnectionState}
    {watch : Watch} where
  module _ {item : Item} {left : List Item}
      (h : Halfway answers before now credits numbers whole found state (item ∷ left) watch) where
    is-found : found ≡ found_before item.frame.number whole
    is-found =
        sym (ap (found_before item.frame.number) h.said
        ∙ before-front h.low item.frame.number found (shown credits (block_run state (item ∷ left))) h.orderly.0 h.below
        (each-filter _ (is_shown credits) (block_run state (item ∷ left))
        (block-from item.frame.number item.frame.number state (item ∷ left) (omega arith)
        (omega arith, h.orderly.1, h.orderly.2))))

    pub goes : (after : L) (next : ConnectionState) (new : List Finding) (then : Watch)
        → ((start : L) (all : List Finding) (met rest : List ℕ) → found ≡ found_before item.frame.number all
        → Watches answers start now all met (item.frame.number ∷ rest) watch
        → Watches answers start after all (met ++ item.frame.number ∷ []) rest then)
        → next ≡ connection_after state item
        → new ≡ found ++ shown credits (in_order (connection_said state item))
        → Halfway answers before after credits numbers whole new next left then
    goes after next new then on later added =
        let few = h.few in
        let first = h.orderly.0 in
        let range = h.orderly.1.number in
        let one = length-append h.met (item.frame.number ∷ []) in
        let own = in_order (connection_said state item) in
        let rest = block_run (connection_after state item) left in
        record {
          met = h.met ++ item.frame.number ∷ [];
          low = item.frame.number + 1;
          all = append_assoc h.met (item.frame.number ∷ []) (numbers_of (frames_of left)) ∙ h.all;
          few = omega arith;
          narrow = omega arith;
          orderly = h.orderly.2;
          said = rw (h.said, added, later, filter-append (is_shown credits) own rest)
              (sym (append_assoc found (shown credits own) (shown credits rest)));
          below = rw added (each-append _ found (shown credits own)
              (each-weaker (IsBelow h.low) _ (λ x lt. omega arith) found h.below)
              (each-filter _ (is_shown credits) own
              (item-shows (IsBelow (item.frame.number + 1)) state item h.orderly.1 (λ one at. omega arith))));
          watches = on before whole h.met (numbers_of (frames_of left)) is-found h.watches;
        }

    pub stops : (after : L) (kept : List Finding) (then : Watch)
        → ((start : L) (all : List Finding) (met rest : List ℕ) → found ≡ found_before item.frame.number all
        → Watches answers start now all met (item.frame.number ∷ rest) watch
        → IsStopped answers start after all (met ++ item.frame.number ∷ rest) item.frame.number then)
        → kept ≡ up_to then.stop found
        → IsRun answers before after numbers whole kept then.stop then.stop then.looks
    stops after kept then on cut =
        rw (← h.all) (is-cut answers before whole after _ item.frame.number then kept
        (on before whole h.met (numbers_of (frames_of left)) is-found h.watches) (cut ∙ ap (up_to then.stop) is-found))

  pub stops-numbered : {left : List Item} → Halfway answers before now credits numbers whole found state left watch
      → (kept : List Finding) (stop : Option ℕ) → kept ≡ up_to stop found → All IsNumbered kept
  stops-numbered h kept stop cut =
      let narrow = h.narrow in
      rw cut (All-from_recursion IsNumbered (up_to stop found)
      (each-weaker (IsBelow h.low) IsNumbered (λ one lt. omega arith) (up_to stop found) (up stop)))
    where
      up : (stop : Option ℕ) → AllByRecursion (IsBelow h.low) (up_to stop found)
      up None = h.below
      up (Some place) = each-filter (IsBelow h.low) _ found h.below

  pub is-whole : Halfway answers before now credits numbers whole found state [] watch
      → IsRun answers before now numbers whole found None watch.stop watch.looks
  is-whole h =
      let all : found ≡ whole = sym (h.said ∙ append-nil found) in
      let met : h.met ≡ numbers = sym (append-nil h.met) ∙ h.all in
      rw (all, ← met) (ends answers before whole now h.met watch h.watches)
