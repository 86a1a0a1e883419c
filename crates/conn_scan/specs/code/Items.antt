-- The items of some frames: each frame with what the audit of the connection needs beside it.
use Rattle.std.specs.Prelude.{ℕ, ◌==◌, ◌&&◌, Bool, Option, List, map}
use Rattle.std.specs.List.{list_any, find}
use Rattle.audit_terms.specs.declared.frames.Frame.{Frame}
use Rattle.audit_terms.specs.declared.items.Change.{Change}
use Rattle.audit_terms.specs.declared.items.Item.{Item}
use Rattle.audit_terms.specs.Frame.{is_headers}
use Rattle.audit_terms.specs.code.runs.Orderly.{IsOrderly}
pub use Rattle.audit_terms.specs.code.Watch.{NeverFallFrom}
use Rattle.audit_terms.specs.code.runs.Changes.{AreOrderly}
use Rattle.conn_scan.specs.declared.block_items.Block.{Block}

-- a HEADERS whose number is among these; other frames, as promises, are judged by their bodies (RFC 9113, 5.1.1)
abbrev pub is_marked : (opened : List ℕ) → Frame → Bool
is_marked opened frame = is_headers frame.body && list_any (λ number. number == frame.number) opened

-- the change of the frame's number, if there is one (6.5.3)
abbrev pub change_at : List Change → Frame → Option Change
change_at changes frame = find (λ (change : Change). change.number == frame.number) changes

-- a frame with its opening mark and its change
abbrev pub item_with : (opened : List ℕ) → List Change → Frame → Item
item_with opened changes frame = record {
  frame = frame;
  opens = is_marked opened frame;
  change = change_at changes frame;
}

-- each frame with its opening mark and its change
abbrev pub items_with : (opened : List ℕ) → List Change → List Frame → List Item
items_with opened changes frames = map (item_with opened changes) frames

-- the items of a block
abbrev pub items_in : Block → List Item
items_in block = items_with block.opened.now block.changes.now block.frames.now

-- What a block holds: frames, opening numbers and changes, each in order of numbers.
pub record IsBlock (block : Block) : Type 0 where
  pub frames : IsOrderly block.frames.now
  pub opened : NeverFallFrom 0 block.opened.now
  pub changes : AreOrderly block.changes.now
