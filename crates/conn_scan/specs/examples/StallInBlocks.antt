-- A worked example: the client uses up 65,535 bytes of connection credit, is granted 1 byte, and sends 1 byte.
use Rattle.std.specs.Prelude.{◌≡◌, ℕ, pos, Bool, true, false, List, [], ◌∷◌, ◌++◌, map, take, drop}
use Rattle.audit_terms.specs.declared.sides.Side.TheVariants.{Client, Server}
use Rattle.audit_terms.specs.declared.kinds.Kind.TheVariants.{ConnectionStallBegin, ConnectionStallEnd}
use Rattle.audit_terms.specs.declared.frames.Frame.{Frame}
use Rattle.audit_terms.specs.declared.items.Item.{Item}
use Rattle.audit_terms.specs.declared.findings.Finding.{Finding}
use Rattle.audit_terms.specs.Finding.{finding_at, shown}
use Rattle.audit_terms.specs.code.runs.Changes.{changes_of}
use Rattle.audit_terms.specs.Connection.{connection_start}
use Rattle.audit_terms.specs.code.runs.Blocks.{connection_after_all}
use Rattle.audit_terms.specs.code.runs.States.{items_of}
use Rattle.audit_terms.specs.code.runs.Blocks.{block_runs}
use Rattle.audit_terms.specs.examples.Script.{data_frame, headers_frame, update_frame, opening_frames}
use Rattle.conn_scan.specs.code.Items.{items_with}
use Rattle.conn_scan.specs.code.Clear.{is_clear}

-- both sides send empty settings and acknowledge them; frames 5 to 9 use up the credit
abbrev pub stall_script : List Frame
stall_script =
    opening_frames ++ headers_frame 5 Client 1
    ∷ data_frame 6 Client 1 16384 ∷ data_frame 7 Client 1 16384 ∷ data_frame 8 Client 1 16384
    ∷ data_frame 9 Client 1 16383 ∷ update_frame 10 Server 0 1 ∷ data_frame 11 Client 1 1 ∷ []

-- its items: frame 5 opens a stream
abbrev pub stall_items : List Item
stall_items = items_with (5 ∷ []) (changes_of stall_script) stall_script

abbrev pub StallItemsFound : Type 0
StallItemsFound = stall_items ≡ items_of stall_script

-- blocks of one item, and of two
abbrev pub by_one : List Item → List (List Item)
by_one items = map (λ item. item ∷ []) items

abbrev pub by_two : List Item → List (List Item)
by_two [] = []
by_two (x ∷ []) = (x ∷ []) ∷ []
by_two (x ∷ y ∷ items) = (x ∷ y ∷ []) ∷ by_two items

-- what blocks show of the connection, without the credits
abbrev pub shown_by_blocks : List (List Item) → List Finding
shown_by_blocks blocks = shown false (block_runs connection_start blocks)

abbrev pub stall_findings : List Finding
stall_findings =
    finding_at ConnectionStallBegin 9 0 Client (pos 0) ∷ finding_at ConnectionStallEnd 10 0 Client (pos 1)
    ∷ finding_at ConnectionStallBegin 11 0 Client (pos 0) ∷ []

abbrev pub StallByOne : Type 0
StallByOne = shown_by_blocks (by_one stall_items) ≡ stall_findings

abbrev pub StallByTwo : Type 0
StallByTwo = shown_by_blocks (by_two stall_items) ≡ stall_findings

abbrev pub StallAtOnce : Type 0
StallAtOnce = shown_by_blocks (stall_items ∷ []) ≡ stall_findings

-- is the item alone, at a place of the script, a clear block?
abbrev pub is_clear_at : (place : ℕ) → Bool
is_clear_at place =
    is_clear (connection_after_all connection_start (take place stall_items)) (take 1 (drop place stall_items))

-- frame 8 alone is clear; frame 10 and frame 11 are not, though credit is there after the one and before the other
abbrev pub ClearFrames : Type 0
ClearFrames = (is_clear_at 7 ≡ true) × (is_clear_at 9 ≡ false) × (is_clear_at 10 ≡ false)
