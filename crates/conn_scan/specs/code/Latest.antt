-- Settings that a list of items brings into force, the lengths of its frames, and its promises
-- (RFC 9113, 4.2, 6.5.2, 6.9, 8.4).
use Rattle.std.specs.Prelude.{ℕ, min, max, ◌%◌, ◌==◌, Bool, false, ◌&&◌, ◌||◌, if◌then◌else◌, List, [], ◌∷◌, Option}
use Rattle.std.specs.Prelude.{Some, None, is_none}
use Rattle.audit_terms.specs.declared.sides.Side.{Side}
use Rattle.audit_terms.specs.declared.sides.Side.TheVariants.{Client, Server}
use Rattle.audit_terms.specs.declared.frames.Frame.{Frame}
use Rattle.audit_terms.specs.declared.items.Change.{Change}
use Rattle.audit_terms.specs.declared.items.Item.{Item}
use Rattle.audit_terms.specs.Side.{is_side}
use Rattle.audit_terms.specs.Sides.{side_of, each_side}
use Rattle.audit_terms.specs.Frame.{grants_nothing, is_server_promise, promised_in}
use Rattle.conn_scan.specs.declared.latest.Latest.{Latest}

-- the greatest frame length that a change brings for side d, if it brings one
abbrev pub limit_in : Side → Option Change → Option ℕ
limit_in d None = None
limit_in d (Some change) = if is_side d change.side then change.max_frame else None

-- ENABLE_PUSH that a change brings for the server, if it brings one
abbrev pub push_in : Option Change → Option ℕ
push_in None = None
push_in (Some change) = if is_side Server change.side then change.push else None

-- the length of side d's frame, 0 of a frame of the other side
abbrev pub length_by : Side → Frame → ℕ
length_by d frame = if is_side d frame.side then frame.length else 0

-- does a frame grant 0 on stream 0?
abbrev pub grants_zero : Frame → Bool
grants_zero frame = grants_nothing Client 0 frame || grants_nothing Server 0 frame

-- does the server promise an odd stream by a frame?
abbrev pub promises_odd : Frame → Bool
promises_odd frame = is_server_promise frame && (promised_in frame.body % 2 == 1)

-- is the value there, and 0?
abbrev pub is_zero : Option ℕ → Bool
is_zero None = false
is_zero (Some value) = value == 0

-- a value, or the one before it where there is none
abbrev pub newer : (before later : Option ℕ) → Option ℕ
newer before None = before
newer before (Some x) = Some x

-- the lesser of two values that may be there
abbrev pub lesser_limit : Option ℕ → Option ℕ → Option ℕ
lesser_limit x None = x
lesser_limit None (Some y) = Some y
lesser_limit (Some x) (Some y) = Some (min x y)

-- the last limit that some items bring for side d
abbrev pub last_limit : Side → List Item → Option ℕ
last_limit d [] = None
last_limit d (item ∷ items) = newer (limit_in d item.change) (last_limit d items)

-- the least limit that some items bring for side d
abbrev pub least_limit : Side → List Item → Option ℕ
least_limit d [] = None
least_limit d (item ∷ items) = lesser_limit (limit_in d item.change) (least_limit d items)

-- the last ENABLE_PUSH that some items bring
abbrev pub last_push : List Item → Option ℕ
last_push [] = None
last_push (item ∷ items) = newer (push_in item.change) (last_push items)

-- the length of side d's longest frame, 0 of none
abbrev pub longest_by : Side → List Item → ℕ
longest_by d [] = 0
longest_by d (item ∷ items) = max (length_by d item.frame) (longest_by d items)

-- is there an item that grants 0 on stream 0?
abbrev pub some_zero_grant : List Item → Bool
some_zero_grant [] = false
some_zero_grant (item ∷ items) = grants_zero item.frame || some_zero_grant items

-- does the server promise an odd stream by some item?
abbrev pub some_odd_promise : List Item → Bool
some_odd_promise [] = false
some_odd_promise (item ∷ items) = promises_odd item.frame || some_odd_promise items

-- does the server promise a stream before an item brings ENABLE_PUSH? What an item brings counts after its frame.
abbrev pub some_early_promise : List Item → Bool
some_early_promise [] = false
some_early_promise (item ∷ items) =
    is_server_promise item.frame || (is_none (push_in item.change) && some_early_promise items)

-- does the server promise a stream while an ENABLE_PUSH of 0 that some item brought is the last?
abbrev pub some_barred_promise : List Item → Bool
some_barred_promise [] = false
some_barred_promise (item ∷ items) =
    (is_zero (push_in item.change) && some_early_promise items) || some_barred_promise items

-- the summary of some items
abbrev pub latest_of : List Item → Latest
latest_of items = record {
  limit = each_side (λ d. last_limit d items);
  least = each_side (λ d. least_limit d items);
  longest = each_side (λ d. longest_by d items);
  push = last_push items;
  zero_grant = some_zero_grant items;
  odd_promise = some_odd_promise items;
  early_promise = some_early_promise items;
  barred_promise = some_barred_promise items;
}

abbrev pub no_item : Latest
no_item = record {
  limit = each_side (λ _. None);
  least = each_side (λ _. None);
  longest = each_side (λ _. 0);
  push = None;
  zero_grant = false;
  odd_promise = false;
  early_promise = false;
  barred_promise = false;
}

-- a summary, and then the length of a frame, and whether it grants 0
abbrev pub latest_seen : Latest → Frame → Latest
latest_seen a frame = record a {
  longest = each_side (λ d. max (side_of d a.longest) (length_by d frame));
  zero_grant = a.zero_grant || grants_zero frame;
}

-- a summary, and then a promise of the server, if the frame is one
abbrev pub latest_marked : Latest → Frame → Latest
latest_marked a frame = record a {
  odd_promise = a.odd_promise || promises_odd frame;
  early_promise = a.early_promise || (is_server_promise frame && is_none a.push);
  barred_promise = a.barred_promise || (is_server_promise frame && is_zero a.push);
}

-- a summary, and then a promise of the server
abbrev pub latest_promised : Latest → (stream : ℕ) → Latest
latest_promised a stream = record a {
  odd_promise = a.odd_promise || (stream % 2 == 1);
  early_promise = a.early_promise || is_none a.push;
  barred_promise = a.barred_promise || is_zero a.push;
}

-- a summary, and then what an acknowledgement brings into force
abbrev pub latest_changed : Latest → Option Change → Latest
latest_changed a change = record a {
  limit = each_side (λ d. newer (side_of d a.limit) (limit_in d change));
  least = each_side (λ d. lesser_limit (side_of d a.least) (limit_in d change));
  push = newer a.push (push_in change);
}

-- the items of a summary, and then one more
abbrev pub latest_met : Latest → Item → Latest
latest_met a item = latest_changed (latest_marked (latest_seen a item.frame) item.frame) item.change

-- the items of one summary, and then those of another
abbrev pub latest_join : Latest → Latest → Latest
latest_join a b = record {
  limit = each_side (λ d. newer (side_of d a.limit) (side_of d b.limit));
  least = each_side (λ d. lesser_limit (side_of d a.least) (side_of d b.least));
  longest = each_side (λ d. max (side_of d a.longest) (side_of d b.longest));
  push = newer a.push b.push;
  zero_grant = a.zero_grant || b.zero_grant;
  odd_promise = a.odd_promise || b.odd_promise;
  early_promise = a.early_promise || (is_none a.push && b.early_promise);
  barred_promise = (a.barred_promise || b.barred_promise) || (is_zero a.push && b.early_promise);
}
