-- What is kept of the bytes that memory is filled with.
use Rattle.std.proofs.Common.{◌≡◌, ◌∙◌, ℕ, ◌+◌, ◌≤◌, List, ◌++◌, length, take, drop, Option, sym, ap, subst, arith}
use Rattle.std.proofs.Common.{vec_len}
use Rattle.std.specs.Io.{appended_bytes}
use Rattle.std.specs.declared.vec.Vec.{Vec}
use Rattle.std.specs.declared.alloc.Global.{Global}
use Rattle.std.proofs.Math.Seq.{take-add}
use Rattle.std.proofs.Transfers.{drop-appended, starts_with_of_append}
use Rattle.std.proofs.lemmas.List.{length-drop, length-take, length-take-le}
use Rattle.input_output.specs.Bytes.{WithRoom}
use Rattle.input_output.specs.code.Reads.{HasRead, IsGrown}
use Rattle.input_output.specs.declared.kept_bytes.KeptBytes.TheInside.{Inside}
use Rattle.input_output.specs.declared.traced_reader.TracedReader.{TracedReader}

abbrev view_of : Inside → WithRoom
view_of b = record { kept = take b.filled b.bytes.items; room = vec_len b.bytes }

-- what was read behind what is filled of memory lies within that
pub read_within : (filled n : ℕ) (bytes : Vec ℕ Global) → filled ≤ vec_len bytes
    → length (take n (drop filled bytes.items)) ≡ n → filled + n ≤ vec_len bytes
read_within filled n bytes within count = omega (
  arith,
  count,
  length-take n (drop filled bytes.items),
  length-drop filled bytes.items,
  within,
  bytes.ok.0,
)

-- what a view tells of them: how many there are, and how many there is room for
pub sizes : (b : Inside) (view : WithRoom) → b.filled ≤ vec_len b.bytes → view_of b ≡ view →
    (length view.kept ≡ b.filled) × (view.room ≡ vec_len b.bytes)
sizes b view within is = (
  omega (
    arith,
    ap (λ (v : WithRoom). length v.kept) is,
    length-take-le b.filled b.bytes.items (omega (arith, within, b.bytes.ok.0)),
  ),
  sym (ap (λ (v : WithRoom). v.room) is),
)

-- a read behind what is filled of memory is kept behind what was kept
module _ (b : Inside) (bytes : Vec ℕ Global) (old : WithRoom) (within : b.filled ≤ vec_len b.bytes)
    (is : view_of b ≡ old) (length_same : vec_len bytes ≡ vec_len b.bytes)
    (front_same : take b.filled bytes.items ≡ take b.filled b.bytes.items) where
  more : (n filled : ℕ) → filled ≡ b.filled + n
      → take filled bytes.items ≡ old.kept ++ take n (drop b.filled bytes.items)
  more n filled grown =
      ap (λ k. take k bytes.items) grown
      ∙ take-add b.filled n bytes.items
      ∙ ap (λ xs. xs ++ take n (drop b.filled bytes.items)) front_same
      ∙ ap (λ (v : WithRoom). v.kept ++ take n (drop b.filled bytes.items)) is

  pub is_grown : (n filled : ℕ) → filled ≡ b.filled + n → length (take n (drop b.filled bytes.items)) ≡ n
      → IsGrown old (view_of (record b { bytes = bytes; filled = filled }))
  is_grown n filled grown count =
      let upto = read_within b.filled n bytes (omega (arith, within, length_same)) count in record {
        front = starts_with_of_append _ old.kept _ (more n filled grown);
        room = length_same ∙ ap (λ (v : WithRoom). v.room) is;
        within = omega (
          arith,
          length-take-le filled bytes.items (omega (arith, grown, upto, bytes.ok.0)),
          grown,
          upto,
          bytes.ok.0,
        );
      }

  pub has_read : {R : Type 0} (left : R → Option (List ℕ)) (before after : TracedReader R) (n filled : ℕ)
      → filled ≡ b.filled + n → HasRead left before after (take n (drop b.filled bytes.items)) n
      → HasRead left before after (appended_bytes old.kept (take filled bytes.items)) n
  has_read left before after n filled grown read =
      subst (λ given. HasRead left before after given n) (sym (drop-appended old.kept _ _ (more n filled grown))) read
