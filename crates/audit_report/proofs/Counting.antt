-- What is counted of packets, as one more comes.
use Rattle.std.proofs.Common.{◌≡◌, ℕ, ◌+◌, ◌++◌, ◌∷◌, ◌∙◌, [], Bool, List, ap, arith, length, sym}
use Rattle.std.proofs.Common.{append_assoc, append-nil, cond, if◌then◌else◌, Result, Ok, Err, OnOk}
use Rattle.std.proofs.Common.{◌-◌, IfOk, drop, length-append, take}
use Rattle.std.proofs.Math.ListN.{drop_of_length-le}
use Rattle.std.proofs.Math.Seq.{drop-append_seam, take-append_seam}
use Rattle.std.proofs.lemmas.List.{take_all}
use Rattle.std.proofs.lemmas.List.Sums.{sum_by_push}
use Rattle.std.specs.Prelude.{count_by}
use Rattle.audit_report.specs.Line.{line}
use Rattle.audit_report.specs.RecordLines.{record_line, record_lines_from}
use Rattle.packet_heads.specs.declared.packets.Packet.{Packet}

pub on-ok : {T E P Q : Type 0} (r : Result T E) → (P → Q) → OnOk r P → OnOk r Q
on-ok (Ok _) step is = step is
on-ok (Err _) step is = is

-- what holds of an answer whatever it is asked for
pub ok-all : {T E A : Type 0} {P : A → Type 0} (Q : A → T → Type 0) (r : Result T E)
    → ((a : A) → P a → IfOk r (Q a)) → IfOk r (λ t. (a : A) → P a → Q a t)
ok-all Q (Ok t) each = each
ok-all Q (Err e) each = tt

-- one packet more is counted where it is of the kind
pub count-more : (f : Packet → Bool) (packets : List Packet) (x : Packet)
    → count_by f (packets ++ x ∷ []) ≡ count_by f packets + (if f x then 1 else 0)
count-more f packets x = sum_by_push (λ p. cond (f p) 1 0) packets x

-- its line comes last, under the number behind theirs
pub lines-more : (number : ℕ) (packets : List Packet) (x : Packet) → record_lines_from number (packets ++ x ∷ [])
    ≡ record_lines_from number packets ++ record_line (number + length packets) x
lines-more number [] x = append-nil (record_line number x)
    ∙ ap (λ n. record_line n x) (omega arith)
lines-more number (p ∷ packets) x =
    ap (λ l. record_line number p ++ l) (lines-more (number + 1) packets x)
    ∙ sym (append_assoc (record_line number p) (record_lines_from (number + 1) packets)
    (record_line (number + 1 + length packets) x))
    ∙ ap (λ n. (record_line number p ++ record_lines_from (number + 1) packets) ++ record_line n x) (omega arith)

-- what was put behind a text is moved in front of it
pub in-front : (old line items new : List ℕ) (told size k : ℕ) → items ≡ old ++ line → told ≡ length old
    → size ≡ length items → k ≡ size - told
    → new ≡ drop (length items - k) items ++ take (length items - k) items → length new ≡ length items
    → take size (new ++ drop (length new) items) ≡ line ++ old
in-front old line items new told size k are told-is size-is k-is after same =
    let long = length-append old line in
    let at : length items - k ≡ length old = omega (arith, told-is, size-is, k-is, long, ap length are) in
    let moved : new ≡ line ++ old =
    after ∙ ap (λ n. drop n items ++ take n items) at
    ∙ ap (λ l. drop (length old) l ++ take (length old) l) are
    ∙ ap (λ l. l ++ take (length old) (old ++ line)) (drop-append_seam old line)
    ∙ ap (λ l. line ++ l) (take-append_seam old line) in
    let none : drop (length new) items ≡ [] = drop_of_length-le items (omega (arith, same)) in
    ap (λ l. take size (new ++ l)) none ∙ ap (λ l. take size l) (append-nil new)
    ∙ take_all size new (omega (arith, same, size-is)) ∙ moved
