-- What the refusal knows of the length.
use Rattle.std.proofs.Common.{◌≡◌, ◌≤◌, ◌-◌, ◌^◌, ℕ, List, ◌++◌, Option, Some, None, length, take}
use Rattle.std.proofs.Common.{nat_lt, refl, sym, ap, ◌∙◌, arith, inl, inr}
use Rattle.std.proofs.lemmas.Bool.{cases_lt, cond-false, le-ltb, lt-ltb}
use Rattle.std.proofs.lemmas.List.{length-take-le, take-take, take_all, length-append}
use Rattle.std.proofs.Math.Seq.{take-append_seam}
use Rattle.pcap_records.specs.FileHeader.{header_of, format_of}
use Rattle.pcap_records.specs.laws.Readings.{FrontDecides, AllowedIsShort, HeaderRefuses, LargestIsTaken}
use Rattle.pcap_records.specs.Refusal.{refusal, refusal_by}
use Rattle.pcap_records.specs.declared.faults.PcapFault.{PcapFault}
use Rattle.pcap_records.specs.declared.faults.PcapFault.TheVariants.{TooLarge}
use Rattle.pcap_records.specs.declared.format.Format.{Format}

-- with a whole header, it and the size decide
refusal-long : (capture : List ℕ) → 24 ≤ length capture
    → refusal capture ≡ refusal_by (format_of (header_of capture)) (header_of capture) (length capture)
refusal-long capture long = cond-false (nat_lt (length capture) 24) _ _ (le-ltb (length capture) 24 long)

-- any two sizes above the limit are refused alike, whatever the magic told
refusal_by-large : (told : Option Format) (header : List ℕ) (a b : ℕ) → 2 ^ 31 ≤ a → 2 ^ 31 ≤ b
    → refusal_by told header a ≡ refusal_by told header b
refusal_by-large None header a b large_a large_b = refl
refusal_by-large (Some f) header a b large_a large_b =
    rw (lt-ltb (2 ^ 31 - 1) a (omega arith), lt-ltb (2 ^ 31 - 1) b (omega arith))

-- the front of 2^31 bytes has the refusal of the whole
pub front_decides_lem : FrontDecides
front_decides_lem capture = elim (cases_lt (length capture) (2 ^ 31)) [
  | inl short ↦ ap refusal (take_all (2 ^ 31) capture (omega (arith, short)))
  | inr long ↦
      let size : length (take (2 ^ 31) capture) ≡ 2 ^ 31 = length-take-le (2 ^ 31) capture long in
      let header : header_of (take (2 ^ 31) capture) ≡ header_of capture =
      take-take 24 (2 ^ 31) capture (omega arith) in
      rw (refusal-long (take (2 ^ 31) capture) (omega arith), refusal-long capture (omega (arith, long)), header)
      (refusal_by-large (format_of (header_of capture)) (header_of capture) _ (length capture) (omega arith) long)
]

-- a size above the limit is refused, by this or by an earlier refusal
refusal_by-some : (told : Option Format) (header : List ℕ) (size : ℕ) → 2 ^ 31 ≤ size
    → refusal_by told header size ≡ None → ⊥
refusal_by-some None header size large none = cc
refusal_by-some (Some f) header size large none = grind (arith, lt-ltb (2 ^ 31 - 1) size (omega arith))

-- what is not refused is shorter than 2^31 bytes
pub allowed_is_short_lem : AllowedIsShort
allowed_is_short_lem capture allowed = elim (cases_lt (length capture) (2 ^ 31)) [
  | inl short ↦ short
  | inr long ↦ absurd (refusal_by-some (format_of (header_of capture)) (header_of capture) (length capture) long
      (sym (refusal-long capture (omega (arith, long))) ∙ allowed))
]

-- the largest size is refused for no size
refusal_by-largest : (told : Option Format) (header : List ℕ) → refusal_by told header 2147483647 ≡ Some TooLarge → ⊥
refusal_by-largest None header large = cc
refusal_by-largest (Some f) header large = grind arith

-- a capture of 2^31 - 1 bytes is not too large
pub largest_is_taken_lem : LargestIsTaken
largest_is_taken_lem capture size large =
    refusal_by-largest (format_of (header_of capture)) (header_of capture)
    (rw size at (sym (refusal-long capture (omega (arith, size))) ∙ large))

-- what is refused without being too large is refused at every size
refusal_by-header : (told : Option Format) (header : List ℕ) (size : ℕ) (e : PcapFault)
    → refusal_by told header 24 ≡ Some e → refusal_by told header size ≡ Some e
refusal_by-header None header size e refused = refused
refusal_by-header (Some f) header size e refused = grind (arith, refused)

-- a header that is refused by itself is refused alike whatever follows
pub header_refuses_lem : HeaderRefuses
header_refuses_lem header rest e size refused =
    let front : header_of (header ++ rest) ≡ header = rw size at (take-append_seam header rest) in
    let alone : header_of header ≡ header = take_all 24 header (omega (arith, size)) in
    rw (refusal-long (header ++ rest) (omega (arith, size, length-append header rest)), front)
    (refusal_by-header (format_of header) header _ e
    (rw (alone, size) at (sym (refusal-long header (omega (arith, size))) ∙ refused)))
