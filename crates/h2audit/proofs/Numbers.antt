-- The program's numbers in clap's matches: each has its default at least, and is in its range.
use Rattle.std.proofs.Common.{ℕ, zero, suc, ◌≡◌, ◌∙◌, ◌<◌, ◌≤◌, ap, sym, subst, refl, Bool, true, false, ◌⊎◌}
use Rattle.std.proofs.Common.{List, [], ◌∷◌, length, Some, None, inl, inr, arith, codes}
use Rattle.std.specs.Prelude.{find, pos, slice_get, option_map, ⊤}
use Rattle.std.specs.List.{All, AllByRecursion, Any, list_all, slice_index_or}
use Rattle.std.specs.Str.{bytes_eq}
use Rattle.std.specs.Borrow.{Bor}
use Rattle.std.proofs.lemmas.Bool.{cases_lt}
use Rattle.std.proofs.lemmas.List.{get_or-map, length-map}
use Rattle.std.proofs.lemmas.List.Elements.{All-from_recursion, All-head, All-tail}
use Rattle.std.proofs.lemmas.Slice.Eq.{bytes_eq-Decides}
use Rattle.clap.specs.Words.{Accepts, App, IsSignedIn, Rule, Text, app_of, found_of, read_as, reading_of, rule_of}
use Rattle.clap.specs.Words.{without_minus}
use Rattle.clap.specs.Built.{IsParsedFrom, SameRules}
use Rattle.clap.specs.Facts.{Entry, EntryPasses, HasIn, PassesArg, args_of, groups_of, least_values, parser_of_value}
use Rattle.clap.specs.Simple.{IsSimple, is_ready, is_ready_leaf}
use Rattle.clap.specs.Texts.{items_of}
use Rattle.clap.specs.declared.builder.action.ArgAction.TheVariants.{Set, Count}
use Rattle.clap.specs.declared.builder.arg.Arg.{Arg}
use Rattle.clap.specs.declared.builder.command.Command.{Command}
use Rattle.clap.specs.declared.builder.value_parser.Reading.{Reading}
use Rattle.clap.specs.declared.builder.value_parser.ValueParser.{ValueParser}
use Rattle.clap.specs.declared.builder.value_parser.ValueParser.TheVariants as value
use Rattle.clap.specs.declared.parser.matches.ArgMatches.{ArgMatches}
use Rattle.clap.proofs.CallerLemmas.{default_present}
use Rattle.clap.proofs.SimpleLemmas.{all_simple, ready_simple, simple_groups}
use Rattle.h2audit.specs.code.Numbers.{HasNumber, HasNumbers}
use Rattle.h2audit.specs.CommandLine.{app, number_rule}

-- ---- the entry of an id

-- the first entry of the id is one of which P holds
abbrev HasFirst : (Entry → Type 0) → List Entry → (id : Text) → Type 0
HasFirst P xs id = (e : Entry) × (find (λ e. bytes_eq e.0.now id) xs ≡ Some e) × (e.0.now ≡ id) × P e

first_entry : (P : Entry → Type 0) (xs : List Entry) (id : Text) → All P xs → HasIn xs id → HasFirst P xs id
first_entry P [] id all (i, low, same) = absurd (omega arith)
first_entry P (x ∷ xs) id all (i, low, same) =
    go (bytes_eq x.0.now id) refl i low same (first_entry P xs id (All-tail P x xs all))
  where
    go : (t : Bool) → bytes_eq x.0.now id ≡ t → (j : ℕ) → j < length (x ∷ xs)
        → ((d : Entry) → bytes_eq (slice_index_or (x ∷ xs) j d).0.now id ≡ true)
        → (HasIn xs id → HasFirst P xs id) → HasFirst P (x ∷ xs) id
    go true t j below is rest = (x, rw t refl, (bytes_eq-Decides x.0.now id).0 t, All-head P x xs all)
    go false t zero below is rest =
        let bad : false ≡ true = sym t ∙ is x in
        cc
    go false t (suc j) below is rest =
        let got = rest (j, omega arith, is) in
        (got.0, rw t got.1, got.2, got.3)

-- ---- arguments that are numbers

-- the argument takes one number from 1 to `most`
record IsNumber (most : ℕ) (a : Arg) : Type 0 where
  action : a.action ≡ Some Set
  parser : a.value_parser ≡ Some (value.Signed (pos 1) (pos most))
  delimiter : a.val_delim ≡ None
  least : 1 ≤ least_values a

-- it does where the name is its own
abbrev IsNumberIf : (name : Text) → (most : ℕ) → Arg → Type 0
IsNumberIf name most a = bytes_eq a.id.now name ≡ true → IsNumber most a

-- an argument that was added with a number's rule is one in the command that is built
built_number : (a b : Arg) (name default : Text) (most : ℕ) → rule_of a ≡ number_rule name most default
    → a.val_delim ≡ None → SameRules a b → IsNumber most b
built_number a b name default most rule delimiter same =
    let action : a.action ≡ Some Set = ap (λ (r : Rule). r.action) rule in
    let range : a.num_vals ≡ None = ap (λ (r : Rule). r.range) rule in
    record {
      action = same.action Set action;
      parser = same.parser _ (ap (λ (r : Rule). r.parser) rule);
      delimiter = same.val_delim ∙ delimiter;
      least = same.least action (rw range (omega arith));
    }

-- the first of these values is read as a number from 1 to `most`
abbrev ReadsNumber : Reading → List (Bor Text) → (most : ℕ) → Type 0
ReadsNumber reading vs most = (text : Text)
    × (option_map (λ s. read_as reading s.now) (slice_get vs 0) ≡ Some (without_minus text))
    × IsSignedIn (pos 1) (pos most) text

entry_number : (c : Command) (e : Entry) (most : ℕ) → groups_of c ≡ [] → 0 < length e.0.now
    → All (IsNumberIf e.0.now most) (args_of c) → EntryPasses c e → ReadsNumber e.1.reading e.1.vals.items most
entry_number c e most no_groups named numbers (passed, filled, counts, grouped, read) =
    first e.1.vals.items has (elim passed [ inl g ↦ absurd (alone g) | inr all ↦ λ k d lt. accepted _ (all k d lt) ])
  where
    -- an argument that has the name, and what else is said of it
    number_with : (Q : Arg → Type 0) → Any (λ a. (bytes_eq a.id.now e.0.now ≡ true) × Q a) (args_of c)
        → (a : Arg) × IsNumber most a × Q a
    number_with Q (j, a, low, at, named) = (a, subst (IsNumberIf e.0.now most) at (numbers j a low) named.0, named.1)

    alone : e.1.is_group ≡ true → ⊥
    alone g = elim (grouped g) [
      | inl empty ↦ absurd (omega (arith, ap length empty))
      | inr some ↦ absurd (omega (arith, ap length no_groups))
    ]

    has : 0 < length e.1.vals.items
    has = elim filled [
      | inl h ↦ absurd (alone h.0)
      | inr (inl some) ↦ some
      | inr (inr (inl h)) ↦
          let (a, is, counted) = number_with _ h.1 in
          let bad : Set ≡ Count = rw is.action at counted in
          cc
      | inr (inr (inr h)) ↦
          let (a, is, empty) = number_with _ h in
          let least = is.least in
          elim empty [
            | inl none ↦ absurd (omega arith)
            | inr split ↦
                let bad : false ≡ true = rw is.delimiter at split in
                cc
          ]
    ]

    accepted : (text : Text) → PassesArg c e.0.now text → IsSignedIn (pos 1) (pos most) text
    accepted text any =
        let (a, is, accepts) = number_with _ any in
        subst (λ (q : ValueParser). Accepts a.ignore_case q text) (ap parser_of_value is.parser) accepts

    reading : e.1.reading ≡ reading_of (value.Signed (pos 1) (pos most))
    reading = elim read [
      | inl g ↦ absurd (alone g)
      | inr any ↦
          let (a, is, reads) = number_with _ any in
          sym reads ∙ ap (λ p. reading_of (parser_of_value p)) is.parser
    ]

    first : (vs : List (Bor Text)) → 0 < length vs → All (λ v. IsSignedIn (pos 1) (pos most) v.now) vs
        → ReadsNumber e.1.reading vs most
    first [] some all = absurd (omega arith)
    first (v ∷ vs) some all = (v.now, rw reading refl, all 0 v (omega arith))

-- ---- the program's command

-- the rule is a number's if it has its name
abbrev IsRuleIf : Rule → Rule → Type 0
IsRuleIf number r = holds_if (bytes_eq r.id number.id)
  where
    holds_if : Bool → Type 0
    holds_if true = r ≡ number
    holds_if false = ⊤

named_rule : (number r : Rule) → IsRuleIf number r → bytes_eq r.id number.id ≡ true → r ≡ number
named_rule number r is same = rw same at is

not_auto : (id name help version : Text) → (bytes_eq help name ≡ false) × (bytes_eq version name ≡ false)
    → bytes_eq id name ≡ true → (id ≡ help) ⊎ (id ≡ version) → ⊥
not_auto id name help version (other, _) same (inl is) = let bad = rw (← is, same) at other in cc
not_auto id name help version (_, other) same (inr is) = let bad = rw (← is, same) at other in cc

some_arg : (xs : List Arg) → 0 < length xs → Arg
some_arg [] some = absurd (omega arith)
some_arg (x ∷ xs) some = x

-- a parse of the program's command
module _ (old : Command) (m : ArgMatches) (is : app_of old ≡ app) (p : IsParsedFrom old m) where
  simple : IsSimple old
  simple = ready_simple old (ap (λ (a : App). is_ready a.top) is) (ap (λ (a : App). list_all is_ready_leaf a.subs) is)

  arg_count : length (args_of old) ≡ 5
  arg_count = sym (length-map (args_of old) rule_of) ∙ ap (λ (a : App). length a.top.rules) is

  rule_at : (k : ℕ) (d : Arg) → k < length (args_of old)
      → rule_of (slice_index_or (args_of old) k d) ≡ slice_index_or app.top.rules k (rule_of d)
  rule_at k d lt = sym (get_or-map rule_of (args_of old) k d (rule_of d) lt)
      ∙ ap (λ (a : App). slice_index_or a.top.rules k (rule_of d)) is

  -- in the command that is built, each argument of a number's name is that number
  built_numbers : (name default : Text) (most : ℕ)
      → AllByRecursion (IsRuleIf (number_rule name most default)) app.top.rules
      → (bytes_eq (codes "help") name ≡ false) × (bytes_eq (codes "version") name ≡ false)
      → All (IsNumberIf name most) (args_of p.built)
  built_numbers name default most rules own j d low same = elim (cases_lt j (length (args_of old))) [
    | inl under ↦
        let kept = (p.from.kept j d under).1 in
        let few : j < 5 = omega (arith, arg_count) in
        let there = rule_at j d under in
        let own_name : bytes_eq (slice_index_or (args_of old) j d).id.now name ≡ true = rw (← kept.id) same in
        let its = All-from_recursion (IsRuleIf (number_rule name most default)) app.top.rules rules j (rule_of d) few in
        let rule = there ∙ named_rule _ _ its (rw (← there) own_name) in
        built_number _ _ name default most rule (simple.args j d under).delimiter kept
    | inr over ↦ absurd (not_auto _ name _ _ own same (p.from.extra j d over low))
  ]

  number : (name default : Text) (most k : ℕ) → k < 5
      → ((r : Rule) → slice_index_or app.top.rules k r ≡ number_rule name most default)
      → AllByRecursion (IsRuleIf (number_rule name most default)) app.top.rules
      → (bytes_eq (codes "help") name ≡ false) × (bytes_eq (codes "version") name ≡ false) → 0 < length name
      → HasNumber (found_of m) name most
  number name default most k few its rules own named =
      let lt : k < length (args_of old) = omega (arith, arg_count) in
      let d = some_arg (args_of old) (omega arith) in
      let a = slice_index_or (args_of old) k d in
      let rule : rule_of a ≡ number_rule name most default = rule_at k d lt ∙ its (rule_of d) in
      let defaults : 0 < length (items_of a.default_vals) =
      omega (arith, length-map (items_of a.default_vals) (λ s. s.now), ap (λ (r : Rule). length r.defaults) rule) in
      let id : a.id.now ≡ name = ap (λ (r : Rule). r.id) rule in
      let has = default_present old m p simple.globals k d lt ((simple.args k d lt).default_ifs, defaults) in
      let parsed = p.parsed (p.from.globals ∙ simple.globals) in
      let ungrouped = simple_groups old (ap (λ (a : App). all_simple a.top.rules) is) in
      let groups = (p.from.same_groups ungrouped).1 ∙ simple.groups in
      let (e, found, key, pass) = first_entry (EntryPasses p.built) _ name parsed.values (rw id at has) in
      let (text, reads, signed) = entry_number p.built e most groups (rw key named)
      (rw key (built_numbers name default most rules own)) pass in
      (text, rw found reads, signed)

  -- each of the program's numbers was found
  pub numbers_found : HasNumbers (found_of m)
  numbers_found = record {
    workers = number (codes "workers") (codes "4") 64 0 (omega arith) (λ r. refl)
        (refl, (tt, (tt, (tt, (tt, tt))))) (refl, refl) (omega arith);
    groups = number (codes "groups") (codes "16") 1024 1 (omega arith) (λ r. refl)
        (tt, (refl, (tt, (tt, (tt, tt))))) (refl, refl) (omega arith);
    block = number (codes "block") (codes "4096") 1048576 2 (omega arith) (λ r. refl)
        (tt, (tt, (refl, (tt, (tt, tt))))) (refl, refl) (omega arith);
  }
