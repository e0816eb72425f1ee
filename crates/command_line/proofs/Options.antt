-- What a parse that succeeds gives of an option that takes one value and has a default: a value that passed its parser.
use Rattle.std.proofs.Common.{◌≡◌, ◌⊎◌, ◌∙◌, ◌<◌, ap, sym, subst, refl, ℕ, zero, suc, Bool, true, false, List, [], ◌∷◌, length, Option, Some, is_some, inl, inr, arith}
use Rattle.std.specs.Prelude.{find, option_map, slice_get, unwrap_or}
use Rattle.std.specs.List.{All, Any, slice_index_or}
use Rattle.std.specs.Str.{bytes_eq}
use Rattle.std.specs.Borrow.{Bor}
use Rattle.std.proofs.lemmas.Slice.Eq.{bytes_eq-Decides}
use Rattle.std.proofs.lemmas.List.{length-map}
use Rattle.clap.specs.Built.{IsAuto, IsParsedFrom, SameRules}
use Rattle.clap.specs.Facts.{Entry, EntryPasses, HasId, HasIn, HasReading, PassesArg, args_of, groups_of, least_values, parser_of, parser_of_value}
use Rattle.clap.specs.Matches.{found_of, matched_of, one_text}
use Rattle.clap.specs.Values.{Accepts, read_as, reading_of}
use Rattle.clap.specs.Walk.{Rule, Text, rule_of}
use Rattle.clap.specs.declared.builder.action.ArgAction.TheVariants.{Count, Set}
use Rattle.clap.specs.declared.builder.arg.Arg.{Arg}
use Rattle.clap.specs.declared.builder.command.Command.{Command}
use Rattle.clap.specs.declared.builder.value_parser.Reading.{Reading}
use Rattle.clap.specs.declared.builder.value_parser.ValueParser.{ValueParser}
use Rattle.clap.specs.declared.parser.matches.ArgMatches.{ArgMatches}
use Rattle.clap.specs.declared.parser.matches.Found.{Found}
use Rattle.clap.specs.declared.parser.matches.MatchedArg.{MatchedArg}
use Rattle.clap.proofs.CallerLemmas.{default_present, entry_by_id, same_rules_by_id}
use Rattle.command_line.proofs.Rules.{HasRules, IsOption, IsReadAs, is_named, is_own, names_no_group, no_globals, no_group, only_argument, read_as_rule, rule_at}

some_item : {X : Type 0} (xs : List X) (k : ℕ) → k < length xs → X
some_item [] k lt = absurd (omega (arith, lt))
some_item (x ∷ xs) k lt = x

first_is : {X : Type 0} (xs : List X) (x : X) → slice_get xs 0 ≡ Some x → slice_index_or xs 0 x ≡ x
first_is [] x e = refl
first_is (y ∷ ys) x e = ap (λ o. unwrap_or o x) e

-- an id that an entry has is found
found_by_id : (xs : List Entry) (id : Text) → HasIn xs id → (x : MatchedArg) × (option_map (λ e. e.1) (find (λ e. bytes_eq e.0.now id) xs) ≡ Some x)
found_by_id [] id h = absurd (omega (arith, h.1))
found_by_id (x ∷ xs) id h = go (bytes_eq x.0.now id) refl (λ later. found_by_id xs id later)
  where
    rest : bytes_eq x.0.now id ≡ false → (i : ℕ) → i < length (x ∷ xs) → ((d : Entry) → bytes_eq (slice_index_or (x ∷ xs) i d).0.now id ≡ true) → HasIn xs id
    rest absent zero lt at =
        let bad : false ≡ true = sym absent ∙ at x in
        cc
    rest absent (suc i) lt at = (i, omega (arith, lt), at)

    go : (t : Bool) → bytes_eq x.0.now id ≡ t → (HasIn xs id → (y : MatchedArg) × (option_map (λ e. e.1) (find (λ e. bytes_eq e.0.now id) xs) ≡ Some y))
        → (y : MatchedArg) × (option_map (λ e. e.1) (find (λ e. bytes_eq e.0.now id) (x ∷ xs)) ≡ Some y)
    go true t later = (x.1, rw t refl)
    go false t later =
        let r = later (rest t h.0 h.1 h.2) in
        (r.0, rw t r.1)

-- the text that is read of an entry with a value
read_of_entry : (f : Found) (id : Text) (x : MatchedArg) (how : Reading) → matched_of f id ≡ Some x → x.reading ≡ how → 0 < length x.vals.items
    → (v : Bor (List ℕ)) × (one_text f id ≡ Some (read_as how v.now)) × (slice_get x.vals.items 0 ≡ Some v)
read_of_entry f id x how found is some = go x.vals.items refl some
  where
    go : (vs : List (Bor (List ℕ))) → x.vals.items ≡ vs → 0 < length vs → (v : Bor (List ℕ)) × (one_text f id ≡ Some (read_as how v.now)) × (slice_get x.vals.items 0 ≡ Some v)
    go [] e lt = absurd (omega (arith, lt))
    go (v ∷ vs) e lt = (v, rw (found, e, is) refl, rw e refl)

-- ---- the entry of an option

-- what some argument with the option's id says, where that can only be the option
of_option : (old : Command) (m : ArgMatches) (p : IsParsedFrom old m) (a : Arg) (id : Text) (Q : Arg → Type 0)
    → ((j : ℕ) (x : Arg) → j < length (args_of p.built) → slice_index_or (args_of p.built) j x ≡ x → bytes_eq x.id.now id ≡ true → SameRules a x)
    → Any (λ x. (bytes_eq x.id.now id ≡ true) × Q x) (args_of p.built) → (x : Arg) × SameRules a x × Q x
of_option old m p a id Q same any = (any.1, same any.0 any.1 any.2 any.3 any.4.0, any.4.1)

module _ (old : Command) (m : ArgMatches) (p : IsParsedFrom old m) (a : Arg) (r : Rule) (q : ValueParser) (is : IsReadAs a r q)
    (same : (j : ℕ) (x : Arg) → j < length (args_of p.built) → slice_index_or (args_of p.built) j x ≡ x → bytes_eq x.id.now r.id ≡ true → SameRules a x)
    (no_groups : groups_of p.built ≡ []) (named : r.id ≡ [] → ⊥) where
  -- such an entry is no group's
  not_a_group : (e : Entry) → e.0.now ≡ r.id → EntryPasses p.built e → e.1.is_group ≡ true → ⊥
  not_a_group e key h g = elim (h.3 g) [
    | inl empty ↦ named (sym key ∙ empty)
    | inr lots ↦
        let bad : 0 < 0 = subst (λ gs. 0 < length gs) no_groups lots in
        omega (arith, bad)
  ]

  -- it has a value
  has_value : (e : Entry) → e.0.now ≡ r.id → EntryPasses p.built e → 0 < length e.1.vals.items
  has_value e key h = elim h.1 [
    | inl g ↦ absurd (not_a_group e key h g.0)
    | inr (inl v) ↦ v
    | inr (inr (inl counts)) ↦
        let x = of_option old m p a r.id (λ y. unwrap_or y.action Set ≡ Count) same (subst (λ w. Any (λ y. (bytes_eq y.id.now w ≡ true) × (unwrap_or y.action Set ≡ Count)) (args_of p.built)) key counts.1) in
        let set : x.0.action ≡ Some Set = x.1.action Set is.set in
        let bad : Set ≡ Count = rw set at x.2 in
        cc
    | inr (inr (inr none)) ↦
        let x = of_option old m p a r.id (λ y. (least_values y ≡ 0) ⊎ (is_some y.val_delim ≡ true)) same (subst (λ w. Any (λ y. (bytes_eq y.id.now w ≡ true) × ((least_values y ≡ 0) ⊎ (is_some y.val_delim ≡ true))) (args_of p.built)) key none) in
        elim x.2 [
          | inl zero_values ↦
              let one = x.1.least is.set is.least in
              absurd (omega (arith, one, zero_values))
          | inr delimiter ↦
              let bad : false ≡ true = rw (x.1.val_delim, is.no_delimiter) at delimiter in
              cc
        ]
  ]

  -- its values are read by the option's parser
  has_reading : (e : Entry) → e.0.now ≡ r.id → EntryPasses p.built e → e.1.reading ≡ reading_of q
  has_reading e key h = elim h.4 [
    | inl g ↦ absurd (not_a_group e key h g)
    | inr reads ↦
        let x = of_option old m p a r.id (λ y. reading_of (parser_of y) ≡ e.1.reading) same (subst (λ w. HasReading p.built w e.1.reading) key reads) in
        sym x.2 ∙ ap (λ (o : Option ValueParser). reading_of (parser_of_value o)) (x.1.parser q is.parser)
  ]

  -- and passed it
  passes : (e : Entry) → e.0.now ≡ r.id → EntryPasses p.built e → (v : Bor (List ℕ)) → slice_get e.1.vals.items 0 ≡ Some v → Accepts r.ignore_case q v.now
  passes e key h v first = elim h.0 [
    | inl g ↦ absurd (not_a_group e key h g)
    | inr all ↦
        let at : slice_index_or e.1.vals.items 0 v ≡ v = first_is e.1.vals.items v first in
        let pass = subst (λ w. PassesArg p.built e.0.now w.now) at (all 0 v (has_value e key h)) in
        let x = of_option old m p a r.id (λ y. Accepts y.ignore_case (parser_of y) v.now) same (subst (λ w. PassesArg p.built w v.now) key pass) in
        let parser : parser_of x.0 ≡ q = ap parser_of_value (x.1.parser q is.parser) in
        subst (λ b. Accepts b q v.now) (x.1.ignore_case ∙ is.case) (subst (λ w. Accepts x.0.ignore_case w v.now) parser x.2)
  ]

  -- what the entry gives
  pub entry_gives : HasId (found_of m) r.id → All (EntryPasses p.built) (found_of m).entries.items
      → (t : Text) × (one_text (found_of m) r.id ≡ Some (read_as (reading_of q) t)) × Accepts r.ignore_case q t
  entry_gives there all =
      let found = found_by_id (found_of m).entries.items r.id there in
      let entry = entry_by_id (EntryPasses p.built) (found_of m).entries.items r.id found.0 all found.1 in
      let e = entry.0 in
      let key : e.0.now ≡ r.id = (bytes_eq-Decides _ _).0 entry.2 in
      let is_x : e.1 ≡ found.0 = entry.1 in
      let v = read_of_entry (found_of m) r.id found.0 (reading_of q) found.1 (subst (λ x. x.reading ≡ reading_of q) is_x (has_reading e key entry.3))
      (subst (λ x. 0 < length x.vals.items) is_x (has_value e key entry.3)) in
      (v.0.now, v.1, passes e key entry.3 v.0 (subst (λ x. slice_get x.vals.items 0 ≡ Some v.0) (sym is_x) v.2))

-- the value of an option of a command with these rules, and that it passed
pub option_value : (old : Command) (m : ArgMatches) → IsParsedFrom old m → (rules : List Rule) → HasRules old rules → (k : ℕ) (r : Rule) (q : ValueParser) → IsOption rules k r q
    → (t : Text) × (one_text (found_of m) r.id ≡ Some (read_as (reading_of q) t)) × Accepts r.ignore_case q t
option_value old m p rules h k r q o =
    let len : length (args_of old) ≡ length rules = sym (length-map (args_of old) rule_of) ∙ ap length h.are in
    let lt : k < length (args_of old) = omega (arith, len, o.inside) in
    let d = some_item (args_of old) k lt in
    let a = slice_index_or (args_of old) k d in
    let rule : rule_of a ≡ r = rule_at (args_of old) rules h.are k d (rule_of d) lt ∙ o.at (rule_of d) in
    let is = read_as_rule rules k r q o a rule in
    let globals = no_globals old rules h in
    let built = p.from.same_groups (names_no_group old rules h) in
    let parsed = p.parsed (p.from.globals ∙ globals) in
    let alone : (j : ℕ) (e : Arg) → j < length (args_of old) → bytes_eq (slice_index_or (args_of old) j e).id.now a.id.now ≡ true → j ≡ k =
    λ j e low eq. only_argument old rules h k r q o j e low (subst (λ w. bytes_eq (slice_index_or (args_of old) j e).id.now w ≡ true) is.id eq) in
    let own : IsAuto a → ⊥ = λ auto. is_own rules k r q o (elim auto [ inl x ↦ inl (sym is.id ∙ x) | inr x ↦ inr (sym is.id ∙ x) ]) in
    entry_gives old m p a r q is
    (λ j x high at eq. same_rules_by_id old m p k d lt alone own j x high at (subst (λ w. bytes_eq x.id.now w ≡ true) (sym is.id) eq))
    (built.1 ∙ no_group old rules h) (is_named rules k r q o)
    (subst (HasId (found_of m)) is.id (default_present old m p globals k d lt is.default)) parsed.values
