-- What the rules of a command's arguments say of the arguments themselves.
use Rattle.std.proofs.Common.{◌≡◌, ◌⊎◌, ◌∙◌, ◌<◌, ◌≤◌, ◌&&◌, ap, sym, subst, refl, ℕ, zero, suc, Bool, true, false, not, List, [], ◌∷◌, length, map, Option, Some, None, is_some, inl, inr, arith, codes}
use Rattle.std.specs.List.{All, slice_index_or, list_any, list_all}
use Rattle.std.specs.Str.{bytes_eq}
use Rattle.std.proofs.lemmas.Bool.{ne_eqb, and_parts, not-true}
use Rattle.std.proofs.lemmas.List.{get_or-map, length-map}
use Rattle.std.proofs.lemmas.List.Folds.{list_any_at}
use Rattle.std.proofs.lemmas.Slice.Eq.{bytes_eq-Decides}
use Rattle.clap.specs.Texts.{items_of}
use Rattle.clap.specs.Built.{NamesNoGroup}
use Rattle.clap.specs.Facts.{WantsDefault, args_of, groups_of, least_values}
use Rattle.clap.specs.Simple.{has_plain_fields}
use Rattle.clap.specs.Walk.{Rule, Text, is_empty, is_simple_arg, rule_of}
use Rattle.clap.specs.declared.builder.action.ArgAction.TheVariants.{Set}
use Rattle.clap.specs.declared.builder.arg.Arg.{Arg}
use Rattle.clap.specs.declared.builder.command.Command.{Command}
use Rattle.clap.specs.declared.builder.command.Command.TheViews.{out-Command}
use Rattle.clap.specs.declared.builder.value_parser.ValueParser.{ValueParser}

pub not_empty : {X : Type 0} (x : X) (xs : List X) → is_empty (x ∷ xs) ≡ false
not_empty x xs = ne_eqb (length (x ∷ xs)) 0 (λ e. absurd (omega (arith, e)))

no_items : {X : Type 0} (xs : List X) → is_empty xs ≡ true → xs ≡ []
no_items [] h = refl
no_items (x ∷ xs) h =
    let bad : false ≡ true = sym (not_empty x xs) ∙ h in
    cc

no_value : {X : Type 0} (o : Option X) → not (is_some o) ≡ true → o ≡ None
no_value None h = refl
no_value (Some x) h = cc

some_items : {X Y : Type 0} (f : X → Y) (xs : List X) → 0 < length (map f xs) → 0 < length xs
some_items f [] lt = lt
some_items f (x ∷ xs) lt = omega arith

-- the rule at a place is that of the argument there
pub rule_at : (xs : List Arg) (rules : List Rule) → map rule_of xs ≡ rules → (k : ℕ) (d : Arg) (e : Rule) → k < length xs → rule_of (slice_index_or xs k d) ≡ slice_index_or rules k e
rule_at xs rules are k d e lt = sym (get_or-map rule_of xs k d e lt) ∙ ap (λ rs. slice_index_or rs k e) are

-- no other rule than number k has the id
abbrev pub is_only : List Rule → Text → ℕ → Bool
is_only [] id k = true
is_only (r ∷ rs) id zero = not (list_any (λ s. bytes_eq s.id id) rs)
is_only (r ∷ rs) id (suc k) = not (bytes_eq r.id id) && is_only rs id k

only_place : (rules : List Rule) (id : Text) (k : ℕ) → is_only rules id k ≡ true → (j : ℕ) (e : Rule) → j < length rules → bytes_eq (slice_index_or rules j e).id id ≡ true → j ≡ k
only_place [] id k h j e lt same = absurd (omega (arith, lt))
only_place (r ∷ rs) id zero h zero e lt same = refl
only_place (r ∷ rs) id zero h (suc j) e lt same =
    let no = not-true (list_any (λ s. bytes_eq s.id id) rs) h in
    let yes = list_any_at (λ s. bytes_eq s.id id) rs j e (omega (arith, lt)) same in
    let bad : false ≡ true = sym no ∙ yes in
    cc
only_place (r ∷ rs) id (suc k) h zero e lt same =
    let no = not-true (bytes_eq r.id id) (and_parts _ _ h).0 in
    let bad : false ≡ true = sym no ∙ same in
    cc
only_place (r ∷ rs) id (suc k) h (suc j) e lt same = ap suc (only_place rs id k (and_parts _ _ h).1 j e (omega (arith, lt)) same)

-- the rule at place k is that of an option that takes one value of a parser and has a default
pub record IsOption (rules : List Rule) (k : ℕ) (r : Rule) (q : ValueParser) : Type 0 where
  pub inside : k < length rules
  pub at : (e : Rule) → slice_index_or rules k e ≡ r
  pub only : is_only rules r.id k ≡ true
  pub set : r.action ≡ Some Set
  pub simple : r.is_simple ≡ true
  pub single : r.range ≡ None
  pub parser : r.parser ≡ Some q
  pub default : 0 < length r.defaults
  pub named : is_empty r.id ≡ false
  pub not_help : bytes_eq r.id (codes "help") ≡ false
  pub not_version : bytes_eq r.id (codes "version") ≡ false

-- the command's arguments have the rules, all simple, and its settings are plain
pub record HasRules (c : Command) (rules : List Rule) : Type 0 where
  pub are : map rule_of (args_of c) ≡ rules
  pub simple : list_all (λ r. r.is_simple) rules ≡ true
  pub plain : has_plain_fields (out-Command c) ≡ true

pub no_globals : (c : Command) (rules : List Rule) → HasRules c rules → (out-Command c).has_globals ≡ false
no_globals c rules h = not-true _ (and_parts _ _ (and_parts _ _ (and_parts _ _ h.plain).1).1).0

pub no_group : (c : Command) (rules : List Rule) → HasRules c rules → groups_of c ≡ []
no_group c rules h = no_items _ (and_parts _ _ h.plain).0

names_no_group_in : (xs : List Arg) → list_all (λ r. r.is_simple) (map rule_of xs) ≡ true → All (λ a. a.groups.items ≡ []) xs
names_no_group_in [] h k d lt = absurd (omega (arith, lt))
names_no_group_in (x ∷ xs) h zero d lt = no_items _ (and_parts _ _ (and_parts _ _ (and_parts _ _ (and_parts (is_simple_arg x) _ h).0).1).1).0
names_no_group_in (x ∷ xs) h (suc k) d lt = names_no_group_in xs (and_parts _ _ h).1 k d (omega (arith, lt))

pub names_no_group : (c : Command) (rules : List Rule) → HasRules c rules → NamesNoGroup c
names_no_group c rules h = names_no_group_in (args_of c) (rw h.are h.simple)

-- so it has a name, which is neither of those that building may add
pub is_named : (rules : List Rule) (k : ℕ) (r : Rule) (q : ValueParser) → IsOption rules k r q → r.id ≡ [] → ⊥
is_named rules k r q o e =
    let bad : true ≡ false = subst (λ w. is_empty w ≡ false) e o.named in
    cc

pub is_own : (rules : List Rule) (k : ℕ) (r : Rule) (q : ValueParser) → IsOption rules k r q → (r.id ≡ codes "help") ⊎ (r.id ≡ codes "version") → ⊥
is_own rules k r q o (inl e) =
    let bad : false ≡ true = sym o.not_help ∙ (bytes_eq-Decides r.id (codes "help")).1 e in
    cc
is_own rules k r q o (inr e) =
    let bad : false ≡ true = sym o.not_version ∙ (bytes_eq-Decides r.id (codes "version")).1 e in
    cc

-- what is read of an argument that is such an option
pub record IsReadAs (a : Arg) (r : Rule) (q : ValueParser) : Type 0 where
  pub id : a.id.now ≡ r.id
  pub set : a.action ≡ Some Set
  pub no_delimiter : a.val_delim ≡ None
  pub least : 1 ≤ least_values a
  pub parser : a.value_parser ≡ Some q
  pub case : a.ignore_case ≡ r.ignore_case
  pub default : WantsDefault a

pub read_as_rule : (rules : List Rule) (k : ℕ) (r : Rule) (q : ValueParser) → IsOption rules k r q → (a : Arg) → rule_of a ≡ r → IsReadAs a r q
read_as_rule rules k r q o a is =
    let simple : is_simple_arg a ≡ true = ap (λ s. s.is_simple) is ∙ o.simple in
    let no_override = (and_parts (is_empty a.overrides.items) _ simple).1 in
    let no_condition = (and_parts (is_empty a.default_vals_ifs.items) _ no_override).1 in
    let no_group_named = (and_parts (is_empty a.groups.items) _ no_condition).1 in
    let one : a.num_vals ≡ None = ap (λ s. s.range) is ∙ o.single in record {
      id = ap (λ s. s.id) is;
      set = ap (λ s. s.action) is ∙ o.set;
      no_delimiter = no_value a.val_delim (and_parts (not (is_some a.val_delim)) _ no_group_named).0;
      least = rw one (omega arith);
      parser = ap (λ s. s.parser) is ∙ o.parser;
      case = ap (λ s. s.ignore_case) is;
      default = (
        no_items a.default_vals_ifs.items (and_parts (is_empty a.default_vals_ifs.items) _ no_override).0,
        some_items (λ s. s.now) (items_of a.default_vals) (subst (λ ts. 0 < length ts) (sym (ap (λ s. s.defaults) is)) o.default),
      );
    }

-- the only argument with the option's id is the option
pub only_argument : (c : Command) (rules : List Rule) → HasRules c rules → (k : ℕ) (r : Rule) (q : ValueParser) → IsOption rules k r q
    → (j : ℕ) (e : Arg) → j < length (args_of c) → bytes_eq (slice_index_or (args_of c) j e).id.now r.id ≡ true → j ≡ k
only_argument c rules h k r q o j e lt same =
    let at = rule_at (args_of c) rules h.are j e (rule_of e) lt in
    let len : length (args_of c) ≡ length rules = sym (length-map (args_of c) rule_of) ∙ ap length h.are in
    only_place rules r.id k o.only j (rule_of e) (omega (arith, lt, len)) (subst (λ s. bytes_eq s.id r.id ≡ true) at same)
