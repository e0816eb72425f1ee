-- Names of constructors, one by one.
use Rattle.std.proofs.Common.{◌≡◌, ◌∙◌, sym, ap, refl, ℕ, ◌+◌, ◌<◌, ◌≤◌, ◌||◌, Bool, true, false, if◌then◌else◌, List, [], ◌∷◌, ◌++◌, map, length, get_or, drop, take}
use Rattle.std.proofs.Math.Bool.{or_assoc}
use Rattle.dump_reader.specs.declared.declaration.RawCtor.{RawCtor}
use Rattle.pc_terms.specs.declared.leaf.Name.{Name}
use Rattle.calculus_rules.specs.declared.declaration.Constructor.{Constructor}
use Rattle.pc_rules.specs.declared.broken.Broken.TheVariants.{DuplicateName}
use Rattle.pc_rules.specs.declared.meter.Account.{Account}
use Rattle.calculus_rules.specs.Same.{same_names}
use Rattle.pc_rules.specs.DirectedRun as run
use Rattle.pc_rules.specs.DirectedRun.{refused}
use Rattle.pc_rules.specs.DirectedDeclarations.{has_name, distinct_names}
use Rattle.inductive_check.specs.Given.{ctor_of}
use Rattle.pc_rules.proofs.ListSteps.{take_next, next_is, none_left}

-- the same names are in two lists
abbrev pub HaveSameNames : List Constructor → List Constructor → Type 0
HaveSameNames Bs Cs = (k : Name) → has_name k Bs ≡ has_name k Cs

or_last : (a b : Bool) → (a || b) ≡ (b || (a || false))
or_last true true = refl
or_last true false = refl
or_last false true = refl
or_last false false = refl

has_append : (k : Name) (Bs Cs : List Constructor) → has_name k (Bs ++ Cs) ≡ (has_name k Bs || has_name k Cs)
has_append k [] Cs = refl
has_append k (B ∷ Bs) Cs = ap (λ b. same_names B.name k || b) (has_append k Bs Cs) ∙ sym (or_assoc (same_names B.name k) (has_name k Bs) (has_name k Cs))

map_more : (cs : List RawCtor) (c : RawCtor) → map ctor_of (cs ++ (c ∷ [])) ≡ map ctor_of cs ++ (ctor_of c ∷ [])
map_more [] c = refl
map_more (x ∷ cs) c = ap (λ xs. ctor_of x ∷ xs) (map_more cs c)

module _ (cs : List RawCtor) (i : ℕ) (c : RawCtor) (lt : i < length cs) (is : c ≡ get_or cs i c) where
  pub taken_more : map ctor_of (take (i + 1) cs) ≡ map ctor_of (take i cs) ++ (ctor_of c ∷ [])
  taken_more = ap (map ctor_of) (take_next cs i c lt is) ∙ map_more (take i cs) c

  pub one_dropped : map ctor_of (drop i cs) ≡ ctor_of c ∷ map ctor_of (drop (i + 1) cs)
  one_dropped = ap (map ctor_of) (next_is cs i c lt is)

  pub same_more : (before : List Constructor) → HaveSameNames before (map ctor_of (take i cs)) → HaveSameNames (ctor_of c ∷ before) (map ctor_of (take (i + 1) cs))
  same_more before h k =
      ap (λ b. same_names c.name k || b) (h k) ∙ (or_last (same_names c.name k) (has_name k (map ctor_of (take i cs)))
      ∙ (sym (has_append k (map ctor_of (take i cs)) (ctor_of c ∷ [])) ∙ ap (has_name k) (sym taken_more)))

  module _ (before : List Constructor) (h : HaveSameNames before (map ctor_of (take i cs))) (u : Account) where
    if_new : (b : Bool) → has_name c.name before ≡ b → distinct_names before (ctor_of c ∷ map ctor_of (drop (i + 1) cs)) u ≡
        (if b then refused (DuplicateName c.name.0) u else distinct_names (ctor_of c ∷ before) (map ctor_of (drop (i + 1) cs)) u)
    if_new b e = ap (λ x. if x then refused (DuplicateName c.name.0) u else distinct_names (ctor_of c ∷ before) (map ctor_of (drop (i + 1) cs)) u) e

    pub new_name : has_name c.name (map ctor_of (take i cs)) ≡ false →
        distinct_names before (map ctor_of (drop i cs)) u ≡ distinct_names (ctor_of c ∷ before) (map ctor_of (drop (i + 1) cs)) u
    new_name e = ap (λ xs. distinct_names before xs u) one_dropped ∙ if_new false (h c.name ∙ e)

    pub old_name : has_name c.name (map ctor_of (take i cs)) ≡ true → distinct_names before (map ctor_of (drop i cs)) u ≡ refused (DuplicateName c.name.0) u
    old_name e = ap (λ xs. distinct_names before xs u) one_dropped ∙ if_new true (h c.name ∙ e)

pub all_distinct : (cs : List RawCtor) (i : ℕ) (before : List Constructor) (u : Account) → length cs ≤ i → distinct_names before (map ctor_of (drop i cs)) u ≡ run.done tt u
all_distinct cs i before u h = ap (λ xs. distinct_names before (map ctor_of xs) u) (none_left cs i h)
