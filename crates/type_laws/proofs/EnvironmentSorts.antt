-- The types of constants, families and constructors have sorts, in every context; so have the telescopes of families and constructors.
use Rattle.std.proofs.Common.{ℕ, zero, suc, ◌+◌, ◌≡◌, List, [], ◌∷◌, ◌++◌, length, map, Option, Some, inl, inr, refl, sym, ap, ◌∙◌, subst, arith, slice_get}
use mathlib.Core.Path.{fun_ext}
use Rattle.universe_levels.specs.declared.constraint.Constraint.{Constraint}
use Rattle.universe_levels.specs.declared.sort.Sort.{Sort}
use Rattle.universe_levels.specs.declared.sort.Sort.TheVariants.{Prop}
use Rattle.universe_levels.specs.Sorts.{super_sort}
use Rattle.pc_terms.specs.declared.leaf.Name.{Name}
use Rattle.pc_terms.specs.declared.leaf.FamilyId.{FamilyId}
use Rattle.pc_terms.specs.Syntax.{Term, Rel, SortT, Ind, rename, first, put_all, substitute, apply, variables, shift}
use Rattle.calculus_rules.specs.declared.declaration.Constructor.{Constructor}
use Rattle.calculus_rules.specs.declared.declaration.Family.{Family}
use Rattle.calculus_rules.specs.declared.declaration.Block.{Block}
use Rattle.calculus_rules.specs.declared.declaration.Kept.{Kept}
use Rattle.calculus_rules.specs.declared.declaration.Kept.TheVariants.{Constant, Block as Whole}
use Rattle.calculus_rules.specs.declared.entry.Entry.TheVariants.{Assumed}
use Rattle.calculus_rules.specs.Environment.{Env, FamilyDecl, Has, here, there, with_parameters, KeepsConstant, KeepsFamily, KnowsFamily}
use Rattle.calculus_rules.specs.Context.{Context, type_at, lifted, extend}
use Rattle.calculus_rules.specs.Instances.{products, family_type, constructor_type}
use Rattle.calculus_rules.specs.Typing.{bare, Types, rel, sort, prod, ind, TypesAll, no_terms, term, Entries, no_entries, entry, EntrySorts, no_sorts, a_sort}
use Rattle.calculus_rules.specs.Accepted.{Accepted, empty, constant, block, IsAccepted, env}
use Rattle.calculus_rules.proofs.Bare.{bare_types, bare_all, bare_entries}
use Rattle.trees.proofs.Fusion.{rename-rename, substitute_rel}
use Rattle.trees.proofs.Put.{substitute_whole}
use Rattle.typing_laws.proofs.AcceptedClosed.{accepted_closed, no_heads}
use Rattle.typing_laws.proofs.KeptSorts.{argument_sorts}
use Rattle.typing_laws.proofs.ClosedTypes.{closed_family_type}
use Rattle.typing_laws.proofs.Declarations.{Extends, one_more, extends_types, extends_all, extends_entries}
use Rattle.typing_laws.proofs.Telescopes.{products_append}
use Rattle.typing_laws.proofs.Traversal.{types_at}
use Rattle.type_laws.specs.Contexts.{HasSort}
use Rattle.type_laws.proofs.Spines.{typed_from}
use Rattle.type_laws.proofs.TelescopeParts.{all_append}
use Rattle.type_laws.proofs.ContextConversion.{Widens, widens_extend, widens_types, widens_entries}
use Rattle.typing_laws.proofs.DeclaredBlock.{declared}
use Rattle.typing_laws.proofs.MiddleEntries.{lift_none}
use Rattle.calculus_rules.proofs.Listing.{from_map}

-- each context widens the empty one
pub widens_none : {E : Env} (c : Context) → Widens E [] c
widens_none c = record { at_values = λ i v e. absurd (cc); at_types = λ i T e. absurd (cc) }

-- what an accepted environment says of its constants

kept_type : {levels : ℕ} {cs : List Constraint} {ds : List Kept} {k : Name} {T : Term} {b : Option Term} → Accepted levels cs ds → Has ds (Constant k T b) → HasSort (env levels cs ds) [] T
kept_type empty h = elim h [ ]
kept_type {levels} {cs} (constant {ds = ds} a f p q) here = (_, extends_types (one_more levels cs ds _) (bare_types p))
kept_type {levels} {cs} (constant {ds = ds} a f p q) (there h) = let s = kept_type a h in (s.0, extends_types (one_more levels cs ds _) s.1)
kept_type {levels} {cs} (block {ds = ds} a f p) (there h) = let s = kept_type a h in (s.0, extends_types (one_more levels cs ds _) s.1)

kept_body : {levels : ℕ} {cs : List Constraint} {ds : List Kept} {k : Name} {T b : Term} → Accepted levels cs ds → Has ds (Constant k T (Some b)) → Types bare (env levels cs ds) [] b T
kept_body empty h = elim h [ ]
kept_body {levels} {cs} (constant {ds = ds} a f p q) here = extends_types (one_more levels cs ds _) (bare_types q)
kept_body {levels} {cs} (constant {ds = ds} a f p q) (there h) = extends_types (one_more levels cs ds _) (kept_body a h)
kept_body {levels} {cs} (block {ds = ds} a f p) (there h) = extends_types (one_more levels cs ds _) (kept_body a h)

pub constant_sorted : (E : Env) → IsAccepted E → (c : Context) (k : Name) (T : Term) (b : Option Term) → KeepsConstant E k T b → HasSort E c T
constant_sorted E h c k T b q = let s = kept_type h.declarations q in (s.0, widens_types (accepted_closed E h) (widens_none c) s.1)

pub constant_typed : (E : Env) → IsAccepted E → (c : Context) (k : Name) (T b : Term) → KeepsConstant E k T (Some b) → Types bare E c b T
constant_typed E h c k T b q = widens_types (accepted_closed E h) (widens_none c) (kept_body h.declarations q)

-- what it says of its families

-- what an accepted environment holds of a family: its telescopes and its sort have sorts, and each constructor's result terms have the index types
record FamilySorts (E : Env) (F : FamilyDecl) : Type 0 where
  parameters : Entries bare E [] F.parameters
  indices : Entries bare E (extend [] F.parameters) F.indices
  sort : Types bare E [] (SortT F.sort) (SortT (super_sort F.sort))
  results : (n : ℕ) (C : Constructor) → slice_get F.constructors n ≡ Some C → TypesAll bare E (extend (extend [] F.parameters) C.args) (λ i. Rel (length C.args + i)) C.result F.indices

extends_sorts : {E D : Env} {F : FamilyDecl} → Extends E D → FamilySorts E F → FamilySorts D F
extends_sorts x s = record {
  parameters = extends_entries x s.parameters;
  indices = extends_entries x s.indices;
  sort = extends_types x s.sort;
  results = λ n C e. extends_all x (s.results n C e);
}

kept_sorts : {levels : ℕ} {cs : List Constraint} {ds : List Kept} {B : Block} (n : ℕ) (G : Family) → Accepted levels cs ds → Has ds (Whole B) → slice_get B.families n ≡ Some G →
    FamilySorts (env levels cs ds) (with_parameters B.params G)
kept_sorts n G empty h e = elim h [ ]
kept_sorts {levels} {cs} n G (constant {ds = ds} a f p q) (there h) e = extends_sorts (one_more levels cs ds _) (kept_sorts n G a h e)
kept_sorts {levels} {cs} n G (block {ds = ds} {B = B} a f p) here e = record {
  parameters = extends_entries (one_more levels cs ds (Whole B)) (bare_entries p.parameters);
  indices = extends_entries (one_more levels cs ds (Whole B)) (bare_entries (p.families n G e).indices);
  sort = extends_types (one_more levels cs ds (Whole B)) (sort (p.families n G e).sort);
  results = λ i C q. extends_all (declared levels cs ds B) (bare_all ((p.families n G e).constructors i C q).result);
}
kept_sorts {levels} {cs} n G (block {ds = ds} a f p) (there h) e = extends_sorts (one_more levels cs ds _) (kept_sorts n G a h e)

-- what is kept is known
pub kept_is_known : (E : Env) (f : FamilyId) (F : FamilyDecl) → KeepsFamily E f F → KnowsFamily E f F
kept_is_known E f F (B, k, q, i) = (B, inl k, q, i)

-- and what is known is kept, since no block is still being declared
pub known_is_kept : (E : Env) → IsAccepted E → (f : FamilyId) (F : FamilyDecl) → KnowsFamily E f F → KeepsFamily E f F
known_is_kept E h f F (B, inl k, q, i) = (B, k, q, i)
known_is_kept E h f F (B, inr k, q, i) = absurd (no_heads h.declarations k)

family_sorts : (E : Env) → IsAccepted E → (f : FamilyId) (F : FamilyDecl) → KeepsFamily E f F → FamilySorts E F
family_sorts E h f F (B, k, q, i) =
    let (G, at, e) = from_map (with_parameters B.params) (slice_get B.families f.family) F i in
    subst (FamilySorts E) (sym e) (kept_sorts f.family G h.declarations k at)

pub parameters_sorted : (E : Env) → IsAccepted E → (c : Context) (f : FamilyId) (F : FamilyDecl) → KnowsFamily E f F → Entries bare E c F.parameters
parameters_sorted E h c f F q = widens_entries (accepted_closed E h) (widens_none c) (family_sorts E h f F (known_is_kept E h f F q)).parameters

-- a context extended by a family's parameters
widens_parameters : (E : Env) → IsAccepted E → (c : Context) (F : FamilyDecl) → Widens E (extend [] F.parameters) (extend c F.parameters)
widens_parameters E h c F = widens_extend (accepted_closed E h) (widens_none c) F.parameters

pub indices_sorted : (E : Env) → IsAccepted E → (c : Context) (f : FamilyId) (F : FamilyDecl) → KnowsFamily E f F → Entries bare E (extend c F.parameters) F.indices
indices_sorted E h c f F q = widens_entries (accepted_closed E h) (widens_parameters E h c F) (family_sorts E h f F (known_is_kept E h f F q)).indices

entries_of : {E : Env} {c : Context} {As : List Term} {ss : List Sort} → EntrySorts bare E c As ss → Entries bare E c As
entries_of no_sorts = no_entries
entries_of (a_sort p ps) = entry p (entries_of ps)

pub arguments_sorted : (E : Env) → IsAccepted E → (c : Context) (f : FamilyId) (F : FamilyDecl) (n : ℕ) (C : Constructor) → KeepsFamily E f F → slice_get F.constructors n ≡ Some C →
    Entries bare E (extend c F.parameters) C.args
arguments_sorted E h c f F n C q e = widens_entries (accepted_closed E h) (widens_parameters E h c F) (entries_of (argument_sorts E h f F n C q e))

-- products over a telescope of entries with sorts

pub products_sorted : {E : Env} {c : Context} {As : List Term} (T : Term) → Entries bare E c As → HasSort E (extend c As) T → HasSort E c (products As T)
products_sorted T no_entries s = s
products_sorted T (entry p ps) s = let t = products_sorted T ps s in (_, prod p t.1)

-- and to a proposition is one
pub products_in_prop : {E : Env} {c : Context} {As : List Term} (T : Term) → Entries bare E c As → Types bare E (extend c As) T (SortT Prop) → Types bare E c (products As T) (SortT Prop)
products_in_prop T no_entries d = d
products_in_prop T (entry p ps) d = prod p (products_in_prop T ps d)

pub family_sorted : (E : Env) → IsAccepted E → (c : Context) (f : FamilyId) (F : FamilyDecl) → KnowsFamily E f F → HasSort E c (family_type F)
family_sorted E h c f F q =
    let s = family_sorts E h f F (known_is_kept E h f F q) in
    products_sorted (products F.indices (SortT F.sort)) (parameters_sorted E h c f F q)
    (products_sorted (SortT F.sort) (indices_sorted E h c f F q) (super_sort F.sort, widens_types (accepted_closed E h) (widens_none (extend (extend c F.parameters) F.indices)) s.sort))

-- a telescope's variables have its types

past_one : (n : ℕ) (T : Term) → rename (λ j. n + j) (rename suc T) ≡ rename (λ j. suc n + j) T
past_one n T = rename-rename T suc (λ j. n + j) ∙ ap (λ r. rename r T) (fun_ext each)
  where
    each : (i : ℕ) → n + suc i ≡ suc n + i
    each i = omega arith

past_both : (n m : ℕ) (T : Term) → rename (λ j. n + j) (rename (λ j. m + j) T) ≡ substitute (λ i. Rel (n + m + i)) T
past_both n m T = rename-rename T (λ j. m + j) (λ j. n + j) ∙ ap (λ r. rename r T) (fun_ext each) ∙ sym (substitute_rel T (λ i. n + m + i))
  where
    each : (i : ℕ) → n + (m + i) ≡ n + m + i
    each i = omega arith

-- an entry's type, seen from under a telescope
pub type_extended : (As : List Term) (c : Context) (i : ℕ) (T : Term) → type_at c i ≡ Some T → type_at (extend c As) (length As + i) ≡ Some (rename (λ j. length As + j) T)
type_extended [] c i T e = let z : 0 + i ≡ i = omega arith in ap (type_at c) z ∙ e ∙ ap Some (lift_none T)
type_extended (A ∷ As) c i T e =
    let z : suc (length As) + i ≡ length As + suc i = omega arith in
    ap (type_at (extend (Assumed A ∷ c) As)) z ∙ type_extended As (Assumed A ∷ c) (suc i) (rename suc T) (ap lifted e) ∙ ap Some (past_one (length As) T)

abbrev past : ℕ → ℕ → Term
past n i = Rel (n + i)

first_variable : (n m : ℕ) → past (n + m) ≡ first (Rel (n + m)) (past (n + suc m))
first_variable n m = fun_ext each
  where
    each : (i : ℕ) → past (n + m) i ≡ first (Rel (n + m)) (past (n + suc m)) i
    each zero = let z : n + m + 0 ≡ n + m = omega arith in ap Rel z
    each (suc i) = let z : n + m + suc i ≡ n + suc m + i = omega arith in ap Rel z

-- a telescope's variables have its types, in each context that has its entries n places further out
pub variables_fit : (E : Env) (D : Context) (As : List Term) (c : Context) (n : ℕ) →
    ((i : ℕ) (T : Term) → type_at (extend c As) i ≡ Some T → type_at D (n + i) ≡ Some (rename (λ j. n + j) T)) →
    TypesAll bare E D (λ i. Rel (n + length As + i)) (map (shift n 0) (variables (length As))) As
variables_fit E D [] c n g = no_terms
variables_fit E D (A ∷ As) c n g =
    term (types_at refl (past_both n (suc (length As)) A) (rel (g (length As) (rename (λ j. suc (length As) + j) A) outermost)))
    (subst (λ s. TypesAll bare E D s (map (shift n 0) (variables (length As))) As) (first_variable n (length As)) (variables_fit E D As (Assumed A ∷ c) n g))
  where
    outermost : type_at (extend (Assumed A ∷ c) As) (length As) ≡ Some (rename (λ j. suc (length As) + j) A)
    outermost =
        let z : length As ≡ length As + 0 = omega arith in
        ap (type_at (extend (Assumed A ∷ c) As)) z ∙ type_extended As (Assumed A ∷ c) 0 (rename suc A) refl ∙ ap Some (past_one (length As) A)

-- what is left when they are put in
pub variables_left : (m n : ℕ) → put_all (map (shift n 0) (variables m)) (λ i. Rel (n + m + i)) ≡ (λ i. Rel (n + i))
variables_left zero n = fun_ext each
  where
    each : (i : ℕ) → past (n + 0) i ≡ past n i
    each i = let z : n + 0 + i ≡ n + i = omega arith in ap Rel z
variables_left (suc m) n = ap (put_all (map (shift n 0) (variables m))) (sym (first_variable n m)) ∙ variables_left m n

-- what a constructor builds has its family's sort
built_sorted : (E : Env) → IsAccepted E → (f : FamilyId) (F : FamilyDecl) (n : ℕ) (C : Constructor) → KeepsFamily E f F → slice_get F.constructors n ≡ Some C →
    Types bare E (extend (extend [] F.parameters) C.args) (apply (Ind f) (map (shift (length C.args) 0) (variables (length F.parameters)) ++ C.result)) (SortT F.sort)
built_sorted E h f F n C q e =
    typed_from E h context outer (Ind f) (F.parameters ++ F.indices) (map (shift (length C.args) 0) (variables (length F.parameters)) ++ C.result) (SortT F.sort)
    (types_at refl
    (sym (substitute_whole (family_type F) outer (closed_family_type F ((accepted_closed E h).known f F (kept_is_known E f F q)))) ∙ ap (substitute outer) (sym (products_append F.parameters F.indices (SortT F.sort))))
    (ind (kept_is_known E f F q)))
    (all_append C.result F.indices
    (variables_fit E context F.parameters [] (length C.args) (type_extended C.args (extend [] F.parameters)))
    (subst (λ s. TypesAll bare E context s C.result F.indices) (sym (variables_left (length F.parameters) (length C.args))) ((family_sorts E h f F q).results n C e)))
  where
    context : Context
    context = extend (extend [] F.parameters) C.args

    outer : ℕ → Term
    outer i = Rel (length C.args + length F.parameters + i)

pub constructor_sorted : (E : Env) → IsAccepted E → (c : Context) (f : FamilyId) (F : FamilyDecl) (n : ℕ) (C : Constructor) → KeepsFamily E f F → slice_get F.constructors n ≡ Some C →
    HasSort E c (constructor_type f F C)
constructor_sorted E h c f F n C q e =
    let s = products_sorted _ (parameters_sorted E h [] f F (kept_is_known E f F q)) (products_sorted _ (arguments_sorted E h [] f F n C q e) (F.sort, built_sorted E h f F n C q e)) in
    (s.0, widens_types (accepted_closed E h) (widens_none c) s.1)

-- of a family in Prop they have the sort Prop
pub constructor_in_prop : (E : Env) → IsAccepted E → (c : Context) (f : FamilyId) (F : FamilyDecl) (n : ℕ) (C : Constructor) → KeepsFamily E f F → F.sort ≡ Prop →
    slice_get F.constructors n ≡ Some C → Types bare E c (constructor_type f F C) (SortT Prop)
constructor_in_prop E h c f F n C q p e =
    widens_types (accepted_closed E h) (widens_none c)
    (products_in_prop _ (parameters_sorted E h [] f F (kept_is_known E f F q))
    (products_in_prop _ (arguments_sorted E h [] f F n C q e) (types_at refl (ap SortT p) (built_sorted E h f F n C q e))))
