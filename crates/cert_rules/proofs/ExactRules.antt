-- The rules that take no item take the same units whatever they start with.
use Rattle.std.proofs.Common.{ℕ, ◌+◌, ◌==◌, List, [], ◌∷◌, length, Option, Some, None, slice_get}
use Rattle.universe_levels.specs.declared.level.Level.{Level}
use Rattle.universe_levels.specs.declared.sort.Sort.{Sort}
use Rattle.universe_levels.specs.declared.sort.Sort.TheVariants.{Prop, Of}
use Rattle.universe_levels.specs.Sorts.{super_sort}
use Rattle.pc_terms.specs.declared.leaf.Name.{Name}
use Rattle.pc_terms.specs.declared.leaf.FamilyId.{FamilyId}
use Rattle.pc_terms.specs.Syntax.{Term, Terms, SortT, number}
use Rattle.pc_terms.specs.Formed.{binders_of}
use Rattle.calculus_rules.specs.declared.declaration.Constructor.{Constructor}
use Rattle.calculus_rules.specs.declared.declaration.Block.{Block}
use Rattle.calculus_rules.specs.declared.declaration.Kept.{Kept}
use Rattle.calculus_rules.specs.declared.declaration.Kept.TheVariants.{Constant}
use Rattle.pc_rules.specs.declared.broken.Broken.TheVariants.{UnboundRel, UnknownName, BadNumber, LevelUndeclared, CountWrong, ElimNotAllowed, NotEnoughAbstractions, SortTooSmall, DuplicateName}
use Rattle.calculus_rules.specs.Environment.{Env, FamilyDecl, family_at}
use Rattle.calculus_rules.specs.Context.{Context}
use Rattle.calculus_rules.specs.Instances.{family_type, constructor_type}
use Rattle.calculus_rules.specs.Lookups.{kept_at, known_block, whole_block}
use Rattle.pc_rules.specs.DirectedComparison.{Test, sort_below}
use Rattle.pc_rules.specs.DirectedTyping.{rel_rule, undeclared_in, raises_past, levels_declared, sort_rule, const_rule, family_number, find_family, ind_rule, constructor_number, construct_rule, counted, names_counted, match_counted, may_eliminate, eliminated, enough_abstractions, definition_type}
use Rattle.pc_rules.specs.DirectedDeclarations.{has_name, distinct_names, fits_sort, fresh_name}
use Rattle.cert_rules.proofs.Exact.{IsExact, exact_done, exact_refused, exact_if, exact_bind, exact_make, exact_made}

pub exact_rel : {j : ℕ} (c : Context) (i : ℕ) (o : Option Term) → IsExact j (λ u. rel_rule c i o u) (λ u. rel_rule c i o u)
exact_rel c i None = exact_refused (UnboundRel i (length c))
exact_rel c i (Some T) = exact_make T

pub exact_levels : {j : ℕ} (o : Option Level) → IsExact j (λ u. levels_declared o u) (λ u. levels_declared o u)
exact_levels None = exact_done tt
exact_levels (Some l) = exact_refused (LevelUndeclared l)

pub exact_sort : {j : ℕ} (E : Env) (s : Sort) → IsExact j (λ u. sort_rule E s u) (λ u. sort_rule E s u)
exact_sort E s = exact_bind _ _ _ _ (exact_levels (undeclared_in E.levels s)) (λ x. exact_made (raises_past s) (SortT (super_sort s)))

pub exact_const : {j : ℕ} (l : Name) (o : Option Kept) → IsExact j (λ u. const_rule l o u) (λ u. const_rule l o u)
exact_const l (Some (Constant m T b)) = exact_done T
exact_const l other = exact_refused (UnknownName l)

exact_number : {j : ℕ} (B : Block) (f : FamilyId) (o : Option FamilyDecl) → IsExact j (λ u. family_number B f o u) (λ u. family_number B f o u)
exact_number B f None = exact_refused (BadNumber f.family (length B.families))
exact_number B f (Some F) = exact_done F

pub exact_find_family : {j : ℕ} (f : FamilyId) (o : Option Block) → IsExact j (λ u. find_family f o u) (λ u. find_family f o u)
exact_find_family f None = exact_refused (UnknownName f.block)
exact_find_family f (Some B) = exact_number B f (family_at B f.family)

pub exact_ind : {j : ℕ} (E : Env) (f : FamilyId) → IsExact j (λ u. ind_rule E f u) (λ u. ind_rule E f u)
exact_ind E f = exact_bind _ _ _ _ (exact_find_family f (known_block (kept_at E.declarations f.block))) (λ F. exact_make (family_type F))

exact_constructor : {j : ℕ} (F : FamilyDecl) (m : ℕ) (o : Option Constructor) → IsExact j (λ u. constructor_number F m o u) (λ u. constructor_number F m o u)
exact_constructor F m None = exact_refused (BadNumber m (length F.constructors))
exact_constructor F m (Some C) = exact_done C

pub exact_construct : {j : ℕ} (E : Env) (f : FamilyId) (n : ℕ) → IsExact j (λ u. construct_rule E f n u) (λ u. construct_rule E f n u)
exact_construct E f n =
    exact_bind _ _ _ _ (exact_find_family f (whole_block (kept_at E.declarations f.block)))
    (λ F. exact_bind _ _ _ _ (exact_constructor F n (slice_get F.constructors n)) (λ C. exact_make (constructor_type f F C)))

pub exact_counted : {j : ℕ} (want got : ℕ) → IsExact j (λ u. counted want got u) (λ u. counted want got u)
exact_counted want got = exact_if (want == got) _ _ _ _ (exact_done tt) (exact_refused (CountWrong want got))

exact_names : {j : ℕ} (Cs : List Constructor) (ns : List ℕ) → IsExact j (λ u. names_counted Cs ns u) (λ u. names_counted Cs ns u)
exact_names [] ns = exact_done tt
exact_names (C ∷ Cs) [] = exact_done tt
exact_names (C ∷ Cs) (m ∷ ns) = exact_bind _ _ _ _ (exact_counted (length C.args) m) (λ x. exact_names Cs ns)

pub exact_match_counted : {j : ℕ} (F : FamilyDecl) (ps : Terms) (m : ℕ) (bs : Terms) → IsExact j (λ u. match_counted F ps m bs u) (λ u. match_counted F ps m bs u)
exact_match_counted F ps m bs =
    exact_bind _ _ _ _ (exact_counted (length F.parameters) (number ps)) (λ x.
    exact_bind _ _ _ _ (exact_counted (length F.indices + 1) m) (λ y.
    exact_bind _ _ _ _ (exact_counted (length F.constructors) (number bs)) (λ z. exact_names F.constructors (binders_of bs))))

pub exact_eliminated : {j : ℕ} (B : Option Block) (f : FamilyId) (F : FamilyDecl) (s : Sort) → IsExact j (λ u. eliminated B f F s u) (λ u. eliminated B f F s u)
exact_eliminated B f F s = exact_if (may_eliminate B F F.sort s) _ _ _ _ (exact_done tt) (exact_refused (ElimNotAllowed f))

pub exact_enough : {j : ℕ} (d : ℕ) (o : Option (Context × Term)) → IsExact j (λ u. enough_abstractions d o u) (λ u. enough_abstractions d o u)
exact_enough d None = exact_refused (NotEnoughAbstractions d)
exact_enough d (Some p) = exact_done p

pub exact_definition_type : {j : ℕ} (i n : ℕ) (o : Option (ℕ × Term)) → IsExact j (λ u. definition_type i n o u) (λ u. definition_type i n o u)
exact_definition_type i n None = exact_refused (BadNumber i n)
exact_definition_type i n (Some p) = exact_done p.1

pub exact_distinct : {j : ℕ} (before Cs : List Constructor) → IsExact j (λ u. distinct_names before Cs u) (λ u. distinct_names before Cs u)
exact_distinct before [] = exact_done tt
exact_distinct before (C ∷ Cs) = exact_if (has_name C.name before) _ _ _ _ (exact_refused (DuplicateName C.name.0)) (exact_distinct (C ∷ before) Cs)

pub exact_fits_sort : {j : ℕ} (q : Test) (r s : Sort) → IsExact j (λ u. fits_sort q r s u) (λ u. fits_sort q r s u)
exact_fits_sort q Prop s = exact_done tt
exact_fits_sort q (Of w) s = exact_if (sort_below q s (Of w)) _ _ _ _ (exact_done tt) (exact_refused (SortTooSmall s (Of w)))

pub exact_fresh : {j : ℕ} (o : Option Kept) (k : Name) → IsExact j (λ u. fresh_name o k u) (λ u. fresh_name o k u)
exact_fresh None k = exact_done tt
exact_fresh (Some d) k = exact_refused (DuplicateName k.0)
