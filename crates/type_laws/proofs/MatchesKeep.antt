-- A match on a constructor keeps types, and the constructor's arguments have the types of the branch's entries.
use Rattle.std.proofs.Common.{ℕ, zero, suc, ◌+◌, ◌≡◌, List, [], ◌∷◌, ◌++◌, Some, length, map, slice_get, refl, sym, ap, ◌∙◌, subst, arith, length-append}
use Rattle.pc_terms.specs.declared.leaf.FamilyId.{FamilyId}
use Rattle.pc_terms.specs.Syntax.{Term, Terms, Rel, Ind, Construct, Case, put_all, shift, substitute, apply, variables, term_at, terms_of}
use Rattle.calculus_rules.specs.declared.declaration.Constructor.{Constructor}
use Rattle.calculus_rules.specs.Environment.{Env, FamilyDecl, KeepsFamily}
use Rattle.calculus_rules.specs.Context.{Context, values, extend}
use Rattle.calculus_rules.specs.Conversion.{same, Below, equal}
use Rattle.calculus_rules.specs.Instances.{constructor_type, branch_entries, branch_type}
use Rattle.calculus_rules.specs.Step.{IsConstructor, is_constructor}
use Rattle.calculus_rules.specs.Typing.{bare, Types, TypesAll, Entries, Branches, no_branches, branch}
use Rattle.calculus_rules.specs.Accepted.{IsAccepted}
use Rattle.calculus_rules.proofs.OneEach.{one_of_each}
use Rattle.calculus_rules.proofs.Spines.{one_item}
use Rattle.trees.proofs.Put.{each_length}
use Rattle.typing_laws.proofs.AcceptedClosed.{accepted_closed}
use Rattle.typing_laws.proofs.Telescopes.{products_append}
use Rattle.typing_laws.proofs.Traversal.{types_at, equal_at, below_at, types_length}
use Rattle.typing_laws.proofs.Generating.{of_construct, of_case}
use Rattle.calculus_rules.proofs.Listing.{same_list}
use Rattle.type_laws.specs.Contexts.{IsContext}
use Rattle.equality_laws.specs.Laws.{EqualEach, no_terms, a_term}
use Rattle.type_laws.proofs.Apart.{families_below}
use Rattle.type_laws.proofs.EnvironmentSorts.{kept_is_known, parameters_sorted, arguments_sorted}
use Rattle.type_laws.proofs.TelescopeParts.{entries_append, all_parts}
use Rattle.type_laws.proofs.Spines.{spine_types, arguments_put, arguments_at_equal, put_equal}
use Rattle.type_laws.proofs.PutLists.{put_all_append, result_put, branch_type_put}
use Rattle.type_laws.proofs.EqualLists.{each_equal_same, each_equal_back, each_equal_append, each_equal_chain, each_equal_parts, each_put_equal, equal_apply}
use Rattle.type_laws.proofs.RootsKeep.{carried}

-- what a type of a constructor with all its parameters and arguments says: these have the types of the telescopes, and the family at the parameters and the result is below the type
pub record BuiltTypes (E : Env) (c : Context) (f : FamilyId) (F : FamilyDecl) (C : Constructor) (qs xs : List Term) (T : Term) : Type 0 where
  pub parameters : TypesAll bare E c Rel qs F.parameters
  pub arguments : TypesAll bare E c (put_all qs Rel) xs C.args
  pub results : List Term
  pub are : results ≡ map (substitute (put_all xs (put_all qs Rel))) C.result
  pub count : length results ≡ length F.indices
  pub below : Below E (values c) (apply (Ind f) (qs ++ results)) T

-- what a constructor with all its parameters and arguments is, where its family and its declaration are known
record IsBuiltBy (f : FamilyId) (F : FamilyDecl) (n : ℕ) (C : Constructor) (v : Term) (qs xs : List Term) : Type 0 where
  parameters : length qs ≡ length F.parameters
  arguments : length xs ≡ length C.args
  is : v ≡ apply (Construct f n) (qs ++ xs)

built_by : (E : Env) → IsAccepted E → (f : FamilyId) (F : FamilyDecl) (n : ℕ) (C : Constructor) (v : Term) (qs xs : List Term) → KeepsFamily E f F →
    slice_get F.constructors n ≡ Some C → IsConstructor E f n v qs xs → IsBuiltBy f F n C v qs xs
built_by E h f F n C v qs xs q e (is_constructor {F = G} {C = D} kept at lq lx eq) =
    record {
      parameters = lq ∙ ap (λ F. length F.parameters) one;
      arguments = lx ∙ ap (λ C. length C.args) (one_item (sym at ∙ ap (λ F. slice_get F.constructors n) one ∙ e));
      is = eq;
    }
  where
    one : G ≡ F
    one = (one_of_each E h).families f G F kept q

-- each type of a constructor is above its declared one
pub above_declared : (E : Env) → IsAccepted E → (c : Context) (f : FamilyId) (F : FamilyDecl) (n : ℕ) (C : Constructor) (W : Term) → KeepsFamily E f F →
    slice_get F.constructors n ≡ Some C → Types bare E c (Construct f n) W → Below E (values c) (constructor_type f F C) W
above_declared E h c f F n C W q e d =
    let r = of_construct d in
    let one = (one_of_each E h).families f r.family F r.kept q in
    let at = one_item (sym r.at ∙ ap (λ F. slice_get F.constructors n) one ∙ e) in
    subst (λ C. Below E (values c) (constructor_type f F C) W) at (subst (λ F. Below E (values c) (constructor_type f F r.constructor) W) one r.below)

both_lengths : (qs xs As Bs : List Term) → length qs ≡ length As → length xs ≡ length Bs → length (qs ++ xs) ≡ length (As ++ Bs)
both_lengths qs xs As Bs p q = length-append qs xs ∙ (λ i. p i + q i) ∙ sym (length-append As Bs)

pub built_types : (E : Env) → IsAccepted E → (c : Context) (f : FamilyId) (F : FamilyDecl) (n : ℕ) (C : Constructor) (v : Term) (qs xs : List Term) (T : Term) → IsContext E c →
    KeepsFamily E f F → slice_get F.constructors n ≡ Some C → IsConstructor E f n v qs xs → Types bare E c v T → BuiltTypes E c f F C qs xs T
built_types E h c f F n C v qs xs T k q e i d =
    let b = built_by E h f F n C v qs xs q e i in
    let s =
    spine_types E h c (Construct f n) (F.parameters ++ C.args) (qs ++ xs) result T k
    (entries_append c F.parameters C.args (parameters_sorted E h c f F (kept_is_known E f F q)) (arguments_sorted E h c f F n C q e))
    (λ W w. below_at (sym (products_append F.parameters C.args result)) refl (above_declared E h c f F n C W q e w))
    (both_lengths qs xs F.parameters C.args b.parameters b.arguments) (types_at b.is refl d) in
    let parts = all_parts Rel qs xs F.parameters C.args b.parameters s.arguments in
    record {
      parameters = parts.outer;
      arguments = parts.inner;
      results = map (substitute (put_all xs (put_all qs Rel))) C.result;
      are = refl;
      count = each_length (substitute (put_all xs (put_all qs Rel))) C.result ∙ ((accepted_closed E h).families f F q).counts n C e;
      below = below_at (result_put f qs xs C.result (length F.parameters) (length C.args) b.parameters b.arguments) refl s.below;
    }
  where
    result : Term
    result = apply (Ind f) (map (shift (length C.args) 0) (variables (length F.parameters)) ++ C.result)

-- a match's scrutinee that is a constructor: its arguments have the types of the branch's entries, and its result and itself, at the match's parameters, are equal to the indices and the scrutinee
record Matching (E : Env) (c : Context) (f : FamilyId) (n : ℕ) (C : Constructor) (ps xs is : List Term) (v : Term) : Type 0 where
  arguments : TypesAll bare E c Rel xs (branch_entries C ps)
  equals : EqualEach E (values c) (map (substitute (put_all xs (put_all ps Rel))) C.result ++ (apply (Construct f n) (ps ++ xs) ∷ [])) (is ++ (v ∷ []))

matching : (E : Env) → IsAccepted E → (c : Context) (f : FamilyId) (F : FamilyDecl) (n : ℕ) (C : Constructor) (ps qs xs is : List Term) (v : Term) → IsContext E c →
    KeepsFamily E f F → slice_get F.constructors n ≡ Some C → IsConstructor E f n v qs xs → length ps ≡ length F.parameters → Entries bare E c (branch_entries C ps) →
    Types bare E c v (apply (Ind f) (ps ++ is)) → Matching E c f n C ps xs is v
matching E h c f F n C ps qs xs is v k q e i l es d =
    let b = built_by E h f F n C v qs xs q e i in
    let t = built_types E h c f F n C v qs xs (apply (Ind f) (ps ++ is)) k q e i d in
    let parts = each_equal_parts qs t.results ps is (b.parameters ∙ sym l) (families_below E h (values c) f f (qs ++ t.results) (ps ++ is) t.below).arguments in
    let both : EqualEach E (values c) (ps ++ xs) (qs ++ xs) = each_equal_append (each_equal_back parts.outer) (each_equal_same xs) in
    record {
      arguments = arguments_at_equal E h c C.args ps qs xs k parts.outer (l ∙ sym b.parameters) es t.arguments;
      equals =
          each_equal_append
          (each_equal_chain
          (each_at (ap (results C) (put_all_append ps xs Rel)) (ap (results C) (put_all_append qs xs Rel) ∙ sym t.are) (each_put_equal E h c (ps ++ xs) (qs ++ xs) C.result both)) parts.inner)
          (a_term (equal_at refl (sym b.is) (equal_apply E (values c) (Construct f n) (Construct f n) (ps ++ xs) (qs ++ xs) same both)) no_terms);
    }
  where
    results : Constructor → (ℕ → Term) → List Term
    results C s = map (substitute s) C.result

    each_at : {ts ts' us us' : List Term} → ts ≡ ts' → us ≡ us' → EqualEach E (values c) ts us → EqualEach E (values c) ts' us'
    each_at {ts} {ts'} {us} {us'} p q w = subst (λ us. EqualEach E (values c) ts' us) q (subst (λ ts. EqualEach E (values c) ts us) p w)

-- the branch of a constructor
record BranchOf (E : Env) (c : Context) (f : FamilyId) (n : ℕ) (C : Constructor) (ps : List Term) (ret body : Term) : Type 0 where
  entries : Entries bare E c (branch_entries C ps)
  typed : Types bare E (extend c (branch_entries C ps)) body (branch_type f n C ps ret)

branch_of : {E : Env} {c : Context} {f : FamilyId} {ps : List Term} {ret : Term} {k : ℕ} {Cs : List Constructor} {bs : Terms} → Branches bare E c f ps ret k Cs bs →
    (n m i : ℕ) (C : Constructor) (body : Term) → k + n ≡ m → slice_get Cs n ≡ Some C → term_at bs n ≡ Some (i, body) → BranchOf E c f m C ps ret body
branch_of no_branches n m i C body l e e' = absurd (cc)
branch_of {E} {c} {f} {ps} {ret} (branch {n = k} {C = D} {body = b} _ es p rest) zero m i C body l e e' =
    let q : b ≡ body = grind arith in
    let o : D ≡ C = one_item e in
    let z : k ≡ m = omega arith in
    record {
      entries = subst (λ C. Entries bare E c (branch_entries C ps)) o es;
      typed =
          subst (λ m. Types bare E (extend c (branch_entries C ps)) body (branch_type f m C ps ret)) z
          (subst (λ C. Types bare E (extend c (branch_entries C ps)) body (branch_type f k C ps ret)) o
          (types_at q refl p));
    }
branch_of (branch _ es p rest) (suc n) m i C body l e e' = branch_of rest n m i C body (omega arith) e e'

-- the entries of a constructor's branch have sorts
branch_sorted : {E : Env} {c : Context} {f : FamilyId} {ps : List Term} {ret : Term} {k : ℕ} {Cs : List Constructor} {bs : Terms} → Branches bare E c f ps ret k Cs bs →
    (n : ℕ) (C : Constructor) → slice_get Cs n ≡ Some C → Entries bare E c (branch_entries C ps)
branch_sorted no_branches n C e = absurd (cc)
branch_sorted {E} {c} {ps = ps} (branch _ es p rest) zero C e = subst (λ C. Entries bare E c (branch_entries C ps)) (one_item e) es
branch_sorted (branch _ es p rest) (suc n) C e = branch_sorted rest n C e

pub matched_arguments : (E : Env) → IsAccepted E → (c : Context) (f : FamilyId) (F : FamilyDecl) (C : Constructor) (n m : ℕ) (ps qs xs : List Term) (bs : Terms) (ret v T : Term) → IsContext E c →
    KeepsFamily E f F → slice_get F.constructors n ≡ Some C → IsConstructor E f n v qs xs → Types bare E c (Case f (terms_of ps) m ret v bs) T →
    TypesAll bare E c Rel xs (branch_entries C ps)
matched_arguments E h c f F C n m ps qs xs bs ret v T k q e i d =
    let r = of_case d in
    let one : r.family ≡ F = (one_of_each E h).families f r.family F r.kept q in
    let same_parameters : r.parameters ≡ ps = sym (same_list ps r.parameters r.are) in
    subst (λ ps. TypesAll bare E c Rel xs (branch_entries C ps)) same_parameters
    (matching E h c f F n C r.parameters qs xs r.indices v k q e i (types_length r.fit ∙ ap (λ F. length F.parameters) one)
    (branch_sorted r.branches n C (ap (λ F. slice_get F.constructors n) one ∙ e)) r.scrutinee).arguments

pub matched_keeps : (E : Env) → IsAccepted E → (c : Context) (f : FamilyId) (n m i : ℕ) (ps bs : Terms) (qs xs : List Term) (ret v body T : Term) → IsContext E c →
    IsConstructor E f n v qs xs → term_at bs n ≡ Some (i, body) → i ≡ length xs → Types bare E c (Case f ps m ret v bs) T →
    Types bare E c (substitute (put_all xs Rel) body) T
matched_keeps E h c f n m i ps bs qs xs ret v body T k (is_constructor {F = F} {C = C} q at lq lx eq) e l d =
    let r = of_case d in
    let one : r.family ≡ F = (one_of_each E h).families f r.family F r.kept q in
    let b = branch_of r.branches n n i C body (omega arith) (ap (λ F. slice_get F.constructors n) one ∙ at) e in
    let w = matching E h c f F n C r.parameters qs xs r.indices v k q at (is_constructor q at lq lx eq) (types_length r.fit ∙ ap (λ F. length F.parameters) one) b.entries r.scrutinee in
    carried E h c (Case f ps m ret v bs) (substitute (put_all xs Rel) body) (substitute (put_all xs Rel) (branch_type f n C r.parameters ret)) T k d
    (arguments_put E h c (branch_entries C r.parameters) xs body (branch_type f n C r.parameters ret) w.arguments b.typed)
    (Below.chain (equal (equal_at (sym (branch_type_put f n C r.parameters xs ret lx)) refl (put_equal E h c _ _ ret w.equals))) r.below)
