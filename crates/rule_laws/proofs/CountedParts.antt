-- What is formed from well-counted declarations is well counted.
use Rattle.std.proofs.Common.{◌≡◌, ℕ, zero, suc, ◌+◌, List, [], ◌∷◌, ◌++◌, map, length, Some, subst, slice_get}
use Rattle.universe_levels.specs.declared.sort.Sort.{Sort}
use Rattle.universe_levels.specs.Consistency.{IsSortOver}
use Rattle.trees.proofs.Shape.{overs_each}
use Rattle.pc_terms.specs.declared.leaf.FamilyId.{FamilyId}
use Rattle.pc_terms.specs.Syntax.{Term, Rel, SortT, Prod, Ind, Construct, over, overs, put_all, substitute, shift, variables}
use Rattle.calculus_rules.specs.declared.declaration.Constructor.{Constructor}
use Rattle.calculus_rules.specs.declared.entry.Entry.TheVariants.{Assumed, Defined}
use Rattle.calculus_rules.specs.Environment.{Env, FamilyDecl}
use Rattle.calculus_rules.specs.Context.{Context, type_at, extend}
use Rattle.calculus_rules.specs.Instances.{entries_at, products, family_type, constructor_type, predicate_entries, branch_entries, predicate_at, result_at, built_at, branch_type}
use Rattle.pc_rules.specs.WellCounted.{IsCounted, AreCounted, IsCountedNode, AreCountedConstructors, IsCountedContext}
use Rattle.calculus_rules.proofs.Spines.{one_item}
use Rattle.rule_laws.proofs.Counted.{PutsCounted, rel_counted, put_all_counted, substituted_counted, renamed_counted, shifted_counted, apply_counted, appended_counted}
use Rattle.rule_laws.proofs.KeepCounts.{IsCountedFamilyDecl, lifted_counted}
use Rattle.pc_rules.proofs.WeakNext.{none_some}

module _ (E : Env) where
  pub entries_counted : (s : ℕ → Term) → PutsCounted E s → (As : List Term) → AreCounted E As → AreCounted E (entries_at s As)
  entries_counted s f [] h = tt
  entries_counted s f (A ∷ As) h = (substituted_counted E s A f h.0, entries_counted (over s) (overs_each (IsCountedNode E) 1 s f) As h.1)

  map_counted : (g : Term → Term) → ((t : Term) → IsCounted E t → IsCounted E (g t)) → (ts : List Term) → AreCounted E ts → AreCounted E (map g ts)
  map_counted g f [] h = tt
  map_counted g f (t ∷ ts) h = (f t h.0, map_counted g f ts h.1)

  shifts_counted : (n : ℕ) (ts : List Term) → AreCounted E ts → AreCounted E (map (shift n 0) ts)
  shifts_counted n ts h = map_counted (shift n 0) (λ t k. shifted_counted E n 0 t k) ts h

  variables_counted : (n : ℕ) → AreCounted E (variables n)
  variables_counted zero = tt
  variables_counted (suc n) = (tt, variables_counted n)

  pub prod_counted : (A B : Term) → IsCounted E A → IsCounted E B → IsCounted E (Prod A B)
  prod_counted A B h k = (((tt, tt), tt), (h, (k, tt)))

  products_counted : (As : List Term) (T : Term) → AreCounted E As → IsCounted E T → IsCounted E (products As T)
  products_counted [] T h k = k
  products_counted (A ∷ As) T h k = prod_counted A (products As T) h.0 (products_counted As T h.1 k)

  pub sort_counted : (s : Sort) → IsSortOver E.levels s → IsCounted E (SortT s)
  sort_counted s o = (((tt, tt), o), tt)

  pub ind_counted : (f : FamilyId) → IsCounted E (Ind f)
  ind_counted f = (((tt, tt), tt), tt)

  pub construct_counted : (f : FamilyId) (n : ℕ) → IsCounted E (Construct f n)
  construct_counted f n = (((tt, tt), tt), tt)

  pub family_type_counted : (F : FamilyDecl) → IsCountedFamilyDecl E F → IsCounted E (family_type F)
  family_type_counted F h =
      products_counted F.parameters (products F.indices (SortT F.sort)) h.0 (products_counted F.indices (SortT F.sort) h.1 (sort_counted F.sort h.3))

  pub slice_counted : (Cs : List Constructor) (n : ℕ) (C : Constructor) → AreCountedConstructors E Cs → slice_get Cs n ≡ Some C →
      AreCounted E C.args × AreCounted E C.result
  slice_counted [] n C h e = absurd (none_some e)
  slice_counted (D ∷ Cs) zero C h e = subst (λ C. AreCounted E C.args × AreCounted E C.result) (one_item e) (h.0.0, h.0.1)
  slice_counted (D ∷ Cs) (suc n) C h e = slice_counted Cs n C h.1 e

  pub constructor_type_counted : (f : FamilyId) (F : FamilyDecl) (C : Constructor) → IsCountedFamilyDecl E F → AreCounted E C.args × AreCounted E C.result →
      IsCounted E (constructor_type f F C)
  constructor_type_counted f F C h k =
      products_counted F.parameters _ h.0 (products_counted C.args _ k.0
      (apply_counted E (Ind f) (map (shift (length C.args) 0) (variables (length F.parameters)) ++ C.result) (ind_counted f)
      (appended_counted E (map (shift (length C.args) 0) (variables (length F.parameters))) C.result
      (shifts_counted (length C.args) (variables (length F.parameters)) (variables_counted (length F.parameters))) k.1)))

  pub predicate_entries_counted : (f : FamilyId) (F : FamilyDecl) (ps : List Term) → IsCountedFamilyDecl E F → AreCounted E ps →
      AreCounted E (predicate_entries f F ps)
  predicate_entries_counted f F ps h k =
      appended_counted E (entries_at (put_all ps Rel) F.indices) _ (entries_counted (put_all ps Rel) (put_all_counted E ps Rel k (rel_counted E)) F.indices h.1) (
        apply_counted E (Ind f) (map (shift (length F.indices) 0) ps ++ variables (length F.indices)) (ind_counted f)
            (appended_counted E (map (shift (length F.indices) 0) ps) (variables (length F.indices)) (shifts_counted (length F.indices) ps k) (variables_counted (length F.indices))),
        tt,
      )

  pub branch_entries_counted : (C : Constructor) (ps : List Term) → AreCounted E C.args → AreCounted E ps → AreCounted E (branch_entries C ps)
  branch_entries_counted C ps h k = entries_counted (put_all ps Rel) (put_all_counted E ps Rel k (rel_counted E)) C.args h

  pub predicate_at_counted : (ret : Term) (is : List Term) (t : Term) → IsCounted E ret → AreCounted E is → IsCounted E t → IsCounted E (predicate_at ret is t)
  predicate_at_counted ret is t h k l =
      substituted_counted E (put_all (is ++ (t ∷ [])) Rel) ret (put_all_counted E (is ++ (t ∷ [])) Rel (appended_counted E is (t ∷ []) k (l, tt)) (rel_counted E)) h

  pub branch_type_counted : (f : FamilyId) (c : ℕ) (C : Constructor) (ps : List Term) (ret : Term) → AreCounted E C.result → AreCounted E ps → IsCounted E ret →
      IsCounted E (branch_type f c C ps ret)
  branch_type_counted f c C ps ret h k l =
      let s : ℕ → Term = overs (length C.args) (put_all ps Rel) in
      let fs : PutsCounted E s = overs_each (IsCountedNode E) (length C.args) (put_all ps Rel) (put_all_counted E ps Rel k (rel_counted E)) in
      let results : AreCounted E (result_at C ps) = map_counted (substitute s) (λ t j. substituted_counted E s t fs j) C.result h in
      let built : IsCounted E (built_at f c C ps) =
      apply_counted E (Construct f c) (map (shift (length C.args) 0) ps ++ variables (length C.args)) (construct_counted f c)
      (appended_counted E (map (shift (length C.args) 0) ps) (variables (length C.args)) (shifts_counted (length C.args) ps k) (variables_counted (length C.args))) in
      substituted_counted E (put_all (result_at C ps ++ (built_at f c C ps ∷ [])) (λ i. Rel (length C.args + i))) ret
      (put_all_counted E (result_at C ps ++ (built_at f c C ps ∷ [])) (λ i. Rel (length C.args + i))
      (appended_counted E (result_at C ps) (built_at f c C ps ∷ []) results (built, tt)) (λ i. tt)) l

  pub type_counted : (c : Context) (i : ℕ) (T : Term) → IsCountedContext E c → type_at c i ≡ Some T → IsCounted E T
  type_counted [] i T h e = absurd (none_some e)
  type_counted (Assumed A ∷ c) zero T h e = subst (λ y. IsCounted E y) (one_item e) (renamed_counted E suc A h.0)
  type_counted (Defined b B ∷ c) zero T h e = subst (λ y. IsCounted E y) (one_item e) (renamed_counted E suc B h.0.1)
  type_counted (Assumed A ∷ c) (suc i) T h e = lifted_counted E (type_at c i) (λ x q. type_counted c i x h.1 q) e
  type_counted (Defined b B ∷ c) (suc i) T h e = lifted_counted E (type_at c i) (λ x q. type_counted c i x h.1 q) e

  pub context_extended : (c : Context) (As : List Term) → IsCountedContext E c → AreCounted E As → IsCountedContext E (extend c As)
  context_extended c [] h k = h
  context_extended c (A ∷ As) h k = context_extended (Assumed A ∷ c) As (k.0, h) k.1
