-- Substitution over lists, telescopes, declared types: each lemma is stated for substitutions alone, since a renaming is one.
use Rattle.std.proofs.Common.{◌≡◌, ℕ, zero, suc, ◌+◌, ◌≤◌, List, [], ◌∷◌, ◌++◌, length, refl, sym, ap, ◌∙◌, subst, arith, length-append, map}
use mathlib.Core.Path.{fun_ext}
use Rattle.pc_terms.specs.Syntax.{Prod, Term, Rel, Terms, Ind, Construct, Fix, over, overs, substitute, substitute_terms, put_all, apply, shift, variables, Closed, ClosedEach}
use Rattle.pc_terms.specs.declared.leaf.FamilyId.{FamilyId}
use Rattle.calculus_rules.specs.declared.declaration.Constructor.{Constructor}
use Rattle.calculus_rules.specs.Environment.{FamilyDecl}
use Rattle.typing_laws.proofs.ClosedEnv.{ClosedFamily, ClosedConstructor, ClosedEntries}
use Rattle.calculus_rules.specs.Instances.{products, fixpoints, unfolded, entries_at, predicate_entries, branch_type}
pub use Rattle.calculus_rules.proofs.Telescopes.{entries_at_length}
use Rattle.typing_laws.proofs.ClosedTypes.{entries_at_agree, fixpoints_length}
use Rattle.trees.proofs.Fusion.{substitute-substitute, substitute_rel, overs_overs}
use Rattle.trees.proofs.Cutoffs.{overs_past, overs_below}
use Rattle.trees.proofs.Put.{overs_over, substitute-put_all, substitute-put_all_in, lift-substitute, put_closed, each_append, each_length, overs_agree, substitute_closed}
use Rattle.calculus_rules.proofs.Spines.{substitute-apply}

pub substitute-fixpoints : (i n : ℕ) (rargs : List ℕ) (types bodies : Terms) (s : ℕ → Term) →
    map (substitute s) (fixpoints i n rargs types bodies) ≡ fixpoints i n rargs (substitute_terms s types) (substitute_terms s bodies)
substitute-fixpoints i zero rargs types bodies s = refl
substitute-fixpoints i (suc n) rargs types bodies s =
    ap (◌∷◌ (Fix i rargs (substitute_terms s types) (substitute_terms s bodies))) (substitute-fixpoints (suc i) n rargs types bodies s)

pub substitute-unfolding : (rargs : List ℕ) (types bodies : Terms) (s : ℕ → Term) (t : Term) →
    substitute (put_all (fixpoints 0 (length rargs) rargs (substitute_terms s types) (substitute_terms s bodies)) Rel) (substitute (overs (length rargs) s) t)
    ≡ substitute s (unfolded rargs types bodies t)
substitute-unfolding rargs types bodies s t =
    ap (λ l. substitute (put_all l Rel) (substitute (overs (length rargs) s) t)) (sym (substitute-fixpoints 0 (length rargs) rargs types bodies s))
    ∙ ap (λ n. substitute (put_all (map (substitute s) (fixpoints 0 (length rargs) rargs types bodies)) Rel) (substitute (overs n s) t))
    (sym (fixpoints_length 0 (length rargs) rargs types bodies))
    ∙ substitute-put_all_in (fixpoints 0 (length rargs) rargs types bodies) s t

-- telescopes

abbrev pub substituted_entries : (ℕ → Term) → List Term → List Term
substituted_entries s [] = []
substituted_entries s (A ∷ As) = substitute s A ∷ substituted_entries (over s) As

pub substitute-variables : (m n : ℕ) (s : ℕ → Term) → m ≤ n → map (substitute (overs n s)) (variables m) ≡ variables m
substitute-variables zero n s l = refl
substitute-variables (suc m) n s l = λ i. overs_below n s m l i ∷ substitute-variables m n s (omega arith) i

pub each_lift-substitute : (n : ℕ) (s : ℕ → Term) (xs : List Term) → map (substitute (overs n s)) (map (shift n 0) xs) ≡ map (shift n 0) (map (substitute s) xs)
each_lift-substitute n s [] = refl
each_lift-substitute n s (x ∷ xs) = λ i. sym (lift-substitute n s x) i ∷ each_lift-substitute n s xs i

pub entries_at_substitute : (As : List Term) (s q : ℕ → Term) → substituted_entries q (entries_at s As) ≡ entries_at (λ j. substitute q (s j)) As
entries_at_substitute [] s q = refl
entries_at_substitute (A ∷ As) s q = λ i.
    substitute-substitute A s q i ∷ (entries_at_substitute As (over s) (over q) ∙ ap (λ q. entries_at q As) (fun_ext (overs_overs 1 s q))) i

pub substituted_entries_append : (As Bs : List Term) (s : ℕ → Term) → substituted_entries s (As ++ Bs) ≡ substituted_entries s As ++ substituted_entries (overs (length As) s) Bs
substituted_entries_append [] Bs s = refl
substituted_entries_append (A ∷ As) Bs s =
    ap (◌∷◌ (substitute s A)) (substituted_entries_append As Bs (over s) ∙ ap (λ q. substituted_entries (over s) As ++ substituted_entries q Bs) (overs_over (length As) s))

pub substitute_entries_at : (As ps : List Term) (n : ℕ) (s : ℕ → Term) → length ps ≡ n → ClosedEntries n As →
    substituted_entries s (entries_at (put_all ps Rel) As) ≡ entries_at (put_all (map (substitute s) ps) Rel) As
substitute_entries_at As ps n s e c =
    entries_at_substitute As (put_all ps Rel) s
    ∙ entries_at_agree As (length ps) (λ j. substitute s (put_all ps Rel j)) (put_all (map (substitute s) ps) Rel) (put_closed ps s)
    (subst (λ n. ClosedEntries n As) (sym e) c)

pub suc_end : {a b : ℕ} → a ≡ b → a + 1 ≡ suc b
suc_end e = omega arith

pub substitute_predicate_entries : (f : FamilyId) (F : FamilyDecl) (ps : List Term) (s : ℕ → Term) → ClosedFamily F → length ps ≡ length F.parameters →
    substituted_entries s (predicate_entries f F ps) ≡ predicate_entries f F (map (substitute s) ps)
substitute_predicate_entries f F ps s c e =
    substituted_entries_append (entries_at (put_all ps Rel) F.indices) (scrutinee ps ∷ []) s
    ∙ ap (λ l. l ++ (substitute (overs (length (entries_at (put_all ps Rel) F.indices)) s) (scrutinee ps) ∷ []))
    (substitute_entries_at F.indices ps (length F.parameters) s e c.indices)
    ∙ ap (λ t. entries_at (put_all (map (substitute s) ps) Rel) F.indices ++ (t ∷ []))
    (ap (λ n. substitute (overs n s) (scrutinee ps)) (entries_at_length (put_all ps Rel) F.indices)
    ∙ substitute-apply (overs (length F.indices) s) (Ind f) (map (shift (length F.indices) 0) ps ++ variables (length F.indices))
    ∙ ap (apply (Ind f))
    (each_append (substitute (overs (length F.indices) s)) (map (shift (length F.indices) 0) ps) (variables (length F.indices))
    ∙ (λ i. each_lift-substitute (length F.indices) s ps i ++ substitute-variables (length F.indices) (length F.indices) s (omega arith) i)))
  where
    scrutinee : List Term → Term
    scrutinee ps = apply (Ind f) (map (shift (length F.indices) 0) ps ++ variables (length F.indices))

substitute_results : (xs ps : List Term) (m n : ℕ) (s : ℕ → Term) → length ps ≡ n → ClosedEach (m + n) xs →
    map (substitute (overs m s)) (map (substitute (overs m (put_all ps Rel))) xs) ≡ map (substitute (overs m (put_all (map (substitute s) ps) Rel))) xs
substitute_results [] ps m n s e c = refl
substitute_results (x ∷ xs) ps m n s e c = λ i.
    (substitute-substitute x (overs m (put_all ps Rel)) (overs m s)
    ∙ ap (λ s. substitute s x) (fun_ext (overs_overs m (put_all ps Rel) s))
    ∙ substitute_closed x (m + length ps) (overs m (λ j. substitute s (put_all ps Rel j))) (overs m (put_all (map (substitute s) ps) Rel))
    (overs_agree m (length ps) (λ j. substitute s (put_all ps Rel j)) (put_all (map (substitute s) ps) Rel) (put_closed ps s))
    (subst (λ n. Closed (m + n) x) (sym e) c.0)) i
    ∷ substitute_results xs ps m n s e c.1 i

pub substitute_branch_type : (f : FamilyId) (c : ℕ) (C : Constructor) (ps : List Term) (ret : Term) (n k : ℕ) (s : ℕ → Term) →
    length ps ≡ n → ClosedConstructor n C → suc (length C.result) ≡ k →
    substitute (overs (length C.args) s) (branch_type f c C ps ret) ≡ branch_type f c C (map (substitute s) ps) (substitute (overs k s) ret)
substitute_branch_type f c C ps ret n k s e closed l =
    substitute-substitute ret (put_all (news ps) past) (overs m s)
    ∙ ap (λ s. substitute s ret) (fun_ext (λ i. sym (substitute-put_all (news ps) (overs m s) s past past (λ j. substitute_rel (s j) (λ i. m + i) ∙ sym (overs_past m s j)) i)))
    ∙ sym (substitute-substitute ret (overs (length (news ps)) s) (put_all (map (substitute (overs m s)) (news ps)) past))
    ∙ (λ i. substitute (put_all (new_news i) past) (substitute (overs (long i) s) ret))
  where
    m : ℕ
    m = length C.args

    past : ℕ → Term
    past i = Rel (length C.args + i)

    built : List Term → Term
    built ps = apply (Construct f c) (map (shift (length C.args) 0) ps ++ variables (length C.args))

    news : List Term → List Term
    news ps = map (substitute (overs (length C.args) (put_all ps Rel))) C.result ++ (built ps ∷ [])

    long : length (news ps) ≡ k
    long = length-append (map (substitute (overs (length C.args) (put_all ps Rel))) C.result) (built ps ∷ [])
        ∙ suc_end (each_length (substitute (overs (length C.args) (put_all ps Rel))) C.result) ∙ l

    new_built : substitute (overs m s) (built ps) ≡ built (map (substitute s) ps)
    new_built =
        substitute-apply (overs m s) (Construct f c) (map (shift m 0) ps ++ variables m)
        ∙ ap (apply (Construct f c)) (each_append (substitute (overs m s)) (map (shift m 0) ps) (variables m)
        ∙ (λ i. each_lift-substitute m s ps i ++ substitute-variables m m s (omega arith) i))

    new_news : map (substitute (overs m s)) (news ps) ≡ news (map (substitute s) ps)
    new_news =
        each_append (substitute (overs m s)) (map (substitute (overs (length C.args) (put_all ps Rel))) C.result) (built ps ∷ [])
        ∙ (λ i. substitute_results C.result ps m n s e closed.result i ++ (new_built i ∷ []))

pub products_append : (As Bs : List Term) (T : Term) → products (As ++ Bs) T ≡ products As (products Bs T)
products_append [] Bs T = refl
products_append (A ∷ As) Bs T = ap (Prod A) (products_append As Bs T)
