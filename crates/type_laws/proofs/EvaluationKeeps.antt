-- An evaluation of a typed closed term keeps its types, and lies in equality.
use Rattle.std.proofs.Common.{◌≡◌, ℕ, List, [], ◌∷◌, ◌++◌, length, Some, refl, sym, ap, ◌∙◌, subst}
use Rattle.pc_terms.specs.declared.leaf.FamilyId.{FamilyId}
use Rattle.pc_terms.specs.Syntax.{Term, Terms, Rel, Lambda, LetIn, App, Case, Fix, put, put_all, substitute, term_at}
use Rattle.calculus_rules.specs.declared.entry.Entry.TheVariants.{Defined}
use Rattle.calculus_rules.specs.Environment.{Env}
use Rattle.calculus_rules.specs.Conversion.{Equal, Below, equal, step, same, back, chain, inside, end, and, group}
use Rattle.calculus_rules.specs.Instances.{unfolded, predicate_at}
use Rattle.calculus_rules.specs.Step.{IsConstructor, Root, zeta, matched}
use Rattle.calculus_rules.specs.Evaluation.{Evaluates, value, constant, let_in, beta, extend, unfold_fix, enter, Unfolds, unfolds, IsBuilt}
use Rattle.calculus_rules.specs.Typing.{bare, Types, app, case}
use Rattle.calculus_rules.specs.Accepted.{IsAccepted}
use Rattle.calculus_rules.specs.Lawful.{KeepsTypes}
use Rattle.calculus_rules.proofs.Congruence.{same_terms, equal_applications}
use Rattle.calculus_rules.proofs.Spines.{one_item}
use Rattle.calculus_rules.proofs.Spines.{apply_one_more}
use Rattle.typing_laws.proofs.Generating.{of_app, of_case, of_let_in}
use Rattle.typing_laws.proofs.MiddleEntries.{substitution}
use Rattle.typing_laws.proofs.Traversal.{types_at}
use Rattle.type_laws.specs.Contexts.{IsContext}
use Rattle.equality_laws.specs.Laws.{no_terms, a_term}
use Rattle.type_laws.proofs.Spines.{put_equal}
use Rattle.type_laws.proofs.EqualLists.{each_equal_same, each_equal_append}
use Rattle.type_laws.proofs.RootsKeep.{carried, beta_keeps, constant_keeps}
use Rattle.type_laws.proofs.MatchesKeep.{matched_keeps}
use Rattle.type_laws.proofs.FixpointsKeep.{unfolded_typed, head_replaced}
use Rattle.type_laws.proofs.Canonical.{recursive_argument_built}

-- where a term has a type, its value has it and is equal to it
pub record Keeps (E : Env) (v T t : Term) : Type 0 where
  pub typed : Types bare E [] v T
  pub equals : Equal E [] t v

abbrev pub AllKept : Env → Term → Term → Type 0
AllKept E t v = (T : Term) → Types bare E [] t T → Keeps E v T t

-- a let with its value evaluated
pub let_contracts : (E : Env) → IsAccepted E → (b B t v : Term) → AllKept E b v → KeepsTypes E (LetIn b B t) (substitute (put v) t)
let_contracts E h b B t v k T d =
    let r = of_let_in d in
    let q = k B r.value in
    let back_to : Equal E [] (substitute (put v) r.codomain) (LetIn b B r.codomain) =
    back (chain (inside (and q.equals (and same (and same end)))) (step zeta)) in
    carried E h [] (LetIn b B t) (substitute (put v) t) (substitute (put v) r.codomain) T IsContext.empty d
    (substitution E h [] [] (Defined b B) v t r.codomain
    (record { has_type = q.typed; equals = λ x e. subst (λ x. Equal E [] v x) (one_item e) (back q.equals) }) r.body)
    (Below.chain (equal back_to) r.below)

-- an application with its function and its argument evaluated
pub application_kept : (E : Env) → IsAccepted E → (f a g v : Term) → AllKept E f g → AllKept E a v → AllKept E (App f a) (App g v)
application_kept E h f a g v k k' T d =
    let r = of_app d in
    let p = k _ r.function in
    let q = k' _ r.argument in
    record {
      typed = carried E h [] (App f a) (App g v) (substitute (put v) r.codomain) T IsContext.empty d (app p.typed q.typed)
          (Below.chain (equal (put_equal E h [] (v ∷ []) (a ∷ []) r.codomain (a_term (back q.equals) no_terms))) r.below);
      equals = equal_applications E [] f g a v p.equals q.equals;
    }

pub beta_contracts : (E : Env) → IsAccepted E → (f a A b v : Term) → AllKept E f (Lambda A b) → AllKept E a v → KeepsTypes E (App f a) (substitute (put v) b)
beta_contracts E h f a A b v k k' T d = beta_keeps E h [] A b v T IsContext.empty (application_kept E h f a (Lambda A b) v k k' T d).typed

pub unfolding_keeps : (E : Env) → IsAccepted E → (g v u : Term) → Unfolds g v u → KeepsTypes E (App g v) u
unfolding_keeps E h g v u (unfolds i rargs types bodies xs {body = body} r l b e) T d =
    types_at (apply_one_more (unfolded rargs types bodies body) v xs) refl
    (head_replaced E h [] (Fix i rargs types bodies) (unfolded rargs types bodies body) (xs ++ (v ∷ [])) T (λ U. unfolded_typed E h [] i rargs types bodies body U IsContext.empty b)
    (types_at (ap (λ g. App g v) e ∙ sym (apply_one_more (Fix i rargs types bodies) v xs)) refl d))

pub unfold_contracts : (E : Env) → IsAccepted E → (f a g v u : Term) → AllKept E f g → AllKept E a v → Unfolds g v u → KeepsTypes E (App f a) u
unfold_contracts E h f a g v u k k' n T d = unfolding_keeps E h g v u n T (application_kept E h f a g v k k' T d).typed

pub unfolding_equal : {E : Env} {g v u : Term} → Unfolds g v u → IsBuilt E v → Equal E [] (App g v) u
unfolding_equal (unfolds i rargs types bodies xs r l b e) (f, c, qs, ys, k) = step (Root.fixpoint i rargs types bodies xs r l k b e)

-- matches

-- a match with its scrutinee evaluated
pub match_kept : (E : Env) → IsAccepted E → (f : FamilyId) (ps bs : Terms) (n : ℕ) (ret s v : Term) → AllKept E s v → AllKept E (Case f ps n ret s bs) (Case f ps n ret v bs)
match_kept E h f ps bs n ret s v k T d =
    let r = of_case d in
    let q = k _ r.scrutinee in
    record {
      typed = carried E h [] (Case f ps n ret s bs) (Case f ps n ret v bs) (predicate_at ret r.indices v) T IsContext.empty d
          (types_at (ap (λ ps. Case f ps n ret v bs) (sym r.are)) refl
          (case r.parameters r.indices r.kept r.names r.count r.fit r.entries r.predicate r.may q.typed r.branches))
          (Below.chain (equal (put_equal E h [] (r.indices ++ (v ∷ [])) (r.indices ++ (s ∷ [])) ret (each_equal_append (each_equal_same r.indices) (a_term (back q.equals) no_terms)))) r.below);
      equals = inside (group (same_terms ps) (and same (and q.equals (group (same_terms bs) end))));
    }

pub enter_contracts : (E : Env) → IsAccepted E → (f : FamilyId) (ps bs : Terms) (n c : ℕ) (ret s v body : Term) (qs xs : List Term) → AllKept E s v → IsConstructor E f c v qs xs →
    term_at bs c ≡ Some (length xs, body) → KeepsTypes E (Case f ps n ret s bs) (substitute (put_all xs Rel) body)
enter_contracts E h f ps bs n c ret s v body qs xs k i b T d =
    matched_keeps E h [] f c n (length xs) ps bs qs xs ret v body T IsContext.empty i b refl (match_kept E h f ps bs n ret s v k T d).typed

-- evaluations

-- what a term's contractum keeps
pub contracted : {E : Env} {t u v : Term} → KeepsTypes E t u → ((T : Term) → Types bare E [] t T → Equal E [] t u) → AllKept E u v → AllKept E t v
contracted k e k' T d = let q = k' T (k T d) in record { typed = q.typed; equals = chain (e T d) q.equals }

pub evaluation_keeps : (E : Env) → IsAccepted E → {t v : Term} {n : ℕ} → Evaluates E t v n → AllKept E t v
evaluation_keeps E h (value i) T d = record { typed = d; equals = same }
evaluation_keeps E h (constant {k = k} {T = U} {b = b} q e) T d =
    contracted (λ W p. constant_keeps E h [] k U b W IsContext.empty q p) (λ W p. step (Root.constant q)) (evaluation_keeps E h e) T d
evaluation_keeps E h (let_in {b = b} {B = B} {t = t} {v = v} e e') T d =
    contracted (let_contracts E h b B t v (evaluation_keeps E h e))
    (λ W p. chain (inside (and (evaluation_keeps E h e B (of_let_in p).value).equals (and same (and same end)))) (step zeta)) (evaluation_keeps E h e') T d
evaluation_keeps E h (beta {f = f} {a = a} {A = A} {b = b} {v = v} e e' e'') T d =
    contracted (beta_contracts E h f a A b v (evaluation_keeps E h e) (evaluation_keeps E h e'))
    (λ W p. chain (application_kept E h f a (Lambda A b) v (evaluation_keeps E h e) (evaluation_keeps E h e') W p).equals (step Root.beta)) (evaluation_keeps E h e'') T d
evaluation_keeps E h (extend {f = f} {a = a} {g = g} {v = v} e e' m) T d = application_kept E h f a g v (evaluation_keeps E h e) (evaluation_keeps E h e') T d
evaluation_keeps E h (unfold_fix {f = f} {a = a} {g = g} {v = v} {u = u} e e' n e'') T d =
    contracted (unfold_contracts E h f a g v u (evaluation_keeps E h e) (evaluation_keeps E h e') n)
    (λ W p.
    let q = application_kept E h f a g v (evaluation_keeps E h e) (evaluation_keeps E h e') W p in
    chain q.equals (unfolding_equal n (recursive_argument_built E h g a v u W _ e' n q.typed)))
    (evaluation_keeps E h e'') T d
evaluation_keeps E h (enter {f = f} {ps = ps} {bs = bs} {p = m} {c = c} {ret = ret} {s = s} {v = v} {body = body} {qs = qs} {xs = xs} e i b e') T d =
    contracted (enter_contracts E h f ps bs m c ret s v body qs xs (evaluation_keeps E h e) i b)
    (λ W p. chain (match_kept E h f ps bs m ret s v (evaluation_keeps E h e) W p).equals (step (matched i b refl))) (evaluation_keeps E h e') T d
