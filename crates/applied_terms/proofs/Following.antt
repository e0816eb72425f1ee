-- An evaluation is followed after erasure, in no more nodes, by a term in which box stands for parameters of constructors. What the parameters erase to isn't evaluated, and need name no
-- constant of the program.
use Rattle.std.proofs.Common.{◌≡◌, ◌≢◌, ℕ, suc, ◌+◌, ◌≤◌, List, [], ◌∷◌, ◌++◌, length, Some, ◌⊎◌, inl, inr, refl, sym, ap, ◌∙◌, subst, arith, slice_get}
use Rattle.trees.specs.Tree.{Done, Next}
use Rattle.trees.specs.Closed.{EveryTerm}
use Rattle.universe_levels.specs.declared.sort.Sort.TheVariants.{Prop}
use Rattle.pc_terms.specs.declared.leaf.FamilyId.{FamilyId}
use Rattle.pc_terms.specs.Syntax.{Term, Terms, Rel, Lambda, App, Construct, put, put_all, substitute, terms_of, term_at}
use Rattle.box_terms.specs.BoxSyntax.{BoxTerm, BoxTerms, Box, BApp, BConstruct, BCase}
use Rattle.calculus_rules.specs.Environment.{Env, FamilyDecl, KeepsFamily}
use Rattle.calculus_rules.specs.Context as context
use Rattle.calculus_rules.specs.Conversion.{Equal}
use Rattle.calculus_rules.specs.Elimination.{AllProp, IsSingle, MayErase}
use Rattle.calculus_rules.specs.Erasable.{Erasable}
use Rattle.calculus_rules.specs.Evaluation.{IsValue, lambda_is, construct_is, fix_is, TakesMore, Unfolds, Evaluates, value, constant, let_in, beta, extend, unfold_fix, enter}
use Rattle.calculus_rules.specs.Instances.{branch_entries}
use Rattle.calculus_rules.specs.Lawful.{ArgumentsFit, StaysBuilt, IsLawful}
use Rattle.calculus_rules.specs.Step.{IsConstructor, is_constructor}
use Rattle.calculus_rules.specs.Typing.{bare, Types, TypesAll}
use Rattle.calculus_rules.proofs.Listing.{same_list}
use Rattle.trees.proofs.Put.{substitute_same}
use Rattle.typing_laws.proofs.Generating.{of_app, of_let_in, of_case}
use Rattle.typing_laws.proofs.LawfulEquality.{in_equality}
use Rattle.typing_laws.proofs.PuttingAll.{puts_all, puts_none, types_entries}
use Rattle.typing_laws.proofs.RenamingAndPutting.{PutsEntries}
use Rattle.type_laws.proofs.RootsKeep.{fits_assumed}
use Rattle.lambda_box.specs.BoxProgram.{BoxProgram, NamesOnly, NamesKept, boxes, box_apply}
use Rattle.lambda_box.specs.BoxEvaluation.{box_is, IsBoxValue, IsBoxConstructor, is_box_constructor, BoxTakesMore, BoxUnfolds, BoxEvaluates, box_app, enter_only}
use Rattle.lambda_box.proofs.Naming.{named_put, named_put_list, named_at, named_unfolds, named_boxes, of_named_append, of_named_apply}
use Rattle.erase_laws.specs.Erases.{Erases, box, rel, lambda, app, const, construct, case, fix, ErasesBranches}
use Rattle.erase_laws.specs.ErasedProgram.{is_prop}
use Rattle.erase_laws.proofs.ErasedRedexes.{Ready, extended, unfolds_erased, erases_from, of_construct, counts_at, not_prop, branch_at, only_branch}
use Rattle.erase_laws.proofs.ErasedRedexes.{prop_or_not, only_item, no_item}
use Rattle.erase_laws.proofs.ErasedSpines.{Settled, is_box, of_box, Spine, of_spine, all_lengths, split_erases}
use Rattle.erase_laws.proofs.ErasingArguments.{put_all_erases, arguments_erase}
use Rattle.erase_laws.proofs.ErasingSubstituted.{put_erases}
use Rattle.erase_laws.proofs.Following.{value_has, fits_defined as fits_value}
use Rattle.erase_laws.proofs.Serves.{Serves}
use Rattle.erase_laws.proofs.Total.{erases}
use Rattle.applied_terms.proofs.Built.{Built, WantsParameter, built_value, built_not_box, built_not_lambda, built_not_unfolds}
use Rattle.applied_terms.proofs.Pared.{Pared, pared_box, pared_lambda, pared_let, pared_app, pared_parameter, pared_const, pared_construct, pared_case, pared_fix, ParedTerms, pared_done, pared_next}
use Rattle.applied_terms.proofs.Pared.{pared_same, pared_put_one, pared_put_list, pared_count, pared_boxes, pared_at, pared_is_box, built_pared, built_before}
use Rattle.applied_terms.proofs.ParedSpines.{OneFamily, pared_constructor, pared_takes_more, pared_unfolds}

-- ---- values erase to terms in which box is never applied

value_settles : {E : Env} {v : Term} {w : BoxTerm} → IsValue v → Erases E [] v w → Settled w
value_settles i (box p) = tt
value_settles lambda_is (lambda p) = tt
value_settles construct_is (construct k e) = tt
value_settles fix_is (fix Ts q) = tt
value_settles i rel = elim i [ ]
value_settles i (Erases.let_in p q) = elim i [ ]
value_settles i (app p q) = elim i [ ]
value_settles i const = elim i [ ]
value_settles i (case ps kept may l q bodies) = elim i [ ]

record SettledErasure (E : Env) (v : Term) : Type 0 where
  erased : BoxTerm
  is : Erases E [] v erased
  settles : Settled erased

settled_erasure : {E : Env} {t v : Term} {n : ℕ} (e : Evaluates E t v n) → IsLawful e → {T : Term} → Types bare E [] t T → SettledErasure E v
settled_erasure (value i) h typed = let (w, p) = erases typed in record { erased = w; is = p; settles = value_settles i p }
settled_erasure (constant c e) h typed = settled_erasure e h.1 (h.0.contractum _ typed)
settled_erasure (let_in e e') h typed = settled_erasure e' h.2 (h.0.contractum _ typed)
settled_erasure (beta e e' e'') h typed = settled_erasure e'' h.5 (h.0.contractum _ typed)
settled_erasure {E} (extend {g = g} {v = u} e e' more) h typed =
    let r = settled_erasure e h.2 (of_app typed).function in
    let s = settled_erasure e' h.3 (of_app typed).argument in
    go r s (is_box r.erased)
  where
    go : (r : SettledErasure E g) (s : SettledErasure E u) → (r.erased ≡ Box) ⊎ (r.erased ≢ Box) → SettledErasure E (App g u)
    go r s (inl q) = record { erased = Box; is = box (h.1 (of_box (subst (λ x. Erases E [] g x) q r.is))); settles = tt }
    go r s (inr q) = record { erased = BApp r.erased s.erased; is = app r.is s.is; settles = (q, r.settles, s.settles) }
settled_erasure (unfold_fix e e' u e'') h typed = settled_erasure e'' h.5 (h.0.contractum _ typed)
settled_erasure (enter e c b e') h typed = settled_erasure e' h.4 (h.0.contractum _ typed)

some_node : {E : Env} {t v : Term} {n : ℕ} → Evaluates E t v n → 1 ≤ n
some_node (value i) = omega arith
some_node (constant c e) = omega arith
some_node (let_in e e') = omega arith
some_node (beta e e' e'') = omega arith
some_node (extend e e' m) = omega arith
some_node (unfold_fix e e' u e'') = omega arith
some_node (enter e c b e') = omega arith

-- ---- what follows an evaluation

-- the value erases to `before`, of which the result is what comes where box stands for parameters
pub record FollowsPared (E : Env) (P : BoxProgram) (v : Term) (u : BoxTerm) (n : ℕ) : Type 0 where
  pub nodes : ℕ
  pub matches : ℕ
  pub before : BoxTerm
  pub result : BoxTerm
  pub fewer : nodes ≤ n
  pub runs : BoxEvaluates P u result nodes matches
  pub erased : Erases E [] v before
  pub settles : Settled before
  pub pared : Pared P before result
  pub named : NamesOnly P.constants result

at_box : {E : Env} {P : BoxProgram} {v : Term} {n : ℕ} → Erasable E [] v → FollowsPared E P v Box (suc n)
at_box h = record { nodes = 1; matches = 0; before = Box; result = Box; fewer = omega arith; runs = BoxEvaluates.value box_is; erased = box h; settles = tt; pared = pared_box; named = (tt, tt) }

at_value : {E : Env} {P : BoxProgram} {v : Term} {w u : BoxTerm} → IsBoxValue u → Erases E [] v w → Settled w → Pared P w u → NamesOnly P.constants u → FollowsPared E P v u 1
at_value {w = w} {u = u} i p s q g = record { nodes = 1; matches = 0; before = w; result = u; fewer = omega arith; runs = BoxEvaluates.value i; erased = p; settles = s; pared = q; named = g }

-- an application whose function's value is followed to box
applied_box : {E : Env} {P : BoxProgram} {f a : BoxTerm} {g u v : Term} {n m : ℕ} (k : ℕ) (r : FollowsPared E P g f n) (s : FollowsPared E P u a m) → r.before ≡ Box →
    (Erasable E [] g → Erasable E [] v) → FollowsPared E P v (BApp f a) (suc (n + m + k))
applied_box {E} {P} {f} {g = g} k r s e h =
    let l = r.fewer in let l' = s.fewer in
    record {
      nodes = suc (r.nodes + s.nodes);
      matches = r.matches + s.matches;
      before = Box;
      result = Box;
      fewer = omega arith;
      runs = box_app (subst (λ x. BoxEvaluates P f x r.nodes r.matches) (pared_is_box r.pared e) r.runs) s.runs;
      erased = box (h (of_box (subst (λ x. Erases E [] g x) e r.erased)));
      settles = tt;
      pared = pared_box;
      named = (tt, tt);
    }

-- ---- matches

-- the only branch, with box for parameters
record ParedBranch (P : BoxProgram) (n : ℕ) (t : BoxTerm) (bs : BoxTerms) : Type 0 where
  term : BoxTerm
  is : bs ≡ Next n term Done
  pares : Pared P t term

pared_branch : {P : BoxProgram} {n : ℕ} {t : BoxTerm} {bs : BoxTerms} → ParedTerms P (Next n t Done) bs → ParedBranch P n t bs
pared_branch (pared_next {t' = t'} h pared_done) = record { term = t'; is = refl; pares = h }

-- how a match goes on: the contractum's erasure, what comes of it where box stands for parameters, and the run of that inside the match's
record Entered (E : Env) (P : BoxProgram) (f : FamilyId) (s : BoxTerm) (bs : BoxTerms) (k j : ℕ) (u : Term) : Type 0 where
  before : BoxTerm
  contractum : BoxTerm
  erased : Erases E [] u before
  pared : Pared P before contractum
  named : NamesOnly P.constants contractum
  run : (w : BoxTerm) (m i : ℕ) → BoxEvaluates P contractum w m i → BoxEvaluates P (BCase f s bs) w (suc (k + m)) (suc (j + i))

module _ {E : Env} (R : Ready E) {P : BoxProgram} (H : Serves E P) (unique : OneFamily P) {f : FamilyId} {F : FamilyDecl} {c : ℕ} {v t : Term} {ps qs xs : List Term} {bs : Terms} {bs' bs'' : BoxTerms} where
  entered : {k j : ℕ} {s w w' : BoxTerm} → KeepsFamily E f F → MayErase E f F → IsConstructor E f c v qs xs → ArgumentsFit E f c (terms_of ps) xs → StaysBuilt E f v →
      TypesAll bare E [] Rel ps F.parameters → term_at bs c ≡ Some (length xs, t) → ErasesBranches E [] ps F.constructors bs bs' → ParedTerms P bs' bs'' → BoxEvaluates P s w' k j →
      Erases E [] v w → Settled w → Pared P w w' → EveryTerm (NamesKept P.constants) bs'' → NamesOnly P.constants w' → Entered E P f s bs'' k j (substitute (put_all xs Rel) t)
  entered {k} {j} {s} {w} {w'} kept may (is_constructor {F = G} {C = C} keptG i lq lx eq) fit built typed b branches pares run p settled pared binders named = by_sort (prop_or_not F.sort)
    where
      same : G ≡ F
      same = R.one_each.families f G F keptG kept

      at : slice_get F.constructors c ≡ Some C
      at = subst (λ F. slice_get F.constructors c ≡ Some C) same i

      arguments_fit : TypesAll bare E [] (put_all ps Rel) xs C.args
      arguments_fit = fit F C ps kept at refl

      puts : PutsEntries E (put_all xs Rel) (context.extend [] (branch_entries C ps)) []
      puts = puts_all (puts_none []) (types_entries arguments_fit (put_all ps Rel) Rel (λ i. substitute_same (put_all ps Rel i)))

      spine : (w ≡ Box) ⊎ Spine E [] (Construct f c) (qs ++ xs) w
      spine = of_spine (qs ++ xs) (Construct f c) (erases_from eq p) settled

      -- the families that aren't in Prop
      ordinary : F.sort ≢ Prop → Spine E [] (Construct f c) (qs ++ xs) w → Entered E P f s bs'' k j (substitute (put_all xs Rel) t)
      ordinary n r = by_head (of_construct r.head_erases)
        where
          by_head : (r.head ≡ Box) ⊎ ((r.head ≡ BConstruct f c) × ((F : FamilyDecl) × KeepsFamily E f F × (F.sort ≢ Prop))) → Entered E P f s bs'' k j (substitute (put_all xs Rel) t)
          by_head (inl e) = absurd (r.not_box e)
          by_head (inr (e, _)) =
              let parts = split_erases qs xs r.erase in
              let there = branch_at branches c (length xs) C t at b in
              let con : IsBoxConstructor P f c w parts.before parts.after = is_box_constructor (H.families f F kept, refl) (not_prop F.sort n) (counts_at F.constructors c C at)
              (all_lengths parts.first_erase ∙ lq ∙ ap (λ F. length F.parameters) same) (all_lengths parts.second_erase ∙ lx) (r.is ∙ (λ i. box_apply (e i) (parts.is i))) in
              let z = pared_constructor unique con pared in
              let body = pared_at c pares there.is in
              record {
                before = substitute (put_all parts.after Rel) there.erased;
                contractum = substitute (put_all z.arguments Rel) body.term;
                erased = put_all_erases R.closed puts parts.second_erase there.erases;
                pared = pared_put_list z.each body.is;
                named = named_put_list P body.term z.arguments (named_at P bs'' c (length xs) body.term binders body.at)
                    (of_named_append P z.parameters z.arguments (of_named_apply P (z.parameters ++ z.arguments) (BConstruct f c) (subst (λ w. NamesOnly P.constants w) z.whole named)).1);
                run = λ u m i e'. BoxEvaluates.enter run z.is (body.at ∙ ap (λ n. Some (n, body.term)) (sym (pared_count z.each ∙ all_lengths parts.second_erase))) e';
              }

      -- the families in Prop
      propositional : F.sort ≡ Prop → w ≡ Box → IsSingle E f F → Entered E P f s bs'' k j (substitute (put_all xs Rel) t)
      propositional e wb (_, inl empty) = absurd (no_item F.constructors c C at empty)
      propositional e wb (_, inr (D, only, props)) =
          let same_constructor : D ≡ C = only_item F.constructors c C D at only in
          let there = only_branch (subst (λ Cs. ErasesBranches E [] ps Cs bs bs') (only ∙ ap (λ C. C ∷ []) same_constructor) branches) c (length xs) t b in
          let body = pared_branch (subst (λ bs. ParedTerms P bs bs'') there.is pares) in
          record {
            before = substitute (put_all (boxes (length C.args)) Rel) there.erased;
            contractum = substitute (put_all (boxes (length C.args)) Rel) body.term;
            erased = put_all_erases R.closed puts
                (arguments_erase R.closed (puts_all (puts_none []) typed) (R.sorts f F c C kept at) (subst (λ C. AllProp C.arg_sorts) same_constructor props) arguments_fit) there.erases;
            pared = pared_put_list (pared_boxes (length C.args)) body.pares;
            named = named_put_list P body.term (boxes (length C.args)) (subst (λ bs. EveryTerm (NamesKept P.constants) bs) body.is binders).0 (named_boxes P (length C.args));
            run = λ u m i e'. subst (λ bs. BoxEvaluates P (BCase f s bs) u (suc (k + m)) (suc (j + i))) (sym body.is)
                (enter_only (H.families f F kept, refl) (ap is_prop e) (subst (λ w. BoxEvaluates P s w k j) (pared_is_box pared wb) run) e');
          }

      boxed : F.sort ≡ Prop → (w ≡ Box) ⊎ Spine E [] (Construct f c) (qs ++ xs) w → w ≡ Box
      boxed e (inl wb) = wb
      boxed e (inr r) = by_head (of_construct r.head_erases)
        where
          by_head : (r.head ≡ Box) ⊎ ((r.head ≡ BConstruct f c) × ((F : FamilyDecl) × KeepsFamily E f F × (F.sort ≢ Prop))) → w ≡ Box
          by_head (inl b) = absurd (r.not_box b)
          by_head (inr (_, (F', k', n))) = absurd (n (ap (λ F. F.sort) (R.one_each.families f F' F k' kept) ∙ e))

      by_sort : (F.sort ≡ Prop) ⊎ (F.sort ≢ Prop) → Entered E P f s bs'' k j (substitute (put_all xs Rel) t)
      by_sort (inl e) = by_may may
        where
          by_may : MayErase E f F → Entered E P f s bs'' k j (substitute (put_all xs Rel) t)
          by_may (inl n) = absurd (n e)
          by_may (inr single) = propositional e (boxed e spine) single
      by_sort (inr n) = by_spine spine
        where
          by_spine : (w ≡ Box) ⊎ Spine E [] (Construct f c) (qs ++ xs) w → Entered E P f s bs'' k j (substitute (put_all xs Rel) t)
          by_spine (inl wb) = absurd (built F kept n (of_box (subst (λ w. Erases E [] v w) wb p)))
          by_spine (inr r) = ordinary n r

-- ---- the induction

module _ {E : Env} (R : Ready E) {P : BoxProgram} (H : Serves E P) (unique : OneFamily P) where
  -- a lambda's value, where its argument is followed
  beta_followed : {A b u w : Term} {f a x y : BoxTerm} {n m l k j : ℕ} → (Erasable E [] (Lambda A b) → Erasable E [] w) → Types bare E [] u A → Erases E [] (Lambda A b) x → Pared P x y →
      BoxEvaluates P f y k j → NamesOnly P.constants y → k ≤ n → FollowsPared E P u a m →
      ((x' y' : BoxTerm) → Erases E [] (substitute (put u) b) x' → Pared P x' y' → NamesOnly P.constants y' → FollowsPared E P w y' l) → FollowsPared E P w (BApp f a) (suc (n + m + l))
  beta_followed {k = k} {j = j} passes typed (box er) pared_box runs names few s next =
      let l' = s.fewer in
      record {
        nodes = suc (k + s.nodes);
        matches = j + s.matches;
        before = Box;
        result = Box;
        fewer = omega arith;
        runs = box_app runs s.runs;
        erased = box (passes er);
        settles = tt;
        pared = pared_box;
        named = (tt, tt);
      }
  beta_followed {k = k} {j = j} passes typed (lambda {b' = b'} er) (pared_lambda {b' = b''} pr) runs names few s next =
      let last = next (substitute (put s.before) b') (substitute (put s.result) b'') (put_erases R.closed (fits_assumed typed) s.erased er) (pared_put_one s.pared pr)
      (named_put P b'' s.result names.1.0 s.named) in
      let l' = s.fewer in let l'' = last.fewer in
      record {
        nodes = suc (k + s.nodes + last.nodes);
        matches = j + s.matches + last.matches;
        before = last.before;
        result = last.result;
        fewer = omega arith;
        runs = BoxEvaluates.beta runs s.runs last.runs;
        erased = last.erased;
        settles = last.settles;
        pared = last.pared;
        named = last.named;
      }

  -- a constructor that wants a parameter is no lambda
  lambda_not_built : {A b : Term} {x y : BoxTerm} {f : FamilyId} {c k : ℕ} → Erases E [] (Lambda A b) x → Pared P x y → Built f c k y → ⊥
  lambda_not_built (box er) pared_box built = built_not_box built
  lambda_not_built (lambda er) (pared_lambda pr) built = built_not_lambda built

  -- a value that takes more, and its argument
  extend_followed : {g u : Term} {f a : BoxTerm} {n m : ℕ} → TakesMore E g → (Erasable E [] g → Erasable E [] (App g u)) → (r : FollowsPared E P g f n) (s : FollowsPared E P u a m) →
      FollowsPared E P (App g u) (BApp f a) (suc (n + m))
  extend_followed {g} {u} {f} {a} {n} {m} more passes r s = go (is_box r.before)
    where
      whole : r.before ≢ Box → (r.before ≡ Box) ⊎ BoxTakesMore P r.before → FollowsPared E P (App g u) (BApp f a) (suc (n + m))
      whole q (inl e) = absurd (q e)
      whole q (inr takes) =
          let l = r.fewer in let l' = s.fewer in
          record {
            nodes = suc (r.nodes + s.nodes);
            matches = r.matches + s.matches;
            before = BApp r.before s.before;
            result = BApp r.result s.result;
            fewer = omega arith;
            runs = BoxEvaluates.extend r.runs s.runs (pared_takes_more takes r.pared);
            erased = app r.erased s.erased;
            settles = (q, r.settles, s.settles);
            pared = pared_app r.pared s.pared;
            named = (tt, (r.named, (s.named, tt)));
          }

      go : (r.before ≡ Box) ⊎ (r.before ≢ Box) → FollowsPared E P (App g u) (BApp f a) (suc (n + m))
      go (inl e) =
          let z : suc (n + m + 0) ≡ suc (n + m) = omega arith in
          subst (λ n. FollowsPared E P (App g u) (BApp f a) n) z (applied_box 0 r s e passes)
      go (inr q) = whole q (extended H more r.erased r.settles)

  -- a constructor, and a parameter for which box stands
  parameter_followed : {g u : Term} {f f' : BoxTerm} {n m : ℕ} → TakesMore E g → 1 ≤ m → Pared P f f' → WantsParameter P f → SettledErasure E u → (r : FollowsPared E P g f' n) →
      FollowsPared E P (App g u) (BApp f' Box) (suc (n + m))
  parameter_followed {g} {u} {f} {f'} {n} {m} more some pf w s r = go (extended H more r.erased r.settles)
    where
      built : Built w.family w.ctor w.number r.before
      built = built_before r.pared (built_value r.runs (built_pared pf w.built))

      not_box : r.before ≢ Box
      not_box e = built_not_box (subst (λ x. Built w.family w.ctor w.number x) e built)

      go : (r.before ≡ Box) ⊎ BoxTakesMore P r.before → FollowsPared E P (App g u) (BApp f' Box) (suc (n + m))
      go (inl e) = absurd (not_box e)
      go (inr takes) =
          let l = r.fewer in
          record {
            nodes = suc (r.nodes + 1);
            matches = r.matches + 0;
            before = BApp r.before s.erased;
            result = BApp r.result Box;
            fewer = omega arith;
            runs = BoxEvaluates.extend r.runs (BoxEvaluates.value box_is) (pared_takes_more takes r.pared);
            erased = app r.erased s.is;
            settles = (not_box, r.settles, s.settles);
            pared = pared_parameter r.pared (record { family = w.family; ctor = w.ctor; number = w.number; built = built; declared = w.declared; kept = w.kept; below = w.below });
            named = (tt, (r.named, ((tt, tt), tt)));
          }

  -- a fixpoint that unfolds
  unfold_followed : {g v u w : Term} {f a : BoxTerm} {n m l : ℕ} → (Erasable E [] g → Erasable E [] w) → {U : Term} → Types bare E [] g U → Unfolds g v u → (r : FollowsPared E P g f n) (s : FollowsPared E P v a m) →
      ((x' y' : BoxTerm) → Erases E [] u x' → Pared P x' y' → NamesOnly P.constants y' → FollowsPared E P w y' l) → FollowsPared E P w (BApp f a) (suc (n + m + l))
  unfold_followed {g} {v} {u} {w} {f} {a} {n} {m} {l} passes typed turns r s next = go (unfolds_erased R.closed turns typed r.erased r.settles s.erased)
    where
      go : (r.before ≡ Box) ⊎ ((u' : BoxTerm) × BoxUnfolds r.before s.before u' × Erases E [] u u') → FollowsPared E P w (BApp f a) (suc (n + m + l))
      go (inl e) = applied_box l r s e passes
      go (inr (u', unfolds', er)) =
          let z = pared_unfolds unfolds' r.pared s.pared in
          let last = next u' z.contractum er z.is (named_unfolds P z.unfolds r.named s.named) in
          let k = r.fewer in let k' = s.fewer in let k'' = last.fewer in
          record {
            nodes = suc (r.nodes + s.nodes + last.nodes);
            matches = r.matches + s.matches + last.matches;
            before = last.before;
            result = last.result;
            fewer = omega arith;
            runs = BoxEvaluates.unfold_fix r.runs s.runs z.unfolds last.runs;
            erased = last.erased;
            settles = last.settles;
            pared = last.pared;
            named = last.named;
          }

  -- a constructor that wants a parameter is no fixpoint
  fix_not_built : {g v u U : Term} {x y v' : BoxTerm} {f : FamilyId} {c k : ℕ} → Unfolds g v u → Types bare E [] g U → Erases E [] g x → Settled x → Pared P x y → Erases E [] v v' → Built f c k y → ⊥
  fix_not_built {g} {v} {u} {x = x} {y = y} {v' = v'} {f = f} {c = c} {k = k} turns typed er settled pr ev built = go (unfolds_erased R.closed turns typed er settled ev)
    where
      before : Built f c k x
      before = built_before pr built

      go : (x ≡ Box) ⊎ ((u' : BoxTerm) × BoxUnfolds x v' u' × Erases E [] u u') → ⊥
      go (inl e) = built_not_box (subst (λ x. Built f c k x) e before)
      go (inr (u', unfolds', _)) = built_not_unfolds before unfolds'

  pub follows : {t v : Term} {n : ℕ} (e : Evaluates E t v n) → IsLawful e → {T : Term} → Types bare E [] t T → {t' u : BoxTerm} → Erases E [] t t' → Pared P t' u → NamesOnly P.constants u → FollowsPared E P v u n
  -- values
  follows (value i) h typed (box p) pared_box g = at_box p
  follows (value lambda_is) h typed (lambda p) (pared_lambda q) g = at_value IsBoxValue.lambda_is (lambda p) tt (pared_lambda q) g
  follows (value construct_is) h typed (construct k e) pared_construct g = at_value IsBoxValue.construct_is (construct k e) tt pared_construct g
  follows (value fix_is) h typed (fix Ts q) (pared_fix qs) g = at_value IsBoxValue.fix_is (fix Ts q) tt (pared_fix qs) g
  follows (value i) h typed rel q g = elim i [ ]
  follows (value i) h typed (Erases.let_in p p') q g = elim i [ ]
  follows (value i) h typed (app p p') q g = elim i [ ]
  follows (value i) h typed const q g = elim i [ ]
  follows (value i) h typed (case ps kept may l p bodies) q g = elim i [ ]
  -- constants
  follows (constant c e) h typed (box p) pared_box g = at_box (h.0.kept.erasable p)
  follows (constant {k = k} {T = T} {b = b} c e) h typed const pared_const g =
      let (b', kept) = g.0 in
      let (T', b₁, c', er) = H.bodies k b' kept in
      let r = follows e h.1 (h.0.contractum _ typed) (subst (λ b. Erases E [] b b') (R.one_each.bodies k T' T b₁ b c' c) er) (pared_same b') (H.named k b' kept) in
      let l = r.fewer in
      record { nodes = suc r.nodes; matches = r.matches; before = r.before; result = r.result; fewer = omega arith; runs = BoxEvaluates.constant kept r.runs; erased = r.erased; settles = r.settles; pared = r.pared; named = r.named }
  -- lets
  follows (let_in {B = B} e e') h typed (box p) pared_box g = at_box (h.0.kept.erasable p)
  follows (let_in {b = b} {B = B} {v = u} e e') h typed (Erases.let_in {t' = t'} p q) (pared_let {t' = t''} pp pq) g =
      let r = follows e h.1 (of_let_in typed).value p pp g.1.0 in
      let s = follows e' h.2 (h.0.contractum _ typed)
      (put_erases R.closed (fits_value (value_has e h.1 (of_let_in typed).value) (Equal.back (in_equality e h.1))) r.erased q) (pared_put_one r.pared pq) (named_put P t'' r.result g.1.1.0 r.named) in
      let l = r.fewer in let l' = s.fewer in
      record {
        nodes = suc (r.nodes + s.nodes);
        matches = r.matches + s.matches;
        before = s.before;
        result = s.result;
        fewer = omega arith;
        runs = BoxEvaluates.let_in r.runs s.runs;
        erased = s.erased;
        settles = s.settles;
        pared = s.pared;
        named = s.named;
      }
  -- applications
  follows (beta e e' e'') h typed (box p) pared_box g = at_box (h.0.kept.erasable p)
  follows (beta e e' e'') h typed (app p q) (pared_app pp pq) g =
      let r = follows e h.3 (of_app typed).function p pp g.1.0 in
      let s = follows e' h.4 (of_app typed).argument q pq g.1.1.0 in
      beta_followed h.1 h.2 r.erased r.pared r.runs r.named r.fewer s (λ x' y' er pr names. follows e'' h.5 (h.0.contractum _ typed) er pr names)
  follows (beta e e' e'') h typed (app p q) (pared_parameter pp w) g =
      let r = follows e h.3 (of_app typed).function p pp g.1.0 in
      absurd (lambda_not_built r.erased r.pared (built_value r.runs (built_pared pp w.built)))
  follows (extend e e' more) h typed (box p) pared_box g = at_box (h.0.erasable p)
  follows (extend e e' more) h typed (app p q) (pared_app pp pq) g =
      extend_followed more h.1 (follows e h.2 (of_app typed).function p pp g.1.0) (follows e' h.3 (of_app typed).argument q pq g.1.1.0)
  follows (extend e e' more) h typed (app p q) (pared_parameter pp w) g =
      parameter_followed more (some_node e') pp w (settled_erasure e' h.3 (of_app typed).argument) (follows e h.2 (of_app typed).function p pp g.1.0)
  follows (unfold_fix e e' turns e'') h typed (box p) pared_box g = at_box (h.0.kept.erasable p)
  follows (unfold_fix e e' turns e'') h typed (app p q) (pared_app pp pq) g =
      unfold_followed h.1 (value_has e h.3 (of_app typed).function) turns (follows e h.3 (of_app typed).function p pp g.1.0) (follows e' h.4 (of_app typed).argument q pq g.1.1.0)
      (λ x' y' er pr names. follows e'' h.5 (h.0.contractum _ typed) er pr names)
  follows (unfold_fix e e' turns e'') h typed (app p q) (pared_parameter pp w) g =
      let r = follows e h.3 (of_app typed).function p pp g.1.0 in
      let s = settled_erasure e' h.4 (of_app typed).argument in
      absurd (fix_not_built turns (value_has e h.3 (of_app typed).function) r.erased r.settles r.pared s.is (built_value r.runs (built_pared pp w.built)))
  -- matches
  follows (enter e c b e') h typed (box p) pared_box g = at_box (h.0.kept.erasable p)
  follows (enter e c b e') h typed (case {F = F} ps kept may l q bodies) (pared_case pq pbodies) g =
      let o = of_case typed in
      let r = follows e h.3 o.scrutinee q pq g.1.0 in
      let next = entered R H unique kept may c h.1 h.2
      (subst (λ F. TypesAll bare E [] Rel ps F.parameters) (R.one_each.families _ o.family F o.kept kept)
      (subst (λ qs. TypesAll bare E [] Rel qs o.family.parameters) (sym (same_list ps o.parameters o.are)) o.fit)) b bodies pbodies r.runs r.erased r.settles r.pared g.1.1.0 r.named in
      let last = follows e' h.4 (h.0.contractum _ typed) next.erased next.pared next.named in
      let l = r.fewer in let l' = last.fewer in
      record {
        nodes = suc (r.nodes + last.nodes);
        matches = suc (r.matches + last.matches);
        before = last.before;
        result = last.result;
        fewer = omega arith;
        runs = next.run last.result last.nodes last.matches last.runs;
        erased = last.erased;
        settles = last.settles;
        pared = last.pared;
        named = last.named;
      }
