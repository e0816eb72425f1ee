-- A sparing evaluation is followed by the evaluation of whatever the term erases to, where that has one: the value that it gives is an erasure of the sparing value, with whatever for its boxes.
use Rattle.std.proofs.Common.{◌≡◌, ◌≢◌, ℕ, true, List, [], ◌∷◌, length, Some, ◌⊎◌, inl, inr, refl, sym, ap, ◌∙◌, subst, slice_get}
use Rattle.universe_levels.specs.declared.sort.Sort.TheVariants.{Prop}
use Rattle.trees.specs.Tree.{Rel, Done, Next, term_at}
use Rattle.trees.proofs.Put.{substitute_same}
use Rattle.pc_terms.specs.declared.leaf.FamilyId.{FamilyId}
use Rattle.pc_terms.specs.Syntax.{Term, Terms, Lambda, App, Case, put, put_all, substitute, terms_of}
use Rattle.box_terms.specs.BoxSyntax.{BoxTerm, BoxTerms, Box, BLambda, BApp, BConstruct, BFix}
use Rattle.calculus_rules.specs.declared.declaration.Constructor.{Constructor}
use Rattle.calculus_rules.specs.declared.entry.Entry.TheVariants.{Defined}
use Rattle.calculus_rules.specs.Environment.{Env, FamilyDecl, KeepsFamily}
use Rattle.calculus_rules.specs.Conversion.{Equal, back}
use Rattle.calculus_rules.specs.Elimination.{AllProp, IsSingle, MayErase}
use Rattle.calculus_rules.specs.Erasable.{Erasable}
use Rattle.calculus_rules.specs.Evaluation.{TakesMore, lambda_is, construct_is, fix_is, Unfolds}
use Rattle.calculus_rules.specs.Context.{extend as under_entries}
use Rattle.calculus_rules.specs.Instances.{branch_entries}
use Rattle.calculus_rules.specs.Step.{IsConstructor, is_constructor}
use Rattle.calculus_rules.specs.Typing.{bare, Types, TypesAll}
use Rattle.calculus_rules.specs.Accepted.{IsAccepted}
use Rattle.calculus_rules.proofs.Listing.{same_list}
use Rattle.calculus_rules.proofs.Spines.{one_item}
use Rattle.lambda_box.specs.BoxProgram.{BoxProgram, boxes}
use Rattle.lambda_box.specs.BoxEvaluation.{is_box_constructor, BoxTakesMore, BoxUnfolds, BoxEvaluates, BoxEvaluates.value, BoxEvaluates.let_in}
use Rattle.lambda_box.proofs.Determined.{OneBoxEach, lambda_takes_no_more, box_takes_no_more, lambda_stays, box_stays, more_or_unfolds, one_unfolding, one_constructor, different}
use Rattle.typing_laws.specs.Substituting.{Fits}
use Rattle.typing_laws.specs.TypedParts.{OfCase}
use Rattle.typing_laws.proofs.Generating.{of_app, of_let_in, of_case}
use Rattle.typing_laws.proofs.PuttingAll.{puts_all, puts_none, types_entries}
use Rattle.typing_laws.proofs.RenamingAndPutting.{PutsEntries}
use Rattle.type_laws.specs.Contexts.{IsContext}
use Rattle.type_laws.proofs.EvaluationKeeps.{AllKept, let_contracts, application_kept, beta_contracts, unfolding_keeps, unfold_contracts, match_kept, enter_contracts}
use Rattle.type_laws.proofs.Lawful.{entries_put}
use Rattle.type_laws.proofs.MatchesKeep.{matched_arguments}
use Rattle.type_laws.proofs.RootsKeep.{fits_assumed, beta_keeps, beta_argument, constant_keeps}
use Rattle.type_laws.proofs.Solid.{families_stay, erasable_kept}
use Rattle.erase_laws.specs.Erases.{Erases, box, rel, lambda, app, const, construct, case, fix, ErasesBranches}
use Rattle.erase_laws.specs.ErasedProgram.{counts_of, is_prop}
use Rattle.erase_laws.proofs.ErasedData.{BuiltErased, built_erased}
use Rattle.erase_laws.proofs.ErasedRedexes.{Ready, extended, unfolds_erased, BranchAt, branch_at, OnlyBranch, only_branch}
use Rattle.erase_laws.proofs.ErasedRedexes.{prop_or_not, only_item, no_item}
use Rattle.erase_laws.proofs.ErasedSpines.{Settled, of_box, more_not_box}
use Rattle.erase_laws.proofs.ErasingArguments.{put_all_erases, arguments_erase}
use Rattle.erase_laws.proofs.ErasingSubstituted.{put_erases}
use Rattle.erase_laws.proofs.Serves.{Serves}
use Rattle.sparing_laws.specs.SparingEvaluation.{EvaluatesSparingly, value, let_in, beta, extend, unfold_fix, enter, HandsOn, left, evaluated}
use Rattle.sparing_laws.proofs.Evidence.{application_erasable}
use Rattle.sparing_laws.proofs.Keeping.{sparing_keeps, handed_keeps}
use Rattle.sparing_answers.proofs.Filled.{Fills, node, and, group, end, blank, FillsTerms, FillsEach, one_more, no_more, fills_same, fills_app, fills_put, fills_put_all, each_same, ToConstructor, to_constructor, ToItem, to_item, filled_takes, filled_unfolds}
use Rattle.sparing_answers.proofs.BoxRuns.{of_application, Goes, runs, boxed, takes, turns, Enters, enters, enters_only, of_match}

-- the value that box evaluation gives is an erasure of v, with whatever for its boxes
pub record Agrees (E : Env) (v : Term) (w : BoxTerm) : Type 0 where
  pub image : BoxTerm
  pub erases : Erases E [] v image
  pub settled : Settled image
  pub fills : Fills image w

spared : {E : Env} {v : Term} {w : BoxTerm} → Erasable E [] v → Agrees E v w
spared p = record { image = Box; erases = box p; settled = tt; fills = blank }

-- what all cases use: an accepted environment, and a program of it
pub record Together (E : Env) (P : BoxProgram) : Type 0 where
  pub accepted : IsAccepted E
  pub ready : Ready E
  pub one_each : OneBoxEach P
  pub serves : Serves E P

-- what a contractum's evaluation after erasure gives
abbrev Continues : Env → BoxProgram → Term → Term → BoxTerm → Type 0
Continues E P u v w = (x x' : BoxTerm) (k j : ℕ) → Erases E [] u x → Fills x x' → BoxEvaluates P x' w k j → Agrees E v w

pub fits_kept : {E : Env} {b B v : Term} → Types bare E [] v B → Equal E [] b v → Fits E [] (Defined b B) v
fits_kept {E} {b} {B} {v} d q = record { has_type = d; equals = λ x e. subst (λ x. Equal E [] v x) (one_item e) (back q) }

-- applications, with the function and the argument followed

from_lambda : {E : Env} {P : BoxProgram} → Together E P → {A b u v : Term} {i g' u' w : BoxTerm} → Erases E [] (Lambda A b) i → Fills i g' → Agrees E u u' → Goes P g' u' w →
    (Erasable E [] (Lambda A b) → Erasable E [] v) → Types bare E [] u A → Continues E P (substitute (put u) b) v w → Agrees E v w
from_lambda K (box p) f r g passes typed continues = spared (passes p)
from_lambda K {u' = u'} (lambda {b' = x} p) (node (and {u = x'} f end)) r (runs {n = k} {m = j} e) passes typed continues =
    continues (substitute (put r.image) x) (substitute (put u') x') k j (put_erases K.ready.closed (fits_assumed typed) r.erases p) (fills_put r.image u' x x' r.fills f) e
from_lambda K (lambda p) (node (and f end)) r (takes m) passes typed continues = absurd (lambda_takes_no_more m)
from_lambda K (lambda p) (node (and f end)) r (turns h e) passes typed continues = absurd (lambda_stays h)

beta_agrees : {E : Env} {P : BoxProgram} → Together E P → {A b u v : Term} {g' u' w : BoxTerm} → Agrees E (Lambda A b) g' → Agrees E u u' → Goes P g' u' w →
    (Erasable E [] (Lambda A b) → Erasable E [] v) → Types bare E [] u A → Continues E P (substitute (put u) b) v w → Agrees E v w
beta_agrees K a r g passes typed continues = from_lambda K a.erases a.fills r g passes typed continues

taken : {E : Env} {P : BoxProgram} {g u : Term} {g' u' w : BoxTerm} (a : Agrees E g g') → Agrees E u u' → BoxTakesMore P a.image → BoxTakesMore P g' → Goes P g' u' w → Agrees E (App g u) w
taken a r m m' (runs e) = absurd (lambda_takes_no_more m')
taken a r m m' boxed = absurd (box_takes_no_more m')
taken a r m m' (takes m'') = record { image = BApp a.image r.image; erases = app a.erases r.erases; settled = (more_not_box m, a.settled, r.settled); fills = fills_app a.fills r.fills }
taken a r m m' (turns h e) = absurd (more_or_unfolds m' h)

extend_agrees : {E : Env} {P : BoxProgram} → Together E P → {g u : Term} {g' u' w : BoxTerm} → TakesMore E g → Agrees E g g' → Agrees E u u' → Goes P g' u' w →
    (Erasable E [] g → Erasable E [] (App g u)) → Agrees E (App g u) w
extend_agrees {E} {P} K {g} {u} {g'} {u'} {w} more a r goes passes = go (extended K.serves more a.erases a.settled)
  where
    go : (a.image ≡ Box) ⊎ BoxTakesMore P a.image → Agrees E (App g u) w
    go (inl e) = spared (passes (of_box (subst (λ x. Erases E [] g x) e a.erases)))
    go (inr m) = taken a r m (filled_takes m a.fills) goes

turned : {E : Env} {P : BoxProgram} {x v : Term} {g' u' w y y' : BoxTerm} → BoxUnfolds g' u' y' → Erases E [] x y → Fills y y' → Goes P g' u' w → Continues E P x v w → Agrees E v w
turned k p f (runs e) continues = absurd (lambda_stays k)
turned k p f boxed continues = absurd (box_stays k)
turned k p f (takes m) continues = absurd (more_or_unfolds m k)
turned {y = y} k p f (turns {x = z} {n = n} {m = j} k' e) continues = continues y z n j p (subst (λ z. Fills y z) (one_unfolding k k') f) e

unfold_agrees : {E : Env} {P : BoxProgram} → Together E P → {g u x v G : Term} {g' u' w : BoxTerm} → Unfolds g u x → Types bare E [] g G → Agrees E g g' → Agrees E u u' → Goes P g' u' w →
    (Erasable E [] g → Erasable E [] v) → Continues E P x v w → Agrees E v w
unfold_agrees {E} {P} K {g} {u} {x} {v} {G} {g'} {u'} {w} h typed a r goes passes continues = go (unfolds_erased K.ready.closed h typed a.erases a.settled r.erases)
  where
    go : (a.image ≡ Box) ⊎ ((y : BoxTerm) × BoxUnfolds a.image r.image y × Erases E [] x y) → Agrees E v w
    go (inl e) = spared (passes (of_box (subst (λ x. Erases E [] g x) e a.erases)))
    go (inr (y, k, p)) = let q = filled_unfolds k a.fills r.fills in turned q.unfolds p q.fills goes continues

-- matches, with the scrutinee followed

record Matched (E : Env) (f : FamilyId) (F : FamilyDecl) (c : ℕ) (s : Term) (ps qs xs : List Term) (bs : Terms) (body : Term) (bs₀ : BoxTerms) : Type 0 where
  kept : KeepsFamily E f F
  constructor : IsConstructor E f c s qs xs
  constructors : (C : Constructor) × (slice_get F.constructors c ≡ Some C) × TypesAll bare E [] (put_all ps Rel) xs C.args
  parameters : TypesAll bare E [] Rel ps F.parameters
  solid : F.sort ≢ Prop → Erasable E [] s → ⊥
  branch : term_at bs c ≡ Some (length xs, body)
  erased : ErasesBranches E [] ps F.constructors bs bs₀

-- a family outside Prop
ordinary_agrees : {E : Env} {P : BoxProgram} → Together E P → {f : FamilyId} {F : FamilyDecl} {c : ℕ} {s body v : Term} {ps qs xs : List Term} {bs : Terms} {bs₀ bs' : BoxTerms} {s' w : BoxTerm} →
    Matched E f F c s ps qs xs bs body bs₀ → F.sort ≢ Prop → FillsTerms bs₀ bs' → Agrees E s s' → Enters P f s' bs' w → Continues E P (substitute (put_all xs Rel) body) v w → Agrees E v w
ordinary_agrees {E} {P} K {f} {F} {c} {s} {body} {v} {ps} {qs} {xs} {bs} {bs₀} {bs'} {s'} {w} M n fb a goes continues = go goes
  where
    C : Constructor
    C = M.constructors.0

    built : BuiltErased E P f c a.image xs
    built = built_erased K.ready K.serves M.kept n M.constructors.1 M.constructor (M.solid n) a.erases a.settled

    there : ToConstructor P f c s' built.arguments
    there = to_constructor built.is a.fills

    arm : BranchAt E ps C (length xs) c body bs₀
    arm = branch_at M.erased c (length xs) C body M.constructors.1 M.branch

    item : ToItem bs' c (length xs) arm.erased
    item = to_item fb c (length xs) arm.erased arm.is

    puts : PutsEntries E (put_all xs Rel) (under_entries [] (branch_entries C ps)) []
    puts = puts_all (puts_none []) (types_entries M.constructors.2 (put_all ps Rel) Rel (λ i. substitute_same (put_all ps Rel i)))

    go : Enters P f s' bs' w → Agrees E v w
    go (enters {c = d} {x = x} {n = k} {j = j} {ys = ys} is at e) =
        let one = one_constructor K.one_each there.is is in
        let same : item.item ≡ x = ap (λ p. p.1) (one_item (sym item.at ∙ ap (term_at bs') one.0 ∙ at)) in
        continues (substitute (put_all built.arguments Rel) arm.erased) (substitute (put_all ys Rel) x) k j (put_all_erases K.ready.closed puts built.erase arm.erases)
        (fills_put_all built.arguments ys arm.erased x (subst (λ ys. FillsEach built.arguments ys) one.1 there.each) (subst (λ x. Fills arm.erased x) same item.fills)) e
    go (enters_only kept p is e) = absurd (different K.one_each there.is kept p)

-- a single family in Prop
single_agrees : {E : Env} {P : BoxProgram} → Together E P → {f : FamilyId} {F : FamilyDecl} {c : ℕ} {s body v : Term} {ps qs xs : List Term} {bs : Terms} {bs₀ bs' : BoxTerms} {s' w : BoxTerm} →
    Matched E f F c s ps qs xs bs body bs₀ → F.sort ≡ Prop → IsSingle E f F → FillsTerms bs₀ bs' → Enters P f s' bs' w → Continues E P (substitute (put_all xs Rel) body) v w → Agrees E v w
single_agrees {E} {P} K {f} {F} {c} {s} {body} {v} {ps} {qs} {xs} {bs} {bs₀} {bs'} {s'} {w} M prop (_, inl empty) fb goes continues =
    absurd (no_item F.constructors c M.constructors.0 M.constructors.1 empty)
single_agrees {E} {P} K {f} {F} {c} {s} {body} {v} {ps} {qs} {xs} {bs} {bs₀} {bs'} {s'} {w} M prop (_, inr (D, only, props)) fb goes continues = go goes
  where
    C : Constructor
    C = M.constructors.0

    same : D ≡ C
    same = only_item F.constructors c C D M.constructors.1 only

    arm : OnlyBranch E ps C body bs₀
    arm = only_branch (subst (λ Cs. ErasesBranches E [] ps Cs bs bs₀) (only ∙ ap (λ C. C ∷ []) same) M.erased) c (length xs) body M.branch

    puts : PutsEntries E (put_all xs Rel) (under_entries [] (branch_entries C ps)) []
    puts = puts_all (puts_none []) (types_entries M.constructors.2 (put_all ps Rel) Rel (λ i. substitute_same (put_all ps Rel i)))

    erased : Erases E [] (substitute (put_all xs Rel) body) (substitute (put_all (boxes (length C.args)) Rel) arm.erased)
    erased =
        put_all_erases K.ready.closed puts
        (arguments_erase K.ready.closed (puts_all (puts_none []) M.parameters) (K.ready.sorts f F c C M.kept M.constructors.1) (subst (λ C. AllProp C.arg_sorts) same props) M.constructors.2)
        arm.erases

    at : (k : ℕ) (x : BoxTerm) → FillsTerms (Next (length C.args) arm.erased Done) (Next k x Done) → (n j : ℕ) → BoxEvaluates P (substitute (put_all (boxes k) Rel) x) w n j → Agrees E v w
    at k x (one_more f no_more) n j e =
        continues (substitute (put_all (boxes k) Rel) arm.erased) (substitute (put_all (boxes k) Rel) x) n j erased (fills_put_all (boxes k) (boxes k) arm.erased x (each_same (boxes k)) f) e

    go : Enters P f s' bs' w → Agrees E v w
    go (enters (is_box_constructor {F = B} kept p i lq lx e') at' e) =
        let one : B.propositional ≡ is_prop F.sort = ap (λ F. F.propositional) (K.one_each.families f B (counts_of f F) kept (K.serves.families f F M.kept, refl)) in
        let sort : is_prop F.sort ≡ true = ap is_prop prop in
        absurd (cc)
    go (enters_only {k = k} {x = x} {n = n} {j = j} kept p is e) =
        at k x (subst (λ bs. FillsTerms bs (Next k x Done)) arm.is (subst (λ bs. FillsTerms bs₀ bs) is fb)) n j e

match_agrees : {E : Env} {P : BoxProgram} → Together E P → {f : FamilyId} {F : FamilyDecl} {c : ℕ} {s body v : Term} {ps qs xs : List Term} {bs : Terms} {bs₀ bs' : BoxTerms} {s' w : BoxTerm} →
    Matched E f F c s ps qs xs bs body bs₀ → MayErase E f F → FillsTerms bs₀ bs' → Agrees E s s' → Enters P f s' bs' w → Continues E P (substitute (put_all xs Rel) body) v w → Agrees E v w
match_agrees {E} {P} K {f = f} {F = F} {v = v} {w = w} M may fb a goes continues = go (prop_or_not F.sort) may
  where
    go : (F.sort ≡ Prop) ⊎ (F.sort ≢ Prop) → MayErase E f F → Agrees E v w
    go (inr n) may = ordinary_agrees K M n fb a goes continues
    go (inl e) (inl n) = absurd (n e)
    go (inl e) (inr single) = single_agrees K M e single fb goes continues

-- what is put in for a match's names, and the match's parameters
matched : {E : Env} → IsAccepted E → Ready E → {f : FamilyId} {F : FamilyDecl} {c m : ℕ} {s v body ret T : Term} {ps qs xs : List Term} {bs : Terms} {bs₀ : BoxTerms} → KeepsFamily E f F →
    AllKept E s v → IsConstructor E f c v qs xs → term_at bs c ≡ Some (length xs, body) → ErasesBranches E [] ps F.constructors bs bs₀ → Types bare E [] (Case f (terms_of ps) m ret s bs) T →
    Matched E f F c v ps qs xs bs body bs₀
matched {E} h R {f} {F} {c} {m} {s} {v} {body} {ret} {T} {ps} {qs} {xs} {bs} {bs₀} kept keeps con b erased d = at con
  where
    o : OfCase bare E [] f (terms_of ps) m ret s bs T
    o = of_case d

    at : IsConstructor E f c v qs xs → Matched E f F c v ps qs xs bs body bs₀
    at (is_constructor {F = G} {C = C} keptG i lq lx e) =
        let there = subst (λ F. slice_get F.constructors c ≡ Some C) (R.one_each.families f G F keptG kept) i in
        record {
          kept = kept;
          constructor = con;
          constructors = (
            C,
            there,
            entries_put C.args (put_all ps Rel) Rel (put_all ps Rel) (λ i. substitute_same (put_all ps Rel i))
                (matched_arguments E h [] f F C c m ps qs xs bs ret v T IsContext.empty kept there con (match_kept E h f (terms_of ps) bs m ret s v keeps T d).typed),
          );
          parameters =
              subst (λ F. TypesAll bare E [] Rel ps F.parameters) (R.one_each.families f o.family F o.kept kept)
              (subst (λ qs. TypesAll bare E [] Rel qs o.family.parameters) (sym (same_list ps o.parameters o.are)) o.fit);
          solid = λ n. families_stay E h f F c v qs xs _ kept n con (keeps _ o.scrutinee).typed;
          branch = b;
          erased = erased;
        }

-- an evaluation
mutual
  pub agrees : {E : Env} {P : BoxProgram} → Together E P → {t v : Term} {n : ℕ} → EvaluatesSparingly E t v n → {T : Term} → Types bare E [] t T → {t₀ t' w : BoxTerm} {k j : ℕ} →
      Erases E [] t t₀ → Fills t₀ t' → BoxEvaluates P t' w k j → Agrees E v w
  agrees {E} K {t} {v} e {T} d (box p) f r = spared (erasable_kept E K.accepted t v T d (λ U q. (sparing_keeps E K.accepted e U q).typed) p)
  agrees K (value lambda_is) d (lambda {b' = x} p) (node f) (BoxEvaluates.value i) = record { image = BLambda x; erases = lambda p; settled = tt; fills = node f }
  agrees K (value construct_is) d (construct {f = g} {k = n} c q) (node f) (BoxEvaluates.value i) = record { image = BConstruct g n; erases = construct c q; settled = tt; fills = node f }
  agrees K (value fix_is) d (fix {i = n} {rargs = rargs} {bodies' = bs} Ts q) (node f) (BoxEvaluates.value i) = record { image = BFix n rargs bs; erases = fix Ts q; settled = tt; fills = node f }
  agrees K (value i) d rel f r = elim i [ ]
  agrees K (value i) d (Erases.let_in p q) f r = elim i [ ]
  agrees K (value i) d (app p q) f r = elim i [ ]
  agrees K (value i) d const f r = elim i [ ]
  agrees K (value i) d (case ps kept may l q bodies) f r = elim i [ ]
  agrees K (EvaluatesSparingly.constant c e) d const (node end) (BoxEvaluates.value i) = elim i [ ]
  agrees {E} K (EvaluatesSparingly.constant {k = k} {T = U} {b = b} c e) {T} d const (node end) (BoxEvaluates.constant {b = b'} kept r) =
      let (T', b₁, c', p) = K.serves.bodies k b' kept in
      agrees K e (constant_keeps E K.accepted [] k U b T IsContext.empty c d) (subst (λ b. Erases E [] b b') (K.ready.one_each.bodies k T' U b₁ b c' c) p) (fills_same b') r
  agrees K (let_in e e') d (Erases.let_in p q) (node (and fb (and ft end))) (BoxEvaluates.value i) = elim i [ ]
  agrees {E} K (let_in {b = b} {B = B} {t = body} {v = u} e e') {T} d (Erases.let_in {t' = x} p q) (node (and fb (and {u = x'} ft end))) (BoxEvaluates.let_in {v = u'} r s) =
      let h = K.accepted in
      let a = handed K e (of_let_in d).value p fb r in
      let kept = handed_keeps E h e B (of_let_in d).value in
      agrees K e' (let_contracts E h b B body u (handed_keeps E h e) T d) (put_erases K.ready.closed (fits_kept kept.typed kept.equals) a.erases q) (fills_put a.image u' x x' a.fills ft) s
  agrees {E} {P} K (beta {f = f} {a = a} {A = A} {b = b} {v = u} {w = v} e e' e'') {T} d (app p q) (node (and ff (and fa end))) r =
      let h = K.accepted in
      let y = of_application r in
      let kept = application_kept E h f a (Lambda A b) u (sparing_keeps E h e) (handed_keeps E h e') T d in
      beta_agrees K (agrees K e (of_app d).function p ff y.function_runs) (handed K e' (of_app d).argument q fa y.argument_runs) y.goes
      (application_erasable E h (Lambda A b) u v T kept.typed (λ U z. (sparing_keeps E h e'' U (beta_keeps E h [] A b u U IsContext.empty z)).typed))
      (beta_argument E h [] A b u T IsContext.empty kept.typed)
      (λ x x' k j z fills s. agrees K e'' (beta_contracts E h f a A b u (sparing_keeps E h e) (handed_keeps E h e') T d) z fills s)
  agrees {E} {P} K (extend {f = f} {a = a} {g = g} {v = u} e e' more) {T} d (app p q) (node (and ff (and fa end))) r =
      let h = K.accepted in
      let y = of_application r in
      let kept = application_kept E h f a g u (sparing_keeps E h e) (handed_keeps E h e') T d in
      extend_agrees K more (agrees K e (of_app d).function p ff y.function_runs) (handed K e' (of_app d).argument q fa y.argument_runs) y.goes (application_erasable E h g u (App g u) T kept.typed (λ U z. z))
  agrees {E} {P} K (unfold_fix {f = f} {a = a} {g = g} {v = u} {u = x} {w = v} e e' m e'') {T} d (app p q) (node (and ff (and fa end))) r =
      let h = K.accepted in
      let y = of_application r in
      let kept = application_kept E h f a g u (sparing_keeps E h e) (sparing_keeps E h e') T d in
      unfold_agrees K m (sparing_keeps E h e _ (of_app d).function).typed (agrees K e (of_app d).function p ff y.function_runs) (agrees K e' (of_app d).argument q fa y.argument_runs) y.goes
      (application_erasable E h g u v T kept.typed (λ U z. (sparing_keeps E h e'' U (unfolding_keeps E h g u x m U z)).typed))
      (λ i i' k j z fills s. agrees K e'' (unfold_contracts E h f a g u x (sparing_keeps E h e) (sparing_keeps E h e') m T d) z fills s)
  agrees {E} {P} K (enter {f = f} {bs = bs} {p = m} {c = c} {ret = ret} {s = s} {v = u} {body = body} {qs = qs} {xs = xs} e con b e') {T} d (case {F = F} ps kept may l q bodies)
      (node (and fs (group fb end))) r =
      let h = K.accepted in
      let y = of_match r in
      match_agrees K (matched h K.ready kept (sparing_keeps E h e) con b bodies d) may fb (agrees K e (of_case d).scrutinee q fs y.scrutinee_runs) y.goes
      (λ x x' k j z fills y'. agrees K e' (enter_contracts E h f (terms_of ps) bs m c ret s u body qs xs (sparing_keeps E h e) con b T d) z fills y')

  pub handed : {E : Env} {P : BoxProgram} → Together E P → {t v : Term} {n : ℕ} → HandsOn E t v n → {T : Term} → Types bare E [] t T → {t₀ t' w : BoxTerm} {k j : ℕ} →
      Erases E [] t t₀ → Fills t₀ t' → BoxEvaluates P t' w k j → Agrees E v w
  handed K (left p) d q f r = spared p
  handed K (evaluated e) d q f r = agrees K e d q f r
