-- Applications to several arguments, and what they erase to.
use Rattle.std.proofs.Common.{◌≡◌, ◌≢◌, ℕ, suc, List, [], ◌∷◌, ◌++◌, length, ◌⊎◌, inl, inr, refl, sym, ap, ◌∙◌, subst}
use Rattle.pc_terms.specs.Syntax.{Term, Rel, App, apply}
use Rattle.calculus_rules.specs.Environment.{Env}
use Rattle.calculus_rules.specs.Context.{Context}
use Rattle.box_terms.specs.BoxSyntax.{BoxTerm, Box, BLambda, BLetIn, BApp, BConst, BConstruct, BCase, BFix}
use Rattle.calculus_rules.specs.Erasable.{Erasable}
use Rattle.erase_laws.specs.Erases.{Erases, box, app, ErasesAll, none, one}
use Rattle.lambda_box.specs.BoxProgram.{BoxProgram, box_apply}
use Rattle.lambda_box.proofs.Spines.{constructor_head, fix_head}
use Rattle.lambda_box.specs.BoxEvaluation.{box_is, lambda_is, construct_is, fix_is, BoxTakesMore, constructor, fixpoint, BoxEvaluates, value, constant, beta, box_app, extend, unfold_fix, enter, enter_only}

-- box is never applied in it
abbrev pub Settled : BoxTerm → Type 0
Settled (Rel i) = Unit {0}
Settled (BApp f a) = (f ≢ Box) × Settled f × Settled a
Settled _ = Unit {0}

pub is_box : (t : BoxTerm) → (t ≡ Box) ⊎ (t ≢ Box)
is_box (Rel i) = inr (λ e. cc)
is_box Box = inl refl
is_box (BLambda b) = inr (λ e. cc)
is_box (BLetIn b t) = inr (λ e. cc)
is_box (BApp f a) = inr (λ e. cc)
is_box (BConst k) = inr (λ e. cc)
is_box (BConstruct f c) = inr (λ e. cc)
is_box (BCase f s bs) = inr (λ e. cc)
is_box (BFix i rargs bodies) = inr (λ e. cc)

pub more_not_box : {P : BoxProgram} {g : BoxTerm} → BoxTakesMore P g → g ≢ Box
more_not_box (constructor f c xs k i l e) q = let h = constructor_head {f = f} {c = c} xs (sym q ∙ e) in cc
more_not_box (fixpoint i rargs bodies xs r l e) q = let h = fix_head {i = i} {rargs = rargs} {bodies = bodies} xs (sym q ∙ e) in cc

pub value_settled : {P : BoxProgram} {t w : BoxTerm} {n m : ℕ} → BoxEvaluates P t w n m → Settled w
value_settled (value box_is) = tt
value_settled (value lambda_is) = tt
value_settled (value construct_is) = tt
value_settled (value fix_is) = tt
value_settled (constant k e) = value_settled e
value_settled (BoxEvaluates.let_in e e') = value_settled e'
value_settled (beta e e' e'') = value_settled e''
value_settled (box_app e e') = tt
value_settled (extend e e' m) = (more_not_box m, value_settled e, value_settled e')
value_settled (unfold_fix e e' u e'') = value_settled e''
value_settled (enter e c b e') = value_settled e'
value_settled (enter_only k p e e') = value_settled e'

settled_head : (xs : List BoxTerm) (f : BoxTerm) → Settled (box_apply f xs) → Settled f
settled_head [] f h = h
settled_head (a ∷ xs) f h = (settled_head xs (BApp f a) h).1

abbrev pub EachSettled : List BoxTerm → Type 0
EachSettled [] = Unit {0}
EachSettled (x ∷ xs) = Settled x × EachSettled xs

pub settled_arguments : (xs : List BoxTerm) (f : BoxTerm) → Settled (box_apply f xs) → EachSettled xs
settled_arguments [] f h = tt
settled_arguments (a ∷ xs) f h = ((settled_head xs (BApp f a) h).2, settled_arguments xs (BApp f a) h)

pub settled_append : (xs ys : List BoxTerm) → EachSettled (xs ++ ys) → EachSettled ys
settled_append [] ys h = h
settled_append (x ∷ xs) ys h = settled_append xs ys h.1

pub of_box : {E : Env} {c : Context} {t : Term} → Erases E c t Box → Erasable E c t
of_box (box p) = p

-- an application to several arguments erases to box or, settled, to one of as many
pub record Spine (E : Env) (c : Context) (h : Term) (xs : List Term) (w : BoxTerm) : Type 0 where
  pub head : BoxTerm
  pub arguments : List BoxTerm
  pub is : w ≡ box_apply head arguments
  pub head_erases : Erases E c h head
  pub erase : ErasesAll E c xs arguments
  pub not_box : head ≢ Box

pub of_spine : {E : Env} {c : Context} (xs : List Term) (h : Term) {w : BoxTerm} → Erases E c (apply h xs) w → Settled w → (w ≡ Box) ⊎ Spine E c h xs w
of_spine {E} {c} [] h {w} p s = go (is_box w)
  where
    go : (w ≡ Box) ⊎ (w ≢ Box) → (w ≡ Box) ⊎ Spine E c h [] w
    go (inl e) = inl e
    go (inr n) = inr (record { head = w; arguments = []; is = refl; head_erases = p; erase = none; not_box = n })
of_spine {E} {c} (a ∷ xs) h {w} p s = go (of_spine xs (App h a) p s)
  where
    at : (r : Spine E c (App h a) xs w) (k : BoxTerm) → r.head ≡ k → Erases E c (App h a) k → Spine E c h (a ∷ xs) w
    at r k e (box q) = absurd (r.not_box e)
    at r k e (app {f' = f'} {a' = a'} q q') =
        let all : w ≡ box_apply (BApp f' a') r.arguments = r.is ∙ ap (λ k. box_apply k r.arguments) e in
        record {
          head = f';
          arguments = a' ∷ r.arguments;
          is = all;
          head_erases = q;
          erase = one q' r.erase;
          not_box = (settled_head r.arguments (BApp f' a') (subst Settled all s)).0;
        }

    go : (w ≡ Box) ⊎ Spine E c (App h a) xs w → (w ≡ Box) ⊎ Spine E c h (a ∷ xs) w
    go (inl e) = inl e
    go (inr r) = inr (at r r.head refl r.head_erases)

pub all_lengths : {E : Env} {c : Context} {xs : List Term} {xs' : List BoxTerm} → ErasesAll E c xs xs' → length xs' ≡ length xs
all_lengths none = refl
all_lengths (one p ps) = ap suc (all_lengths ps)

-- and back
pub apply_erases : {E : Env} {c : Context} {xs : List Term} {xs' : List BoxTerm} {h : Term} {h' : BoxTerm} → Erases E c h h' → ErasesAll E c xs xs' →
    Erases E c (apply h xs) (box_apply h' xs')
apply_erases p none = p
apply_erases p (one q qs) = apply_erases (app p q) qs

pub record SplitErases (E : Env) (c : Context) (xs ys : List Term) (zs : List BoxTerm) : Type 0 where
  pub before : List BoxTerm
  pub after : List BoxTerm
  pub is : zs ≡ before ++ after
  pub first_erase : ErasesAll E c xs before
  pub second_erase : ErasesAll E c ys after

pub split_erases : {E : Env} {c : Context} (xs ys : List Term) {zs : List BoxTerm} → ErasesAll E c (xs ++ ys) zs → SplitErases E c xs ys zs
split_erases [] ys {zs} p = record { before = []; after = zs; is = refl; first_erase = none; second_erase = p }
split_erases (x ∷ xs) ys (one {x' = x'} p ps) =
    let r = split_erases xs ys ps in
    record { before = x' ∷ r.before; after = r.after; is = ap (◌∷◌ x') r.is; first_erase = one p r.first_erase; second_erase = r.second_erase }
