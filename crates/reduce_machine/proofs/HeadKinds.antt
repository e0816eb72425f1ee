-- Heads whose kind is that of their node.
use Rattle.std.proofs.Common.{◌≡◌, ℕ, ◌+◌, ◌-◌, ◌≤◌, List, [], ◌∷◌, ◌++◌, length, map, Option, Some, None, refl, sym, ap, ◌∙◌, subst as along, arith}
use Rattle.pc_terms.specs.declared.leaf.FamilyId.{FamilyId}
use Rattle.pc_terms.specs.declared.term.Node.{Node}
use Rattle.pc_terms.specs.declared.term.Node.TheVariants.{Construct as ConstructNode, Lambda as LambdaNode}
use Rattle.pc_terms.specs.Syntax.{Term, Rel, Lambda, App, Case, Fix, Construct, substitute, apply, head, args}
use Rattle.pc_terms.specs.View.{tree_of}
use Rattle.calculus_rules.specs.Environment.{Env}
use Rattle.pc_rules.specs.DirectedWeakHead.{built_arguments, built}
use Rattle.calculus_rules.proofs.Spines.{head-apply, args-apply}
use Rattle.reduction.specs.Frames.{missing, IsHead}
use Rattle.reduction.proofs.Steps.{missing_is}
use Rattle.reduce_machine.specs.Normal.{IsLambda}
use Rattle.redexes.proofs.Unfolding.{IsFix}
use Rattle.reduce_machine.specs.Layers.{IsShownIn, IsOpenIn, IsOpen, IsFixNode}
use Rattle.reduce_machine.specs.Reads.{stands, read}
use Rattle.reduce_machine.specs.declared.bindings.Lazy.{Lazy}
use Rattle.reduce_machine.proofs.Standing.{stands_past}

-- a variable that is bound to nothing
pub unbound : (xs : List Term) (i : ℕ) → length xs ≤ i → stands xs i ≡ Rel (i - length xs)
unbound xs i h =
    let e : i ≡ length xs + (i - length xs) = omega arith in
    ap (stands xs) e ∙ stands_past xs (i - length xs)

pub open_shown : (xs : List Term) (t : Term) → IsOpenIn xs t → IsShownIn xs t
open_shown xs (Rel i) h = h
open_shown xs (App g a) h = h
open_shown xs (Case f ps n ret s bs) h = tt
open_shown xs t h = tt

pub open_head : (xs : List Term) (t : Term) → IsOpenIn xs t → IsHead t
open_head xs (App g a) h = h
open_head xs (Case f ps n ret s bs) h = h
open_head xs t h = tt

pub open_missing : (xs : List Term) (t : Term) → IsOpenIn xs t → missing (substitute (stands xs) t) ≡ missing t
open_missing xs (Rel i) h = ap missing (unbound xs i h)
open_missing xs (App g a) h = absurd h
open_missing xs (Case f ps n ret s bs) h = absurd h
open_missing xs (Fix i rargs types bodies) h = refl
open_missing xs t h = refl

-- a fixpoint that waits
head_fix : (xs : List Term) (t : Term) → IsShownIn xs t → IsFix (head (substitute (stands xs) t)) → IsFixNode t
head_fix xs (Rel i) s f = along (λ x. IsFix (head x)) (unbound xs i s) f
head_fix xs (App g a) s f = absurd s
head_fix xs (Fix i rargs types bodies) s f = tt
head_fix xs t s f = f

pub waits_node : (h : Lazy) (xs : List Term) (k : ℕ) → IsOpen h → missing (apply (read h) xs) ≡ Some k → IsFixNode h.term
waits_node h xs k s m =
    let r = missing_is (apply (read h) xs) k m in
    head_fix h.env.items h.term (open_shown h.env.items h.term s) (along (λ x. IsFix x) (sym r.4 ∙ head-apply (read h) xs) tt)

fix_whole : (xs : List Term) (t : Term) → IsFixNode t → (head (substitute (stands xs) t) ≡ substitute (stands xs) t) × (args (substitute (stands xs) t) ≡ [])
fix_whole xs (Fix i rargs types bodies) h = (refl, refl)
fix_whole xs t h = absurd h

pub fix_head : (f : Lazy) (xs : List Term) → IsFixNode f.term → head (apply (read f) xs) ≡ read f
fix_head f xs h = head-apply (read f) xs ∙ (fix_whole f.env.items f.term h).0

pub fix_args : (f : Lazy) (xs : List Term) → IsFixNode f.term → args (apply (read f) xs) ≡ xs
fix_args f xs h = args-apply (read f) xs ∙ ap (λ l. l ++ xs) (fix_whole f.env.items f.term h).1

-- constructors
not_built : (E : Env) (xs ys : List Term) (n : Node) → IsShownIn xs (tree_of n) → ((f : FamilyId) (c : ℕ) → n ≡ ConstructNode f c → ⊥) →
    built_arguments E (head (substitute (stands xs) (tree_of n))) ys ≡ None
not_built E xs ys (ConstructNode f c) s h = absurd (h f c refl)
not_built E xs ys n s h = shown_not E xs ys (tree_of n) s (others n h)
  where
    IsConstruct : Term → Type 0
    IsConstruct (Construct f c) = Unit {0}
    IsConstruct t = ⊥

    others : (n : Node) → ((f : FamilyId) (c : ℕ) → n ≡ ConstructNode f c → ⊥) → IsConstruct (tree_of n) → ⊥
    others (ConstructNode f c) h k = h f c refl
    others n h k = k

    shown_not : (E : Env) (xs ys : List Term) (t : Term) → IsShownIn xs t → (IsConstruct t → ⊥) → built_arguments E (head (substitute (stands xs) t)) ys ≡ None
    shown_not E xs ys (Rel i) s h = ap (λ x. built_arguments E (head x) ys) (unbound xs i s)
    shown_not E xs ys (App g a) s h = absurd s
    shown_not E xs ys (Construct f c) s h = absurd (h tt)
    shown_not E xs ys t s h = refl

pub open_not_built : (E : Env) (l : Lazy) (xs : List Term) (n : Node) → tree_of n ≡ l.term → IsOpen l → ((f : FamilyId) (c : ℕ) → n ≡ ConstructNode f c → ⊥) →
    built E (apply (read l) xs) ≡ None
open_not_built E l xs n e w h =
    ap (λ x. built_arguments E x (args (apply (read l) xs))) (head-apply (read l) xs ∙ ap (λ t. head (substitute (stands l.env.items) t)) (sym e))
    ∙ not_built E l.env.items (args (apply (read l) xs)) n (along (λ t. IsShownIn l.env.items t) (sym e) (open_shown l.env.items l.term w)) h

pub constructor_head : (l : Lazy) (xs : List Term) (f : FamilyId) (c : ℕ) → Construct f c ≡ l.term → head (apply (read l) xs) ≡ Construct f c
constructor_head l xs f c e = head-apply (read l) xs ∙ ap (λ t. head (substitute (stands l.env.items) t)) (sym e)

pub constructor_args : (l : Lazy) (xs : List Term) (f : FamilyId) (c : ℕ) → Construct f c ≡ l.term → xs ≡ args (apply (read l) xs)
constructor_args l xs f c e = sym (args-apply (read l) xs ∙ ap (λ t. args (substitute (stands l.env.items) t) ++ xs) (sym e))

-- lambdas
shown_lambda : (xs : List Term) (n : Node) → IsShownIn xs (tree_of n) → ((A b : Term) → n ≡ LambdaNode A b → ⊥) → IsLambda (substitute (stands xs) (tree_of n)) → ⊥
shown_lambda xs (LambdaNode A b) s h k = h A b refl
shown_lambda xs n s h k = shown_other xs (tree_of n) s (others n h) k
  where
    others : (n : Node) → ((A b : Term) → n ≡ LambdaNode A b → ⊥) → IsLambda (tree_of n) → ⊥
    others (LambdaNode A b) h k = h A b refl
    others n h k = k

    shown_other : (xs : List Term) (t : Term) → IsShownIn xs t → (IsLambda t → ⊥) → IsLambda (substitute (stands xs) t) → ⊥
    shown_other xs (Rel i) s h k = along (λ x. IsLambda x) (unbound xs i s) k
    shown_other xs (Lambda A b) s h k = h tt
    shown_other xs t s h k = k

pub head_not_lambda : (l : Lazy) (n : Node) → tree_of n ≡ l.term → IsOpen l → ((A b : Term) → n ≡ LambdaNode A b → ⊥) → IsLambda (read l) → ⊥
head_not_lambda l n e s h k =
    shown_lambda l.env.items n (along (λ t. IsShownIn l.env.items t) (sym e) (open_shown l.env.items l.term s)) h (along (λ t. IsLambda (substitute (stands l.env.items) t)) (sym e) k)

applied_not_lambda : (x : Term) (xs : List Term) (b : Term) → IsLambda (apply b (x ∷ xs)) → ⊥
applied_not_lambda x [] b h = h
applied_not_lambda x (y ∷ xs) b h = applied_not_lambda y xs (App b x) h

pub some_not_lambda : (xs : List Lazy) (b : Term) → (xs ≡ [] → ⊥) → IsLambda (apply b (map read xs)) → ⊥
some_not_lambda [] b h k = h refl
some_not_lambda (x ∷ xs) b h k = applied_not_lambda (read x) (map read xs) b k

pub body_is : (l : Lazy) (A b d : Term) (xs : List Term) → Lambda A b ≡ l.term → d ≡ b → xs ≡ l.env.items → (C : Term) × (read l ≡ substitute (stands xs) (Lambda C d))
body_is l A b d xs e q r =
    (A, sym (ap (substitute (stands l.env.items)) e) ∙ ap (λ x. substitute (stands l.env.items) (Lambda A x)) (sym q) ∙ ap (λ y. substitute (stands y) (Lambda A d)) (sym r))
