-- Spines in one another, and the heads and arguments of their terms.
use Rattle.std.proofs.Common.{◌≡◌, ℕ, ◌+◌, ◌<◌, ◌≤◌, ◌⊎◌, inl, inr, List, [], ◌∷◌, ◌++◌, length, drop, map, get_or, Option, Some, None, refl, sym, ap, ◌∙◌, subst as along, arith}
use Rattle.trees.specs.Measures.{IsBeyond}
use Rattle.pc_terms.specs.Syntax.{Term, Rel, App, Case, Fix, apply, head, args, substitute}
use Rattle.pc_terms.proofs.Applied.{beyond-apply}
use Rattle.calculus_rules.specs.Environment.{Env}
use Rattle.calculus_rules.specs.Context.{Values}
use Rattle.calculus_rules.proofs.Spines.{head-apply, args-apply}
use Rattle.pc_rules.specs.DirectedWeakHead.{built_arguments, built, weak_next}
use Rattle.pc_rules.proofs.WeakNext.{none_some}
use Rattle.pc_rules.proofs.ListSteps.{none_left}
use Rattle.reduction.specs.Frames.{with_scrutinee, missing, one_less, IsMatch}
use Rattle.reduce_machine.specs.Layered.{ToArgument, InMatch, OfFixpoint}
use Rattle.reduce_machine.specs.Layers.{IsOpen, IsOpenIn, IsMatchNode, IsFixNode}
use Rattle.reduce_machine.specs.Normal.{IsLambda}
use Rattle.reduce_machine.specs.Reads.{stands, read}
use Rattle.reduce_machine.specs.Spines.{head_on, spine_on, nested, IsOpenHead, IsStuckHead, IsOn, AreStuck, AreNested}
use Rattle.reduce_machine.specs.declared.bindings.Lazy.{Lazy}
use Rattle.reduce_machine.specs.declared.spines.Head.{Head}
use Rattle.reduce_machine.specs.declared.spines.Head.TheVariants.{Open, Match, Fixpoint}
use Rattle.reduce_machine.specs.declared.spines.Spine.{Spine}
use Rattle.reduce_machine.proofs.Arms.{drop_item}
use Rattle.reduce_machine.proofs.HeadKinds.{unbound, fix_head, fix_args}
use Rattle.reduce_machine.proofs.Plugging.{plug_steps, plug_beyond}

-- one more, and one less, at the outside
pub nested_last : (ss : List Spine) (s : Spine) (t : Term) → nested (ss ++ s ∷ []) t ≡ spine_on s (nested ss t)
nested_last [] s t = refl
nested_last (r ∷ ss) s t = nested_last ss s (spine_on r t)

stuck_last : (ss : List Spine) (s : Spine) → AreStuck (ss ++ s ∷ []) → AreStuck ss × IsStuckHead s.head
stuck_last [] s h = (tt, h.0)
stuck_last (r ∷ ss) s h = let k = stuck_last ss s h.1 in ((h.0, k.0), k.1)

stuck_more : (ss : List Spine) (s : Spine) → AreStuck ss → IsStuckHead s.head → AreStuck (ss ++ s ∷ [])
stuck_more [] s h k = (k, tt)
stuck_more (r ∷ ss) s h k = (h.0, stuck_more ss s h.1 k)

pub nested_more : (ss : List Spine) (s : Spine) → AreNested ss → IsStuckHead s.head → AreNested (ss ++ s ∷ [])
nested_more [] s h k = absurd h
nested_more (r ∷ ss) s h k = (h.0, stuck_more ss s h.1 k)

pub nested_inner : (ss : List Spine) (r s : Spine) → AreNested ((ss ++ r ∷ []) ++ s ∷ []) → AreNested (ss ++ r ∷ []) × IsStuckHead s.head
nested_inner [] r s h = ((h.0, tt), h.1.0)
nested_inner (q ∷ ss) r s h = let k = stuck_last (ss ++ r ∷ []) s h.1 in ((h.0, k.0), k.1)

pub nested_alone : (ss : List Spine) (s : Spine) → ss ≡ [] → AreNested (ss ++ s ∷ []) → IsOpenHead s.head
nested_alone ss s e h = (along (λ rs. AreNested (rs ++ s ∷ [])) e h).0

-- another spine with the same head
pub nested_head : (ss : List Spine) (s r : Spine) → r.head ≡ s.head → AreNested (ss ++ s ∷ []) → AreNested (ss ++ r ∷ [])
nested_head [] s r e h = (along (λ x. IsOpenHead x) (sym e) h.0, tt)
nested_head (q ∷ ss) s r e h =
    let k = stuck_last ss s h.1 in
    (h.0, stuck_more ss r k.0 (along (λ x. IsStuckHead x) (sym e) k.1))

-- the outermost head, by its kind
other_head : (h : Head) → IsOpenHead h → ((l : Lazy) → h ≡ Open l → ⊥) → ⊥
other_head (Open l) o k = k l refl
other_head h o k = o

pub outer_open : (ss : List Spine) (s : Spine) (l : Lazy) → s.head ≡ Open l → AreNested (ss ++ s ∷ []) → IsOpen l
outer_open [] s l e h = along (λ x. IsOpenHead x) e h.0
outer_open (q ∷ ss) s l e h = absurd (along (λ x. IsStuckHead x) e (stuck_last ss s h.1).1)

pub outer_stuck : (ss : List Spine) (s : Spine) → AreNested (ss ++ s ∷ []) → ((l : Lazy) → s.head ≡ Open l → ⊥) → IsStuckHead s.head
outer_stuck [] s h k = absurd (other_head s.head h.0 k)
outer_stuck (q ∷ ss) s h k = (stuck_last ss s h.1).1

-- a stuck head lacks no arguments, and is neither a constructor nor a lambda
case_missing : (xs : List Term) (t s : Term) → IsMatchNode t → missing (with_scrutinee (substitute (stands xs) t) s) ≡ None
case_missing xs (Case f ps k ret u bs) s h = refl
case_missing xs t s h = absurd h

head_missing : (h : Head) (t : Term) → IsStuckHead h → missing (head_on h t) ≡ None
head_missing (Open l) t k = absurd k
head_missing (Match o) t k = case_missing o.env.items o.term t k
head_missing (Fixpoint f xs) t k = ap one_less k.1

applied_missing : (b : Term) (xs : List Term) → missing b ≡ None → missing (apply b xs) ≡ None
applied_missing b [] e = e
applied_missing b (x ∷ xs) e = applied_missing (App b x) xs (ap one_less e)

pub stuck_missing : (s : Spine) (t : Term) → IsStuckHead s.head → missing (spine_on s t) ≡ None
stuck_missing s t k = applied_missing (head_on s.head t) (map read s.args.items) (head_missing s.head t k)

case_built : (E : Env) (xs : List Term) (t s : Term) (ys : List Term) → IsMatchNode t → built_arguments E (head (with_scrutinee (substitute (stands xs) t) s)) ys ≡ None
case_built E xs (Case f ps k ret u bs) s ys h = refl
case_built E xs t s ys h = absurd h

fix_built : (E : Env) (xs : List Term) (t : Term) (ys : List Term) → IsFixNode t → built_arguments E (substitute (stands xs) t) ys ≡ None
fix_built E xs (Fix i rargs types bodies) ys h = refl
fix_built E xs t ys h = absurd h

head_built : (E : Env) (h : Head) (t : Term) (ys : List Term) → IsStuckHead h → built_arguments E (head (head_on h t)) ys ≡ None
head_built E (Open l) t ys k = absurd k
head_built E (Match o) t ys k = case_built E o.env.items o.term t ys k
head_built E (Fixpoint f xs) t ys k =
    ap (λ x. built_arguments E x ys) (fix_head f (map read xs.items) k.0) ∙ fix_built E f.env.items f.term ys k.0

pub stuck_not_built : (E : Env) (s : Spine) (t : Term) → IsStuckHead s.head → built E (spine_on s t) ≡ None
stuck_not_built E s t k =
    ap (λ x. built_arguments E x (args (spine_on s t))) (head-apply (head_on s.head t) (map read s.args.items)) ∙ head_built E s.head t (args (spine_on s t)) k

case_no_lambda : (xs : List Term) (t s : Term) → IsMatchNode t → IsLambda (with_scrutinee (substitute (stands xs) t) s) → ⊥
case_no_lambda xs (Case f ps k ret u bs) s h l = l
case_no_lambda xs t s h l = h

head_no_lambda : (h : Head) (t : Term) → IsStuckHead h → IsLambda (head_on h t) → ⊥
head_no_lambda (Open l) t k i = k
head_no_lambda (Match o) t k i = case_no_lambda o.env.items o.term t k i
head_no_lambda (Fixpoint f xs) t k i = i

applied_no_lambda : (b : Term) (xs : List Term) → (IsLambda b → ⊥) → IsLambda (apply b xs) → ⊥
applied_no_lambda b [] h l = h l
applied_no_lambda b (x ∷ xs) h l = applied_no_lambda (App b x) xs (λ i. i) l

pub stuck_not_lambda : (s : Spine) (t : Term) → IsStuckHead s.head → IsLambda (spine_on s t) → ⊥
stuck_not_lambda s t k i = applied_no_lambda (head_on s.head t) (map read s.args.items) (head_no_lambda s.head t k) i

-- what is stuck on a term beyond the limits is beyond them
case_is : (xs : List Term) (t : Term) → IsMatchNode t → IsMatch (substitute (stands xs) t)
case_is xs (Case f ps k ret u bs) h = tt
case_is xs t h = absurd h

pub match_beyond : (o : Lazy) (v : Term) → IsMatchNode o.term → IsBeyond v → IsBeyond (with_scrutinee (read o) v)
match_beyond o v m h = plug_beyond (InMatch (read o) ∷ []) v (case_is o.env.items o.term m, tt) h

pub argument_deep : (g v : Term) → missing g ≡ Some 0 → IsBeyond v → IsBeyond (App g v)
argument_deep g v m h = plug_beyond (OfFixpoint g ∷ []) v (m, tt) h

head_beyond : (h : Head) (t : Term) → IsStuckHead h → IsBeyond t → IsBeyond (head_on h t)
head_beyond (Open l) t k b = absurd k
head_beyond (Match o) t k b = match_beyond o t k b
head_beyond (Fixpoint f xs) t k b = argument_deep (apply (read f) (map read xs.items)) t k.1 b

pub nested_beyond : (ss : List Spine) (t : Term) → AreStuck ss → IsBeyond t → IsBeyond (nested ss t)
nested_beyond [] t k b = b
nested_beyond (s ∷ ss) t k b =
    nested_beyond ss (spine_on s t) k.1 (beyond-apply (head_on s.head t) (map read s.args.items) (head_beyond s.head t k.0 b))

-- a spine whose head is open
pub open_term : (s : Spine) (l : Lazy) (t : Term) → s.head ≡ Open l → spine_on s t ≡ apply (read l) (map read s.args.items)
open_term s l t e = ap (λ h. apply (head_on h t) (map read s.args.items)) e

pub open_alone : (s : Spine) (l : Lazy) (t : Term) → s.head ≡ Open l → s.args.items ≡ [] → spine_on s t ≡ read l
open_alone s l t e p = open_term s l t e ∙ ap (λ xs. apply (read l) (map read xs)) p

-- the outermost head stands by itself, or on what is below
pub outer_kind : (ss : List Spine) (s : Spine) → AreNested (ss ++ s ∷ []) → IsOpenHead s.head ⊎ IsStuckHead s.head
outer_kind [] s h = inl h.0
outer_kind (q ∷ ss) s h = inr (stuck_last ss s h.1).1

pub not_both : (h : Head) → IsOpenHead h → IsStuckHead h → ⊥
not_both (Open l) o k = k
not_both h o k = o

-- heads and arguments of spines
pub spine_head : (s : Spine) (t : Term) → head (spine_on s t) ≡ head (head_on s.head t)
spine_head s t = head-apply (head_on s.head t) (map read s.args.items)

pub spine_args : (s : Spine) (t : Term) → args (spine_on s t) ≡ args (head_on s.head t) ++ map read s.args.items
spine_args s t = args-apply (head_on s.head t) (map read s.args.items)

open_parts_in : (xs : List Term) (t : Term) → IsOpenIn xs t → (head (substitute (stands xs) t) ≡ substitute (stands xs) t) × (args (substitute (stands xs) t) ≡ [])
open_parts_in xs (Rel i) h =
    let e = unbound xs i h in
    (along (λ t. head t ≡ t) (sym e) refl, ap args e)
open_parts_in xs (App g a) h = absurd h
open_parts_in xs t h = (refl, refl)

pub open_parts : (l : Lazy) → IsOpen l → (head (read l) ≡ read l) × (args (read l) ≡ [])
open_parts l h = open_parts_in l.env.items l.term h

match_parts_in : (xs : List Term) (u t : Term) → IsMatchNode u →
    (head (with_scrutinee (substitute (stands xs) u) t) ≡ with_scrutinee (substitute (stands xs) u) t) × (args (with_scrutinee (substitute (stands xs) u) t) ≡ [])
match_parts_in xs (Case f ps k ret s bs) t h = (refl, refl)
match_parts_in xs u t h = absurd h

pub match_parts : (o : Lazy) (t : Term) → IsMatchNode o.term →
    (head (with_scrutinee (read o) t) ≡ with_scrutinee (read o) t) × (args (with_scrutinee (read o) t) ≡ [])
match_parts o t h = match_parts_in o.env.items o.term t h

pub fix_parts : (f : Lazy) (xs : List Term) (t : Term) → IsFixNode f.term → (head (App (apply (read f) xs) t) ≡ read f) × (args (App (apply (read f) xs) t) ≡ xs ++ t ∷ [])
fix_parts f xs t h = (fix_head f xs h, ap (λ ys. ys ++ t ∷ []) (fix_args f xs h))

-- an open head is no match
open_no_case_in : (xs : List Term) (t : Term) → IsOpenIn xs t → IsMatch (substitute (stands xs) t) → ⊥
open_no_case_in xs (Rel i) h m = along (λ x. IsMatch x) (unbound xs i h) m
open_no_case_in xs (Case f ps k ret s bs) h m = h
open_no_case_in xs t h m = m

pub open_no_case : (l : Lazy) → IsOpen l → IsMatch (read l) → ⊥
open_no_case l h m = open_no_case_in l.env.items l.term h m

-- what a value without a step is stuck on has none
stuck_steps : (E : Env) (V : Values) (h : Head) (t u : Term) → IsStuckHead h → weak_next E V t ≡ Some u → weak_next E V (head_on h t) ≡ Some (head_on h u)
stuck_steps E V (Open l) t u k e = absurd k
stuck_steps E V (Match o) t u k e = plug_steps E V (InMatch (read o) ∷ []) t u (case_is o.env.items o.term k, tt) e
stuck_steps E V (Fixpoint f xs) t u k e = plug_steps E V (OfFixpoint (apply (read f) (map read xs.items)) ∷ []) t u (k.1, tt) e

applied_steps : (E : Env) (V : Values) (xs : List Term) (t u : Term) → weak_next E V t ≡ Some u → weak_next E V (apply t xs) ≡ Some (apply u xs)
applied_steps E V [] t u e = e
applied_steps E V (x ∷ xs) t u e = applied_steps E V xs (App t x) (App u x) (plug_steps E V (ToArgument x ∷ []) t u (tt, tt) e)

no_step : (E : Env) (V : Values) (s : Spine) (t : Term) (o : Option Term) → IsStuckHead s.head → weak_next E V (spine_on s t) ≡ None → weak_next E V t ≡ o → o ≡ None
no_step E V s t None k n e = refl
no_step E V s t (Some u) k n e =
    absurd (none_some (sym n ∙ applied_steps E V (map read s.args.items) (head_on s.head t) (head_on s.head u) (stuck_steps E V s.head t u k e)))

pub inner_normal : (E : Env) (V : Values) (s : Spine) (t : Term) → IsStuckHead s.head → weak_next E V (spine_on s t) ≡ None → weak_next E V t ≡ None
inner_normal E V s t k n = no_step E V s t (weak_next E V t) k n refl

-- spines that are read one after the other, the innermost first: what is left stands on what was read
abbrev pub IsRest : Option Term → List Spine → Type 0
IsRest None ss = AreNested ss
IsRest (Some t) ss = AreStuck ss

rest_on : (o : Option Term) (s : Spine) (ss : List Spine) → IsRest o (s ∷ ss) → IsOn s.head o × AreStuck ss
rest_on None s ss h = h
rest_on (Some t) s ss h = h

pub read_on : (ss : List Spine) (i : ℕ) (s r : Spine) (o : Option Term) → s ≡ get_or ss i s → i < length ss → IsRest o (drop i ss ++ r ∷ []) →
    IsOn s.head o × AreStuck (drop (i + 1) ss ++ r ∷ [])
read_on ss i s r o e h k = rest_on o s (drop (i + 1) ss ++ r ∷ []) (along (λ qs. IsRest o (qs ++ r ∷ [])) (drop_item ss i s e h) k)

pub read_more : (ss : List Spine) (i : ℕ) (s : Spine) (t w : Term) → s ≡ get_or ss i s → i < length ss → nested (drop i ss) t ≡ w → nested (drop (i + 1) ss) (spine_on s t) ≡ w
read_more ss i s t w e h p = sym (ap (λ qs. nested qs t) (drop_item ss i s e h)) ∙ p

pub read_end : (ss : List Spine) (i : ℕ) (r : Spine) (o : Option Term) → length ss ≤ i → IsRest o (drop i ss ++ r ∷ []) → IsOn r.head o
read_end ss i r o h k = (rest_on o r [] (along (λ qs. IsRest o (qs ++ r ∷ [])) (none_left ss i h) k)).0

pub read_whole : (ss : List Spine) (i : ℕ) (t w : Term) → length ss ≤ i → nested (drop i ss) t ≡ w → t ≡ w
read_whole ss i t w h p = sym (ap (λ qs. nested qs t) (none_left ss i h)) ∙ p

pub read_deep : (ss : List Spine) (i : ℕ) (s r : Spine) (t w : Term) → s ≡ get_or ss i s → i < length ss → AreStuck (drop (i + 1) ss ++ r ∷ []) → nested (drop i ss) t ≡ w →
    IsBeyond (spine_on s t) → IsBeyond (spine_on r w)
read_deep ss i s r t w e h k p b =
    along (λ (x : Term). IsBeyond x) (nested_last (drop (i + 1) ss) r (spine_on s t) ∙ ap (spine_on r) (read_more ss i s t w e h p))
    (nested_beyond (drop (i + 1) ss ++ r ∷ []) (spine_on s t) k b)
