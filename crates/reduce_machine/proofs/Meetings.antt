-- A term without a step in a frame, whose parts stand under bindings.
use Rattle.std.proofs.Common.{◌≡◌, ℕ, ◌==◌, ◌↔◌, if◌then◌else◌, Bool, true, false, IsTrue, inl, inr, List, [], ◌∷◌, ◌++◌, length, map, Option, Some, None, Result, Ok, Err, IfOk, IfErr, is_some, refl, sym, ap, ◌∙◌, subst as along, arith}
use Rattle.std.proofs.lemmas.Bool.{false≢true, eqb-true}
use Rattle.trees.specs.Measures.{IsBeyond}
use Rattle.trees.proofs.Put.{substituted_term, term_at-substitute}
use Rattle.pc_terms.specs.declared.leaf.FamilyId.{FamilyId}
use Rattle.pc_terms.specs.Syntax.{Label, slots, Term, Terms, Rel, App, Lambda, LetIn, Case, substitute, substitute_terms, overs, put_all, first, apply, term_at}
use Rattle.calculus_rules.specs.Environment.{Env}
use Rattle.calculus_rules.specs.Context.{Values}
use Rattle.calculus_rules.specs.Same.{same_families}
use Rattle.calculus_rules.specs.Lookups.{if_some}
use Rattle.pc_rules.specs.DirectedWeakHead.{branch_of, built, weak_next}
use Rattle.reduction.specs.Frames.{one_less, missing, with_scrutinee}
use Rattle.reduction.proofs.InFrames.{fixpoint_unfolds, fixpoint_stuck}
use Rattle.reduction.proofs.Steps.{IsLambda as IsFunction, application_waits, match_chooses}
use Rattle.reduce_machine.specs.Normal.{IsLambda}
use Rattle.redexes.proofs.Unfolding.{body_beyond}
use Rattle.redexes.specs.Redexes.{fix_body, unfold_next}
use Rattle.reduce_machine.specs.Arms.{arm_at}
use Rattle.reduce_machine.specs.Layers.{IsFixNode, IsMatchNode}
use Rattle.reduce_machine.specs.Met.{IsMet}
use Rattle.reduce_machine.specs.Spines.{AreNested}
use Rattle.reduce_machine.specs.Values.{term_of, IsValue}
use Rattle.reduce_machine.specs.Reads.{stands, read}
use Rattle.reduce_machine.specs.Steps.{source}
use Rattle.reduce_machine.specs.declared.bindings.Lazy.{Lazy}
use Rattle.reduce_machine.specs.declared.meeting.Met.{Met}
use Rattle.pc_terms.specs.declared.term.MakeFault.{MakeFault}
use Rattle.pc_terms.specs.declared.term.MakeFault.TheVariants.{TooDeep}
use Rattle.reduce_machine.specs.declared.values.Value.{Value}
use Rattle.reduce_machine.specs.declared.steps.Step.{Step}
use Rattle.reduce_machine.proofs.Arms.{arm_if}
use Rattle.reduce_machine.proofs.HeadKinds.{fix_head, fix_args}
use Rattle.reduce_machine.proofs.Nesting.{nested_head, argument_deep}
use Rattle.trees.proofs.Exchange.{put_over}

variable_not_beyond : (t : Term) → IsBeyond {L = Label} {slots = slots} (Rel 0) → IsBeyond t
variable_not_beyond t (inl h) = absurd (omega arith)
variable_not_beyond t (inr h) = absurd (omega arith)

-- a variable is within the limits
pub no_source : (t : Term) (s : Step) → source s ≡ Rel 0 → IsBeyond (source s) → IsBeyond t
no_source t s e h = variable_not_beyond t (along (λ (x : Term). IsBeyond x) e h)

-- a lambda with an argument
pub lambda_binds : (E : Env) (V : Values) (xs : List Term) (A b g a : Term) → g ≡ substitute (stands xs) (Lambda A b) →
    weak_next E V (App g a) ≡ Some (substitute (first a (stands xs)) b)
lambda_binds E V xs A b g a e =
    ap (λ x. weak_next E V (App x a)) e ∙ ap Some (put_over (a ∷ []) (stands xs) b)

-- a definition
pub let_binds : (E : Env) (V : Values) (xs : List Term) (v B b t : Term) (l : Lazy) → LetIn v B b ≡ t → read l ≡ substitute (stands xs) v →
    weak_next E V (substitute (stands xs) t) ≡ Some (substitute (first (read l) (stands xs)) b)
let_binds E V xs v B b t l e p =
    sym (ap (λ x. weak_next E V (substitute (stands xs) x)) e) ∙ ap Some (put_over (substitute (stands xs) v ∷ []) (stands xs) b)
    ∙ ap (λ y. Some (substitute (first y (stands xs)) b)) (sym p)

-- a value with an argument more
pub more_value : (v w : Value) (a : Lazy) → w.spine.head ≡ v.spine.head → w.below ≡ v.below → term_of w ≡ App (term_of v) (read a) → w.missing ≡ one_less v.missing → IsValue v → IsValue w
more_value v w a p b q r s = record {
  lacks = r ∙ ap one_less s.lacks ∙ sym (ap missing q);
  nested = along (λ ss. AreNested (ss.items ++ w.spine ∷ [])) (sym b) (nested_head v.below.items v.spine w.spine p s.nested);
}

as_lambda : (t : Term) → IsFunction t → IsLambda t
as_lambda (Lambda A b) h = tt
as_lambda t h = h

pub waits_stuck : (E : Env) (V : Values) (v : Value) (a : Term) (b : Bool) → (IsLambda (term_of v) → ⊥) → IsValue v → (IsTrue b ↔ (v.missing ≡ Some 0)) → b ≡ false →
    weak_next E V (term_of v) ≡ None → weak_next E V (App (term_of v) a) ≡ None
waits_stuck E V v a b h w d f e = application_waits E V (term_of v) a (λ k. h (as_lambda (term_of v) k)) (λ z. false≢true (sym f ∙ d.1 (w.lacks ∙ z))) e

-- branches
branch_here : (bs : Terms) (f g : FamilyId) (c : ℕ) (xs : List Term) → same_families f g ≡ true →
    branch_of bs f (Some (g, c, xs)) ≡ if_some (term_at bs c) (λ b. if b.0 == length xs then Some (substitute (put_all xs Rel) b.1) else None)
branch_here bs f g c xs p =
    ap (λ b. if b then if_some (term_at bs c) (λ b. if b.0 == length xs then Some (substitute (put_all xs Rel) b.1) else None) else None) p

branch_other : (bs : Terms) (f g : FamilyId) (c : ℕ) (xs : List Term) → same_families f g ≡ false → branch_of bs f (Some (g, c, xs)) ≡ None
branch_other bs f g c xs p =
    ap (λ b. if b then if_some (term_at bs c) (λ b. if b.0 == length xs then Some (substitute (put_all xs Rel) b.1) else None) else None) p

abbrev put_in : (ℕ → Term) → List Term → Option Term → Option Term
put_in s xs None = None
put_in s xs (Some b) = Some (substitute (put_all xs s) b)

arm_put : (s : ℕ → Term) (xs : List Term) (n : ℕ) (b : Term) (t : Bool) → (n == length xs) ≡ t →
    (if t then Some (substitute (put_all xs Rel) (substitute (overs n s) b)) else None) ≡ put_in s xs (if t then Some b else None)
arm_put s xs n b true e =
    let q : n ≡ length xs = eqb-true n (length xs) e in
    ap (λ m. Some (substitute (put_all xs Rel) (substitute (overs m s) b))) q ∙ ap Some (put_over xs s b)
arm_put s xs n b false e = refl

arms_put : (s : ℕ → Term) (xs : List Term) (o : Option (ℕ × Term)) →
    if_some (substituted_term s o) (λ b. if b.0 == length xs then Some (substitute (put_all xs Rel) b.1) else None)
    ≡ put_in s xs (if_some o (λ b. if b.0 == length xs then Some b.1 else None))
arms_put s xs None = refl
arms_put s xs (Some p) = arm_put s xs p.0 p.1 (p.0 == length xs) refl

branch_arm : (s : ℕ → Term) (bs : Terms) (f g : FamilyId) (c : ℕ) (xs : List Term) (t : Bool) → same_families f g ≡ t →
    branch_of (substitute_terms s bs) f (Some (g, c, xs)) ≡ put_in s xs (arm_at bs f g c (length xs))
branch_arm s bs f g c xs true e =
    branch_here (substitute_terms s bs) f g c xs e
    ∙ ap (λ o. if_some o (λ b. if b.0 == length xs then Some (substitute (put_all xs Rel) b.1) else None)) (term_at-substitute bs s c)
    ∙ arms_put s xs (term_at bs c) ∙ sym (ap (put_in s xs) (arm_if bs f g c (length xs) true e))
branch_arm s bs f g c xs false e =
    branch_other (substitute_terms s bs) f g c xs e ∙ sym (ap (put_in s xs) (arm_if bs f g c (length xs) false e))

-- a match on a value
pub match_none : (E : Env) (V : Values) (l : Lazy) (v : Term) → IsMatchNode l.term → weak_next E V v ≡ None → built E v ≡ None →
    weak_next E V (with_scrutinee (read l) v) ≡ None
match_none E V l v m n b = chooses l.env.items l.term m
  where
    chooses : (xs : List Term) (t : Term) → IsMatchNode t → weak_next E V (with_scrutinee (substitute (stands xs) t) v) ≡ None
    chooses xs (Case f ps k ret s bs) h =
        match_chooses E V f (substitute_terms (stands xs) ps) k (substitute (overs k (stands xs)) ret) v (substitute_terms (stands xs) bs) n
        ∙ ap (branch_of (substitute_terms (stands xs) bs) f) b
    chooses xs t h = absurd h

match_arm : (E : Env) (V : Values) (xs : List Term) (f g : FamilyId) (ps : Terms) (k : ℕ) (ret s : Term) (bs : Terms) (t v : Term) (c n : ℕ) (ys : List Term) →
    Case f ps k ret s bs ≡ t → weak_next E V v ≡ None → built E v ≡ Some (g, c, ys) → n ≡ length ys →
    weak_next E V (with_scrutinee (substitute (stands xs) t) v) ≡ put_in (stands xs) ys (arm_at bs f g c n)
match_arm E V xs f g ps k ret s bs t v c n ys e w b q =
    sym (ap (λ x. weak_next E V (with_scrutinee (substitute (stands xs) x) v)) e)
    ∙ match_chooses E V f (substitute_terms (stands xs) ps) k (substitute (overs k (stands xs)) ret) v (substitute_terms (stands xs) bs) w
    ∙ ap (branch_of (substitute_terms (stands xs) bs) f) b ∙ branch_arm (stands xs) bs f g c ys (same_families f g) refl
    ∙ sym (ap (λ m. put_in (stands xs) ys (arm_at bs f g c m)) q)

pub match_no_arm : (E : Env) (V : Values) (xs : List Term) (f g : FamilyId) (ps : Terms) (k : ℕ) (ret s : Term) (bs : Terms) (t v : Term) (c n : ℕ) (ys : List Term) →
    Case f ps k ret s bs ≡ t → weak_next E V v ≡ None → built E v ≡ Some (g, c, ys) → n ≡ length ys → arm_at bs f g c n ≡ None →
    weak_next E V (with_scrutinee (substitute (stands xs) t) v) ≡ None
match_no_arm E V xs f g ps k ret s bs t v c n ys e w b q o =
    match_arm E V xs f g ps k ret s bs t v c n ys e w b q ∙ ap (put_in (stands xs) ys) o

pub match_takes : (E : Env) (V : Values) (xs : List Term) (f g : FamilyId) (ps : Terms) (k : ℕ) (ret s : Term) (bs : Terms) (t v : Term) (c n : ℕ) (ys : List Term) (b d : Term) →
    Case f ps k ret s bs ≡ t → weak_next E V v ≡ None → built E v ≡ Some (g, c, ys) → n ≡ length ys → arm_at bs f g c n ≡ Some b → d ≡ b →
    weak_next E V (with_scrutinee (substitute (stands xs) t) v) ≡ Some (substitute (put_all ys (stands xs)) d)
match_takes E V xs f g ps k ret s bs t v c n ys b d e w u q o p =
    match_arm E V xs f g ps k ret s bs t v c n ys e w u q ∙ ap (put_in (stands xs) ys) o ∙ ap (λ x. Some (substitute (put_all ys (stands xs)) x)) (sym p)

-- a fixpoint with its recursive argument
pub fix_unfolds : (E : Env) (V : Values) (f : Lazy) (xs : List Lazy) (v : Term) (a : Lazy) (p : FamilyId × ℕ × List Term) → IsFixNode f.term →
    missing (apply (read f) (map read xs)) ≡ Some 0 → built E v ≡ Some p → read a ≡ v →
    ((ys : List Term) (b : Term) → unfold_next (read f) ys b ≡ Some (App (apply (fix_body (read f)) ys) b)) → weak_next E V v ≡ None →
    weak_next E V (App (apply (read f) (map read xs)) v) ≡ Some (App (apply (fix_body (read f)) (map read xs)) (read a))
fix_unfolds E V f xs v a p n m b r u w =
    fixpoint_unfolds E V (apply (read f) (map read xs)) v (App (apply (fix_body (read f)) (map read xs)) (read a)) true (sym (ap is_some b)) refl m
    ((λ j. unfold_next (fix_head f (map read xs) n j) (fix_args f (map read xs) n j) v) ∙ u (map read xs) v
    ∙ ap (λ x. Some (App (apply (fix_body (read f)) (map read xs)) x)) (sym r)) w

pub fix_stuck : (E : Env) (V : Values) (f : Lazy) (xs : List Lazy) (v : Term) → missing (apply (read f) (map read xs)) ≡ Some 0 → built E v ≡ None →
    weak_next E V v ≡ None → weak_next E V (App (apply (read f) (map read xs)) v) ≡ None
fix_stuck E V f xs v m b w = fixpoint_stuck E V (apply (read f) (map read xs)) v false (sym (ap is_some b)) refl m w

pub fix_part : (f : Lazy) (xs : List Lazy) (v : Term) → IsBeyond (read f) → IsBeyond (App (apply (read f) (map read xs)) v)
fix_part f xs v h = body_beyond (read f) (map read xs) v h

pub truly : (b : Bool) → b ≡ true → IsTrue b
truly true p = refl
truly false p = absurd (false≢true p)

-- a value whose next argument is its recursive one
pub next_is : (v : Value) (b : Bool) → IsValue v → (IsTrue b ↔ (v.missing ≡ Some 0)) → b ≡ true → missing (term_of v) ≡ Some 0
next_is v b w d e = sym w.lacks ∙ d.0 (truly b e)

pub not_none : (b : Bool) (xs : List Lazy) → (IsTrue b ↔ (xs ≡ [])) → b ≡ false → xs ≡ [] → ⊥
not_none b xs d e h = false≢true (sym e ∙ d.1 h)

pub are_none : (b : Bool) (xs : List Lazy) → (IsTrue b ↔ (xs ≡ [])) → b ≡ true → xs ≡ []
are_none b xs d e = d.0 (truly b e)

pub deep_around : (g v : Term) (r : Result Met MakeFault) → missing g ≡ Some 0 → IfErr r (λ e. e ≡ TooDeep → IsBeyond v) → IfErr r (λ e. e ≡ TooDeep → IsBeyond (App g v))
deep_around g v (Ok m) w h = h
deep_around g v (Err e) w h = λ d. argument_deep g v w (h d)

-- in this environment
pub argument_met : (E : Env) (g a : Term) (r : Result Met MakeFault) → IfOk r (λ m. (E : Env) (V : Values) → weak_next E V g ≡ None → IsMet E V (App g a) m) →
    IfOk r (λ m. (V : Values) → weak_next E V g ≡ None → IsMet E V (App g a) m)
argument_met E g a (Ok m) h = h E
argument_met E g a (Err e) h = h
