-- Values, as they are made and taken apart.
use Rattle.std.proofs.Common.{◌≡◌, ℕ, zero, suc, ◌+◌, List, [], ◌∷◌, ◌++◌, length, map, Option, Some, None, refl, sym, ap, ◌∙◌, subst as along, arith, append_assoc, append-nil}
use Rattle.pc_terms.specs.declared.leaf.FamilyId.{FamilyId}
use Rattle.pc_terms.specs.declared.term.Node.{Node}
use Rattle.pc_terms.specs.declared.term.Node.TheVariants.{Construct as ConstructNode}
use Rattle.pc_terms.specs.Syntax.{Term, App, Construct, apply, head, args, substitute}
use Rattle.pc_terms.specs.View.{tree_of}
use Rattle.calculus_rules.specs.Environment.{Env}
use Rattle.pc_rules.specs.DirectedWeakHead.{built}
use Rattle.pc_rules.proofs.WeakNext.{none_some}
use Rattle.reduction.specs.Frames.{missing, one_less}
use Rattle.reduce_machine.specs.Layers.{IsOpen, IsOpenIn, IsFixNode}
use Rattle.reduce_machine.specs.Normal.{IsLambda}
use Rattle.reduce_machine.specs.Reads.{stands, read}
use Rattle.reduce_machine.specs.Spines.{head_on, nested, below_term, IsOpenHead, IsStuckHead, AreNested}
use Rattle.reduce_machine.specs.Values.{term_of, lessened, IsValue}
use Rattle.reduce_machine.specs.declared.bindings.Lazy.{Lazy}
use Rattle.reduce_machine.specs.declared.spines.Head.{Head}
use Rattle.reduce_machine.specs.declared.spines.Head.TheVariants.{Open}
use Rattle.reduce_machine.specs.declared.spines.Spine.{Spine}
use Rattle.reduce_machine.specs.declared.values.Value.{Value}
use Rattle.reduce_machine.proofs.Binding.{map_more}
use Rattle.reduce_machine.proofs.HeadKinds.{open_missing, open_not_built, constructor_head, constructor_args, waits_node, some_not_lambda}
use Rattle.reduce_machine.proofs.Normals.{substitute_spine}
use Rattle.reduce_machine.proofs.Nesting.{nested_last, nested_more, outer_open, outer_stuck, stuck_missing, stuck_not_built, stuck_not_lambda, open_term, open_alone}

-- what stands below the outermost spine
abbrev inside : Value → Term
inside v = nested v.below.items (below_term None)

-- a head as a value
pub head_value : (v : Value) (h : Lazy) (o : Option ℕ) → v.spine.head ≡ Open h → v.spine.args.items ≡ [] → v.below.items ≡ [] → v.missing ≡ o → o ≡ missing h.term → IsOpen h →
    IsValue v
head_value v h o p q b r s k =
    let t : term_of v ≡ read h = open_alone v.spine h (inside v) p q in
    let n : IsOpenHead v.spine.head = along (λ x. IsOpenHead x) (sym p) k in
    record {
      lacks = r ∙ s ∙ sym (open_missing h.env.items h.term k) ∙ sym (ap missing t);
      nested = along (λ ss. AreNested (ss ++ v.spine ∷ [])) (sym b) (n, tt);
    }

-- one more argument
lessened_next : (n : ℕ) (o : Option ℕ) → lessened (suc n) o ≡ one_less (lessened n o)
lessened_next zero o = refl
lessened_next (suc n) o = lessened_next n (one_less o)

pub lessened_more : (n : ℕ) (o p : Option ℕ) → lessened n o ≡ p → lessened (n + 1) o ≡ one_less p
lessened_more n o p e =
    let s : n + 1 ≡ suc n = omega arith in
    ap (λ k. lessened k o) s ∙ lessened_next n o ∙ ap one_less e

-- a head with arguments as a value
missing_applied : (h : Term) (xs : List Lazy) → missing (apply h (map read xs)) ≡ lessened (length xs) (missing h)
missing_applied h [] = refl
missing_applied h (x ∷ xs) = missing_applied (App h (read x)) xs

pub applied_value : (v : Value) (h : Lazy) (o : Option ℕ) (n : ℕ) → v.spine.head ≡ Open h → v.below.items ≡ [] → v.missing ≡ lessened n o → n ≡ length v.spine.args.items →
    o ≡ missing h.term → IsOpen h → IsValue v
applied_value v h o n p b r l s k =
    let t : term_of v ≡ apply (read h) (map read v.spine.args.items) = open_term v.spine h (inside v) p in
    let d : IsOpenHead v.spine.head = along (λ x. IsOpenHead x) (sym p) k in
    record {
      lacks = r ∙ (λ j. lessened (l j) ((s ∙ sym (open_missing h.env.items h.term k)) j)) ∙ sym (missing_applied (read h) v.spine.args.items) ∙ sym (ap missing t);
      nested = along (λ ss. AreNested (ss ++ v.spine ∷ [])) (sym b) (d, tt);
    }

-- a term under bindings as a value
pub spine_open : (l h : Lazy) → h.term ≡ head l.term → h.env ≡ l.env → IsOpenIn l.env.items (head l.term) → IsOpen h
spine_open l h p q k = along (λ t. IsOpenIn h.env.items t) (sym p) (along (λ b. IsOpenIn b.items (head l.term)) (sym q) k)

pub spine_read : (l h : Lazy) (ys xs : List Lazy) → h.term ≡ head l.term → h.env ≡ l.env →
    map read ys ≡ map read xs ++ map (substitute (stands l.env.items)) (args l.term) → xs ≡ [] → apply (read h) (map read ys) ≡ read l
spine_read l h ys xs p q e z =
    (λ j. apply (substitute (stands (q j).items) (p j)) (e j)) ∙ ap (λ zs. apply (substitute (stands l.env.items) (head l.term)) (map read zs ++ map (substitute (stands l.env.items)) (args l.term))) z
    ∙ sym (substitute_spine (stands l.env.items) l.term)

-- the parts of a spine, one after the other
map_append : (s : Term → Term) (ts us : List Term) → map s (ts ++ us) ≡ map s ts ++ map s us
map_append s [] us = refl
map_append s (t ∷ ts) us = ap (◌∷◌ (s t)) (map_append s ts us)

pub more_parts : (xs ys zs : List Lazy) (l : Lazy) (s : Term → Term) (f a t : Term) → App f a ≡ t → zs ≡ ys ++ (l ∷ []) → map read ys ≡ map read xs ++ map s (args f) → read l ≡ s a →
    map read zs ≡ map read xs ++ map s (args t)
more_parts xs ys zs l s f a t v e p q =
    ap (map read) e ∙ map_more ys l ∙ (λ j. p j ++ (q j ∷ [])) ∙ append_assoc (map read xs) (map s (args f)) (s a ∷ [])
    ∙ ap (λ us. map read xs ++ us) (sym (map_append s (args f) (a ∷ []))) ∙ ap (λ x. map read xs ++ map s (args x)) v

pub no_parts : (xs : List Lazy) (s : Term → Term) (t : Term) → args t ≡ [] → map read xs ≡ map read xs ++ map s (args t)
no_parts xs s t e = sym (append-nil (map read xs)) ∙ sym (ap (λ us. map read xs ++ map s us) e)

-- a match or a fixpoint that is stuck on a value
pub under_term : (v : Value) (h : Head) (ss : List Spine) (xs : List Lazy) → ss ≡ v.below.items ++ (v.spine ∷ []) → xs ≡ [] →
    apply (head_on h (nested ss (below_term None))) (map read xs) ≡ head_on h (term_of v)
under_term v h ss xs e q =
    (λ j. apply (head_on h (nested (e j) (below_term None))) (map read (q j))) ∙ ap (head_on h) (nested_last v.below.items v.spine (below_term None))

pub under_value : (v w : Value) (h : Head) → w.below.items ≡ v.below.items ++ (v.spine ∷ []) → w.spine.head ≡ h → w.missing ≡ None → IsValue v → IsStuckHead h → IsValue w
under_value v w h e p m s k =
    let n : IsStuckHead w.spine.head = along (λ x. IsStuckHead x) (sym p) k in
    record {
      lacks = m ∙ sym (stuck_missing w.spine (inside w) n);
      nested = along (λ ss. AreNested (ss ++ w.spine ∷ [])) (sym e) (nested_more (v.below.items ++ v.spine ∷ []) w.spine s.nested n);
    }

-- a value whose outermost head is open, and one whose head is not
pub value_open : (v : Value) (l : Lazy) → v.spine.head ≡ Open l → IsValue v → IsOpen l
value_open v l e s = outer_open v.below.items v.spine l e s.nested

value_stuck : (v : Value) → IsValue v → ((l : Lazy) → v.spine.head ≡ Open l → ⊥) → IsStuckHead v.spine.head
value_stuck v s h = outer_stuck v.below.items v.spine s.nested h

pub value_term : (v : Value) (l : Lazy) → v.spine.head ≡ Open l → term_of v ≡ apply (read l) (map read v.spine.args.items)
value_term v l e = open_term v.spine l (inside v) e

-- lambdas
pub lambda_term : (v : Value) (l : Lazy) → v.spine.head ≡ Open l → v.spine.args.items ≡ [] → term_of v ≡ read l
lambda_term v l e p = open_alone v.spine l (inside v) e p

pub applied_not_lambda : (v : Value) → (v.spine.args.items ≡ [] → ⊥) → IsLambda (term_of v) → ⊥
applied_not_lambda v h k = some_not_lambda v.spine.args.items (head_on v.spine.head (inside v)) h k

pub value_not_lambda : (v : Value) → IsValue v → ((l : Lazy) → v.spine.head ≡ Open l → ⊥) → IsLambda (term_of v) → ⊥
value_not_lambda v s h k = stuck_not_lambda v.spine (inside v) (value_stuck v s h) k

-- a fixpoint whose next argument is its recursive one
pub next_not_stuck : (v : Value) → IsValue v → missing (term_of v) ≡ Some 0 → ((l : Lazy) → v.spine.head ≡ Open l → ⊥) → ⊥
next_not_stuck v s m h = none_some (sym (stuck_missing v.spine (inside v) (value_stuck v s h)) ∙ m)

pub next_waits : (v : Value) (l : Lazy) → v.spine.head ≡ Open l → missing (term_of v) ≡ Some 0 → missing (apply (read l) (map read v.spine.args.items)) ≡ Some 0
next_waits v l e m = sym (ap missing (value_term v l e)) ∙ m

pub next_node : (v : Value) (l : Lazy) → v.spine.head ≡ Open l → IsValue v → missing (term_of v) ≡ Some 0 → IsFixNode l.term
next_node v l e s m = waits_node l (map read v.spine.args.items) 0 (value_open v l e s) (next_waits v l e m)

-- constructors
pub stuck_value_not_built : (E : Env) (v : Value) → IsValue v → ((l : Lazy) → v.spine.head ≡ Open l → ⊥) → built E (term_of v) ≡ None
stuck_value_not_built E v s h = stuck_not_built E v.spine (inside v) (value_stuck v s h)

pub value_not_built : (E : Env) (v : Value) (l : Lazy) (n : Node) → v.spine.head ≡ Open l → tree_of n ≡ l.term → IsValue v →
    ((f : FamilyId) (c : ℕ) → n ≡ ConstructNode f c → ⊥) → built E (term_of v) ≡ None
value_not_built E v l n e p s h = ap (built E) (value_term v l e) ∙ open_not_built E l (map read v.spine.args.items) n p (value_open v l e s) h

pub value_head : (v : Value) (l : Lazy) (f : FamilyId) (c : ℕ) → v.spine.head ≡ Open l → Construct f c ≡ l.term → head (term_of v) ≡ Construct f c
value_head v l f c e p = ap head (value_term v l e) ∙ constructor_head l (map read v.spine.args.items) f c p

pub value_args : (v : Value) (l : Lazy) (f : FamilyId) (c : ℕ) → v.spine.head ≡ Open l → Construct f c ≡ l.term → map read v.spine.args.items ≡ args (term_of v)
value_args v l f c e p = constructor_args l (map read v.spine.args.items) f c p ∙ sym (ap args (value_term v l e))
