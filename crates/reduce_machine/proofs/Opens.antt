-- Steps of heads, and what they read.
use Rattle.std.proofs.Common.{◌≡◌, ℕ, ◌+◌, ◌≤◌, List, length, Some, None, refl, sym, ap, ◌∙◌, arith, slice_get, subst as along}
use Rattle.std.proofs.lemmas.Option.{slice_get_past}
use Rattle.pc_rules.proofs.WeakNext.{none_some}
use Rattle.pc_terms.specs.declared.leaf.Name.{Name}
use Rattle.pc_terms.specs.declared.term.Match.{Match}
use Rattle.pc_terms.specs.declared.term.Node.{Node}
use Rattle.pc_terms.specs.declared.term.Node.TheVariants.{Rel as RelNode, App as AppNode, Case as CaseNode, Const as ConstNode, LetIn as LetNode}
use Rattle.pc_terms.specs.Syntax.{Term, Rel, substitute}
use Rattle.pc_terms.specs.View.{tree_of}
use Rattle.calculus_rules.specs.Environment.{Env}
use Rattle.calculus_rules.specs.Context.{Values, value_at}
use Rattle.pc_rules.specs.DirectedWeakHead.{weak_next}
use Rattle.reduce_machine.specs.Layers.{IsOpenIn}
use Rattle.reduce_machine.specs.Reads.{stands}
use Rattle.reduce_machine.specs.Steps.{IsStepIn, IsPlainStep}
use Rattle.reduce_machine.specs.declared.steps.Step.{Step}
use Rattle.reduce_machine.specs.declared.steps.Step.TheVariants.{Variable, Constant, Bound, Branch, Fixpoint}
use Rattle.reduce_machine.proofs.Meetings.{no_source}
use Rattle.reduce_machine.proofs.Standing.{stands_past}

-- a step that reads nothing
pub head_part : (t : Term) (s : Step) → IsPlainStep s → IsStepIn t s
head_part t (Variable v n) h = record { node = tt; part = no_source t (Variable v n) refl }
head_part t (Constant b) h = record { node = tt; part = no_source t (Constant b) refl }
head_part t (Bound b env a) h = record { node = tt; part = no_source t (Bound b env a) refl }
head_part t (Branch b env xs n) h = record { node = tt; part = no_source t (Branch b env xs n) refl }
head_part t (Fixpoint f xs a) h = absurd h

-- a variable behind all items
pub variable_next : (E : Env) (V : Values) (xs : List Term) (i j : ℕ) (t : Term) → Rel i ≡ t → i ≡ length xs + j →
    weak_next E V (substitute (stands xs) t) ≡ value_at V j
variable_next E V xs i j t e p =
    ap (λ x. weak_next E V (substitute (stands xs) x)) (sym e) ∙ ap (λ n. weak_next E V (stands xs n)) p ∙ ap (weak_next E V) (stands_past xs j)

pub not_item : (xs : List Term) (i : ℕ) (t x : Term) → Rel i ≡ t → IsOpenIn xs t → slice_get xs i ≡ Some x → ⊥
not_item xs i t x e h f =
    let l : length xs ≤ i = along (λ y. IsOpenIn xs y) (sym e) h in
    none_some (sym (slice_get_past xs i l) ∙ f)

-- other heads
pub other_head : (E : Env) (V : Values) (xs : List Term) (n : Node) (t : Term) → tree_of n ≡ t → IsOpenIn xs t → ((i : ℕ) → n ≡ RelNode i → ⊥) →
    ((k : Name) → n ≡ ConstNode k → ⊥) → ((b B c : Term) → n ≡ LetNode b B c → ⊥) → weak_next E V (substitute (stands xs) t) ≡ None
other_head E V xs n t e h r k l =
    ap (λ x. weak_next E V (substitute (stands xs) x)) (sym e) ∙ others xs n (along (λ y. IsOpenIn xs y) (sym e) h) r k l
  where
    others : (xs : List Term) (n : Node) → IsOpenIn xs (tree_of n) → ((i : ℕ) → n ≡ RelNode i → ⊥) → ((k : Name) → n ≡ ConstNode k → ⊥) →
        ((b B c : Term) → n ≡ LetNode b B c → ⊥) → weak_next E V (substitute (stands xs) (tree_of n)) ≡ None
    others xs (RelNode i) h r k l = absurd (r i refl)
    others xs (ConstNode c) h r k l = absurd (k c refl)
    others xs (LetNode b B c) h r k l = absurd (l b B c refl)
    others xs (AppNode f a) h r k l = absurd h
    others xs (CaseNode m) h r k l = absurd h
    others xs n h r k l = refl

pub open_at : (xs : List Term) (i j : ℕ) (t : Term) → Rel i ≡ t → i ≡ length xs + j → IsOpenIn xs t
open_at xs i j t e p = along (λ y. IsOpenIn xs y) e (omega arith)

pub open_other : (xs : List Term) (n : Node) (t : Term) → tree_of n ≡ t → ((i : ℕ) → n ≡ RelNode i → ⊥) → ((f a : Term) → n ≡ AppNode f a → ⊥) →
    ((m : Match) → n ≡ CaseNode m → ⊥) → IsOpenIn xs t
open_other xs n t e r a m = along (λ y. IsOpenIn xs y) e (others xs n r a m)
  where
    others : (xs : List Term) (n : Node) → ((i : ℕ) → n ≡ RelNode i → ⊥) → ((f a : Term) → n ≡ AppNode f a → ⊥) → ((m : Match) → n ≡ CaseNode m → ⊥) → IsOpenIn xs (tree_of n)
    others xs (RelNode i) r a m = absurd (r i refl)
    others xs (AppNode f x) r a m = absurd (a f x refl)
    others xs (CaseNode y) r a m = absurd (m y refl)
    others xs n r a m = tt
