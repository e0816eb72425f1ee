-- The heads of values.
use Rattle.std.proofs.Common.{◌≡◌, ◌∙◌, sym, ap, refl, ℕ, ◌+◌, ◌⊎◌, inl, inr, List, length, map, subst as along, arith}
use Rattle.std.specs.declared.alloc.Global.{Global}
use Rattle.std.specs.declared.vec.Vec.{Vec}
use Rattle.trees.specs.Tree.{terms_of}
use Rattle.trees.specs.Substitution.{deeper, walk}
use Rattle.trees.proofs.Closed.{deeper_is}
use Rattle.pc_terms.specs.Syntax.{Term, Rel, App, Case, Fix, substitute, head}
use Rattle.pc_terms.specs.Lists.{arms_of, types_of, bodies_of, rargs_of, walk_branch, walk_def}
use Rattle.pc_terms.specs.View.{tree_of}
use Rattle.pc_terms.specs.declared.term.Def.{Def}
use Rattle.pc_terms.specs.declared.term.Match.{Match}
use Rattle.pc_terms.specs.declared.term.Node.{Node}
use Rattle.pc_terms.specs.declared.term.Node.TheVariants.{Case as CaseNode, Fix as FixNode}
use Rattle.pc_terms.proofs.Parts.{walk_terms-of, walk_arms-of, walk_types-of, walk_bodies-of, walk_rargs-of, walk_length}
use Rattle.reduction.specs.Frames.{with_scrutinee}
use Rattle.reduce_machine.specs.Layers.{IsShownIn, IsShown, IsOpenIn, IsOpen, IsMatchNode, IsFixNode}
use Rattle.reduce_machine.specs.Reads.{stands, stands_under, read}
use Rattle.reduce_machine.specs.Spines.{head_on, IsOpenHead, IsStuckHead}
use Rattle.reduce_machine.specs.Seen.{seen_term, inner_term, IsSeen, IsInner}
use Rattle.reduce_machine.specs.declared.bindings.Lazy.{Lazy}
use Rattle.reduce_machine.specs.declared.spines.Head.{Head}
use Rattle.reduce_machine.specs.declared.spines.Head.TheVariants as head
use Rattle.reduce_machine.specs.declared.seen.Seen.{Seen}
use Rattle.reduce_machine.proofs.HeadKinds.{open_shown, unbound}
use Rattle.reduce_machine.proofs.Standing.{walk_read}
use Rattle.reduce_machine.proofs.Nesting.{outer_kind, spine_head, open_parts, match_parts, fix_parts}
use Rattle.lazy_conversion.specs.Heads.{code_of}
use Rattle.lazy_conversion.specs.Stuck.{match_of}
use Rattle.lazy_conversion.specs.declared.stuck.Stuck.{Stuck}

-- each head is open, or stuck, and seen

pub seen_head : (x : Seen) → IsSeen x → IsOpenHead x.spine.now.head ⊎ IsStuckHead x.spine.now.head
seen_head x h = outer_kind x.below.now x.spine.now h

match_shown : (xs : List Term) (t : Term) → IsMatchNode t → IsShownIn xs t
match_shown xs (Case f ps n ret s bs) h = tt
match_shown xs t h = absurd h

fix_shown : (xs : List Term) (t : Term) → IsFixNode t → IsShownIn xs t
fix_shown xs (Fix i rargs types bodies) h = tt
fix_shown xs t h = absurd h

head_shown : (h : Head) → IsOpenHead h ⊎ IsStuckHead h → IsShown (code_of h)
head_shown (head.Open l) (inl o) = open_shown l.env.items l.term o
head_shown (head.Open l) (inr s) = absurd s
head_shown (head.Match l) (inl o) = absurd o
head_shown (head.Match l) (inr s) = match_shown l.env.items l.term s
head_shown (head.Fixpoint l xs) (inl o) = absurd o
head_shown (head.Fixpoint l xs) (inr s) = fix_shown l.env.items l.term s.0

pub code_shown : (x : Seen) → IsSeen x → IsShown (code_of x.spine.now.head)
code_shown x h = head_shown x.spine.now.head (seen_head x h)

-- the head of a value's term

open_head : (x : Seen) (l : Lazy) → x.spine.now.head ≡ head.Open l → IsOpen l → head (seen_term x) ≡ read l
open_head x l e o = spine_head x.spine.now (inner_term x) ∙ ap (λ h. head (head_on h (inner_term x))) e ∙ (open_parts l o).0

fix_head : (x : Seen) (l : Lazy) (xs : Vec Lazy Global) → x.spine.now.head ≡ head.Fixpoint l xs → IsFixNode l.term → head (seen_term x) ≡ read l
fix_head x l xs e o = spine_head x.spine.now (inner_term x) ∙ ap (λ h. head (head_on h (inner_term x))) e ∙ (fix_parts l (map read xs.items) (inner_term x) o).0

match_head : (x : Seen) (l : Lazy) → x.spine.now.head ≡ head.Match l → IsMatchNode l.term → head (seen_term x) ≡ with_scrutinee (read l) (inner_term x)
match_head x l e o = spine_head x.spine.now (inner_term x) ∙ ap (λ h. head (head_on h (inner_term x))) e ∙ (match_parts l (inner_term x) o).0

-- a head that is no match is as it was written
plain_head : (x : Seen) (h : Head) → x.spine.now.head ≡ h → IsOpenHead h ⊎ IsStuckHead h → (IsMatchNode (head (seen_term x)) → ⊥) → head (seen_term x) ≡ read (code_of h)
plain_head x (head.Open l) e (inl o) k = open_head x l e o
plain_head x (head.Open l) e (inr s) k = absurd s
plain_head x (head.Match l) e (inl o) k = absurd o
plain_head x (head.Match l) e (inr s) k = absurd (k (along (λ t. IsMatchNode t) (sym (match_head x l e s)) (around_case l.env.items l.term (inner_term x) s)))
  where
    around_case : (xs : List Term) (t u : Term) → IsMatchNode t → IsMatchNode (with_scrutinee (substitute (stands xs) t) u)
    around_case xs (Case f ps n ret s bs) u h = tt
    around_case xs t u h = absurd h
plain_head x (head.Fixpoint l xs) e (inl o) k = absurd o
plain_head x (head.Fixpoint l xs) e (inr s) k = fix_head x l xs e s.0

pub code_head : (x : Seen) → IsSeen x → (IsMatchNode (head (seen_term x)) → ⊥) → head (seen_term x) ≡ read (code_of x.spine.now.head)
code_head x h k = plain_head x x.spine.now.head refl (seen_head x h) k

-- heads that are no match

open_not_case : (xs : List Term) (t : Term) → IsOpenIn xs t → IsMatchNode (substitute (stands xs) t) → ⊥
open_not_case xs (Rel i) o k = along (λ t. IsMatchNode t) (unbound xs i o) k
open_not_case xs (App g a) o k = o
open_not_case xs (Case f ps n ret s bs) o k = o
open_not_case xs t o k = k

fix_not_case : (xs : List Term) (t : Term) → IsFixNode t → IsMatchNode (substitute (stands xs) t) → ⊥
fix_not_case xs (Fix i rargs types bodies) h k = k
fix_not_case xs t h k = h

no_match : (x : Seen) (h : Head) → x.spine.now.head ≡ h → IsOpenHead h ⊎ IsStuckHead h → ((l : Lazy) → h ≡ head.Match l → ⊥) → IsMatchNode (head (seen_term x)) → ⊥
no_match x (head.Open l) e (inl o) n k = open_not_case l.env.items l.term o (along (λ t. IsMatchNode t) (open_head x l e o) k)
no_match x (head.Open l) e (inr s) n k = s
no_match x (head.Match l) e o n k = n l refl
no_match x (head.Fixpoint l xs) e (inl o) n k = o
no_match x (head.Fixpoint l xs) e (inr s) n k = fix_not_case l.env.items l.term s.0 (along (λ t. IsMatchNode t) (fix_head x l xs e s.0) k)

pub no_case : (x : Seen) → IsSeen x → ((l : Lazy) → x.spine.now.head ≡ head.Match l → ⊥) → IsMatchNode (head (seen_term x)) → ⊥
no_case x h n k = no_match x x.spine.now.head refl (seen_head x h) n k

-- a match that is not stuck is none of a value's heads
pub no_open_match : (x : Seen) (l : Lazy) → x.spine.now.head ≡ head.Match l → IsOpenHead x.spine.now.head → ⊥
no_open_match x l e h = along (λ y. IsOpenHead y) e h

pub stuck_node : (h : Head) (l : Lazy) → h ≡ head.Match l → IsStuckHead h → IsMatchNode l.term
stuck_node h l e s = along (λ y. IsStuckHead y) e s

-- a match under bindings around a scrutinee

module _ (xs : List Term) where
  around_parts : (m : Match) (t : Term) → with_scrutinee (walk (stands_under xs) 0 (tree_of (CaseNode m))) t
      ≡ Case m.family (terms_of (map (walk (stands_under xs) 0) m.params)) m.binders (walk (stands_under xs) m.binders m.ret) t (arms_of (map (walk_branch (stands_under xs) 0) m.branches))
  around_parts m t =
      let z : 0 + m.binders ≡ m.binders = omega arith in
      let d : deeper m.binders 0 ≡ m.binders = deeper_is m.binders 0 ∙ z in
      λ j. Case m.family (sym (walk_terms-of (stands_under xs) 0 m.params) j) m.binders (walk (stands_under xs) (d j) m.ret) t (sym (walk_arms-of (stands_under xs) 0 m.branches) j)

  pub around_read : (l : Lazy) (m : Match) (t : Term) → l.env.items ≡ xs → tree_of (CaseNode m) ≡ l.term → with_scrutinee (read l) t
      ≡ Case m.family (terms_of (map (walk (stands_under xs) 0) m.params)) m.binders (walk (stands_under xs) m.binders m.ret) t (arms_of (map (walk_branch (stands_under xs) 0) m.branches))
  around_read l m t p e =
      (λ j. with_scrutinee (substitute (stands (p j)) (sym e j)) t) ∙ ap (λ y. with_scrutinee y t) (sym (walk_read xs (tree_of (CaseNode m)))) ∙ around_parts m t

-- the head of a value that is stuck on a match
pub stuck_head : (x s : Seen) (l : Lazy) (m : Match) → IsInner x s → x.spine.now.head ≡ head.Match l → tree_of (CaseNode m) ≡ l.term → head (seen_term x)
    ≡ Case m.family (terms_of (map (walk (stands_under l.env.items) 0) m.params)) m.binders (walk (stands_under l.env.items) m.binders m.ret) (seen_term s) (arms_of (map (walk_branch (stands_under l.env.items) 0) m.branches))
stuck_head x s l m i e n =
    ap head i.term ∙ spine_head x.spine.now (seen_term s) ∙ ap (λ h. head (head_on h (seen_term s))) e ∙ (match_parts l (seen_term s) (stuck_node x.spine.now.head l e i.stuck)).0
    ∙ around_read l.env.items l m (seen_term s) refl n

pub match_around : (k : Stuck) → with_scrutinee (walk (stands_under k.env.now.items) 0 (tree_of (CaseNode k.outer.now))) (seen_term k.scrut) ≡ tree_of (CaseNode (match_of k))
match_around k = around_parts k.env.now.items k.outer.now (seen_term k.scrut)

match_is_case : (n : Node) → IsMatchNode (tree_of n) → ((m : Match) → n ≡ CaseNode m → ⊥) → ⊥
match_is_case (CaseNode m) h k = k m refl
match_is_case n h k = h

pub no_case_node : (x s : Seen) (l : Lazy) (n : Node) → IsInner x s → x.spine.now.head ≡ head.Match l → tree_of n ≡ l.term → ((m : Match) → n ≡ CaseNode m → ⊥) → ⊥
no_case_node x s l n i e p k = match_is_case n (along (λ t. IsMatchNode t) (sym p) (stuck_node x.spine.now.head l e i.stuck)) k

-- fixpoints under bindings

fix_read : (xs : List Term) (ds : List Def) (i : ℕ) → substitute (stands xs) (tree_of (FixNode ds i)) ≡ tree_of (FixNode (map (walk_def (stands_under xs) 0 (length ds)) ds) i)
fix_read xs ds i =
    let es = map (walk_def (stands_under xs) 0 (length ds)) ds in
    let n : length es ≡ length ds = walk_length (stands_under xs) 0 (length ds) ds in
    sym (walk_read xs (tree_of (FixNode ds i)))
    ∙ (λ j. Fix i (sym (walk_rargs-of (stands_under xs) 0 (length ds) ds) j) (sym (walk_types-of (stands_under xs) 0 (length ds) ds) j) (sym (walk_bodies-of (stands_under xs) 0 (length ds) ds) j))
    ∙ ap (λ m. Fix i (rargs_of es) (types_of es) (bodies_of m es)) (sym n)

pub definitions_read : (l : Lazy) (ds : List Def) (i : ℕ) → tree_of (FixNode ds i) ≡ l.term → read l ≡ tree_of (FixNode (map (walk_def (stands_under l.env.items) 0 (length ds)) ds) i)
definitions_read l ds i e = ap (substitute (stands l.env.items)) (sym e) ∙ fix_read l.env.items ds i

shown_not_fix : (xs : List Term) (t : Term) → IsShownIn xs t → (IsFixNode t → ⊥) → IsFixNode (substitute (stands xs) t) → ⊥
shown_not_fix xs (Rel i) s n k = along (λ t. IsFixNode t) (unbound xs i s) k
shown_not_fix xs (App g a) s n k = s
shown_not_fix xs (Fix i rargs types bodies) s n k = n tt
shown_not_fix xs t s n k = n k

node_not_fix : (n : Node) → ((ds : List Def) (i : ℕ) → n ≡ FixNode ds i → ⊥) → IsFixNode (tree_of n) → ⊥
node_not_fix (FixNode ds i) h k = h ds i refl
node_not_fix n h k = k

pub no_definitions : (l : Lazy) (n : Node) → tree_of n ≡ l.term → IsShown l → ((ds : List Def) (i : ℕ) → n ≡ FixNode ds i → ⊥) → IsFixNode (read l) → ⊥
no_definitions l n e s h k = shown_not_fix l.env.items l.term s (λ q. node_not_fix n h (along (λ t. IsFixNode t) (sym e) q)) k

-- heads of values that are fixpoints

open_is_no_match : (l k : Lazy) → head.Open l ≡ head.Match k → ⊥
open_is_no_match l k e = along is_open e tt
  where
    is_open : Head → Type 0
    is_open (head.Open l) = Unit {0}
    is_open h = ⊥

fix_is_no_match : (l k : Lazy) (xs : Vec Lazy Global) → head.Fixpoint l xs ≡ head.Match k → ⊥
fix_is_no_match l k xs e = along is_fix e tt
  where
    is_fix : Head → Type 0
    is_fix (head.Fixpoint l xs) = Unit {0}
    is_fix h = ⊥

pub open_fix_head : (x : Seen) (l : Lazy) → IsSeen x → x.spine.now.head ≡ head.Open l → head (seen_term x) ≡ read l
open_fix_head x l h e = code_head x h (no_case x h (λ k p. open_is_no_match l k (sym e ∙ p))) ∙ ap (λ y. read (code_of y)) e

pub fix_fix_head : (x : Seen) (l : Lazy) (xs : Vec Lazy Global) → IsSeen x → x.spine.now.head ≡ head.Fixpoint l xs → head (seen_term x) ≡ read l
fix_fix_head x l xs h e = code_head x h (no_case x h (λ k p. fix_is_no_match l k xs (sym e ∙ p))) ∙ ap (λ y. read (code_of y)) e

stuck_not_fix : (xs : List Term) (t u : Term) → IsMatchNode t → IsFixNode (with_scrutinee (substitute (stands xs) t) u) → ⊥
stuck_not_fix xs (Case f ps n ret s bs) u h k = k
stuck_not_fix xs t u h k = h

pub match_no_fix : (x : Seen) (l : Lazy) → IsSeen x → x.spine.now.head ≡ head.Match l → IsFixNode (head (seen_term x)) → ⊥
match_no_fix x l h e k = elim (seen_head x h) [
  | inl o ↦ no_open_match x l e o
  | inr s ↦ let m = stuck_node x.spine.now.head l e s in stuck_not_fix l.env.items l.term (inner_term x) m (along (λ t. IsFixNode t) (match_head x l e m) k)
]
