-- Weakening by declarations: a plain map over derivations.
use Rattle.std.proofs.Common.{◌≡◌, ℕ, List, ◌∷◌, Option, refl, inl, inr, subst}
use Rattle.universe_levels.specs.declared.constraint.Constraint.{Constraint}
use Rattle.universe_levels.specs.declared.sort.Sort.{Sort}
use Rattle.universe_levels.specs.declared.sort.Sort.TheVariants.{Prop, Of}
use Rattle.universe_levels.specs.Consistency.{IsOver}
use Rattle.universe_levels.specs.Consistency as universes
use Rattle.pc_terms.specs.declared.leaf.Name.{Name}
use Rattle.pc_terms.specs.declared.leaf.FamilyId.{FamilyId}
use Rattle.pc_terms.specs.Syntax.{Slot, Term, Children, Terms, Ind}
use Rattle.calculus_rules.specs.declared.declaration.Constructor.{Constructor}
use Rattle.calculus_rules.specs.declared.declaration.Block.{Block}
use Rattle.calculus_rules.specs.declared.declaration.Kept.{Kept}
use Rattle.calculus_rules.specs.declared.declaration.Kept.TheVariants.{Block as Whole}
use Rattle.calculus_rules.specs.Environment.{FamilyDecl, Env, Has, there, SortEntails, IsDeclared, KeepsConstant, KeepsFamily, KnowsFamily}
use Rattle.calculus_rules.specs.Context.{Context, Values}
use Rattle.calculus_rules.specs.Elimination.{IsSingle, MayEliminate}
use Rattle.calculus_rules.specs.Instances.{family_type}
use Rattle.calculus_rules.specs.Step.{is_constructor, Root, beta, zeta, constant, variable, matched, fixpoint}
use Rattle.calculus_rules.specs.Conversion.{Equal, step, sorts, same, back, chain, inside, let_body, EqualChildren, end, and, group, EqualTerms, done, next, Below, equal, product}
use Rattle.calculus_rules.specs.Typing.{Recurses, recurses_here, recurses_later, bare, Types, rel, sort, prod, lambda, let_in, app, const, ind, construct, case, fix, conv, TypesAll, no_terms, term, Entries, no_entries, entry, Branches, no_branches, branch, Sorts, no_types, a_type, Bodies, no_bodies, a_body, EntrySorts, no_sorts, a_sort}
use Rattle.calculus_rules.specs.Accepted.{env}

-- a family that is known by its type alone may be known by the same type alone
abbrev pub KnowsType : Env → FamilyId → FamilyDecl → Type 0
KnowsType F f D = (G : FamilyDecl) × KnowsFamily F f G × (family_type G ≡ family_type D)

-- an environment with more declarations, and the same levels and constraints
pub record Extends (E F : Env) : Type 0 where
  pub levels : E.levels ≡ F.levels
  pub constraints : E.constraints ≡ F.constraints
  pub constants : (k : Name) (T : Term) (b : Option Term) → KeepsConstant E k T b → KeepsConstant F k T b
  pub blocks : (B : Block) → Has E.declarations (Whole B) → Has F.declarations (Whole B)
  pub known : (f : FamilyId) (D : FamilyDecl) → KnowsFamily E f D → KnowsType F f D

extends_entails : {E F : Env} → Extends E F → (s s' : Sort) → SortEntails E s s' → SortEntails F s s'
extends_entails x Prop s' h = h
extends_entails x (Of u) Prop h = h
extends_entails {E} {F} x (Of u) (Of w) h =
    subst (λ cs. universes.Entails F.levels cs u w) x.constraints (subst (λ n. universes.Entails n E.constraints u w) x.levels h)

extends_declared : {E F : Env} → Extends E F → (s : Sort) → IsDeclared E s → IsDeclared F s
extends_declared x Prop h = h
extends_declared x (Of u) h = (h.0, subst (λ n. IsOver n u) x.levels h.1)

extends_family : {E F : Env} → Extends E F → {f : FamilyId} {D : FamilyDecl} → KeepsFamily E f D → KeepsFamily F f D
extends_family x (B, k, q, i) = (B, x.blocks B k, q, i)

extends_root : {E F : Env} → Extends E F → {V : Values} {t u : Term} → Root E V t u → Root F V t u
extends_root x beta = beta
extends_root x zeta = zeta
extends_root x (constant k) = constant (x.constants _ _ _ k)
extends_root x (variable e) = variable e
extends_root x (matched (is_constructor k c p l q) e n) = matched (is_constructor (extends_family x k) c p l q) e n
extends_root x (fixpoint i rargs types bodies before e l (is_constructor k c p n q) b g) =
    fixpoint i rargs types bodies before e l (is_constructor (extends_family x k) c p n q) b g

mutual
  pub extends_equal : {E F : Env} → Extends E F → {V : Values} {t u : Term} → Equal E V t u → Equal F V t u
  extends_equal x (step r) = step (extends_root x r)
  extends_equal x (sorts {s = s} {s' = s'} p q) = sorts (extends_entails x s s' p) (extends_entails x s' s q)
  extends_equal x same = same
  extends_equal x (back e) = back (extends_equal x e)
  extends_equal x (chain e f) = chain (extends_equal x e) (extends_equal x f)
  extends_equal x (inside es) = inside (extends_equal_children x es)
  extends_equal x (let_body e) = let_body (extends_equal x e)

  pub extends_equal_children : {E F : Env} → Extends E F → {V : Values} {ss : List Slot} {ts us : Children ss} → EqualChildren E V ss ts us → EqualChildren F V ss ts us
  extends_equal_children x end = end
  extends_equal_children x (and e es) = and (extends_equal x e) (extends_equal_children x es)
  extends_equal_children x (group e es) = group (extends_equal_terms x e) (extends_equal_children x es)

  pub extends_equal_terms : {E F : Env} → Extends E F → {V : Values} {ts us : Terms} → EqualTerms E V ts us → EqualTerms F V ts us
  extends_equal_terms x done = done
  extends_equal_terms x (next e es) = next (extends_equal x e) (extends_equal_terms x es)

pub extends_below : {E F : Env} → Extends E F → {V : Values} {t u : Term} → Below E V t u → Below F V t u
extends_below x (equal e) = equal (extends_equal x e)
extends_below x (Below.sort {s = s} {s' = s'} p) = Below.sort (extends_entails x s s' p)
extends_below x (product e b) = product (extends_equal x e) (extends_below x b)
extends_below x (Below.chain a b) = Below.chain (extends_below x a) (extends_below x b)

extends_recurses : {E F : Env} → Extends E F → {V : Values} {r : ℕ} {t : Term} → Recurses E V r t → Recurses F V r t
extends_recurses x (recurses_here f xs e) = recurses_here f xs (extends_equal x e)
extends_recurses x (recurses_later r) = recurses_later (extends_recurses x r)

extends_single : {E F : Env} → Extends E F → (f : FamilyId) (D : FamilyDecl) → IsSingle E f D → IsSingle F f D
extends_single x f D ((B, k, q, i, one), h) = ((B, x.blocks B k, q, i, one), h)

extends_may : {E F : Env} → Extends E F → (f : FamilyId) (D : FamilyDecl) (s : Sort) → MayEliminate E f D s → MayEliminate F f D s
extends_may x f D s (inl h) = inl h
extends_may x f D s (inr (inl h)) = inr (inl h)
extends_may x f D s (inr (inr h)) = inr (inr (extends_single x f D h))

mutual
  pub extends_types : {E F : Env} → Extends E F → {c : Context} {t T : Term} → Types bare E c t T → Types bare F c t T
  extends_types x (rel e) = rel e
  extends_types x (sort {s = s} h) = sort (extends_declared x s h)
  extends_types x (prod p q) = prod (extends_types x p) (extends_types x q)
  extends_types x (lambda p q) = lambda (extends_types x p) (extends_types x q)
  extends_types x (let_in p q r) = let_in (extends_types x p) (extends_types x q) (extends_types x r)
  extends_types x (app p q) = app (extends_types x p) (extends_types x q)
  extends_types x (const k) = const (x.constants _ _ _ k)
  extends_types {E} {F} x {c} (ind {f = f} {F = D} k) = let (G, h, e) = x.known f D k in subst (λ T. Types bare F c (Ind f) T) e (ind h)
  extends_types x (construct k e) = construct (extends_family x k) e
  extends_types x (case {f = f} {F = D} {s = u} ps is k e l p es q may s bs) =
      case ps is (extends_family x k) e l (extends_all x p) (extends_entries x es) (extends_types x q) (extends_may x f D u may) (extends_types x s) (extends_branches x bs)
  extends_types x (fix e h p b ask) = fix e h (extends_sorts x p) (extends_bodies x b) ask
  extends_types x (conv p b q) = conv (extends_types x p) (extends_below x b) (extends_types x q)

  pub extends_all : {E F : Env} → Extends E F → {c : Context} {s : ℕ → Term} {ts As : List Term} → TypesAll bare E c s ts As → TypesAll bare F c s ts As
  extends_all x no_terms = no_terms
  extends_all x (term p ps) = term (extends_types x p) (extends_all x ps)

  pub extends_entries : {E F : Env} → Extends E F → {c : Context} {As : List Term} → Entries bare E c As → Entries bare F c As
  extends_entries x no_entries = no_entries
  extends_entries x (entry p ps) = entry (extends_types x p) (extends_entries x ps)

  pub extends_branches : {E F : Env} → Extends E F → {c : Context} {f : FamilyId} {ps : List Term} {ret : Term} {n : ℕ} {Cs : List Constructor} {bs : Terms} →
      Branches bare E c f ps ret n Cs bs → Branches bare F c f ps ret n Cs bs
  extends_branches x no_branches = no_branches
  extends_branches x (branch e es p bs) = branch e (extends_entries x es) (extends_types x p) (extends_branches x bs)

  pub extends_sorts : {E F : Env} → Extends E F → {c : Context} {n : ℕ} {ts : Terms} → Sorts bare E c n ts → Sorts bare F c n ts
  extends_sorts x no_types = no_types
  extends_sorts x (a_type p ps) = a_type (extends_types x p) (extends_sorts x ps)

  pub extends_bodies : {E F : Env} → Extends E F → {c : Context} {n : ℕ} {rs : List ℕ} {ts us : Terms} → Bodies bare E c n rs ts us → Bodies bare F c n rs ts us
  extends_bodies x no_bodies = no_bodies
  extends_bodies x (a_body r p ps) = a_body (extends_recurses x r) (extends_types x p) (extends_bodies x ps)

pub extends_entry_sorts : {E F : Env} → Extends E F → {c : Context} {As : List Term} {ss : List Sort} → EntrySorts bare E c As ss → EntrySorts bare F c As ss
extends_entry_sorts x no_sorts = no_sorts
extends_entry_sorts x (a_sort p ps) = a_sort (extends_types x p) (extends_entry_sorts x ps)

-- one more declaration
pub one_more : (levels : ℕ) (cs : List Constraint) (ds : List Kept) (d : Kept) → Extends (env levels cs ds) (env levels cs (d ∷ ds))
one_more levels cs ds d = record {
  levels = refl;
  constraints = refl;
  constants = λ k T b h. there h;
  blocks = λ B h. there h;
  known = known;
}
  where
    known : (f : FamilyId) (D : FamilyDecl) → KnowsFamily (env levels cs ds) f D → KnowsType (env levels cs (d ∷ ds)) f D
    known f D (B, inl h, q, i) = (D, (B, inl (there h), q, i), refl)
    known f D (B, inr h, q, i) = (D, (B, inr (there h), q, i), refl)
