-- What the guard of a fixpoint is asked for: that the term is a fixpoint; that in it, and in each fixpoint inside it, each body begins with
-- as many lambdas as its recursive argument asks for; and that the recursive arguments of the fixpoint itself are of families.
use Rattle.std.specs.Prelude.{ℕ, zero, suc, List, [], ◌∷◌, length, None}
use Rattle.pc_terms.specs.declared.leaf.FamilyId.{FamilyId}
use Rattle.pc_terms.specs.Syntax.{Slot, Term, Terms, Children, End, Child, Group, Next, Rel, Node, Lambda, Ind, Fix, apply}
use Rattle.pc_terms.specs.Syntax as syntax
use Rattle.calculus_rules.specs.Environment.{Env}
use Rattle.calculus_rules.specs.Context.{Values, under}
use Rattle.calculus_rules.specs.WeakHead.{IsWhnf}
use Rattle.calculus_rules.specs.Guardedness.{IsGuarded}
use Rattle.pc_rules.specs.DirectedRun.{Act, done}
use Rattle.pc_rules.specs.DirectedGuard.{fix_guard}

-- a term begins with n lambdas
abbrev pub BeginsWith : ℕ → Term → Type 0
BeginsWith zero t = Unit {0}
BeginsWith (suc n) (Lambda A b) = BeginsWith n b
BeginsWith (suc n) t = ⊥

-- each body begins with rarg + 1 lambdas
abbrev pub HaveLambdas : List ℕ → Terms → Type 0
HaveLambdas [] syntax.Done = Unit {0}
HaveLambdas (r ∷ rargs) (Next n b bs) = BeginsWith (suc r) b × HaveLambdas rargs bs
HaveLambdas _ _ = ⊥

-- so it is in each fixpoint inside a term
abbrev mutual
  pub HasLambdas : Term → Type 0
  HasLambdas (Rel i) = Unit {0}
  HasLambdas (Fix i rargs types bodies) = HaveLambdas rargs bodies × (AllHaveLambdas types × AllHaveLambdas bodies)
  HasLambdas (Node l ts) = ChildrenHaveLambdas ts

  pub ChildrenHaveLambdas : {ss : List Slot} → Children ss → Type 0
  ChildrenHaveLambdas End = Unit {0}
  ChildrenHaveLambdas (Child t ts) = HasLambdas t × ChildrenHaveLambdas ts
  ChildrenHaveLambdas (Group us ts) = AllHaveLambdas us × ChildrenHaveLambdas ts

  pub AllHaveLambdas : Terms → Type 0
  AllHaveLambdas syntax.Done = Unit {0}
  AllHaveLambdas (Next n t ts) = HasLambdas t × AllHaveLambdas ts

-- the weak-head normal form of the domain of lambda number r is a family applied to arguments
abbrev pub DomainIsFamily : Env → Values → ℕ → Term → Type 0
DomainIsFamily E V zero (Lambda A b) = (f : FamilyId) × ((xs : List Term) × IsWhnf E V A (apply (Ind f) xs))
DomainIsFamily E V (suc r) (Lambda A b) = DomainIsFamily E (None ∷ V) r b
DomainIsFamily E V r t = ⊥

abbrev pub DomainsAreFamilies : Env → Values → List ℕ → Terms → Type 0
DomainsAreFamilies E V [] syntax.Done = Unit {0}
DomainsAreFamilies E V (r ∷ rargs) (Next n b bs) = DomainIsFamily E V r b × DomainsAreFamilies E V rargs bs
DomainsAreFamilies E V _ _ = ⊥

-- a term is a fixpoint whose definitions recurse on arguments of families
abbrev pub RecursesOnFamilies : Env → Values → Term → Type 0
RecursesOnFamilies E V (Fix i rargs types bodies) = DomainsAreFamilies E (under (length rargs) V) rargs bodies
RecursesOnFamilies E V _ = ⊥

-- the guard of a fixpoint, as directed rules and as a relation
abbrev pub guard_rule : Env → Values → Term → Act
guard_rule E V (Fix i rargs types bodies) u = fix_guard E V rargs bodies u
guard_rule E V _ u = done tt u

abbrev pub IsGuardedFix : Env → Values → Term → Type 0
IsGuardedFix E V (Fix i rargs types bodies) = IsGuarded E V rargs bodies
IsGuardedFix E V _ = ⊥
