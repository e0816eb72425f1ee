-- Lawful evaluation: what the simulation by erased programs goes by at the nodes of one evaluation. It is no premise: that each evaluation of a
-- typed closed term is lawful in an accepted environment is proved of bare types, with subject reduction and canonicity, in `type_laws`
-- (`evaluations_are_lawful`). All typing is meant of bare types in the empty context.
use Rattle.std.specs.Prelude.{ℕ, ◌≡◌, ◌≢◌, List, [], Some, slice_get}
use Rattle.universe_levels.specs.declared.sort.Sort.TheVariants.{Prop}
use Rattle.pc_terms.specs.declared.leaf.FamilyId.{FamilyId}
use Rattle.pc_terms.specs.Syntax.{Term, Terms, Rel, Lambda, put, put_all, substitute, terms_of}
use Rattle.calculus_rules.specs.declared.declaration.Constructor.{Constructor}
use Rattle.calculus_rules.specs.Environment.{FamilyDecl, Env, KeepsFamily}
use Rattle.calculus_rules.specs.Typing.{bare, Types, TypesAll}
use Rattle.calculus_rules.specs.Evaluation.{Evaluates, value, constant, let_in, beta, extend, unfold_fix, enter, IsBuilt}
use Rattle.calculus_rules.specs.Erasable.{Erasable}
use Rattle.calculus_rules.specs.FirstOrder.{Shape, IsFirstOrder, Data, Reads, NothingErasable}

-- every bare type of t is one of u
abbrev pub KeepsTypes : Env → Term → Term → Type 0
KeepsTypes E t u = (T : Term) → Types bare E [] t T → Types bare E [] u T

-- at each node, with term t and value v: types are kept, and where the term is erasable its value is
pub record Kept (E : Env) (t v : Term) : Type 0 where
  pub types : KeepsTypes E t v
  pub erasable : Erasable E [] t → Erasable E [] v

-- at a node with a contractum u: the contractum keeps the term's types too
pub record Contracts (E : Env) (t u v : Term) : Type 0 where
  pub contractum : KeepsTypes E t u
  pub kept : Kept E t v

-- at an application whose function has the value g: where that is erasable, the application's value is
abbrev pub PassesOn : Env → Term → Term → Type 0
PassesOn E g v = Erasable E [] g → Erasable E [] v

-- the arguments of constructor c have the types of the branch's entries at the match's parameters, in order
abbrev pub ArgumentsFit : Env → FamilyId → ℕ → Terms → List Term → Type 0
ArgumentsFit E f c parameters xs = (F : FamilyDecl) (C : Constructor) (ps : List Term) → KeepsFamily E f F → slice_get F.constructors c ≡ Some C →
    parameters ≡ terms_of ps → TypesAll bare E [] (put_all ps Rel) xs C.args

-- the value of a scrutinee of a family that isn't in Prop isn't erasable
abbrev pub StaysBuilt : Env → FamilyId → Term → Type 0
StaysBuilt E f v = (F : FamilyDecl) → KeepsFamily E f F → F.sort ≢ Prop → ¬ Erasable E [] v

-- the nodes, by recursion on the evaluation: besides what holds at each node, a lambda's argument has the lambda's domain as its type, the
-- recursive argument of an unfolded fixpoint is a constructor with all its parameters and arguments, the arguments put in for a branch's
-- names fit, and the scrutinee's value stays built
abbrev pub IsLawful : {E : Env} {t v : Term} {n : ℕ} → Evaluates E t v n → Type 0
IsLawful (value i) = Unit {0}
IsLawful {E} {t} {v} (constant {b = b} c e) = Contracts E t b v × IsLawful e
IsLawful {E} {t} {v} (let_in {t = body} {v = u} e e') = Contracts E t (substitute (put u) body) v × IsLawful e × IsLawful e'
IsLawful {E} {t} {v} (beta {A = A} {b = b} {v = u} e e' e'') =
    Contracts E t (substitute (put u) b) v × PassesOn E (Lambda A b) v × Types bare E [] u A × IsLawful e × IsLawful e' × IsLawful e''
IsLawful {E} {t} {v} (extend {g = g} e e' m) = Kept E t v × PassesOn E g v × IsLawful e × IsLawful e'
IsLawful {E} {t} {v} (unfold_fix {g = g} {v = a} {u = u} e e' h e'') =
    Contracts E t u v × PassesOn E g v × IsBuilt E a × IsLawful e × IsLawful e' × IsLawful e''
IsLawful {E} {t} {v} (enter {f = f} {ps = ps} {c = c} {v = s} {body = body} {xs = xs} e h b e') =
    Contracts E t (substitute (put_all xs Rel) body) v × ArgumentsFit E f c ps xs × StaysBuilt E f s × IsLawful e × IsLawful e'

-- the whole evaluation of main, whose value is data along a set of types, and no constructor term of which is erasable
pub record IsLawfulMain (E : Env) (S : List Shape) {t v : Term} {n : ℕ} (e : Evaluates E t v n) : Type 0 where
  pub nodes : IsLawful e
  pub answer : Data
  pub reading : Reads E S 0 v answer
  pub solid : NothingErasable reading

-- the evaluation of main of type T is lawful: its value is data of that type, along some first-order set of the type. That T is main's type
-- comes from the caller's derivation, and isn't asked here
pub record IsLawfulEvaluation (E : Env) (T : Term) {t v : Term} {n : ℕ} (e : Evaluates E t v n) : Type 0 where
  pub shapes : List Shape
  pub first_order : IsFirstOrder E T shapes
  pub main : IsLawfulMain E shapes e
