-- Reduction (PCUIC, POPL 2020, section 2.2: the reduction rules), in an environment and the values of a context.
use Rattle.std.specs.Prelude.{ℕ, ◌≡◌, List, ◌∷◌, ◌++◌, Some, length, slice_get}
use Rattle.pc_terms.specs.declared.leaf.Name.{Name}
use Rattle.pc_terms.specs.declared.leaf.FamilyId.{FamilyId}
use Rattle.pc_terms.specs.Syntax.{Slot, Under, Lists, slots, Term, Children, Child, Group, Terms, Next, Label, Rel, Node, Lambda, LetIn, App, Const, Construct, Case, Fix, put, put_all, substitute, apply, term_at}
use Rattle.calculus_rules.specs.declared.declaration.Constructor.{Constructor}
use Rattle.calculus_rules.specs.Environment.{FamilyDecl, Env, KeepsConstant, KeepsFamily}
use Rattle.calculus_rules.specs.Context.{Values, value_at, under}
use Rattle.calculus_rules.specs.Instances.{unfolded}

-- t is constructor c of the family, applied to all its parameters and arguments
pub data IsConstructor (E : Env) (f : FamilyId) (c : ℕ) (t : Term) (ps xs : List Term) : Type 0 where
  is_constructor : {F : FamilyDecl} {C : Constructor} → KeepsFamily E f F → slice_get F.constructors c ≡ Some C →
      length ps ≡ length F.parameters → length xs ≡ length C.args → t ≡ apply (Construct f c) (ps ++ xs) →
      IsConstructor E f c t ps xs

-- the six steps, at the root of a term:
-- beta, a lambda with an argument becomes its body with the argument put in;
-- zeta, a let becomes its body with the value put in;
-- a constant with a body becomes the body;
-- a variable with a defined entry becomes the entry's value, lifted;
-- a match on a constructor of its family with all parameters and arguments becomes the branch with the arguments put in, where the
-- branch has as many names as the constructor has arguments;
-- a fixpoint with rarg + 1 arguments, the last of which is a constructor with all parameters and arguments, becomes its body with the
-- fixpoints put in, applied to the same arguments (a fixpoint with more arguments contains one with rarg + 1)
pub data Root (E : Env) (V : Values) : Term → Term → Type 0 where
  beta : {A b a : Term} → Root E V (App (Lambda A b) a) (substitute (put a) b)
  zeta : {b B t : Term} → Root E V (LetIn b B t) (substitute (put b) t)
  constant : {k : Name} {T b : Term} → KeepsConstant E k T (Some b) → Root E V (Const k) b
  variable : {i : ℕ} {v : Term} → value_at V i ≡ Some v → Root E V (Rel i) v
  matched : {f : FamilyId} {ps bs : Terms} {n c m : ℕ} {ret s body : Term} {qs xs : List Term} →
      IsConstructor E f c s qs xs → term_at bs c ≡ Some (m, body) → m ≡ length xs →
      Root E V (Case f ps n ret s bs) (substitute (put_all xs Rel) body)
  fixpoint : (i : ℕ) {rarg c : ℕ} (rargs : List ℕ) (types bodies : Terms) {body g a : Term} {f : FamilyId} (before : List Term) {qs xs : List Term} →
      slice_get rargs i ≡ Some rarg → length before ≡ rarg → IsConstructor E f c a qs xs →
      term_at bodies i ≡ Some (length rargs, body) → g ≡ apply (Fix i rargs types bodies) before →
      Root E V (App g a) (App (apply (unfolded rargs types bodies body) before) a)

-- one step, anywhere in a term; binders of matches, fixpoints, products and lambdas are assumed entries, and a let's body is under its value
mutual
  pub data Step (E : Env) : Values → Term → Term → Type 0 where
    root : {V : Values} {t u : Term} → Root E V t u → Step E V t u
    inside : {V : Values} {l : Label} {ts us : Children (slots l)} → StepIn E V (slots l) ts us → Step E V (Node l ts) (Node l us)
    let_body : {V : Values} {b B t u : Term} → Step E (Some b ∷ V) t u → Step E V (LetIn b B t) (LetIn b B u)

  pub data StepIn (E : Env) : Values → (ss : List Slot) → Children ss → Children ss → Type 0 where
    in_child : {V : Values} {n : ℕ} {ss : List Slot} {t u : Term} {ts : Children ss} → Step E (under n V) t u →
        StepIn E V (Under n ∷ ss) (Child t ts) (Child u ts)
    in_group : {V : Values} {ss : List Slot} {ps qs : Terms} {ts : Children ss} → StepTerms E V ps qs →
        StepIn E V (Lists ∷ ss) (Group ps ts) (Group qs ts)
    past_child : {V : Values} {n : ℕ} {ss : List Slot} {t : Term} {ts us : Children ss} → StepIn E V ss ts us →
        StepIn E V (Under n ∷ ss) (Child t ts) (Child t us)
    past_group : {V : Values} {ss : List Slot} {ps : Terms} {ts us : Children ss} → StepIn E V ss ts us →
        StepIn E V (Lists ∷ ss) (Group ps ts) (Group ps us)

  pub data StepTerms (E : Env) : Values → Terms → Terms → Type 0 where
    in_first : {V : Values} {n : ℕ} {t u : Term} {ts : Terms} → Step E (under n V) t u → StepTerms E V (Next n t ts) (Next n u ts)
    in_rest : {V : Values} {n : ℕ} {t : Term} {ts us : Terms} → StepTerms E V ts us → StepTerms E V (Next n t ts) (Next n t us)
