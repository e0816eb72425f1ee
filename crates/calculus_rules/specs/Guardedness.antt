-- The guard of fixpoints. It is this project's own profile, in the place of PCUIC's guard (POPL 2020, section 2: an oracle).
-- It is a walk over each definition's body, as written, which marks variables. Where the directed guard looks at a weak-head normal form,
-- any term that is equal by conversion may stand here. Throughout, r is the recursive block: that of the family on which the definition
-- recurses, or none.
use Rattle.std.specs.Prelude.{ℕ, zero, suc, ◌-◌, ◌≡◌, ◌==◌, ◌&&◌, ◌||◌, Bool, false, nat_lt, nat_le, List, [], ◌∷◌, Option, Some, None, length, take, slice_get, if◌then◌else◌}
use Rattle.pc_terms.specs.declared.leaf.Name.{Name}
use Rattle.pc_terms.specs.declared.leaf.FamilyId.{FamilyId}
use Rattle.pc_terms.specs.Syntax.{Slot, Under, Lists, slots, Term, Children, End, Child, Group, Terms, Done, Next, Label, LetInOf, Rel, Node, Prod, Lambda, LetIn, App, Ind, Case, Fix, apply, head, args, list_of}
use Rattle.calculus_rules.specs.declared.declaration.Constructor.{Constructor}
use Rattle.calculus_rules.specs.declared.declaration.Block.{Block}
use Rattle.calculus_rules.specs.declared.target.Target.TheVariants.{Families}
use Rattle.calculus_rules.specs.Environment.{FamilyDecl, Env, KeepsFamily}
use Rattle.calculus_rules.specs.Context.{Values, under}
use Rattle.calculus_rules.specs.Conversion.{Equal}
use Rattle.calculus_rules.specs.Same.{same_names}
use Rattle.calculus_rules.specs.Naming.{names_block, some_names}
use Rattle.calculus_rules.specs.Lookups.{kept_at, whole_block}

-- what is known of a variable: it is the fixpoint's variable for a definition, with the place of that definition's recursive argument;
-- it is equal to the recursive argument of the body that is walked; it is smaller; or none of these
pub data Mark : Type 0 where
  Recursive : ℕ → Mark
  Argument Smaller Other : Mark

-- the marks of the innermost variables, variable 0 first; those past the end are Other
abbrev pub Marks : Type 0
Marks = List Mark

-- n more variables of which nothing is known
abbrev pub others : ℕ → Marks → Marks
others zero M = M
others (suc n) M = Other ∷ others n M

abbrev pub IsCalled : Option Mark → Type 0
IsCalled (Some (Recursive rarg)) = Unit {0}
IsCalled _ = ⊥

-- a term is a family of the block applied to arguments
abbrev pub heads_block : Name → Term → Bool
heads_block k (App f a) = heads_block k f
heads_block k (Ind f) = f.block.0 == k.0
heads_block k _ = false

-- the number of parameters of a whole block
abbrev pub parameter_count : Option Block → ℕ
parameter_count None = 0
parameter_count (Some B) = length B.params

-- a family of an earlier block one of whose parameters names a family of block r
abbrev pub nests_block : Env → Name → Term → List Term → Bool
nests_block E r (Ind f) xs = some_names (Families r) 0 (take (parameter_count (whole_block (kept_at E.declarations f.block))) xs)
nests_block E r _ xs = false

-- a variable, under n variables more than the parameters ps, is one of these, and it names a family of block r
abbrev pub named_there : Name → Option Term → Bool
named_there r None = false
named_there r (Some t) = names_block r t

abbrev pub stands_for_block : Name → List Term → ℕ → Term → Bool
stands_for_block r ps n (Rel i) = (nat_le n i && nat_lt (i - n) (length ps)) && named_there r (slice_get ps (length ps - suc (i - n)))
stands_for_block r ps n _ = false

-- a match of a family of block k with parameters ps: a type under n variables more than the block's parameters is (a) a family of the
-- match's block; or (b) the match's block is the recursive block, and the type is a family of an earlier block one of whose parameters
-- names a family of the recursive block; or (c) the match's block is not the recursive block, and the type is a parameter variable of the
-- match's block for which the match has a parameter that names a family of the recursive block
abbrev pub shrinks : Env → Option Name → Name → List Term → ℕ → Term → Bool
shrinks E None k ps n T = heads_block k T
shrinks E (Some r) k ps n T =
    heads_block k T || (if same_names k r then nests_block E r (head T) (args T) else stands_for_block r ps n T)

-- a type is products that end in one of these
abbrev pub ends_smaller : Env → Option Name → Name → List Term → ℕ → Term → Bool
ends_smaller E r k ps n (Prod A B) = ends_smaller E r k ps (suc n) B
ends_smaller E r k ps n T = shrinks E r k ps n T

-- which types of a constructor's arguments, as they are declared behind n arguments, make the variables of a branch smaller
abbrev pub Ending : Type 0
Ending = ℕ → Term → Bool

-- in a match of a family with parameters; r is the recursive block
abbrev pub ending : Env → Option Name → FamilyId → Terms → Ending
ending E r f ps = ends_smaller E r f.block (list_of ps)

-- the marks of a branch's variables, for the types of the constructor's arguments from number n on
abbrev pub branch_marks : Ending → ℕ → List Term → Marks → Marks
branch_marks q n [] M = M
branch_marks q n (A ∷ As) M = branch_marks q (suc n) As ((if q n A then Smaller else Other) ∷ M)

-- smaller terms, and the recursive argument itself
mutual
  -- equal to a term whose head is a smaller variable; or to one whose head is a match with a smaller scrutinee, or with the argument
  -- itself as scrutinee, whose branch bodies are all smaller
  pub data IsSmaller (E : Env) (r : Option Name) : Values → Marks → Term → Type 0 where
    at_variable : {V : Values} {M : Marks} {t : Term} (i : ℕ) (xs : List Term) → Equal E V t (apply (Rel i) xs) → slice_get M i ≡ Some Smaller →
        IsSmaller E r V M t
    at_match : {V : Values} {M : Marks} {t : Term} {F : FamilyDecl} (f : FamilyId) (ps : Terms) (n : ℕ) (ret s : Term) (bs : Terms) (xs : List Term) →
        Equal E V t (apply (Case f ps n ret s bs) xs) → KeepsFamily E f F → Opens E r V M s → AreSmaller E r V M (ending E r f ps) F.constructors bs →
        IsSmaller E r V M t

  -- smaller, or equal to the argument
  pub data Opens (E : Env) (r : Option Name) : Values → Marks → Term → Type 0 where
    smaller : {V : Values} {M : Marks} {t : Term} → IsSmaller E r V M t → Opens E r V M t
    argument : {V : Values} {M : Marks} {t : Term} (i : ℕ) → Equal E V t (Rel i) → slice_get M i ≡ Some Argument → Opens E r V M t

  -- each branch body, under the constructor's arguments
  pub data AreSmaller (E : Env) (r : Option Name) : Values → Marks → Ending → List Constructor → Terms → Type 0 where
    no_branch : {V : Values} {M : Marks} {q : Ending} → AreSmaller E r V M q [] Done
    a_branch : {V : Values} {M : Marks} {q : Ending} {n : ℕ} {C : Constructor} {Cs : List Constructor} {body : Term} {bs : Terms} →
        n ≡ length C.args → IsSmaller E r (under n V) (branch_marks q 0 C.args M) body → AreSmaller E r V M q Cs bs →
        AreSmaller E r V M q (C ∷ Cs) (Next n body bs)

-- every label but a let's, whose body is walked under its value
abbrev pub IsPlain : Label → Type 0
IsPlain LetInOf = ⊥
IsPlain _ = Unit {0}

-- the walk: each variable of the fixpoint is the head of at least rarg + 1 arguments, of which number rarg is smaller; in a match whose
-- scrutinee is smaller, or the argument itself, the variables of branches are marked; where a fixpoint of one definition has at least its
-- rarg + 1 arguments and number rarg is smaller, so is the variable of its lambda number rarg in its body; every subterm is walked
mutual
  pub data IsGuardedIn (E : Env) (r : Option Name) : Values → Marks → Term → Type 0 where
    variable : {V : Values} {M : Marks} {i : ℕ} → (IsCalled (slice_get M i) → ⊥) → IsGuardedIn E r V M (Rel i)
    call : {V : Values} {M : Marks} {t a : Term} (i rarg : ℕ) (xs : List Term) → t ≡ apply (Rel i) xs → slice_get M i ≡ Some (Recursive rarg) →
        slice_get xs rarg ≡ Some a → IsSmaller E r V M a → AreGuarded E r V M xs → IsGuardedIn E r V M t
    inside : {V : Values} {M : Marks} {l : Label} {ts : Children (slots l)} → IsPlain l → AreGuardedChildren E r V M (slots l) ts →
        IsGuardedIn E r V M (Node l ts)
    let_in : {V : Values} {M : Marks} {b B t : Term} → IsGuardedIn E r V M b → IsGuardedIn E r V M B → IsGuardedIn E r (Some b ∷ V) (Other ∷ M) t →
        IsGuardedIn E r V M (LetIn b B t)
    opened : {V : Values} {M : Marks} {f : FamilyId} {F : FamilyDecl} {n : ℕ} {ret s : Term} {ps bs : Terms} →
        KeepsFamily E f F → Opens E r V M s → AreGuardedTerms E r V M ps → IsGuardedIn E r (under n V) (others n M) ret → IsGuardedIn E r V M s →
        AreGuardedBranches E r V M (ending E r f ps) F.constructors bs → IsGuardedIn E r V M (Case f ps n ret s bs)
    passed : {V : Values} {M : Marks} {t a b : Term} {types : Terms} (i rarg n : ℕ) (xs : List Term) → t ≡ apply (Fix i (rarg ∷ []) types (Next n b Done)) xs →
        slice_get xs rarg ≡ Some a → IsSmaller E r V M a → AreGuardedTerms E r V M types → IsGuardedUnder E r (under n V) (others n M) Smaller rarg b →
        AreGuarded E r V M xs → IsGuardedIn E r V M t

  pub data AreGuarded (E : Env) (r : Option Name) : Values → Marks → List Term → Type 0 where
    no_argument : {V : Values} {M : Marks} → AreGuarded E r V M []
    an_argument : {V : Values} {M : Marks} {x : Term} {xs : List Term} → IsGuardedIn E r V M x → AreGuarded E r V M xs → AreGuarded E r V M (x ∷ xs)

  pub data AreGuardedChildren (E : Env) (r : Option Name) : Values → Marks → (ss : List Slot) → Children ss → Type 0 where
    no_child : {V : Values} {M : Marks} → AreGuardedChildren E r V M [] End
    a_child : {V : Values} {M : Marks} {n : ℕ} {ss : List Slot} {t : Term} {ts : Children ss} → IsGuardedIn E r (under n V) (others n M) t →
        AreGuardedChildren E r V M ss ts → AreGuardedChildren E r V M (Under n ∷ ss) (Child t ts)
    a_group : {V : Values} {M : Marks} {ss : List Slot} {us : Terms} {ts : Children ss} → AreGuardedTerms E r V M us →
        AreGuardedChildren E r V M ss ts → AreGuardedChildren E r V M (Lists ∷ ss) (Group us ts)

  pub data AreGuardedTerms (E : Env) (r : Option Name) : Values → Marks → Terms → Type 0 where
    no_term : {V : Values} {M : Marks} → AreGuardedTerms E r V M Done
    a_term : {V : Values} {M : Marks} {n : ℕ} {t : Term} {ts : Terms} → IsGuardedIn E r (under n V) (others n M) t → AreGuardedTerms E r V M ts →
        AreGuardedTerms E r V M (Next n t ts)

  pub data AreGuardedBranches (E : Env) (r : Option Name) : Values → Marks → Ending → List Constructor → Terms → Type 0 where
    no_guarded_branch : {V : Values} {M : Marks} {q : Ending} → AreGuardedBranches E r V M q [] Done
    a_guarded_branch : {V : Values} {M : Marks} {q : Ending} {n : ℕ} {C : Constructor} {Cs : List Constructor} {body : Term} {bs : Terms} →
        n ≡ length C.args → IsGuardedIn E r (under n V) (branch_marks q 0 C.args M) body → AreGuardedBranches E r V M q Cs bs →
        AreGuardedBranches E r V M q (C ∷ Cs) (Next n body bs)

  -- a body that begins with rarg + 1 lambdas: their domains are walked, and what is under them where the last of their variables has a mark
  pub data IsGuardedUnder (E : Env) (r : Option Name) : Values → Marks → Mark → ℕ → Term → Type 0 where
    last : {V : Values} {M : Marks} {m : Mark} {A b : Term} → IsGuardedIn E r V M A → IsGuardedIn E r (None ∷ V) (m ∷ M) b →
        IsGuardedUnder E r V M m zero (Lambda A b)
    more : {V : Values} {M : Marks} {m : Mark} {rarg : ℕ} {A b : Term} → IsGuardedIn E r V M A → IsGuardedUnder E r (None ∷ V) (Other ∷ M) m rarg b →
        IsGuardedUnder E r V M m (suc rarg) (Lambda A b)

-- the block of the family at the head of a term, if there is one
abbrev pub head_block : Term → Option Name
head_block (Ind f) = Some f.block
head_block _ = None

-- the recursive block of a body: that of the family at the head of a term to which the domain of lambda number rarg is equal; none where
-- that head is no family. With none, a variable of a branch is smaller only where its type ends in the match's block
pub data RecursesIn (E : Env) : Values → ℕ → Term → Option Name → Type 0 where
  block_here : {V : Values} {A W b : Term} → Equal E V A W → RecursesIn E V zero (Lambda A b) (head_block (head W))
  block_later : {V : Values} {rarg : ℕ} {A b : Term} {r : Option Name} → RecursesIn E (None ∷ V) rarg b r → RecursesIn E V (suc rarg) (Lambda A b) r

-- a definition's body: under its lambdas the last of their variables is the argument
pub data IsGuardedBody (E : Env) (V : Values) (M : Marks) (rarg : ℕ) (t : Term) : Type 0 where
  recursing : (r : Option Name) → RecursesIn E V rarg t r → IsGuardedUnder E r V M Argument rarg t → IsGuardedBody E V M rarg t

-- the marks of the definitions, the last one innermost
abbrev pub definition_marks : List ℕ → Marks → Marks
definition_marks [] M = M
definition_marks (rarg ∷ rargs) M = definition_marks rargs (Recursive rarg ∷ M)

pub data AreGuardedBodies (E : Env) (V : Values) (M : Marks) : List ℕ → Terms → Type 0 where
  no_bodies : AreGuardedBodies E V M [] Done
  a_body : {n rarg : ℕ} {rargs : List ℕ} {body : Term} {bodies : Terms} → IsGuardedBody E V M rarg body → AreGuardedBodies E V M rargs bodies →
      AreGuardedBodies E V M (rarg ∷ rargs) (Next n body bodies)

-- a fixpoint is guarded: each of its definitions' bodies is, under all definitions
abbrev pub IsGuarded : Env → Values → List ℕ → Terms → Type 0
IsGuarded E V rargs bodies = AreGuardedBodies E (under (length rargs) V) (definition_marks rargs []) rargs bodies
