-- Types and entries that the rules form from declarations (PCUIC, POPL 2020, section 2: types of inductive families and constructors,
-- predicates and branches of matches, unfolding of fixpoints).
use Rattle.std.specs.Prelude.{ℕ, zero, suc, ◌+◌, List, [], ◌∷◌, ◌++◌, map, length}
use Rattle.pc_terms.specs.declared.leaf.FamilyId.{FamilyId}
use Rattle.pc_terms.specs.Syntax.{Term, Terms, Done, Next, Rel, SortT, Prod, Ind, Construct, Fix, over, overs, put_all, substitute, shift, apply, variables}
use Rattle.calculus_rules.specs.declared.declaration.Constructor.{Constructor}
use Rattle.calculus_rules.specs.declared.entry.Entry.TheVariants.{Assumed}
use Rattle.calculus_rules.specs.Environment.{FamilyDecl}
use Rattle.calculus_rules.specs.Context.{Context}

-- a telescope with terms put in for the variables outside it
abbrev pub entries_at : (ℕ → Term) → List Term → List Term
entries_at s [] = []
entries_at s (A ∷ As) = substitute s A ∷ entries_at (over s) As

-- products over a telescope
abbrev pub products : List Term → Term → Term
products [] T = T
products (A ∷ As) T = Prod A (products As T)

-- the type of a family: the product over parameters and indices that ends in its sort
abbrev pub family_type : FamilyDecl → Term
family_type F = products F.parameters (products F.indices (SortT F.sort))

-- the type of a constructor: the product over parameters and arguments that ends in the family at the parameters and the result
abbrev pub constructor_type : FamilyId → FamilyDecl → Constructor → Term
constructor_type f F C =
    products F.parameters (products C.args
    (apply (Ind f) (map (shift (length C.args) 0) (variables (length F.parameters)) ++ C.result)))

-- the entries of a match's predicate: the indices at the parameters, and the scrutinee, which has the family at the parameters and
-- these indices
abbrev pub predicate_entries : FamilyId → FamilyDecl → List Term → List Term
predicate_entries f F ps =
    entries_at (put_all ps Rel) F.indices
    ++ (apply (Ind f) (map (shift (length F.indices) 0) ps ++ variables (length F.indices)) ∷ [])

-- the entries of a branch: the constructor's arguments at the parameters
abbrev pub branch_entries : Constructor → List Term → List Term
branch_entries C ps = entries_at (put_all ps Rel) C.args

-- the predicate at indices and a scrutinee
abbrev pub predicate_at : Term → List Term → Term → Term
predicate_at ret is t = substitute (put_all (is ++ (t ∷ [])) Rel) ret

-- the indices of what constructor C builds at the parameters, under its arguments
abbrev pub result_at : Constructor → List Term → List Term
result_at C ps = map (substitute (overs (length C.args) (put_all ps Rel))) C.result

-- constructor c at the parameters and the arguments of its branch
abbrev pub built_at : FamilyId → ℕ → Constructor → List Term → Term
built_at f c C ps = apply (Construct f c) (map (shift (length C.args) 0) ps ++ variables (length C.args))

-- the type of the branch of constructor c, in the context of its entries: the predicate at the constructor's result and the constructor
abbrev pub branch_type : FamilyId → ℕ → Constructor → List Term → Term → Term
branch_type f c C ps ret =
    substitute (put_all (result_at C ps ++ (built_at f c C ps ∷ [])) (λ i. Rel (length C.args + i))) ret

-- the context of the definitions of a fixpoint: their types, each lifted over the n definitions before it
abbrev pub definitions : Context → ℕ → Terms → Context
definitions c n Done = c
definitions c n (Next b T ts) = definitions (Assumed (shift n 0 T) ∷ c) (suc n) ts

-- n fixpoints of the same definitions, from number i on
abbrev pub fixpoints : ℕ → ℕ → List ℕ → Terms → Terms → List Term
fixpoints i zero rargs types bodies = []
fixpoints i (suc n) rargs types bodies = Fix i rargs types bodies ∷ fixpoints (suc i) n rargs types bodies

-- a body with the fixpoints put in for the definitions
abbrev pub unfolded : List ℕ → Terms → Terms → Term → Term
unfolded rargs types bodies body = substitute (put_all (fixpoints 0 (length rargs) rargs types bodies) Rel) body
