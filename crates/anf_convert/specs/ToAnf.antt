-- The translation of terms after erasure to A-normal form: each argument, function and scrutinee that is no atom gets a variable, and so does
-- each let. Constructors stand with all their arguments.
use Rattle.std.specs.Prelude.{ℕ, zero, suc, nat_eq, if◌then◌else◌, ◌+◌, ◌-◌, List, [], ◌∷◌, ◌++◌, map, length}
use Rattle.trees.specs.Tree.{Rel, Done, Next}
use Rattle.pc_terms.specs.declared.leaf.Name.{Name}
use Rattle.lambda_box.specs.BoxProgram.{BoxConstant, BoxProgram}
use Rattle.box_terms.specs.BoxSyntax.{BoxTerm, BoxTerms, Box, BLambda, BLetIn, BApp, BConst, BConstruct, BCase, BFix}
use Rattle.anf_convert.specs.Anf.{Atom, AVar, ABox, AEmpty, AnfOp, ConstOp, AppOp, ConOp, LamOp, FixOp, CaseOp, AnfBlock, AnfBranches, NoBranch, Branch, AnfDefs, NoDef, LamDef, BoxDef, AnfProgram}
pub use Rattle.anf_convert.specs.Anf.{AnfBinding, AtomIs, OpIs, tail_of, block_of}
-- an atom whose variable is counted from the outside, so that it stays what it is under more binders
pub use Rattle.anf_convert.specs.declared.level.Level.{Level}
pub use Rattle.anf_convert.specs.declared.level.Level.TheVariants.{Var as LVar, Box as LBoxed, Empty as LEmpty}

-- what a term becomes after its bindings: an atom, a constructor with its atoms so far (the last one first), or an operation
pub data Res : Type 0 where
  RAtom : (a : Level) → Res
  RCon : (c : ℕ) → (args : List Level) → Res
  ROp : (op : AnfOp) → Res

pub record Norm : Type 0 where
  pub ops : List AnfBinding
  pub res : Res

pub record NamedResult : Type 0 where
  pub ops : List AnfBinding
  pub atom : Level

-- the atom under d binders
abbrev pub at_depth : ℕ → Level → Atom
at_depth d (LVar x) = AVar (d - suc x)
at_depth d LBoxed = ABox
at_depth d (LEmpty c) = AEmpty c

abbrev pub binding_of : ℕ → Res → AnfBinding
binding_of d (RAtom a) = AtomIs (at_depth d a)
binding_of d (RCon c []) = AtomIs (AEmpty c)
binding_of d (RCon c (x ∷ xs)) = OpIs (ConOp c (map (at_depth d) (x ∷ xs)))
binding_of d (ROp op) = OpIs op

abbrev pub sealed : ℕ → Norm → AnfBlock
sealed d n = block_of n.ops (tail_of (binding_of (d + length n.ops) n.res))

-- with a variable for the result
abbrev pub with_variable : ℕ → List AnfBinding → Res → NamedResult
with_variable d ops res = record { ops = ops ++ binding_of (d + length ops) res ∷ []; atom = LVar (d + length ops) }

-- with a variable for the result where it is no atom
abbrev pub named : ℕ → List AnfBinding → Res → NamedResult
named d ops (RAtom a) = record { ops = ops; atom = a }
named d ops (RCon c []) = record { ops = ops; atom = LEmpty c }
named d ops (RCon c (x ∷ xs)) = with_variable d ops (RCon c (x ∷ xs))
named d ops (ROp op) = with_variable d ops (ROp op)

abbrev pub nth : List Level → ℕ → Level
nth [] i = LBoxed
nth (a ∷ as') zero = a
nth (a ∷ as') (suc i) = nth as' i

-- n more variables from level d on, the last one innermost
abbrev pub levels : ℕ → ℕ → List Level → List Level
levels d zero env = env
levels d (suc n) env = LVar (d + n) ∷ levels d n env

-- an application, after its function's part: the argument's part stands under more binders
abbrev pub call : ℕ → List AnfBinding → Level → NamedResult → Norm
call d ops f a = record { ops = ops ++ a.ops; res = ROp (AppOp (at_depth (d + length ops + length a.ops) f) (at_depth (d + length ops + length a.ops) a.atom)) }

abbrev pub name_at : (ℕ → Norm) → ℕ → NamedResult
name_at arg d = named d (arg d).ops (arg d).res

abbrev pub then_arg : ℕ → List AnfBinding → Res → (ℕ → Norm) → Norm
then_arg d ops (RCon c xs) arg = record { ops = ops ++ (name_at arg (d + length ops)).ops; res = RCon c ((name_at arg (d + length ops)).atom ∷ xs) }
then_arg d ops (RAtom f) arg = call d ops f (name_at arg (d + length ops))
then_arg d ops (ROp op) arg = call d (ops ++ OpIs op ∷ []) (LVar (d + length ops)) (name_at arg (d + length (ops ++ OpIs op ∷ [])))

abbrev pub then_body : ℕ → NamedResult → (ℕ → Level → Norm) → Norm
then_body d a body = record { ops = a.ops ++ (body (d + length a.ops) a.atom).ops; res = (body (d + length a.ops) a.atom).res }

abbrev pub then_case : ℕ → NamedResult → (ℕ → AnfBranches) → Norm
then_case d a branches = record { ops = a.ops; res = ROp (CaseOp (at_depth (d + length a.ops) a.atom) (branches (d + length a.ops))) }

abbrev pub just : Res → Norm
just res = record { ops = []; res = res }

-- `norm env d t`: the term under d variables, where `env` has the levels of the term's own. A constant has a number
module _ (constant : Name → ℕ) where
  abbrev mutual
    pub norm : List Level → ℕ → BoxTerm → Norm
    norm env d (Rel i) = just (RAtom (nth env i))
    norm env d Box = just (RAtom LBoxed)
    norm env d (BLambda b) = just (ROp (LamOp (sealed (suc d) (norm (LVar d ∷ env) (suc d) b))))
    norm env d (BLetIn a b) = then_body d (with_variable d (norm env d a).ops (norm env d a).res) (λ d' x. norm (x ∷ env) d' b)
    norm env d (BApp f a) = then_arg d (norm env d f).ops (norm env d f).res (λ d'. norm env d' a)
    norm env d (BConst k) = just (ROp (ConstOp (constant k)))
    norm env d (BConstruct f c) = just (RCon c [])
    norm env d (BCase f t bs) = then_case d (named d (norm env d t).ops (norm env d t).res) (λ d'. norm_branches env d' bs)
    norm env d (BFix i rargs bodies) = just (ROp (FixOp (norm_defs env d (length rargs) bodies) i))

    pub norm_branches : List Level → ℕ → BoxTerms → AnfBranches
    norm_branches env d Done = NoBranch
    norm_branches env d (Next n b rest) = Branch n (sealed (d + n) (norm (levels d n env) (d + n) b)) (norm_branches env d rest)

    pub norm_defs : List Level → ℕ → ℕ → BoxTerms → AnfDefs
    norm_defs env d n Done = NoDef
    norm_defs env d n (Next m (BLambda b) rest) = LamDef (sealed (suc (d + n)) (norm (LVar (d + n) ∷ levels d n env) (suc (d + n)) b)) (norm_defs env d n rest)
    norm_defs env d n (Next m b rest) = BoxDef (norm_defs env d n rest)

  -- the block of a closed term
  abbrev pub code_of : BoxTerm → AnfBlock
  code_of t = sealed 0 (norm [] 0 t)

-- the place of a constant
abbrev pub number_in : List BoxConstant → Name → ℕ
number_in [] k = 0
number_in (c ∷ cs) k = if nat_eq k.0 c.name.0 then 0 else suc (number_in cs k)

abbrev pub to_anf : BoxProgram → AnfProgram
to_anf P = record {
  constants = map (λ (c : BoxConstant). code_of (number_in P.constants) c.body) P.constants;
  main = code_of (number_in P.constants) P.main;
}
