-- The steps of the walk over a term: what is written one after another, and what an argument, branches and definitions become.
use Rattle.std.proofs.Common.{◌≡◌, ℕ, suc, ◌+◌, List, [], ◌∷◌, ◌++◌, length, map, refl, sym, ap, ◌∙◌, arith, append-nil, length-append}
use Rattle.std.proofs.lemmas.List.{append_assoc}
use Rattle.trees.specs.Tree.{Rel, Next}
use Rattle.box_terms.specs.BoxSyntax.{BoxTerm, BoxTerms, Box, BLambda, BLetIn, BApp, BConst, BConstruct, BCase, BFix}
use Rattle.box_terms.specs.BoxLists.{arms_of, bodies_of, rargs_of}
use Rattle.box_terms.specs.declared.term.BoxBranch.{BoxBranch}
use Rattle.box_terms.specs.declared.term.BoxDef.{BoxDef}
use Rattle.box_terms.proofs.Parts.{rargs_length}
use Rattle.anf_convert.specs.Anf.{FixOp, Branch, AnfDefs, LamDef, BoxDef as boxed}
use Rattle.anf_convert.specs.AnfView.{branches_of, defs_of}
use Rattle.anf_convert.specs.declared.program.AnfDef.{AnfDef}
use Rattle.anf_convert.specs.ToAnf.{Level, LVar, LEmpty, AnfBinding, Res, RAtom, RCon, ROp, Norm, sealed, named, levels, name_at, norm, norm_branches, norm_defs}
use Rattle.anf_convert.specs.Writing.{number_of, written, named_at, branch_code, term_def, def_code}
use Rattle.anf_convert.specs.declared.builder.Builder.{Builder}
use Rattle.anf_convert.proofs.LevelLists.{drop_levels}

abbrev N : List Level → ℕ → BoxTerm → Norm
N env d t = norm number_of env d t

-- what is written, one after another
pub written_none : (b : Builder) → b ≡ written b []
written_none b = (λ i. record { ops = sym (append-nil b.ops) i; depth = nothing i })
  where
    nothing : b.depth ≡ b.depth + 0
    nothing = omega arith

pub written_twice : (b : Builder) (ps qs : List AnfBinding) → written (written b ps) qs ≡ written b (ps ++ qs)
written_twice b ps qs =
    let deep : b.depth + length ps + length qs ≡ b.depth + length (ps ++ qs) = omega (arith, length-append ps qs) in
    λ i. record { ops = append_assoc b.ops ps qs i; depth = deep i }

pub named_split : (d : ℕ) (ops : List AnfBinding) (r : Res) → named d ops r ≡ record { ops = ops ++ (named_at (d + length ops) r).ops; atom = (named_at (d + length ops) r).atom }
named_split d ops (RAtom a) = ap (λ ps. record { ops = ps; atom = a }) (sym (append-nil ops))
named_split d ops (RCon c []) = ap (λ ps. record { ops = ps; atom = LEmpty c }) (sym (append-nil ops))
named_split d ops (RCon c (x ∷ xs)) = refl
named_split d ops (ROp op) = refl

module _ (env : List Level) (b b1 b2 : Builder) where
  -- an argument: a term, and then its name
  module _ (t : BoxTerm) (r : Res) (w : b1 ≡ written b (N env b.depth t).ops) (e : r ≡ (N env b.depth t).res) where
    pub argument_written : b2 ≡ written b1 (named_at b1.depth r).ops → b2 ≡ written b (name_at (λ d. N env d t) b.depth).ops
    argument_written h = rw (h, w, e, named_split b.depth (N env b.depth t).ops (N env b.depth t).res) (written_twice b (N env b.depth t).ops _)

-- the definitions of a fixpoint
pub fix_res : (env : List Level) (d i : ℕ) (ds : List BoxDef) (xs : AnfDefs) → xs ≡ norm_defs number_of env d (length ds) (bodies_of (length ds) ds) → ROp (FixOp xs i) ≡ (N env d (BFix i (rargs_of ds) (bodies_of (length ds) ds))).res
fix_res env d i ds xs e = ap (λ xs. ROp (FixOp xs i)) (e ∙ ap (λ n. norm_defs number_of env d n (bodies_of (length ds) ds)) (sym (rargs_length ds)))

pub branches_are : (env : List Level) (d : ℕ) (bs : List BoxBranch) → branches_of (map (branch_code env d) bs) ≡ norm_branches number_of env d (arms_of bs)
branches_are env d [] = refl
branches_are env d (b ∷ bs) = ap (Branch b.binders (branch_code env d b).body) (branches_are env d bs)

-- a definition under the variables of its fixpoint
def_is : (env : List Level) (d n m : ℕ) (t : BoxTerm) (rest : List AnfDef) (others : BoxTerms) → defs_of rest ≡ norm_defs number_of env d n others → defs_of (term_def (levels d n env) (d + n) t ∷ rest) ≡ norm_defs number_of env d n (Next m t others)
def_is env d n m (BLambda b) rest others e =
    let here : d + n + 0 ≡ d + n = omega arith in
    let next : d + n + 1 ≡ suc (d + n) = omega arith in
    let env' = levels d n env in
    ap (λ c. LamDef c (defs_of rest)) (ap (λ k. sealed k (N (levels (d + n) 1 env') k b)) next ∙ ap (λ k. sealed (suc (d + n)) (N (LVar k ∷ env') (suc (d + n)) b)) here)
    ∙ ap (LamDef (sealed (suc (d + n)) (N (LVar (d + n) ∷ env') (suc (d + n)) b))) e
def_is env d n m (Rel i) rest others e = ap boxed e
def_is env d n m Box rest others e = ap boxed e
def_is env d n m (BLetIn v t) rest others e = ap boxed e
def_is env d n m (BApp f a) rest others e = ap boxed e
def_is env d n m (BConst k) rest others e = ap boxed e
def_is env d n m (BConstruct f c) rest others e = ap boxed e
def_is env d n m (BCase f t bs) rest others e = ap boxed e
def_is env d n m (BFix i rargs bodies) rest others e = ap boxed e

pub definitions_are : (env : List Level) (d n m : ℕ) (ds : List BoxDef) → defs_of (map (def_code (levels d n env) (d + n)) ds) ≡ norm_defs number_of env d n (bodies_of m ds)
definitions_are env d n m [] = refl
definitions_are env d n m (x ∷ ds) = def_is env d n m x.body (map (def_code (levels d n env) (d + n)) ds) (bodies_of m ds) (definitions_are env d n m ds)

pub ruleset step_laws = (written_none, branches_are, definitions_are, drop_levels)
