-- What is in a list is not deeper than the list.
use Rattle.std.proofs.Common.{◌≡◌, ℕ, zero, suc, ◌≤◌, ◌<◌, List, [], ◌∷◌, length, get_or, subst, sym, arith}
use Rattle.trees.specs.Tree.{terms_of}
use Rattle.trees.specs.Measures.{depth, depth_trees}
use Rattle.pc_terms.specs.Syntax.{Term}
use Rattle.pc_terms.specs.Lists.{arms_of, types_of, bodies_of, depth_defs}
use Rattle.pc_terms.specs.declared.term.Branch.{Branch}
use Rattle.pc_terms.specs.declared.term.Def.{Def}

pub term_within : (ts : List Term) (i : ℕ) (o : Term) → i < length ts → depth (get_or ts i o) ≤ depth_trees (terms_of ts)
term_within [] i o l = absurd (omega arith)
term_within (t ∷ ts) zero o l = omega arith
term_within (t ∷ ts) (suc i) o l = omega (arith, term_within ts i o (omega arith))

pub term_in : (ts : List Term) (i : ℕ) (t : Term) → i < length ts → t ≡ get_or ts i t → depth t ≤ depth_trees (terms_of ts)
term_in ts i t l is = subst (λ u. depth u ≤ depth_trees (terms_of ts)) (sym is) (term_within ts i t l)

pub body_within : (bs : List Branch) (i : ℕ) (o : Branch) → i < length bs → depth (get_or bs i o).body ≤ depth_trees (arms_of bs)
body_within [] i o l = absurd (omega arith)
body_within (b ∷ bs) zero o l = omega arith
body_within (b ∷ bs) (suc i) o l = omega (arith, body_within bs i o (omega arith))

pub body_in : (bs : List Branch) (i : ℕ) (b : Branch) → i < length bs → b ≡ get_or bs i b → depth b.body ≤ depth_trees (arms_of bs)
body_in bs i b l is = subst (λ (c : Branch). depth c.body ≤ depth_trees (arms_of bs)) (sym is) (body_within bs i b l)

type_within : (m : ℕ) (ds : List Def) (i : ℕ) (o : Def) → i < length ds → depth (get_or ds i o).ty ≤ depth_trees (types_of ds)
type_within m [] i o l = absurd (omega arith)
type_within m (d ∷ ds) zero o l = omega arith
type_within m (d ∷ ds) (suc i) o l = omega (arith, type_within m ds i o (omega arith))

definition_within : (m : ℕ) (ds : List Def) (i : ℕ) (o : Def) → i < length ds → depth (get_or ds i o).body ≤ depth_trees (bodies_of m ds)
definition_within m [] i o l = absurd (omega arith)
definition_within m (d ∷ ds) zero o l = omega arith
definition_within m (d ∷ ds) (suc i) o l = omega (arith, definition_within m ds i o (omega arith))

pub type_in : (ds : List Def) (i : ℕ) (d : Def) → i < length ds → d ≡ get_or ds i d → depth d.ty ≤ depth_defs ds
type_in ds i d l is = subst (λ (e : Def). depth e.ty ≤ depth_defs ds) (sym is) (omega (arith, type_within 0 ds i d l))

pub definition_in : (ds : List Def) (i : ℕ) (d : Def) → i < length ds → d ≡ get_or ds i d → depth d.body ≤ depth_defs ds
definition_in ds i d l is = subst (λ (e : Def). depth e.body ≤ depth_defs ds) (sym is) (omega (arith, definition_within (length ds) ds i d l))
