-- A formed term is the tree of a node.
use Rattle.std.proofs.Common.{◌≡◌, ℕ, List, [], ◌∷◌, length, refl, sym, ap, subst as along, arith}
use Rattle.trees.specs.Tree.{Done, Next, terms_of}
use Rattle.pc_terms.specs.Syntax as s
use Rattle.pc_terms.specs.Formed.{IsFormed, binders_of, AreAll}
use Rattle.pc_terms.specs.Lists.{arms_of, types_of, bodies_of, rargs_of}
use Rattle.pc_terms.specs.View.{tree_of}
use Rattle.pc_terms.specs.declared.term.Branch.{Branch}
use Rattle.pc_terms.specs.declared.term.Def.{Def}
use Rattle.pc_terms.specs.declared.term.Node.{Node}
use Rattle.pc_terms.specs.declared.term.Node.TheVariants.{Rel, Sort, Prod, Lambda, LetIn, App, Const, Ind, Construct, Case, Fix}

abbrev params_in : s.Terms → List s.Term
params_in Done = []
params_in (Next n t ts) = t ∷ params_in ts

params-back : (ts : s.Terms) → AreAll 0 (binders_of ts) → terms_of (params_in ts) ≡ ts
params-back Done h = refl
params-back (Next n t ts) h = λ i. Next (sym h.0 i) t (params-back ts h.1 i)

abbrev branches_in : s.Terms → List Branch
branches_in Done = []
branches_in (Next n t ts) = record { binders = n; body = t } ∷ branches_in ts

branches-back : (ts : s.Terms) → arms_of (branches_in ts) ≡ ts
branches-back Done = refl
branches-back (Next n t ts) = λ i. Next n t (branches-back ts i)

abbrev defs_in : List ℕ → s.Terms → s.Terms → List Def
defs_in (r ∷ rs) (Next m t ts) (Next n b bs) = record { ty = t; body = b; rarg = r } ∷ defs_in rs ts bs
defs_in _ _ _ = []

-- as many types and bodies as recursive arguments
abbrev AreAsMany : List ℕ → s.Terms → s.Terms → Type 0
AreAsMany rs ts bs = (length (binders_of ts) ≡ length rs) × (length (binders_of bs) ≡ length rs)

rargs-back : (rs : List ℕ) (ts bs : s.Terms) → AreAsMany rs ts bs → rargs_of (defs_in rs ts bs) ≡ rs
rargs-back [] ts bs h = refl
rargs-back (r ∷ rs) Done bs h = absurd (omega (arith, h.0))
rargs-back (r ∷ rs) (Next m t ts) Done h = absurd (omega (arith, h.1))
rargs-back (r ∷ rs) (Next m t ts) (Next n b bs) h = ap (◌∷◌ r) (rargs-back rs ts bs (omega (arith, h.0), omega (arith, h.1)))

types-back : (rs : List ℕ) (ts bs : s.Terms) → AreAsMany rs ts bs → AreAll 0 (binders_of ts) → types_of (defs_in rs ts bs) ≡ ts
types-back [] Done bs h c = refl
types-back [] (Next m t ts) bs h c = absurd (omega (arith, h.0))
types-back (r ∷ rs) Done bs h c = absurd (omega (arith, h.0))
types-back (r ∷ rs) (Next m t ts) Done h c = absurd (omega (arith, h.1))
types-back (r ∷ rs) (Next m t ts) (Next n b bs) h c =
    let rest = types-back rs ts bs (omega (arith, h.0), omega (arith, h.1)) c.1 in
    λ i. Next (sym c.0 i) t (rest i)

bodies-back : (k : ℕ) (rs : List ℕ) (ts bs : s.Terms) → AreAsMany rs ts bs → AreAll k (binders_of bs) → bodies_of k (defs_in rs ts bs) ≡ bs
bodies-back k [] ts Done h c = refl
bodies-back k [] ts (Next n b bs) h c = absurd (omega (arith, h.1))
bodies-back k (r ∷ rs) Done bs h c = absurd (omega (arith, h.0))
bodies-back k (r ∷ rs) (Next m t ts) Done h c = absurd (omega (arith, h.1))
bodies-back k (r ∷ rs) (Next m t ts) (Next n b bs) h c =
    let rest = bodies-back k rs ts bs (omega (arith, h.0), omega (arith, h.1)) c.1 in
    λ i. Next (sym c.0 i) b (rest i)

defs-many : (rs : List ℕ) (ts bs : s.Terms) → AreAsMany rs ts bs → length rs ≡ length (defs_in rs ts bs)
defs-many [] ts bs h = refl
defs-many (r ∷ rs) Done bs h = absurd (omega (arith, h.0))
defs-many (r ∷ rs) (Next m t ts) Done h = absurd (omega (arith, h.1))
defs-many (r ∷ rs) (Next m t ts) (Next n b bs) h = omega (arith, defs-many rs ts bs (omega (arith, h.0), omega (arith, h.1)))

pub formed-made : (t : s.Term) → IsFormed t → (n : Node) × (tree_of n ≡ t)
formed-made (s.Rel i) h = (Rel i, refl)
formed-made (s.SortT u) h = (Sort u, refl)
formed-made (s.Prod A B) h = (Prod A B, refl)
formed-made (s.Lambda A b) h = (Lambda A b, refl)
formed-made (s.LetIn b B t) h = (LetIn b B t, refl)
formed-made (s.App f a) h = (App f a, refl)
formed-made (s.Const c) h = (Const c, refl)
formed-made (s.Ind f) h = (Ind f, refl)
formed-made (s.Construct f c) h = (Construct f c, refl)
formed-made (s.Case f ps n ret t bs) h =
    let params = params-back ps h.0.0 in
    let branches = branches-back bs in (
      Case (record { family = f; params = params_in ps; binders = n; ret = ret; scrut = t; branches = branches_in bs }),
      λ i. s.Case f (params i) n ret t (branches i),
    )
formed-made (s.Fix i rargs types bodies) h =
    let many : AreAsMany rargs types bodies = (h.0.0.0, h.0.0.2) in
    let defs = defs_in rargs types bodies in
    let under : AreAll (length defs) (binders_of bodies) = along (λ k. AreAll k (binders_of bodies)) (defs-many rargs types bodies many) h.0.0.3 in
    let rargs-same = rargs-back rargs types bodies many in
    let types-same = types-back rargs types bodies many h.0.0.1 in
    let bodies-same = bodies-back (length defs) rargs types bodies many under in
    (Fix defs i, λ j. s.Fix i (rargs-same j) (types-same j) (bodies-same j))
