-- Two nodes with one tree are one.
use Rattle.std.proofs.Common.{◌≡◌, ℕ, zero, suc, List, [], ◌∷◌, length, refl, ap}
use Rattle.trees.specs.Tree.{Node, End, Child, Group, Done, terms_of}
use Rattle.pc_terms.specs.Syntax as s
use Rattle.pc_terms.specs.Lists.{arms_of, types_of, bodies_of, rargs_of}
use Rattle.pc_terms.specs.View.{tree_of}
use Rattle.pc_terms.specs.declared.term.Match.{Match}
use Rattle.pc_terms.specs.declared.term.Node.{Node as Made}
use Rattle.pc_terms.specs.declared.term.Node.TheVariants.{Rel, Sort, Prod, Lambda, LetIn, App, Const, Ind, Construct, Case, Fix}
use Rattle.pc_terms.specs.declared.term.Branch.{Branch}
use Rattle.pc_terms.specs.declared.term.Def.{Def}

-- a tree's child or list at a place, counted from the left
abbrev child_in : {ss : List s.Slot} → ℕ → s.Children ss → s.Term → s.Term
child_in n End o = o
child_in zero (Child t ts) o = t
child_in (suc n) (Child t ts) o = child_in n ts o
child_in n (Group us ts) o = child_in n ts o

abbrev child_at : ℕ → s.Term → s.Term → s.Term
child_at n (s.Rel i) o = o
child_at n (Node l ts) o = child_in n ts o

abbrev list_in : {ss : List s.Slot} → ℕ → s.Children ss → s.Terms
list_in n End = Done
list_in n (Child t ts) = list_in n ts
list_in zero (Group us ts) = us
list_in (suc n) (Group us ts) = list_in n ts

abbrev list_at : ℕ → s.Term → s.Terms
list_at n (s.Rel i) = Done
list_at n (Node l ts) = list_in n ts

pub terms_of-inj : (ys zs : List s.Term) → terms_of ys ≡ terms_of zs → ys ≡ zs
terms_of-inj [] [] e = refl
terms_of-inj (y ∷ ys) (z ∷ zs) e = cc (terms_of-inj ys zs (cc))
terms_of-inj _ _ e = cc

pub arms_of-inj : (ys zs : List Branch) → arms_of ys ≡ arms_of zs → ys ≡ zs
arms_of-inj [] [] e = refl
arms_of-inj (y ∷ ys) (z ∷ zs) e =
    let binders : y.binders ≡ z.binders = cc in
    let body : y.body ≡ z.body = cc in
    let rest = arms_of-inj ys zs (cc) in
    λ i. record { binders = binders i; body = body i } ∷ rest i
arms_of-inj _ _ e = cc

pub defs_of-inj : (m n : ℕ) (ys zs : List Def) → rargs_of ys ≡ rargs_of zs → types_of ys ≡ types_of zs → bodies_of m ys ≡ bodies_of n zs → ys ≡ zs
defs_of-inj m n [] [] e f g = refl
defs_of-inj m n (y ∷ ys) (z ∷ zs) e f g =
    let rarg : y.rarg ≡ z.rarg = cc in
    let ty : y.ty ≡ z.ty = cc in
    let body : y.body ≡ z.body = cc in
    let rest = defs_of-inj m n ys zs (cc) (cc) (cc) in
    λ i. record { ty = ty i; body = body i; rarg = rarg i } ∷ rest i
defs_of-inj _ _ _ _ e f g = cc

-- two matches with one tree are one
match-inj : (m n : Match) → tree_of (Case m) ≡ tree_of (Case n) → m ≡ n
match-inj m n e =
    let family : m.family ≡ n.family = cc in
    let binders : m.binders ≡ n.binders = cc in
    let params : m.params ≡ n.params = terms_of-inj m.params n.params (ap (list_at 0) e) in
    let ret : m.ret ≡ n.ret = ap (λ t. child_at 0 t m.ret) e in
    let scrut : m.scrut ≡ n.scrut = ap (λ t. child_at 1 t m.ret) e in
    let branches : m.branches ≡ n.branches = arms_of-inj m.branches n.branches (ap (list_at 1) e) in
    λ i. record { family = family i; params = params i; binders = binders i; ret = ret i; scrut = scrut i; branches = branches i }

pub tree_of-inj : (m n : Made) → tree_of m ≡ tree_of n → m ≡ n
tree_of-inj (Rel i) (Rel j) e = cc
tree_of-inj (Sort s') (Sort t) e = cc
tree_of-inj (Prod a b) (Prod c d) e = cc (ap (λ t. child_at 0 t a) e, ap (λ t. child_at 1 t a) e)
tree_of-inj (Lambda a b) (Lambda c d) e = cc (ap (λ t. child_at 0 t a) e, ap (λ t. child_at 1 t a) e)
tree_of-inj (LetIn v a b) (LetIn w c d) e = cc (ap (λ t. child_at 0 t a) e, ap (λ t. child_at 1 t a) e, ap (λ t. child_at 2 t a) e)
tree_of-inj (App a b) (App c d) e = cc (ap (λ t. child_at 0 t a) e, ap (λ t. child_at 1 t a) e)
tree_of-inj (Const c) (Const d) e = cc
tree_of-inj (Ind f) (Ind g) e = cc
tree_of-inj (Construct f c) (Construct g d) e = cc
tree_of-inj (Case m) (Case n) e = ap Case (match-inj m n e)
tree_of-inj (Fix ds i) (Fix es j) e =
    let index : i ≡ j = cc in
    let rargs : rargs_of ds ≡ rargs_of es = cc in
    cc (index, defs_of-inj (length ds) (length es) ds es rargs (ap (list_at 0) e) (ap (list_at 1) e))
tree_of-inj _ _ e = cc
