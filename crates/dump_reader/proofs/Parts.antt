-- The parts of a tree, which are less deep.
use Rattle.std.proofs.Common.{◌≡◌, ℕ, zero, suc, ◌+◌, ◌<◌, ◌≤◌, max, List, [], ◌∷◌, ◌++◌, map, length, take, get_or, sym, ap, subst, ◌∙◌, arith}
use Rattle.std.proofs.lemmas.List.{take_more}
use Rattle.dump_grammar.specs.Terms.{cast}
use Rattle.dump_grammar.specs.Named.{Named, Rel, Prod, Lambda, LetIn, App, Case, Fix, terms_of, branches_of, defs_of, depth, depth_terms, depth_branches, depth_defs}
use Rattle.dump_grammar.specs.Limits.{depth_limit}
use Rattle.dump_parser.specs.declared.tree.Branch.{Branch}
use Rattle.dump_parser.specs.declared.tree.Def.{Def}
use Rattle.dump_parser.specs.declared.tree.Node.{Node}
use Rattle.dump_parser.specs.Tree.{named, named_branch, named_def, applied}
use Rattle.dump_parser.proofs.Lists.{applied_more}

-- a node that was seen
pub seen : {t : Named} {n m : Node} → named n ≡ t → n ≡ m → t ≡ named m
seen e f = sym e ∙ ap named f

-- ---- an item of a list

depth-at : (ts : List Named) (i : ℕ) (d : Named) → i < length ts → depth (get_or ts i d) ≤ depth_terms (terms_of ts)
unfolding depth
depth-at [] i d h = absurd (omega arith)
depth-at (t ∷ ts) zero d h = omega arith
depth-at (t ∷ ts) (suc i) d h = (let k : depth (get_or ts i d) ≤ depth_terms (terms_of ts) = depth-at ts i d (omega arith) in omega arith)

pub term-at : (ts : List Named) (i : ℕ) (t : Named) → t ≡ get_or ts i t → i < length ts → depth t ≤ depth_terms (terms_of ts)
term-at ts i t e h = subst (λ (x : Named). depth x ≤ depth_terms (terms_of ts)) (sym e) (depth-at ts i t h)

branch-get : (bs : List Branch) (i : ℕ) (d : Branch) → i < length bs → depth (get_or bs i d).body ≤ depth_branches (branches_of (map named_branch bs))
unfolding depth
branch-get [] i d h = absurd (omega arith)
branch-get (b ∷ bs) zero d h = omega arith
branch-get (b ∷ bs) (suc i) d h = (let k = branch-get bs i d (omega arith) in omega (arith, k))

pub branch-at : (bs : List Branch) (i : ℕ) (b : Branch) → b ≡ get_or bs i b → i < length bs → depth b.body ≤ depth_branches (branches_of (map named_branch bs))
branch-at bs i b e h = subst (λ (x : Branch). depth x.body ≤ depth_branches (branches_of (map named_branch bs))) (sym e) (branch-get bs i b h)

abbrev IsDefOf : List Def → Def → Type 0
IsDefOf ds d = (depth d.ty ≤ depth_defs (defs_of (map named_def ds))) × (depth d.body ≤ depth_defs (defs_of (map named_def ds)))

def-get : (ds : List Def) (i : ℕ) (o : Def) → i < length ds → IsDefOf ds (get_or ds i o)
unfolding depth
def-get [] i o h = absurd (omega arith)
def-get (d ∷ ds) zero o h = (omega arith, omega arith)
def-get (d ∷ ds) (suc i) o h = (let k = def-get ds i o (omega arith) in (omega (arith, k.0), omega (arith, k.1)))

pub def-at : (ds : List Def) (i : ℕ) (d : Def) → d ≡ get_or ds i d → i < length ds → IsDefOf ds d
def-at ds i d e h = subst (λ (x : Def). IsDefOf ds x) (sym e) (def-get ds i d h)

-- ---- the parts of each former

module _ (t : Named) where
  pub prod-parts : (A B : Named) → t ≡ Prod A B → (depth A < depth t) × (depth B < depth t)
  unfolding depth
  prod-parts A B e = (let d : depth t ≡ suc (max (depth A) (depth B)) = ap depth e in (omega arith, omega arith))

  pub lambda-parts : (A b : Named) → t ≡ Lambda A b → (depth A < depth t) × (depth b < depth t)
  unfolding depth
  lambda-parts A b e = (let d : depth t ≡ suc (max (depth A) (depth b)) = ap depth e in (omega arith, omega arith))

  pub let-parts : (b B u : Named) → t ≡ LetIn b B u → (depth b < depth t) × (depth B < depth t) × (depth u < depth t)
  unfolding depth
  let-parts b B u e = (let d : depth t ≡ suc (max (depth b) (max (depth B) (depth u))) = ap depth e in (omega arith, omega arith, omega arith))

  pub fix-part : (ds : List Def) (i : ℕ) → t ≡ Fix (defs_of (map named_def ds)) i → depth_defs (defs_of (map named_def ds)) < depth t
  unfolding depth
  fix-part ds i e = (let d : depth t ≡ suc (depth_defs (defs_of (map named_def ds))) = ap depth e in omega arith)

pub cast-parts : (t T : Named) → (depth t < depth (cast t T)) × (depth T < depth (cast t T))
unfolding depth
cast-parts t T = (omega arith, omega arith)

-- the type, with its function
pub cast-function : (t T : Named) → depth (cast t T) ≤ depth_limit → depth (Lambda T (Rel 0)) ≤ depth_limit
unfolding depth
cast-function t T h = omega arith

pub case-depths : (k : List ℕ) (n : ℕ) (ps : List Named) (m : ℕ) (r s : Named) (bs : List Branch)
    → (depth_terms (terms_of ps) < depth (Case k n (terms_of ps) m r s (branches_of (map named_branch bs)))) × (depth r < depth (Case k n (terms_of ps) m r s (branches_of (map named_branch bs))))
    × (depth s < depth (Case k n (terms_of ps) m r s (branches_of (map named_branch bs))))
    × (depth_branches (branches_of (map named_branch bs)) < depth (Case k n (terms_of ps) m r s (branches_of (map named_branch bs))))
unfolding depth
case-depths k n ps m r s bs = (omega arith, omega arith, omega arith, omega arith)

-- ---- runs of applications

applied-depths : (f : Named) (ts : List Named) → 0 < depth f → (depth f ≤ depth (applied f ts)) × (depth_terms (terms_of ts) < depth (applied f ts))
unfolding depth
applied-depths f [] h = (omega arith, omega arith)
applied-depths f (t ∷ ts) h = (let k = applied-depths (App f t) ts (omega arith) in (omega (arith, k.0, k.1), omega (arith, k.0, k.1)))

-- the function applied to some of the arguments, from the first on
applied-front : (f : Named) (ts : List Named) (n : ℕ) → 0 < depth f → depth (applied f (take n ts)) ≤ depth (applied f ts)
unfolding depth
applied-front f ts zero h = (applied-depths f ts h).0
applied-front f [] (suc n) h = omega arith
applied-front f (t ∷ ts) (suc n) h = applied-front (App f t) ts n (omega arith)

-- one argument more, at an item that a loop has read
pub applied-more : (f : Named) (ts : List Named) (i : ℕ) (t : Named) → t ≡ get_or ts i t → i < length ts → applied f (take (i + 1) ts) ≡ App (applied f (take i ts)) t
applied-more f ts i t at within =
    let longer : take (i + 1) ts ≡ take i ts ++ t ∷ [] = take_more ts i t within ∙ ap (λ (u : Named). take i ts ++ u ∷ []) (sym at) in
    ap (applied f) longer ∙ applied_more f (take i ts) t

-- the application of one argument more is within the run
pub run-within : (f a : Named) (ts : List Named) (i : ℕ) (t : Named) → t ≡ get_or ts i t → i < length ts → depth (App (applied (App f a) (take i ts)) t) ≤ depth (applied (App f a) ts)
unfolding depth
run-within f a ts i t at within = subst (λ (u : Named). depth u ≤ depth (applied (App f a) ts)) (applied-more (App f a) ts i t at within) (applied-front (App f a) ts (i + 1) (omega arith))

pub run-depths : (f a : Named) (ts : List Named)
    → (depth f < depth (applied (App f a) ts)) × (depth a < depth (applied (App f a) ts)) × (depth (App f a) ≤ depth (applied (App f a) ts)) × (depth_terms (terms_of ts) < depth (applied (App f a) ts))
unfolding depth
run-depths f a ts = (let k = applied-depths (App f a) ts (omega arith) in (omega (arith, k.0), omega (arith, k.0), k.0, k.1))
