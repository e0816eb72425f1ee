-- Items that go deeper than terms do, in their lists.
use Rattle.std.proofs.Common.{◌≡◌, ℕ, zero, suc, ◌+◌, ◌<◌, ◌≤◌, max, List, [], ◌∷◌, length, map, get_or, Bool, false, IsTrue, ◌↔◌, Result, Ok, Err, IfOk, IfErr, sym, ap, ◌∙◌, arith, inl, subst as along}
use Rattle.trees.specs.Tree.{terms_of}
use Rattle.trees.specs.Measures.{depth, depth_trees, IsBeyond}
use Rattle.pc_terms.specs.Syntax.{Term, Rel, Node as TreeNode}
use Rattle.pc_terms.specs.Lists.{arms_of, types_of, bodies_of, depth_defs}
use Rattle.pc_terms.specs.View.{tree_of}
use Rattle.pc_terms.specs.declared.term.Branch.{Branch}
use Rattle.pc_terms.specs.declared.term.Def.{Def}
use Rattle.pc_terms.specs.declared.term.Match.{Match}
use Rattle.pc_terms.specs.declared.term.MakeFault.{MakeFault}
use Rattle.pc_terms.specs.declared.term.MakeFault.TheVariants.{TooDeep}
use Rattle.pc_terms.specs.declared.term.Node.TheVariants.{Case}
use Rattle.lazy_conversion.specs.Deep.{AreDeep, AreDeepLists, AreDeepDefs, AreDeepDef, AreDeepNodes}

term_in : (f : Term → Term) (ts : List Term) (i : ℕ) (o : Term) → i < length ts → depth (f (get_or ts i o)) ≤ depth_trees (terms_of (map f ts))
term_in f [] i o h = absurd (omega arith)
term_in f (t ∷ ts) zero o h = omega arith
term_in f (t ∷ ts) (suc i) o h = omega (arith, term_in f ts i o (omega arith))

arm_in : (f : Branch → Branch) (bs : List Branch) (i : ℕ) (o : Branch) → i < length bs → depth (f (get_or bs i o)).body ≤ depth_trees (arms_of (map f bs))
arm_in f [] i o h = absurd (omega arith)
arm_in f (b ∷ bs) zero o h = omega arith
arm_in f (b ∷ bs) (suc i) o h = omega (arith, arm_in f bs i o (omega arith))

type_in : (f : Def → Def) (ds : List Def) (i : ℕ) (o : Def) → i < length ds → depth (f (get_or ds i o)).ty ≤ depth_trees (types_of (map f ds))
type_in f [] i o h = absurd (omega arith)
type_in f (d ∷ ds) zero o h = omega arith
type_in f (d ∷ ds) (suc i) o h = omega (arith, type_in f ds i o (omega arith))

body_in : (m : ℕ) (f : Def → Def) (ds : List Def) (i : ℕ) (o : Def) → i < length ds → depth (f (get_or ds i o)).body ≤ depth_trees (bodies_of m (map f ds))
body_in m f [] i o h = absurd (omega arith)
body_in m f (d ∷ ds) zero o h = omega arith
body_in m f (d ∷ ds) (suc i) o h = omega (arith, body_in m f ds i o (omega arith))

def_in : (f : Def → Def) (ds : List Def) (i : ℕ) (o : Def) → i < length ds → max (depth (f (get_or ds i o)).ty) (depth (f (get_or ds i o)).body) ≤ depth_defs (map f ds)
def_in f ds i o h = omega (arith, type_in f ds i o h, body_in (length (map f ds)) f ds i o h)

pub lists_deep : (n : ℕ) (f g : Term → Term) (xs ys : List Term) (i : ℕ) (x y : Term) → x ≡ get_or xs i x → y ≡ get_or ys i y → i < length xs → i < length ys →
    AreDeep n (f x) (g y) → AreDeepLists n (terms_of (map f xs)) (terms_of (map g ys))
lists_deep n f g xs ys i x y p q l m h =
    let a : depth (f x) ≤ depth_trees (terms_of (map f xs)) = along (λ (z : Term). depth (f z) ≤ depth_trees (terms_of (map f xs))) (sym p) (term_in f xs i x l) in
    let b : depth (g y) ≤ depth_trees (terms_of (map g ys)) = along (λ (z : Term). depth (g z) ≤ depth_trees (terms_of (map g ys))) (sym q) (term_in g ys i y m) in
    (omega (arith, h.0, a), omega (arith, h.1, b))

pub arms_deep : (n : ℕ) (f g : Branch → Branch) (xs ys : List Branch) (i : ℕ) (x y : Branch) → x ≡ get_or xs i x → y ≡ get_or ys i y → i < length xs →
    i < length ys → AreDeep n (f x).body (g y).body → AreDeepLists n (arms_of (map f xs)) (arms_of (map g ys))
arms_deep n f g xs ys i x y p q l m h =
    let a : depth (f x).body ≤ depth_trees (arms_of (map f xs)) = along (λ (z : Branch). depth (f z).body ≤ depth_trees (arms_of (map f xs))) (sym p) (arm_in f xs i x l) in
    let b : depth (g y).body ≤ depth_trees (arms_of (map g ys)) = along (λ (z : Branch). depth (g z).body ≤ depth_trees (arms_of (map g ys))) (sym q) (arm_in g ys i y m) in
    (omega (arith, h.0, a), omega (arith, h.1, b))

abbrev deepest : Def → ℕ
deepest d = max (depth d.ty) (depth d.body)

pub defs_deep : (n : ℕ) (f g : Def → Def) (xs ys : List Def) (i : ℕ) (x y : Def) → x ≡ get_or xs i x → y ≡ get_or ys i y → i < length xs → i < length ys →
    AreDeepDef n (f x) (g y) → AreDeepDefs n (map f xs) (map g ys)
defs_deep n f g xs ys i x y p q l m h =
    let a : deepest (f x) ≤ depth_defs (map f xs) = along (λ (z : Def). deepest (f z) ≤ depth_defs (map f xs)) (sym p) (def_in f xs i x l) in
    let b : deepest (g y) ≤ depth_defs (map g ys) = along (λ (z : Def). deepest (g z) ≤ depth_defs (map g ys)) (sym q) (def_in g ys i y m) in
    (omega (arith, h.0, a), omega (arith, h.1, b))

-- a match is as deep around any scrutinee as around a variable
some_depth : (t : Term) → 1 ≤ depth t
some_depth (Rel i) = omega arith
some_depth (TreeNode l ts) = omega arith

pub around_deeper : (m : Match) (t : Term) → depth (tree_of (Case (record m { scrut = Rel 0 }))) ≤ depth (tree_of (Case (record m { scrut = t })))
around_deeper m t = omega (arith, some_depth t)

pub around_deep : (n : ℕ) (m k : Match) (t u : Term) → AreDeepNodes n (tree_of (Case (record m { scrut = Rel 0 }))) (tree_of (Case (record k { scrut = Rel 0 }))) →
    AreDeepNodes n (tree_of (Case (record m { scrut = t }))) (tree_of (Case (record k { scrut = u })))
around_deep n m k t u h = (omega (arith, h.0, around_deeper m t), omega (arith, h.1, around_deeper k u))

-- answers of nodes as those of their terms
pub answered : (P Q : Bool → Type 0) (r : Result Bool MakeFault) → ((b : Bool) → P b → Q b) → IfOk r P → IfOk r Q
answered P Q (Ok b) f h = f b h
answered P Q (Err e) f h = h

pub faulted : (P Q : Type 0) (r : Result Bool MakeFault) → (P → Q) → IfErr r (λ e. (e ≡ TooDeep) × P) → IfErr r (λ e. (e ≡ TooDeep) × Q)
faulted P Q (Ok b) f h = h
faulted P Q (Err e) f h = (h.0, f h.1)

pub nodes_deep : (n : ℕ) (x y a b : Term) → x ≡ a → y ≡ b → AreDeepNodes (n + 1) x y → AreDeep n a b
nodes_deep n x y a b p q h =
    let l : depth x ≡ depth a = ap depth p in
    let r : depth y ≡ depth b = ap depth q in
    (omega (arith, h.0, l), omega (arith, h.1, r))

-- a test that fails
pub no_one : {P : Type 0} (b : Bool) → b ≡ false → (IsTrue b ↔ P) → P → IsTrue false
no_one b e h p = sym e ∙ h.1 p

-- below no node
pub deep_beyond : (x y a b : Term) → x ≡ a → y ≡ b → AreDeep 0 x y → IsBeyond a × IsBeyond b
deep_beyond x y a b p q h =
    let l : depth x ≡ depth a = ap depth p in
    let r : depth y ≡ depth b = ap depth q in
    (inl (omega (arith, h.0, l)), inl (omega (arith, h.1, r)))

-- a match below no node, around any scrutinees
pub around_beyond : (m k a b : Match) → m ≡ a → k ≡ b → AreDeepNodes 1 (tree_of (Case (record m { scrut = Rel 0 }))) (tree_of (Case (record k { scrut = Rel 0 }))) →
    (t u : Term) → IsBeyond (tree_of (Case (record a { scrut = t }))) × IsBeyond (tree_of (Case (record b { scrut = u })))
around_beyond m k a b p q h t u =
    let d : AreDeepNodes 1 (tree_of (Case (record m { scrut = t }))) (tree_of (Case (record k { scrut = u }))) = around_deep 1 m k t u h in
    let l : depth (tree_of (Case (record m { scrut = t }))) ≡ depth (tree_of (Case (record a { scrut = t }))) = ap (λ (x : Match). depth (tree_of (Case (record x { scrut = t })))) p in
    let r : depth (tree_of (Case (record k { scrut = u }))) ≡ depth (tree_of (Case (record b { scrut = u }))) = ap (λ (x : Match). depth (tree_of (Case (record x { scrut = u })))) q in
    (inl (omega (arith, d.0, l)), inl (omega (arith, d.1, r)))
