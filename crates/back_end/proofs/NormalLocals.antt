-- The operations and the variables of fixpoints of a program in A-normal form are no more than the nodes of the program that it was made from.
use Rattle.std.proofs.Common.{◌≡◌, ℕ, suc, ◌+◌, ◌-◌, ◌<◌, ◌≤◌, List, [], ◌∷◌, ◌++◌, length, map, refl, sym, ap, ◌∙◌, subst, arith}
use Rattle.trees.specs.Tree.{Rel, Done, Next}
use Rattle.trees.specs.Measures.{nodes, nodes_trees}
use Rattle.pc_terms.specs.declared.leaf.Name.{Name}
use Rattle.box_terms.specs.BoxSyntax.{BoxTerm, BoxTerms, Box, BLambda, BLetIn, BApp, BConst, BConstruct, BCase, BFix}
use Rattle.lambda_box.specs.BoxProgram.{BoxProgram}
use Rattle.anf_convert.specs.declared.program.Atom.{Atom}
use Rattle.anf_convert.specs.declared.program.Atom.TheVariants.{Var as AVar, Box as ABox, Empty as AEmpty}
use Rattle.anf_convert.specs.Anf.{LamOp, AnfBlock, AnfBranches, AnfDefs, LamDef, AnfBinding, AtomIs, OpIs, tail_of, block_of}
use Rattle.anf_convert.specs.Captured.{Scope, Outside, Plain, depth, Entry, Unbound, Word, Words, entry, plains, shares, fix_captured}
use Rattle.anf_convert.specs.ToAnf.{Res, RAtom, RCon, ROp, Norm, NamedResult, at_depth, binding_of, sealed, with_variable, named, levels, name_at, then_arg, then_body, then_case, just, norm, norm_branches, norm_defs, code_of}
use Rattle.anf_convert.specs.ToAnfKeeps.{Ready, ReadyTerms}
use Rattle.anf_convert.proofs.Widths.{def_total}
use Rattle.closure_lift.specs.FreeVariables.{size}
use Rattle.closure_lift.proofs.FreeWords.{size_plains, size_shares}
use Rattle.back_end.proofs.LiftedLocals.{entry_locals, atom_locals, atoms_locals, normal_op_locals, normal_locals, normal_branches_locals, normal_defs_locals}

-- one scope is another with more variables that hold words
data Later (S : Scope) : Scope → Type 0 where
  same : Later S S
  push : {S' : Scope} → Later S S' → Later S (Plain S')

later_trans : {S S' S'' : Scope} → Later S S' → Later S' S'' → Later S S''
later_trans x same = x
later_trans x (push y) = push (later_trans x y)

later_size : {S S' : Scope} → Later S S' → size S ≤ size S'
later_size same = omega arith
later_size (push x) = omega (arith, later_size x)

-- the innermost variable holds a word
fresh : {S S' : Scope} → Later (Plain S) S' → entry S' (size S' - suc (size S)) ≡ Word (depth S)
fresh {S} same = let z : suc (size S) - suc (size S) ≡ 0 = omega arith in ap (entry (Plain S)) z
fresh {S} (push {S' = T} x) =
    let le = later_size x in
    let one : suc (size T) - suc (size S) ≡ suc (size T - suc (size S)) = omega arith in
    ap (entry (Plain T)) one ∙ fresh x

entry_one : (k : Entry) → entry_locals k ≤ 1
entry_one Unbound = omega arith
entry_one (Word x) = omega arith
entry_one (Words ws) = omega arith

atom_one : (s : Scope) (a : Atom) → atom_locals s a ≤ 1
atom_one s (AVar i) = entry_one (entry s i)
atom_one s ABox = omega arith
atom_one s (AEmpty k) = omega arith

abbrev binding_locals : Scope → AnfBinding → ℕ
binding_locals s (AtomIs a) = 1 + atoms_locals s (a ∷ [])
binding_locals s (OpIs op) = normal_op_locals s op

-- bindings with at most so many locals
data Ops : Scope → List AnfBinding → Scope → ℕ → Type 0 where
  ops_none : {S : Scope} {n : ℕ} → Ops S [] S n
  ops_more : {S S' : Scope} {p : AnfBinding} {ps : List AnfBinding} {k n : ℕ} → binding_locals S p + k ≤ n → Ops (Plain S) ps S' k → Ops S (p ∷ ps) S' n

ops_later : {S S' : Scope} {ps : List AnfBinding} {n : ℕ} → Ops S ps S' n → Later S S'
ops_later ops_none = same
ops_later (ops_more le hs) = later_trans (push same) (ops_later hs)

ops_size : {S S' : Scope} {ps : List AnfBinding} {n : ℕ} → Ops S ps S' n → size S' ≡ size S + length ps
ops_size ops_none = omega arith
ops_size (ops_more le hs) = omega (arith, ops_size hs)

ops_loose : {S S' : Scope} {ps : List AnfBinding} {n m : ℕ} → n ≤ m → Ops S ps S' n → Ops S ps S' m
ops_loose le ops_none = ops_none
ops_loose le (ops_more h hs) = ops_more (omega (arith, le, h)) hs

ops_then : {S S' S'' : Scope} {ps qs : List AnfBinding} {n m : ℕ} → Ops S ps S' n → Ops S' qs S'' m → Ops S (ps ++ qs) S'' (n + m)
ops_then ops_none g = ops_loose (omega arith) g
ops_then {m = m} (ops_more {k = k} h hs) g = ops_more {k = k + m} (omega (arith, h)) (ops_then hs g)

-- what is left after the bindings has at most so many
abbrev ResFew : Scope → Res → ℕ → Type 0
ResFew S (RAtom a) n = 1 ≤ n
ResFew S (RCon c xs) n = (S' : Scope) (d : ℕ) → Later S S' → d ≡ size S' → 1 + atoms_locals S' (map (at_depth d) xs) ≤ n
ResFew S (ROp op) n = normal_op_locals S op ≤ n

record NormFew (S : Scope) (m : Norm) (n : ℕ) : Type 0 where
  S' : Scope
  i : ℕ
  j : ℕ
  ops : Ops S m.ops S' i
  res : ResFew S' m.res j
  total : i + j ≤ n

-- an atom has at most so many wherever it stands
record NameFew (S : Scope) (m : NamedResult) (n : ℕ) : Type 0 where
  S' : Scope
  i : ℕ
  j : ℕ
  ops : Ops S m.ops S' i
  at : (T : Scope) (d : ℕ) → Later S' T → d ≡ size T → atom_locals T (at_depth d m.atom) ≤ j
  total : i + j ≤ n

binding_let : (S : Scope) (d j : ℕ) (res : Res) → d ≡ size S → ResFew S res j → binding_locals S (binding_of d res) ≤ j + 1
binding_let S d j (RAtom a) eq h = omega (arith, atom_one S (at_depth d a), h)
binding_let S d j (RCon c []) eq h = omega arith
binding_let S d j (RCon c (x ∷ xs)) eq h = omega (arith, h S d same eq)
binding_let S d j (ROp op) eq h = omega (arith, h)

tail_few : (S : Scope) (d j : ℕ) (res : Res) → d ≡ size S → ResFew S res j → normal_locals S (tail_of (binding_of d res)) ≤ j
tail_few S d j (RAtom a) eq h = omega (arith, atom_one S (at_depth d a), h)
tail_few S d j (RCon c []) eq h = omega arith
tail_few S d j (RCon c (x ∷ xs)) eq h = h S d same eq
tail_few S d j (ROp op) eq h = h

block_few : {S S' : Scope} {ps : List AnfBinding} {i : ℕ} (t : AnfBlock) → Ops S ps S' i → normal_locals S (block_of ps t) ≤ i + normal_locals S' t
block_few t ops_none = omega arith
block_few t (ops_more {p = AtomIs a} h hs) = omega (arith, h, block_few t hs)
block_few t (ops_more {p = OpIs op} h hs) = omega (arith, h, block_few t hs)

sealed_few : {S : Scope} {m : Norm} {n : ℕ} (d : ℕ) → d ≡ size S → NormFew S m n → normal_locals S (sealed d m) ≤ n
sealed_few {m = m} d eq h =
    let e = d + length m.ops in
    omega (arith, block_few (tail_of (binding_of e m.res)) h.ops, tail_few h.S' e h.j m.res (omega (arith, eq, ops_size h.ops)) h.res, h.total)

fresh_few : (S T : Scope) (x e : ℕ) → Later (Plain S) T → x ≡ size S → e ≡ size T → entry_locals (entry T (e - suc x)) ≡ 0
fresh_few S T x e later at eq =
    let i : e - suc x ≡ size T - suc (size S) = omega (arith, at, eq) in
    ap entry_locals (ap (entry T) i ∙ fresh later)

with_few : {S S' : Scope} {ps : List AnfBinding} {i : ℕ} (d j : ℕ) (res : Res) → d ≡ size S → Ops S ps S' i → ResFew S' res j → Ops S (with_variable d ps res).ops (Plain S') (i + (j + 1))
with_few {S' = S'} {ps} d j res eq os h = ops_then os (ops_more {k = 0} (omega (arith, binding_let S' (d + length ps) j res (omega (arith, eq, ops_size os)) h)) ops_none)

name_few : {S S' : Scope} {ps : List AnfBinding} {i : ℕ} (d j : ℕ) (res : Res) → d ≡ size S → Ops S ps S' i → ResFew S' res j → NameFew S (named d ps res) (i + j)
name_few {S' = S'} {i = i} d j (RAtom a) eq os h = record { S' = S'; i = i; j = j; ops = os; at = λ T e later same_size. omega (arith, atom_one T (at_depth e a), h); total = omega arith }
name_few {S' = S'} {i = i} d j (RCon c []) eq os h = record { S' = S'; i = i; j = j; ops = os; at = λ T e later same_size. omega arith; total = omega arith }
name_few {S' = S'} {ps} {i} d j (RCon c (x ∷ xs)) eq os h =
    let at : d + length ps ≡ size S' = omega (arith, eq, ops_size os) in
    record { S' = Plain S'; i = i + j; j = 0; ops = ops_then os (ops_more {k = 0} (omega (arith, h S' (d + length ps) same at)) ops_none); at = λ T e later is. omega (arith, fresh_few S' T (d + length ps) e later at is); total = omega arith }
name_few {S' = S'} {ps} {i} d j (ROp op) eq os h =
    let at : d + length ps ≡ size S' = omega (arith, eq, ops_size os) in
    record { S' = Plain S'; i = i + j; j = 0; ops = ops_then os (ops_more {k = 0} (omega (arith, h)) ops_none); at = λ T e later is. omega (arith, fresh_few S' T (d + length ps) e later at is); total = omega arith }

-- the argument's part, wherever it stands
abbrev ArgFew : Scope → (ℕ → Norm) → ℕ → Type 0
ArgFew S arg n = (T : Scope) (d : ℕ) → Later S T → d ≡ size T → NormFew T (arg d) n

named_arg : {S : Scope} {n : ℕ} (d : ℕ) (arg : ℕ → Norm) → d ≡ size S → NormFew S (arg d) n → NameFew S (name_at arg d) n
named_arg d arg eq h =
    let m = name_few d h.j (arg d).res eq h.ops h.res in
    record { S' = m.S'; i = m.i; j = m.j; ops = m.ops; at = m.at; total = omega (arith, m.total, h.total) }

arg_few : {S S' : Scope} {ps : List AnfBinding} {i n k : ℕ} (d j : ℕ) (res : Res) (arg : ℕ → Norm) → d ≡ size S → Ops S ps S' i → ResFew S' res j → ArgFew S' arg n → i + j + n < k → NormFew S (then_arg d ps res arg) k
arg_few {S' = S'} {ps} {i} d j (RAtom f) arg eq os h next lt =
    let e = d + length ps in
    let at : d + length ps ≡ size S' = omega (arith, eq, ops_size os) in
    let m = named_arg e arg at (next S' e same at) in
    let e' = e + length (name_at arg e).ops in
    let deep : e' ≡ size m.S' = omega (arith, at, ops_size m.ops) in
    record { S' = m.S'; i = i + m.i; j = 1 + j + m.j; ops = ops_then os m.ops; res = omega (arith, atom_one m.S' (at_depth e' f), h, m.at m.S' e' same deep); total = omega (arith, m.total, lt) }
arg_few {S' = S'} {ps} {i} d j (RCon c xs) arg eq os h next lt =
    let e = d + length ps in
    let at : d + length ps ≡ size S' = omega (arith, eq, ops_size os) in
    let m = named_arg e arg at (next S' e same at) in
    record { S' = m.S'; i = i + m.i; j = j + m.j; ops = ops_then os m.ops; res = λ T e later is. omega (arith, h T e (later_trans (ops_later {S' = m.S'} {n = m.i} m.ops) later) is, m.at T e later is); total = omega (arith, m.total, lt) }
arg_few {S' = S'} {ps} {i} d j (ROp op) arg eq os h next lt =
    let all = ops_then os (ops_more {p = OpIs op} {k = 0} {n = j} (omega (arith, h)) ops_none) in
    let e = d + length (ps ++ OpIs op ∷ []) in
    let at : d + length ps ≡ size S' = omega (arith, eq, ops_size os) in
    let m = named_arg e arg (omega (arith, eq, ops_size all)) (next (Plain S') e (push same) (omega (arith, eq, ops_size all))) in
    let e' = e + length (name_at arg e).ops in
    let deep : e' ≡ size m.S' = omega (arith, eq, ops_size all, ops_size {S' = m.S'} {n = m.i} m.ops) in
    record { S' = m.S'; i = i + j + m.i; j = 1 + m.j; ops = ops_then all m.ops; res = omega (arith, fresh_few S' m.S' (d + length ps) e' (ops_later {S' = m.S'} {n = m.i} m.ops) at deep, m.at m.S' e' same deep); total = omega (arith, m.total, lt) }

record BranchesFew (S : Scope) (bs : AnfBranches) (n : ℕ) : Type 0 where
  is : normal_branches_locals S bs ≤ n

record DefsFew (S : Scope) (ds : AnfDefs) (n : ℕ) : Type 0 where
  is : normal_defs_locals S ds ≤ n

lambda_few : {S : Scope} {m : Norm} {i n : ℕ} (d : ℕ) → d ≡ suc (size S) → NormFew (Plain S) m i → i < n → NormFew S (just (ROp (LamOp (sealed d m)))) n
lambda_few {S} {n = n} d eq h lt = record { S' = S; i = 0; j = n; ops = ops_none; res = omega (arith, sealed_few d eq h, lt); total = omega arith }

let_few : {S : Scope} {m : Norm} {i j n : ℕ} (d : ℕ) (body : ℕ → _ → Norm) → d ≡ size S → NormFew S m i → ((T : Scope) (e : ℕ) (x : _) → e ≡ size T → NormFew T (body e x) j) → i + j < n → NormFew S (then_body d (with_variable d m.ops m.res) body) n
let_few {m = m} d body eq h next lt =
    let ops = with_few d h.j m.res eq h.ops h.res in
    let v = with_variable d m.ops m.res in
    let r = next (Plain h.S') (d + length v.ops) v.atom (omega (arith, eq, ops_size ops)) in
    record { S' = r.S'; i = h.i + (h.j + 1) + r.i; j = r.j; ops = ops_then ops r.ops; res = r.res; total = omega (arith, h.total, r.total, lt) }

case_few : {S : Scope} {m : Norm} {i j n : ℕ} (d : ℕ) (branches : ℕ → AnfBranches) → d ≡ size S → NormFew S m i → ((T : Scope) (e : ℕ) → e ≡ size T → BranchesFew T (branches e) j) → i + j < n → NormFew S (then_case d (named d m.ops m.res) branches) n
case_few {m = m} {j = k} d branches eq h next lt =
    let v = name_few d h.j m.res eq h.ops h.res in
    let e = d + length (named d m.ops m.res).ops in
    let deep : e ≡ size v.S' = omega (arith, eq, ops_size v.ops) in
    let bs = next v.S' e deep in
    record { S' = v.S'; i = v.i; j = 1 + v.j + k; ops = v.ops; res = omega (arith, v.at v.S' e same deep, bs.is); total = omega (arith, v.total, h.total, lt) }

def_few : {S : Scope} {m : Norm} {ds : AnfDefs} {i j n : ℕ} (d : ℕ) → d ≡ suc (size S) → NormFew (Plain S) m i → DefsFew S ds j → i + j ≤ n → DefsFew S (LamDef (sealed d m) ds) n
def_few d eq h g le = record { is = omega (arith, sealed_few d eq h, g.is, le) }

module _ (P : BoxProgram) (K : Name → ℕ) where
  mutual
    norm_few : (S : Scope) (env : List _) (d : ℕ) (t : BoxTerm) → d ≡ size S → Ready P t → NormFew S (norm K env d t) (nodes t)
    norm_few S env d (Rel i) eq ok = record { S' = S; i = 0; j = 1; ops = ops_none; res = omega arith; total = omega arith }
    norm_few S env d Box eq ok = record { S' = S; i = 0; j = 1; ops = ops_none; res = omega arith; total = omega arith }
    norm_few S env d (BLambda b) eq ok = lambda_few (suc d) (omega (arith, eq)) (norm_few (Plain S) _ (suc d) b (omega (arith, eq)) ok.1.0) (omega arith)
    norm_few S env d (BLetIn a b) eq ok = let_few d (λ e x. norm K (x ∷ env) e b) eq (norm_few S env d a eq ok.1.0) (λ T e x is. norm_few T (x ∷ env) e b is ok.1.1.0) (omega arith)
    norm_few S env d (BApp f a) eq ok =
        let h = norm_few S env d f eq ok.1.0 in
        arg_few d h.j (norm K env d f).res (λ e. norm K env e a) eq h.ops h.res (λ T e later is. norm_few T env e a is ok.1.1.0) (omega (arith, h.total))
    norm_few S env d (BConst k) eq ok = record { S' = S; i = 0; j = 1; ops = ops_none; res = omega arith; total = omega arith }
    norm_few S env d (BConstruct f c) eq ok = record { S' = S; i = 0; j = 1; ops = ops_none; res = λ T e later is. omega arith; total = omega arith }
    norm_few S env d (BCase f t bs) eq ok = case_few d (λ e. norm_branches K env e bs) eq (norm_few S env d t eq ok.1.0) (λ T e is. branches_few T env e bs is ok.1.1.0) (omega arith)
    norm_few S env d (BFix i rargs bodies) eq ok =
        let m = length rargs in
        let ds = norm_defs K env d m bodies in
        let cs = fix_captured S ds in
        let h = defs_few (shares cs m S) env d m bodies (omega (arith, eq, size_shares cs m S)) ok.1.0 in
        let g = subst (λ k. normal_defs_locals (shares cs k S) ds ≤ nodes_trees bodies) (sym (def_total K env d m m rargs bodies ok.0)) h.is in
        record { S' = S; i = 0; j = 1 + nodes_trees bodies; ops = ops_none; res = omega (arith, g); total = omega arith }

    branches_few : (S : Scope) (env : List _) (d : ℕ) (bs : BoxTerms) → d ≡ size S → ReadyTerms P bs → BranchesFew S (norm_branches K env d bs) (nodes_trees bs)
    branches_few S env d Done eq ok = record { is = omega arith }
    branches_few S env d (Next n b rest) eq ok =
        let at : d + n ≡ size (plains n S) = omega (arith, eq, size_plains n S) in
        let h = sealed_few (d + n) at (norm_few (plains n S) (levels d n env) (d + n) b at ok.0) in
        let r = branches_few S env d rest eq ok.1 in
        record { is = omega (arith, h, r.is) }

    defs_few : (S : Scope) (env : List _) (d m : ℕ) (bodies : BoxTerms) → d + m ≡ size S → ReadyTerms P bodies → DefsFew S (norm_defs K env d m bodies) (nodes_trees bodies)
    defs_few S env d m Done eq ok = record { is = omega arith }
    defs_few S env d m (Next k (BLambda b) rest) eq ok = def_few (suc (d + m)) (omega (arith, eq)) (norm_few (Plain S) _ (suc (d + m)) b (omega (arith, eq)) ok.0.1.0) (defs_few S env d m rest eq ok.1) (omega arith)
    defs_few S env d m (Next k b rest) eq ok = let r = defs_few S env d m rest eq ok.1 in record { is = omega (arith, r.is) }

  pub code_few : (t : BoxTerm) → Ready P t → normal_locals Outside (code_of K t) ≤ nodes t
  code_few t ok = sealed_few 0 refl (norm_few Outside [] 0 t refl ok)
