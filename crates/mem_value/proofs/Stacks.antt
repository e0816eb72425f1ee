-- Storing step by step: what calls say one after the other.
use Rattle.std.proofs.Common.{◌≡◌, ℕ, zero, suc, ◌+◌, ◌-◌, ◌*◌, ◌<◌, ◌≤◌, List, [], ◌∷◌, ◌++◌, length, reverse, take, drop, Option, Some, None, Result, Ok, Err, refl, sym, ap, subst, ◌∙◌, arith, add-one}
use Rattle.std.specs.Prelude.{slice_get}
use Rattle.std.proofs.lemmas.Option.{slice_get_within, get_or_from_slice_get, same_Some}
use Rattle.wasm_core.proofs.Small.{some_of, map_of}
use Rattle.std.specs.Option.{option_map, option_and_then}
use Rattle.std.proofs.lemmas.List.{length-reverse, reverse-append, drop_more, drop_all, length-drop}
use Rattle.wasm_core.specs.Parts.{Parts}
use Rattle.wasm_core.specs.MachineStep.{Store, State, At, Over}
use Rattle.wasm_core.specs.Runs.{store_of}
use Rattle.wasm_core.specs.WordData.{DataNodes}
use Rattle.wasm_core.specs.ModuleCondition.{All as Each}
use Rattle.wasm_core.specs.HostStore.{with_store}
use Rattle.wasm_core.specs.MachineRun.{MachineShown}
use Rattle.data_trees.specs.Preorder.{IsForest, IsTree}
use Rattle.mem_value.specs.Storing.{Stacked, put_block, put_node, put_nodes, put_trees, header, with_word, StackSays, PutSays}
use Rattle.mem_value.specs.declared.store_fault.StoreFault.{StoreFault}
use Rattle.mem_value.specs.declared.store_fault.StoreFault.TheVariants.{Exhausted, Failed, Memory}
use Rattle.wasm_run.proofs.HostCalls.{store_again}

pub with_again : (s : State) (a b : Store) → with_store (with_store s a) b ≡ with_store s b
with_again (At c) a b = refl
with_again (Over e st) a b = refl

with_same : (s : State) → with_store s (store_of s) ≡ s
with_same (At c) = refl
with_same (Over e st) = refl

-- nothing was put
pub first_says : (old : MachineShown) (ws : List ℕ) → StackSays old old ws (Some (record { store = store_of old.state; words = ws })) (Ok tt)
first_says old ws = (store_of old.state, refl, ap (λ (s : State). record old { state = s }) (sym (with_same old.state)))

-- one call after another
pub then_says : (old cur new : MachineShown) (ws ws' : List ℕ) (o : Option Stacked) (f : Parts → ℕ → Stacked → Option Stacked) (r : Result (Unit {0}) StoreFault) → StackSays old cur ws o (Ok tt) →
    StackSays cur new ws' (f cur.program cur.cap (record { store = store_of cur.state; words = ws })) r → StackSays old new ws' (option_and_then (f old.program old.cap) o) r
then_says old cur new ws ws' o f r (s, e, is) h = by r here
  where
    mid : MachineShown
    mid = record old { state = with_store old.state s }

    next : Option Stacked
    next = f old.program old.cap (record { store = s; words = ws })

    same : option_and_then (f old.program old.cap) o ≡ next
    same = ap (option_and_then (f old.program old.cap)) e

    moved : StackSays mid new ws' (f old.program old.cap (record { store = store_of (with_store old.state s); words = ws })) r
    moved = subst (λ (x : MachineShown). StackSays x new ws' (f x.program x.cap (record { store = store_of x.state; words = ws })) r) is h

    here : StackSays mid new ws' next r
    here = subst (λ (st : Store). StackSays mid new ws' (f old.program old.cap (record { store = st; words = ws })) r) (store_again old.state s) moved

    by : (r : Result (Unit {0}) StoreFault) → StackSays mid new ws' next r → StackSays old new ws' (option_and_then (f old.program old.cap) o) r
    by (Ok u) (t, e', is') = (t, same ∙ e', is' ∙ ap (λ (x : State). record old { state = x }) (with_again old.state s t))
    by (Err Exhausted) (a, b, none) = (a, b, same ∙ none)
    by (Err Failed) h = h
    by (Err Memory) h = tt

-- what stays
pub kept_by : (old cur : MachineShown) (ws : List ℕ) (o : Option Stacked) → StackSays old cur ws o (Ok tt) → (cur.program ≡ old.program) × (cur.cap ≡ old.cap) × (cur.made ≡ old.made)
kept_by old cur ws o (s, e, is) = (ap (λ (x : MachineShown). x.program) is, ap (λ (x : MachineShown). x.cap) is, ap (λ (x : MachineShown). x.made) is)

-- one node
node_is : (m : Parts) (cap c arity : ℕ) (a : Stacked) → (arity ≡ 0 → ⊥) → put_node m cap c arity a ≡ option_map (with_word (drop arity a.words)) (put_block m cap (header arity c ∷ take arity a.words) a.store)
node_is m cap c zero a h = absurd (h refl)
node_is m cap c (suc n) a h = refl

pub odd_says : (old : MachineShown) (c arity : ℕ) (ws ws' : List ℕ) → arity ≡ 0 → ws' ≡ (2 * c + 1) ∷ ws → StackSays old old ws' (put_node old.program old.cap c arity (record { store = store_of old.state; words = ws })) (Ok tt)
odd_says old c arity ws ws' z e =
    (store_of old.state, ap (λ n. put_node old.program old.cap c n (record { store = store_of old.state; words = ws })) z ∙ ap (λ xs. Some (record { store = store_of old.state; words = xs })) (sym e), ap (λ (s : State). record old { state = s }) (sym (with_same old.state)))

pub block_says : (old new : MachineShown) (c arity at : ℕ) (ws block ws' : List ℕ) → (arity ≡ 0 → ⊥) → block ≡ header arity c ∷ take arity ws → ws' ≡ at ∷ drop arity ws → PutSays old new block (Ok at) →
    StackSays old new ws' (put_node old.program old.cap c arity (record { store = store_of old.state; words = ws })) (Ok tt)
block_says old new c arity at ws block ws' some b e (sound, (s, put, is)) = (
  s,
  node_is old.program old.cap c arity (record { store = store_of old.state; words = ws }) some
      ∙ ap (option_map (with_word (drop arity ws))) (ap (λ xs. put_block old.program old.cap xs (store_of old.state)) (sym b) ∙ put)
      ∙ ap (λ xs. Some (record { store = s; words = xs })) (sym e),
  is,
)

pub fault_says : (old new : MachineShown) (c arity : ℕ) (ws block ws' : List ℕ) (x : StoreFault) → (arity ≡ 0 → ⊥) → block ≡ header arity c ∷ take arity ws → PutSays old new block (Err x) →
    StackSays old new ws' (put_node old.program old.cap c arity (record { store = store_of old.state; words = ws })) (Err x)
fault_says old new c arity ws block ws' Exhausted some b (a, d, none) = (
  a,
  d,
  node_is old.program old.cap c arity (record { store = store_of old.state; words = ws }) some ∙ ap (option_map (with_word (drop arity ws))) (ap (λ xs. put_block old.program old.cap xs (store_of old.state)) (sym b) ∙ none),
)
fault_says old new c arity ws block ws' Failed some b h = h
fault_says old new c arity ws block ws' Memory some b h = tt

-- ---- words that are taken off

pub taken_more : (k : ℕ) (xs r : List ℕ) (x : ℕ) → drop k xs ≡ x ∷ r → (take (k + 1) xs ≡ take k xs ++ x ∷ []) × (drop (k + 1) xs ≡ r)
taken_more k xs r x e = rw add-one (cut k xs e)
  where
    cut : (k : ℕ) (xs : List ℕ) → drop k xs ≡ x ∷ r → (take (suc k) xs ≡ take k xs ++ x ∷ []) × (drop (suc k) xs ≡ r)
    cut zero [] e = cc
    cut zero (y ∷ ys) e = let h : y ≡ x = cc in let t : ys ≡ r = cc in (ap (λ z. z ∷ []) h, t)
    cut (suc k) [] e = cc
    cut (suc k) (y ∷ ys) e = let (a, b) = cut k ys e in (ap (λ z. y ∷ z) a, b)

pub popped_is : (k x : ℕ) (xs now rest : List ℕ) → reverse now ≡ drop k xs → now ≡ rest ++ x ∷ [] → drop k xs ≡ x ∷ reverse rest
popped_is k x xs now rest h e = sym h ∙ ap reverse e ∙ reverse-append rest (x ∷ [])

pub some_left : (k n : ℕ) (old now : List ℕ) → reverse now ≡ drop k (reverse old) → k < n → n ≤ length old → length now ≡ 0 → ⊥
some_left k n old now h lt le none =
    let a : length now ≡ length (drop k (reverse old)) = sym (length-reverse now) ∙ ap length h in
    let b = length-drop k (reverse old) in
    let d = length-reverse old in omega (arith, a, b, d, lt, le, none)

-- ---- how many words wait

pub none_left : (n : ℕ) → IsForest n [] → n ≡ 0
none_left zero h = refl
none_left (suc n) h = absurd h

node_counts : (m : Parts) (cap c arity k : ℕ) (b a' : Stacked) (rest : ℕ) → put_node m cap c arity b ≡ Some a' → length b.words ≡ arity + k + rest → length a'.words ≡ suc k + rest
node_counts m cap c zero k b a' rest e h = let w : a'.words ≡ (2 * c + 1) ∷ b.words = ap (λ (x : Stacked). x.words) (sym (same_Some _ _ e)) in omega (arith, h, ap length w)
node_counts m cap c (suc q) k b a' rest e h =
    let (p, hp, e1) = map_of (with_word (drop (suc q) b.words)) (put_block m cap (header (suc q) c ∷ take (suc q) b.words) b.store) a' e in
    let w : a'.words ≡ p.0 ∷ drop (suc q) b.words = ap (λ (x : Stacked). x.words) (sym e1) in
    omega (arith, h, ap length w, length-drop (suc q) b.words)

pub counts : (m : Parts) (cap : ℕ) (nodes : DataNodes) (n : ℕ) (a a' : Stacked) → IsForest n nodes → put_nodes m cap nodes a ≡ Some a' → length a'.words ≡ n + length a.words
counts m cap [] n a a' f e = let z = none_left n f in let w : a'.words ≡ a.words = ap (λ (x : Stacked). x.words) (sym (same_Some _ _ e)) in omega (arith, z, ap length w)
counts m cap (x ∷ rest) zero a a' f e = absurd f
counts m cap (x ∷ rest) (suc k) a a' f e =
    let (b, hb, e1) = some_of (put_node m cap x.0 x.1) (put_nodes m cap rest a) a' e in
    let h = counts m cap rest (x.1 + k) a b f hb in
    node_counts m cap x.0 x.1 k b a' (length a.words) e1 h

pub forest_from : (n i : ℕ) (xs : DataNodes) → IsForest n xs → (k : ℕ) × IsForest k (drop i xs)
forest_from n zero xs f = (n, f)
forest_from n (suc i) [] f = (n, f)
forest_from zero (suc i) (x ∷ xs) f = absurd f
forest_from (suc n) (suc i) (x ∷ xs) f = forest_from (x.1 + n) i xs f

node_here : (d : DataNodes) (i : ℕ) (x : ℕ × ℕ) → slice_get d i ≡ Some x → drop i d ≡ x ∷ drop (i + 1) d
node_here d i x e = drop_more d i x (slice_get_within d i x e) ∙ ap (λ y. y ∷ drop (i + 1) d) (get_or_from_slice_get d i x x e)

-- the words that a node's block takes are there
pub fields_wait : (old cur : MachineShown) (ws start : List ℕ) (d : DataNodes) (i : ℕ) (x : ℕ × ℕ) → IsForest 1 d → slice_get d i ≡ Some x →
    StackSays old cur ws (put_nodes old.program old.cap (drop (i + 1) d) (record { store = store_of old.state; words = start })) (Ok tt) → x.1 ≤ length ws
fields_wait old cur ws start d i x f e (s, put, is) =
    let (n, g) = forest_from 1 i d f in
    by n (subst (IsForest n) (node_here d i x e) g)
  where
    by : (n : ℕ) → IsForest n (x ∷ drop (i + 1) d) → x.1 ≤ length ws
    by zero h = absurd h
    by (suc k) h = let c = counts old.program old.cap (drop (i + 1) d) (x.1 + k) (record { store = store_of old.state; words = start }) (record { store = s; words = ws }) h put in omega (arith, c)

-- one more node
pub node_goes : (old cur new : MachineShown) (ws ws' start : List ℕ) (d : DataNodes) (i : ℕ) (x : ℕ × ℕ) (r : Result (Unit {0}) StoreFault) → slice_get d i ≡ Some x →
    StackSays old cur ws (put_nodes old.program old.cap (drop (i + 1) d) (record { store = store_of old.state; words = start })) (Ok tt) →
    StackSays cur new ws' (put_node cur.program cur.cap x.0 x.1 (record { store = store_of cur.state; words = ws })) r →
    StackSays old new ws' (put_nodes old.program old.cap (drop i d) (record { store = store_of old.state; words = start })) r
node_goes old cur new ws ws' start d i x r e h k =
    subst (λ ns. StackSays old new ws' (put_nodes old.program old.cap ns (record { store = store_of old.state; words = start })) r) (sym (node_here d i x e))
    (then_says old cur new ws ws' (put_nodes old.program old.cap (drop (i + 1) d) (record { store = store_of old.state; words = start })) (λ m cap. put_node m cap x.0 x.1) r h k)

-- one more tree
tree_here : (ds : List DataNodes) (i : ℕ) (x : DataNodes) → slice_get ds i ≡ Some x → drop i ds ≡ x ∷ drop (i + 1) ds
tree_here ds i x e = drop_more ds i x (slice_get_within ds i x e) ∙ ap (λ y. y ∷ drop (i + 1) ds) (get_or_from_slice_get ds i x x e)

pub tree_goes : (old cur new : MachineShown) (ws ws' start : List ℕ) (ds : List DataNodes) (i : ℕ) (x : DataNodes) (r : Result (Unit {0}) StoreFault) → slice_get ds i ≡ Some x →
    StackSays old cur ws (put_trees old.program old.cap (drop (i + 1) ds) (record { store = store_of old.state; words = start })) (Ok tt) →
    StackSays cur new ws' (put_nodes cur.program cur.cap x (record { store = store_of cur.state; words = ws })) r →
    StackSays old new ws' (put_trees old.program old.cap (drop i ds) (record { store = store_of old.state; words = start })) r
tree_goes old cur new ws ws' start ds i x r e h k =
    subst (λ ts. StackSays old new ws' (put_trees old.program old.cap ts (record { store = store_of old.state; words = start })) r) (sym (tree_here ds i x e))
    (then_says old cur new ws ws' (put_trees old.program old.cap (drop (i + 1) ds) (record { store = store_of old.state; words = start })) (λ m cap. put_nodes m cap x) r h k)

-- a fault ends all, wherever it comes
nodes_none : (m : Parts) (cap : ℕ) (a : Stacked) (i : ℕ) (d : DataNodes) → put_nodes m cap (drop i d) a ≡ None → put_nodes m cap d a ≡ None
nodes_none m cap a zero d e = e
nodes_none m cap a (suc i) [] e = e
nodes_none m cap a (suc i) (x ∷ d) e = ap (option_and_then (put_node m cap x.0 x.1)) (nodes_none m cap a i d e)

pub nodes_fault : (old new : MachineShown) (ws : List ℕ) (a : Stacked) (i : ℕ) (d : DataNodes) (x : StoreFault) → StackSays old new ws (put_nodes old.program old.cap (drop i d) a) (Err x) → StackSays old new ws (put_nodes old.program old.cap d a) (Err x)
nodes_fault old new ws a i d Exhausted (p, q, none) = (p, q, nodes_none old.program old.cap a i d none)
nodes_fault old new ws a i d Failed h = h
nodes_fault old new ws a i d Memory h = tt

trees_none : (m : Parts) (cap : ℕ) (a : Stacked) (i : ℕ) (ds : List DataNodes) → put_trees m cap (drop i ds) a ≡ None → put_trees m cap ds a ≡ None
trees_none m cap a zero ds e = e
trees_none m cap a (suc i) [] e = e
trees_none m cap a (suc i) (d ∷ ds) e = ap (option_and_then (put_nodes m cap d)) (trees_none m cap a i ds e)

pub trees_fault : (old new : MachineShown) (ws : List ℕ) (a : Stacked) (i : ℕ) (ds : List DataNodes) (x : StoreFault) → StackSays old new ws (put_trees old.program old.cap (drop i ds) a) (Err x) → StackSays old new ws (put_trees old.program old.cap ds a) (Err x)
trees_fault old new ws a i ds Exhausted (p, q, none) = (p, q, trees_none old.program old.cap a i ds none)
trees_fault old new ws a i ds Failed h = h
trees_fault old new ws a i ds Memory h = tt

-- before the first one
pub nodes_start : (old : MachineShown) (ws : List ℕ) (d : DataNodes) → StackSays old old ws (put_nodes old.program old.cap (drop (length d - 0) d) (record { store = store_of old.state; words = ws })) (Ok tt)
nodes_start old ws d = subst (λ ns. StackSays old old ws (put_nodes old.program old.cap ns (record { store = store_of old.state; words = ws })) (Ok tt)) (sym (drop_all (length d - 0) d (omega arith))) (first_says old ws)

pub trees_start : (old : MachineShown) (ws : List ℕ) (ds : List DataNodes) → StackSays old old ws (put_trees old.program old.cap (drop (length ds - 0) ds) (record { store = store_of old.state; words = ws })) (Ok tt)
trees_start old ws ds = subst (λ ts. StackSays old old ws (put_trees old.program old.cap ts (record { store = store_of old.state; words = ws })) (Ok tt)) (sym (drop_all (length ds - 0) ds (omega arith))) (first_says old ws)

-- one more tree of a list is one
pub trees_are : (ds : List DataNodes) (i : ℕ) (x : DataNodes) → slice_get ds i ≡ Some x → IsTree x → Each IsTree (drop (i + 1) ds) → Each IsTree (drop i ds)
trees_are ds i x e t r = subst (Each IsTree) (sym (tree_here ds i x e)) (t, r)

pub no_trees : (ds : List DataNodes) → Each IsTree (drop (length ds - 0) ds)
no_trees ds = subst (Each IsTree) (sym (drop_all (length ds - 0) ds (omega arith))) tt
