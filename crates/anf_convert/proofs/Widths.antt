-- No closure of the program in A-normal form is wider.
use Rattle.std.proofs.Common.{◌≡◌, ℕ, zero, suc, ◌+◌, ◌-◌, ◌<◌, ◌≤◌, List, [], ◌∷◌, ◌++◌, map, length, Bool, true, false, refl, sym, ap, ◌∙◌, subst as transport, ⊎_elim, arith}
use Rattle.std.proofs.lemmas.Bool.{eq-eqb, eqb-true, eqb-false, cases_lt, and_from, or_left, or_right, true≢false}
use Rattle.std.specs.Prelude.{nat_eq, nat_lt, ◌||◌, ◌&&◌, if◌then◌else◌}
use Rattle.trees.specs.Tree.{Rel, Done, Next}
use Rattle.pc_terms.specs.declared.leaf.Name.{Name}
use Rattle.box_terms.specs.BoxSyntax.{BoxTerm, BoxTerms, Box, BLambda, BLetIn, BApp, BConst, BConstruct, BCase, BFix}
use Rattle.lambda_box.specs.BoxProgram.{BoxProgram}
use Rattle.lambda_box.specs.ClosureEvaluation.{ClosureValue, ClosureEnv, Empty, Bind, BindFix, names, names_terms, words, one_if, any_below}
use Rattle.anf_convert.specs.Anf.{AnfOp, AnfBlock, AnfBranches, def_count}
use Rattle.anf_convert.specs.Captured.{Scope, Plain, Shared, depth, Word, Words, entry, words_of, plains, shares, atom_words, atoms_words, op_words, block_words, branches_words, defs_words, is_in, add_word, captured, lam_captured, fix_captured}
use Rattle.anf_convert.specs.AnfEvaluation.{AnfVals, count}
use Rattle.anf_convert.proofs.Scopes.{Each, each_join, each_map, captured_each}
use Rattle.anf_convert.specs.ToAnf.{Level, LVar, LBoxed, LEmpty, AnfBinding, AtomIs, OpIs, Res, RAtom, RCon, ROp, Norm, NamedResult, at_depth, binding_of, tail_of, block_of, sealed, with_variable, named, nth, levels, call, name_at, then_arg, then_body, then_case, norm, norm_branches, norm_defs}
use Rattle.anf_convert.specs.ToAnfKeeps.{AreUnder, Ready, ReadyTerms}
use Rattle.anf_convert.proofs.Levels.{ER, er_empty, er_bind, er_fix, nth_levels, nth_past}

abbrev binding_words : Scope → AnfBinding → List ℕ
binding_words s (AtomIs a) = atom_words s a
binding_words s (OpIs op) = op_words s op

-- a scope with more variables
data SExt (S : Scope) (D : ℕ) : Scope → ℕ → Type 0 where
  sext_same : SExt S D S D
  sext_push : {S' : Scope} {D' : ℕ} → SExt S D S' D' → SExt S D (Plain S') (suc D')
  sext_share : {S' : Scope} {D' : ℕ} {ws : List ℕ} → SExt S D S' D' → SExt S D (Shared ws S') (suc D')

sext_trans : {S : Scope} {D : ℕ} {S' : Scope} {D' : ℕ} {S'' : Scope} {D'' : ℕ} → SExt S D S' D' → SExt S' D' S'' D'' → SExt S D S'' D''
sext_trans x sext_same = x
sext_trans x (sext_push y) = sext_push (sext_trans x y)
sext_trans x (sext_share y) = sext_share (sext_trans x y)

sext_depth : {S : Scope} {D : ℕ} {S' : Scope} {D' : ℕ} → SExt S D S' D' → depth S ≤ depth S'
sext_depth sext_same = omega arith
sext_depth (sext_push x) = omega (arith, sext_depth x)
sext_depth (sext_share x) = sext_depth x

-- the words of the variable at a level have the property
data Fine (Q : ℕ → Type 0) (S : Scope) (D : ℕ) : Level → Type 0 where
  fine_var : {x : ℕ} → x < D → Each Q (words_of (entry S (D - suc x))) → Fine Q S D (LVar x)
  fine_box : Fine Q S D LBoxed
  fine_empty : {c : ℕ} → Fine Q S D (LEmpty c)

fine_push : {Q : ℕ → Type 0} {S : Scope} {D : ℕ} {a : Level} → Fine Q S D a → Fine Q (Plain S) (suc D) a
fine_push {Q} {S} {D} (fine_var {x = x} lt h) = let one : suc (D - suc x) ≡ suc D - suc x = omega arith in fine_var (omega arith) (transport (λ z. Each Q (words_of (entry (Plain S) z))) one h)
fine_push fine_box = fine_box
fine_push fine_empty = fine_empty

fine_share : {Q : ℕ → Type 0} {S : Scope} {D : ℕ} {a : Level} (ws : List ℕ) → Fine Q S D a → Fine Q (Shared ws S) (suc D) a
fine_share {Q} {S} {D} ws (fine_var {x = x} lt h) = let one : suc (D - suc x) ≡ suc D - suc x = omega arith in fine_var (omega arith) (transport (λ z. Each Q (words_of (entry (Shared ws S) z))) one h)
fine_share ws fine_box = fine_box
fine_share ws fine_empty = fine_empty

fine_ext : {Q : ℕ → Type 0} {S : Scope} {D : ℕ} {a : Level} {S' : Scope} {D' : ℕ} → SExt S D S' D' → Fine Q S D a → Fine Q S' D' a
fine_ext sext_same h = h
fine_ext (sext_push x) h = fine_push (fine_ext x h)
fine_ext (sext_share {ws = ws} x) h = fine_share ws (fine_ext x h)

fine_map : {Q R : ℕ → Type 0} {S : Scope} {D : ℕ} {a : Level} → ((y : ℕ) → Q y → R y) → Fine Q S D a → Fine R S D a
fine_map {Q} {R} f (fine_var lt h) = fine_var lt (each_map Q R f _ h)
fine_map f fine_box = fine_box
fine_map f fine_empty = fine_empty

fine_atom : {Q : ℕ → Type 0} {S : Scope} {D : ℕ} {a : Level} (d : ℕ) → D ≡ d → Fine Q S D a → Each Q (atom_words S (at_depth d a))
fine_atom {Q} {S} {D} d eq (fine_var {x = x} lt h) = transport (λ z. Each Q (words_of (entry S (z - suc x)))) eq h
fine_atom d eq fine_box = tt
fine_atom d eq fine_empty = tt

data AllFine (Q : ℕ → Type 0) (S : Scope) (D : ℕ) : List Level → Type 0 where
  fine_none : AllFine Q S D []
  fine_more : {a : Level} {as' : List Level} → Fine Q S D a → AllFine Q S D as' → AllFine Q S D (a ∷ as')

all_ext : {Q : ℕ → Type 0} {S : Scope} {D : ℕ} {as' : List Level} {S' : Scope} {D' : ℕ} → SExt S D S' D' → AllFine Q S D as' → AllFine Q S' D' as'
all_ext x fine_none = fine_none
all_ext x (fine_more h hs) = fine_more (fine_ext x h) (all_ext x hs)

fine_atoms : {Q : ℕ → Type 0} {S : Scope} {D : ℕ} {as' : List Level} (d : ℕ) → D ≡ d → AllFine Q S D as' → Each Q (atoms_words S (map (at_depth d) as'))
fine_atoms d eq fine_none = tt
fine_atoms {Q} {S} d eq (fine_more {a = a} h hs) = each_join Q (atom_words S (at_depth d a)) _ (fine_atom d eq h) (fine_atoms d eq hs)

data ResFine (Q : ℕ → Type 0) (S : Scope) (D : ℕ) : Res → Type 0 where
  res_atom : {a : Level} → Fine Q S D a → ResFine Q S D (RAtom a)
  res_con : {c : ℕ} {as' : List Level} → AllFine Q S D as' → ResFine Q S D (RCon c as')
  res_op : {op : AnfOp} → Each Q (op_words S op) → ResFine Q S D (ROp op)

data OpsFine (Q : ℕ → Type 0) : Scope → ℕ → List AnfBinding → Scope → ℕ → Type 0 where
  ops_none : {S : Scope} {D : ℕ} → OpsFine Q S D [] S D
  ops_more : {S S' : Scope} {D D' : ℕ} {p : AnfBinding} {ps : List AnfBinding} → Each Q (binding_words S p) → OpsFine Q (Plain S) (suc D) ps S' D' → OpsFine Q S D (p ∷ ps) S' D'

ops_ext : {Q : ℕ → Type 0} {S S' : Scope} {D D' : ℕ} {ps : List AnfBinding} → OpsFine Q S D ps S' D' → SExt S D S' D'
ops_ext ops_none = sext_same
ops_ext (ops_more h hs) = sext_trans (sext_push sext_same) (ops_ext hs)

ops_deep : {Q : ℕ → Type 0} {S S' : Scope} {D D' : ℕ} {ps : List AnfBinding} → OpsFine Q S D ps S' D' → D' ≡ D + length ps
ops_deep ops_none = omega arith
ops_deep (ops_more h hs) = omega (arith, ops_deep hs)

ops_then : {Q : ℕ → Type 0} {S S' S'' : Scope} {D D' D'' : ℕ} {ps qs : List AnfBinding} → OpsFine Q S D ps S' D' → OpsFine Q S' D' qs S'' D'' → OpsFine Q S D (ps ++ qs) S'' D''
ops_then ops_none g = g
ops_then (ops_more h hs) g = ops_more h (ops_then hs g)

record NormFine (Q : ℕ → Type 0) (S : Scope) (D : ℕ) (n : Norm) : Type 0 where
  S' : Scope
  D' : ℕ
  ops : OpsFine Q S D n.ops S' D'
  res : ResFine Q S' D' n.res

record NameFine (Q : ℕ → Type 0) (S : Scope) (D : ℕ) (n : NamedResult) : Type 0 where
  S' : Scope
  D' : ℕ
  ops : OpsFine Q S D n.ops S' D'
  at : Fine Q S' D' n.atom

binding_fine : {Q : ℕ → Type 0} {S : Scope} {D : ℕ} {res : Res} (d : ℕ) → D ≡ d → ResFine Q S D res → Each Q (binding_words S (binding_of d res))
binding_fine d eq (res_atom h) = fine_atom d eq h
binding_fine d eq (res_con fine_none) = tt
binding_fine d eq (res_con (fine_more h hs)) = fine_atoms d eq (fine_more h hs)
binding_fine d eq (res_op h) = h

tail_fine : (Q : ℕ → Type 0) (S : Scope) (p : AnfBinding) → Each Q (binding_words S p) → Each Q (block_words S (tail_of p))
tail_fine Q S (AtomIs a) h = h
tail_fine Q S (OpIs op) h = h

block_fine : {Q : ℕ → Type 0} {S S' : Scope} {D D' : ℕ} {ps : List AnfBinding} (t : AnfBlock) → OpsFine Q S D ps S' D' → Each Q (block_words S' t) → Each Q (block_words S (block_of ps t))
block_fine t ops_none g = g
block_fine {Q} {S} t (ops_more {p = AtomIs a} h hs) g = each_join Q (atom_words S a) _ h (block_fine t hs g)
block_fine {Q} {S} t (ops_more {p = OpIs op} h hs) g = each_join Q (op_words S op) _ h (block_fine t hs g)

seal_fine : {Q : ℕ → Type 0} {S : Scope} {n : Norm} (D : ℕ) → NormFine Q S D n → Each Q (block_words S (sealed D n))
seal_fine {Q} {n = n} D h = block_fine _ h.ops (tail_fine Q h.S' (binding_of (D + length n.ops) n.res) (binding_fine (D + length n.ops) (ops_deep h.ops) h.res))

-- the words of the variables of a set
record EnvFine (Q : ℕ → Type 0) (S : Scope) (D : ℕ) (env : List Level) (N : ℕ → Bool) : Type 0 where
  at : (i : ℕ) → N i ≡ true → Fine Q S D (nth env i)

env_sub : {Q : ℕ → Type 0} {S : Scope} {D : ℕ} {env : List Level} {M N : ℕ → Bool} → ((i : ℕ) → M i ≡ true → N i ≡ true) → EnvFine Q S D env N → EnvFine Q S D env M
env_sub f h = record { at = λ i is. h.at i (f i is) }

env_ext : {Q : ℕ → Type 0} {S : Scope} {D : ℕ} {env : List Level} {N : ℕ → Bool} {S' : Scope} {D' : ℕ} → SExt S D S' D' → EnvFine Q S D env N → EnvFine Q S' D' env N
env_ext x h = record { at = λ i is. fine_ext x (h.at i is) }

env_as : {Q : ℕ → Type 0} {S : Scope} {D d : ℕ} {env : List Level} {N : ℕ → Bool} → D ≡ d → EnvFine Q S D env N → EnvFine Q S d env N
env_as {Q} {S} {env = env} {N} eq h = transport (λ z. EnvFine Q S z env N) eq h

env_let : {Q : ℕ → Type 0} {S : Scope} {D : ℕ} {env : List Level} {a : Level} (N : ℕ → Bool) (d : ℕ) → D ≡ d → Fine Q S D a → EnvFine Q S D env (λ i. N (suc i)) → EnvFine Q S d (a ∷ env) N
env_let {Q} {S} {D} {env} {a} N d eq at h = env_as eq (record { at = go })
  where
    go : (i : ℕ) → N i ≡ true → Fine Q S D (nth (a ∷ env) i)
    go zero is = at
    go (suc i) is = h.at i is

module _ (Q : ℕ → Type 0) (k0 : ℕ) (high : (y : ℕ) → k0 ≤ y → Q y) where
  fine_top : (S : Scope) (D d : ℕ) → D ≡ d → k0 ≤ depth S → Fine Q (Plain S) (suc D) (LVar d)
  fine_top S D d eq le = let z : 0 ≡ suc D - suc d = omega arith in fine_var (omega arith) (transport (λ i. Each Q (words_of (entry (Plain S) i))) z (high (depth S) le, tt))

  with_fine : {S S' : Scope} {D D' : ℕ} {ps : List AnfBinding} {res : Res} → k0 ≤ depth S' → OpsFine Q S D ps S' D' → ResFine Q S' D' res → NameFine Q S D (with_variable D ps res)
  with_fine {S' = S'} {D} {D'} {ps} low os r =
      let eq = ops_deep os in
      record { S' = Plain S'; D' = suc D'; ops = ops_then os (ops_more (binding_fine (D + length ps) eq r) ops_none); at = fine_top S' D' (D + length ps) eq low }

  name_fine : {S S' : Scope} {D D' : ℕ} {ps : List AnfBinding} {res : Res} → k0 ≤ depth S' → OpsFine Q S D ps S' D' → ResFine Q S' D' res → NameFine Q S D (named D ps res)
  name_fine low os (res_atom h) = record { S' = _; D' = _; ops = os; at = h }
  name_fine low os (res_con fine_none) = record { S' = _; D' = _; ops = os; at = fine_empty }
  name_fine low os (res_con (fine_more h hs)) = with_fine low os (res_con (fine_more h hs))
  name_fine low os (res_op h) = with_fine low os (res_op h)

  -- what the argument becomes, wherever it stands
  abbrev ArgFine : Scope → ℕ → (ℕ → Norm) → Type 0
  ArgFine S D arg = (S' : Scope) (D' d : ℕ) → SExt S D S' D' → D' ≡ d → NormFine Q S' d (arg d)

  low_ext : {S S' : Scope} {D D' : ℕ} → k0 ≤ depth S → SExt S D S' D' → k0 ≤ depth S'
  low_ext low x = omega (arith, sext_depth x)

  call_fine : {S S' : Scope} {D D' : ℕ} {ops : List AnfBinding} {a : Level} (arg : ℕ → Norm) → k0 ≤ depth S' → OpsFine Q S D ops S' D' → Fine Q S' D' a → ((d : ℕ) → D' ≡ d → NormFine Q S' d (arg d)) → NormFine Q S D (call D ops a (name_at arg (D + length ops)))
  call_fine {S} {S'} {D} {D'} {ops} {a} arg low os at next =
      let deep = ops_deep os in
      let n = next (D + length ops) deep in
      let m = name_fine (low_ext low (ops_ext n.ops)) n.ops n.res in
      let os' : OpsFine Q S D ops S' (D + length ops) = transport (λ z. OpsFine Q S D ops S' z) deep os in
      let at' : Fine Q S' (D + length ops) a = transport (λ z. Fine Q S' z a) deep at in
      let deeper = ops_deep m.ops in
      record { S' = m.S'; D' = m.D'; ops = ops_then os' m.ops; res = res_op (each_join Q (atom_words m.S' (at_depth (D + length ops + length (name_at arg (D + length ops)).ops) a)) _ (fine_atom _ deeper (fine_ext (ops_ext m.ops) at')) (fine_atom _ deeper m.at)) }

  arg_fine : {S S' : Scope} {D D' : ℕ} {ops : List AnfBinding} {res : Res} (arg : ℕ → Norm) → k0 ≤ depth S' → OpsFine Q S D ops S' D' → ResFine Q S' D' res → ArgFine S D arg → NormFine Q S D (then_arg D ops res arg)
  arg_fine {S' = S'} {D' = D'} arg low os (res_atom h) next = call_fine arg low os h (λ d eq. next S' D' d (ops_ext os) eq)
  arg_fine {S} {S'} {D} {D'} {ops} arg low os (res_con {as' = as'} hs) next =
      let deep = ops_deep os in
      let n = next S' D' (D + length ops) (ops_ext os) deep in
      let m = name_fine (low_ext low (ops_ext n.ops)) n.ops n.res in
      let os' : OpsFine Q S D ops S' (D + length ops) = transport (λ z. OpsFine Q S D ops S' z) deep os in
      let hs' = transport (λ z. AllFine Q S' z as') deep hs in
      record { S' = m.S'; D' = m.D'; ops = ops_then os' m.ops; res = res_con (fine_more m.at (all_ext (ops_ext m.ops) hs')) }
  arg_fine {S' = S'} {D} {D'} {ops} arg low os (res_op {op = op} h) next =
      let deep = ops_deep os in
      let os' = ops_then os (ops_more {p = OpIs op} h ops_none) in
      call_fine arg (omega arith) os' (fine_top S' D' (D + length ops) deep low) (λ d eq. next (Plain S') (suc D') d (ops_ext os') eq)

  env_push : {S : Scope} {D : ℕ} {env : List Level} (N : ℕ → Bool) (d : ℕ) → D ≡ d → k0 ≤ depth S → EnvFine Q S D env (λ i. N (suc i)) → EnvFine Q (Plain S) (suc D) (LVar d ∷ env) N
  env_push {S} {D} {env} N d eq low h = record { at = go }
    where
      go : (i : ℕ) → N i ≡ true → Fine Q (Plain S) (suc D) (nth (LVar d ∷ env) i)
      go zero is = fine_top S D d eq low
      go (suc i) is = fine_push (h.at i is)

  plains_low : (n : ℕ) (S : Scope) → k0 ≤ depth S → k0 ≤ depth (plains n S)
  plains_low zero S low = low
  plains_low (suc n) S low = omega (arith, plains_low n S low)

  env_plains : {S : Scope} {env : List Level} (N : ℕ → Bool) (D n D' : ℕ) → D' ≡ D + n → k0 ≤ depth S → EnvFine Q S D env (λ i. N (n + i)) → EnvFine Q (plains n S) D' (levels D n env) N
  env_plains N D zero D' eq low h = env_as (omega arith) (env_sub (λ i is. ap N (omega arith) ∙ is) h)
  env_plains N D (suc n) zero eq low h = absurd (omega arith)
  env_plains {S} N D (suc n) (suc D') eq low h =
      env_push N (D + n) (omega arith) (plains_low n S low) (env_plains (λ j. N (suc j)) D n D' (omega arith) low (env_sub (λ j js. ap N (omega arith) ∙ js) h))

env_shares : {Q : ℕ → Type 0} {S : Scope} {env : List Level} (N : ℕ → Bool) (D n D' : ℕ) → D' ≡ D + n → EnvFine Q S D env (λ i. N (n + i)) → EnvFine Q (shares [] n S) D' (levels D n env) N
env_shares N D zero D' eq h = env_as (omega arith) (env_sub (λ i is. ap N (omega arith) ∙ is) h)
env_shares N D (suc n) zero eq h = absurd (omega arith)
env_shares {Q} {S} {env} N D (suc n) (suc D') eq h = record { at = go (env_shares (λ j. N (suc j)) D n D' (omega arith) (env_sub (λ j js. ap N (omega arith) ∙ js) h)) }
  where
    go : EnvFine Q (shares [] n S) D' (levels D n env) (λ j. N (suc j)) → (i : ℕ) → N i ≡ true → Fine Q (shares [] (suc n) S) (suc D') (nth (levels D (suc n) env) i)
    go r zero is = let z : 0 ≡ suc D' - suc (D + n) = omega arith in fine_var (omega arith) (transport (λ i. Each Q (words_of (entry (Shared [] (shares [] n S)) i))) z tt)
    go r (suc i) is = fine_share [] (r.at i is)

module _ (Q : ℕ → Type 0) (k0 : ℕ) (high : (y : ℕ) → k0 ≤ y → Q y) where
  shares_low : (n : ℕ) (S : Scope) → k0 ≤ depth S → k0 ≤ depth (shares [] n S)
  shares_low zero S low = low
  shares_low (suc n) S low = shares_low n S low

  body_fine : {S : Scope} {n : NamedResult} (r : ℕ → Level → Norm) (D : ℕ) (h : NameFine Q S D n) → ((d : ℕ) → h.D' ≡ d → NormFine Q h.S' d (r d n.atom)) → NormFine Q S D (then_body D n r)
  body_fine {S} {n} r D h next =
      let deep = ops_deep h.ops in
      let x = next (D + length n.ops) deep in
      record { S' = x.S'; D' = x.D'; ops = ops_then (transport (λ z. OpsFine Q S D n.ops h.S' z) deep h.ops) x.ops; res = x.res }

  case_fine : {S : Scope} {n : NamedResult} (bs : ℕ → AnfBranches) (D : ℕ) (h : NameFine Q S D n) → ((d : ℕ) → h.D' ≡ d → Each Q (branches_words h.S' (bs d))) → NormFine Q S D (then_case D n bs)
  case_fine {n = n} bs D h next =
      let deep = ops_deep h.ops in
      record { S' = h.S'; D' = h.D'; ops = h.ops; res = res_op (each_join Q (atom_words h.S' (at_depth (D + length n.ops) n.atom)) _ (fine_atom (D + length n.ops) deep h.at) (next (D + length n.ops) deep)) }

module _ (K : Name → ℕ) (env : List Level) (d n : ℕ) where
  total_cons : (m : ℕ) (rest : BoxTerms) (t : BoxTerm) → def_count (norm_defs K env d n (Next m t rest)) ≡ suc (def_count (norm_defs K env d n rest))
  total_cons m rest (BLambda t) = refl
  total_cons m rest t = refl

  pub def_total : (k : ℕ) (rs : List ℕ) (bodies : BoxTerms) → AreUnder k rs bodies → def_count (norm_defs K env d n bodies) ≡ length rs
  def_total k [] Done under = refl
  def_total k [] (Next m t rest) under = absurd under
  def_total k (r ∷ rs) Done under = absurd under
  def_total k (r ∷ rs) (Next m t rest) under = total_cons m rest t ∙ ap suc (def_total k rs rest under.1)

-- what names of a part are names of the whole
name_at_zero : (t : BoxTerm) (i : ℕ) → names t i ≡ true → names t (0 + i) ≡ true
name_at_zero t i h = let z : 0 + i ≡ i = omega arith in ap (names t) z ∙ h

name_under_one : (t : BoxTerm) (i : ℕ) → names t (suc i) ≡ true → names t (1 + i) ≡ true
name_under_one t i h = let z : 1 + i ≡ suc i = omega arith in ap (names t) z ∙ h

module _ (P : BoxProgram) (K : Name → ℕ) (Q : ℕ → Type 0) (k0 : ℕ) (high : (y : ℕ) → k0 ≤ y → Q y) where
  mutual
    norm_fine : {S : Scope} {env : List Level} (D : ℕ) (t : BoxTerm) → Ready P t → EnvFine Q S D env (names t) → k0 ≤ depth S → NormFine Q S D (norm K env D t)
    norm_fine D (Rel i) ok env low = record { S' = _; D' = D; ops = ops_none; res = res_atom (env.at i (eq-eqb i i refl)) }
    norm_fine D Box ok env low = record { S' = _; D' = D; ops = ops_none; res = res_atom fine_box }
    norm_fine {S} D (BLambda b) ok env low =
        record { S' = S; D' = D; ops = ops_none; res = res_op (seal_fine (suc D) (norm_fine (suc D) b ok.1.0 (env_push Q k0 high (names b) D refl low (env_sub (λ i is. or_left _ false (name_under_one b i is)) env)) (omega arith))) }
    norm_fine {env = vars} D (BLetIn a b) ok env low =
        let x = norm_fine D a ok.1.0 (env_sub (λ i is. or_left _ (names b (1 + i) || false) (name_at_zero a i is)) env) low in
        let m = with_fine Q k0 high (low_ext Q k0 high low (ops_ext x.ops)) x.ops x.res in
        body_fine Q k0 high (λ d' l. norm K (l ∷ vars) d' b) D m (λ d eq. norm_fine d b ok.1.1.0 (env_let (names b) d eq m.at (env_ext (ops_ext m.ops) (env_sub (λ i is. or_right (names a (0 + i)) _ (or_left _ false (name_under_one b i is))) env))) (low_ext Q k0 high low (ops_ext m.ops)))
    norm_fine {env = vars} D (BApp f a) ok env low =
        let x = norm_fine D f ok.1.0 (env_sub (λ i is. or_left _ (names a (0 + i) || false) (name_at_zero f i is)) env) low in
        arg_fine Q k0 high (λ d'. norm K vars d' a) (low_ext Q k0 high low (ops_ext x.ops)) x.ops x.res (λ S' D' d ext eq. norm_fine d a ok.1.1.0 (env_as eq (env_ext ext (env_sub (λ i is. or_right (names f (0 + i)) _ (or_left _ false (name_at_zero a i is))) env))) (low_ext Q k0 high low ext))
    norm_fine D (BConst k) ok env low = record { S' = _; D' = D; ops = ops_none; res = res_op tt }
    norm_fine D (BConstruct f c) ok env low = record { S' = _; D' = D; ops = ops_none; res = res_con fine_none }
    norm_fine {env = vars} D (BCase f t bs) ok env low =
        let x = norm_fine D t ok.1.0 (env_sub (λ i is. or_left _ (names_terms bs i || false) (name_at_zero t i is)) env) low in
        let m = name_fine Q k0 high (low_ext Q k0 high low (ops_ext x.ops)) x.ops x.res in
        case_fine Q k0 high (λ d'. norm_branches K vars d' bs) D m (λ d eq. branches_fine d bs ok.1.1.0 (env_as eq (env_ext (ops_ext m.ops) (env_sub (λ i is. or_right (names t (0 + i)) _ (or_left _ false is)) env))) (low_ext Q k0 high low (ops_ext m.ops)))
    norm_fine {S} {env = vars} D (BFix i rargs bodies) ok env low =
        let n = length rargs in
        let all = defs_fine D n rargs bodies ok.0 ok.1.0 (env_sub (λ j js. or_left _ false js) env) low in
        record { S' = S; D' = D; ops = ops_none; res = res_op (transport (λ z. Each Q (defs_words (shares [] z S) (norm_defs K vars D n bodies))) (sym (def_total K vars D n n rargs bodies ok.0)) all) }

    branches_fine : {S : Scope} {env : List Level} (D : ℕ) (bs : BoxTerms) → ReadyTerms P bs → EnvFine Q S D env (names_terms bs) → k0 ≤ depth S → Each Q (branches_words S (norm_branches K env D bs))
    branches_fine D Done ok env low = tt
    branches_fine {S} {env = vars} D (Next n t rest) ok env low =
        each_join Q (block_words (plains n S) (sealed (D + n) (norm K (levels D n vars) (D + n) t))) _
        (seal_fine (D + n) (norm_fine (D + n) t ok.0 (env_plains Q k0 high (names t) D n (D + n) refl low (env_sub (λ i is. or_left _ (names_terms rest i) is) env)) (plains_low Q k0 high n S low)))
        (branches_fine D rest ok.1 (env_sub (λ i is. or_right (names t (n + i)) _ is) env) low)

    defs_fine : {S : Scope} {env : List Level} (D n : ℕ) (rs : List ℕ) (bodies : BoxTerms) → AreUnder n rs bodies → ReadyTerms P bodies → EnvFine Q S D env (names_terms bodies) → k0 ≤ depth S → Each Q (defs_words (shares [] n S) (norm_defs K env D n bodies))
    defs_fine D n [] Done under ok env low = tt
    defs_fine D n [] (Next m b rest) under ok env low = absurd under
    defs_fine D n (r ∷ rs) Done under ok env low = absurd under
    defs_fine {S} {env = vars} D n (r ∷ rs) (Next m (BLambda b) rest) under ok env low =
        let inner = env_sub {M = λ i. names b (suc (n + i))} (λ i is. or_left _ (names_terms rest i) (or_left _ false (let z : 1 + (m + i) ≡ suc (n + i) = omega (arith, under.0) in ap (names b) z ∙ is))) env in
        each_join Q (block_words (Plain (shares [] n S)) (sealed (suc (D + n)) (norm K (LVar (D + n) ∷ levels D n vars) (suc (D + n)) b))) _
        (seal_fine (suc (D + n)) (norm_fine (suc (D + n)) b ok.0.1.0 (env_push Q k0 high (names b) (D + n) refl (shares_low Q k0 high n S low) (env_shares (λ i. names b (suc i)) D n (D + n) refl inner)) (omega (arith, shares_low Q k0 high n S low))))
        (defs_fine D n rs rest under.1 ok.1 (env_sub (λ i is. or_right (names (BLambda b) (m + i)) _ is) env) low)
    defs_fine {S} {env = vars} D n (r ∷ rs) (Next m b rest) under ok env low = defs_fine D n rs rest under.1 ok.1 (env_sub (λ i is. or_right (names b (m + i)) _ is) env) low

-- the word is one of a set of variables; `ys` has the words of the variables that aren't a fixpoint's
data InWords : ClosureEnv → (ℕ → Bool) → List ℕ → ℕ → Type 0 where
  in_here : {v : ClosureValue} {e : ClosureEnv} {N : ℕ → Bool} {y z : ℕ} {ys : List ℕ} → N 0 ≡ true → z ≡ y → InWords (Bind v e) N (y ∷ ys) z
  in_later : {v : ClosureValue} {e : ClosureEnv} {N : ℕ → Bool} {y z : ℕ} {ys : List ℕ} → InWords e (λ i. N (suc i)) ys z → InWords (Bind v e) N (y ∷ ys) z
  in_fix : {rargs : List ℕ} {bodies : BoxTerms} {e : ClosureEnv} {N : ℕ → Bool} {z : ℕ} {ys : List ℕ} → InWords e (λ i. N (length rargs + i) || (any_below (length rargs) N && names_terms bodies i)) ys z → InWords (BindFix rargs bodies e) N ys z

any_true : (n i : ℕ) (N : ℕ → Bool) → i < n → N i ≡ true → any_below n N ≡ true
any_true zero i N lt h = absurd (omega arith)
any_true (suc n) i N lt h =
    ⊎_elim
    (λ below. or_right (N n) _ (any_true n i N below h))
    (λ above. let same : n ≡ i = omega arith in or_left _ (any_below n N) (ap N same ∙ h))
    (cases_lt i n)

fine_words : {Q : ℕ → Type 0} {s : Scope} {d x : ℕ} (ws : List ℕ) (i : ℕ) → x < d → i ≡ d - suc x → entry s i ≡ Words ws → Each Q ws → Fine Q s d (LVar x)
fine_words {Q} {s} {d} {x} ws i lt eq is h = fine_var lt (transport (λ z. Each Q (words_of z)) (sym (ap (entry s) (sym eq) ∙ is)) h)

fine_word : {Q : ℕ → Type 0} {s : Scope} {d x : ℕ} (y i : ℕ) → x < d → i ≡ d - suc x → entry s i ≡ Word y → Q y → Fine Q s d (LVar x)
fine_word {Q} {s} {d} {x} y i lt eq is h = fine_var lt (transport (λ z. Each Q (words_of z)) (sym (ap (entry s) (sym eq) ∙ is)) (h, tt))

-- the set of variables outside a fixpoint that a set names
abbrev past : (ℕ → Bool) → List ℕ → BoxTerms → ℕ → Bool
past N rargs bodies i = N (length rargs + i) || (any_below (length rargs) N && names_terms bodies i)

-- the words of a fixpoint's variable
fix_words_in : (P : BoxProgram) (K : Name → ℕ) {e : ClosureEnv} (env : List Level) {ys : List ℕ} {s : Scope} (rargs : List ℕ) (bodies : BoxTerms) (d : ℕ) (N : ℕ → Bool) → AreUnder (length rargs) rargs bodies → ReadyTerms P bodies → any_below (length rargs) N ≡ true →
    ((k : ℕ) → past N rargs bodies k ≡ true → Fine (λ z. InWords e (past N rargs bodies) ys z) s d (nth env k)) → Each (λ z. InWords (BindFix rargs bodies e) N ys z) (fix_captured s (norm_defs K env d (length rargs) bodies))
fix_words_in P K {e} env {ys} {s} rargs bodies d N under ok any inner =
    let n = length rargs in
    let ds = norm_defs K env d n bodies in
    let vars : EnvFine (λ z. z < depth s → InWords (BindFix rargs bodies e) N ys z) s d env (names_terms bodies) = record { at = λ k ks. fine_map (λ z q lt. in_fix q) (inner k (or_right (N (length rargs + k)) _ (and_from _ _ any ks))) } in
    let all = defs_fine P K (λ z. z < depth s → InWords (BindFix rargs bodies e) N ys z) (depth s) (λ y le lt. absurd (omega arith)) d n rargs bodies under ok vars (omega arith) in
    captured_each (λ z. InWords (BindFix rargs bodies e) N ys z) (depth s) (defs_words (shares [] (def_count ds) s) ds)
    (transport (λ m. Each (λ z. z < depth s → InWords (BindFix rargs bodies e) N ys z) (defs_words (shares [] m s) ds)) (sym (def_total K env d n n rargs bodies under)) all)

-- the words of a variable of the set are of the set
in_words : {P : BoxProgram} {K : Name → ℕ} {e : ClosureEnv} {env : List Level} {ys : List ℕ} {s : Scope} {w : AnfVals} (d : ℕ) (N : ℕ → Bool) (i : ℕ) → d ≡ count w → ER P K e env ys s w → N i ≡ true → Fine (λ z. InWords e N ys z) s d (nth env i)
in_words d N i eq er_empty is = fine_box
in_words {w = w} d N zero eq (er_bind {v = v} {e = e} {x = x} {y = y} {ys = ys} h at er) is = let lt = at.below in fine_word {Q = λ z. InWords (Bind v e) N (y ∷ ys) z} y (count w - suc x) (omega arith) (omega arith) at.scope (in_here is refl)
in_words d N (suc i) eq (er_bind h at er) is = fine_map (λ z q. in_later q) (in_words d (λ j. N (suc j)) i eq er is)
in_words {P} {K} {s = s} {w = w} d N i eq (er_fix {rargs = rargs} {bodies = bodies} {e = e} {env = env} {ys = ys} {s' = s'} {w' = w'} {d' = d'} {all = all} d0 num under ok er' is' group er) is =
    transport (λ z. Fine (λ y. InWords (BindFix rargs bodies e) N ys y) s d (nth z i)) (sym is')
    (⊎_elim (λ lt. own lt (λ k ks. in_words d' (past N rargs bodies) k num er' ks)) (λ le. outer le (λ j js. in_words d (past N rargs bodies) j eq er js)) (cases_lt i (length rargs)))
  where
    own : i < length rargs → ((k : ℕ) → past N rargs bodies k ≡ true → Fine (λ z. InWords e (past N rargs bodies) ys z) s' d' (nth env k)) → Fine (λ y. InWords (BindFix rargs bodies e) N ys y) s d (nth (levels d0 (length rargs) env) i)
    own lt inner =
        let j = length rargs - suc i in
        let at = group j (omega arith) in
        let below = at.below in
        transport (λ z. Fine (λ y. InWords (BindFix rargs bodies e) N ys y) s d z) (sym (nth_levels d0 (length rargs) i j env (omega arith)))
        (fine_words {Q = λ y. InWords (BindFix rargs bodies e) N ys y} (fix_captured s' (norm_defs K env d' (length rargs) bodies)) (count w - suc (d0 + j)) (omega arith) (omega arith) at.scope (fix_words_in P K env rargs bodies d' N under ok (any_true (length rargs) i N lt is) inner))

    outer : length rargs ≤ i → ((j : ℕ) → past N rargs bodies j ≡ true → Fine (λ z. InWords e (past N rargs bodies) ys z) s d (nth env j)) → Fine (λ y. InWords (BindFix rargs bodies e) N ys y) s d (nth (levels d0 (length rargs) env) i)
    outer le rec =
        let j = i - length rargs in
        let same : length rargs + j ≡ i = omega arith in
        transport (λ z. Fine (λ y. InWords (BindFix rargs bodies e) N ys y) s d z) (sym (nth_past d0 (length rargs) i j env (omega arith)))
        (fine_map (λ z q. in_fix q) (rec j (or_left _ (any_below (length rargs) N && names_terms bodies j) (ap N same ∙ is))))

-- a list of distinct words
data Distinct : List ℕ → Type 0 where
  distinct_none : Distinct []
  distinct_more : {x : ℕ} {xs : List ℕ} → is_in x xs ≡ false → Distinct xs → Distinct (x ∷ xs)

captured_distinct : (d : ℕ) (xs : List ℕ) → Distinct (captured d xs)
captured_distinct d [] = distinct_none
captured_distinct d (x ∷ xs) = added (nat_lt x d) (captured_distinct d xs)
  where
    put : (b : Bool) (ws : List ℕ) → is_in x ws ≡ b → Distinct ws → Distinct (if b then ws else x ∷ ws)
    put true ws e h = h
    put false ws e h = distinct_more e h

    added : {ws : List ℕ} (b : Bool) → Distinct ws → Distinct (add_word b x ws)
    added {ws} true h = put (is_in x ws) ws refl h
    added false h = h

-- without a word
abbrev drop_word : ℕ → List ℕ → List ℕ
drop_word y [] = []
drop_word y (x ∷ xs) = if nat_eq y x then drop_word y xs else x ∷ drop_word y xs

drop_none : (y : ℕ) (xs : List ℕ) → is_in y xs ≡ false → drop_word y xs ≡ xs
drop_none y [] e = refl
drop_none y (x ∷ xs) e = go (nat_eq y x) e (drop_none y xs)
  where
    go : (b : Bool) → (if b then true else is_in y xs) ≡ false → (is_in y xs ≡ false → drop_word y xs ≡ xs) → (if b then drop_word y xs else x ∷ drop_word y xs) ≡ x ∷ xs
    go true e rec = absurd (true≢false e)
    go false e rec = ap (λ zs. x ∷ zs) (rec e)

drop_in : (k y : ℕ) (xs : List ℕ) → is_in k xs ≡ false → is_in k (drop_word y xs) ≡ false
drop_in k y [] e = refl
drop_in k y (x ∷ xs) e = go (nat_eq k x) (nat_eq y x) refl e (drop_in k y xs)
  where
    go : (a b : Bool) → nat_eq k x ≡ a → (if a then true else is_in k xs) ≡ false → (is_in k xs ≡ false → is_in k (drop_word y xs) ≡ false) → is_in k (if b then drop_word y xs else x ∷ drop_word y xs) ≡ false
    go true b h e rec = absurd (true≢false e)
    go false true h e rec = rec e
    go false false h e rec = rw h (rec e)

drop_distinct : (y : ℕ) {xs : List ℕ} → Distinct xs → Distinct (drop_word y xs)
drop_distinct y distinct_none = distinct_none
drop_distinct y (distinct_more {x = x} {xs = xs} e h) = go (nat_eq y x) (drop_distinct y h)
  where
    go : (b : Bool) → Distinct (drop_word y xs) → Distinct (if b then drop_word y xs else x ∷ drop_word y xs)
    go true r = r
    go false r = distinct_more (drop_in x y xs e) r

drop_length : (y : ℕ) {xs : List ℕ} → Distinct xs → length xs ≤ suc (length (drop_word y xs))
drop_length y distinct_none = omega arith
drop_length y (distinct_more {x = x} {xs = xs} e h) = go (nat_eq y x) refl (drop_length y h)
  where
    go : (b : Bool) → nat_eq y x ≡ b → length xs ≤ suc (length (drop_word y xs)) → length (x ∷ xs) ≤ suc (length (if b then drop_word y xs else x ∷ drop_word y xs))
    go true t r = let same = ap length (drop_none y xs (ap (λ z. is_in z xs) (eqb-true y x t) ∙ e)) in omega arith
    go false t r = omega arith

drop_each : (Q : ℕ → Type 0) (y : ℕ) (xs : List ℕ) → Each Q xs → Each (λ x. Q x × (x ≡ y → ⊥)) (drop_word y xs)
drop_each Q y [] h = tt
drop_each Q y (x ∷ xs) h = go (nat_eq y x) refl (drop_each Q y xs h.1)
  where
    go : (b : Bool) → nat_eq y x ≡ b → Each (λ z. Q z × (z ≡ y → ⊥)) (drop_word y xs) → Each (λ z. Q z × (z ≡ y → ⊥)) (if b then drop_word y xs else x ∷ drop_word y xs)
    go true t r = r
    go false t r = ((h.0, λ same. eqb-false y x t (sym same)), r)

later_word : {v : ClosureValue} {e : ClosureEnv} {N : ℕ → Bool} {y z : ℕ} {ys : List ℕ} → InWords (Bind v e) N (y ∷ ys) z → (z ≡ y → ⊥) → InWords e (λ i. N (suc i)) ys z
later_word (in_here h same) other = absurd (other same)
later_word (in_later q) other = q

later_off : {v : ClosureValue} {e : ClosureEnv} {N : ℕ → Bool} {y z : ℕ} {ys : List ℕ} → N 0 ≡ false → InWords (Bind v e) N (y ∷ ys) z → InWords e (λ i. N (suc i)) ys z
later_off off (in_here h same) = absurd (true≢false (sym h ∙ off))
later_off off (in_later q) = q

past_word : {rargs : List ℕ} {bodies : BoxTerms} {e : ClosureEnv} {N : ℕ → Bool} {z : ℕ} {ys : List ℕ} → InWords (BindFix rargs bodies e) N ys z → InWords e (past N rargs bodies) ys z
past_word (in_fix q) = q

-- there are no more distinct words of a set than it has
words_many : (e : ClosureEnv) (N : ℕ → Bool) (ys cs : List ℕ) → Distinct cs → Each (λ z. InWords e N ys z) cs → length cs ≤ words e N
words_many Empty N ys [] dist h = omega arith
words_many Empty N ys (x ∷ xs) dist h = elim (h.0) [ ]
words_many (Bind v e) N [] [] dist h = omega arith
words_many (Bind v e) N [] (x ∷ xs) dist h = elim (h.0) [ ]
words_many (Bind v e) N (y ∷ ys) cs dist h =
    go (N 0) refl (λ ds dist' h'. words_many e (λ i. N (suc i)) ys ds dist' h')
  where
    go : (b : Bool) → N 0 ≡ b → ((ds : List ℕ) → Distinct ds → Each (λ z. InWords e (λ i. N (suc i)) ys z) ds → length ds ≤ words e (λ i. N (suc i))) → length cs ≤ one_if b + words e (λ i. N (suc i))
    go true t rec =
        let less = drop_length y dist in
        let r = rec (drop_word y cs) (drop_distinct y dist) (each_map (λ z. InWords (Bind v e) N (y ∷ ys) z × (z ≡ y → ⊥)) (λ z. InWords e (λ i. N (suc i)) ys z) (λ z q. later_word q.0 q.1) (drop_word y cs) (drop_each (λ z. InWords (Bind v e) N (y ∷ ys) z) y cs h)) in
        omega arith
    go false t rec =
        let r = rec cs dist (each_map (λ z. InWords (Bind v e) N (y ∷ ys) z) (λ z. InWords e (λ i. N (suc i)) ys z) (λ z q. later_off t q) cs h) in
        omega arith
words_many (BindFix rargs bodies e) N ys cs dist h =
    words_many e (past N rargs bodies) ys cs dist (each_map (λ z. InWords (BindFix rargs bodies e) N ys z) (λ z. InWords e (past N rargs bodies) ys z) (λ z q. past_word q) cs h)

pub lam_width : {P : BoxProgram} {K : Name → ℕ} {e : ClosureEnv} {env : List Level} {ys : List ℕ} {s : Scope} {w : AnfVals} (d : ℕ) (b : BoxTerm) → d ≡ count w → Ready P b → ER P K e env ys s w →
    length (lam_captured s (sealed (suc d) (norm K (LVar d ∷ env) (suc d) b))) ≤ words e (λ i. names b (suc i))
lam_width {P} {K} {e} {env} {ys} {s} d b eq ok er =
    let code = sealed (suc d) (norm K (LVar d ∷ env) (suc d) b) in
    let N = λ (i : ℕ). names b (suc i) in
    let high = λ (y : ℕ) (le : depth s ≤ y) (lt : y < depth s). absurd {A = InWords e N ys y} (omega arith) in
    let vars : EnvFine (λ z. z < depth s → InWords e N ys z) s d env N = record { at = λ i is. fine_map (λ z q lt. q) (in_words d N i eq er is) } in
    let all = seal_fine (suc d) (norm_fine P K (λ z. z < depth s → InWords e N ys z) (depth s) high (suc d) b ok (env_push (λ z. z < depth s → InWords e N ys z) (depth s) high (names b) d refl (omega arith) vars) (omega arith)) in
    words_many e N ys (lam_captured s code) (captured_distinct (depth s) (block_words (Plain s) code)) (captured_each (λ z. InWords e N ys z) (depth s) (block_words (Plain s) code) all)

pub fix_width : {P : BoxProgram} {K : Name → ℕ} {e : ClosureEnv} {env : List Level} {ys : List ℕ} {s : Scope} {w : AnfVals} (d : ℕ) (rargs : List ℕ) (bodies : BoxTerms) → d ≡ count w → AreUnder (length rargs) rargs bodies → ReadyTerms P bodies → ER P K e env ys s w →
    length (fix_captured s (norm_defs K env d (length rargs) bodies)) ≤ words e (λ i. names_terms bodies i)
fix_width {P} {K} {e} {env} {ys} {s} d rargs bodies eq under ok er =
    let n = length rargs in
    let ds = norm_defs K env d n bodies in
    let N = λ (i : ℕ). names_terms bodies i in
    let vars : EnvFine (λ z. z < depth s → InWords e N ys z) s d env N = record { at = λ i is. fine_map (λ z q lt. q) (in_words d N i eq er is) } in
    let all = defs_fine P K (λ z. z < depth s → InWords e N ys z) (depth s) (λ y le lt. absurd (omega arith)) d n rargs bodies under ok vars (omega arith) in
    let whole = transport (λ m. Each (λ z. z < depth s → InWords e N ys z) (defs_words (shares [] m s) ds)) (sym (def_total K env d n n rargs bodies under)) all in
    words_many e N ys (fix_captured s ds) (captured_distinct (depth s) (defs_words (shares [] (def_count ds) s) ds)) (captured_each (λ z. InWords e N ys z) (depth s) (defs_words (shares [] (def_count ds) s) ds) whole)
