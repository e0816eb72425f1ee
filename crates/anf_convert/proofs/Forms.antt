-- The program in A-normal form has its form.
use Rattle.std.proofs.Common.{◌≡◌, ℕ, zero, suc, ◌+◌, ◌<◌, ◌≤◌, List, [], ◌∷◌, ◌++◌, map, length, length-append, Some, refl, sym, ap, ◌∙◌, subst as transport, arith}
use Rattle.std.proofs.lemmas.List.{length-map}
use Rattle.std.proofs.lemmas.Option.{none-some, same_Some}
use Rattle.std.specs.Prelude.{slice_get}
use Rattle.trees.specs.Tree.{Rel, Done, Next, number}
use Rattle.pc_terms.specs.declared.leaf.Name.{Name}
use Rattle.box_terms.specs.BoxSyntax.{BoxTerm, BoxTerms, Box, BLambda, BLetIn, BApp, BConst, BConstruct, BCase, BFix}
use Rattle.lambda_box.specs.BoxProgram.{BoxConstant, Has, here, there}
use Rattle.anf_convert.specs.Anf.{AnfOp, AppOp, AnfBlock}
use Rattle.anf_convert.specs.AnfForm.{constructors, fields, branch_count, AtomFits, AtomsFit, AnfOpFits, AnfFits, AnfBranchesFit, DefsFit}
use Rattle.anf_convert.specs.ToAnf.{Level, LVar, LBoxed, LEmpty, AnfBinding, AtomIs, OpIs, Res, RAtom, RCon, ROp, Norm, NamedResult, at_depth, binding_of, tail_of, block_of, sealed, with_variable, named, nth, levels, call, name_at, then_arg, then_body, norm, norm_branches, norm_defs, code_of, number_in, to_anf}
use Rattle.anf_convert.specs.ToAnfKeeps.{AreUnder}
use Rattle.anf_convert.specs.TermForm.{more_args, constructor_args, FewBinders, TermFits, TermsFit, ToAnfForms}
use Rattle.anf_convert.proofs.Widths.{def_total}

data LevelFits (d : ℕ) : Level → Type 0 where
  fits_var : {x : ℕ} → x < d → LevelFits d (LVar x)
  fits_box : LevelFits d LBoxed
  fits_empty : {c : ℕ} → c < constructors → LevelFits d (LEmpty c)

level_up : {d d' : ℕ} {a : Level} → d ≤ d' → LevelFits d a → LevelFits d' a
level_up le (fits_var lt) = fits_var (omega arith)
level_up le fits_box = fits_box
level_up le (fits_empty lt) = fits_empty lt

atom_fits : {d : ℕ} {a : Level} → LevelFits d a → AtomFits d (at_depth d a)
atom_fits (fits_var lt) = omega arith
atom_fits fits_box = tt
atom_fits (fits_empty lt) = lt

data LevelsFit (d : ℕ) : List Level → Type 0 where
  fits_none : LevelsFit d []
  fits_more : {a : Level} {as' : List Level} → LevelFits d a → LevelsFit d as' → LevelsFit d (a ∷ as')

levels_up : {d d' : ℕ} {as' : List Level} → d ≤ d' → LevelsFit d as' → LevelsFit d' as'
levels_up le fits_none = fits_none
levels_up le (fits_more h hs) = fits_more (level_up le h) (levels_up le hs)

atoms_fit : {d : ℕ} {as' : List Level} → LevelsFit d as' → AtomsFit d (map (at_depth d) as')
atoms_fit fits_none = tt
atoms_fit (fits_more h hs) = (atom_fits h, atoms_fit hs)

-- the n variables of a term
record EnvFits (d n : ℕ) (env : List Level) : Type 0 where
  at : (i : ℕ) → i < n → LevelFits d (nth env i)

env_push : {d n : ℕ} {env : List Level} (a : Level) → LevelFits d a → EnvFits d n env → EnvFits d (suc n) (a ∷ env)
env_push {d} {n} {env} a g h = record { at = go }
  where
    go : (i : ℕ) → i < suc n → LevelFits d (nth (a ∷ env) i)
    go zero lt = g
    go (suc i) lt = h.at i (omega arith)

env_up : {d d' n : ℕ} {env : List Level} → d ≤ d' → EnvFits d n env → EnvFits d' n env
env_up le h = record { at = λ i lt. level_up le (h.at i lt) }

env_levels : {d n : ℕ} {env : List Level} (j : ℕ) → EnvFits d n env → EnvFits (d + j) (j + n) (levels d j env)
env_levels {d} {n} {env} zero h = transport (λ z. EnvFits (d + 0) z env) (omega arith) (env_up (omega arith) h)
env_levels {d} {n} {env} (suc j) h =
    transport (λ z. EnvFits (d + suc j) z (levels d (suc j) env)) (omega arith) (env_push (LVar (d + j)) (fits_var (omega arith)) (env_up {d = d + j} (omega arith) (env_levels j h)))

module _ (k m : ℕ) where
  abbrev BindingFits : ℕ → AnfBinding → Type 0
  BindingFits d (AtomIs a) = AtomFits d a
  BindingFits d (OpIs op) = AnfOpFits k m d op

  data OpsFit : ℕ → List AnfBinding → Type 0 where
    ops_none : {d : ℕ} → OpsFit d []
    ops_more : {d : ℕ} {p : AnfBinding} {ps : List AnfBinding} → BindingFits d p → OpsFit (suc d) ps → OpsFit d (p ∷ ps)

  data ResFits (d : ℕ) : Res → Type 0 where
    res_atom : {a : Level} → LevelFits d a → ResFits d (RAtom a)
    res_con : {c : ℕ} {as' : List Level} → c < constructors → length as' < fields → LevelsFit d as' → ResFits d (RCon c as')
    res_op : {op : AnfOp} → AnfOpFits k m d op → ResFits d (ROp op)

  record NormFits (d : ℕ) (n : Norm) : Type 0 where
    ops : OpsFit d n.ops
    res : ResFits (d + length n.ops) n.res

  record NameFits (d : ℕ) (n : NamedResult) : Type 0 where
    ops : OpsFit d n.ops
    at : LevelFits (d + length n.ops) n.atom

  ops_as : {d d' : ℕ} {ps : List AnfBinding} → d ≡ d' → OpsFit d ps → OpsFit d' ps
  ops_as {ps = ps} eq h = transport (λ z. OpsFit z ps) eq h

  res_as : {d d' : ℕ} {r : Res} → d ≡ d' → ResFits d r → ResFits d' r
  res_as {r = r} eq h = transport (λ z. ResFits z r) eq h

  ops_then : {d : ℕ} {ps qs : List AnfBinding} → OpsFit d ps → OpsFit (d + length ps) qs → OpsFit d (ps ++ qs)
  ops_then ops_none g = ops_as (omega arith) g
  ops_then (ops_more h hs) g = ops_more h (ops_then hs (ops_as (omega arith) g))

  binding_fits : {d : ℕ} {r : Res} → ResFits d r → BindingFits d (binding_of d r)
  binding_fits (res_atom h) = atom_fits h
  binding_fits (res_con lt few fits_none) = lt
  binding_fits {d} (res_con lt few (fits_more {a = a} {as' = as'} h hs)) = let long = length-map (a ∷ as') (at_depth d) in (lt, omega arith, omega arith, atoms_fit (fits_more h hs))
  binding_fits (res_op h) = h

  tail_fits : (d : ℕ) (p : AnfBinding) → BindingFits d p → AnfFits k m d (tail_of p)
  tail_fits d (AtomIs a) h = h
  tail_fits d (OpIs op) h = h

  block_fits : {d : ℕ} {ps : List AnfBinding} (t : AnfBlock) → OpsFit d ps → AnfFits k m (d + length ps) t → AnfFits k m d (block_of ps t)
  block_fits {d} t ops_none g = transport (λ z. AnfFits k m z t) (omega arith) g
  block_fits {d} t (ops_more {p = AtomIs a} h hs) g = (h, block_fits t hs (transport (λ z. AnfFits k m z t) (omega arith) g))
  block_fits {d} t (ops_more {p = OpIs op} h hs) g = (h, block_fits t hs (transport (λ z. AnfFits k m z t) (omega arith) g))

  seal_fits : {d : ℕ} {n : Norm} → NormFits d n → AnfFits k m d (sealed d n)
  seal_fits {d} {n} h = block_fits (tail_of (binding_of (d + length n.ops) n.res)) h.ops (tail_fits (d + length n.ops) (binding_of (d + length n.ops) n.res) (binding_fits h.res))

  with_fits : {d : ℕ} {ps : List AnfBinding} {r : Res} → OpsFit d ps → ResFits (d + length ps) r → NameFits d (with_variable d ps r)
  with_fits {d} {ps} {r} os h =
      let long = length-append ps (binding_of (d + length ps) r ∷ []) in
      record { ops = ops_then os (ops_more (binding_fits h) ops_none); at = fits_var (omega arith) }

  name_fits : {d : ℕ} {ps : List AnfBinding} {r : Res} → OpsFit d ps → ResFits (d + length ps) r → NameFits d (named d ps r)
  name_fits os (res_atom h) = record { ops = os; at = h }
  name_fits os (res_con lt few fits_none) = record { ops = os; at = fits_empty lt }
  name_fits os (res_con lt few (fits_more h hs)) = with_fits os (res_con lt few (fits_more h hs))
  name_fits os (res_op h) = with_fits os (res_op h)

  call_fits : {d : ℕ} {ps : List AnfBinding} {a : Level} (arg : ℕ → Norm) → OpsFit d ps → LevelFits (d + length ps) a → NormFits (d + length ps) (arg (d + length ps)) → NormFits d (call d ps a (name_at arg (d + length ps)))
  call_fits {d} {ps} {a} arg os at n =
      let x = name_fits n.ops n.res in
      let qs = (name_at arg (d + length ps)).ops in
      let long = length-append ps qs in
      let whole : ResFits (d + length ps + length qs) (ROp (AppOp (at_depth (d + length ps + length qs) a) (at_depth (d + length ps + length qs) (name_at arg (d + length ps)).atom))) = res_op (atom_fits (level_up (omega arith) at), atom_fits x.at) in
      record { ops = ops_then os x.ops; res = res_as (omega arith) whole }

  abbrev args_of : Res → ℕ
  args_of (RAtom a) = 0
  args_of (RCon c xs) = suc (length xs)
  args_of (ROp op) = 0

  then_args : (d : ℕ) (ps : List AnfBinding) (r : Res) (arg : ℕ → Norm) → args_of (then_arg d ps r arg).res ≡ more_args (args_of r)
  then_args d ps (RAtom a) arg = refl
  then_args d ps (RCon c xs) arg = refl
  then_args d ps (ROp op) arg = refl

  arg_fits : {d : ℕ} {ps : List AnfBinding} {r : Res} (arg : ℕ → Norm) → OpsFit d ps → ResFits (d + length ps) r → more_args (args_of r) ≤ fields → ((d' : ℕ) → d ≤ d' → NormFits d' (arg d')) → NormFits d (then_arg d ps r arg)
  arg_fits {d} {ps} arg os (res_atom h) few next = call_fits arg os h (next (d + length ps) (omega arith))
  arg_fits {d} {ps} arg os (res_con {as' = as'} lt less hs) few next =
      let n = next (d + length ps) (omega arith) in
      let x = name_fits n.ops n.res in
      let qs = (name_at arg (d + length ps)).ops in
      let long = length-append ps qs in
      record { ops = ops_then os x.ops; res = res_con lt (omega arith) (fits_more (level_up (omega arith) x.at) (levels_up (omega arith) hs)) }
  arg_fits {d} {ps} arg os (res_op {op = op} h) few next =
      let qs = ps ++ OpIs op ∷ [] in
      let long = length-append ps (OpIs op ∷ []) in
      call_fits arg (ops_then os (ops_more {p = OpIs op} h ops_none)) (fits_var (omega arith)) (next (d + length qs) (omega arith))

  body_fits : {d : ℕ} {n : NamedResult} (r : ℕ → Level → Norm) → NameFits d n → NormFits (d + length n.ops) (r (d + length n.ops) n.atom) → NormFits d (then_body d n r)
  body_fits {d} {n} r h x =
      let long = length-append n.ops (r (d + length n.ops) n.atom).ops in
      record { ops = ops_then h.ops x.ops; res = res_as (omega arith) x.res }

  module _ (K : Name → ℕ) where
    -- constructors with their arguments
    spine : (env : List Level) (d : ℕ) (t : BoxTerm) → args_of (norm K env d t).res ≡ constructor_args t
    spine env d (Rel i) = refl
    spine env d Box = refl
    spine env d (BLambda b) = refl
    spine env d (BLetIn a b) =
        let x = with_variable d (norm K env d a).ops (norm K env d a).res in
        spine (x.atom ∷ env) (d + length x.ops) b
    spine env d (BApp f a) = then_args d (norm K env d f).ops (norm K env d f).res (λ d'. norm K env d' a) ∙ ap more_args (spine env d f)
    spine env d (BConst x) = refl
    spine env d (BConstruct f c) = refl
    spine env d (BCase f t bs) = refl
    spine env d (BFix i rargs bodies) = refl

    branch_number : (env : List Level) (d : ℕ) (bs : BoxTerms) → branch_count (norm_branches K env d bs) ≡ number bs
    branch_number env d Done = refl
    branch_number env d (Next n b rest) = ap suc (branch_number env d rest)

    mutual
      norm_fits : {env : List Level} (d n : ℕ) (t : BoxTerm) → n ≤ d → EnvFits d n env → TermFits K k m n t → NormFits d (norm K env d t)
      norm_fits d n (Rel i) le env fit = record { ops = ops_none; res = res_atom (level_up (omega arith) (env.at i fit)) }
      norm_fits d n Box le env fit = record { ops = ops_none; res = res_atom fits_box }
      norm_fits d n (BLambda b) le env fit = record { ops = ops_none; res = res_as {d = d} (omega arith) (res_op (seal_fits (norm_fits (suc d) (suc n) b (omega arith) (env_push (LVar d) (fits_var (omega arith)) (env_up (omega arith) env)) fit))) }
      norm_fits {env = vars} d n (BLetIn a b) le env fit =
          let x = norm_fits d n a le env fit.0 in
          let y = with_fits x.ops x.res in
          body_fits (λ d' l. norm K (l ∷ vars) d' b) y (norm_fits _ (suc n) b (let long = length-append (norm K vars d a).ops (binding_of (d + length (norm K vars d a).ops) (norm K vars d a).res ∷ []) in omega arith) (env_push _ y.at (env_up (omega arith) env)) fit.1)
      norm_fits {env = vars} d n (BApp f a) le env fit =
          let x = norm_fits d n f le env fit.1 in
          let few = fit.0 in
          arg_fits (λ d'. norm K vars d' a) x.ops x.res (transport (λ z. more_args z ≤ fields) (sym (spine vars d f)) few) (λ d' le'. norm_fits d' n a (omega arith) (env_up le' env) fit.2)
      norm_fits d n (BConst x) le env fit = record { ops = ops_none; res = res_op fit }
      norm_fits d n (BConstruct f c) le env fit = record { ops = ops_none; res = res_con fit (omega arith) fits_none }
      norm_fits {env = vars} d n (BCase f t bs) le env fit =
          let x = norm_fits d n t le env fit.2 in
          let y = name_fits x.ops x.res in
          let ps = (named d (norm K vars d t).ops (norm K vars d t).res).ops in
          let same = branch_number vars (d + length ps) bs in
          let few = fit.0 in
          record { ops = y.ops; res = res_op (atom_fits y.at, omega arith, branches_fit (d + length ps) n bs (omega arith) (env_up (omega arith) env) fit.1 fit.3) }
      norm_fits {env = vars} d n (BFix i rargs bodies) le env fit =
          let j = length rargs in
          let total = def_total K vars d j j rargs bodies fit.1 in
          let first = fit.0 in
          let all = defs_fit d n j rargs bodies le env fit.1 fit.2 in
          record { ops = ops_none; res = res_as {d = d} (omega arith) (res_op (omega arith, transport (λ z. DefsFit k m (d + z) (norm_defs K vars d j bodies)) (sym total) all)) }

      branches_fit : {env : List Level} (d n : ℕ) (bs : BoxTerms) → n ≤ d → EnvFits d n env → FewBinders bs → TermsFit K k m n bs → AnfBranchesFit k m d (norm_branches K env d bs)
      branches_fit d n Done le env small fit = tt
      branches_fit d n (Next j t rest) le env small fit = (small.0, seal_fits (norm_fits (d + j) (j + n) t (omega arith) (env_levels j env) fit.0), branches_fit d n rest le env small.1 fit.1)

      defs_fit : {env : List Level} (d n j : ℕ) (rs : List ℕ) (bodies : BoxTerms) → n ≤ d → EnvFits d n env → AreUnder j rs bodies → TermsFit K k m n bodies → DefsFit k m (d + j) (norm_defs K env d j bodies)
      defs_fit d n j [] Done le env under fit = tt
      defs_fit d n j [] (Next i t rest) le env under fit = absurd under
      defs_fit d n j (r ∷ rs) Done le env under fit = absurd under
      defs_fit d n j (r ∷ rs) (Next i (BLambda b) rest) le env under fit =
          let fit' = transport (λ z. TermFits K k m (suc (z + n)) b) under.0 fit.0 in
          (seal_fits (norm_fits (suc (d + j)) (suc (j + n)) b (omega arith) (env_push (LVar (d + j)) (fits_var (omega arith)) (env_up (omega arith) (env_levels j env))) fit'), defs_fit d n j rs rest le env under.1 fit.1)
      defs_fit d n j (r ∷ rs) (Next i t rest) le env under fit = defs_fit d n j rs rest le env under.1 fit.1

constants_fit : (k m : ℕ) (K : Name → ℕ) (cs : List BoxConstant) → ((c : BoxConstant) → Has cs c → TermFits K k m 0 c.body) → (x : ℕ) (t : AnfBlock) → slice_get (map (λ (c : BoxConstant). code_of K c.body) cs) x ≡ Some t → AnfFits k m 0 t
constants_fit k m K [] fit x t e = absurd (none-some t e)
constants_fit k m K (c ∷ cs) fit zero t e = transport (AnfFits k m 0) (same_Some _ _ e) (seal_fits k m (norm_fits k m K 0 0 c.body (omega arith) (record { at = λ i lt. absurd (omega arith) }) (fit c here)))
constants_fit k m K (c ∷ cs) fit (suc x) t e = constants_fit k m K cs (λ d h. fit d (there h)) x t e

length_codes : (f : BoxConstant → AnfBlock) (cs : List BoxConstant) → length (map f cs) ≡ length cs
length_codes f [] = refl
length_codes f (c ∷ cs) = ap suc (length_codes f cs)

pub to_anf_forms : ToAnfForms
to_anf_forms P m ok =
    let K = number_in P.constants in
    let k = length P.constants in
    let same : k ≡ length (to_anf P).constants = sym (length_codes (λ (c : BoxConstant). code_of K c.body) P.constants) in
    record {
      constants = λ x t e. transport (λ z. AnfFits z m 0 t) same (constants_fit k m K P.constants ok.constants x t e);
      main = transport (λ z. AnfFits z m 0 (to_anf P).main) same (seal_fits k m (norm_fits k m K 0 0 P.main (omega arith) (record { at = λ i lt. absurd (omega arith) }) ok.main));
    }
