-- No lambda and no fixpoint of a program in A-normal form has more captured words than those of the program that it was made from take.
use Rattle.std.proofs.Common.{◌≡◌, ℕ, zero, suc, ◌+◌, List, [], ◌∷◌, ◌++◌, length, refl, sym, ap, subst, arith}
use Rattle.trees.specs.Tree.{Rel, Done, Next}
use Rattle.pc_terms.specs.declared.leaf.Name.{Name}
use Rattle.box_terms.specs.BoxSyntax.{BoxTerm, BoxTerms, Box, BLambda, BLetIn, BApp, BConst, BConstruct, BCase, BFix}
use Rattle.lambda_box.specs.BoxProgram.{BoxProgram}
use Rattle.lambda_box.specs.ClosureEvaluation.{ClosureEnv, Empty, box_values, bind_all}
use Rattle.anf_convert.specs.Anf.{AnfBlock, AnfBinding, AtomIs, OpIs, tail_of, block_of}
use Rattle.anf_convert.specs.Captured.{Scope, Outside, Plain, depth, plains, shares, fix_captured}
use Rattle.anf_convert.specs.AnfEvaluation.{WBox, AnfVals, WNil, WCons, count}
use Rattle.anf_convert.specs.ToAnf.{Res, RAtom, RCon, ROp, Norm, NamedResult, binding_of, sealed, with_variable, named, levels, then_arg, norm, norm_branches, norm_defs, code_of}
use Rattle.anf_convert.specs.ToAnfKeeps.{Ready, ReadyTerms}
use Rattle.anf_convert.proofs.Levels.{Ext, ext_same, ext_push, ext_trans, top_word, vr_box, ER, er_empty, er_bind, er_fix, er_ext, fixes_size, fixes_ext, fixes_at}
use Rattle.anf_convert.proofs.Widths.{lam_width, fix_width, def_total}
use Rattle.closure_lift.specs.CapturedLimit.{OpCaptures, BlockCaptures, BranchesCapture, DefsCapture}
use Rattle.box_passes.proofs.Narrow.{Narrow, NarrowBranches, NarrowDefs}

abbrev boxes : ℕ → AnfVals → AnfVals
boxes zero w = w
boxes (suc n) w = WCons WBox (boxes n w)

boxes_size : (n : ℕ) (w : AnfVals) → count (boxes n w) ≡ count w + n
boxes_size zero w = omega arith
boxes_size (suc n) w = omega (arith, boxes_size n w)

-- the variables of a branch
record Opened (P : BoxProgram) (K : Name → ℕ) (n d : ℕ) (e : ClosureEnv) (env : List _) (s : Scope) (w : AnfVals) : Type 0 where
  words : List ℕ
  er : ER P K (bind_all (box_values n) e) (levels d n env) words (plains n s) (boxes n w)

opened : {P : BoxProgram} {K : Name → ℕ} {e : ClosureEnv} {env : List _} {ys : List ℕ} {s : Scope} {w : AnfVals} (n d : ℕ) → d ≡ count w → ER P K e env ys s w → Opened P K n d e env s w
opened {ys = ys} zero d eq er = record { words = ys; er = er }
opened {s = s} {w} (suc n) d eq er =
    let r = opened n d eq er in
    let deep : d + n ≡ count (boxes n w) = omega (arith, boxes_size n w) in
    record { words = depth (plains n s) ∷ r.words; er = er_bind vr_box (top_word (plains n s) (boxes n w) WBox (d + n) deep) (er_ext (ext_push ext_same) r.er) }

module _ (C : ℕ) where
  abbrev BindingFew : Scope → AnfBinding → Type 0
  BindingFew s (AtomIs a) = Unit {0}
  BindingFew s (OpIs op) = OpCaptures (suc C) s op

  abbrev ResFew : Scope → Res → Type 0
  ResFew s (RAtom a) = Unit {0}
  ResFew s (RCon c xs) = Unit {0}
  ResFew s (ROp op) = OpCaptures (suc C) s op

  -- bindings, and the variables with them
  data OpsFew : Scope → AnfVals → List AnfBinding → Scope → AnfVals → Type 0 where
    few_none : {s : Scope} {w : AnfVals} → OpsFew s w [] s w
    few_more : {s s' : Scope} {w w' : AnfVals} {p : AnfBinding} {ps : List AnfBinding} → BindingFew s p → OpsFew (Plain s) (WCons WBox w) ps s' w' → OpsFew s w (p ∷ ps) s' w'

  ops_ext : {s s' : Scope} {w w' : AnfVals} {ps : List AnfBinding} → OpsFew s w ps s' w' → Ext s w s' w'
  ops_ext few_none = ext_same
  ops_ext (few_more h hs) = ext_trans (ext_push ext_same) (ops_ext hs)

  ops_deep : {s s' : Scope} {w w' : AnfVals} {ps : List AnfBinding} → OpsFew s w ps s' w' → count w' ≡ count w + length ps
  ops_deep few_none = omega arith
  ops_deep (few_more h hs) = omega (arith, ops_deep hs)

  ops_then : {s s' s'' : Scope} {w w' w'' : AnfVals} {ps qs : List AnfBinding} → OpsFew s w ps s' w' → OpsFew s' w' qs s'' w'' → OpsFew s w (ps ++ qs) s'' w''
  ops_then few_none g = g
  ops_then (few_more h hs) g = few_more h (ops_then hs g)

  record NormFew (s : Scope) (w : AnfVals) (n : Norm) : Type 0 where
    s' : Scope
    w' : AnfVals
    ops : OpsFew s w n.ops s' w'
    res : ResFew s' n.res

  record NameFew (s : Scope) (w : AnfVals) (n : NamedResult) : Type 0 where
    s' : Scope
    w' : AnfVals
    ops : OpsFew s w n.ops s' w'

  binding_few : (s : Scope) (d : ℕ) (res : Res) → ResFew s res → BindingFew s (binding_of d res)
  binding_few s d (RAtom a) h = tt
  binding_few s d (RCon c []) h = tt
  binding_few s d (RCon c (x ∷ xs)) h = tt
  binding_few s d (ROp op) h = h

  tail_few : (s : Scope) (p : AnfBinding) → BindingFew s p → BlockCaptures (suc C) s (tail_of p)
  tail_few s (AtomIs a) h = tt
  tail_few s (OpIs op) h = h

  block_few : {s s' : Scope} {w w' : AnfVals} {ps : List AnfBinding} (t : AnfBlock) → OpsFew s w ps s' w' → BlockCaptures (suc C) s' t → BlockCaptures (suc C) s (block_of ps t)
  block_few t few_none g = g
  block_few t (few_more {p = AtomIs a} h hs) g = block_few t hs g
  block_few t (few_more {p = OpIs op} h hs) g = (h, block_few t hs g)

  sealed_few : {s : Scope} {w : AnfVals} {n : Norm} (d : ℕ) → NormFew s w n → BlockCaptures (suc C) s (sealed d n)
  sealed_few {n = n} d h = let p = binding_of (d + length n.ops) n.res in block_few (tail_of p) h.ops (tail_few h.s' p (binding_few h.s' (d + length n.ops) n.res h.res))

  with_few : {s s' : Scope} {w w' : AnfVals} {ps : List AnfBinding} (d : ℕ) (res : Res) → OpsFew s w ps s' w' → ResFew s' res → OpsFew s w (with_variable d ps res).ops (Plain s') (WCons WBox w')
  with_few {s' = s'} {ps = ps} d res os h = ops_then os (few_more (binding_few s' (d + length ps) res h) few_none)

  name_few : {s s' : Scope} {w w' : AnfVals} {ps : List AnfBinding} (d : ℕ) (res : Res) → OpsFew s w ps s' w' → ResFew s' res → NameFew s w (named d ps res)
  name_few d (RAtom a) os h = record { s' = _; w' = _; ops = os }
  name_few d (RCon c []) os h = record { s' = _; w' = _; ops = os }
  name_few d (RCon c (x ∷ xs)) os h = record { s' = _; w' = _; ops = with_few d (RCon c (x ∷ xs)) os h }
  name_few d (ROp op) os h = record { s' = _; w' = _; ops = with_few d (ROp op) os h }

  -- the argument's part, wherever it stands
  abbrev ArgFew : Scope → AnfVals → (ℕ → Norm) → Type 0
  ArgFew s w arg = (s' : Scope) (w' : AnfVals) (d : ℕ) → Ext s w s' w' → d ≡ count w' → NormFew s' w' (arg d)

  arg_few : {s s' : Scope} {w w' : AnfVals} {ps : List AnfBinding} (d : ℕ) (res : Res) (arg : ℕ → Norm) → d ≡ count w → OpsFew s w ps s' w' → ResFew s' res → ArgFew s' w' arg → NormFew s w (then_arg d ps res arg)
  arg_few {s' = s'} {w' = w'} {ps = ps} d (RAtom f) arg eq os h next =
      let n = next s' w' (d + length ps) ext_same (omega (arith, ops_deep os)) in
      let m = name_few (d + length ps) (arg (d + length ps)).res n.ops n.res in
      record { s' = m.s'; w' = m.w'; ops = ops_then os m.ops; res = tt }
  arg_few {s' = s'} {w' = w'} {ps = ps} d (RCon c xs) arg eq os h next =
      let n = next s' w' (d + length ps) ext_same (omega (arith, ops_deep os)) in
      let m = name_few (d + length ps) (arg (d + length ps)).res n.ops n.res in
      record { s' = m.s'; w' = m.w'; ops = ops_then os m.ops; res = tt }
  arg_few {s' = s'} {w' = w'} {ps = ps} d (ROp op) arg eq os h next =
      let all = ops_then os (few_more {p = OpIs op} h few_none) in
      let e = d + length (ps ++ OpIs op ∷ []) in
      let n = next (Plain s') (WCons WBox w') e (ext_push ext_same) (omega (arith, ops_deep all)) in
      let m = name_few e (arg e).res n.ops n.res in
      record { s' = m.s'; w' = m.w'; ops = ops_then {s'' = m.s'} {w'' = m.w'} all m.ops; res = tt }

  module _ (P : BoxProgram) (K : Name → ℕ) where
    mutual
      norm_few : {e : ClosureEnv} {env : List _} {ys : List ℕ} {s : Scope} {w : AnfVals} (d : ℕ) (t : BoxTerm) → d ≡ count w → ER P K e env ys s w → Ready P t → Narrow C e t → NormFew s w (norm K env d t)
      norm_few d (Rel i) eq er ok h = record { s' = _; w' = _; ops = few_none; res = tt }
      norm_few d Box eq er ok h = record { s' = _; w' = _; ops = few_none; res = tt }
      norm_few {s = s} {w} d (BLambda b) eq er ok h =
          let inner = norm_few (suc d) b (ap suc eq) (er_bind vr_box (top_word s w WBox d eq) (er_ext (ext_push ext_same) er)) ok.1.0 h.1 in
          let l = lam_width d b eq ok.1.0 er in
          record { s' = s; w' = w; ops = few_none; res = (omega (arith, l, h.0), sealed_few (suc d) inner) }
      norm_few {env = env} d (BLetIn a b) eq er ok h =
          let x = norm_few d a eq er ok.1.0 h.0 in
          let n = norm K env d a in
          let m = with_few d n.res x.ops x.res in
          let deep : d + length n.ops ≡ count x.w' = omega (arith, ops_deep x.ops) in
          let inner = er_bind vr_box (top_word x.s' x.w' WBox (d + length n.ops) deep) (er_ext (ext_trans (ops_ext x.ops) (ext_push ext_same)) er) in
          let y = norm_few (d + length (with_variable d n.ops n.res).ops) b (omega (arith, ops_deep m)) inner ok.1.1.0 h.1 in
          record { s' = y.s'; w' = y.w'; ops = ops_then m y.ops; res = y.res }
      norm_few {env = env} d (BApp f a) eq er ok h =
          let x = norm_few d f eq er ok.1.0 h.0 in
          let n = norm K env d f in
          arg_few d n.res (λ e. norm K env e a) eq x.ops x.res (λ s' w' e ext same. norm_few e a same (er_ext (ext_trans (ops_ext x.ops) ext) er) ok.1.1.0 h.1)
      norm_few d (BConst k) eq er ok h = record { s' = _; w' = _; ops = few_none; res = tt }
      norm_few d (BConstruct f c) eq er ok h = record { s' = _; w' = _; ops = few_none; res = tt }
      norm_few {env = env} d (BCase f t bs) eq er ok h =
          let x = norm_few d t eq er ok.1.0 h.0 in
          let n = norm K env d t in
          let m = name_few d n.res x.ops x.res in
          record { s' = m.s'; w' = m.w'; ops = m.ops; res = branches_few (d + length (named d n.ops n.res).ops) bs (omega (arith, ops_deep m.ops)) (er_ext (ops_ext m.ops) er) ok.1.1.0 h.1 }
      norm_few {env = env} {s = s} {w} d (BFix i rargs bodies) eq er ok h =
          let m = length rargs in
          let ds = norm_defs K env d m bodies in
          let cs = fix_captured s ds in
          let inner = er_fix d eq ok.0 ok.1.0 er refl (λ j lt. fixes_at s w ds cs d eq m j lt) (er_ext (fixes_ext s w ds cs m) er) in
          let l = fix_width d rargs bodies eq ok.0 ok.1.0 er in
          let all = defs_few env d m bodies (omega (arith, fixes_size s w ds m)) inner ok.1.0 h.1 in
          record { s' = s; w' = w; ops = few_none; res = (omega (arith, l, h.0), subst (λ k. DefsCapture (suc C) (shares cs k s) ds) (sym (def_total K env d m m rargs bodies ok.0)) all) }

      branches_few : {e : ClosureEnv} {env : List _} {ys : List ℕ} {s : Scope} {w : AnfVals} (d : ℕ) (bs : BoxTerms) → d ≡ count w → ER P K e env ys s w → ReadyTerms P bs → NarrowBranches C e bs → BranchesCapture (suc C) s (norm_branches K env d bs)
      branches_few d Done eq er ok h = tt
      branches_few {w = w} d (Next n b rest) eq er ok h =
          let r = opened n d eq er in
          (sealed_few (d + n) (norm_few (d + n) b (omega (arith, boxes_size n w)) r.er ok.0 h.0), branches_few d rest eq er ok.1 h.1)

      defs_few : {e : ClosureEnv} {ys : List ℕ} {s : Scope} {w : AnfVals} (env : List _) (d m : ℕ) (bodies : BoxTerms) → d + m ≡ count w → ER P K e (levels d m env) ys s w → ReadyTerms P bodies → NarrowDefs C e bodies → DefsCapture (suc C) s (norm_defs K env d m bodies)
      defs_few env d m Done eq er ok h = tt
      defs_few {s = s} {w} env d m (Next k (BLambda b) rest) eq er ok h =
          let inner = er_bind vr_box (top_word s w WBox (d + m) eq) (er_ext (ext_push ext_same) er) in
          (sealed_few (suc (d + m)) (norm_few (suc (d + m)) b (ap suc eq) inner ok.0.1.0 h.0), defs_few env d m rest eq er ok.1 h.1)
      defs_few env d m (Next k b rest) eq er ok h = defs_few env d m rest eq er ok.1 h

    pub code_few : (t : BoxTerm) → Ready P t → Narrow C Empty t → BlockCaptures (suc C) Outside (code_of K t)
    code_few t ok h = sealed_few 0 (norm_few {w = WNil} 0 t refl er_empty ok h)
