-- The program in A-normal form follows the evaluation of the program after erasure.
use Rattle.std.proofs.Common.{◌≡◌, ℕ, zero, suc, ◌+◌, ◌<◌, ◌≤◌, List, [], ◌∷◌, ◌++◌, map, length, length-append, Option, Some, Bool, true, false, refl, sym, ap, ◌∙◌, subst as transport, arith}
use Rattle.std.specs.Prelude.{slice_get, AllPairs, ◌≢◌, nat_eq, slice_index_or, if◌then◌else◌}
use Rattle.std.proofs.lemmas.Bool.{eq-eqb, eqb-true}
use Rattle.std.proofs.lemmas.Option.{none-some, some_pair_parts}
use Rattle.trees.specs.Tree.{Done, Next, term_at}
use Rattle.pc_terms.specs.declared.leaf.Name.{Name}
use Rattle.pc_terms.specs.declared.leaf.FamilyId.{FamilyId}
use Rattle.box_terms.specs.BoxSyntax.{BoxTerm, BoxTerms, Box, BLambda}
use Rattle.lambda_box.specs.BoxProgram.{BoxConstant, BoxProgram, Has, here, there, KeepsBoxConstant}
use Rattle.lambda_box.specs.ClosureEvaluation.{ClosureValue, VBox, VConstruct, VClosure, VFix, ClosureValues, Then, ClosureEnv, Bind, BindFix, size, bind_all, Holds, Defines, fix_words, Counts, nothing, block, constructor_block, ◌⊕◌, ClosureRun, run_box, run_value, run_definition, run_lambda, run_fix, run_constant, run_let, run_app, run_box_app, run_fix_app, run_fix_box, run_construct, run_match, run_only, RunArgs, run_head, run_arg}
use Rattle.lambda_box.proofs.ConstructorBlocks.{constructor_block_matches}
use Rattle.anf_convert.specs.Anf.{Atom, AnfOp, AppOp, AnfBlock, Bind, AnfProgram}
use Rattle.anf_convert.specs.Captured.{Scope, Outside, Plain, depth, plains, shares, fix_captured}
use Rattle.anf_convert.specs.AnfEvaluation.{AnfVal, WBox, WCon, WClos, WFix, AnfVals, WNil, WCons, count, ◌+w◌, fixes, LamAt, lam_here, lam_after_lam, lam_after_box, BoxAt, box_here, box_after_lam, box_after_box, AnfBranchAt, at_branch, after_branch, Gives, AnfDoes, op_const, op_app, op_app_box, op_app_fix, op_app_fix_box, op_lam, op_fix, op_case, AnfGets, AnfAnswers, main_alone, main_applied}
use Rattle.anf_convert.specs.AnfData.{DataTree, DataTrees, AnfIsData, anf_data, AnfAreData, anf_data_none, anf_data_more}
use Rattle.anf_convert.specs.ToAnf.{Level, LVar, AnfBinding, OpIs, Res, RAtom, RCon, ROp, Norm, binding_of, sealed, with_variable, named, levels, call, name_at, then_arg, then_body, then_case, just, norm, norm_branches, norm_defs, code_of, number_in, to_anf}
use Rattle.anf_convert.specs.ToAnfKeeps.{Ready, ReadyTerms, BoxAnswers, box_alone, box_applied, ValueIs, value_is, ValuesAre, no_values, and_value, ToAnfKeeps}
use Rattle.anf_convert.proofs.Levels.{Ext, ext_same, ext_push, ext_trans, top_word, VR, vr_box, vr_con, vr_clos, vr_fix, VRs, vrs_nil, vrs_cons, ER, er_empty, er_bind, er_fix, vrs_size, er_ext, HeldAt, holds_word, holds_fix, held_at, AtLevel, l_word, l_fix, l_box, AllLevels, ls_none, ls_more, level_ext, levels_ext, gives, levels_size, plains_size, er_args, fixes_size, fixes_ext, fixes_at}
use Rattle.anf_convert.proofs.Widths.{lam_width, fix_width, def_total}
use Rattle.anf_convert.proofs.Bindings.{con_blocks, Binds, binds_none, Stands, st_atom, st_con, st_op, binds_ext, binds_size, binds_then, binds_block, bound, bound_op, name_done, ended}

abbrev NotCon : AnfVal → Type 0
NotCon WBox = Unit {0}
NotCon (WCon c vs) = ⊥
NotCon (WClos s e b) = Unit {0}
NotCon (WFix s e ds i) = Unit {0}

second : {m n : ℕ} {t u : BoxTerm} → ◌≡◌ {A = Option (ℕ × BoxTerm)} (Some (m, t)) (Some (n, u)) → t ≡ u
second {m} {n} {t} {u} e = (some_pair_parts m n t u e).1

first : {m n : ℕ} {t u : BoxTerm} → ◌≡◌ {A = Option (ℕ × BoxTerm)} (Some (m, t)) (Some (n, u)) → m ≡ n
first {m} {n} {t} {u} e = (some_pair_parts m n t u e).0

module _ (K : Name → ℕ) (env : List Level) (d n : ℕ) where
  def_after : (m : ℕ) (rest : BoxTerms) {i : ℕ} {b : AnfBlock} (t : BoxTerm) → LamAt (norm_defs K env d n rest) i b → LamAt (norm_defs K env d n (Next m t rest)) (suc i) b
  def_after m rest (BLambda t) h = lam_after_lam h
  def_after m rest t h = lam_after_box h

  lam_at : (bodies : BoxTerms) (i m : ℕ) (t : BoxTerm) → term_at bodies i ≡ Some (m, BLambda t) → LamAt (norm_defs K env d n bodies) i (sealed (suc (d + n)) (norm K (LVar (d + n) ∷ levels d n env) (suc (d + n)) t))
  lam_at Done i m t e = absurd (none-some _ e)
  lam_at (Next m' u rest) zero m t e = transport (λ z. LamAt (norm_defs K env d n (Next m' z rest)) zero (sealed (suc (d + n)) (norm K (LVar (d + n) ∷ levels d n env) (suc (d + n)) t))) (sym (second e)) lam_here
  lam_at (Next m' u rest) (suc i) m t e = def_after m' rest u (lam_at rest i m t e)

  box_after : (m : ℕ) (rest : BoxTerms) {i : ℕ} (t : BoxTerm) → BoxAt (norm_defs K env d n rest) i → BoxAt (norm_defs K env d n (Next m t rest)) (suc i)
  box_after m rest (BLambda t) h = box_after_lam h
  box_after m rest t h = box_after_box h

  box_at : (bodies : BoxTerms) (i m : ℕ) → term_at bodies i ≡ Some (m, Box) → BoxAt (norm_defs K env d n bodies) i
  box_at Done i m e = absurd (none-some _ e)
  box_at (Next m' u rest) zero m e = transport (λ z. BoxAt (norm_defs K env d n (Next m' z rest)) zero) (sym (second e)) box_here
  box_at (Next m' u rest) (suc i) m e = box_after m' rest u (box_at rest i m e)

branch_at : (K : Name → ℕ) (env : List Level) (d : ℕ) (bs : BoxTerms) (i n : ℕ) (t : BoxTerm) → term_at bs i ≡ Some (n, t) → AnfBranchAt (norm_branches K env d bs) i n (sealed (d + n) (norm K (levels d n env) (d + n) t))
branch_at K env d Done i n t e = absurd (none-some _ e)
branch_at K env d (Next m u rest) zero n t e =
    transport (λ z. AnfBranchAt (norm_branches K env d (Next m u rest)) zero z (sealed (d + z) (norm K (levels d z env) (d + z) t))) (first e)
    (transport (λ z. AnfBranchAt (norm_branches K env d (Next m u rest)) zero m (sealed (d + m) (norm K (levels d m env) (d + m) z))) (second e) at_branch)
branch_at K env d (Next m u rest) (suc i) n t e = after_branch (branch_at K env d rest i n t e)

ready_at : (P : BoxProgram) (ts : BoxTerms) (i n : ℕ) (t : BoxTerm) → term_at ts i ≡ Some (n, t) → ReadyTerms P ts → Ready P t
ready_at P Done i n t e ok = absurd (none-some _ e)
ready_at P (Next m u rest) zero n t e ok = transport (Ready P) (second e) ok.0
ready_at P (Next m u rest) (suc i) n t e ok = ready_at P rest i n t e ok.1

module _ (P : BoxProgram) (K : Name → ℕ) (Q : AnfProgram) (W : ℕ) where
  -- what a term has become
  record DoneTerm (s : Scope) (w : AnfVals) (n : Norm) (v : ClosureValue) (c : Counts) : Type 0 where
    g : Scope
    f : AnfVals
    u : AnfVal
    c1 : ℕ
    c2 : ℕ
    k1 : ℕ
    k2 : ℕ
    b1 : ℕ
    b2 : ℕ
    l1 : ℕ
    binds : Binds Q W s w n.ops g f c1 k1 b1 l1
    stands : Stands Q W g f n.res u c2 k2 b2
    is : VR P K v u
    le_c : c1 + c2 ≤ c.contractions
    matches : k1 + k2 ≡ c.matches
    blocks : b1 + b2 ≡ c.blocks

  -- a block that a term has become
  record GotTerm (s : Scope) (w : AnfVals) (t : AnfBlock) (v : ClosureValue) (c : Counts) : Type 0 where
    u : AnfVal
    c' : ℕ
    l' : ℕ
    gets : AnfGets Q W s w t u c' c.matches c.blocks l'
    is : VR P K v u
    le_c : c' ≤ c.contractions

  gets_counts : {s : Scope} {w : AnfVals} {t : AnfBlock} {u : AnfVal} {c k k' b b' l : ℕ} → k ≡ k' → b ≡ b' → AnfGets Q W s w t u c k b l → AnfGets Q W s w t u c k' b' l
  gets_counts {s} {w} {t} {u} {c} {k} {k'} {b} {b'} {l} ek eb h = transport (λ z. AnfGets Q W s w t u c k' z l) eb (transport (λ z. AnfGets Q W s w t u c z b l) ek h)

  got : {s : Scope} {w : AnfVals} {n : Norm} {v : ClosureValue} {c : Counts} (d : ℕ) → d ≡ count w → DoneTerm s w n v c → GotTerm s w (sealed d n) v c
  got {n = n} d eq h =
      let e = ended Q W (d + length n.ops) (omega (arith, binds_size Q W h.binds)) h.stands in
      record { u = h.u; c' = _; l' = _; gets = gets_counts h.matches h.blocks (binds_block Q W h.binds e.gets); is = h.is; le_c = h.le_c }

  -- a result at once
  at_once : {s : Scope} {w : AnfVals} {res : Res} {u : AnfVal} {v : ClosureValue} {c : Counts} {c2 k2 b2 : ℕ} → Stands Q W s w res u c2 k2 b2 → VR P K v u → c2 ≤ c.contractions → k2 ≡ c.matches → b2 ≡ c.blocks → DoneTerm s w (just res) v c
  at_once st is lc k b = record { g = _; f = _; u = _; c1 = 0; c2 = _; k1 = 0; k2 = _; b1 = 0; b2 = _; l1 = 0; binds = binds_none; stands = st; is = is; le_c = omega arith; matches = omega arith; blocks = omega arith }

  -- a function and its argument as atoms
  record Applied (s : Scope) (w : AnfVals) (n : Norm) (u : AnfVal) (v : ClosureValue) (c k b : ℕ) : Type 0 where
    g : Scope
    f : AnfVals
    c1 : ℕ
    k1 : ℕ
    b1 : ℕ
    l1 : ℕ
    binds : Binds Q W s w n.ops g f c1 k1 b1 l1
    p : Atom
    q : Atom
    res_is : n.res ≡ ROp (AppOp p q)
    x : AnfVal
    b2 : ℕ
    b3 : ℕ
    l2 : ℕ
    l3 : ℕ
    fun : Gives W g f p u b2 l2
    arg : Gives W g f q x b3 l3
    is : VR P K v x
    le_c : c1 ≤ c
    matches : k1 ≡ k
    blocks : b1 + (b2 + b3) ≡ b

  called : {s g : Scope} {w f : AnfVals} {ops : List AnfBinding} {a : Level} {u : AnfVal} {v : ClosureValue} {c3 : Counts} {c1 k1 b1 l1 b2 l2 : ℕ} (d : ℕ) (arg : ℕ → Norm) → d ≡ count w → Binds Q W s w ops g f c1 k1 b1 l1 → AtLevel W g f a u b2 l2 → DoneTerm g f (arg
      (d + length ops)) v c3 → Applied s w (call d ops a (name_at arg (d + length ops))) u v (c1 + c3.contractions) (k1 + c3.matches) (b1 + b2 + c3.blocks)
  called {f = f} {ops = ops} {a = a} {c3 = c3} {c1 = c1} {k1 = k1} {b1 = b1} {b2 = b2} {l2 = l2} d arg eq bs at h =
      let deep : d + length ops ≡ count f = omega (arith, binds_size Q W bs) in
      let n = name_done Q W (d + length ops) deep h.binds h.stands in
      let deeper : d + length ops + length (name_at arg (d + length ops)).ops ≡ count n.f = omega (arith, binds_size Q W n.binds) in
      record {
        g = n.g;
        f = n.f;
        c1 = c1 + n.c';
        k1 = k1 + (h.k1 + h.k2);
        b1 = b1 + n.b1;
        l1 = _;
        binds = binds_then Q W bs n.binds;
        p = _;
        q = _;
        res_is = refl;
        x = h.u;
        b2 = b2;
        b3 = n.b2;
        l2 = l2;
        l3 = n.l2;
        fun = gives (d + length ops + length (name_at arg (d + length ops)).ops) deeper (level_ext (binds_ext Q W n.binds) at);
        arg = gives (d + length ops + length (name_at arg (d + length ops)).ops) deeper n.at;
        is = h.is;
        le_c = omega (arith, n.le_c, h.le_c);
        matches = omega (arith, h.matches);
        blocks = omega (arith, n.blocks, h.blocks);
      }

  binds_matches : {s g : Scope} {w f : AnfVals} {ps : List AnfBinding} {c k k' b l : ℕ} → k ≡ k' → Binds Q W s w ps g f c k b l → Binds Q W s w ps g f c k' b l
  binds_matches {s} {g} {w} {f} {ps} {c} {b = b} {l = l} ek h = transport (λ z. Binds Q W s w ps g f c z b l) ek h

  applied_as : {s : Scope} {w : AnfVals} {n : Norm} {u : AnfVal} {v : ClosureValue} {c c' k k' b b' : ℕ} → c ≤ c' → k ≡ k' → b ≡ b' → Applied s w n u v c k b → Applied s w n u v c' k' b'
  applied_as lc ek eb h = record {
    g = h.g;
    f = h.f;
    c1 = h.c1;
    k1 = h.k1;
    b1 = h.b1;
    l1 = h.l1;
    binds = h.binds;
    p = h.p;
    q = h.q;
    res_is = h.res_is;
    x = h.x;
    b2 = h.b2;
    b3 = h.b3;
    l2 = h.l2;
    l3 = h.l3;
    fun = h.fun;
    arg = h.arg;
    is = h.is;
    le_c = omega (arith, h.le_c);
    matches =
        h.matches ∙ ek;
    blocks = h.blocks ∙ eb;
  }

  -- what the argument of a function becomes, wherever it stands
  abbrev ArgDone : Scope → AnfVals → (ℕ → Norm) → ClosureValue → Counts → Type 0
  ArgDone s w arg v c = (g : Scope) (f : AnfVals) (d' : ℕ) → Ext s w g f → d' ≡ count f → DoneTerm g f (arg d') v c

  applied : {s : Scope} {w : AnfVals} {fn : Norm} {v1 v : ClosureValue} {c c3 : Counts} (d : ℕ) (arg : ℕ → Norm) → d ≡ count w → (h : DoneTerm s w fn v1 c) → NotCon h.u → ArgDone s w arg v c3 → Applied s w (then_arg d fn.ops fn.res arg) h.u v (c.contractions +
      c3.contractions) (c.matches + c3.matches) (c.blocks + c3.blocks)
  applied {s} {w} {fn} {v1} {v} {c} {c3} d arg eq h other next = go h.binds h.stands other h.le_c h.matches h.blocks
    where
      go : {g : Scope} {f : AnfVals} {ops : List AnfBinding} {res : Res} {u : AnfVal} {c1 c2 k1 k2 b1 b2 l1 : ℕ} → Binds Q W s w ops g f c1 k1 b1 l1 → Stands Q W g f res u c2 k2 b2 → NotCon u → c1 + c2 ≤ c.contractions → k1 + k2 ≡ c.matches → b1 + b2 ≡ c.blocks →
          Applied s w (then_arg d ops res arg) u v (c.contractions + c3.contractions) (c.matches + c3.matches) (c.blocks + c3.blocks)
      go {g} {f} {ops} bs (st_atom at) other cl km bm =
          applied_as (omega arith) (omega arith) (omega arith) (called d arg eq bs at (next g f (d + length ops) (binds_ext Q W bs) (omega (arith, binds_size Q W bs))))
      go bs (st_con hs few) other cl km bm = absurd other
      go {g} {f} {ops} {u = u} bs (st_op {op = op} does) other cl km bm =
          let deep : d + length ops ≡ count f = omega (arith, binds_size Q W bs) in
          let n = bound_op Q W (d + length ops) deep bs does in
          applied_as (omega (arith, n.le_c)) (omega arith) (omega (arith, n.blocks)) (called d arg eq n.binds n.at (next n.g n.f (d + length (ops ++ OpIs op ∷ [])) (binds_ext Q W n.binds) (omega (arith, binds_size Q W n.binds))))

  not_con_clos : {e : ClosureEnv} {t : BoxTerm} {u : AnfVal} → VR P K (VClosure e t) u → NotCon u
  not_con_clos (vr_clos d eq ok er) = tt

  not_con_box : {u : AnfVal} → VR P K VBox u → NotCon u
  not_con_box vr_box = tt

  not_con_fix : {e : ClosureEnv} {i : ℕ} {rargs : List ℕ} {bodies : BoxTerms} {u : AnfVal} → VR P K (VFix e i rargs bodies) u → NotCon u
  not_con_fix (vr_fix d eq under ok er) = tt

  -- an application
  applied_done : {s : Scope} {w : AnfVals} {n : Norm} {u y : AnfVal} {v r : ClosureValue} {c k b c4 k4 b4 l4 : ℕ} {c' : Counts} (h : Applied s w n u v c k b) → AnfDoes Q W h.g h.f (AppOp h.p
      h.q) y c4 k4 b4 l4 → VR P K r y → c + c4 ≤ c'.contractions → k + k4 ≡ c'.matches → b + b4 ≡ c'.blocks + (h.b2 + h.b3) → DoneTerm s w n r c'
  applied_done {y = y} {c4 = c4} {k4 = k4} {b4 = b4} h does is lc km bm =
      record {
        g = h.g;
        f = h.f;
        u = y;
        c1 = h.c1;
        c2 = c4;
        k1 = h.k1;
        k2 = k4;
        b1 = h.b1;
        b2 = b4;
        l1 = h.l1;
        binds = h.binds;
        stands = transport (λ z. Stands Q W h.g h.f z y c4 k4 b4) (sym h.res_is) (st_op does);
        is = is;
        le_c = omega (arith, h.le_c);
        matches = omega
            (arith, h.matches);
        blocks = omega (arith, h.blocks);
      }

  -- what is known of a term, wherever it stands
  abbrev Follows : ClosureEnv → BoxTerm → ClosureValue → Counts → Type 0
  Follows e t v c = (env : List Level) (ys : List ℕ) (s : Scope) (w : AnfVals) (d : ℕ) → d ≡ count w → ER P K e env ys s w → DoneTerm s w (norm K env d t) v c

  app_clos : {s : Scope} {w : AnfVals} {n : Norm} {u : AnfVal} {e : ClosureEnv} {t : BoxTerm} {v r : ClosureValue} {c k b : ℕ} {c3 c' : Counts} → VR P K (VClosure e t) u → Applied s w n u v c k b → (Ready P t → Follows (Bind v e) t r c3) → suc (c +
      c3.contractions) ≤ c'.contractions → k + c3.matches ≡ c'.matches → b + c3.blocks ≡ c'.blocks → DoneTerm s w n r c'
  app_clos (vr_clos {env = env} {ys = ys} {s = s'} {w = w'} d eq ok er) h next lc km bm =
      let x = next ok (LVar d ∷ env) (depth s' ∷ ys) (Plain s') (WCons h.x w') (suc d) (ap suc eq) (er_bind h.is (top_word s' w' h.x d eq) (er_ext (ext_push ext_same) er)) in
      let g = got (suc d) (ap suc eq) x in
      applied_done h (op_app h.fun h.arg g.gets) g.is (omega (arith, g.le_c)) km (omega arith)

  app_box : {s : Scope} {w : AnfVals} {n : Norm} {u : AnfVal} {v : ClosureValue} {c k b : ℕ} {c' : Counts} → VR P K VBox u → Applied s w n u v c k b → suc c ≤ c'.contractions → k ≡ c'.matches → b ≡ c'.blocks → DoneTerm s w n VBox c'
  app_box vr_box h lc km bm = applied_done h (op_app_box h.fun h.arg) vr_box (omega arith) (omega arith) (omega arith)

  app_fix : {s : Scope} {w : AnfVals} {n : Norm} {u : AnfVal} {e : ClosureEnv} {rargs : List ℕ} {i : ℕ} {bodies : BoxTerms} {t : BoxTerm} {v r : ClosureValue} {c k b : ℕ} {c3 c' : Counts} → VR P K (VFix e i rargs bodies) u → term_at bodies i ≡ Some (
    length rargs,
    BLambda
        t,
  ) → Applied s w n u v c k b → (Ready P t → Follows (Bind v (BindFix rargs bodies e)) t r c3) → suc (suc (c + c3.contractions)) ≤ c'.contractions → k + c3.matches ≡ c'.matches → b + c3.blocks ≡ c'.blocks → DoneTerm s w n r c'
  app_fix {rargs = rargs} {i = i} {bodies = bodies} {t = t} {c3 = c3} (vr_fix {env = env} {ys = ys} {s = s'} {w = w'} d eq under ok er) at h next lc km bm =
      let m = length rargs in
      let ds = norm_defs K env d m bodies in
      let cs = fix_captured s' ds in
      let w2 = fixes s' w' ds m +w w' in
      let s2 = shares cs m s' in
      let deep : d + m ≡ count w2 = omega (arith, fixes_size s' w' ds m) in
      let er2 = er_fix d eq under ok er refl (λ j lt. fixes_at s' w' ds cs d eq m j lt) (er_ext (fixes_ext s' w' ds cs m) er) in
      let x = next (ready_at P bodies i m (BLambda t) at ok).1.0 (LVar (d + m) ∷ levels d m env) (depth s2 ∷ ys) (Plain s2) (WCons h.x w2) (suc (d + m)) (ap suc deep) (er_bind h.is (top_word s2 w2 h.x (d + m) deep) (er_ext (ext_push ext_same) er2)) in
      let g = got (suc (d + m)) (ap suc deep) x in
      let run = transport (λ z. AnfGets Q W (Plain (shares cs z s')) (WCons h.x (fixes s' w' ds z +w w')) (sealed (suc (d + m)) (norm K (LVar (d + m) ∷ levels d m env) (suc (d + m)) t)) g.u g.c' c3.matches c3.blocks g.l') (sym (def_total K env d m m rargs bodies under)) g.gets in
      applied_done h (op_app_fix h.fun h.arg (lam_at K env d m bodies i m t at) run) g.is (omega (arith, g.le_c)) km (omega arith)

  app_fix_box : {s : Scope} {w : AnfVals} {n : Norm} {u : AnfVal} {e : ClosureEnv} {rargs : List ℕ} {i : ℕ} {bodies : BoxTerms} {v : ClosureValue} {c k b : ℕ} {c' : Counts} → VR P K (VFix e i rargs bodies) u → term_at bodies i ≡ Some (length rargs, Box) → Applied s w n u v c k b → suc (suc
      c) ≤ c'.contractions → k ≡ c'.matches → b ≡ c'.blocks → DoneTerm s w n VBox c'
  app_fix_box {rargs = rargs} {i = i} {bodies = bodies} (vr_fix {env = env} d eq under ok er) at h lc km bm =
      applied_done h (op_app_fix_box h.fun h.arg (box_at K env d (length rargs) bodies i (length rargs) at)) vr_box (omega arith) (omega arith) (omega arith)

  let_done : {s : Scope} {w : AnfVals} {n : Norm} {v r : ClosureValue} {c1 c2 c' : Counts} (d : ℕ) (body : ℕ → Level → Norm) → d ≡ count w → DoneTerm s w n v c1 → ((g : Scope) (f : AnfVals) (u : AnfVal) (d' : ℕ) → Ext s w g f → d' ≡ count f → VR P K v u → DoneTerm (Plain g) (WCons u f)
      (body (suc d') (LVar d')) r c2) → suc (c1.contractions + c2.contractions) ≤ c'.contractions → c1.matches + c2.matches ≡ c'.matches → c1.blocks + c2.blocks ≡ c'.blocks → DoneTerm s w (then_body d (with_variable d n.ops n.res) body) r c'
  let_done {n = n} {r = r} {c2 = c2} d body eq h next lc km bm =
      let deep : d + length n.ops ≡ count h.f = omega (arith, binds_size Q W h.binds) in
      let p = bound Q W (d + length n.ops) deep h.stands in
      let long : suc (d + length n.ops) ≡ d + length (with_variable d n.ops n.res).ops = omega (arith, length-append n.ops (binding_of (d + length n.ops) n.res ∷ [])) in
      let x = transport (λ z. DoneTerm (Plain h.g) (WCons h.u h.f) (body z (LVar (d + length n.ops))) r c2) long (next h.g h.f h.u (d + length n.ops) (binds_ext Q W h.binds) deep h.is) in
      record {
        g = x.g;
        f = x.f;
        u = x.u;
        c1 = h.c1 + p.c' + x.c1;
        c2 = x.c2;
        k1 = h.k1 + h.k2 + x.k1;
        k2 = x.k2;
        b1 = h.b1 + h.b2 + x.b1;
        b2 = x.b2;
        l1 = _;
        binds = binds_then Q W (binds_then Q W h.binds p.binds) x.binds;
        stands = x.stands;
        is = x.is;
        le_c = omega (arith, p.le_c, h.le_c, x.le_c);
        matches = omega (arith, h.matches, x.matches);
        blocks = omega (arith, h.blocks, x.blocks);
      }

  case_done : {s : Scope} {w : AnfVals} {n : Norm} {e : ClosureEnv} {env : List Level} {ys : List ℕ} {f : FamilyId} {i : ℕ} {vs : ClosureValues} {t : BoxTerm} {r : ClosureValue} {c1 c2 c' : Counts} (bs : BoxTerms) (d : ℕ) → d ≡ count w → ER P K e env ys s w → DoneTerm s w n (VConstruct f i
      vs) c1 → term_at bs i ≡ Some (size vs, t) → Follows (bind_all vs e) t r c2 → suc (c1.contractions + c2.contractions) ≤ c'.contractions → suc (c1.matches + c2.matches) ≡ c'.matches → c1.blocks + c2.blocks ≡ c'.blocks → DoneTerm s w (then_case d (named d n.ops n.res)
      (λ d'. norm_branches K env d' bs)) r c'
  case_done {s} {w} {n} {e} {env} {ys} {f} {i} {vs} {t} {r} {c1} {c2} {c'} bs d eq er h at next lc km bm =
      let a = name_done Q W d eq h.binds h.stands in
      go a.binds a.at h.is (omega (arith, a.le_c, h.le_c)) (omega (arith, h.matches)) (omega (arith, a.blocks, h.blocks))
    where
      go : {g : Scope} {fe : AnfVals} {u : AnfVal} {x1 y1 z1 l1 z2 l2 : ℕ} → Binds Q W s w (named d n.ops n.res).ops g fe x1 y1 z1 l1 → AtLevel W g fe (named d n.ops n.res).atom u z2 l2 → VR P K (VConstruct f i
          vs) u → x1 ≤ c1.contractions → y1 ≡ c1.matches → z1 + z2 ≡ c1.blocks → DoneTerm s w (then_case d (named d n.ops n.res) (λ d'. norm_branches K env d' bs)) r c'
      go {g} {fe} bds al (vr_con {ws = ws} gs) cl km' bm' =
          let d1 = d + length (named d n.ops n.res).ops in
          let deep : d1 ≡ count fe = omega (arith, binds_size Q W bds) in
          let deeper : d1 + size vs ≡ count (ws +w fe) = omega (arith, plains_size ws fe, vrs_size gs) in
          let args = er_args d1 deep gs (er_ext (binds_ext Q W bds) er) in
          let b = next (levels d1 (size vs) env) args.0 (plains (size vs) g) (ws +w fe) (d1 + size vs) deeper args.1 in
          let x = got (d1 + size vs) deeper b in
          let code = sealed (d1 + size vs) (norm K (levels d1 (size vs) env) (d1 + size vs) t) in
          let at' = transport (λ m. AnfBranchAt (norm_branches K env d1 bs) i m code) (vrs_size gs) (branch_at K env d1 bs i (size vs) t at) in
          let run = transport (λ m. AnfGets Q W (plains m g) (ws +w fe) code x.u x.c' c2.matches c2.blocks x.l') (vrs_size gs) x.gets in
          record { g = g; f = fe; u = x.u; c1 = _; c2 = _; k1 = _; k2 = _; b1 = _; b2 = _; l1 = _; binds = bds; stands = st_op (op_case (gives d1 deep al) at' run); is = x.is; le_c = omega (arith, x.le_c); matches = omega arith; blocks = omega arith }

  -- what a constructor with arguments has become
  record DoneArgs (s : Scope) (w : AnfVals) (n : Norm) (i : ℕ) (vs : ClosureValues) (c : Counts) : Type 0 where
    g : Scope
    f : AnfVals
    c1 : ℕ
    b1 : ℕ
    b2 : ℕ
    l1 : ℕ
    l2 : ℕ
    binds : Binds Q W s w n.ops g f c1 c.matches b1 l1
    args : List Level
    res_is : n.res ≡ RCon i args
    us : AnfVals
    all : AllLevels W g f args us b2 l2
    related : VRs P K vs us
    le_c : c1 ≤ c.contractions
    blocks : b1 + b2 ≡ c.blocks

  arg_done : {s : Scope} {w : AnfVals} {n : Norm} {i : ℕ} {vs : ClosureValues} {v : ClosureValue} {c c2 c' : Counts} (d : ℕ) (arg : ℕ →
      Norm) → d ≡ count w → DoneArgs s w n i vs c → ArgDone s w arg v c2 → c.contractions + c2.contractions ≤ c'.contractions → c.matches + c2.matches ≡ c'.matches → c.blocks + c2.blocks ≡ c'.blocks → DoneArgs s w (then_arg d n.ops n.res arg) i (Then v vs) c'
  arg_done {s} {w} {n} {i} {vs} {v} {c} {c2} {c'} d arg eq h next lc km bm = transport (λ z. DoneArgs s w (then_arg d n.ops z arg) i (Then v vs) c') (sym h.res_is) made
    where
      deep : d + length n.ops ≡ count h.f
      deep = omega (arith, binds_size Q W h.binds)

      made : DoneArgs s w (then_arg d n.ops (RCon i h.args) arg) i (Then v vs) c'
      made =
          let a = next h.g h.f (d + length n.ops) (binds_ext Q W h.binds) deep in
          let m = name_done Q W (d + length n.ops) deep a.binds a.stands in
          let same : c.matches + (a.k1 + a.k2) ≡ c'.matches = omega (arith, a.matches) in
          record {
            g = m.g;
            f = m.f;
            c1 = h.c1 + m.c';
            b1 = h.b1 + m.b1;
            b2 = m.b2 + h.b2;
            l1 = _;
            l2 = _;
            binds = binds_matches same (binds_then Q W h.binds m.binds);
            args = _;
            res_is = refl;
            us = WCons a.u h.us;
            all = ls_more m.at (levels_ext (binds_ext Q W m.binds) h.all);
            related = vrs_cons a.is h.related;
            le_c = omega (arith, h.le_c, m.le_c, a.le_c);
            blocks = omega (arith, h.blocks, m.blocks, a.blocks);
          }

  con_few : (n k : ℕ) → k ≡ n → (constructor_block n).greatest ≤ W → 0 < k → k < W
  con_few zero k eq le pos = absurd (omega arith)
  con_few (suc n) k eq le pos = omega arith

  con_made : (args : List Level) (n : ℕ) → length args ≡ n → con_blocks args ≡ (constructor_block n).blocks
  con_made [] zero eq = refl
  con_made [] (suc n) eq = absurd (omega arith)
  con_made (x ∷ xs) zero eq = absurd (omega arith)
  con_made (x ∷ xs) (suc n) eq = refl

  con_done : {s : Scope} {w : AnfVals} {n : Norm} {f : FamilyId} {i : ℕ} {vs : ClosureValues} {c : Counts} (k : ℕ) → size vs ≡ k → (constructor_block k).greatest ≤ W → DoneArgs s w n i vs c → DoneTerm s w n (VConstruct f i vs) (c ⊕ constructor_block k)
  con_done {i = i} k sz le h =
      let long : length h.args ≡ k = levels_size h.all ∙ sym (vrs_size h.related) ∙ sz in
      record {
        g = h.g;
        f = h.f;
        u = WCon i h.us;
        c1 = h.c1;
        c2 = 0;
        k1 = _;
        k2 = 0;
        b1 = h.b1;
        b2 = h.b2 + con_blocks h.args;
        l1 = h.l1;
        binds = h.binds;
        stands = transport (λ z. Stands Q W h.g h.f z (WCon i h.us) 0 0 (h.b2 + con_blocks h.args)) (sym h.res_is) (st_con h.all (con_few k (length h.args) long le));
        is = vr_con h.related;
        le_c = omega (arith, h.le_c);
        matches = omega (arith, constructor_block_matches k);
        blocks = omega (arith, h.blocks, con_made h.args k long);
      }

  value_done : {s : Scope} {w : AnfVals} {v : ClosureValue} {a : Level} → HeldAt P K s w (Holds v) a → DoneTerm s w (just (RAtom a)) v nothing
  value_done (holds_word g at) = at_once (st_atom (l_word at)) g (omega arith) refl refl

  definition_done : {s : Scope} {w : AnfVals} {e : ClosureEnv} {j : ℕ} {rargs : List ℕ} {bodies : BoxTerms} {a : Level} → fix_words e bodies ≤ W → HeldAt P K s w (Defines e j rargs bodies) a → DoneTerm s w (just (RAtom a)) (VFix e j rargs bodies) (block (fix_words e bodies))
  definition_done le (holds_fix {rargs = rargs} {bodies = bodies} {d' = d'} num under ok er at) =
      let few = fix_width d' rargs bodies num under ok er in
      at_once (st_atom (l_fix at (omega arith))) (vr_fix d' num under ok er) (omega arith) refl refl

  module _ (constants : (k : Name) (b : BoxTerm) → KeepsBoxConstant P k b → slice_get Q.constants (K k) ≡ Some (code_of K b)) (ready : (k : Name) (b : BoxTerm) → KeepsBoxConstant P k b → Ready P b) where
    mutual
      anf : {e : ClosureEnv} {t : BoxTerm} {v : ClosureValue} {c : Counts} → ClosureRun P e t v c → Ready P t → c.greatest ≤ W → Follows e t v c
      anf run_box ok le env ys s w d eq er = at_once (st_atom l_box) vr_box (omega arith) refl refl
      anf (run_value fs) ok le env ys s w d eq er = value_done (held_at fs er)
      anf (run_definition fs) ok le env ys s w d eq er = definition_done le (held_at fs er)
      anf (run_lambda {b = b}) ok le env ys s w d eq er =
          let few = lam_width d b eq ok.1.0 er in
          at_once (st_op (op_lam (omega arith))) (vr_clos d eq ok.1.0 er) (omega arith) refl refl
      anf (run_fix {rargs = rargs} {bodies = bodies}) ok le env ys s w d eq er =
          let few = fix_width d rargs bodies eq ok.0 ok.1.0 er in
          at_once (st_op (op_fix (omega arith))) (vr_fix d eq ok.0 ok.1.0 er) (omega arith) refl refl
      anf (run_constant {k = k} {b = b} keeps r) ok le env ys s w d eq er =
          let h = anf r (ready k b keeps) (omega arith) [] [] Outside WNil 0 refl er_empty in
          let g = got 0 refl h in
          at_once (st_op (op_const (constants k b keeps) g.gets)) g.is (omega (arith, g.le_c)) (omega arith) (omega arith)
      anf (run_let {t = t} r1 r2) ok le env ys s w d eq er =
          let_done d (λ d' x. norm K (x ∷ env) d' t) eq (anf r1 ok.1.0 (omega arith) env ys s w d eq er) (λ g f u d' x eq' is. anf r2 ok.1.1.0 (omega arith) (LVar d' ∷ env) (depth g ∷ ys) (Plain g) (WCons u f) (suc d') (ap suc eq')
          (er_bind is (top_word g f u d' eq') (er_ext (ext_trans x (ext_push ext_same)) er))) (omega arith) (omega arith) (omega arith)
      anf (run_app {a = a} r1 r2 r3) ok le env ys s w d eq er =
          let h = anf r1 ok.1.0 (omega arith) env ys s w d eq er in
          app_clos h.is (applied d (λ d'. norm K env d' a) eq h (not_con_clos h.is) (λ g f d' x eq'. anf r2 ok.1.1.0 (omega arith) env ys g f d' eq' (er_ext x er))) (λ ok'. anf r3 ok' (omega arith)) (omega arith) (omega arith) (omega arith)
      anf (run_box_app {a = a} r1 r2) ok le env ys s w d eq er =
          let h = anf r1 ok.1.0 (omega arith) env ys s w d eq er in
          app_box h.is (applied d (λ d'. norm K env d' a) eq h (not_con_box h.is) (λ g f d' x eq'. anf r2 ok.1.1.0 (omega arith) env ys g f d' eq' (er_ext x er))) (omega arith) (omega arith) (omega arith)
      anf (run_fix_app {a = a} r1 r2 at r3) ok le env ys s w d eq er =
          let h = anf r1 ok.1.0 (omega arith) env ys s w d eq er in
          app_fix h.is at (applied d (λ d'. norm K env d' a) eq h (not_con_fix h.is) (λ g f d' x eq'. anf r2 ok.1.1.0 (omega arith) env ys g f d' eq' (er_ext x er))) (λ ok'. anf r3 ok' (omega arith)) (omega arith) (omega arith) (omega arith)
      anf (run_fix_box {a = a} r1 r2 at) ok le env ys s w d eq er =
          let h = anf r1 ok.1.0 (omega arith) env ys s w d eq er in
          app_fix_box h.is at (applied d (λ d'. norm K env d' a) eq h (not_con_fix h.is) (λ g f d' x eq'. anf r2 ok.1.1.0 (omega arith) env ys g f d' eq' (er_ext x er))) (omega arith) (omega arith) (omega arith)
      anf (run_construct {n = n} keeps at sz r) ok le env ys s w d eq er = con_done n sz (omega arith) (anf_args r ok (omega arith) env ys s w d eq er)
      anf (run_match {i = i} {bs = bs} {vs = vs} keeps ordinary r1 at r2) ok le env ys s w d eq er =
          case_done bs d eq er (anf r1 ok.1.0 (omega arith) env ys s w d eq er) at (anf r2 (ready_at P bs i (size vs) _ at ok.1.1.0) (omega arith)) (omega arith) (omega arith) (omega arith)
      anf (run_only {F = F} keeps prop r1 r2) ok le env ys s w d eq er = absurd (ok.0 F keeps prop)

      anf_args : {e : ClosureEnv} {f : FamilyId} {i : ℕ} {t : BoxTerm} {vs : ClosureValues} {c : Counts} → RunArgs P e f i t vs c → Ready P t → c.greatest ≤ W →
          (env : List Level) (ys : List ℕ) (s : Scope) (w : AnfVals) (d : ℕ) → d ≡ count w → ER P K e env ys s w → DoneArgs s w (norm K env d t) i vs c
      anf_args run_head ok le env ys s w d eq er = record { g = s; f = w; c1 = 0; b1 = 0; b2 = 0; l1 = 0; l2 = 0; binds = binds_none; args = []; res_is = refl; us = WNil; all = ls_none; related = vrs_nil; le_c = omega arith; blocks = omega arith }
      anf_args (run_arg {a = a} r1 r2) ok le env ys s w d eq er =
          arg_done d (λ d'. norm K env d' a) eq (anf_args r1 ok.1.0 (omega arith) env ys s w d eq er) (λ g f d' x eq'. anf r2 ok.1.1.0 (omega arith) env ys g f d' eq' (er_ext x er)) (omega arith) (omega arith) (omega arith)

  mutual
    keeps_data : {v : ClosureValue} {u : AnfVal} {d : DataTree} → VR P K v u → ValueIs v d → AnfIsData u d
    keeps_data (vr_con gs) (value_is hs) = anf_data (keeps_all gs hs)
    keeps_data vr_box h = elim h [ ]
    keeps_data (vr_clos d eq ok er) h = elim h [ ]
    keeps_data (vr_fix d eq under ok er) h = elim h [ ]

    keeps_all : {vs : ClosureValues} {us : AnfVals} {ds : DataTrees} → VRs P K vs us → ValuesAre vs ds → AnfAreData us ds
    keeps_all vrs_nil no_values = anf_data_none
    keeps_all (vrs_cons g gs) (and_value h hs) = anf_data_more (keeps_data g h) (keeps_all gs hs)

  -- data is the same
  mutual
    data_related : {v : ClosureValue} {u : AnfVal} {d : DataTree} → ValueIs v d → AnfIsData u d → VR P K v u
    data_related (value_is hs) (anf_data gs) = vr_con (data_all hs gs)

    data_all : {vs : ClosureValues} {us : AnfVals} {ds : DataTrees} → ValuesAre vs ds → AnfAreData us ds → VRs P K vs us
    data_all no_values anf_data_none = vrs_nil
    data_all (and_value h hs) (anf_data_more g gs) = vrs_cons (data_related h g) (data_all hs gs)

  -- an application alone
  record AppAlone (s : Scope) (w : AnfVals) (op : AnfOp) (r : ClosureValue) (c : Counts) : Type 0 where
    u : AnfVal
    c' : ℕ
    l' : ℕ
    does : AnfDoes Q W s w op u c' c.matches c.blocks l'
    is : VR P K r u
    le_c : c' ≤ c.contractions

  app_alone : {s : Scope} {w : AnfVals} {op : AnfOp} {r : ClosureValue} {c : Counts} → DoneTerm s w (just (ROp op)) r c → AppAlone s w op r c
  app_alone {s} {w} {op} {r} {c} h = go h.binds h.stands h.is h.le_c h.matches h.blocks
    where
      go : {g : Scope} {f : AnfVals} {u : AnfVal} {c1 c2 k1 k2 b1 b2 l1 : ℕ} → Binds Q W s w [] g f c1 k1 b1 l1 → Stands Q W g f (ROp op) u c2 k2 b2 → VR P K r u → c1 + c2 ≤ c.contractions → k1 + k2 ≡ c.matches → b1 + b2 ≡ c.blocks → AppAlone s w op r c
      go {u = u} {c2 = c2} {k2 = k2} {b2 = b2} binds_none (st_op {l = l} does) is lc km bm =
          let ek : k2 ≡ c.matches = omega arith in
          let eb : b2 ≡ c.blocks = omega arith in
          record { u = u; c' = c2; l' = l; does = transport (λ z. AnfDoes Q W s w op u c2 c.matches z l) eb (transport (λ z. AnfDoes Q W s w op u c2 z b2 l) ek does); is = is; le_c = omega arith }

  record Answered (args' : AnfVals) (v : ClosureValue) (c : Counts) : Type 0 where
    u : AnfVal
    c' : ℕ
    l' : ℕ
    answers : AnfAnswers Q W args' u c' c.matches c.blocks l'
    is : VR P K v u
    le_c : c' ≤ c.contractions

  module _ (constants : (k : Name) (b : BoxTerm) → KeepsBoxConstant P k b → slice_get Q.constants (K k) ≡ Some (code_of K b)) (ready : (k : Name) (b : BoxTerm) → KeepsBoxConstant P k b → Ready P b) (ready_main : Ready P P.main) (main : Q.main ≡ code_of K P.main) where
    answered : {args : ClosureValues} {v : ClosureValue} {c : Counts} → BoxAnswers P args v c → c.greatest ≤ W → (args' : AnfVals) → VRs P K args args' → Answered args' v c
    answered {c = c} (box_alone run) le args' vrs_nil =
        let g = got 0 refl (anf constants ready run ready_main le [] [] Outside WNil 0 refl er_empty) in
        record { u = g.u; c' = g.c'; l' = g.l'; answers = main_alone (transport (λ t. AnfGets Q W Outside WNil t g.u g.c' c.matches c.blocks g.l') (sym main) g.gets); is = g.is; le_c = g.le_c }
    answered (box_applied m run) le args' (vrs_cons {w = u2} {ws = us} g gs) =
        let x = answered m (omega arith) us gs in
        let s1 = Plain Outside in
        let w1 = WCons x.u WNil in
        let e1 = er_bind x.is (top_word Outside WNil x.u 0 refl) er_empty in
        let e2 = er_bind g (top_word s1 w1 u2 1 refl) (er_ext (ext_push ext_same) e1) in
        let y = app_alone (anf constants ready run (tt, (tt, (tt, tt))) (omega arith) (LVar 1 ∷ LVar 0 ∷ []) (1 ∷ 0 ∷ []) (Plain s1) (WCons u2 w1) 2 refl e2) in
        record { u = y.u; c' = x.c' + y.c'; l' = _; answers = main_applied x.answers y.does; is = y.is; le_c = omega (arith, x.le_c, y.le_c) }

name_is : (k l : Name) → k.0 ≡ l.0 → k ≡ l
name_is k l e = ap (λ (n : ℕ). record { 0 = n }) e

record Place (cs : List BoxConstant) (x d : BoxConstant) : Type 0 where
  j : ℕ
  within : j < length cs
  at : slice_index_or cs j d ≡ x

place : {cs : List BoxConstant} {x : BoxConstant} (d : BoxConstant) → Has cs x → Place cs x d
place d here = record { j = 0; within = omega arith; at = refl }
place d (there h) = let r = place d h in record { j = suc r.j; within = omega (arith, r.within); at = r.at }

-- a constant stands at its number
number_at : (f : BoxConstant → AnfBlock) (cs : List BoxConstant) (k : Name) (b : BoxTerm) → AllPairs (λ c d. c.name ≢ d.name) cs → Has cs (record { name = k; body = b }) → slice_get (map f cs) (number_in cs k) ≡ Some (f (record { name = k; body = b }))
number_at f [] k b distinct has = elim has [ ]
number_at f (c ∷ cs) k b distinct here = rw (eq-eqb k.0 k.0 refl) refl
number_at f (c ∷ cs) k b distinct (there has) = go (nat_eq k.0 c.name.0) refl (number_at f cs k b (λ i j d lt below. distinct (suc i) (suc j) d (omega arith) (omega arith)) has)
  where
    go : (t : Bool) → nat_eq k.0 c.name.0 ≡ t → slice_get (map f cs) (number_in cs k) ≡ Some (f (record { name = k; body = b })) → slice_get (map f (c ∷ cs)) (if t then 0 else suc (number_in cs k)) ≡ Some (f (record { name = k; body = b }))
    go true e rec =
        let r = place c has in
        let within = r.within in
        absurd (distinct 0 (suc r.j) c (omega arith) (omega arith) (name_is c.name k (sym (eqb-true k.0 c.name.0 e)) ∙ ap (λ (x : BoxConstant). x.name) (sym r.at)))
    go false e rec = rec

pub to_anf_keeps : ToAnfKeeps
to_anf_keeps P args args' ds v d c ok are are' run is =
    let K = number_in P.constants in
    let Q = to_anf P in
    let code = λ (k : Name) (b : BoxTerm) (h : KeepsBoxConstant P k b). number_at (λ (x : BoxConstant). code_of K x.body) P.constants k b ok.distinct h in
    let g = answered P K Q c.greatest code ok.constants ok.main refl run (omega arith) args' (data_all P K Q c.greatest are are') in
    record { v = g.u; contractions = g.c'; words = g.l'; answers = g.answers; is = keeps_data P K Q c.greatest g.is is; no_more = g.le_c }
