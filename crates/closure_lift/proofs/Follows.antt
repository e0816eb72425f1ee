-- The lifted program follows the evaluation of the program in A-normal form.
use Rattle.std.proofs.Common.{◌≡◌, ℕ, suc, ◌+◌, ◌<◌, ◌≤◌, List, [], ◌∷◌, length, refl, sym, ap, ◌∙◌, subst as transport, arith}
use Rattle.std.proofs.lemmas.List.{length-map}
use Rattle.std.proofs.lemmas.Option.{same_Some}
use Rattle.anf_convert.specs.Anf.{AnfOp, AppOp, CaseOp, AnfBlock, TailAtom, BindAtom, Bind, AnfBranches, AnfDefs, AnfProgram, def_count}
use Rattle.anf_convert.specs.declared.program.Atom.{Atom}
use Rattle.anf_convert.specs.declared.program.Atom.TheVariants.{Var as AVar}
use Rattle.anf_convert.specs.Captured.{Scope, Outside, Plain, depth, Word, Words, plains, shares, atom_words, atoms_words, op_words, block_words, branches_words, defs_words, lam_captured, fix_captured}
use Rattle.anf_convert.specs.AnfEvaluation.{AnfVal, WBox, WCon, WClos, WFix, AnfVals, WNil, WCons, count, ◌+w◌, fixes, LamAt, BoxAt, AnfBranchAt, at_branch, after_branch, Gives, give_word, give_fix, give_none, give_more, AnfDoes, op_const, op_app, op_app_box, op_app_fix, op_app_fix_box, op_con, op_lam, op_fix, op_case, AnfGets, block_atom, block_op, block_let, block_bind, AnfAnswers, main_alone, main_applied}
use Rattle.closure_lift.specs.Lifted.{Block, Tail, Program, Val, VBox, VCon, VClos, Vals, VNil, VCons, size, ◌+v◌, BranchAt, Is, is_var, is_box, AllAre, are_none, are_more, Does, do_const, do_app, do_box_app, do_con, do_clos, do_case, Gets, gets_atom, gets_let_atom, gets_ret, gets_let, LiftedAnswers, answers_alone, answers_applied}
use Rattle.closure_lift.specs.Lifted as lifted
use Rattle.closure_lift.specs.Lift.{LiftSlot, Holds, held, atom, closures, atoms_of, op_functions, unnumbered, numbered, holding, lift_op, lift_block, lift_branches, functions_op, functions_block, functions_branches, constants_functions, lift}
use Rattle.anf_convert.specs.AnfData.{DataTree, DataTrees, AnfIsData, anf_data, AnfAreData, anf_data_none, anf_data_more}
use Rattle.closure_lift.specs.LiftKeeps.{IsData, is_data, AreData, are_data_none, are_data_more, LiftKeeps}
use Rattle.closure_lift.proofs.Covering.{In, Covers, holds_all, covers_bind, covers_plains, lam_covers, fix_covers}
use Rattle.anf_convert.proofs.Scopes.{Each, each_split, each_join, each_all, captured_each}
use Rattle.closure_lift.proofs.Placed.{Placed, front, back, rest, first, def_length, then_block, branch_placed, def_placed, box_placed, constant_placed, main_placed}
use Rattle.closure_lift.proofs.Related.{word_in, VR, vr_box, vr_con, vr_clos, vr_fix, VRs, vrs_nil, vrs_cons, vrs_size, ER, er_nil, carries_size, er_captured, capture, er_push, er_pushes, pushes_size, er_fixes}
use Rattle.closure_lift.proofs.Closures.{Grown, grown_same, grown_size, grown_covers, grown_er, counted, Ready, ready}

not_words : {x : ℕ} {ws : List ℕ} → Word x ≡ Words ws → ⊥
not_words e = cc

pub holds_length : (ws : List ℕ) → length (holds_all ws) ≡ length ws
holds_length [] = refl
holds_length (x ∷ xs) = ap suc (holds_length xs)

branch_words : (F : ℕ → Type 0) (s : Scope) {bs : AnfBranches} {i n : ℕ} {t : AnfBlock} → AnfBranchAt bs i n t → Each F (branches_words s bs) → Each F (block_words (plains n s) t)
branch_words F s (at_branch {n = n} {t = t}) h = (each_split F (block_words (plains n s) t) _ h).0
branch_words F s (after_branch {m = m} {d = d} at) h = branch_words F s at (each_split F (block_words (plains m s) d) _ h).1

-- the atoms of an operation
pub one_atom : (fr : List LiftSlot) (s : Scope) (a : Atom) → Covers fr (depth s) (atom_words s a) → Covers fr (depth s) (atoms_words s (a ∷ []))
one_atom fr s a h = each_join (λ x. x < depth s → In (Holds x) fr) (atom_words s a) [] h tt

pub two_atoms : (fr : List LiftSlot) (s : Scope) (f a : Atom) → Covers fr (depth s) (op_words s (AppOp f a)) → Covers fr (depth s) (atoms_words s (f ∷ a ∷ []))
two_atoms fr s f a h = let r = each_split (λ x. x < depth s → In (Holds x) fr) (atom_words s f) _ h in each_join (λ x. x < depth s → In (Holds x) fr) (atom_words s f) _ r.0 (one_atom fr s a r.1)

pub covers_none : (xs : List ℕ) → Covers [] 0 xs
covers_none xs = each_all (λ x. x < 0 → In (Holds x) []) (λ x lt. absurd (omega arith)) xs

module _ (Q : AnfProgram) (w : ℕ) where
  abbrev P : Program
  P = lift Q

  -- a block gives the value
  pub record Got (le : Vals) (t : Block) (v : AnfVal) (c k b l : ℕ) : Type 0 where
    pub u : Val
    pub is : VR P v u
    pub c' : ℕ
    pub gets : Gets P w le t u c' k b l
    pub le_c : c' ≤ c

  -- so does an operation, after the closures for its atoms
  pub record Did (s : Scope) (gs : List ℕ) (fr : List LiftSlot) (le : Vals) (g : ℕ) (op : AnfOp) (v : AnfVal) (c k b l : ℕ) : Type 0 where
    pub fr' : List LiftSlot
    pub le' : Vals
    pub grown : Grown fr le fr' le'
    pub u : Val
    pub is : VR P v u
    pub c' : ℕ
    pub b1 : ℕ
    pub b2 : ℕ
    pub l1 : ℕ
    pub l2 : ℕ
    pub does : Does P w le' (lift_op s gs fr' g op) u c' k b2 l2
    pub wrap : (next : List LiftSlot → Block) (r : Val) (c k b' l' : ℕ) → Gets P w le' (next fr') r c k b' l' → Gets P w le (closures s gs fr (atoms_of op) next) r c k (b1 + b') (l1 + l')
    pub le_c : c' ≤ c
    pub blocks : b1 + b2 ≡ b
    pub words : l1 + l2 ≡ l

  -- a call of a closure
  record Called (le : Vals) (f a : Atom) (r : AnfVal) (c k b l : ℕ) : Type 0 where
    u : Val
    is : VR P r u
    c' : ℕ
    does : Does P w le (lifted.AppOp f a) u c' k b l
    le_c : c' ≤ c

  -- what is known of a block, wherever it stands
  abbrev Follows : Scope → AnfVals → AnfBlock → AnfVal → ℕ → ℕ → ℕ → ℕ → Type 0
  Follows s e t v c k b l = (gs : List ℕ) (fr : List LiftSlot) (le : Vals) (g : ℕ) → ER P (word_in fr le) s gs e → size le ≡ length fr → Covers fr (depth s) (block_words s t) → Placed (functions_block s gs g t) g P.functions → Got le (lift_block s gs fr g t) v c k b l

  -- an application after the closures for its atoms
  app_did : {s : Scope} {gs : List ℕ} {e : AnfVals} {fr : List LiftSlot} {le : Vals} {f a : Atom} {v1 v2 r : AnfVal} {c k b l : ℕ} (b1 b2 l1 l2 g : ℕ) (y : Ready P w s gs e fr le (f ∷ a ∷ []) (WCons v1 (WCons v2 WNil)) (b1 + (b2 + 0)) (l1 + (l2 + 0))) → ((le' : Vals) (f' a' : Atom)
      (u1 u2 : Val) → Is le' f' u1 → Is le' a' u2 → VR P v1 u1 → VR P v2 u2 → Called le' f' a' r c k b l) → Did s gs fr le g (AppOp f a) r c k (b1 + b2 + b) (l1 + l2 + l)
  app_did {s} {f = f} {a = a} {v1 = v1} {v2 = v2} {r = r} {c = c} {k = k} {b = b} {l = l} b1 b2 l1 l2 g y call =
      let d = go y.all y.related in
      record { fr' = y.fr'; le' = y.le'; grown = y.grown; u = d.u; is = d.is; c' = d.c'; b1 = b1 + (b2 + 0); b2 = b; l1 = l1 + (l2 + 0); l2 = l; does = d.does; wrap = y.wrap; le_c = d.le_c; blocks = omega arith; words = omega arith }
    where
      go : {us : Vals} → AllAre y.le' (atom s y.fr' f ∷ atom s y.fr' a ∷ []) us → VRs P (WCons v1 (WCons v2 WNil)) us → Called y.le' (atom s y.fr' f) (atom s y.fr' a) r c k b l
      go (are_more h1 (are_more h2 are_none)) (vrs_cons g1 (vrs_cons g2 vrs_nil)) = call _ _ _ _ _ h1 h2 g1 g2

  call_clos : {s : Scope} {e : AnfVals} {t : AnfBlock} {v r : AnfVal} {c k b l : ℕ} → Follows (Plain s) (WCons v e) t r c k b l → (le : Vals) (f a : Atom) (u1 u2 : Val) → Is le f u1 → Is le a u2 → VR P (WClos s e t) u1 → VR P v u2 → Called le f a r (suc c) k b l
  call_clos {s} {t = t} next le f a u1 u2 is1 is2 (vr_clos {gs = gs} {us = us} {g = g} er sz p) g2 =
      let cs = lam_captured s t in
      let x = next (0 ∷ gs) (Holds (depth s) ∷ holds_all cs) (VCons u2 us) (suc g) (er_push (holds_all cs) us er g2) (ap suc (sz ∙ sym (holds_length cs))) (lam_covers s t) (rest p) in
      record { u = x.u; is = x.is; c' = suc x.c'; does = do_app is1 is2 (first p) sz x.gets; le_c = omega (arith, x.le_c) }

  call_box : {v : AnfVal} (le : Vals) (f a : Atom) (u1 u2 : Val) → Is le f u1 → Is le a u2 → VR P WBox u1 → VR P v u2 → Called le f a WBox 1 0 0 0
  call_box le f a u1 u2 is1 is2 vr_box g2 = record { u = VBox; is = vr_box; c' = 1; does = do_box_app is1 is2; le_c = omega arith }

  call_fix : {s : Scope} {e : AnfVals} {ds : AnfDefs} {i : ℕ} {t : AnfBlock} {v r : AnfVal} {c k b l : ℕ} → LamAt ds i t → Follows (Plain (shares (fix_captured s ds) (def_count ds) s)) (WCons v (fixes s e ds (def_count ds) +w e)) t r c k b l → (le : Vals) (f a : Atom) (u1 u2 :
      Val) → Is le f u1 → Is le a u2 → VR P (WFix s e ds i) u1 → VR P v u2 → Called le f a r (suc (suc c)) k b l
  call_fix {s} {ds = ds} {t = t} at next le f a u1 u2 is1 is2 (vr_fix {gs = gs} {us = us} {g = g} {n = j} er sz p num) g2 =
      let cs = fix_captured s ds in
      let n = def_count ds in
      let s2 = shares cs n s in
      let gs2 = numbered g n gs in
      let d = def_placed g (g + n) j num at (front _ _ p) (back _ _ (omega (arith, def_length s2 gs2 cs (g + n) ds)) p) in
      let x = next (0 ∷ gs2) (Holds (depth s2) ∷ holds_all cs) (VCons u2 us) d.from (er_push (holds_all cs) us (er_fixes ds n er p) g2) (ap suc (sz ∙ sym (holds_length cs))) (fix_covers s ds at) d.placed in
      record { u = x.u; is = x.is; c' = suc x.c'; does = do_app is1 is2 d.at sz x.gets; le_c = omega (arith, x.le_c) }

  call_fix_box : {s : Scope} {e : AnfVals} {ds : AnfDefs} {i : ℕ} {v : AnfVal} → BoxAt ds i → (le : Vals) (f a : Atom) (u1 u2 : Val) → Is le f u1 → Is le a u2 → VR P (WFix s e ds i) u1 → VR P v u2 → Called le f a WBox 2 0 0 0
  call_fix_box {s} {ds = ds} at le f a u1 u2 is1 is2 (vr_fix {gs = gs} {us = us} {g = g} {n = j} er sz p num) g2 =
      let cs = fix_captured s ds in
      let n = def_count ds in
      record { u = VBox; is = vr_box; c' = 1; does = do_app is1 is2 (box_placed (shares cs n s) (numbered g n gs) cs g (g + n) j num at (front _ _ p)) sz (gets_atom is_box); le_c = omega arith }

  case_did : {s : Scope} {gs : List ℕ} {e : AnfVals} {fr : List LiftSlot} {le : Vals} {a : Atom} {i : ℕ} {vs : AnfVals} {t : AnfBlock} {r : AnfVal} {c k b l : ℕ} (bs : AnfBranches) (b1 l1 g : ℕ) (y : Ready P w s gs e fr le (a ∷ []) (WCons (WCon i vs) WNil) (b1 + 0)
      (l1 + 0)) → ER P (word_in y.fr' y.le') s gs e → size y.le' ≡ length y.fr' → Covers y.fr' (depth s) (branches_words s bs) → AnfBranchAt bs i (count vs) t → Placed (functions_branches s gs g bs) g P.functions → Follows (plains (count vs) s) (vs +w
      e) t r c k b l → Did s gs fr le g (CaseOp a bs) r (suc c) (suc k) (b1 + b) (l1 + l)
  case_did {s} {gs} {e} {fr} {le} {a = a} {i = i} {vs = vs} {t = t} {r = r} {c = c} {k = k} {b = b} {l = l} bs b1 l1 g y er eq cov at p next = go y.all y.related
    where
      go : {us : Vals} → AllAre y.le' (atom s y.fr' a ∷ []) us → VRs P (WCons (WCon i vs) WNil) us → Did s gs fr le g (CaseOp a bs) r (suc c) (suc k) (b1 + b) (l1 + l)
      go (are_more isa are_none) (vrs_cons (vr_con {vs = us} related) vrs_nil) =
          let n = count vs in
          let br = branch_placed y.fr' g at p in
          let x = next (unnumbered n gs) (holding n s y.fr') (us +v y.le') br.from (er_pushes y.fr' y.le' er related) (pushes_size s y.fr' y.le' eq related) (covers_plains n s y.fr' (block_words (plains n s) t) (branch_words (λ x. x < depth s → In (Holds x) y.fr') s at cov)) br.placed in
          let at' = transport (λ m. BranchAt (lift_branches s gs y.fr' g bs) i m (lift_block (plains n s) (unnumbered n gs) (holding n s y.fr') br.from t)) (sym (vrs_size related)) br.at in
          record { fr' = y.fr'; le' = y.le'; grown = y.grown; u = x.u; is = x.is; c' = suc x.c'; b1 = b1 + 0; b2 = b; l1 = l1 + 0; l2 = l; does = do_case isa at' x.gets; wrap = y.wrap; le_c = omega (arith, x.le_c); blocks = omega arith; words = omega arith }

  -- nothing is made before an operation without atoms
  no_wrap : {le : Vals} {t : Block} {r : Val} {c k b l : ℕ} → Gets P w le t r c k b l → Gets P w le t r c k (0 + b) (0 + l)
  no_wrap h = counted refl refl (omega arith) (omega arith) h

  did_same : {s : Scope} {gs : List ℕ} {fr : List LiftSlot} {le : Vals} {g : ℕ} {op : AnfOp} {v : AnfVal} {c k b l b' l' : ℕ} → b ≡ b' → l ≡ l' → Did s gs fr le g op v c k b l → Did s gs fr le g op v c k b' l'
  did_same eb el h = record { fr' = h.fr'; le' = h.le'; grown = h.grown; u = h.u; is = h.is; c' = h.c'; b1 = h.b1; b2 = h.b2; l1 = h.l1; l2 = h.l2; does = h.does; wrap = h.wrap; le_c = h.le_c; blocks = h.blocks ∙ eb; words = h.words ∙ el }

  atom_got : {s : Scope} {gs : List ℕ} {e : AnfVals} {fr : List LiftSlot} {le : Vals} {a : Atom} {v : AnfVal} {b l : ℕ} (g : ℕ) (y : Ready P w s gs e fr le (a ∷ []) (WCons v WNil) (b + 0) (l + 0)) → Got le (lift_block s gs fr g (TailAtom a)) v 0 0 b l
  atom_got {s} {gs} {fr = fr} {le = le} {a = a} {v = v} {b = b} {l = l} g y = go y.all y.related
    where
      go : {us : Vals} → AllAre y.le' (atom s y.fr' a ∷ []) us → VRs P (WCons v WNil) us → Got le (lift_block s gs fr g (TailAtom a)) v 0 0 b l
      go (are_more {v = u} isa are_none) (vrs_cons related vrs_nil) =
          record { u = u; is = related; c' = 0; gets = counted refl refl (omega arith) (omega arith) (y.wrap (λ fr'. lifted.TailAtom (atom s fr' a)) u 0 0 0 0 (gets_atom isa)); le_c = omega arith }

  let_got : {s : Scope} {gs : List ℕ} {e : AnfVals} {fr : List LiftSlot} {le : Vals} {a : Atom} {v r : AnfVal} {c k b l : ℕ} (t : AnfBlock) (b1 l1 g : ℕ) (y : Ready P w s gs e fr le (a ∷ []) (WCons v WNil) (b1 + 0) (l1 + 0)) → ER P (word_in y.fr'
      y.le') s gs e → size y.le' ≡ length y.fr' → Covers y.fr' (depth s) (block_words (Plain s) t) → Placed (functions_block (Plain s) (0 ∷ gs) g t) g P.functions → Follows (Plain s) (WCons v e) t r c k b l → Got le (lift_block s gs fr g (BindAtom a t)) r (suc c) k (b1 + b) (l1 + l)
  let_got {s} {gs} {fr = fr} {le = le} {a = a} {v = v} {r = r} {c = c} {k = k} {b = b} {l = l} t b1 l1 g y er eq cov p next = go y.all y.related
    where
      go : {us : Vals} → AllAre y.le' (atom s y.fr' a ∷ []) us → VRs P (WCons v WNil) us → Got le (lift_block s gs fr g (BindAtom a t)) r (suc c) k (b1 + b) (l1 + l)
      go (are_more {v = u} isa are_none) (vrs_cons related vrs_nil) =
          let x = next (0 ∷ gs) (Holds (depth s) ∷ y.fr') (VCons u y.le') g (er_push y.fr' y.le' er related) (ap suc eq) (covers_bind s y.fr' (block_words (Plain s) t) cov) p in
          record { u = x.u; is = x.is; c' = suc x.c'; gets = counted refl refl (omega arith) (omega arith) (y.wrap (λ fr'. lifted.BindAtom (atom s fr' a) (lift_block (Plain s) (0 ∷ gs) (Holds (depth s) ∷ fr') g t)) x.u (suc x.c') k b l (gets_let_atom isa x.gets)); le_c = omega (arith, x.le_c) }

  bind_got : {s : Scope} {gs : List ℕ} {fr : List LiftSlot} {le : Vals} {g : ℕ} {op : AnfOp} {v r : AnfVal} {c c1 k k1 b b1 l l1 : ℕ} (t : AnfBlock) (h : Did s gs fr le g op v c1 k1 b1 l1) → Got (VCons h.u h.le') (lift_block (Plain s) (0 ∷ gs) (Holds (depth s) ∷ h.fr')
      (g + op_functions op) t) r c k b l → Got le (lift_block s gs fr g (Bind op t)) r (c1 + c) (k1 + k) (b1 + b) (l1 + l)
  bind_got {s} {gs} {fr} {le} {g} {op} {k = k} {k1 = k1} {b = b} {l = l} t h x =
      record {
        u = x.u;
        is = x.is;
        c' = h.c' + x.c';
        gets = counted refl refl (omega (arith, h.blocks)) (omega (arith, h.words))
            (h.wrap (λ fr'. lifted.Bind (lift_op s gs fr' g op) (lift_block (Plain s) (0 ∷ gs) (Holds (depth s) ∷ fr') (g + op_functions op) t)) x.u (h.c' + x.c') (k1 + k) (h.b2 + b) (h.l2 + l) (gets_let h.does x.gets));
        le_c = omega (arith, h.le_c, x.le_c);
      }

  mutual
    follows_op : {s : Scope} {e : AnfVals} {op : AnfOp} {v : AnfVal} {c k b l : ℕ} → AnfDoes Q w s e op v c k b l → (gs : List ℕ) (fr : List LiftSlot) (le : Vals) (g : ℕ) → ER P (word_in fr le) s gs e → size le ≡ length fr → Covers fr (depth s) (op_words s op) → Placed (functions_op
        s gs g op) g P.functions → Did s gs fr le g op v c k b l
    follows_op (op_const {x = x} {t = t} at d) gs fr le g er eq cov p =
        let q = constant_placed Q x t at in
        let h = follows d [] [] VNil q.from er_nil refl (covers_none (block_words Outside t)) q.placed in
        record { fr' = fr; le' = le; grown = grown_same; u = h.u; is = h.is; c' = suc h.c'; b1 = 0; b2 = _; l1 = 0; l2 = _; does = do_const q.at h.gets; wrap = λ next r c k b' l' z. no_wrap z; le_c = omega (arith, h.le_c); blocks = omega arith; words = omega arith }
    follows_op {s} (op_app {f = f} {a = a} {b1 = b1} {b2 = b2} {l1 = l1} {l2 = l2} h1 h2 d) gs fr le g er eq cov p =
        app_did b1 b2 l1 l2 g (ready P w fr le (give_more h1 (give_more h2 give_none)) er eq (two_atoms fr s f a cov)) (call_clos (follows d))
    follows_op {s} (op_app_box {f = f} {a = a} {b1 = b1} {b2 = b2} {l1 = l1} {l2 = l2} h1 h2) gs fr le g er eq cov p =
        did_same (omega arith) (omega arith) (app_did b1 b2 l1 l2 g (ready P w fr le (give_more h1 (give_more h2 give_none)) er eq (two_atoms fr s f a cov)) call_box)
    follows_op {s} (op_app_fix {f = f} {a = a} {b1 = b1} {b2 = b2} {l1 = l1} {l2 = l2} h1 h2 at d) gs fr le g er eq cov p =
        app_did b1 b2 l1 l2 g (ready P w fr le (give_more h1 (give_more h2 give_none)) er eq (two_atoms fr s f a cov)) (call_fix at (follows d))
    follows_op {s} (op_app_fix_box {f = f} {a = a} {b1 = b1} {b2 = b2} {l1 = l1} {l2 = l2} h1 h2 at) gs fr le g er eq cov p =
        did_same (omega arith) (omega arith) (app_did b1 b2 l1 l2 g (ready P w fr le (give_more h1 (give_more h2 give_none)) er eq (two_atoms fr s f a cov)) (call_fix_box at))
    follows_op {s} (op_con {as' = as'} {b = b} {l = l} hs few) gs fr le g er eq cov p =
        let y = ready P w fr le hs er eq cov in
        let long = length-map as' (atom s y.fr') in
        record { fr' = y.fr'; le' = y.le'; grown = y.grown; u = VCon _ y.us; is = vr_con y.related; c' = 0; b1 = b; b2 = 1; l1 = l; l2 = _; does = do_con (omega arith) y.all; wrap = y.wrap; le_c = omega arith; blocks = refl; words = omega arith }
    follows_op {s} (op_lam {t = t} few) gs fr le g er eq cov p =
        let cs = lam_captured s t in
        let x = capture fr le eq cs (captured_each (λ x. In (Holds x) fr) (depth s) (block_words (Plain s) t) cov) in
        let long = length-map cs (held fr) in
        record {
          fr' = fr;
          le' = le;
          grown = grown_same;
          u = VClos g x.us;
          is = vr_clos (er_captured x.carries er) (carries_size x.carries) p;
          c' = 0;
          b1 = 0;
          b2 = 1;
          l1 = 0;
          l2 = _;
          does = do_clos (omega arith) x.all;
          wrap = λ next r c k b' l' z. no_wrap z;
          le_c = omega arith;
          blocks = omega arith;
          words = omega arith;
        }
    follows_op {s} (op_fix {ds = ds} {i = i} few) gs fr le g er eq cov p =
        let cs = fix_captured s ds in
        let x = capture fr le eq cs (captured_each (λ x. In (Holds x) fr) (depth s) (defs_words (shares [] (def_count ds) s) ds) cov) in
        let long = length-map cs (held fr) in
        record {
          fr' = fr;
          le' = le;
          grown = grown_same;
          u = VClos (g + i) x.us;
          is = vr_fix (er_captured x.carries er) (carries_size x.carries) p refl;
          c' = 0;
          b1 = 0;
          b2 = 1;
          l1 = 0;
          l2 = _;
          does = do_clos (omega arith) x.all;
          wrap = λ next r c k b' l' z. no_wrap z;
          le_c =
              omega arith;
          blocks = omega arith;
          words = omega arith;
        }
    follows_op {s} (op_case {a = a} {bs = bs} {b1 = b1} {l1 = l1} h at d) gs fr le g er eq cov p =
        let parts = each_split (λ x. x < depth s → In (Holds x) fr) (atom_words s a) _ cov in
        let y = ready P w fr le (give_more h give_none) er eq (one_atom fr s a parts.0) in
        case_did bs b1 l1 g y (grown_er y.grown er) (grown_size y.grown eq) (grown_covers (depth s) (branches_words s bs) y.grown parts.1) at p (follows d)

    pub follows : {s : Scope} {e : AnfVals} {t : AnfBlock} {v : AnfVal} {c k b l : ℕ} → AnfGets Q w s e t v c k b l → (gs : List ℕ) (fr : List LiftSlot) (le : Vals) (g : ℕ) → ER P (word_in fr le) s gs e → size le ≡ length fr → Covers fr (depth s) (block_words s
        t) → Placed (functions_block s gs g t) g P.functions → Got le (lift_block s gs fr g t) v c k b l
    follows {s} (block_atom {a = a} h) gs fr le g er eq cov p = atom_got g (ready P w fr le (give_more h give_none) er eq (one_atom fr s a cov))
    follows {s} (block_op {op = op} {k = k} d) gs fr le g er eq cov p =
        let h = follows_op d gs fr le g er eq cov p in
        record { u = h.u; is = h.is; c' = h.c'; gets = counted refl refl h.blocks h.words (h.wrap (λ fr'. Tail (lift_op s gs fr' g op)) h.u h.c' k h.b2 h.l2 (gets_ret h.does)); le_c = h.le_c }
    follows {s} (block_let {a = a} {t = t} {b1 = b1} {l1 = l1} h d) gs fr le g er eq cov p =
        let parts = each_split (λ x. x < depth s → In (Holds x) fr) (atom_words s a) _ cov in
        let y = ready P w fr le (give_more h give_none) er eq (one_atom fr s a parts.0) in
        let_got t b1 l1 g y (grown_er y.grown er) (grown_size y.grown eq) (grown_covers (depth s) (block_words (Plain s) t) y.grown parts.1) p (follows d)
    follows {s} (block_bind {op = op} {t = t} {k = k} {k1 = k1} {b = b} {l = l} d1 d2) gs fr le g er eq cov p =
        let parts = each_split (λ x. x < depth s → In (Holds x) fr) (op_words s op) _ cov in
        let h = follows_op d1 gs fr le g er eq parts.0 (front _ _ p) in
        let covers = covers_bind s h.fr' (block_words (Plain s) t) (grown_covers (depth s) (block_words (Plain s) t) h.grown parts.1) in
        let x = follows d2 (0 ∷ gs) (Holds (depth s) ∷ h.fr') (VCons h.u h.le') (g + op_functions op) (er_push h.fr' h.le' (grown_er h.grown er) h.is) (ap suc (grown_size h.grown eq)) covers (then_block s gs g op t p) in
        bind_got t h x

  -- data is the same
  mutual
    pub data_related : {v : AnfVal} {u : Val} {d : DataTree} → AnfIsData v d → IsData u d → VR P v u
    data_related (anf_data hs) (is_data gs) = vr_con (data_all hs gs)

    data_all : {vs : AnfVals} {us : Vals} {ds : DataTrees} → AnfAreData vs ds → AreData us ds → VRs P vs us
    data_all anf_data_none are_data_none = vrs_nil
    data_all (anf_data_more h hs) (are_data_more g gs) = vrs_cons (data_related h g) (data_all hs gs)

  mutual
    pub keeps_data : {v : AnfVal} {u : Val} {d : DataTree} → VR P v u → AnfIsData v d → IsData u d
    keeps_data (vr_con gs) (anf_data hs) = is_data (keeps_all gs hs)
    keeps_data vr_box h = elim h [ ]
    keeps_data (vr_clos er sz p) h = elim h [ ]
    keeps_data (vr_fix er sz p n) h = elim h [ ]

    keeps_all : {vs : AnfVals} {us : Vals} {ds : DataTrees} → VRs P vs us → AnfAreData vs ds → AreData us ds
    keeps_all vrs_nil anf_data_none = are_data_none
    keeps_all (vrs_cons g gs) (anf_data_more h hs) = are_data_more (keeps_data g h) (keeps_all gs hs)

  -- main, applied
  record Answered (args : Vals) (v : AnfVal) (c k b l : ℕ) : Type 0 where
    u : Val
    is : VR P v u
    c' : ℕ
    answers : LiftedAnswers P w args u c' k b l
    le_c : c' ≤ c

  -- the variables hold a value and its argument
  record Same (x v : AnfVal) (b l : ℕ) : Type 0 where
    value : v ≡ x
    no_block : b ≡ 0
    no_word : l ≡ 0

  fun_is : {a v x : AnfVal} {b l : ℕ} → Gives w (Plain (Plain Outside)) (WCons a (WCons v WNil)) (AVar 1) x b l → Same x v b l
  fun_is (give_word is at) = record { value = same_Some _ _ at; no_block = refl; no_word = refl }
  fun_is (give_fix is at few) = absurd (not_words is)

  arg_is : {a v x : AnfVal} {b l : ℕ} → Gives w (Plain (Plain Outside)) (WCons a (WCons v WNil)) (AVar 0) x b l → Same x a b l
  arg_is (give_word is at) = record { value = same_Some _ _ at; no_block = refl; no_word = refl }
  arg_is (give_fix is at few) = absurd (not_words is)

  called_same : {le : Vals} {f a : Atom} {r : AnfVal} {c k b l b' l' : ℕ} → b ≡ b' → l ≡ l' → Called le f a r c k b l → Called le f a r c k b' l'
  called_same {le} {f} {a} {k = k} {b} {l} {b'} {l'} eb el h = record { u = h.u; is = h.is; c' = h.c'; does = transport (λ z. Does P w le (lifted.AppOp f a) h.u h.c' k b' z) el (transport (λ z. Does P w le (lifted.AppOp f a) h.u h.c' k z l) eb h.does); le_c = h.le_c }

  -- a value is applied to a value
  applied : {a v r : AnfVal} {c k b l : ℕ} (u1 u2 : Val) → AnfDoes Q w (Plain (Plain Outside)) (WCons a (WCons v WNil)) (AppOp (AVar 1) (AVar 0)) r c k b l → VR P v u1 → VR P a u2 → Called (VCons u2 (VCons u1 VNil)) (AVar 1) (AVar 0) r c k b l
  applied u1 u2 (op_app h1 h2 d) g1 g2 =
      let x = fun_is h1 in
      let y = arg_is h2 in
      called_same (omega (arith, x.no_block, y.no_block)) (omega (arith, x.no_word, y.no_word)) (call_clos (follows d) (VCons u2 (VCons u1 VNil)) (AVar 1) (AVar 0) u1 u2 (is_var refl) (is_var refl) (transport (λ z. VR P z u1) x.value g1) (transport (λ z. VR P z u2) y.value g2))
  applied u1 u2 (op_app_box h1 h2) g1 g2 =
      let x = fun_is h1 in
      let y = arg_is h2 in
      called_same (omega (arith, x.no_block, y.no_block)) (omega (arith, x.no_word, y.no_word)) (call_box (VCons u2 (VCons u1 VNil)) (AVar 1) (AVar 0) u1 u2 (is_var refl) (is_var refl) (transport (λ z. VR P z u1) x.value g1) (transport (λ z. VR P z u2) y.value g2))
  applied u1 u2 (op_app_fix h1 h2 at d) g1 g2 =
      let x = fun_is h1 in
      let y = arg_is h2 in
      called_same (omega (arith, x.no_block, y.no_block)) (omega (arith, x.no_word, y.no_word)) (call_fix at (follows d) (VCons u2 (VCons u1 VNil)) (AVar 1) (AVar 0) u1 u2 (is_var refl) (is_var refl) (transport (λ z. VR P z u1) x.value g1) (transport (λ z. VR P z u2) y.value g2))
  applied u1 u2 (op_app_fix_box h1 h2 at) g1 g2 =
      let x = fun_is h1 in
      let y = arg_is h2 in
      called_same (omega (arith, x.no_block, y.no_block)) (omega (arith, x.no_word, y.no_word)) (call_fix_box at (VCons u2 (VCons u1 VNil)) (AVar 1) (AVar 0) u1 u2 (is_var refl) (is_var refl) (transport (λ z. VR P z u1) x.value g1) (transport (λ z. VR P z u2) y.value g2))

  answered : {args : AnfVals} {v : AnfVal} {c k b l : ℕ} → AnfAnswers Q w args v c k b l → (args' : Vals) → VRs P args args' → Answered args' v c k b l
  answered (main_alone d) args' vrs_nil =
      let h = follows d [] [] VNil (constants_functions Q.constants) er_nil refl (covers_none (block_words Outside Q.main)) (main_placed Q) in
      record { u = h.u; is = h.is; c' = h.c'; answers = answers_alone h.gets; le_c = h.le_c }
  answered (main_applied m d) args' (vrs_cons {v = u} {vs = us} g gs) =
      let x = answered m us gs in
      let y = applied x.u u d x.is g in
      record { u = y.u; is = y.is; c' = x.c' + y.c'; answers = answers_applied x.answers y.does; le_c = omega (arith, x.le_c, y.le_c) }

pub lift_keeps : LiftKeeps
lift_keeps P w args args' ds v d c k b l h h' run is =
    let x = answered P w run args' (data_all P w h h') in
    record { v = x.u; contractions = x.c'; answers = x.answers; is = keeps_data P w x.is is; no_more = x.le_c }
