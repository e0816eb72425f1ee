-- What stays true while a block, branches, or the definitions of a fixpoint are lifted one after another.
use Rattle.std.proofs.Common.{◌≡◌, ℕ, zero, suc, ◌+◌, ◌-◌, List, [], ◌∷◌, ◌++◌, length, take, drop, refl, sym, ap, ◌∙◌, subst as transport, arith, append_assoc, length-append}
use Rattle.std.proofs.lemmas.List.{append-nil, set_at}
use Rattle.std.specs.Prelude.{slice_set}
use Rattle.anf_convert.specs.Anf.{AnfBlock, AnfBranches, Branch, AnfDefs, NoDef, AnfBinding, block_of, tail_of, def_count}
use Rattle.anf_convert.specs.declared.program.Atom.{Atom}
use Rattle.anf_convert.specs.declared.program.Atom.TheVariants.{Var as AVar, Box as ABox, Empty as AEmpty}
use Rattle.anf_convert.specs.Captured.{Scope, Plain, depth, plains, Entry, Unbound, Word, Words, entry}
use Rattle.closure_lift.specs.Lifted.{Block, TailAtom, Bound, Fn, BranchBlocks, NoBranch}
use Rattle.closure_lift.specs.Lifted as lifted
use Rattle.closure_lift.specs.Lift.{LiftSlot, Holds, Made, block_functions, lift_block, lift_branches, functions_block, functions_branches, def_functions, functions_defs, unnumbered, holding}
use Rattle.closure_lift.specs.LiftedView.{functions_of, branches_of as lifted_branches}
use Rattle.closure_lift.specs.FreeVariables.{size, notes_block, notes_branches, notes_defs}
use Rattle.closure_lift.specs.Noting.{notes_bound}
use Rattle.closure_lift.specs.Lifting.{Stand, PlacesFor, BoundCaptures, definitions, closure_frame, closures_frame, closures_code, frame_for, atoms_in, lifted_bound, bound_functions, functions_bound, most_words, blanks}
use Rattle.closure_lift.specs.Variables.{outer}
use Rattle.closure_lift.specs.CapturedLimit.{BlockCaptures, BranchesCapture, DefsCapture}
use Rattle.closure_lift.specs.declared.program.Function.{Function}
use Rattle.closure_lift.specs.declared.program.LiftedBranch.{LiftedBranch}
use Rattle.closure_lift.proofs.Counted.{functions_length}
use Rattle.closure_lift.proofs.Making.{blanks_length}
use Rattle.closure_lift.proofs.Noting.{notes_step, part_more, part_last}
use Rattle.closure_lift.proofs.Placed.{block_length}
use Rattle.closure_lift.proofs.Steps.{lets_join, block_step, block_end, functions_step, functions_end, bound_length, bound_noted, block_noted, captures_step, captures_rest, captures_end, stand_after}

-- the block t0 was begun with the variables v0 where fr0 was held and fs0 were the functions; i bindings are done, with this code, and t is left
pub record BlockGoes (notes : List (List ℕ)) (v0 : Scope × List ℕ) (fr0 : List LiftSlot) (fs0 : List Function) (t0 : AnfBlock) (i : ℕ) (v : Scope × List ℕ) (fr : List LiftSlot) (fs : List Function) (code : List Bound) (t : AnfBlock) : Type 0 where
  pub block : lifted.block_of code (lift_block v.0 v.1 fr (length fs) t) ≡ lift_block v0.0 v0.1 fr0 (length fs0) t0
  pub functions : functions_of fs ++ functions_block v.0 v.1 (length fs) t ≡ functions_of fs0 ++ functions_block v0.0 v0.1 (length fs0) t0
  pub stand : Stand notes (length fs) (notes_block (size v.0) t)
  pub captures : BlockCaptures most_words v.0 t → BlockCaptures most_words v0.0 t0
  pub refuses : BlockCaptures most_words v0.0 t0 → BlockCaptures most_words v.0 t
  pub variables : (outer i v.0, drop i v.1) ≡ v0
  pub above : List LiftSlot
  pub frame : fr ≡ above ++ fr0

abbrev pub arms_before : List LiftedBranch → BranchBlocks → BranchBlocks
arms_before [] bs = bs
arms_before (b ∷ arms) bs = lifted.Branch b.binders b.body (arms_before arms bs)

pub record ArmsGo (notes : List (List ℕ)) (v0 : Scope × List ℕ) (fr0 : List LiftSlot) (fs0 : List Function) (bs0 : AnfBranches) (v : Scope × List ℕ) (fr : List LiftSlot) (fs : List Function) (arms : List LiftedBranch) (bs : AnfBranches) : Type 0 where
  pub code : arms_before arms (lift_branches v.0 v.1 fr (length fs) bs) ≡ lift_branches v0.0 v0.1 fr0 (length fs0) bs0
  pub functions : functions_of fs ++ functions_branches v.0 v.1 (length fs) bs ≡ functions_of fs0 ++ functions_branches v0.0 v0.1 (length fs0) bs0
  pub stand : Stand notes (length fs) (notes_branches (size v.0) bs)
  pub captures : BranchesCapture most_words v.0 bs → BranchesCapture most_words v0.0 bs0
  pub refuses : BranchesCapture most_words v0.0 bs0 → BranchesCapture most_words v.0 bs
  pub variables : v ≡ v0
  pub frame : fr ≡ fr0

pub record DefsGo (notes : List (List ℕ)) (ws : List ℕ) (at : ℕ) (v0 : Scope × List ℕ) (fs0 : List Function) (ds0 : AnfDefs) (i : ℕ) (v : Scope × List ℕ) (fs : List Function) (ds : AnfDefs) : Type 0 where
  pub before : List Fn
  pub done : List Fn
  pub inside : List Fn
  pub are : functions_of fs ≡ before ++ (done ++ (blanks (def_count ds) ++ inside))
  pub first : length before ≡ at
  pub count : length done ≡ i
  pub made : done ++ def_functions v.0 v.1 ws (length fs) ds ≡ def_functions v0.0 v0.1 ws (length fs0) ds0
  pub within : inside ++ functions_defs v.0 v.1 (length fs) ds ≡ functions_defs v0.0 v0.1 (length fs0) ds0
  pub start : before ≡ take at (functions_of fs0)
  pub stand : Stand notes (length fs) (notes_defs (size v.0) ds)
  pub captures : DefsCapture most_words v.0 ds → DefsCapture most_words v0.0 ds0
  pub refuses : DefsCapture most_words v0.0 ds0 → DefsCapture most_words v.0 ds
  pub variables : v ≡ v0

-- how many functions there are after some more
pub functions_more : (fs fs1 : List Function) (more : List Fn) (n : ℕ) → functions_of fs1 ≡ functions_of fs ++ more → length more ≡ n → length fs1 ≡ length fs + n
functions_more fs fs1 more n e c =
    let k : length (functions_of fs1) ≡ length (functions_of fs) + length more = ap length e ∙ length-append (functions_of fs) more in
    let a : length (functions_of fs1) ≡ length fs1 = functions_length fs1 in
    let b : length (functions_of fs) ≡ length fs = functions_length fs in
    omega arith

-- more closures stand above what was held
pub record Above (fr1 fr : List LiftSlot) : Type 0 where
  pub more : List LiftSlot
  pub is : fr1 ≡ more ++ fr

pub closures_above : (s : Scope) (fr : List LiftSlot) (as' : List Atom) → Above (closures_frame s fr as') fr
closures_above s fr [] = record { more = []; is = refl }
closures_above s fr (a ∷ as') =
    let r = closures_above s (closure_frame s fr a) as' in
    let q = one a in
    record { more = r.more ++ q.more; is = r.is ∙ ap (λ zs. r.more ++ zs) q.is ∙ sym (append_assoc r.more q.more fr) }
  where
    made : (i : ℕ) (e : Entry) → Above (frame_for fr i e) fr
    made i Unbound = record { more = []; is = refl }
    made i (Word x) = record { more = []; is = refl }
    made i (Words ws) = record { more = Made i ∷ []; is = refl }

    one : (a : Atom) → Above (closure_frame s fr a) fr
    one (AVar i) = made i (entry s i)
    one ABox = record { more = []; is = refl }
    one (AEmpty c) = record { more = []; is = refl }

module _ (notes : List (List ℕ)) (v0 : Scope × List ℕ) (fr0 : List LiftSlot) (fs0 : List Function) (t0 : AnfBlock) where
  -- one more binding is lifted
  pub block_goes : (i : ℕ) (v : Scope × List ℕ) (fr : List LiftSlot) (fs : List Function) (code : List Bound) (p : AnfBinding) (ps : List AnfBinding) (t : AnfBlock) →
      BlockGoes notes v0 fr0 fs0 t0 i v fr fs code (block_of (p ∷ ps) t) →
      (fr1 : List LiftSlot) (code1 : List Bound) (o : Bound) (fs1 : List Function) (v2 : Scope × List ℕ) (fr2 : List LiftSlot) →
      o ≡ lifted_bound v.0 v.1 fr1 (length fs) p → fr1 ≡ closures_frame v.0 fr (atoms_in p) → code1 ≡ code ++ closures_code v.0 v.1 fr (atoms_in p) →
      functions_of fs1 ≡ functions_of fs ++ functions_bound v.0 v.1 (length fs) p → BoundCaptures v.0 p → v2 ≡ (Plain v.0, 0 ∷ v.1) → fr2 ≡ Holds (depth v.0) ∷ fr1 →
      BlockGoes notes v0 fr0 fs0 t0 (i + 1) v2 fr2 fs1 (code1 ++ o ∷ []) (block_of ps t)
  block_goes i v fr fs code p ps t h fr1 code1 o fs1 v2 fr2 eo ef ec en cap ev er =
      let g1 : length fs1 ≡ length fs + bound_functions p = functions_more fs fs1 (functions_bound v.0 v.1 (length fs) p) (bound_functions p) en (bound_length v.0 v.1 (length fs) p) in
      let s2 : v2.0 ≡ Plain v.0 = ap (λ v. v.0) ev in
      let gs2 : v2.1 ≡ 0 ∷ v.1 = ap (λ v. v.1) ev in
      let cl : List Bound = closures_code v.0 v.1 fr (atoms_in p) in
      let o1 : Bound = lifted_bound v.0 v.1 (closures_frame v.0 fr (atoms_in p)) (length fs) p in
      let fr3 : List LiftSlot = Holds (depth v.0) ∷ closures_frame v.0 fr (atoms_in p) in
      let rest : Block = lift_block (Plain v.0) (0 ∷ v.1) fr3 (length fs + bound_functions p) (block_of ps t) in
      let er3 : fr2 ≡ fr3 = er ∙ ap (λ z. Holds (depth v.0) ∷ z) ef in
      let eo1 : o ≡ o1 = eo ∙ ap (λ z. lifted_bound v.0 v.1 z (length fs) p) ef in
      let ecode : code1 ++ o ∷ [] ≡ code ++ (cl ++ o1 ∷ []) = ap (λ z. z ++ o ∷ []) ec ∙ ap (λ z. (code ++ cl) ++ z ∷ []) eo1 ∙ append_assoc code cl (o1 ∷ []) in
      let erest : lift_block v2.0 v2.1 fr2 (length fs1) (block_of ps t) ≡ rest = cc in
      let efun : functions_block v2.0 v2.1 (length fs1) (block_of ps t) ≡ functions_block (Plain v.0) (0 ∷ v.1) (length fs + bound_functions p) (block_of ps t) = cc in
      let up = closures_above v.0 fr (atoms_in p) in
      let st : Stand notes (length fs + bound_functions p) (notes_block (suc (size v.0)) (block_of ps t)) =
      stand_after notes (length fs) (length fs + bound_functions p) (notes_bound (size v.0) p) (notes_block (suc (size v.0)) (block_of ps t)) (let z = bound_noted (size v.0) p in omega arith)
      (transport (Stand notes (length fs)) (notes_step (size v.0) p ps t) h.stand) in
      record {
        block = ap (λ z. lifted.block_of z (lift_block v2.0 v2.1 fr2 (length fs1) (block_of ps t))) ecode ∙ ap (lifted.block_of (code ++ (cl ++ o1 ∷ []))) erest ∙ lets_join code (cl ++ o1 ∷ []) rest
            ∙ ap (lifted.block_of code) (sym (block_step v.0 v.1 fr (length fs) p ps t)) ∙ h.block;
        functions = part_more (functions_of fs) (functions_bound v.0 v.1 (length fs) p) (functions_block v2.0 v2.1 (length fs1) (block_of ps t)) en
            (functions_step v.0 v.1 (length fs) p ps t ∙ ap (λ z. functions_bound v.0 v.1 (length fs) p ++ z) (sym efun)) h.functions;
        stand = transport (λ g. Stand notes g (notes_block (size v2.0) (block_of ps t))) (sym g1) (transport (λ s. Stand notes (length fs + bound_functions p) (notes_block (size s) (block_of ps t))) (sym s2) st);
        captures = λ r. h.captures (captures_step v.0 p ps t cap (transport (λ s. BlockCaptures most_words s (block_of ps t)) s2 r));
        refuses = λ r. transport (λ s. BlockCaptures most_words s (block_of ps t)) (sym s2) (captures_rest v.0 p ps t (h.refuses r));
        variables = one_more i v v2 ev ∙ h.variables;
        above = (Holds (depth v.0) ∷ up.more) ++ h.above;
        frame = er3 ∙ ap (λ z. Holds (depth v.0) ∷ z) (up.is ∙ ap (λ z. up.more ++ z) h.frame ∙ sym (append_assoc up.more h.above fr0));
      }
    where
      one_more : (i : ℕ) (v v2 : Scope × List ℕ) → v2 ≡ (Plain v.0, 0 ∷ v.1) → ◌≡◌ {A = Scope × List ℕ} (outer (i + 1) v2.0, drop (i + 1) v2.1) (outer i v.0, drop i v.1)
      one_more i v v2 e =
          let k : i + 1 ≡ suc i = omega arith in
          ap (λ (z : ℕ). let w : Scope × List ℕ = (outer z v2.0, drop z v2.1) in w) k ∙ ap (λ (z : Scope × List ℕ). let w : Scope × List ℕ = (outer (suc i) z.0, drop (suc i) z.1) in w) e

  pub record BlockEnds (v : Scope × List ℕ) (fr1 : List LiftSlot) (fs1 : List Function) (code1 : List Bound) (o : Bound) : Type 0 where
    pub block : lifted.block_of code1 (lifted.tail_of o) ≡ lift_block v0.0 v0.1 fr0 (length fs0) t0
    pub functions : functions_of fs1 ≡ functions_of fs0 ++ functions_block v0.0 v0.1 (length fs0) t0
    pub captures : BlockCaptures most_words v0.0 t0
    pub frame : drop (length fr1 - length fr0) fr1 ≡ fr0

  pub block_ends : (i : ℕ) (v : Scope × List ℕ) (fr : List LiftSlot) (fs : List Function) (code : List Bound) (p : AnfBinding) →
      BlockGoes notes v0 fr0 fs0 t0 i v fr fs code (tail_of p) →
      (fr1 : List LiftSlot) (code1 : List Bound) (o : Bound) (fs1 : List Function) →
      o ≡ lifted_bound v.0 v.1 fr1 (length fs) p → fr1 ≡ closures_frame v.0 fr (atoms_in p) → code1 ≡ code ++ closures_code v.0 v.1 fr (atoms_in p) →
      functions_of fs1 ≡ functions_of fs ++ functions_bound v.0 v.1 (length fs) p → BoundCaptures v.0 p → BlockEnds v fr1 fs1 code1 o
  block_ends i v fr fs code p h fr1 code1 o fs1 eo ef ec en cap =
      let cl : List Bound = closures_code v.0 v.1 fr (atoms_in p) in
      let o1 : Bound = lifted_bound v.0 v.1 (closures_frame v.0 fr (atoms_in p)) (length fs) p in
      let eo1 : o ≡ o1 = eo ∙ ap (λ z. lifted_bound v.0 v.1 z (length fs) p) ef in
      let up = closures_above v.0 fr (atoms_in p) in
      record {
        block = ap (λ z. lifted.block_of z (lifted.tail_of o)) ec ∙ ap (λ z. lifted.block_of (code ++ cl) (lifted.tail_of z)) eo1 ∙ lets_join code cl (lifted.tail_of o1) ∙ ap (lifted.block_of code) (sym (block_end v.0 v.1 fr (length fs) p)) ∙ h.block;
        functions = part_last (functions_of fs) en (functions_end v.0 v.1 (length fs) p) h.functions;
        captures = h.captures (captures_end v.0 p cap);
        frame = shrunk (up.more ++ h.above) fr1 (ef ∙ up.is ∙ ap (λ z. up.more ++ z) h.frame ∙ sym (append_assoc up.more h.above fr0));
      }
    where
      over : (xs : List LiftSlot) → drop (length xs) (xs ++ fr0) ≡ fr0
      over [] = refl
      over (x ∷ xs) = over xs

      shrunk : (xs fr1 : List LiftSlot) → fr1 ≡ xs ++ fr0 → drop (length fr1 - length fr0) fr1 ≡ fr0
      shrunk xs fr1 e =
          let n : length fr1 ≡ length xs + length fr0 = ap length e ∙ length-append xs fr0 in
          let k : length fr1 - length fr0 ≡ length xs = omega arith in
          ap (λ k. drop k fr1) k ∙ ap (drop (length xs)) e ∙ over xs

arms_join : (arms : List LiftedBranch) (b : LiftedBranch) (bs : BranchBlocks) → arms_before (arms ++ b ∷ []) bs ≡ arms_before arms (lifted.Branch b.binders b.body bs)
arms_join [] b bs = refl
arms_join (a ∷ arms) b bs = ap (lifted.Branch a.binders a.body) (arms_join arms b bs)

-- one more branch is lifted
pub arms_go : (notes : List (List ℕ)) (v0 : Scope × List ℕ) (fr0 : List LiftSlot) (fs0 : List Function) (bs0 : AnfBranches) (v : Scope × List ℕ) (fr : List LiftSlot) (fs : List Function) (arms : List LiftedBranch) (n : ℕ) (t : AnfBlock) (rest : AnfBranches) →
    ArmsGo notes v0 fr0 fs0 bs0 v fr fs arms (Branch n t rest) →
    (fs1 : List Function) (b : LiftedBranch) (v2 : Scope × List ℕ) (fr2 : List LiftSlot) →
    b.binders ≡ n → b.body ≡ lift_block (plains n v.0) (unnumbered n v.1) (holding n v.0 fr) (length fs) t →
    functions_of fs1 ≡ functions_of fs ++ functions_block (plains n v.0) (unnumbered n v.1) (length fs) t → BlockCaptures most_words (plains n v.0) t → v2 ≡ v → fr2 ≡ fr →
    ArmsGo notes v0 fr0 fs0 bs0 v2 fr2 fs1 (arms ++ b ∷ []) rest
arms_go notes v0 fr0 fs0 bs0 v fr fs arms n t rest h fs1 b v2 fr2 en et ef cap ev er =
    let inner : List Fn = functions_block (plains n v.0) (unnumbered n v.1) (length fs) t in
    let g1 : length fs1 ≡ length fs + block_functions t = functions_more fs fs1 inner (block_functions t) ef (block_length (plains n v.0) (unnumbered n v.1) (length fs) t) in
    let arm : lifted.Branch b.binders b.body (lift_branches v2.0 v2.1 fr2 (length fs1) rest) ≡ lift_branches v.0 v.1 fr (length fs) (Branch n t rest) = cc in
    let efun : functions_branches v2.0 v2.1 (length fs1) rest ≡ functions_branches v.0 v.1 (length fs + block_functions t) rest = cc in
    let st : Stand notes (length fs + block_functions t) (notes_branches (size v.0) rest) =
    stand_after notes (length fs) (length fs + block_functions t) (notes_block (n + size v.0) t) (notes_branches (size v.0) rest) (let z = block_noted (n + size v.0) t in omega arith) h.stand in
    record {
      code = arms_join arms b (lift_branches v2.0 v2.1 fr2 (length fs1) rest) ∙ ap (arms_before arms) arm ∙ h.code;
      functions = part_more (functions_of fs) inner (functions_branches v2.0 v2.1 (length fs1) rest) ef (ap (λ z. inner ++ z) (sym efun)) h.functions;
      stand = transport (λ g. Stand notes g (notes_branches (size v2.0) rest)) (sym g1) (transport (λ v. Stand notes (length fs + block_functions t) (notes_branches (size v.0) rest)) (sym ev) st);
      captures = λ r. h.captures (cap, transport (λ v. BranchesCapture most_words v.0 rest) ev r);
      refuses = λ r. transport (λ v. BranchesCapture most_words v.0 rest) (sym ev) (h.refuses r).1;
      variables = ev ∙ h.variables;
      frame = er ∙ h.frame;
    }

pub arms_code : (arms : List LiftedBranch) → arms_before arms NoBranch ≡ lifted_branches arms
arms_code [] = refl
arms_code (a ∷ arms) = ap (lifted.Branch a.binders a.body) (arms_code arms)

-- what was held is left once the branch is done
holding_shrunk : (n : ℕ) (s : Scope) (fr : List LiftSlot) → drop (length (holding n s fr) - length fr) (holding n s fr) ≡ fr
holding_shrunk n s fr = ap (λ k. drop k (holding n s fr)) (let z = held_length n in omega arith) ∙ over n
  where
    held_length : (n : ℕ) → length (holding n s fr) ≡ n + length fr
    held_length zero = omega arith
    held_length (suc n) = omega (arith, held_length n)

    over : (n : ℕ) → drop n (holding n s fr) ≡ fr
    over zero = refl
    over (suc n) = over n

pub frame_left : (n : ℕ) (s : Scope) (fr : List LiftSlot) {fr1 fr2 : List LiftSlot} {k : ℕ} → fr1 ≡ holding n s fr → k ≡ length fr → fr2 ≡ drop (length fr1 - k) fr1 → fr2 ≡ fr
frame_left n s fr {fr1} e ek e2 = e2 ∙ ap (λ k. drop (length fr1 - k) fr1) ek ∙ ap (λ z. drop (length z - length fr) z) e ∙ holding_shrunk n s fr

-- and the variables
pub variables_left : (i n : ℕ) {v v0 v1 v2 : Scope × List ℕ} → n ≡ i → v1 ≡ v → v2 ≡ (outer n v1.0, drop n v1.1) → ◌≡◌ {A = Scope × List ℕ} (outer i v.0, drop i v.1) v0 → v2 ≡ v0
variables_left i n {v} {v0} {v1} en e1 e2 e0 =
    e2 ∙ ap (λ (k : ℕ). let w : Scope × List ℕ = (outer k v1.0, drop k v1.1) in w) en ∙ ap (λ (z : Scope × List ℕ). let w : Scope × List ℕ = (outer i z.0, drop i z.1) in w) e1 ∙ e0

module _ (notes : List (List ℕ)) (ws : List ℕ) (at : ℕ) (v0 : Scope × List ℕ) (fs0 : List Function) (ds0 : AnfDefs) where
  regrouped : (before done inside inner : List Fn) (x : Fn) (bs : List Fn) → (before ++ (done ++ (x ∷ bs ++ inside))) ++ inner ≡ (before ++ done) ++ x ∷ (bs ++ (inside ++ inner))
  regrouped before done inside inner x bs =
      append_assoc before (done ++ (x ∷ bs ++ inside)) inner ∙ ap (λ z. before ++ z) (append_assoc done (x ∷ bs ++ inside) inner) ∙ ap (λ z. before ++ (done ++ x ∷ z)) (append_assoc bs inside inner)
      ∙ sym (append_assoc before done (x ∷ (bs ++ (inside ++ inner))))

  after_set : (before done : List Fn) (x : Fn) (bs : List Fn) → (before ++ done) ++ x ∷ bs ≡ before ++ ((done ++ x ∷ []) ++ bs)
  after_set before done x bs = append_assoc before done (x ∷ bs) ∙ ap (λ z. before ++ z) (sym (append_assoc done (x ∷ []) bs))

  -- one more definition is lifted
  pub defs_go : (i : ℕ) (v : Scope × List ℕ) (fs : List Function) (ds rest : AnfDefs) (fn : Fn) (inner : List Fn) (ns : List (List ℕ)) →
      DefsGo notes ws at v0 fs0 ds0 i v fs ds → def_count ds ≡ suc (def_count rest) →
      def_functions v.0 v.1 ws (length fs) ds ≡ fn ∷ def_functions v.0 v.1 ws (length fs + length inner) rest →
      functions_defs v.0 v.1 (length fs) ds ≡ inner ++ functions_defs v.0 v.1 (length fs + length inner) rest →
      notes_defs (size v.0) ds ≡ ns ++ notes_defs (size v.0) rest → length ns ≡ length inner →
      (DefsCapture most_words v.0 rest → DefsCapture most_words v.0 ds) → (DefsCapture most_words v.0 ds → DefsCapture most_words v.0 rest) →
      (fs1 fs2 : List Function) (v2 : Scope × List ℕ) → functions_of fs1 ≡ functions_of fs ++ inner → functions_of fs2 ≡ slice_set (functions_of fs1) (at + i) fn → v2 ≡ v →
      DefsGo notes ws at v0 fs0 ds0 (i + 1) v2 fs2 rest
  defs_go i v fs ds rest fn inner ns h ec ed ef en el cap back fs1 fs2 v2 e1 e2 ev =
      let blank : Fn = record { captured = 0; body = TailAtom ABox } in
      let a1 : functions_of fs1 ≡ (h.before ++ h.done) ++ blank ∷ (blanks (def_count rest) ++ (h.inside ++ inner)) =
      e1 ∙ ap (λ z. z ++ inner) (h.are ∙ ap (λ k. h.before ++ (h.done ++ (blanks k ++ h.inside))) ec) ∙ regrouped h.before h.done h.inside inner blank (blanks (def_count rest)) in
      let p : length (h.before ++ h.done) ≡ at + i = length-append h.before h.done ∙ (let x = h.first in let y = h.count in omega arith) in
      let a2 : functions_of fs2 ≡ (h.before ++ h.done) ++ fn ∷ (blanks (def_count rest) ++ (h.inside ++ inner)) =
      e2 ∙ ap (λ z. slice_set z (at + i) fn) a1 ∙ set_at (h.before ++ h.done) blank (blanks (def_count rest) ++ (h.inside ++ inner)) fn (at + i) p in
      let g1 : length fs1 ≡ length fs + length inner = functions_more fs fs1 inner (length inner) e1 refl in
      let same : length (functions_of fs2) ≡ length (functions_of fs1) =
      ap length a2 ∙ length-append (h.before ++ h.done) (fn ∷ (blanks (def_count rest) ++ (h.inside ++ inner))) ∙ sym (ap length a1 ∙ length-append (h.before ++ h.done) (blank ∷ (blanks (def_count rest) ++ (h.inside ++ inner)))) in
      let g2 : length fs2 ≡ length fs + length inner = let x = functions_length fs2 in let y = functions_length fs1 in omega arith in
      let emade : def_functions v2.0 v2.1 ws (length fs2) rest ≡ def_functions v.0 v.1 ws (length fs + length inner) rest = cc in
      let ewithin : functions_defs v2.0 v2.1 (length fs2) rest ≡ functions_defs v.0 v.1 (length fs + length inner) rest = cc in
      let st : Stand notes (length fs + length inner) (notes_defs (size v.0) rest) = stand_after notes (length fs) (length fs + length inner) ns (notes_defs (size v.0) rest) (omega arith) (transport (Stand notes (length fs)) en h.stand) in
      record {
        before = h.before;
        done = h.done ++ fn ∷ [];
        inside = h.inside ++ inner;
        are = a2 ∙ after_set h.before h.done fn (blanks (def_count rest) ++ (h.inside ++ inner));
        first = h.first;
        count = length-append h.done (fn ∷ []) ∙ ap (λ k. k + 1) h.count;
        made = append_assoc h.done (fn ∷ []) (def_functions v2.0 v2.1 ws (length fs2) rest) ∙ ap (λ z. h.done ++ fn ∷ z) emade ∙ ap (λ z. h.done ++ z) (sym ed) ∙ h.made;
        within = append_assoc h.inside inner (functions_defs v2.0 v2.1 (length fs2) rest) ∙ ap (λ z. h.inside ++ (inner ++ z)) ewithin ∙ ap (λ z. h.inside ++ z) (sym ef) ∙ h.within;
        start = h.start;
        stand = transport (λ g. Stand notes g (notes_defs (size v2.0) rest)) (sym g2) (transport (λ v. Stand notes (length fs + length inner) (notes_defs (size v.0) rest)) (sym ev) st);
        captures = λ r. h.captures (cap (transport (λ v. DefsCapture most_words v.0 rest) ev r));
        refuses = λ r. transport (λ v. DefsCapture most_words v.0 rest) (sym ev) (back (h.refuses r));
        variables = ev ∙ h.variables;
      }

  -- nothing is lifted yet
  pub defs_start : PlacesFor at (def_count ds0) (functions_of fs0) → Stand notes (length fs0) (notes_defs (size v0.0) ds0) → DefsGo notes ws at v0 fs0 ds0 0 v0 fs0 ds0
  defs_start p st = record {
    before = take at (functions_of fs0);
    done = [];
    inside = [];
    are = p.0 ∙ ap (λ z. take at (functions_of fs0) ++ z) (sym (append-nil (blanks (def_count ds0))));
    first = p.1;
    count = refl;
    made = refl;
    within = refl;
    start = refl;
    stand = st;
    captures = λ r. r;
    refuses = λ r. r;
    variables = refl;
  }

  -- all definitions are lifted
  pub defs_end : (i : ℕ) (v : Scope × List ℕ) (fs : List Function) → PlacesFor at (def_count ds0) (functions_of fs0) → DefsGo notes ws at v0 fs0 ds0 i v fs NoDef →
      functions_of fs ≡ take at (functions_of fs0) ++ definitions v0 ws (at + def_count ds0) ds0
  defs_end i v fs p h =
      let n : length fs0 ≡ at + def_count ds0 =
      sym (functions_length fs0) ∙ ap length p.0 ∙ length-append (take at (functions_of fs0)) (blanks (def_count ds0)) ∙ (let x = p.1 in let y = blanks_length (def_count ds0) in omega arith) in
      let made : h.done ≡ def_functions v0.0 v0.1 ws (length fs0) ds0 = sym (append-nil h.done) ∙ h.made in
      let within : h.inside ≡ functions_defs v0.0 v0.1 (length fs0) ds0 = sym (append-nil h.inside) ∙ h.within in
      h.are ∙ ap (λ z. z ++ (h.done ++ h.inside)) h.start ∙ ap (λ z. take at (functions_of fs0) ++ (z ++ h.inside)) made
      ∙ ap (λ z. take at (functions_of fs0) ++ (def_functions v0.0 v0.1 ws (length fs0) ds0 ++ z)) within ∙ ap (λ k. take at (functions_of fs0) ++ definitions v0 ws k ds0) n
