-- The walk over the bindings of a block, over branches and over definitions, as it reads them.
use Rattle.std.proofs.Common.{◌≡◌, ℕ, suc, ◌+◌, ◌<◌, ◌≤◌, List, [], ◌∷◌, ◌++◌, length, take, drop, get_or, refl, sym, ap, ◌∙◌, subst as transport, arith, length-append}
use Rattle.std.proofs.lemmas.List.{drop_all}
use Rattle.std.specs.Prelude.{slice_set}
use Rattle.anf_convert.specs.Anf.{AnfBlock, AnfBranches, NoBranch, AnfDefs, NoDef, block_of, tail_of, def_count}
use Rattle.anf_convert.specs.AnfView.{seen as seen_anf, bindings_of, branches_of, defs_of}
use Rattle.anf_convert.specs.Captured.{Scope, Plain, plains}
use Rattle.anf_convert.specs.declared.program.Op.{Op}
use Rattle.anf_convert.specs.declared.program.AnfBranch.{AnfBranch}
use Rattle.anf_convert.specs.declared.program.AnfDef.{AnfDef}
use Rattle.anf_convert.specs.declared.program.AnfDef.TheVariants as def
use Rattle.anf_convert.proofs.ViewLists.{defs_of_count}
use Rattle.closure_lift.specs.Lifted.{Block, Fn}
use Rattle.closure_lift.specs.Lift.{LiftSlot, unnumbered, holding, block_functions, lift_branches, functions_block, functions_branches, def_functions, functions_defs}
use Rattle.closure_lift.specs.LiftedView.{seen, bounds_of, functions_of, branches_of as lifted_branches}
use Rattle.closure_lift.specs.FreeVariables.{size, notes_block, notes_branches, notes_defs}
use Rattle.closure_lift.specs.Noting.{notes_bound, notes_def}
use Rattle.closure_lift.specs.Lifting.{Stand, PlacesFor, BoundCaptures, DefCaptures, IsArm, arm_functions, closures_frame, closures_code, atoms_in, lifted_bound, functions_bound, definitions, def_body, functions_def, function_with, blanks, most_words}
use Rattle.closure_lift.specs.CapturedLimit.{BlockCaptures, BranchesCapture, DefsCapture}
use Rattle.closure_lift.specs.declared.program.LiftedOp.{LiftedOp}
use Rattle.closure_lift.specs.declared.program.LiftedBranch.{LiftedBranch}
use Rattle.closure_lift.specs.declared.program.Function.{Function}
use Rattle.closure_lift.proofs.Counted.{functions_length, bounds_append}
use Rattle.closure_lift.proofs.FreeWords.{size_plains}
use Rattle.closure_lift.proofs.Going.{BlockGoes, block_goes, ArmsGo, arms_go, arms_code, DefsGo, defs_go, defs_end, functions_more}
use Rattle.closure_lift.proofs.Making.{blanks_length}
use Rattle.closure_lift.proofs.Noting.{notes_step, notes_tail, notes_one, part_none}
use Rattle.closure_lift.proofs.Placed.{block_length}
use Rattle.closure_lift.proofs.Steps.{stand_first, block_noted, captures_first}
use Rattle.trees.proofs.Lists.{next_is}

-- what is noted of the next operation, and of the next branch, stands where the functions end
pub op_stands : (notes : List (List ℕ)) (g n : ℕ) (ops : List Op) (i : ℕ) (o : Op) (t : AnfBlock) → i < length ops → o ≡ get_or ops i o → Stand notes g (notes_block n (block_of (bindings_of (drop i ops)) t)) → Stand notes g (notes_bound n (seen_anf o))
op_stands notes g n ops i o t lt is st =
    stand_first notes g (notes_bound n (seen_anf o)) (notes_block (suc n) (block_of (bindings_of (drop (i + 1) ops)) t))
    (transport (Stand notes g) (ap (λ zs. notes_block n (block_of (bindings_of zs) t)) (next_is ops i o lt is) ∙ notes_step n (seen_anf o) (bindings_of (drop (i + 1) ops)) t) st)

pub arm_stands : (notes : List (List ℕ)) (g n : ℕ) (arms : List AnfBranch) (i : ℕ) (b : AnfBranch) → i < length arms → b ≡ get_or arms i b → Stand notes g (notes_branches n (branches_of (drop i arms))) → Stand notes g (notes_block (b.binders + n) b.body)
arm_stands notes g n arms i b lt is st =
    stand_first notes g (notes_block (b.binders + n) b.body) (notes_branches n (branches_of (drop (i + 1) arms)))
    (transport (λ zs. Stand notes g (notes_branches n (branches_of zs))) (next_is arms i b lt is) st)

pub inside_stands : (notes : List (List ℕ)) (g n : ℕ) (s s2 : Scope) (t : AnfBlock) → s2 ≡ plains n s → Stand notes g (notes_block (n + size s) t) → Stand notes g (notes_block (size s2) t)
inside_stands notes g n s s2 t e = transport (λ k. Stand notes g (notes_block k t)) (sym (ap size e ∙ size_plains n s))

pub def_stands : (notes : List (List ℕ)) (g n : ℕ) (ds : List AnfDef) (i : ℕ) (d : AnfDef) → i < length ds → d ≡ get_or ds i d → Stand notes g (notes_defs n (defs_of (drop i ds))) → Stand notes g (notes_def n d)
def_stands notes g n ds i d lt is st = stand_first notes g (notes_def n d) (notes_defs n (defs_of (drop (i + 1) ds))) (transport (Stand notes g) (notes_one n ds i d lt is) st)

-- what is asked of the rest of the program is asked of the next operation, branch or definition
pub op_captures : (s : Scope) (ops : List Op) (i : ℕ) (o : Op) (t : AnfBlock) → i < length ops → o ≡ get_or ops i o → BlockCaptures most_words s (block_of (bindings_of (drop i ops)) t) → BoundCaptures s (seen_anf o)
op_captures s ops i o t lt is r = captures_first s (seen_anf o) (bindings_of (drop (i + 1) ops)) t (transport (λ zs. BlockCaptures most_words s (block_of (bindings_of zs) t)) (next_is ops i o lt is) r)

pub arm_captures : (s : Scope) (arms : List AnfBranch) (i : ℕ) (b : AnfBranch) → i < length arms → b ≡ get_or arms i b → BranchesCapture most_words s (branches_of (drop i arms)) → BlockCaptures most_words (plains b.binders s) b.body
arm_captures s arms i b lt is r = (transport (λ zs. BranchesCapture most_words s (branches_of zs)) (next_is arms i b lt is) r).0

def_first : (s : Scope) (d : AnfDef) (ds : List AnfDef) → DefsCapture most_words s (defs_of (d ∷ ds)) → DefCaptures s d
def_first s (def.Lambda b) ds r = r.0
def_first s def.Box ds r = tt

pub def_captures : (s : Scope) (ds : List AnfDef) (i : ℕ) (d : AnfDef) → i < length ds → d ≡ get_or ds i d → DefsCapture most_words s (defs_of (drop i ds)) → DefCaptures s d
def_captures s ds i d lt is r = def_first s d (drop (i + 1) ds) (transport (λ zs. DefsCapture most_words s (defs_of zs)) (next_is ds i d lt is) r)

module _ (notes : List (List ℕ)) (v0 : Scope × List ℕ) (fr0 : List LiftSlot) (fs0 : List Function) (t0 : AnfBlock) where
  -- one more binding is lifted and stands behind the others
  pub goes_on : (i : ℕ) (v : Scope × List ℕ) (fr : List LiftSlot) (fs : List Function) (code : List LiftedOp) (ops : List Op) (o : Op) (t : AnfBlock) →
      BlockGoes notes v0 fr0 fs0 t0 i v fr fs (bounds_of code) (block_of (bindings_of (drop i ops)) t) → i < length ops → o ≡ get_or ops i o →
      (fr1 : List LiftSlot) (code1 code2 : List LiftedOp) (x : LiftedOp) (fs1 : List Function) (v1 v2 : Scope × List ℕ) (fr2 : List LiftSlot) →
      seen x ≡ lifted_bound v.0 v.1 fr1 (length fs) (seen_anf o) → fr1 ≡ closures_frame v.0 fr (atoms_in (seen_anf o)) → bounds_of code1 ≡ bounds_of code ++ closures_code v.0 v.1 fr (atoms_in (seen_anf o)) →
      functions_of fs1 ≡ functions_of fs ++ functions_bound v.0 v.1 (length fs) (seen_anf o) → BoundCaptures v.0 (seen_anf o) → v1 ≡ v → code2 ≡ code1 ++ x ∷ [] →
      v2 ≡ (plains 1 v1.0, unnumbered 1 v1.1) → fr2 ≡ holding 1 v1.0 fr1 →
      BlockGoes notes v0 fr0 fs0 t0 (i + 1) v2 fr2 fs1 (bounds_of code2) (block_of (bindings_of (drop (i + 1) ops)) t)
  goes_on i v fr fs code ops o t h lt is fr1 code1 code2 x fs1 v1 v2 fr2 eo ef ec en cap e1 e2 ev er =
      transport (λ z. BlockGoes notes v0 fr0 fs0 t0 (i + 1) v2 fr2 fs1 z (block_of (bindings_of (drop (i + 1) ops)) t)) (sym (ap bounds_of e2 ∙ bounds_append code1 (x ∷ [])))
      (block_goes notes v0 fr0 fs0 t0 i v fr fs (bounds_of code) (seen_anf o) (bindings_of (drop (i + 1) ops)) t
      (transport (λ zs. BlockGoes notes v0 fr0 fs0 t0 i v fr fs (bounds_of code) (block_of (bindings_of zs) t)) (next_is ops i o lt is) h)
      fr1 (bounds_of code1) (seen x) fs1 v2 fr2 eo ef ec en cap (ev ∙ ap (λ (v : Scope × List ℕ). let w : Scope × List ℕ = (plains 1 v.0, unnumbered 1 v.1) in w) e1) (er ∙ ap (λ (v : Scope × List ℕ). holding 1 v.0 fr1) e1))

  -- only the tail is left
  pub goes_last : (i : ℕ) (v : Scope × List ℕ) (fr : List LiftSlot) (fs : List Function) (code : List LiftedOp) (ops : List Op) (t : AnfBlock) →
      BlockGoes notes v0 fr0 fs0 t0 i v fr fs (bounds_of code) (block_of (bindings_of (drop i ops)) t) → length ops ≤ i → BlockGoes notes v0 fr0 fs0 t0 i v fr fs (bounds_of code) t
  goes_last i v fr fs code ops t h le = transport (λ zs. BlockGoes notes v0 fr0 fs0 t0 i v fr fs (bounds_of code) (block_of (bindings_of zs) t)) (drop_all i ops le) h

  -- the tail stands where the functions end
  pub last_stands : (i : ℕ) (v : Scope × List ℕ) (fr : List LiftSlot) (fs : List Function) (code : List LiftedOp) (o : Op) → BlockGoes notes v0 fr0 fs0 t0 i v fr fs (bounds_of code) (tail_of (seen_anf o)) → Stand notes (length fs) (notes_bound (size v.0) (seen_anf o))
  last_stands i v fr fs code o h = transport (Stand notes (length fs)) (notes_tail (size v.0) (seen_anf o)) h.stand

module _ (notes : List (List ℕ)) (v0 : Scope × List ℕ) (fr0 : List LiftSlot) (fs0 : List Function) (bs0 : AnfBranches) where
  -- one more branch is lifted and stands behind the others
  pub arms_on : (v : Scope × List ℕ) (fr : List LiftSlot) (fs : List Function) (items : List LiftedBranch) (arms : List AnfBranch) (i : ℕ) (b : AnfBranch) →
      ArmsGo notes v0 fr0 fs0 bs0 v fr fs items (branches_of (drop i arms)) → i < length arms → b ≡ get_or arms i b →
      (x : LiftedBranch) (fs1 : List Function) (v2 : Scope × List ℕ) (fr2 : List LiftSlot) (items2 : List LiftedBranch) →
      IsArm v fr (length fs) b.binders b.body x → functions_of fs1 ≡ functions_of fs ++ arm_functions v (length fs) b.binders b.body → BlockCaptures most_words (plains b.binders v.0) b.body → v2 ≡ v → fr2 ≡ fr → items2 ≡ items ++ x ∷ [] →
      ArmsGo notes v0 fr0 fs0 bs0 v2 fr2 fs1 items2 (branches_of (drop (i + 1) arms))
  arms_on v fr fs items arms i b h lt is x fs1 v2 fr2 items2 arm ef cap ev er ei =
      transport (λ zs. ArmsGo notes v0 fr0 fs0 bs0 v2 fr2 fs1 zs (branches_of (drop (i + 1) arms))) (sym ei)
      (arms_go notes v0 fr0 fs0 bs0 v fr fs items b.binders b.body (branches_of (drop (i + 1) arms)) (transport (λ zs. ArmsGo notes v0 fr0 fs0 bs0 v fr fs items (branches_of zs)) (next_is arms i b lt is) h)
      fs1 x v2 fr2 arm.binders arm.body ef cap ev er)

  -- all branches are lifted
  pub record ArmsEnd (v : Scope × List ℕ) (fr : List LiftSlot) (fs : List Function) (items : List LiftedBranch) : Type 0 where
    pub code : lifted_branches items ≡ lift_branches v0.0 v0.1 fr0 (length fs0) bs0
    pub functions : functions_of fs ≡ functions_of fs0 ++ functions_branches v0.0 v0.1 (length fs0) bs0
    pub captures : BranchesCapture most_words v0.0 bs0
    pub variables : v ≡ v0
    pub frame : fr ≡ fr0

  pub arms_end : (v : Scope × List ℕ) (fr : List LiftSlot) (fs : List Function) (items : List LiftedBranch) (arms : List AnfBranch) (i : ℕ) → ArmsGo notes v0 fr0 fs0 bs0 v fr fs items (branches_of (drop i arms)) → length arms ≤ i → ArmsEnd v fr fs items
  arms_end v fr fs items arms i h le =
      let last : ArmsGo notes v0 fr0 fs0 bs0 v fr fs items NoBranch = transport (λ zs. ArmsGo notes v0 fr0 fs0 bs0 v fr fs items (branches_of zs)) (drop_all i arms le) h in
      record { code = sym (arms_code items) ∙ last.code; functions = part_none refl last.functions; captures = last.captures tt; variables = last.variables; frame = last.frame }

module _ (notes : List (List ℕ)) (ws : List ℕ) (at : ℕ) (v0 : Scope × List ℕ) (fs0 : List Function) (ds0 : AnfDefs) where
  one_def : (i : ℕ) (v : Scope × List ℕ) (fs : List Function) (d : AnfDef) (rest : List AnfDef) → DefsGo notes ws at v0 fs0 ds0 i v fs (defs_of (d ∷ rest)) →
      (t : Block) (fs1 fs2 : List Function) (v2 : Scope × List ℕ) → t ≡ def_body v ws (length fs) d → functions_of fs1 ≡ functions_of fs ++ functions_def v (length fs) d → DefCaptures v.0 d →
      functions_of fs2 ≡ slice_set (functions_of fs1) (at + i) (function_with ws t) → v2 ≡ v → DefsGo notes ws at v0 fs0 ds0 (i + 1) v2 fs2 (defs_of rest)
  one_def i v fs (def.Lambda b) rest h t fs1 fs2 v2 et ef cap es ev =
      let g = length fs in
      let inner = functions_block (Plain v.0) (0 ∷ v.1) g b in
      let k : g + block_functions b ≡ g + length inner = ap (λ z. g + z) (sym (block_length (Plain v.0) (0 ∷ v.1) g b)) in
      defs_go notes ws at v0 fs0 ds0 i v fs (defs_of (def.Lambda b ∷ rest)) (defs_of rest) (function_with ws t) inner (notes_block (suc (size v.0)) b) h refl
      (ap (λ z. function_with ws z ∷ def_functions v.0 v.1 ws (g + block_functions b) (defs_of rest)) (sym et) ∙ ap (λ k. function_with ws t ∷ def_functions v.0 v.1 ws k (defs_of rest)) k)
      (ap (λ k. inner ++ functions_defs v.0 v.1 k (defs_of rest)) k) refl (block_noted (suc (size v.0)) b ∙ sym (block_length (Plain v.0) (0 ∷ v.1) g b)) (λ r. (cap, r)) (λ r. r.1) fs1 fs2 v2 ef es ev
  one_def i v fs def.Box rest h t fs1 fs2 v2 et ef cap es ev =
      let g = length fs in
      let k : g ≡ g + 0 = omega arith in
      defs_go notes ws at v0 fs0 ds0 i v fs (defs_of (def.Box ∷ rest)) (defs_of rest) (function_with ws t) [] [] h refl
      (ap (λ z. function_with ws z ∷ def_functions v.0 v.1 ws g (defs_of rest)) (sym et) ∙ ap (λ k. function_with ws t ∷ def_functions v.0 v.1 ws k (defs_of rest)) k)
      (ap (λ k. functions_defs v.0 v.1 k (defs_of rest)) k) refl refl (λ r. r) (λ r. r) fs1 fs2 v2 ef es ev

  -- one more definition is lifted and its function is in its place
  pub defs_on : (i : ℕ) (v : Scope × List ℕ) (fs : List Function) (ds : List AnfDef) (d : AnfDef) → DefsGo notes ws at v0 fs0 ds0 i v fs (defs_of (drop i ds)) → i < length ds → d ≡ get_or ds i d →
      (t : Block) (fs1 fs2 : List Function) (v2 : Scope × List ℕ) → t ≡ def_body v ws (length fs) d → functions_of fs1 ≡ functions_of fs ++ functions_def v (length fs) d → DefCaptures v.0 d →
      functions_of fs2 ≡ slice_set (functions_of fs1) (at + i) (function_with ws t) → v2 ≡ v → DefsGo notes ws at v0 fs0 ds0 (i + 1) v2 fs2 (defs_of (drop (i + 1) ds))
  defs_on i v fs ds d h lt is = one_def i v fs d (drop (i + 1) ds) (transport (λ zs. DefsGo notes ws at v0 fs0 ds0 i v fs (defs_of zs)) (next_is ds i d lt is) h)

  -- there is a place for the function
  pub def_room : (i : ℕ) (v : Scope × List ℕ) (fs : List Function) (ds : List AnfDef) (d : AnfDef) → DefsGo notes ws at v0 fs0 ds0 i v fs (defs_of (drop i ds)) → i < length ds → d ≡ get_or ds i d →
      (fs1 : List Function) (more : List Fn) → functions_of fs1 ≡ functions_of fs ++ more → at + i < length fs1
  def_room i v fs ds d h lt is fs1 more ef =
      let g = functions_more fs fs1 more (length more) ef refl in
      let n : length fs ≡ length h.before + length (h.done ++ (blanks (def_count (defs_of (drop i ds))) ++ h.inside)) = sym (functions_length fs) ∙ ap length h.are ∙ length-append h.before _ in
      let m = length-append h.done (blanks (def_count (defs_of (drop i ds))) ++ h.inside) in
      let l = length-append (blanks (def_count (defs_of (drop i ds)))) h.inside in
      let b = blanks_length (def_count (defs_of (drop i ds))) in
      let c : def_count (defs_of (drop i ds)) ≡ suc (length (drop (i + 1) ds)) = defs_of_count (drop i ds) ∙ ap length (next_is ds i d lt is) in
      let x = h.first in
      let y = h.count in
      omega arith

  -- all definitions are lifted
  pub record DefsEnd (v : Scope × List ℕ) (fs : List Function) : Type 0 where
    pub functions : functions_of fs ≡ take at (functions_of fs0) ++ definitions v0 ws (at + def_count ds0) ds0
    pub captures : DefsCapture most_words v0.0 ds0
    pub variables : v ≡ v0

  pub defs_last : (i : ℕ) (v : Scope × List ℕ) (fs : List Function) (ds : List AnfDef) → PlacesFor at (def_count ds0) (functions_of fs0) → DefsGo notes ws at v0 fs0 ds0 i v fs (defs_of (drop i ds)) → length ds ≤ i → DefsEnd v fs
  defs_last i v fs ds p h le =
      let last : DefsGo notes ws at v0 fs0 ds0 i v fs NoDef = transport (λ zs. DefsGo notes ws at v0 fs0 ds0 i v fs (defs_of zs)) (drop_all i ds le) h in
      record { functions = defs_end notes ws at v0 fs0 ds0 i v fs p last; captures = last.captures tt; variables = last.variables }
