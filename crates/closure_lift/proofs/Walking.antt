-- What one step of the writing walk gives: a lambda, a fixpoint, and the refusals.
use Rattle.std.proofs.Common.{◌≡◌, ℕ, zero, suc, ◌+◌, ◌<◌, List, [], ◌∷◌, ◌++◌, length, take, drop, get_or, refl, sym, ap, ◌∙◌, subst as transport, arith, append_assoc}
use Rattle.std.proofs.lemmas.List.{set_at}
use Rattle.std.specs.Prelude.{slice_set, Result, Ok, Err, IfOk, IfErr, OnOk}
use Rattle.anf_convert.specs.Anf.{LamOp, FixOp, AnfBlock, AnfDefs, NoDef, LamDef, BoxDef, def_count}
use Rattle.anf_convert.specs.declared.program.Atom.TheVariants.{Box as ABox}
use Rattle.anf_convert.specs.Captured.{Scope, Plain, plains, shares, lam_captured, fix_captured}
use Rattle.closure_lift.specs.Lifted.{Block, TailAtom, Fn}
use Rattle.closure_lift.specs.Lift.{numbered, unnumbered, functions_op, functions_block}
use Rattle.closure_lift.specs.LiftedView.{functions_of}
use Rattle.closure_lift.specs.FreeVariables.{size, free_op, notes_op, notes_block, notes_defs, nothing, at_first}
use Rattle.closure_lift.specs.Variables.{outer}
use Rattle.closure_lift.specs.Lifting.{Stand, LiftRefuses, PlacesFor, words_for, function_with, function_body, definitions, blanks, most_words}
use Rattle.closure_lift.specs.declared.program.Function.{Function}
use Rattle.closure_lift.specs.declared.fault.LiftFault.{LiftFault}
use Rattle.closure_lift.specs.declared.fault.LiftFault.TheVariants.{Captured, Functions, Memory}
use Rattle.closure_lift.proofs.Counted.{functions_length}
use Rattle.closure_lift.proofs.FreeWords.{lam_free, fix_free, size_shares}
use Rattle.closure_lift.proofs.Going.{functions_more}
use Rattle.closure_lift.proofs.Making.{blanks_length}
use Rattle.closure_lift.proofs.Steps.{stand_after, first_length, outer_plains, outer_shares, drop_unnumbered, drop_numbered}

refuses_part : {P Q : Type 0} (e : LiftFault) → (Q → P) → LiftRefuses P e → LiftRefuses Q e
refuses_part Captured f r = λ q. r (f q)
refuses_part Functions f r = r
refuses_part Memory f r = tt

pub refused_by : {X P Q : Type 0} (r : Result X LiftFault) (e : LiftFault) → r ≡ Err e → (Q → P) → LiftRefuses P e → IfErr r (LiftRefuses Q)
refused_by {Q = Q} r e is f h = transport (λ r. IfErr r (LiftRefuses Q)) (sym is) (refuses_part e f h)

-- words that are known and few
pub few_words : {E : Type 0} (r : Result (List ℕ) E) (ws : List ℕ) → IfOk r (λ vs. vs ≡ ws) → IfOk r (λ vs. length vs < most_words) → OnOk r (length ws < most_words)
few_words (Ok vs) ws e few = transport (λ vs. length vs < most_words) e few
few_words (Err e) ws h few = tt

at_drop : {A : Type 0} (l : List A) (g : ℕ) (x : A) (r : List A) (d : A) → drop g l ≡ x ∷ r → get_or l g d ≡ x
at_drop [] zero x r d e = absurd cc
at_drop [] (suc g) x r d e = absurd cc
at_drop (y ∷ l) zero x r d e = cc
at_drop (y ∷ l) (suc g) x r d e = at_drop l g x r d e

-- a lambda
module _ (notes : List (List ℕ)) (s : Scope) (gs : List ℕ) (b : AnfBlock) (fs0 : List Function) (st : Stand notes (length fs0) (notes_op (size s) (LamOp b))) where
  lam_at : get_or notes (length fs0) [] ≡ free_op (size s) (LamOp b)
  lam_at = at_drop notes (length fs0) (free_op (size s) (LamOp b)) (notes_block (suc (size s)) b ++ st.rest) [] st.is

  pub lam_words : (g : ℕ) → g ≡ length fs0 → words_for s (get_or notes g []) ≡ lam_captured s b
  lam_words g e = ap (λ k. words_for s (get_or notes k [])) e ∙ ap (words_for s) lam_at ∙ sym (lam_free s b)

  module _ (fs1 : List Function) (e1 : functions_of fs1 ≡ functions_of fs0 ++ blanks 1) where
    lam_more : length fs1 ≡ length fs0 + 1
    lam_more = functions_more fs0 fs1 (blanks 1) 1 e1 refl

    pub lam_stand : Stand notes (length fs1) (notes_block (suc (size s)) b)
    lam_stand = stand_after notes (length fs0) (length fs1) (free_op (size s) (LamOp b) ∷ []) (notes_block (suc (size s)) b) lam_more st

    pub lam_functions : (fs2 fs3 : List Function) (ws : List ℕ) (t : Block) → functions_of fs2 ≡ functions_of fs1 ++ functions_block (Plain s) (0 ∷ gs) (length fs1) b →
        functions_of fs3 ≡ slice_set (functions_of fs2) (length fs0) (function_with ws t) → t ≡ function_body (s, gs) ws (length fs1) b → ws ≡ lam_captured s b →
        functions_of fs3 ≡ functions_of fs0 ++ functions_op s gs (length fs0) (LamOp b)
    lam_functions fs2 fs3 ws t e2 e3 et ew =
        let blank : Fn = record { captured = 0; body = TailAtom ABox } in
        let f0 = functions_of fs0 in
        let inner = functions_block (Plain s) (0 ∷ gs) (length fs1) b in
        let a2 : functions_of fs2 ≡ f0 ++ blank ∷ inner = e2 ∙ ap (λ z. z ++ inner) e1 ∙ append_assoc f0 (blanks 1) inner in
        let k : length fs1 ≡ suc (length fs0) = let m = lam_more in omega arith in
        e3 ∙ ap (λ z. slice_set z (length fs0) (function_with ws t)) a2 ∙ set_at f0 blank inner (function_with ws t) (length fs0) (functions_length fs0)
        ∙ ap (λ z. f0 ++ function_with ws z ∷ inner) et ∙ ap (λ k. f0 ++ function_with ws (function_body (s, gs) ws k b) ∷ functions_block (Plain s) (0 ∷ gs) k b) k
        ∙ ap (λ ws. f0 ++ function_with ws (function_body (s, gs) ws (suc (length fs0)) b) ∷ functions_block (Plain s) (0 ∷ gs) (suc (length fs0)) b) ew

-- the captured words of a fixpoint with a definition, whose functions are numbered from g on
module _ (notes : List (List ℕ)) (s : Scope) (ds : AnfDefs) (g : ℕ) (st : Stand notes g (notes_op (size s) (FixOp ds 0))) (k : ℕ) (e : def_count ds ≡ suc k) where
  fix_at : get_or notes g [] ≡ free_op (size s) (FixOp ds 0)
  fix_at =
      let xs = free_op (size s) (FixOp ds 0) in
      let more = notes_defs (def_count ds + size s) ds in
      at_drop notes g xs ((nothing k ++ more) ++ st.rest) [] (st.is ∙ ap (λ n. (at_first n xs ++ more) ++ st.rest) e)

  pub words_are : words_for s (get_or notes g []) ≡ fix_captured s ds
  words_are = ap (words_for s) fix_at ∙ sym (fix_free s ds 0)

-- a fixpoint
module _ (notes : List (List ℕ)) (s : Scope) (gs : List ℕ) (ds : AnfDefs) (fs0 : List Function) (st : Stand notes (length fs0) (notes_op (size s) (FixOp ds 0))) where
  module _ (fs1 : List Function) (e1 : functions_of fs1 ≡ functions_of fs0 ++ blanks (def_count ds)) where
    fix_more : length fs1 ≡ length fs0 + def_count ds
    fix_more = functions_more fs0 fs1 (blanks (def_count ds)) (def_count ds) e1 (blanks_length (def_count ds))

    pub fix_stand : (ws : List ℕ) → Stand notes (length fs1) (notes_defs (size (shares ws (def_count ds) s)) ds)
    fix_stand ws =
        let n : length fs1 ≡ length fs0 + length (at_first (def_count ds) (free_op (size s) (FixOp ds 0))) = let m = fix_more in let f = first_length (def_count ds) (free_op (size s) (FixOp ds 0)) in omega arith in
        transport (λ k. Stand notes (length fs1) (notes_defs k ds)) (sym (size_shares ws (def_count ds) s))
        (stand_after notes (length fs0) (length fs1) (at_first (def_count ds) (free_op (size s) (FixOp ds 0))) (notes_defs (def_count ds + size s) ds) n st)

    front : take (length fs0) (functions_of fs1) ≡ functions_of fs0
    front = ap (take (length fs0)) e1 ∙ ap (λ k. take k (functions_of fs0 ++ blanks (def_count ds))) (sym (functions_length fs0)) ∙ whole (functions_of fs0)
      where
        whole : (xs : List Fn) → take (length xs) (xs ++ blanks (def_count ds)) ≡ xs
        whole [] = refl
        whole (x ∷ xs) = ap (λ zs. x ∷ zs) (whole xs)

    pub fix_places : PlacesFor (length fs0) (def_count ds) (functions_of fs1)
    fix_places = (e1 ∙ ap (λ z. z ++ blanks (def_count ds)) (sym front), ap length front ∙ functions_length fs0)

    pub fix_functions : (fs2 : List Function) (v : Scope × List ℕ) (ws : List ℕ) (g : ℕ) → v ≡ (shares (fix_captured s ds) (def_count ds) s, numbered g (def_count ds) gs) → ws ≡ fix_captured s ds → g ≡ length fs0 →
        functions_of fs2 ≡ take g (functions_of fs1) ++ definitions v ws (g + def_count ds) ds → functions_of fs2 ≡ functions_of fs0 ++ functions_op s gs (length fs0) (FixOp ds 0)
    fix_functions fs2 v ws g ev ew eg e2 =
        let n = def_count ds in
        let all = fix_captured s ds in
        e2 ∙ ap (λ v. take g (functions_of fs1) ++ definitions v ws (g + n) ds) ev ∙ ap (λ ws. take g (functions_of fs1) ++ definitions (shares all n s, numbered g n gs) ws (g + n) ds) ew
        ∙ ap (λ g. take g (functions_of fs1) ++ definitions (shares all n s, numbered g n gs) all (g + n) ds) eg ∙ ap (λ z. z ++ definitions (shares all n s, numbered (length fs0) n gs) all (length fs0 + n) ds) front

-- the variables under a fixpoint, and the captured words there
pub fix_scope : (s : Scope) (gs : List ℕ) (ds : AnfDefs) (g count : ℕ) (ws : List ℕ) {v : Scope × List ℕ} → v ≡ (shares ws count s, numbered g count gs) → ws ≡ fix_captured s ds → count ≡ def_count ds →
    v ≡ (shares (fix_captured s ds) (def_count ds) s, numbered g (def_count ds) gs)
fix_scope s gs ds g count ws e ew ec = e ∙ ap (λ ws. let w : Scope × List ℕ = (shares ws count s, numbered g count gs) in w) ew ∙ ap (λ n. let w : Scope × List ℕ = (shares (fix_captured s ds) n s, numbered g n gs) in w) ec

pub fix_left : (ws : List ℕ) (s : Scope) (gs : List ℕ) (g n : ℕ) {v : Scope × List ℕ} → v ≡ (shares ws n s, numbered g n gs) → ◌≡◌ {A = Scope × List ℕ} (outer n v.0, drop n v.1) (s, gs)
fix_left ws s gs g n e =
    ap (λ (z : Scope × List ℕ). let w : Scope × List ℕ = (outer n z.0, drop n z.1) in w) e ∙ ap (λ s. let w : Scope × List ℕ = (s, drop n (numbered g n gs)) in w) (outer_shares ws n s)
    ∙ ap (λ gs. let w : Scope × List ℕ = (s, gs) in w) (drop_numbered g n gs)

pub plains_left : (s : Scope) (gs : List ℕ) (n : ℕ) {v : Scope × List ℕ} → v ≡ (plains n s, unnumbered n gs) → ◌≡◌ {A = Scope × List ℕ} (outer n v.0, drop n v.1) (s, gs)
plains_left s gs n e =
    ap (λ (z : Scope × List ℕ). let w : Scope × List ℕ = (outer n z.0, drop n z.1) in w) e ∙ ap (λ s. let w : Scope × List ℕ = (s, drop n (unnumbered n gs)) in w) (outer_plains n s)
    ∙ ap (λ gs. let w : Scope × List ℕ = (s, gs) in w) (drop_unnumbered n gs)

-- a fixpoint without definitions
pub no_words : (s : Scope) (ds : AnfDefs) → def_count ds ≡ 0 → fix_captured s ds ≡ []
no_words s NoDef e = refl
no_words s (LamDef b rest) e = absurd (omega arith)
no_words s (BoxDef rest) e = absurd (omega arith)
