-- Constants are lifted one after another, and then main.
use Rattle.std.proofs.Common.{◌≡◌, ℕ, suc, ◌+◌, ◌-◌, ◌<◌, ◌≤◌, List, [], ◌∷◌, ◌++◌, length, drop, reverse, get_or, map, Result, Ok, Err, IfOk, IfErr, refl, sym, ap, ◌∙◌, subst as transport, arith, append_assoc, length-append}
use Rattle.std.proofs.lemmas.List.{append-nil, drop_all, length-reverse}
use Rattle.std.specs.Prelude.{slice_get}
use Rattle.box_terms.specs.declared.program.BoxFamily.{BoxFamily}
use Rattle.anf_convert.specs.Anf.{AnfBlock}
use Rattle.anf_convert.specs.Captured.{Outside}
use Rattle.anf_convert.specs.Renumbering as anf
use Rattle.anf_convert.specs.declared.program.AnfConstant.{AnfConstant}
use Rattle.anf_convert.specs.declared.program.AnfProgram.{AnfProgram}
use Rattle.closure_lift.specs.Lifted.{Block, Program}
use Rattle.closure_lift.specs.LiftedView.{functions_of}
use Rattle.closure_lift.specs.LiftedProgram.{place_in, lifted_of}
use Rattle.closure_lift.specs.LiftedForm.{Limits, most_functions}
use Rattle.closure_lift.specs.LiftKeeps.{KeepsLifted, HasLiftedForm}
use Rattle.closure_lift.specs.Lift.{block_functions, constants_functions, lift_block, functions_block, functions_constants, lift}
use Rattle.closure_lift.specs.FreeVariables.{notes_block}
use Rattle.closure_lift.specs.Lifting.{Stand, LiftRefuses, most_words}
use Rattle.closure_lift.specs.CapturedLimit.{BlockCaptures, BlocksCapture, ProgramCaptures}
use Rattle.closure_lift.specs.NamedLift.{bodies, named_constants, named_lift, constants_notes, put_parts, IsCrowded, IsLifted, HasConstantsOf, HasFewFunctions, LiftIsRefused}
use Rattle.closure_lift.specs.declared.fault.LiftFault.{LiftFault}
use Rattle.closure_lift.specs.declared.fault.LiftFault.TheVariants.{Captured, Functions, Memory}
use Rattle.closure_lift.specs.declared.program.LiftedConstant.{LiftedConstant}
use Rattle.closure_lift.specs.declared.program.Lifted.{Lifted}
use Rattle.closure_lift.specs.declared.program.Function.{Function}
use Rattle.closure_lift.proofs.Backwards.{turned_step}
use Rattle.closure_lift.proofs.CapturedLimit.{functions_few}
use Rattle.closure_lift.proofs.Counted.{functions_length, renumbered_length}
use Rattle.closure_lift.proofs.Follows.{lift_keeps}
use Rattle.closure_lift.proofs.Forms.{constants_number, lift_forms}
use Rattle.closure_lift.proofs.Going.{functions_more}
use Rattle.closure_lift.proofs.Noting.{part_more, part_none}
use Rattle.closure_lift.proofs.Placed.{block_length, constants_length}
use Rattle.closure_lift.proofs.RenumberedFunctions.{block_captures_same}
use Rattle.closure_lift.proofs.Steps.{stand_first, stand_after, block_noted}
use Rattle.closure_lift.proofs.WholeProgram.{lifted_is}

pub constants_noted : (ts : List AnfBlock) → length (constants_notes ts) ≡ constants_functions ts
constants_noted [] = refl
constants_noted (t ∷ ts) = length-append (notes_block 0 t) (constants_notes ts) ∙ omega (arith, block_noted 0 t, constants_noted ts)

-- what is lifted of the constants, and what is still to be lifted
pub record ConstantsGo (notes : List (List ℕ)) (fs0 : List Function) (cs0 : List AnfConstant) (fs : List Function) (done : List LiftedConstant) (cs : List AnfConstant) : Type 0 where
  pub constants : done ++ named_constants (length fs) cs ≡ named_constants (length fs0) cs0
  pub functions : functions_of fs ++ functions_constants (length fs) (bodies cs) ≡ functions_of fs0 ++ functions_constants (length fs0) (bodies cs0)
  pub stand : Stand notes (length fs) (constants_notes (bodies cs))
  pub captures : BlocksCapture most_words (bodies cs) → BlocksCapture most_words (bodies cs0)
  pub refuses : BlocksCapture most_words (bodies cs0) → BlocksCapture most_words (bodies cs)

module _ (notes : List (List ℕ)) (fs0 : List Function) (cs0 : List AnfConstant) where
  pub starts : (done : List LiftedConstant) → done ≡ [] → Stand notes (length fs0) (constants_notes (bodies cs0)) → ConstantsGo notes fs0 cs0 fs0 done cs0
  starts done none st = record { constants = ap (λ zs. zs ++ named_constants (length fs0) cs0) none; functions = refl; stand = st; captures = λ h. h; refuses = λ h. h }

  -- the next constant's notes stand first
  pub next_stands : (fs : List Function) (done : List LiftedConstant) (c : AnfConstant) (cs : List AnfConstant) → ConstantsGo notes fs0 cs0 fs done (c ∷ cs) → Stand notes (length fs) (notes_block 0 c.body)
  next_stands fs done c cs go = stand_first notes (length fs) (notes_block 0 c.body) (constants_notes (bodies cs)) go.stand

  pub constants_go : (fs fs1 : List Function) (done : List LiftedConstant) (c : AnfConstant) (cs : List AnfConstant) (t : Block) → ConstantsGo notes fs0 cs0 fs done (c ∷ cs) →
      t ≡ lift_block Outside [] [] (length fs) c.body → functions_of fs1 ≡ functions_of fs ++ functions_block Outside [] (length fs) c.body → BlockCaptures most_words Outside c.body →
      ConstantsGo notes fs0 cs0 fs1 (done ++ record { name = c.name; body = t } ∷ []) cs
  constants_go fs fs1 done c cs t go et ef few =
      let n = block_functions c.body in
      let here = functions_block Outside [] (length fs) c.body in
      let more : length fs1 ≡ length fs + n = functions_more fs fs1 here n ef (block_length Outside [] (length fs) c.body) in
      let one : LiftedConstant = record { name = c.name; body = t } in
      let is : one ∷ named_constants (length fs + n) cs ≡ named_constants (length fs) (c ∷ cs) = ap (λ (u : Block). let k : LiftedConstant = record { name = c.name; body = u } in k ∷ named_constants (length fs + n) cs) et in
      record {
        constants = append_assoc done (one ∷ []) (named_constants (length fs1) cs) ∙ ap (λ k. done ++ one ∷ named_constants k cs) more ∙ ap (λ zs. done ++ zs) is ∙ go.constants;
        functions = ap (λ k. functions_of fs1 ++ functions_constants k (bodies cs)) more ∙ part_more (functions_of fs) here (functions_constants (length fs + n) (bodies cs)) ef refl go.functions;
        stand = stand_after notes (length fs) (length fs1) (notes_block 0 c.body) (constants_notes (bodies cs)) (more ∙ ap (λ k. length fs + k) (sym (block_noted 0 c.body))) go.stand;
        captures = λ h. go.captures (few, h);
        refuses = λ h. let r = go.refuses h in r.1;
      }

-- the next constant from the newest on
pub next_constant : (cs : List AnfConstant) (p : ℕ) (c : AnfConstant) → p < length cs → c ≡ get_or cs (length cs - 1 - p) c → drop p (reverse cs) ≡ c ∷ drop (p + 1) (reverse cs)
next_constant cs p c lt e = turned_step cs p c lt ∙ ap (λ z. z ∷ drop (p + 1) (reverse cs)) (sym e)

-- with none left
pub no_constant : (cs : List AnfConstant) (p : ℕ) → length cs ≤ p → drop p (reverse cs) ≡ []
no_constant cs p le = let n : length (reverse cs) ≡ length cs = length-reverse cs in drop_all p (reverse cs) (omega arith)

module _ {notes : List (List ℕ)} {fs0 : List Function} {cs0 : List AnfConstant} {fs : List Function} {done : List LiftedConstant} {cs : List AnfConstant} (e : cs ≡ []) (go : ConstantsGo notes fs0 cs0 fs done cs) where
  last : ConstantsGo notes fs0 cs0 fs done []
  last = transport (ConstantsGo notes fs0 cs0 fs done) e go

  pub all_constants : done ≡ named_constants (length fs0) cs0
  all_constants = part_none refl last.constants

  pub all_functions : functions_of fs ≡ functions_of fs0 ++ functions_constants (length fs0) (bodies cs0)
  all_functions = part_none refl last.functions

  pub all_capture : BlocksCapture most_words (bodies cs0)
  all_capture = last.captures tt

-- ---- the whole program

-- constants in memory are as many captured words as those that stand by their places
module _ (h : ℕ → ℕ) where
  blocks_capture_same : (most : ℕ) (cs : List AnfConstant) → BlocksCapture most (map (λ (c : AnfConstant). anf.renumber h c.body) cs) ≡ BlocksCapture most (bodies cs)
  blocks_capture_same most [] = refl
  blocks_capture_same most (c ∷ cs) =
      ap (λ Q. Q × BlocksCapture most (map (λ (c : AnfConstant). anf.renumber h c.body) cs)) (block_captures_same h most Outside c.body)
      ∙ ap (λ Q. BlockCaptures most Outside c.body × Q) (blocks_capture_same most cs)

named_length : (g : ℕ) (cs : List AnfConstant) → length (named_constants g cs) ≡ length cs
named_length g [] = refl
named_length g (c ∷ cs) = ap suc (named_length (g + block_functions c.body) cs)

constants_as_many : (h : ℕ → ℕ) (cs : List AnfConstant) → length (map (λ (c : AnfConstant). anf.renumber h c.body) cs) ≡ length cs
constants_as_many h [] = refl
constants_as_many h (c ∷ cs) = ap suc (constants_as_many h cs)

module _ (P : AnfProgram) where
  -- captured words of the program in memory are those of the program with constants by their places
  pub program_captures : BlocksCapture most_words (bodies P.constants) → BlockCaptures most_words Outside P.main → ProgramCaptures most_words (anf.anf_of P)
  program_captures a b =
      let h = anf.place_in P.constants in
      record { constants = transport (λ Q. Q) (sym (blocks_capture_same h most_words P.constants)) a; main = transport (λ Q. Q) (sym (block_captures_same h most_words Outside P.main)) b }

  pub constants_capture : ProgramCaptures most_words (anf.anf_of P) → BlocksCapture most_words (bodies P.constants)
  constants_capture r = transport (λ Q. Q) (blocks_capture_same (anf.place_in P.constants) most_words P.constants) r.constants

  pub main_captures : ProgramCaptures most_words (anf.anf_of P) → BlockCaptures most_words Outside P.main
  main_captures r = transport (λ Q. Q) (block_captures_same (anf.place_in P.constants) most_words Outside P.main) r.main

  -- a refusal of a part is one of the program
  pub refuses_program : {Q : Type 0} (e : LiftFault) → (ProgramCaptures most_words (anf.anf_of P) → Q) → LiftRefuses Q e → LiftIsRefused (anf.anf_of P) e
  refuses_program Captured f h = λ r. h (f r)
  refuses_program Functions f h = absurd h
  refuses_program Memory f h = tt

  -- the notes of the constants stand first, and those of main behind them
  pub constants_stand : (notes all : List (List ℕ)) (n : ℕ) → all ≡ constants_notes (bodies P.constants) ++ notes_block 0 P.main → notes ≡ all → n ≡ 0 → Stand notes n (constants_notes (bodies P.constants))
  constants_stand notes all n e same zero_is = record { rest = notes_block 0 P.main; is = ap (λ k. drop k notes) zero_is ∙ same ∙ e }

  pub main_stands : (notes all : List (List ℕ)) (n : ℕ) → all ≡ constants_notes (bodies P.constants) ++ notes_block 0 P.main → notes ≡ all → n ≡ constants_functions (bodies P.constants) → Stand notes n (notes_block 0 P.main)
  main_stands notes all n e same count =
      let first = constants_notes (bodies P.constants) in
      let whole : Stand notes 0 (first ++ notes_block 0 P.main) = record { rest = []; is = same ∙ e ∙ sym (append-nil (first ++ notes_block 0 P.main)) } in
      let noted : length first ≡ constants_functions (bodies P.constants) = constants_noted (bodies P.constants) in
      stand_after notes 0 n first (notes_block 0 P.main) (omega arith) whole

  -- how many functions the constants have
  pub main_from : (fs0 fs : List Function) → fs0 ≡ [] → functions_of fs ≡ functions_of fs0 ++ functions_constants (length fs0) (bodies P.constants) → length fs ≡ constants_functions (bodies P.constants)
  main_from fs0 fs none e =
      let same : functions_of fs ≡ functions_constants 0 (bodies P.constants) = e ∙ ap (λ zs. functions_of zs ++ functions_constants (length zs) (bodies P.constants)) none in
      sym (functions_length fs) ∙ ap length same ∙ constants_length 0 (bodies P.constants)

  -- the parts are those of the lifted program
  pub parts_are : (fs0 fs1 fs2 : List Function) (cs : List LiftedConstant) (t : Block) → fs0 ≡ [] →
      cs ≡ named_constants (length fs0) P.constants → functions_of fs1 ≡ functions_of fs0 ++ functions_constants (length fs0) (bodies P.constants) →
      functions_of fs2 ≡ functions_of fs1 ++ functions_block Outside [] (length fs1) P.main → t ≡ lift_block Outside [] [] (length fs1) P.main → put_parts fs2 cs P.families t ≡ named_lift P
  parts_are fs0 fs1 fs2 cs t none ec e1 e2 et =
      let k : length fs1 ≡ constants_functions (bodies P.constants) = main_from fs0 fs1 none e1 in
      let c1 : cs ≡ named_constants 0 P.constants = ec ∙ ap (λ zs. named_constants (length zs) P.constants) none in
      let f1 : functions_of fs1 ≡ functions_constants 0 (bodies P.constants) = e1 ∙ ap (λ zs. functions_of zs ++ functions_constants (length zs) (bodies P.constants)) none in
      let f2 : functions_of fs2 ≡ functions_constants 0 (bodies P.constants) ++ functions_block Outside [] (constants_functions (bodies P.constants)) P.main =
      e2 ∙ ap (λ zs. zs ++ functions_block Outside [] (length fs1) P.main) f1 ∙ ap (λ n. functions_constants 0 (bodies P.constants) ++ functions_block Outside [] n P.main) k in
      let t1 : t ≡ lift_block Outside [] [] (constants_functions (bodies P.constants)) P.main = et ∙ ap (λ n. lift_block Outside [] [] n P.main) k in
      cc

  pub named_number : (q : Lifted) → q ≡ named_lift P → length q.constants ≡ length P.constants
  named_number q e = ap (λ (z : Lifted). length z.constants) e ∙ named_length 0 P.constants

  -- the numbers of constants and functions
  pub as_many_constants : length (anf.anf_of P).constants ≡ length P.constants
  as_many_constants = constants_as_many (anf.place_in P.constants) P.constants

  pub as_many_functions : (q : Lifted) → length (lifted_of q).functions ≡ length q.functions
  as_many_functions q = renumbered_length (place_in q.constants) q.functions

  pub functions_number : (q : Lifted) → q ≡ named_lift P → length (lift (anf.anf_of P)).functions ≡ length q.functions
  functions_number q e = ap (λ (Q : Program). length Q.functions) (sym (lifted_is P)) ∙ ap (λ (z : Lifted). length (lifted_of z).functions) (sym e) ∙ as_many_functions q

  -- constants and functions that are too many for the program are so for its definition
  pub refuses_crowd : (fs : List Function) (cs : List LiftedConstant) (families : List BoxFamily) (t : Block) (e : LiftFault) → put_parts fs cs families t ≡ named_lift P → ProgramCaptures most_words (anf.anf_of P) →
      IsCrowded (length cs + length fs) e → LiftIsRefused (anf.anf_of P) e
  refuses_crowd fs cs families t Captured is few h = absurd h
  refuses_crowd fs cs families t Functions is few h =
      let q : Lifted = put_parts fs cs families t in
      let a : length cs ≡ length P.constants = named_number q is in
      let b : length (anf.anf_of P).constants ≡ length P.constants = as_many_constants in
      let d : length (lift (anf.anf_of P)).functions ≡ length (functions_of fs) = functions_number q is in
      let k : length (functions_of fs) ≡ length fs = functions_length fs in
      let l : most_functions < length cs + length fs = h in
      (few, omega arith)
  refuses_crowd fs cs families t Memory is few h = tt

  -- answers and refusals
  pub err_refused : {X : Type 0} (r : Result X LiftFault) (e : LiftFault) → r ≡ Err e → LiftIsRefused (anf.anf_of P) e → IfErr r (LiftIsRefused (anf.anf_of P))
  err_refused r e is h = transport (λ r. IfErr r (LiftIsRefused (anf.anf_of P))) (sym is) h

  pub memory_refused : (e : LiftFault) → e ≡ Memory → LiftIsRefused (anf.anf_of P) e
  memory_refused e m = transport (LiftIsRefused (anf.anf_of P)) (sym m) tt

  pub ok_lifted : {E : Type 0} (r : Result Lifted E) (fs : List Function) (cs : List LiftedConstant) (families : List BoxFamily) (t : Block) → IfOk r (λ q. q ≡ put_parts fs cs families t) →
      IfOk r (λ _. length cs + length fs ≤ most_functions) → put_parts fs cs families t ≡ named_lift P → ProgramCaptures most_words (anf.anf_of P) → IfOk r (IsLifted P)
  ok_lifted (Ok q) fs cs families t e few is captures =
      let k : length (functions_of fs) ≡ length fs = functions_length fs in
      let l : length cs + length (functions_of fs) ≤ most_functions = omega arith in
      record { exact = e ∙ is; captures = captures; few = transport (λ (z : Lifted). length z.constants + length z.functions ≤ most_functions) (sym e) l }
  ok_lifted (Err x) fs cs families t e few is captures = tt

  pub err_crowd : {X : Type 0} (r : Result X LiftFault) (fs : List Function) (cs : List LiftedConstant) (families : List BoxFamily) (t : Block) → IfErr r (IsCrowded (length cs + length fs)) →
      put_parts fs cs families t ≡ named_lift P → ProgramCaptures most_words (anf.anf_of P) → IfErr r (LiftIsRefused (anf.anf_of P))
  err_crowd (Ok x) fs cs families t h is captures = tt
  err_crowd (Err e) fs cs families t h is captures = refuses_crowd fs cs families t e is captures h

  -- ---- the laws of the lifted program
  module _ (q : Lifted) (h : IsLifted P q) where
    pub is_lift : lifted_of q ≡ lift (anf.anf_of P)
    is_lift = ap lifted_of h.exact ∙ lifted_is P

    pub keeps : KeepsLifted (anf.anf_of P) (lifted_of q)
    keeps = transport (KeepsLifted (anf.anf_of P)) (sym is_lift) (lift_keeps (anf.anf_of P))

    pub has_form : HasLiftedForm (anf.anf_of P) (lifted_of q)
    has_form = transport (HasLiftedForm (anf.anf_of P)) (sym is_lift) (lift_forms (anf.anf_of P))

    pub is_within : Limits (lifted_of q)
    is_within = record {
      captured = λ g fn at.
          let lt : fn.captured < most_words = functions_few (anf.anf_of P) most_words h.captures g fn (sym (ap (λ (z : Program). slice_get z.functions g) is_lift) ∙ at) in
          omega arith;
      few = let a : length (lifted_of q).functions ≡ length q.functions = as_many_functions q in let l = h.few in omega arith;
    }

    pub has_constants : HasConstantsOf (anf.anf_of P) (lifted_of q)
    has_constants = ap (λ (Q : Program). length Q.constants) is_lift ∙ constants_number 0 (anf.anf_of P).constants

    pub has_few : HasFewFunctions (anf.anf_of P) (lifted_of q)
    has_few =
        let a : length (lifted_of q).functions ≡ length q.functions = as_many_functions q in
        let b : length (anf.anf_of P).constants ≡ length P.constants = as_many_constants in
        let d : length q.constants ≡ length P.constants = named_number q h.exact in
        let l = h.few in
        omega arith
