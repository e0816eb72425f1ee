-- Closures that are made, and functions that are put in their places.
use Rattle.std.proofs.Common.{◌≡◌, ℕ, zero, suc, ◌+◌, ◌-◌, ◌<◌, List, [], ◌∷◌, ◌++◌, length, take, drop, map, reverse, get_or, refl, sym, ap, ◌∙◌, arith, append_assoc}
use Rattle.std.specs.Prelude.{slice_set}
use Rattle.std.proofs.lemmas.List.{take_more, append-nil}
use Rattle.anf_convert.specs.declared.program.Atom.{Atom}
use Rattle.anf_convert.specs.declared.program.Atom.TheVariants.{Var as AVar, Box as ABox}
use Rattle.anf_convert.specs.Captured.{Scope, Words, entry}
use Rattle.closure_lift.specs.Lifted.{ClosOp, TailAtom, Bound, OpIs}
use Rattle.closure_lift.specs.Lift.{LiftSlot, held}
use Rattle.closure_lift.specs.LiftedView.{fn_of, functions_of}
use Rattle.closure_lift.specs.FreeVariables.{all_words}
use Rattle.closure_lift.specs.Lifting.{code_for, closure_frame, closure_code, closures_frame, closures_code, blanks}
use Rattle.closure_lift.specs.declared.program.Function.{Function}
use Rattle.closure_lift.proofs.Backwards.{turned_step}
use Rattle.closure_lift.proofs.Noting.{part_more}

pub functions_set : (fs : List Function) (at : ℕ) (f : Function) → functions_of (slice_set fs at f) ≡ slice_set (functions_of fs) at (fn_of f)
functions_set [] zero f = refl
functions_set [] (suc at) f = refl
functions_set (x ∷ fs) zero f = refl
functions_set (x ∷ fs) (suc at) f = ap (λ zs. fn_of x ∷ zs) (functions_set fs at f)

pub blanks_more : (n : ℕ) → blanks (n + 1) ≡ blanks n ++ record { captured = 0; body = TailAtom ABox } ∷ []
blanks_more zero = refl
blanks_more (suc n) = ap blanks (let e : suc n + 1 ≡ suc (n + 1) = omega arith in e) ∙ ap (λ zs. record { captured = 0; body = TailAtom ABox } ∷ zs) (blanks_more n)

pub blanks_length : (n : ℕ) → length (blanks n) ≡ n
blanks_length zero = refl
blanks_length (suc n) = ap suc (blanks_length n)

words_end : (f : ℕ → List ℕ) (xs : List ℕ) (x : ℕ) → all_words f (xs ++ x ∷ []) ≡ all_words f xs ++ f x
words_end f [] x = append-nil (f x)
words_end f (y ∷ xs) x = ap (λ zs. f y ++ zs) (words_end f xs x) ∙ sym (append_assoc (f y) (all_words f xs) (f x))

pub words_more : (f : ℕ → List ℕ) (xs : List ℕ) (i : ℕ) → i < length xs → all_words f (take (i + 1) xs) ≡ all_words f (take i xs) ++ f (get_or xs i 0)
words_more f xs i lt = ap (all_words f) (take_more xs i 0 lt) ∙ words_end f (take i xs) (get_or xs i 0)

-- the code that makes a fixpoint's closure
pub closure_made : (s : Scope) (gs : List ℕ) (fr : List LiftSlot) (i g n : ℕ) (ws : List ℕ) (as' : List Atom) → Words ws ≡ entry s i → g ≡ get_or gs i 0 → n ≡ g → as' ≡ map (held fr) ws → OpIs (ClosOp n as') ∷ [] ≡ closure_code s gs fr (AVar i)
closure_made s gs fr i g n ws as' e eg en ea =
    ap (λ k. OpIs (ClosOp k as') ∷ []) (en ∙ eg) ∙ ap (λ zs. OpIs (ClosOp (get_or gs i 0) zs) ∷ []) ea ∙ ap (code_for fr (get_or gs i 0)) e

-- closures for one more atom, from the last on
pub frame_on : (s : Scope) (fr : List LiftSlot) (xs : List Atom) (p : ℕ) (d : Atom) {fr1 to : List LiftSlot} → p < length xs → fr1 ≡ closure_frame s fr (get_or xs (length xs - 1 - p) d) →
    closures_frame s fr (drop p (reverse xs)) ≡ to → closures_frame s fr1 (drop (p + 1) (reverse xs)) ≡ to
frame_on s fr xs p d lt e inv = ap (λ z. closures_frame s z (drop (p + 1) (reverse xs))) e ∙ sym (ap (closures_frame s fr) (turned_step xs p d lt)) ∙ inv

pub code_on : (s : Scope) (gs : List ℕ) (fr : List LiftSlot) (xs : List Atom) (p : ℕ) (d : Atom) {fr1 : List LiftSlot} (code : List Bound) {code1 to : List Bound} → p < length xs → fr1 ≡ closure_frame s fr (get_or xs (length xs - 1 - p) d) →
    code1 ≡ code ++ closure_code s gs fr (get_or xs (length xs - 1 - p) d) → code ++ closures_code s gs fr (drop p (reverse xs)) ≡ to → code1 ++ closures_code s gs fr1 (drop (p + 1) (reverse xs)) ≡ to
code_on s gs fr xs p d {fr1} code lt e ec inv =
    let a = get_or xs (length xs - 1 - p) d in
    let rest = drop (p + 1) (reverse xs) in
    part_more code (closure_code s gs fr a) (closures_code s gs fr1 rest) ec (ap (closures_code s gs fr) (turned_step xs p d lt) ∙ ap (λ z. closure_code s gs fr a ++ closures_code s gs z rest) (sym e)) inv
