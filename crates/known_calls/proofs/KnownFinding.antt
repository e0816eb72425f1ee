-- The closures that the code finds to be known are those of the definitions.
use Rattle.std.proofs.Common.{◌≡◌, ℕ, zero, suc, ◌+◌, ◌<◌, ◌≤◌, List, [], ◌∷◌, ◌++◌, length, reverse, take, drop, get_or, Option, Some, None, Bool, true, false, refl, ap, sym, ◌∙◌, arith}
use Rattle.std.proofs.lemmas.Bool.{leb-true}
use Rattle.std.proofs.lemmas.List.{reverse-append, take_more, take-append-drop}
use Rattle.std.specs.Prelude.{slice_get, nat_le, if◌then◌else◌, map, Result, Ok, Err, IfOk}
use Rattle.std.specs.Option.{option_map, option_and_then}
use Rattle.anf_convert.specs.declared.program.Atom.{Atom}
use Rattle.closure_lift.specs.Lifted.{ConstOp, AppOp, ConOp, ClosOp, CaseOp, Block, TailAtom, BindAtom, Tail, Bind, Fn, Bound, AtomIs, OpIs, block_of}
use Rattle.closure_lift.specs.LiftedProgram.{renumber, renumber_functions}
use Rattle.closure_lift.specs.LiftedView.{bounds_of, functions_of}
use Rattle.closure_lift.specs.declared.program.LiftedOp.{LiftedOp}
use Rattle.closure_lift.specs.declared.program.Function.{Function}
use Rattle.closure_lift.specs.declared.program.LiftedConstant.{LiftedConstant}
use Rattle.known_calls.specs.KnownPlaces.{Word, Place, Known, word_of, words_of}
use Rattle.known_calls.specs.KnownCode.{known_closure, closure_alone}
use Rattle.trees.proofs.Lists.{next_is}

-- the words of some atoms, the last one first, and of one more
pub words_more : (env : List Place) (items : List Atom) (k : ℕ) (a : Atom) {w : Word} {ws : List Word} → k < length items → a ≡ get_or items k a → word_of env a ≡ Some w → words_of env (reverse (take k items)) ≡ Some ws →
    words_of env (reverse (take (k + 1) items)) ≡ Some (w ∷ ws)
words_more env items k a {w} {ws} lt is one some =
    let next : reverse (take (k + 1) items) ≡ a ∷ reverse (take k items) =
    ap reverse (take_more items k a lt ∙ ap (λ (z : Atom). take k items ++ z ∷ []) (sym is)) ∙ reverse-append (take k items) (a ∷ []) in
    ap (λ (zs : List Atom). words_of env zs) next ∙ ap (λ (o : Option Word). option_and_then (λ w. option_map (λ ws. w ∷ ws) (words_of env (reverse (take k items)))) o) one ∙ ap (λ (o : Option (List Word)). option_map (λ ws. w ∷ ws) o) some

-- where one has none
words_absent : (env : List Place) (xs ys : List Atom) (a : Atom) → word_of env a ≡ None → words_of env (xs ++ a ∷ ys) ≡ None
words_absent env [] ys a none = ap (λ (o : Option Word). option_and_then (λ w. option_map (λ ws. w ∷ ws) (words_of env ys)) o) none
words_absent env (x ∷ xs) ys a none = ap (λ (r : Option (List Word)). option_and_then (λ w. option_map (λ ws. w ∷ ws) r) (word_of env x)) (words_absent env xs ys a none) ∙ nothing (word_of env x)
  where
    nothing : (o : Option Word) → option_and_then (λ (w : Word). option_map (λ (ws : List Word). w ∷ ws) None) o ≡ None
    nothing None = refl
    nothing (Some w) = refl

pub words_none : (env : List Place) (items : List Atom) (k : ℕ) (a : Atom) → k < length items → a ≡ get_or items k a → word_of env a ≡ None → words_of env (reverse items) ≡ None
words_none env items k a lt is none =
    let whole : reverse items ≡ reverse (drop (k + 1) items) ++ a ∷ reverse (take k items) =
    ap reverse (sym (take-append-drop k items) ∙ ap (λ (zs : List Atom). take k items ++ zs) (next_is items k a lt is)) ∙ reverse-append (take k items) (a ∷ drop (k + 1) items)
    ∙ ap (λ (zs : List Atom). zs ++ reverse (take k items)) (reverse-append (a ∷ []) (drop (k + 1) items)) ∙ assoc (reverse (drop (k + 1) items)) in
    ap (λ (zs : List Atom). words_of env zs) whole ∙ words_absent env (reverse (drop (k + 1) items)) (reverse (take k items)) a none
  where
    assoc : (xs : List Atom) → (xs ++ a ∷ []) ++ reverse (take k items) ≡ xs ++ a ∷ reverse (take k items)
    assoc [] = refl
    assoc (x ∷ xs) = ap (λ (zs : List Atom). x ∷ zs) (assoc xs)

-- as many words as atoms
pub words_count : (env : List Place) (as' : List Atom) (ws : List Word) → words_of env as' ≡ Some ws → length ws ≡ length as'
words_count env [] ws e = cc
words_count env (a ∷ as') ws e = more (word_of env a) (words_of env as') refl e (λ (vs : List Word) h. words_count env as' vs h)
  where
    more : (o : Option Word) (r : Option (List Word)) → words_of env as' ≡ r → option_and_then (λ w. option_map (λ vs. w ∷ vs) r) o ≡ Some ws → ((vs : List Word) → words_of env as' ≡ Some vs → length vs ≡ length as') → length ws ≡ suc (length as')
    more None r same e h = cc
    more (Some w) None same e h = cc
    more (Some w) (Some vs) same e h = let is : w ∷ vs ≡ ws = cc in sym (ap length is) ∙ ap suc (h vs same)

pub too_many : (env : List Place) (g : ℕ) (as' : List Atom) → 7 < length as' → known_closure g (words_of env as') ≡ None
too_many env g as' many = either (words_of env as') refl
  where
    wide : (b : Bool) (ws : List Word) → b ≡ nat_le (length ws) 7 → length ws ≡ length as' → (if b then Some (Known g ws) else None) ≡ None
    wide true ws e count = absurd (omega (arith, count, leb-true (length ws) 7 (sym e)))
    wide false ws e count = refl

    either : (o : Option (List Word)) → words_of env as' ≡ o → known_closure g o ≡ None
    either None e = refl
    either (Some ws) e = wide (nat_le (length ws) 7) ws refl (words_count env as' ws e)

pub few_words : (env : List Place) (g : ℕ) (as' : List Atom) (ws : List Word) → length as' ≤ 7 → words_of env as' ≡ Some ws → known_closure g (words_of env as') ≡ Some (Known g ws)
few_words env g as' ws few e = ap (λ (o : Option (List Word)). known_closure g o) e ∙ ap (λ (b : Bool). if b then Some (Known g ws) else None) (narrow (words_count env as' ws e))
  where
    narrow : length ws ≡ length as' → nat_le (length ws) 7 ≡ true
    narrow count = grind (arith, few, count)

pub no_words : (env : List Place) (g : ℕ) (as' : List Atom) → words_of env as' ≡ None → known_closure g (words_of env as') ≡ None
no_words env g as' e = ap (λ (o : Option (List Word)). known_closure g o) e

-- a block that binds something is no closure alone
pub binds_first : (env : List Place) (xs : List Bound) (t : Block) → 0 < length xs → closure_alone env (block_of xs t) ≡ None
binds_first env [] t some = absurd (omega arith)
binds_first env (AtomIs a ∷ xs) t some = refl
binds_first env (OpIs x ∷ xs) t some = refl

pub alone_renumbered : (f : ℕ → ℕ) (env : List Place) (t : Block) → closure_alone env (renumber f t) ≡ closure_alone env t
alone_renumbered f env (TailAtom a) = refl
alone_renumbered f env (BindAtom a t) = refl
alone_renumbered f env (Tail (ConstOp x)) = refl
alone_renumbered f env (Tail (AppOp g a)) = refl
alone_renumbered f env (Tail (ConOp c as')) = refl
alone_renumbered f env (Tail (ClosOp g as')) = refl
alone_renumbered f env (Tail (CaseOp a bs)) = refl
alone_renumbered f env (Bind x t) = refl

-- function g of a program in memory
function_absent : (f : ℕ → ℕ) (items : List Function) (g : ℕ) → length items ≤ g → slice_get (renumber_functions f (functions_of items)) g ≡ None
function_absent f [] g le = refl
function_absent f (x ∷ xs) zero le = absurd (omega arith)
function_absent f (x ∷ xs) (suc g) le = function_absent f xs g (omega arith)

function_there : (f : ℕ → ℕ) (items : List Function) (g : ℕ) (x : Function) → g < length items → slice_get (renumber_functions f (functions_of items)) g ≡ Some (record { captured = (get_or items g x).captured; body = renumber f (get_or items g x).body })
function_there f [] g x lt = absurd (omega arith)
function_there f (y ∷ ys) zero x lt = refl
function_there f (y ∷ ys) (suc g) x lt = function_there f ys g x (omega arith)

pub partial_none : (env : List Place) (f : ℕ → ℕ) (items : List Function) (fns : List Fn) (g : ℕ) → functions_of items ≡ fns → length items ≤ g → None ≡ option_and_then (λ fn. closure_alone env fn.body) (slice_get (renumber_functions f fns) g)
partial_none env f items fns g same le =
    sym (ap (λ (fs : List Fn). option_and_then (λ fn. closure_alone env fn.body) (slice_get (renumber_functions f fs) g)) (sym same) ∙ ap (λ (o : Option Fn). option_and_then (λ fn. closure_alone env fn.body) o) (function_absent f items g le))

pub partial_is : (env : List Place) (f : ℕ → ℕ) (items : List Function) (fns : List Fn) (g : ℕ) (x : Function) → functions_of items ≡ fns → g < length items → x ≡ get_or items g x →
    closure_alone env x.body ≡ option_and_then (λ fn. closure_alone env fn.body) (slice_get (renumber_functions f fns) g)
partial_is env f items fns g x same lt is =
    ap (λ (y : Function). closure_alone env y.body) is ∙ sym (alone_renumbered f env (get_or items g x).body)
    ∙ sym (ap (λ (fs : List Fn). option_and_then (λ fn. closure_alone env fn.body) (slice_get (renumber_functions f fs) g)) (sym same) ∙ ap (λ (o : Option Fn). option_and_then (λ fn. closure_alone env fn.body) o) (function_there f items g x lt))

-- a constant by its place
pub constant_in_place : (f : ℕ → ℕ) (cs : List LiftedConstant) (x : ℕ) → slice_get (map (λ (c : LiftedConstant). renumber f c.body) cs) x ≡ option_map (λ (c : LiftedConstant). renumber f c.body) (slice_get cs x)
constant_in_place f [] x = refl
constant_in_place f (c ∷ cs) zero = refl
constant_in_place f (c ∷ cs) (suc x) = constant_in_place f cs x

-- an atom without a word is found
pub words_lost : {a : Atom} (env : List Place) (items as' : List Atom) (k : ℕ) (o : Option Word) → k < length items → a ≡ get_or items k a → o ≡ word_of env a → ((w : Word) → o ≡ Some w → ⊥) → reverse items ≡ as' → None ≡ words_of env as'
words_lost {a} env items as' k None lt is e lost same = sym (ap (λ (zs : List Atom). words_of env zs) (sym same) ∙ words_none env items k a lt is (sym e))
words_lost {a} env items as' k (Some w) lt is e lost same = absurd (lost w refl)

bounds_count : (ops : List LiftedOp) → length (bounds_of ops) ≡ length ops
bounds_count [] = refl
bounds_count (o ∷ ops) = ap suc (bounds_count ops)

pub alone_not : (env : List Place) (ops : List LiftedOp) (ps : List Bound) (t b : Block) → 0 < length ops → bounds_of ops ≡ ps → block_of ps t ≡ b → None ≡ closure_alone env b
alone_not env ops ps t b some same whole = sym (ap (λ (z : Block). closure_alone env z) (sym whole) ∙ binds_first env ps t (omega (arith, some, bounds_count ops, ap length same)))

-- what was found is the same as this
pub same_ok : {A E : Type 0} (r : Result A E) (a b : A) → a ≡ b → IfOk r (λ x. x ≡ a) → IfOk r (λ x. x ≡ b)
same_ok (Ok x) a b e h = h ∙ e
same_ok (Err f) a b e h = h
