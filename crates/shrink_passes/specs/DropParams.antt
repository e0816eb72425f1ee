-- Parameters of constants that are always box, dropped with these boxes. The constants are gone through from the earliest to the latest, once, and in each
-- body the leading lambdas from the outermost inwards. The place of a lambda is the number of leading lambdas that stand before it then. Where the lambda's
-- variable isn't used, and every use of the constant is the head of a spine whose argument at that place is box, the lambda and that argument of each use are
-- dropped. Else both stay. A fixpoint's own parameters stay. Only box is dropped, so no evaluation of a match is lost.
use Rattle.std.specs.Prelude.{ℕ, zero, suc, nat_eq, Bool, true, false, ◌&&◌, if◌then◌else◌, List, [], ◌∷◌, reverse}
use Rattle.trees.specs.Tree.{Rel, Done, Next}
use Rattle.trees.specs.Parallel.{put, substitute}
use Rattle.box_terms.specs.BoxSyntax.{BoxTerm, BoxTerms, Box, BLambda, BLetIn, BApp, BConst, BConstruct, BCase, BFix}
use Rattle.lambda_box.specs.BoxProgram.{BoxConstant, BoxFamily, BoxProgram}
use Rattle.lambda_box.specs.ClosureEvaluation.{names}
use Rattle.shrink_passes.specs.Inline.{stands}

-- whether the term is constant k applied to n arguments
abbrev pub is_spine : ℕ → BoxTerm → ℕ → Bool
is_spine k (BConst c) zero = nat_eq c.0 k
is_spine k (BApp f a) (suc n) = is_spine k f n
is_spine k t n = false

abbrev pub is_box : BoxTerm → Bool
is_box Box = true
is_box t = false

-- whether argument number p of a list is there, and is box
abbrev pub box_at : ℕ → List BoxTerm → Bool
box_at p [] = false
box_at zero (x ∷ xs) = is_box x
box_at (suc p) (x ∷ xs) = box_at p xs

-- whether in a term, as the head of a list of arguments, every use of constant k is the head of a spine whose argument p is box
abbrev mutual
  pub fits : ℕ → ℕ → List BoxTerm → BoxTerm → Bool
  fits k p xs (Rel i) = true
  fits k p xs Box = true
  fits k p xs (BLambda b) = fits k p [] b
  fits k p xs (BLetIn a t) = fits k p [] a && fits k p [] t
  fits k p xs (BApp f a) = fits k p (a ∷ xs) f && fits k p [] a
  fits k p xs (BConst c) = if nat_eq c.0 k then box_at p xs else true
  fits k p xs (BConstruct f c) = true
  fits k p xs (BCase f s bs) = fits k p [] s && fits_terms k p bs
  fits k p xs (BFix i rargs bodies) = fits_terms k p bodies

  pub fits_terms : ℕ → ℕ → BoxTerms → Bool
  fits_terms k p Done = true
  fits_terms k p (Next n t ts) = fits k p [] t && fits_terms k p ts

abbrev pub fits_constants : ℕ → ℕ → List BoxConstant → Bool
fits_constants k p [] = true
fits_constants k p (d ∷ ds) = fits k p [] d.body && fits_constants k p ds

abbrev pub fits_program : ℕ → ℕ → BoxProgram → Bool
fits_program k p P = fits_constants k p P.constants && fits k p [] P.main

-- a term without argument p of each use of constant k
abbrev mutual
  pub cut : ℕ → ℕ → BoxTerm → BoxTerm
  cut k p (Rel i) = Rel i
  cut k p Box = Box
  cut k p (BLambda b) = BLambda (cut k p b)
  cut k p (BLetIn a t) = BLetIn (cut k p a) (cut k p t)
  cut k p (BApp f a) = if is_spine k f p then cut k p f else BApp (cut k p f) (cut k p a)
  cut k p (BConst c) = BConst c
  cut k p (BConstruct f c) = BConstruct f c
  cut k p (BCase f s bs) = BCase f (cut k p s) (cut_terms k p bs)
  cut k p (BFix i rargs bodies) = BFix i rargs (cut_terms k p bodies)

  pub cut_terms : ℕ → ℕ → BoxTerms → BoxTerms
  cut_terms k p Done = Done
  cut_terms k p (Next n t ts) = Next n (cut k p t) (cut_terms k p ts)

-- how many lambdas a term begins with
abbrev pub leading : BoxTerm → ℕ
leading (BLambda b) = suc (leading b)
leading t = 0

-- whether the variable of leading lambda p is there, and isn't used
abbrev pub is_unused : ℕ → BoxTerm → Bool
is_unused zero (BLambda b) = if names b 0 then false else true
is_unused (suc p) (BLambda b) = is_unused p b
is_unused p t = false

-- a term without leading lambda p; its variable isn't used, so it doesn't matter that box is put for it
abbrev pub without_lambda : ℕ → BoxTerm → BoxTerm
without_lambda zero (BLambda b) = substitute (put Box) b
without_lambda (suc p) (BLambda b) = BLambda (without_lambda p b)
without_lambda p t = t

-- the program as it stands, with body b of constant d
abbrev pub with_constant : List BoxFamily → List BoxConstant → BoxConstant → BoxTerm → (BoxTerm → BoxTerm) → List BoxConstant → BoxTerm → BoxProgram
with_constant Fs done d b f rest main = stands Fs (record { name = d.name; body = b } ∷ done) f rest main

-- whether leading lambda p of body b is dropped
abbrev pub is_dead : List BoxFamily → List BoxConstant → BoxConstant → ℕ → BoxTerm → (BoxTerm → BoxTerm) → List BoxConstant → BoxTerm → Bool
is_dead Fs done d p b f rest main = is_unused p b && fits_program d.name.0 p (with_constant Fs done d b f rest main)

-- what the leading lambdas of a body become, of which n are to come and p stand before these: the body, and what the steps make of the other terms
abbrev pub without_params : List BoxFamily → List BoxConstant → BoxConstant → List BoxConstant → BoxTerm → ℕ → ℕ → BoxTerm → (BoxTerm → BoxTerm) → BoxTerm × (BoxTerm → BoxTerm)
without_params Fs done d rest main zero p b f = (b, f)
without_params Fs done d rest main (suc n) p b f =
    if is_dead Fs done d p b f rest main
    then without_params Fs done d rest main n p (without_lambda p b) (λ t. cut d.name.0 p (f t))
    else without_params Fs done d rest main n (suc p) b f

abbrev pub drop_from : List BoxFamily → List BoxConstant → (BoxTerm → BoxTerm) → List BoxConstant → BoxTerm → BoxProgram
drop_from Fs done f [] main = stands Fs done f [] main
drop_from Fs done f (d ∷ rest) main =
    let r = without_params Fs done d rest main (leading (f d.body)) 0 (f d.body) f in
    drop_from Fs (record { name = d.name; body = r.0 } ∷ done) r.1 rest main

abbrev pub drop_program : BoxProgram → BoxProgram
drop_program P = drop_from P.families [] (λ t. t) (reverse P.constants) P.main
