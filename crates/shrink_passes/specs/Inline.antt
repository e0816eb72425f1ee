-- Constants with one use, put in place of it. The constants are gone through from the earliest to the latest, once. Where a constant has exactly one use
-- in the program as it then stands, its body is put in place of that use and the constant is dropped, unless the greatest depth among the constants'
-- bodies and main would then be greater than before. Nothing else changes: a constant without a use stays.
use Rattle.std.specs.Prelude.{ℕ, nat_eq, nat_le, Bool, ◌&&◌, if◌then◌else◌, List, [], ◌∷◌, reverse}
use Rattle.trees.specs.Tree.{Rel, Done, Next}
use Rattle.box_terms.specs.BoxSyntax.{BoxTerm, BoxTerms, Box, BLambda, BLetIn, BApp, BConst, BConstruct, BCase, BFix}
use Rattle.lambda_box.specs.BoxProgram.{BoxConstant, BoxFamily, BoxProgram}
use Rattle.shrink_passes.specs.Uses.{uses_program, deepest}

-- a term with b in place of each use of constant k. A constant's body is closed, so it stands the same under variables
abbrev mutual
  pub put_in : ℕ → BoxTerm → BoxTerm → BoxTerm
  put_in k b (Rel i) = Rel i
  put_in k b Box = Box
  put_in k b (BLambda t) = BLambda (put_in k b t)
  put_in k b (BLetIn a t) = BLetIn (put_in k b a) (put_in k b t)
  put_in k b (BApp f a) = BApp (put_in k b f) (put_in k b a)
  put_in k b (BConst c) = if nat_eq c.0 k then b else BConst c
  put_in k b (BConstruct f c) = BConstruct f c
  put_in k b (BCase f s bs) = BCase f (put_in k b s) (put_in_terms k b bs)
  put_in k b (BFix i rargs bodies) = BFix i rargs (put_in_terms k b bodies)

  pub put_in_terms : ℕ → BoxTerm → BoxTerms → BoxTerms
  put_in_terms k b Done = Done
  put_in_terms k b (Next n t ts) = Next n (put_in k b t) (put_in_terms k b ts)

-- a constant whose body f changes
abbrev pub changed : (BoxTerm → BoxTerm) → BoxConstant → BoxConstant
changed f d = record { name = d.name; body = f d.body }

-- constants that are still to come, the earliest first, put before those that are done, the newest first
abbrev pub standing : (BoxTerm → BoxTerm) → List BoxConstant → List BoxConstant → List BoxConstant
standing f [] done = done
standing f (d ∷ rest) done = standing f rest (changed f d ∷ done)

-- the program as it stands, where f is what the steps so far make of a term that was there from the start
abbrev pub stands : List BoxFamily → List BoxConstant → (BoxTerm → BoxTerm) → List BoxConstant → BoxTerm → BoxProgram
stands Fs done f rest main = record { constants = standing f rest done; families = Fs; main = f main }

-- and what f becomes where constant d is put in place of its use
abbrev pub with_body : (BoxTerm → BoxTerm) → BoxConstant → BoxTerm → BoxTerm
with_body f d t = put_in d.name.0 (f d.body) (f t)

-- whether constant d, which comes next, is put in place of its use: it has one use, and the program without it is no deeper
abbrev pub is_put_in : List BoxFamily → List BoxConstant → (BoxTerm → BoxTerm) → BoxConstant → List BoxConstant → BoxTerm → Bool
is_put_in Fs done f d rest main =
    nat_eq (uses_program d.name.0 (stands Fs done f (d ∷ rest) main)) 1
    && nat_le (deepest (stands Fs done (with_body f d) rest main)) (deepest (stands Fs done f (d ∷ rest) main))

abbrev pub inline_from : List BoxFamily → List BoxConstant → (BoxTerm → BoxTerm) → List BoxConstant → BoxTerm → BoxProgram
inline_from Fs done f [] main = stands Fs done f [] main
inline_from Fs done f (d ∷ rest) main =
    if is_put_in Fs done f d rest main
    then inline_from Fs done (with_body f d) rest main
    else inline_from Fs (changed f d ∷ done) f rest main

abbrev pub inline_program : BoxProgram → BoxProgram
inline_program P = inline_from P.families [] (λ t. t) (reverse P.constants) P.main
