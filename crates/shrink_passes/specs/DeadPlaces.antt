-- What the walks of a program note of the places of each constant's parameters: whether the parameter isn't used, and every use of the constant has box there.
use Rattle.std.specs.Prelude.{ℕ, zero, suc, ◌+◌, nat_eq, Bool, true, false, ◌&&◌, if◌then◌else◌, List, [], ◌∷◌, reverse, Option, Some, None}
use Rattle.box_terms.specs.BoxSyntax.{BoxTerm, BoxTerms, Box, BLambda, BApp, BConst}
use Rattle.lambda_box.specs.BoxProgram.{BoxConstant, BoxProgram}
use Rattle.lambda_box.specs.ClosureEvaluation.{names, names_terms}
use Rattle.shrink_passes.specs.declared.flags.Loss.{Loss}
use Rattle.shrink_passes.specs.declared.flags.Loss.TheVariants.{Place, From}
use Rattle.shrink_passes.specs.declared.noting.Use.{Use}
use Rattle.shrink_passes.specs.DropParams.{is_box, fits, fits_constants, is_unused}

-- a list of truths, from place 0, and false beyond
abbrev pub flag_at : ℕ → List Bool → Bool
flag_at p [] = false
flag_at zero (x ∷ xs) = x
flag_at (suc p) (x ∷ xs) = flag_at p xs

abbrev pub is_below : ℕ → ℕ → Bool
is_below p zero = false
is_below zero (suc n) = true
is_below (suc p) (suc n) = is_below p n

-- whether place p stays where one place is lost, or all from one on
abbrev pub keeps : Loss → ℕ → Bool
keeps (Place i) p = if nat_eq i p then false else true
keeps (From n) p = is_below p n

-- and whether place p of constant k stays where constant j loses some
abbrev pub keeps_place : ℕ → Loss → ℕ → ℕ → Bool
keeps_place j l k p = if nat_eq j k then keeps l p else true

-- whether a table has place p of constant k
abbrev pub has_place : Option (List Bool) → ℕ → Bool
has_place None p = false
has_place (Some xs) p = flag_at p xs

abbrev pub is_place : (ℕ → Option (List Bool)) → ℕ → ℕ → Bool
is_place m k p = has_place (m k) p

-- the constant that a term is with its arguments, and how many these are
abbrev pub one_more : Option Use → Option Use
one_more None = None
one_more (Some u) = Some (record { name = u.name; arguments = suc u.arguments })

abbrev pub spine : BoxTerm → Option Use
spine (BConst c) = Some (record { name = c; arguments = 0 })
spine (BApp f a) = one_more (spine f)
spine t = None

-- where a head gets argument a: whether that isn't argument p of constant k, or is box
abbrev pub box_there : ℕ → ℕ → Option Use → BoxTerm → Bool
box_there k p None a = true
box_there k p (Some u) a = if nat_eq u.name.0 k then (if nat_eq u.arguments p then is_box a else true) else true

-- where a head gets no more arguments: whether it isn't constant k, or has argument p
abbrev pub is_reached : ℕ → ℕ → Option Use → Bool
is_reached k p None = true
is_reached k p (Some u) = if nat_eq u.name.0 k then is_below p u.arguments else true

-- whether every use of constant k in a term has box as argument p; of the use that the term itself is, only the arguments that it has are asked for
abbrev pub noted : ℕ → ℕ → BoxTerm → Bool
noted k p (BApp f a) = noted k p f && (box_there k p (spine f) a && fits k p [] a)
noted k p (BConst c) = true
noted k p t = fits k p [] t

-- whether variable j isn't named
abbrev pub is_unnamed : ℕ → BoxTerm → Bool
is_unnamed j t = if names t j then false else true

abbrev pub are_unnamed : ℕ → BoxTerms → Bool
are_unnamed j ts = if names_terms ts j then false else true

-- whether variable j, of the n before and those of the leading lambdas, is there and isn't named
abbrev pub is_spare : ℕ → BoxTerm → ℕ → Bool
is_spare n (BLambda b) j = is_spare (suc n) b j
is_spare n t j = is_below j n && is_unnamed j t

-- whether constant k, if it is in the list, has a leading lambda p whose variable isn't used
abbrev pub is_candidate : ℕ → ℕ → List BoxConstant → Bool → Bool
is_candidate k p [] z = z
is_candidate k p (d ∷ ds) z = is_candidate k p ds (if nat_eq d.name.0 k then is_unused p d.body else z)

-- whether parameter p of constant k isn't used, and every use of the constant has box there, in a program; the constants from the earliest to the latest
abbrev pub is_dead_place : BoxProgram → ℕ → ℕ → Bool
is_dead_place P k p = (is_candidate k p (reverse P.constants) false && fits_constants k p (reverse P.constants)) && fits k p [] P.main
