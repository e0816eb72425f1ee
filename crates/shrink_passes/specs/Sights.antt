-- What one walk of a program notes of each constant's uses.
use Rattle.std.specs.Prelude.{ℕ, nat_eq, nat_le, ◌+◌, Bool, false, if◌then◌else◌, List, [], ◌∷◌, reverse, Option, Some, None}
use Rattle.trees.specs.Tree.{Rel, Done, Next}
use Rattle.box_terms.specs.BoxSyntax.{BoxTerm, BoxTerms, Box, BLambda, BLetIn, BApp, BConst, BConstruct, BCase, BFix}
use Rattle.lambda_box.specs.BoxProgram.{BoxConstant, BoxProgram}
use Rattle.shrink_passes.specs.declared.counting.Sight.{Sight}
use Rattle.shrink_passes.specs.declared.counting.Sight.TheVariants.{Once, Often}

-- one more use, under n nodes
abbrev pub seen : ℕ → Option Sight → Option Sight
seen n None = Some (Once n)
seen n (Some s) = Some Often

-- what is noted of constant k after a term that stands under n nodes
abbrev mutual
  pub sight : ℕ → ℕ → BoxTerm → Option Sight → Option Sight
  sight k n (Rel i) s = s
  sight k n Box s = s
  sight k n (BLambda t) s = sight k (n + 1) t s
  sight k n (BLetIn a t) s = sight k (n + 1) t (sight k (n + 1) a s)
  sight k n (BApp f a) s = sight k (n + 1) a (sight k (n + 1) f s)
  sight k n (BConst c) s = if nat_eq c.0 k then seen n s else s
  sight k n (BConstruct f c) s = s
  sight k n (BCase f t bs) s = sight_terms k (n + 1) bs (sight k (n + 1) t s)
  sight k n (BFix i rargs bodies) s = sight_terms k (n + 1) bodies s

  pub sight_terms : ℕ → ℕ → BoxTerms → Option Sight → Option Sight
  sight_terms k n Done s = s
  sight_terms k n (Next m t ts) s = sight_terms k n ts (sight k n t s)

-- after constants, the earliest first
abbrev pub sight_constants : ℕ → List BoxConstant → Option Sight → Option Sight
sight_constants k [] s = s
sight_constants k (d ∷ ds) s = sight_constants k ds (sight k 0 d.body s)

-- whether a body of depth n, put in place of what was seen, keeps the depth g
abbrev pub is_once : ℕ → ℕ → Option Sight → Bool
is_once g n None = false
is_once g n (Some (Once l)) = nat_le (l + n) g
is_once g n (Some Often) = false

-- after a program: its constants from the earliest to the latest, and main
abbrev pub sight_program : ℕ → BoxProgram → Option Sight
sight_program k P = sight k 0 P.main (sight_constants k (reverse P.constants) None)
