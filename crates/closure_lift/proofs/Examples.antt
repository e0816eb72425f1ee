-- Lifted programs, computed.
use Rattle.std.proofs.Common.{◌≡◌, ℕ, [], ◌∷◌, refl}
use Rattle.anf_convert.specs.Anf.{AppOp, LamOp, FixOp, AnfBlock, Tail, Bind, NoDef, LamDef, BoxDef, AnfProgram}
use Rattle.anf_convert.specs.declared.program.Atom.TheVariants.{Var as AVar, Box as ABox}
use Rattle.closure_lift.specs.Lifted.{ClosOp, Block, TailAtom, Fn}
use Rattle.closure_lift.specs.Lifted as lifted
use Rattle.closure_lift.specs.Lift.{lift}

abbrev of_main : AnfBlock → AnfProgram
of_main t = record { constants = []; main = t }

abbrev fn : ℕ → Block → Fn
fn n t = record { captured = n; body = t }

-- λ a. λ b. λ c. (c b) a: each lambda captures what its body names outside
three : lift (of_main (Tail (LamOp (Tail (LamOp (Tail (LamOp (Bind (AppOp (AVar 0) (AVar 1)) (Tail (AppOp (AVar 0) (AVar 3)))))))))))
    ≡ record {
      functions =
          fn 0 (lifted.Tail (ClosOp 1 (AVar 0 ∷ []))) ∷
          fn 1 (lifted.Tail (ClosOp 2 (AVar 0 ∷ AVar 1 ∷ []))) ∷
          fn 2 (lifted.Bind (lifted.AppOp (AVar 0) (AVar 1)) (lifted.Tail (lifted.AppOp (AVar 0) (AVar 3)))) ∷ [];
      constants = [];
      main = lifted.Tail (ClosOp 0 []);
    }
three = refl

-- λ y. fix f. λ n. λ m. f y: the innermost lambda names y itself and as the word of f, which counts once; a closure is made where f is used
recursive : lift (of_main (Tail (LamOp (Tail (FixOp (LamDef (Tail (LamOp (Tail (AppOp (AVar 2) (AVar 3))))) NoDef) 0)))))
    ≡ record {
      functions =
          fn 0 (lifted.Tail (ClosOp 1 (AVar 0 ∷ []))) ∷
          fn 1 (lifted.Tail (ClosOp 2 (AVar 1 ∷ []))) ∷
          fn 1 (lifted.Bind (ClosOp 1 (AVar 1 ∷ [])) (lifted.Tail (lifted.AppOp (AVar 0) (AVar 2)))) ∷ [];
      constants = [];
      main = lifted.Tail (ClosOp 0 []);
    }
recursive = refl

-- two definitions that use each other, and one that is box; the functions of definitions come before those inside
mutual_three : lift (of_main (Tail (FixOp (LamDef (Tail (AppOp (AVar 2) (AVar 0))) (LamDef (Tail (LamOp (Tail (AppOp (AVar 4) (AVar 0))))) (BoxDef NoDef))) 1)))
    ≡ record {
      functions =
          fn 0 (lifted.Bind (ClosOp 1 []) (lifted.Tail (lifted.AppOp (AVar 0) (AVar 1)))) ∷
          fn 0 (lifted.Tail (ClosOp 3 [])) ∷
          fn 0 (TailAtom ABox) ∷
          fn 0 (lifted.Bind (ClosOp 0 []) (lifted.Tail (lifted.AppOp (AVar 0) (AVar 1)))) ∷ [];
      constants = [];
      main = lifted.Tail (ClosOp 1 []);
    }
mutual_three = refl
