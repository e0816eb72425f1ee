-- The table of the constants' numbers is made from the last constant to the first.
use Rattle.std.proofs.Common.{◌≡◌, ℕ, suc, ◌+◌, List, [], ◌∷◌, length, drop, Bool, true, false, Some, refl, ap, sym, ◌∙◌, arith}
use Rattle.std.proofs.Math.ListN.{drop_of_length-le}
use Rattle.std.proofs.lemmas.Bool.{eq-eqb, eqb-true}
use Rattle.std.specs.Prelude.{nat_eq, cond, if◌then◌else◌}
use Rattle.std.specs.HashMap.{HashMap, get}
use Rattle.std.specs.Option.{unwrap_or}
use Rattle.std.specs.Map.{lookup}
use Rattle.closure_lift.specs.LiftedProgram.{place_in}
use Rattle.closure_lift.specs.declared.program.LiftedConstant.{LiftedConstant}
use Rattle.wasm_emit.specs.ConstantNumbers.{AreNumbered}

chosen : (b : Bool) (n : ℕ) → b ≡ true → (if b then 0 else suc n) ≡ 0
chosen true n e = refl
chosen false n e = cc

passed : (b : Bool) (n : ℕ) → b ≡ false → (if b then 0 else suc n) ≡ suc n
passed true n e = cc
passed false n e = refl

module _ {S : Type 0} where
  -- the table of the constants from place j on
  pub record FromPlace (numbers : HashMap ℕ ℕ S) (cs : List LiftedConstant) (j : ℕ) : Type 0 where
    pub at : (x : ℕ) → unwrap_or (get nat_eq numbers x) (length cs) ≡ j + place_in (drop j cs) x

  pub none_yet : (m : HashMap ℕ ℕ S) (cs : List LiftedConstant) → m.entries ≡ [] → FromPlace m cs (length cs)
  none_yet m cs empty = record {
    at = λ x.
        let e : unwrap_or (get nat_eq m x) (length cs) ≡ length cs = ap (λ es. unwrap_or (lookup (nat_eq x) es) (length cs)) empty in
        let z : place_in (drop (length cs) cs) x ≡ 0 = ap (λ (ds : List LiftedConstant). place_in ds x) (drop_of_length-le cs (omega arith)) in
        omega arith;
  }

  pub one_more : (m n : HashMap ℕ ℕ S) (cs : List LiftedConstant) (j v : ℕ) (c : LiftedConstant) → drop j cs ≡ c ∷ drop (j + 1) cs → v ≡ j → FromPlace m cs (j + 1) →
      ((x : ℕ) → get nat_eq n x ≡ cond (nat_eq c.name.0 x) (Some v) (get nat_eq m x)) → FromPlace n cs j
  one_more m n cs j v c next here before put = record { at = λ x. go x (nat_eq c.name.0 x) refl (put x) }
    where
      go : (x : ℕ) (b : Bool) → nat_eq c.name.0 x ≡ b → get nat_eq n x ≡ cond b (Some v) (get nat_eq m x) → unwrap_or (get nat_eq n x) (length cs) ≡ j + place_in (drop j cs) x
      go x true t e =
          let same : x ≡ c.name.0 = sym (eqb-true c.name.0 x t) in
          let z = ap (λ (ds : List LiftedConstant). place_in ds x) next ∙ chosen (nat_eq x c.name.0) (place_in (drop (j + 1) cs) x) (eq-eqb x c.name.0 same) in
          let a : unwrap_or (get nat_eq n x) (length cs) ≡ v = ap (λ o. unwrap_or o (length cs)) e in
          omega arith
      go x false t e =
          let other : nat_eq x c.name.0 ≡ false = grind (arith, t) in
          let z = ap (λ (ds : List LiftedConstant). place_in ds x) next ∙ passed (nat_eq x c.name.0) (place_in (drop (j + 1) cs) x) other in
          let a : unwrap_or (get nat_eq n x) (length cs) ≡ unwrap_or (get nat_eq m x) (length cs) = ap (λ o. unwrap_or o (length cs)) e in
          let b = before.at x in
          omega arith

  pub all_numbered : (m : HashMap ℕ ℕ S) (cs : List LiftedConstant) (j : ℕ) → j ≡ 0 → FromPlace m cs j → AreNumbered m cs
  all_numbered m cs j z f = record {
    at = λ x.
        let e = f.at x in
        let whole : place_in (drop j cs) x ≡ place_in cs x = ap (λ i. place_in (drop i cs) x) z in
        omega arith;
  }
