-- Tests that wait in a list stand for the tests of types and arguments one after the other.
use Rattle.std.proofs.Common.{◌≡◌, ℕ, suc, Bool, true, false, if◌then◌else◌, List, [], ◌∷◌, ◌++◌, length, refl, sym, ap, ◌∙◌, arith}
use Rattle.pc_terms.specs.Syntax.{Term, Rel, SortT, Prod, Lambda, LetIn, App, Const, Ind, Construct, Case, Fix, args}
use Rattle.calculus_rules.specs.declared.declaration.Constructor.{Constructor}
use Rattle.calculus_rules.specs.declared.declaration.Family.{Family}
use Rattle.calculus_rules.specs.declared.declaration.Block.{Block}
use Rattle.calculus_rules.specs.declared.target.Target.{Target}
use Rattle.pc_rules.specs.declared.meter.Account.{Account}
use Rattle.calculus_rules.specs.Environment.{Env}
use Rattle.pc_rules.specs.DirectedRun.{Run, done, bind, Leaves}
use Rattle.pc_rules.specs.DirectedPositivity.{both, argument_good, good, arguments_good, types_good, constructors_good, families_good, nestable}
use Rattle.pc_rules.proofs.Fair.{leaves_bind, leaves_if, same_left}
use Rattle.pc_rules.proofs.SameWithin.{Agrees, agrees_at, agrees_from}
use Rattle.pc_rules.proofs.Leading.{bind_assoc}
use Rattle.pc_rules.proofs.Following.{bind_done}
use Rattle.inductive_check.specs.Waiting.{Waiting, type_waits, argument_waits, arguments_waiting, types_waiting, constructors_waiting, families_waiting, one_test, each_then, each_test}
use Rattle.inductive_check.proofs.Nesting.{agrees_both, good_fuel, argument_fuel}

if_both : (b : Bool) (k l : Account → Run Bool) (v : Account) → bind (if b then k v else done false v) (λ b w. if b then l w else done false w) ≡
    (if b then bind (k v) (λ b w. if b then l w else done false w) else done false v)
if_both true k l v = refl
if_both false k l v = bind_done false v (λ b w. if b then l w else done false w)

pub both_assoc : (r : Run Bool) (k l : Account → Run Bool) → both (both r k) l ≡ both r (λ v. both (k v) l)
both_assoc r k l =
    bind_assoc r (λ b v. if b then k v else done false v) (λ b w. if b then l w else done false w)
    ∙ (λ i. bind r (λ b v. if_both b k l v i))

pub yes_both : (u : Account) (k : Account → Run Bool) → both (done true u) k ≡ k u
yes_both u k = bind_done true u (λ b v. if b then k v else done false v)

pub no_both : (u : Account) (k : Account → Run Bool) → both (done false u) k ≡ done false u
no_both u k = bind_done false u (λ b v. if b then k v else done false v)

pub both_leaves : (r : Run Bool) (k : Account → Run Bool) (n : ℕ) → Leaves r.end n → ((v : Account) → Leaves (k v).end v.left) → Leaves (both r k).end n
both_leaves r k n h q = leaves_bind r (λ b v. if b then k v else done false v) n h (λ b v. leaves_if b (k v) (done false v) v.left (q v) (same_left v))

module _ (E : Env) where
  -- each of two lists, of which the second comes first
  pub each_append : (xs ys : List Waiting) (k : Account → Run Bool) → each_then E (xs ++ ys) k ≡ each_then E ys (each_then E xs k)
  each_append [] ys k = refl
  each_append (x ∷ xs) ys k = each_append xs ys (λ u. both (one_test E x u) k)

  pub last_test : (xs : List Waiting) (x : Waiting) (u : Account) → each_test E (xs ++ (x ∷ [])) u ≡ both (one_test E x u) (each_test E xs)
  last_test xs x u = ap (λ f. f u) (each_append xs (x ∷ []) (λ u. done true u))

  module _ (n : ℕ) (k k' : Account → Run Bool) (h : Agrees (suc n) k k') where
    pub types_wait : (g : Target) (j : ℕ) (As : List Term) → Agrees (suc n) (λ u. both (types_good E (nestable E n) g j As u) k) (each_then E (types_waiting g j As) k')
    types_wait g j [] = agrees_from (λ u. both (done true u) k) k k' (λ u. yes_both u k) h
    types_wait g j (A ∷ As) =
        let rest : Account → Run Bool = λ v. both (types_good E (nestable E n) g (suc j) As v) k in
        let rest' : Account → Run Bool = each_then E (types_waiting g (suc j) As) k' in
        agrees_from (λ u. both (types_good E (nestable E n) g j (A ∷ As) u) k) (λ u. both (good E (nestable E n) g j A u) rest) (each_then E (types_waiting g j (A ∷ As)) k')
        (λ u. both_assoc (good E (nestable E n) g j A u) (types_good E (nestable E n) g (suc j) As) k)
        (agrees_at (λ u. both (good E (nestable E n) g j A u) rest) (λ u. both (good E (nestable E u.left) g j A u) rest') (each_then E (types_waiting g j (A ∷ As)) k')
        (agrees_both (suc n) (λ u. good E (nestable E n) g j A u) (λ u. good E (nestable E u.left) g j A u) rest rest' (good_fuel E n g j A) (types_wait g (suc j) As))
        (λ u. sym (ap (λ f. f u) (each_append (types_waiting g (suc j) As) (type_waits g j A ∷ []) k'))))

  pub constructors_wait : (n : ℕ) (k k' : Account → Run Bool) → Agrees (suc n) k k' → (g : Target) (Cs : List Constructor) →
      Agrees (suc n) (λ u. both (constructors_good E (nestable E n) g Cs u) k) (each_then E (constructors_waiting g Cs) k')
  constructors_wait n k k' h g [] = agrees_from (λ u. both (done true u) k) k k' (λ u. yes_both u k) h
  constructors_wait n k k' h g (C ∷ Cs) =
      let rest : Account → Run Bool = λ v. both (constructors_good E (nestable E n) g Cs v) k in
      let rest' : Account → Run Bool = each_then E (constructors_waiting g Cs) k' in
      agrees_from (λ u. both (constructors_good E (nestable E n) g (C ∷ Cs) u) k) (λ u. both (types_good E (nestable E n) g 0 C.args u) rest) (each_then E (constructors_waiting g (C ∷ Cs)) k')
      (λ u. both_assoc (types_good E (nestable E n) g 0 C.args u) (constructors_good E (nestable E n) g Cs) k)
      (agrees_at (λ u. both (types_good E (nestable E n) g 0 C.args u) rest) (each_then E (types_waiting g 0 C.args) rest') (each_then E (constructors_waiting g (C ∷ Cs)) k')
      (types_wait n rest rest' (constructors_wait n k k' h g Cs) g 0 C.args)
      (λ u. sym (ap (λ f. f u) (each_append (constructors_waiting g Cs) (types_waiting g 0 C.args) k'))))

  pub families_wait : (n : ℕ) (k k' : Account → Run Bool) → Agrees (suc n) k k' → (g : Target) (Fs : List Family) →
      Agrees (suc n) (λ u. both (families_good E (nestable E n) g Fs u) k) (each_then E (families_waiting g Fs) k')
  families_wait n k k' h g [] = agrees_from (λ u. both (done true u) k) k k' (λ u. yes_both u k) h
  families_wait n k k' h g (F ∷ Fs) =
      let rest : Account → Run Bool = λ v. both (families_good E (nestable E n) g Fs v) k in
      let rest' : Account → Run Bool = each_then E (families_waiting g Fs) k' in
      agrees_from (λ u. both (families_good E (nestable E n) g (F ∷ Fs) u) k) (λ u. both (constructors_good E (nestable E n) g F.ctors u) rest) (each_then E (families_waiting g (F ∷ Fs)) k')
      (λ u. both_assoc (constructors_good E (nestable E n) g F.ctors u) (families_good E (nestable E n) g Fs) k)
      (agrees_at (λ u. both (constructors_good E (nestable E n) g F.ctors u) rest) (each_then E (constructors_waiting g F.ctors) rest') (each_then E (families_waiting g (F ∷ Fs)) k')
      (constructors_wait n rest rest' (families_wait n k k' h g Fs) g F.ctors)
      (λ u. sym (ap (λ f. f u) (each_append (families_waiting g Fs) (constructors_waiting g F.ctors) k'))))

  -- the arguments of a family of an earlier block
  pub arguments_wait : (n : ℕ) (k k' : Account → Run Bool) → Agrees (suc n) k k' → (g : Target) (j : ℕ) (B : Block) (t : Term) →
      Agrees (suc n) (λ u. both (arguments_good E (nestable E n) g j B t u) k) (each_then E (arguments_waiting g j B t) k')
  arguments_wait n k k' h g j B (App f a) =
      let i : ℕ = length (args f) in
      let test : Account → Run Bool = λ v. argument_good (nestable E n) g j B i a (good E (nestable E n) g j a) v in
      let test' : Account → Run Bool = one_test E (argument_waits g j B i a) in
      agrees_from (λ u. both (arguments_good E (nestable E n) g j B (App f a) u) k) (λ u. both (arguments_good E (nestable E n) g j B f u) (λ v. both (test v) k))
      (each_then E (arguments_waiting g j B (App f a)) k')
      (λ u. both_assoc (arguments_good E (nestable E n) g j B f u) test k)
      (arguments_wait n (λ v. both (test v) k) (λ v. both (test' v) k') (agrees_both (suc n) test test' k k' (argument_fuel E n g j B i a) h) g j B f)
  arguments_wait n k k' h g j B (Rel i) = agrees_from (λ u. both (done true u) k) k k' (λ u. yes_both u k) h
  arguments_wait n k k' h g j B (SortT s) = agrees_from (λ u. both (done true u) k) k k' (λ u. yes_both u k) h
  arguments_wait n k k' h g j B (Prod A C) = agrees_from (λ u. both (done true u) k) k k' (λ u. yes_both u k) h
  arguments_wait n k k' h g j B (Lambda A b) = agrees_from (λ u. both (done true u) k) k k' (λ u. yes_both u k) h
  arguments_wait n k k' h g j B (LetIn b C t) = agrees_from (λ u. both (done true u) k) k k' (λ u. yes_both u k) h
  arguments_wait n k k' h g j B (Const c) = agrees_from (λ u. both (done true u) k) k k' (λ u. yes_both u k) h
  arguments_wait n k k' h g j B (Ind f) = agrees_from (λ u. both (done true u) k) k k' (λ u. yes_both u k) h
  arguments_wait n k k' h g j B (Construct f c) = agrees_from (λ u. both (done true u) k) k k' (λ u. yes_both u k) h
  arguments_wait n k k' h g j B (Case f ps m ret s bs) = agrees_from (λ u. both (done true u) k) k k' (λ u. yes_both u k) h
  arguments_wait n k k' h g j B (Fix i rargs types bodies) = agrees_from (λ u. both (done true u) k) k k' (λ u. yes_both u k) h

  -- the rest of the tests never goes back on units
  pub each_agrees : (n : ℕ) (k : Account → Run Bool) → Agrees n k k → (xs : List Waiting) → Agrees n (each_then E xs k) (each_then E xs k)
  each_agrees n k h [] = h
  each_agrees n k h (x ∷ xs) = each_agrees n (λ u. both (one_test E x u) k) (agrees_both n (one_test E x) (one_test E x) k k (test_agrees n x) h) xs where
    test_agrees : (n : ℕ) (x : Waiting) → Agrees n (one_test E x) (one_test E x)
    test_agrees n (type_waits g j A) = record {
      same = λ u l. refl;
      falls = λ u l. (good_fuel E u.left g j A).falls u (omega arith);
    }
    test_agrees n (argument_waits g j B i a) = record {
      same = λ u l. refl;
      falls = λ u l. (argument_fuel E u.left g j B i a).falls u (omega arith);
    }

pub each_leaves : (E : Env) (xs : List Waiting) (u : Account) → Leaves (each_test E xs u).end u.left
each_leaves E xs u =
    (each_agrees E (suc u.left) (λ u. done true u) (record { same = λ u l. refl; falls = λ u l. omega arith }) xs).falls u (omega arith)
