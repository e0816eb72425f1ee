-- Evaluation with environments of a saturated program follows evaluation by substitution of the program before.
use Rattle.std.proofs.Common.{◌≡◌, ℕ, zero, suc, ◌+◌, ◌<◌, ◌≤◌, List, [], ◌++◌, length, true, Some, refl, sym, ap, ◌∙◌, subst, ⊎_elim, arith, length-append}
use Rattle.std.proofs.lemmas.Bool.{cases_lt}
use Rattle.std.proofs.lemmas.Option.{same_Some}
use Rattle.std.specs.Prelude.{slice_get}
use Rattle.trees.specs.Tree.{Rel, Done, Next, term_at}
use Rattle.trees.specs.Parallel.{put, put_all, substitute}
use Rattle.trees.specs.Closed.{Closed}
use Rattle.pc_terms.specs.declared.leaf.Name.{Name}
use Rattle.pc_terms.specs.declared.leaf.FamilyId.{FamilyId}
use Rattle.box_terms.specs.BoxSyntax.{BoxTerm, BoxTerms, Box, BLambda, BApp, BConstruct, BCase, BFix}
use Rattle.lambda_box.specs.BoxProgram.{BoxFamily, BoxProgram, KeepsBoxConstant, KeepsBoxFamily, box_apply, boxes}
use Rattle.lambda_box.specs.BoxForm.{IsFixBody, boxed, last, more}
use Rattle.lambda_box.specs.BoxEvaluation.{IsBoxConstructor, is_box_constructor, BoxTakesMore, constructor, fixpoint, box_unfolded, BoxUnfolds, unfolds, BoxEvaluates, value, constant, let_in, beta, box_app, extend, unfold_fix, enter, enter_only}
use Rattle.box_passes.specs.Saturate.{innermost, lambdas, constructor_function}
use Rattle.lambda_box.specs.ClosureEvaluation.{ClosureValue, VBox, VConstruct, VClosure, VFix, ClosureValues, NoValue, Then, ClosureEnv, Empty, Bind, bind_all, box_values, size, Held, Holds, Defines, held_value, Finds, found, later, Counts, nothing, constructor_block, ◌⊕◌, ClosureRun, run_box, run_value, run_definition}
use Rattle.lambda_box.specs.ClosureEvaluation.{run_lambda, run_fix, run_constant, run_let, run_app, run_box_app, run_construct, run_match, run_only, RunArgs, run_head, run_arg}
use Rattle.lambda_box.proofs.Spines.{head_of, arguments, constructor_head, constructor_arguments, fix_head, fix_arguments, closed_evaluates, construct_not_fix}
use Rattle.lambda_box.proofs.Determined.{lambda_takes_no_more, box_takes_no_more, lambda_stays, box_stays}
use Rattle.lambda_box.proofs.ConstructorBlocks.{constructor_block_small, constructor_block_quiet, constructor_block_matches}
use Rattle.box_passes.proofs.Standing as standing
use Rattle.box_passes.proofs.Standing.{IsValue, is_box, is_lambda, is_fix, is_part, is_part_box, is_construct, is_waiting, Stands, StandTerms, none, next, StandBody, StandArgs, args_head, args_dropped, args_kept, Made, made_head, made_dropped, made_kept, Waits, waits_head, waits_more, Part}
use Rattle.box_passes.proofs.Standing.{part_app, part_box, closed_value, closed_stands}
use Rattle.box_passes.proofs.Selves.{made_is, made_count, waits_is, waits_count, part_no_construct, no_lambda, no_box, construct_not_unfolded, unfolded_now, self, quiet}
use Rattle.box_passes.proofs.Filling.{stands_one, stands_boxes, made_size, stands_made}
use Rattle.box_passes.proofs.Opening.{Bare, BoxBody, Enter, Gives, GivesArgs, LastBody, box_body, box_body_of, fix_entry, last_body, last_body_of, opened_at, part_shape, part_waits, enter_run, enter_box}

-- a constructor's function at its last argument
record Taken (P : BoxProgram) (f : FamilyId) (c p j : ℕ) (t : BoxTerm) (e : ClosureEnv) : Type 0 where
  vs : ClosureValues
  rest : ClosureEnv
  env : e ≡ bind_all vs rest
  made : Made P f c p j t vs

taken_dropped : {P : BoxProgram} {f : FamilyId} {c p j : ℕ} {t u : BoxTerm} {e : ClosureEnv} (v : ClosureValue) → j < p → Closed 0 u → Taken P f c p j t e → Taken P f c p (suc j) (BApp t u) (Bind v e)
taken_dropped {P} {f} {c} {p} {j} {t} {u} {e} v l cu r = go r.vs r.made
  where
    go : (vs : ClosureValues) → Made P f c p j t vs → Taken P f c p (suc j) (BApp t u) (Bind v e)
    go NoValue h = record { vs = NoValue; rest = Bind v e; env = refl; made = made_dropped l cu h }
    go (Then w ws) h = absurd (omega (arith, made_size h))

taken : {P : BoxProgram} {f : FamilyId} {c all m : ℕ} {t : BoxTerm} {e : ClosureEnv} (p j : ℕ) → Waits P f c all m t e → j + m ≡ all → Taken P f c p j t e
taken {e = e} p zero (waits_head eq) q = record { vs = NoValue; rest = e; env = refl; made = made_head }
taken p (suc j) (waits_head eq) q = absurd (omega arith)
taken p zero (waits_more h g) q = absurd (omega (arith, waits_count h))
taken {P} {f} {c} {all} {m} p (suc j) (waits_more {t = t} {u = u} {e = e} {v = v} h g) q =
    let r = taken p j h (omega arith) in
    ⊎_elim (λ lt. taken_dropped v lt (closed_value g) r)
    (λ le. record { vs = Then v r.vs; rest = r.rest; env = ap (Bind v) r.env; made = made_kept le r.made g })
    (cases_lt j p)

abbrev drop_values : ℕ → ClosureValues → ClosureValues
drop_values zero vs = vs
drop_values (suc n) NoValue = NoValue
drop_values (suc n) (Then v vs) = drop_values n vs

record ValueAt (n : ℕ) (vs : ClosureValues) (rest : ClosureEnv) : Type 0 where
  v : ClosureValue
  split : drop_values n vs ≡ Then v (drop_values (suc n) vs)
  finds : Finds (bind_all vs rest) n (Holds v)

value_at : (n : ℕ) (vs : ClosureValues) (rest : ClosureEnv) → n < size vs → ValueAt n vs rest
value_at n NoValue rest l = absurd (omega arith)
value_at zero (Then v vs) rest l = record { v = v; split = refl; finds = found }
value_at (suc n) (Then v vs) rest l = let r = value_at n vs rest (omega arith) in record { v = r.v; split = r.split; finds = later r.finds }

drop_all_values : (vs : ClosureValues) → drop_values (size vs) vs ≡ NoValue
drop_all_values NoValue = refl
drop_all_values (Then v vs) = drop_all_values vs

record QuietArgs (P' : BoxProgram) (e : ClosureEnv) (f : FamilyId) (c : ℕ) (t : BoxTerm) (vs : ClosureValues) : Type 0 where
  k : Counts
  run : RunArgs P' e f c t vs k
  contractions : k.contractions ≡ 0
  blocks : k.blocks ≡ 0
  matches : k.matches ≡ 0

run_innermost : {P' : BoxProgram} {f : FamilyId} {c : ℕ} {h : BoxTerm} (vs : ClosureValues) (rest : ClosureEnv) (n : ℕ) → n ≤ size vs → QuietArgs P' (bind_all vs rest) f c h (drop_values n vs) → QuietArgs P' (bind_all vs rest) f c (box_apply h (innermost n)) vs
run_innermost vs rest zero l q = q
run_innermost {P'} {f} {c} {h} vs rest (suc n) l q =
    let r = value_at n vs rest (omega arith) in
    let run = subst (λ ws. RunArgs P' (bind_all vs rest) f c (BApp h (Rel n)) ws (q.k ⊕ nothing)) (sym r.split) (run_arg q.run (run_value r.finds)) in
    run_innermost vs rest n (omega arith) (record { k = q.k ⊕ nothing; run = run; contractions = omega (arith, q.contractions); blocks = omega (arith, q.blocks); matches = omega (arith, q.matches) })

run_all : {P' : BoxProgram} (f : FamilyId) (c : ℕ) (vs : ClosureValues) (rest : ClosureEnv) → QuietArgs P' (bind_all vs rest) f c (box_apply (BConstruct f c) (innermost (size vs))) vs
run_all {P'} f c vs rest =
    run_innermost vs rest (size vs) (omega arith)
    (record { k = nothing; run = subst (λ ws. RunArgs P' (bind_all vs rest) f c (BConstruct f c) ws nothing) (sym (drop_all_values vs)) run_head; contractions = refl; blocks = refl; matches = refl })

-- what the body of a constructor's function gives
record Quiet (P P' : BoxProgram) (e : ClosureEnv) (b w : BoxTerm) : Type 0 where
  v : ClosureValue
  c : Counts
  run : ClosureRun P' e b v c
  is : IsValue P w v
  contractions : c.contractions ≡ 0
  blocks : c.blocks ≤ 1
  matches : c.matches ≡ 0

pub record FamilyAt (P' : BoxProgram) (f : FamilyId) (F : BoxFamily) : Type 0 where
  pub family : BoxFamily
  pub keeps : KeepsBoxFamily P' f family
  pub args : family.args ≡ F.args
  pub propositional : family.propositional ≡ F.propositional

pub record ConstantAt (P P' : BoxProgram) (k : Name) (b : BoxTerm) : Type 0 where
  pub body : BoxTerm
  pub keeps : KeepsBoxConstant P' k body
  pub stands : Stands P 0 Empty b body

-- the branches of a match, on both sides
record BranchAt (P : BoxProgram) (n k : ℕ) (e : ClosureEnv) (bs : BoxTerms) (i : ℕ) (t : BoxTerm) : Type 0 where
  b : BoxTerm
  at : term_at bs i ≡ Some (n, b)
  stands : Stands P (n + k) e t b

branch_at : {P : BoxProgram} {n k : ℕ} {e : ClosureEnv} {ts bs : BoxTerms} {t : BoxTerm} (i : ℕ) → StandTerms P k e ts bs → term_at ts i ≡ Some (n, t) → BranchAt P n k e bs i t
branch_at i none eq = absurd (cc)
branch_at {P} {n} {k} {e} {t = t} zero (next {n = m} {t = u} {b = b} h hs) eq =
    let p = same_Some _ _ eq in
    record { b = b; at = ap (λ q. Some (q.0, b)) p; stands = subst (λ q. Stands P (q.0 + k) e q.1 b) p h }
branch_at (suc i) (next h hs) eq = let r = branch_at i hs eq in record { b = r.b; at = r.at; stands = r.stands }

-- a value whose head is a constructor
pub data ConstructValue (P : BoxProgram) (s : BoxTerm) : ClosureValue → Type 0 where
  ready : {f : FamilyId} {c n : ℕ} {F : BoxFamily} {vs : ClosureValues} → KeepsBoxFamily P f F → slice_get F.args c ≡ Some n → Made P f c F.params (F.params + n) s vs → ConstructValue P s (VConstruct f c vs)
  waiting : {f : FamilyId} {c n m : ℕ} {F : BoxFamily} {e : ClosureEnv} → KeepsBoxFamily P f F → slice_get F.args c ≡ Some n → Waits P f c (F.params + n) (suc m) s e →
      ConstructValue P s (VClosure e (lambdas m (box_apply (BConstruct f c) (innermost n))))

pub construct_value : {P : BoxProgram} {s : BoxTerm} {v : ClosureValue} {f : FamilyId} {c : ℕ} → head_of s ≡ BConstruct f c → IsValue P s v → ConstructValue P s v
construct_value head (is_construct F at h) = ready F at h
construct_value head (is_waiting F at h) = waiting F at h
construct_value head is_box = absurd (no_box head)
construct_value head (is_lambda h) = absurd (no_lambda head)
construct_value head (is_fix h lt) = absurd (construct_not_fix (sym head))
construct_value head (is_part p) = absurd (part_no_construct p head)
construct_value head (is_part_box p) = absurd (part_no_construct p head)

abbrev pub family_name : BoxTerm → FamilyId → FamilyId
family_name (BConstruct f c) g = f
family_name t g = g

abbrev pub constructor_number : BoxTerm → ℕ
constructor_number (BConstruct f c) = c
constructor_number t = 0

-- the counts of a constructor are determined
module _ (P : BoxProgram) (unique : (f : FamilyId) (F G : BoxFamily) → KeepsBoxFamily P f F → KeepsBoxFamily P f G → F ≡ G) where
  same_family_kept : {f g : FamilyId} {c d : ℕ} {F G : BoxFamily} → BConstruct f c ≡ BConstruct g d → KeepsBoxFamily P f F → KeepsBoxFamily P g G → F ≡ G
  same_family_kept {f} {g} {F = F} {G = G} e k l = let fg : f ≡ g = ap (λ t. family_name t f) e in unique g F G (subst (λ h. KeepsBoxFamily P h F) fg k) l

  pub same_counts : {f g : FamilyId} {c d n m : ℕ} {F G : BoxFamily} → BConstruct f c ≡ BConstruct g d → KeepsBoxFamily P f F → slice_get F.args c ≡ Some n → KeepsBoxFamily P g G → slice_get G.args d ≡ Some m → (F.params ≡ G.params) × (n ≡ m)
  same_counts {f} {g} {c} {d} {n} {m} {F} {G} e k at l at' =
      let FG = same_family_kept e k l in
      let cd : c ≡ d = ap constructor_number e in
      (ap (λ H. H.params) FG, same_Some _ _ (sym at ∙ ap (λ H. slice_get H.args c) FG ∙ ap (slice_get G.args) cd ∙ at'))

evaluates_positive : {P : BoxProgram} {t w : BoxTerm} {n m : ℕ} → BoxEvaluates P t w n m → 1 ≤ n
evaluates_positive (value i) = omega arith
evaluates_positive (constant k d) = omega arith
evaluates_positive (let_in d1 d2) = omega arith
evaluates_positive (beta d1 d2 d3) = omega arith
evaluates_positive (box_app d1 d2) = omega arith
evaluates_positive (extend d1 d2 m) = omega arith
evaluates_positive (unfold_fix d1 d2 u d3) = omega arith
evaluates_positive (enter d1 c at d2) = omega arith
evaluates_positive (enter_only k p d1 d2) = omega arith

module _ (P P' : BoxProgram) (constants : (k : Name) (b : BoxTerm) → KeepsBoxConstant P k b → ConstantAt P P' k b) (families : (f : FamilyId) (F : BoxFamily) → KeepsBoxFamily P f F → FamilyAt P' f F)
    (unique : (f : FamilyId) (F G : BoxFamily) → KeepsBoxFamily P f F → KeepsBoxFamily P f G → F ≡ G) where
  closed : (k : Name) (b : BoxTerm) → KeepsBoxConstant P k b → Closed 0 b
  closed k b at = closed_stands (constants k b at).stands

  var_gives : {t w : BoxTerm} {e : ClosureEnv} {n m i j : ℕ} (h : Held) → j ≡ 0 + i → Finds e i h → IsValue P t (held_value h) → BoxEvaluates P t w n m → Gives P P' e (Rel j) w n m
  var_gives {t} {w} {e} {n} {m} {i} {j} (Holds v) eq at is d =
      let same : i ≡ j = omega arith in
      record {
        v = v;
        c = nothing;
        run = run_value (subst (λ x. Finds e x (Holds v)) same at);
        is = self P closed is d;
        contractions = evaluates_positive d;
        made = omega arith;
        matches = λ bare. sym (quiet P closed bare is d);
      }
  var_gives {t} {w} {e} {n} {m} {i} {j} (Defines e' l rargs bs) eq at is d =
      let same : i ≡ j = omega arith in
      record {
        v = VFix e' l rargs bs;
        c = _;
        run = run_definition (subst (λ x. Finds e x (Defines e' l rargs bs)) same at);
        is = self P closed is d;
        contractions = evaluates_positive d;
        made = omega (arith, evaluates_positive d);
        matches = λ bare. sym (quiet P closed bare is d);
      }

  beta_gives : {e : ClosureEnv} {bf ba b a w : BoxTerm} (l k n lm km nm : ℕ) → Gives P P' e bf (BLambda b) l lm → Gives P P' e ba a k km → ((e' : ClosureEnv) (c : BoxTerm) → Stands P 0 e' (substitute (put a) b) c → Gives P P' e' c w n nm) →
      Gives P P' e (BApp bf ba) w (suc (l + k + n)) (lm + km + nm)
  beta_gives {e} {bf} {ba} {b} {a} {w} l k n lm km nm gf ga rest = go gf.run gf.is
    where
      go : {v : ClosureValue} → ClosureRun P' e bf v gf.c → IsValue P (BLambda b) v → Gives P P' e (BApp bf ba) w (suc (l + k + n)) (lm + km + nm)
      go run (is_lambda h) =
          let g = rest _ _ (stands_one ga.is h) in
          record {
            v = g.v;
            c = _;
            run = run_app run ga.run g.run;
            is = g.is;
            contractions = omega (arith, gf.contractions, ga.contractions, g.contractions);
            made = omega (arith, gf.made, ga.made, g.made);
            matches = λ bare. omega (arith, gf.matches bare, ga.matches bare, g.matches bare);
          }
      go run (is_part p) = elim p [ ]
      go run (is_part_box p) = elim p [ ]
      go run (is_construct F at h) = absurd (no_lambda (made_is h))
      go run (is_waiting F at h) = absurd (no_lambda (waits_is h))

  box_gives : {e : ClosureEnv} {bf ba a : BoxTerm} (l k lm km : ℕ) → Gives P P' e bf Box l lm → Gives P P' e ba a k km → Gives P P' e (BApp bf ba) Box (suc (l + k)) (lm + km)
  box_gives {e} {bf} {ba} {a} l k lm km gf ga = go gf.run gf.is
    where
      go : {v : ClosureValue} → ClosureRun P' e bf v gf.c → IsValue P Box v → Gives P P' e (BApp bf ba) Box (suc (l + k)) (lm + km)
      go run is_box =
          record {
            v = VBox;
            c = _;
            run = run_box_app run ga.run;
            is = is_box;
            contractions = omega (arith, gf.contractions, ga.contractions);
            made = omega (arith, gf.made, ga.made);
            matches = λ bare. omega (arith, gf.matches bare, ga.matches bare);
          }
      go run (is_part p) = elim p [ ]
      go run (is_part_box p) = elim p [ ]
      go run (is_construct F at h) = absurd (no_box (made_is h))
      go run (is_waiting F at h) = absurd (no_box (waits_is h))

  -- a fixpoint that waits for more values
  wait_gives : {e : ClosureEnv} {bf ba s a : BoxTerm} (l k lm km : ℕ) (i : ℕ) (rargs : List ℕ) (ts : BoxTerms) (r : ℕ) → head_of s ≡ BFix i rargs ts → slice_get rargs i ≡ Some r → length (arguments s []) < r →
      Gives P P' e bf s l lm → Gives P P' e ba a k km → Gives P P' e (BApp bf ba) (BApp s a) (suc (l + k)) (lm + km)
  wait_gives {e} {bf} {ba} {s} {a} l k lm km i rargs ts r head at lt gf ga =
      let en = fix_entry head gf.is in
      let count = part_waits en.part head at in
      go en.n (omega (arith, count)) en.part (part_shape en.part) en.enters
    where
      inner : {n : ℕ} {e' : ClosureEnv} {b : BoxTerm} → Part P n (BApp s a) (Bind ga.v e') b → IsFixBody n b → Enter gf.v e' (BLambda b) → Gives P P' e (BApp bf ba) (BApp s a) (suc (l + k)) (lm + km)
      inner p boxed en =
          let x = enter_run en gf.run ga.run run_box in
          record {
            v = VBox;
            c = x.c';
            run = x.run;
            is = is_part_box p;
            contractions = omega (arith, x.contractions, gf.contractions, ga.contractions);
            made = omega (arith, x.blocks, gf.made, ga.made);
            matches = λ bare. omega (arith, x.matches, gf.matches bare, ga.matches bare);
          }
      inner p last en =
          let x = enter_run en gf.run ga.run run_lambda in
          record {
            v = _;
            c = x.c';
            run = x.run;
            is = is_part p;
            contractions = omega (arith, x.contractions, gf.contractions, ga.contractions);
            made = omega (arith, x.blocks, gf.made, ga.made);
            matches = λ bare. omega (arith, x.matches, gf.matches bare, ga.matches bare);
          }
      inner p (more h) en =
          let x = enter_run en gf.run ga.run run_lambda in
          record {
            v = _;
            c = x.c';
            run = x.run;
            is = is_part p;
            contractions = omega (arith, x.contractions, gf.contractions, ga.contractions);
            made = omega (arith, x.blocks, gf.made, ga.made);
            matches = λ bare. omega (arith, x.matches, gf.matches bare, ga.matches bare);
          }

      go : (n : ℕ) → 0 < n → {e' : ClosureEnv} {b : BoxTerm} → Part P n s e' b → IsFixBody n b → Enter gf.v e' b → Gives P P' e (BApp bf ba) (BApp s a) (suc (l + k)) (lm + km)
      go zero lt p h en = absurd (omega arith)
      go (suc n) lt p boxed en =
          let x = enter_box en gf.run ga.run in
          record {
            v = VBox;
            c = x.c';
            run = x.run;
            is = is_part_box (part_box p ga.is);
            contractions = omega (arith, x.contractions, gf.contractions, ga.contractions);
            made = omega (arith, x.blocks, gf.made, ga.made);
            matches = λ bare. omega (arith, x.matches, gf.matches bare, ga.matches bare);
          }
      go (suc n) lt p (more h) en = inner (part_app p ga.is) h en

  -- a fixpoint at its last value, whose body is a lambda
  go_lambda : {e : ClosureEnv} {bf ba s a c a' w u x : BoxTerm} (l k j4 j5 n lm km m4 m5 nm : ℕ) (i : ℕ) (rargs : List ℕ) (bodies : BoxTerms) (xs : List BoxTerm) → BoxUnfolds s a u → s ≡ box_apply (BFix i rargs bodies) xs → term_at bodies i ≡ Some (length rargs, x) →
      BoxEvaluates P (box_apply (box_unfolded rargs bodies x) xs) (BLambda c) j4 m4 → BoxEvaluates P a a' j5 m5 → Gives P P' e bf s l lm → Gives P P' e ba a k km →
      ((e' : ClosureEnv) (d : BoxTerm) → Stands P 0 e' (substitute (put a') c) d → Gives P P' e' d w n nm) → Gives P P' e (BApp bf ba) w (suc (l + k + suc (j4 + j5 + n))) (lm + km + (m4 + m5 + nm))
  go_lambda {e} {bf} {ba} {s} {a} {c} {a'} {w} {x = x} l k j4 j5 n lm km m4 m5 nm i rargs bodies xs un eq at d4 d5 gf ga rest =
      let en = fix_entry (fix_head xs eq) gf.is in
      let o = opened_at P closed i rargs bodies xs en.part eq at d4 in
      go (unfolded_now en.part un) (part_shape en.part) en.enters o.stands o.gives o.matches
    where
      entered : {e' : ClosureEnv} {b : BoxTerm} {j : ℕ} → Enter gf.v e' (BLambda b) → LastBody P e' b (BLambda c) j → (Bare P → j ≡ m4) → Gives P P' e (BApp bf ba) w (suc (l + k + suc (j4 + j5 + n))) (lm + km + (m4 + m5 + nm))
      entered {e' = e'} {b = b} en (last_body h) q =
          let g = rest (Bind ga.v e') b (stands_one (self P closed ga.is d5) h) in
          let x = enter_run en gf.run ga.run g.run in
          record {
            v = g.v;
            c = x.c';
            run = x.run;
            is = g.is;
            contractions = omega (arith, x.contractions, gf.contractions, ga.contractions, g.contractions);
            made = omega (arith, x.blocks, gf.made, ga.made, g.made);
            matches = λ bare. omega (arith, x.matches, gf.matches bare, ga.matches bare, g.matches bare, q bare, quiet P closed bare ga.is d5);
          }

      go : {r j jm : ℕ} {e' : ClosureEnv} {b t : BoxTerm} → r ≡ 0 → IsFixBody r b → Enter gf.v e' b → StandBody P r 0 e' t b → BoxEvaluates P t (BLambda c) j jm → (Bare P → jm ≡ m4) →
          Gives P P' e (BApp bf ba) w (suc (l + k + suc (j4 + j5 + n))) (lm + km + (m4 + m5 + nm))
      go z boxed en h d q = elim (box_body_of h d) [ ]
      go z last en h d q = entered en (last_body_of h d) q
      go z (more f) en h d q = absurd (omega arith)

  -- or is box
  go_box : {e : ClosureEnv} {bf ba s a a' u x : BoxTerm} (l k j4 j5 lm km m4 m5 : ℕ) (i : ℕ) (rargs : List ℕ) (bodies : BoxTerms) (xs : List BoxTerm) → BoxUnfolds s a u → s ≡ box_apply (BFix i rargs bodies) xs → term_at bodies i ≡ Some (length rargs, x) →
      BoxEvaluates P (box_apply (box_unfolded rargs bodies x) xs) Box j4 m4 → BoxEvaluates P a a' j5 m5 → Gives P P' e bf s l lm → Gives P P' e ba a k km →
      Gives P P' e (BApp bf ba) Box (suc (l + k + suc (j4 + j5))) (lm + km + (m4 + m5))
  go_box {e} {bf} {ba} {s} {a} {a'} {x = x} l k j4 j5 lm km m4 m5 i rargs bodies xs un eq at d4 d5 gf ga =
      let en = fix_entry (fix_head xs eq) gf.is in
      let o = opened_at P closed i rargs bodies xs en.part eq at d4 in
      go (unfolded_now en.part un) (part_shape en.part) en.enters o.stands o.gives o.matches
    where
      entered : {e' : ClosureEnv} {j : ℕ} → Enter gf.v e' Box → BoxBody Box j → (Bare P → j ≡ m4) → Gives P P' e (BApp bf ba) Box (suc (l + k + suc (j4 + j5))) (lm + km + (m4 + m5))
      entered en box_body q =
          let x = enter_box en gf.run ga.run in
          record {
            v = VBox;
            c = x.c';
            run = x.run;
            is = is_box;
            contractions = omega (arith, x.contractions, gf.contractions, ga.contractions);
            made = omega (arith, x.blocks, gf.made, ga.made);
            matches = λ bare. omega (arith, x.matches, gf.matches bare, ga.matches bare, q bare, quiet P closed bare ga.is d5);
          }

      go : {r j jm : ℕ} {e' : ClosureEnv} {b t : BoxTerm} → r ≡ 0 → IsFixBody r b → Enter gf.v e' b → StandBody P r 0 e' t b → BoxEvaluates P t Box j jm → (Bare P → jm ≡ m4) →
          Gives P P' e (BApp bf ba) Box (suc (l + k + suc (j4 + j5))) (lm + km + (m4 + m5))
      go z boxed en h d q = entered en (box_body_of h d) q
      go z last en h d q = elim (last_body_of h d) [ ]
      go z (more f) en h d q = absurd (omega arith)

  -- it is neither a constructor nor a waiting fixpoint, nor does it unfold again
  unfolded_value : {s a u x y : BoxTerm} {v : ClosureValue} (l m : ℕ) (i : ℕ) (rargs : List ℕ) (bodies : BoxTerms) (xs : List BoxTerm) → BoxUnfolds s a u → s ≡ box_apply (BFix i rargs bodies) xs → term_at bodies i ≡ Some (length rargs, x) →
      BoxEvaluates P (box_apply (box_unfolded rargs bodies x) xs) y l m → IsValue P s v → (BoxTakesMore P y → ⊥) × ((b c : BoxTerm) → BoxUnfolds y b c → ⊥)
  unfolded_value {y = y} l m i rargs bodies xs un eq at d is =
      let en = fix_entry (fix_head xs eq) is in
      let o = opened_at P closed i rargs bodies xs en.part eq at d in
      go (unfolded_now en.part un) (part_shape en.part) o.stands o.gives
    where
      boxes_none : {j : ℕ} {w : BoxTerm} → BoxBody w j → (BoxTakesMore P w → ⊥) × ((b c : BoxTerm) → BoxUnfolds w b c → ⊥)
      boxes_none box_body = (box_takes_no_more, λ b c u. box_stays u)

      lambdas_none : {e : ClosureEnv} {b w : BoxTerm} {j : ℕ} → LastBody P e b w j → (BoxTakesMore P w → ⊥) × ((b c : BoxTerm) → BoxUnfolds w b c → ⊥)
      lambdas_none (last_body h) = (lambda_takes_no_more, λ b c u. lambda_stays u)

      go : {r j jm : ℕ} {e' : ClosureEnv} {b t : BoxTerm} → r ≡ 0 → IsFixBody r b → StandBody P r 0 e' t b → BoxEvaluates P t y j jm → (BoxTakesMore P y → ⊥) × ((b c : BoxTerm) → BoxUnfolds y b c → ⊥)
      go z boxed h d = boxes_none (box_body_of h d)
      go z last h d = lambdas_none (last_body_of h d)
      go z (more f) h d = absurd (omega arith)

  -- the body of a constructor's function
  function_gives : {f : FamilyId} {c n m : ℕ} {F : BoxFamily} {t : BoxTerm} {e : ClosureEnv} → KeepsBoxFamily P f F → slice_get F.args c ≡ Some n → Waits P f c (F.params + n) m t e → Quiet P P' e (lambdas m (box_apply (BConstruct f c) (innermost n))) t
  function_gives {m = suc m} F at h = record { v = _; c = _; run = run_lambda; is = is_waiting F at h; contractions = refl; blocks = omega arith; matches = refl }
  function_gives {f} {c} {n} {m = zero} {F} {t} {e} k at h =
      let r = taken F.params (F.params + n) h (omega arith) in
      let G = families f F k in
      let count : size r.vs ≡ n = omega (arith, made_size r.made) in
      let q = run_all {P' = P'} f c r.vs r.rest in
      let run = subst (λ b. ClosureRun P' (bind_all r.vs r.rest) (box_apply (BConstruct f c) (innermost b)) (VConstruct f c r.vs) (q.k ⊕ constructor_block n)) count (run_construct G.keeps (ap (λ l. slice_get l c) G.args ∙ at) count q.run) in
      record {
        v = _;
        c = _;
        run = subst (λ e. ClosureRun P' e (box_apply (BConstruct f c) (innermost n)) (VConstruct f c r.vs) (q.k ⊕ constructor_block n)) (sym r.env) run;
        is = is_construct k at r.made;
        contractions = omega (arith, q.contractions, constructor_block_quiet n);
        blocks = omega (arith, q.blocks, constructor_block_small n);
        matches = omega (arith, q.matches, constructor_block_matches n);
      }

  -- a constructor that waits takes one more
  construct_gives : {e : ClosureEnv} {bf ba s a : BoxTerm} (l k lm km : ℕ) {f : FamilyId} {c n : ℕ} {F : BoxFamily} → KeepsBoxFamily P f F → slice_get F.args c ≡ Some n → head_of s ≡ BConstruct f c → length (arguments s []) < F.params + n →
      Gives P P' e bf s l lm → Gives P P' e ba a k km → Gives P P' e (BApp bf ba) (BApp s a) (suc (l + k)) (lm + km)
  construct_gives {e} {bf} {ba} {s} {a} l k lm km {f} {c} {n} {F} keeps at head lt gf ga = go gf.run (construct_value head gf.is)
    where
      go : {v : ClosureValue} → ClosureRun P' e bf v gf.c → ConstructValue P s v → Gives P P' e (BApp bf ba) (BApp s a) (suc (l + k)) (lm + km)
      go run (waiting F' at' h) =
          let q = function_gives F' at' (waits_more h ga.is) in
          record {
            v = q.v;
            c = _;
            run = run_app run ga.run q.run;
            is = q.is;
            contractions = omega (arith, q.contractions, gf.contractions, ga.contractions);
            made = omega (arith, q.blocks, gf.made, ga.made);
            matches = λ bare. omega (arith, q.matches, gf.matches bare, ga.matches bare);
          }
      go run (ready F' at' h) = let same = same_counts P unique (sym head ∙ made_is h) keeps at F' at' in absurd (omega (arith, made_count h, same.0, same.1))

  enter_gives : {e : ClosureEnv} {s' v body w : BoxTerm} {ts bs : BoxTerms} (n n' m m' : ℕ) {f : FamilyId} {c : ℕ} {qs xs : List BoxTerm} → IsBoxConstructor P f c v qs xs → term_at ts c ≡ Some (length xs, body) → StandTerms P 0 e ts bs → Gives P P' e s' v n m →
      ((e' : ClosureEnv) (d : BoxTerm) → Stands P 0 e' (substitute (put_all xs Rel) body) d → Gives P P' e' d w n' m') → Gives P P' e (BCase f s' bs) w (suc (n + n')) (suc (m + m'))
  enter_gives {e} {s'} {v} {body} {w} {ts} {bs} n n' m m' {f} {c} {qs} {xs} (is_box_constructor {F} {n = k} keeps prop at lq lx eq) tat hs gs rest = go gs.run (construct_value (constructor_head (qs ++ xs) eq) gs.is)
    where
      head : head_of v ≡ BConstruct f c
      head = constructor_head (qs ++ xs) eq

      args : arguments v [] ≡ qs ++ xs
      args = constructor_arguments f c (qs ++ xs) eq

      many : length (arguments v []) ≡ F.params + k
      many = omega (arith, ap length args, length-append qs xs, lq, lx)

      go : {val : ClosureValue} → ClosureRun P' e s' val gs.c → ConstructValue P v val → Gives P P' e (BCase f s' bs) w (suc (n + n')) (suc (m + m'))
      go run (ready {f = g} {c = c'} {vs = vs} F' at' made) =
          let e1 = sym (made_is made) ∙ head in
          let same = same_counts P unique e1 F' at' keeps at in
          let count : size vs ≡ length xs = omega (arith, made_size made, same.0, same.1, lx) in
          let b = branch_at c hs tat in
          let G = families f F keeps in
          let gb : Stands P (size vs + 0) e body b.b = subst (λ x. Stands P (x + 0) e body b.b) (sym count) b.stands in
          let r = rest (bind_all vs e) b.b (stands_made qs xs made args (omega (arith, lq, same.0)) gb) in
          let run' = subst (λ h. ClosureRun P' e s' (VConstruct h c vs) gs.c) (ap (λ t. family_name t f) e1) (subst (λ d. ClosureRun P' e s' (VConstruct g d vs) gs.c) (ap constructor_number e1) run) in
          let at2 = subst (λ x. term_at bs c ≡ Some (x, b.b)) (sym count) b.at in
          record {
            v = r.v;
            c = _;
            run = run_match G.keeps (G.propositional ∙ prop) run' at2 r.run;
            is = r.is;
            contractions = omega (arith, gs.contractions, r.contractions);
            made = omega (arith, gs.made, r.made);
            matches = λ bare. omega (arith, gs.matches bare, r.matches bare);
          }
      go run (waiting F' at' h) = let same = same_counts P unique (sym (waits_is h) ∙ head) F' at' keeps at in absurd (omega (arith, waits_count h, many, same.0, same.1))

  only_gives : {e : ClosureEnv} {s' body w b : BoxTerm} (n n' m m' k : ℕ) {f : FamilyId} {F : BoxFamily} → KeepsBoxFamily P f F → F.propositional ≡ true → Gives P P' e s' Box n m → Stands P (k + 0) e body b →
      ((e' : ClosureEnv) (d : BoxTerm) → Stands P 0 e' (substitute (put_all (boxes k) Rel) body) d → Gives P P' e' d w n' m') → Gives P P' e (BCase f s' (Next k b Done)) w (suc (n + n')) (suc (m + m'))
  only_gives {e} {s'} {body} {w} {b} n n' m m' k {f} {F} keeps prop gs h rest = go gs.run gs.is
    where
      go : {val : ClosureValue} → ClosureRun P' e s' val gs.c → IsValue P Box val → Gives P P' e (BCase f s' (Next k b Done)) w (suc (n + n')) (suc (m + m'))
      go run is_box =
          let G = families f F keeps in
          let r = rest (bind_all (box_values k) e) b (stands_boxes k h) in
          record {
            v = r.v;
            c = _;
            run = run_only G.keeps (G.propositional ∙ prop) run r.run;
            is = r.is;
            contractions = omega (arith, gs.contractions, r.contractions);
            made = omega (arith, gs.made, r.made);
            matches = λ bare. omega (arith, gs.matches bare, r.matches bare);
          }
      go run (is_part p) = elim p [ ]
      go run (is_part_box p) = elim p [ ]
      go run (is_construct F at h) = absurd (no_box (made_is h))
      go run (is_waiting F at h) = absurd (no_box (waits_is h))

  -- a constructor that has all its parameters and arguments makes one block
  full_gives : {e : ClosureEnv} {f : FamilyId} {c n k m : ℕ} {F : BoxFamily} {b w : BoxTerm} → KeepsBoxFamily P f F → slice_get F.args c ≡ Some n → (j : ℕ) → j ≡ F.params + n → GivesArgs P P' e f c F.params j b w k m → Gives P P' e b w k m
  full_gives {f = f} {c = c} {n = n} {F = F} {w = w} keeps at j z g =
      let G = families f F keeps in
      record {
        v = _;
        c = _;
        run = run_construct G.keeps (ap (λ l. slice_get l c) G.args ∙ at) (omega (arith, made_size g.is)) g.run;
        is = is_construct keeps at (subst (λ i. Made P f c F.params i w g.vs) z g.is);
        contractions = omega (arith, g.contractions, constructor_block_quiet n);
        made = omega (arith, g.made, constructor_block_small n);
        matches = λ bare. omega (arith, g.matches bare, constructor_block_matches n);
      }

  -- a constructor alone is a function
  alone_gives : {e : ClosureEnv} {f : FamilyId} {c n : ℕ} {F : BoxFamily} {b : BoxTerm} → KeepsBoxFamily P f F → slice_get F.args c ≡ Some n → 0 < F.params + n → b ≡ constructor_function F.params n f c → Gives P P' e b (BConstruct f c) 1 0
  alone_gives {e} {f} {c} {n} {F} {b} keeps at lt eq =
      let q = function_gives {e = e} keeps at (waits_head refl) in
      record {
        v = q.v;
        c = q.c;
        run = subst (λ d. ClosureRun P' e d q.v q.c) (sym eq) q.run;
        is = q.is;
        contractions = omega (arith, q.contractions);
        made = omega (arith, q.blocks);
        matches = λ bare. q.matches;
      }

  head_args : {e : ClosureEnv} {f : FamilyId} {c p : ℕ} → GivesArgs P P' e f c p 0 (BConstruct f c) (BConstruct f c) 1 0
  head_args = record { vs = NoValue; c = nothing; run = run_head; is = made_head; contractions = omega arith; made = omega arith; matches = λ b. refl }

  dropped_args : {e : ClosureEnv} {f : FamilyId} {c p j : ℕ} {b w v : BoxTerm} (k l m n : ℕ) → (Bare P → p ≡ 0) → j < p → Closed 0 v → GivesArgs P P' e f c p j b w k m → GivesArgs P P' e f c p (suc j) b (BApp w v) (suc (k + l)) (m + n)
  dropped_args k l m n bare lt cv g = record { vs = g.vs; c = g.c; run = g.run; is = made_dropped lt cv g.is; contractions = omega (arith, g.contractions); made = omega (arith, g.made); matches = λ b. absurd (omega (arith, bare b, lt)) }

  kept_args : {e : ClosureEnv} {f : FamilyId} {c p j : ℕ} {b d w v : BoxTerm} (k l m n : ℕ) → p ≤ j → GivesArgs P P' e f c p j b w k m → Gives P P' e d v l n → GivesArgs P P' e f c p (suc j) (BApp b d) (BApp w v) (suc (k + l)) (m + n)
  kept_args k l m n le r a =
      record {
        vs = _;
        c = _;
        run = run_arg r.run a.run;
        is = made_kept le r.is a.is;
        contractions = omega (arith, r.contractions, a.contractions);
        made = omega (arith, r.made, a.made);
        matches = λ b. omega (arith, r.matches b, a.matches b);
      }

  mutual
    pub follows : {t b w : BoxTerm} {e : ClosureEnv} {n m : ℕ} → BoxEvaluates P t w n m → Stands P 0 e t b → Gives P P' e b w n m
    follows d (standing.bound lt) = absurd (omega arith)
    follows d (standing.held {h = h} i eq at is) = var_gives h eq at is d
    follows (constant at' d) (standing.full F at z h) = elim h [ ]
    follows (let_in d1 d2) (standing.full F at z h) = elim h [ ]
    follows (enter d1 con at' d2) (standing.full F at z h) = elim h [ ]
    follows (enter_only G p d1 d2) (standing.full F at z h) = elim h [ ]
    follows (value i) (standing.full F at z args_head) = full_gives F at _ z head_args
    follows (value i) (standing.full F at z (args_dropped l cu h)) = elim i [ ]
    follows (beta d1 d2 d3) (standing.full F at z (args_dropped l cu h)) = let g = follows_args (λ bare. bare _ F.0) d1 h in absurd (no_lambda (made_is g.is))
    follows (box_app d1 d2) (standing.full F at z (args_dropped l cu h)) = let g = follows_args (λ bare. bare _ F.0) d1 h in absurd (no_box (made_is g.is))
    follows (unfold_fix d1 d2 u d3) (standing.full F at z (args_dropped l cu h)) = let g = follows_args (λ bare. bare _ F.0) d1 h in absurd (construct_not_unfolded (made_is g.is) u)
    follows (extend d1 d2 m) (standing.full F at z (args_dropped l cu h)) =
        full_gives F at _ z (dropped_args _ _ _ _ (λ bare. bare _ F.0) l (closed_evaluates closed d2 cu) (follows_args (λ bare. bare _ F.0) d1 h))
    follows (value i) (standing.full F at z (args_kept l h g)) = elim i [ ]
    follows (beta d1 d2 d3) (standing.full F at z (args_kept l h g)) = let r = follows_args (λ bare. bare _ F.0) d1 h in absurd (no_lambda (made_is r.is))
    follows (box_app d1 d2) (standing.full F at z (args_kept l h g)) = let r = follows_args (λ bare. bare _ F.0) d1 h in absurd (no_box (made_is r.is))
    follows (unfold_fix d1 d2 u d3) (standing.full F at z (args_kept l h g)) = let r = follows_args (λ bare. bare _ F.0) d1 h in absurd (construct_not_unfolded (made_is r.is) u)
    follows (extend d1 d2 m) (standing.full F at z (args_kept l h g)) = full_gives F at _ z (kept_args _ _ _ _ l (follows_args (λ bare. bare _ F.0) d1 h) (follows d2 g))
    follows (value i) (standing.alone F at l eq) = alone_gives F at l eq
    follows (value i) standing.box = record { v = VBox; c = nothing; run = run_box; is = is_box; contractions = omega arith; made = omega arith; matches = λ bare. refl }
    follows (value i) (standing.lambda h) = record { v = _; c = _; run = run_lambda; is = is_lambda h; contractions = omega arith; made = omega arith; matches = λ bare. refl }
    follows (value i) (standing.fix hs l) = record { v = _; c = _; run = run_fix; is = is_fix hs l; contractions = omega arith; made = omega arith; matches = λ bare. refl }
    follows (value i) (standing.let_in h g) = elim i [ ]
    follows (value i) (standing.app h g) = elim i [ ]
    follows (value i) standing.constant = elim i [ ]
    follows (value i) (standing.case h g) = elim i [ ]
    follows (constant {k = k} {b = b} at d) standing.constant =
        let C = constants k b at in
        let g = follows d C.stands in
        record { v = g.v; c = _; run = run_constant C.keeps g.run; is = g.is; contractions = omega (arith, g.contractions); made = omega (arith, g.made); matches = λ bare. omega (arith, g.matches bare) }
    follows (let_in d1 d2) (standing.let_in h1 h2) =
        let ga = follows d1 h1 in
        let g = follows d2 (stands_one ga.is h2) in
        record {
          v = g.v;
          c = _;
          run = run_let ga.run g.run;
          is = g.is;
          contractions = omega (arith, ga.contractions, g.contractions);
          made = omega (arith, ga.made, g.made);
          matches = λ bare. omega (arith, ga.matches bare, g.matches bare);
        }
    follows (beta d1 d2 d3) (standing.app h1 h2) = beta_gives _ _ _ _ _ _ (follows d1 h1) (follows d2 h2) (λ e c h. follows d3 h)
    follows (box_app d1 d2) (standing.app h1 h2) = box_gives _ _ _ _ (follows d1 h1) (follows d2 h2)
    follows (extend d1 d2 (constructor f c xs F at lt eq)) (standing.app h1 h2) =
        let count = ap length (constructor_arguments f c xs eq) in
        construct_gives _ _ _ _ F at (constructor_head xs eq) (omega (arith, lt, count)) (follows d1 h1) (follows d2 h2)
    follows (extend d1 d2 (fixpoint i rargs bodies xs at lt eq)) (standing.app h1 h2) =
        let count = ap length (fix_arguments i rargs bodies xs eq) in
        wait_gives _ _ _ _ i rargs bodies _ (fix_head xs eq) at (omega (arith, lt, count)) (follows d1 h1) (follows d2 h2)
    follows (unfold_fix d1 d2 (unfolds i rargs bodies xs r l at eq) (value j)) (standing.app h1 h2) = elim j [ ]
    follows (unfold_fix d1 d2 (unfolds i rargs bodies xs r l at eq) (beta d4 d5 d6)) (standing.app h1 h2) =
        go_lambda _ _ _ _ _ _ _ _ _ _ i rargs bodies xs (unfolds i rargs bodies xs r l at eq) eq at d4 d5 (follows d1 h1) (follows d2 h2) (λ e c h. follows d6 h)
    follows (unfold_fix d1 d2 (unfolds i rargs bodies xs r l at eq) (box_app d4 d5)) (standing.app h1 h2) =
        go_box _ _ _ _ _ _ _ _ i rargs bodies xs (unfolds i rargs bodies xs r l at eq) eq at d4 d5 (follows d1 h1) (follows d2 h2)
    follows (unfold_fix d1 d2 (unfolds i rargs bodies xs r l at eq) (extend d4 d5 m)) (standing.app h1 h2) =
        let g = follows d1 h1 in let no = unfolded_value {a = Box} _ _ i rargs bodies xs (unfolds i rargs bodies xs r l at eq) eq at d4 g.is in absurd (no.0 m)
    follows (unfold_fix d1 d2 (unfolds i rargs bodies xs r l at eq) (unfold_fix d4 d5 u d6)) (standing.app h1 h2) =
        let g = follows d1 h1 in let no = unfolded_value {a = Box} _ _ i rargs bodies xs (unfolds i rargs bodies xs r l at eq) eq at d4 g.is in absurd (no.1 _ _ u)
    follows (enter d1 con at d2) (standing.case h hs) = enter_gives _ _ _ _ con at hs (follows d1 h) (λ e c h. follows d2 h)
    follows (enter_only F p d1 d2) (standing.case h (next h2 none)) = only_gives _ _ _ _ _ F p (follows d1 h) h2 (λ e c h. follows d2 h)

    pub follows_args : {t b w : BoxTerm} {e : ClosureEnv} {n m : ℕ} {f : FamilyId} {c p j : ℕ} → (Bare P → p ≡ 0) → BoxEvaluates P t w n m → StandArgs P 0 e f c p j t b → GivesArgs P P' e f c p j b w n m
    follows_args bare (constant at' d) h = elim h [ ]
    follows_args bare (let_in d1 d2) h = elim h [ ]
    follows_args bare (enter d1 con at' d2) h = elim h [ ]
    follows_args bare (enter_only G p d1 d2) h = elim h [ ]
    follows_args bare (value i) args_head = head_args
    follows_args bare (value i) (args_dropped l cu h) = elim i [ ]
    follows_args bare (beta d1 d2 d3) (args_dropped l cu h) = let g = follows_args bare d1 h in absurd (no_lambda (made_is g.is))
    follows_args bare (box_app d1 d2) (args_dropped l cu h) = let g = follows_args bare d1 h in absurd (no_box (made_is g.is))
    follows_args bare (unfold_fix d1 d2 u d3) (args_dropped l cu h) = let g = follows_args bare d1 h in absurd (construct_not_unfolded (made_is g.is) u)
    follows_args bare (extend d1 d2 m) (args_dropped l cu h) = dropped_args _ _ _ _ bare l (closed_evaluates closed d2 cu) (follows_args bare d1 h)
    follows_args bare (value i) (args_kept l h g) = elim i [ ]
    follows_args bare (beta d1 d2 d3) (args_kept l h g) = let r = follows_args bare d1 h in absurd (no_lambda (made_is r.is))
    follows_args bare (box_app d1 d2) (args_kept l h g) = let r = follows_args bare d1 h in absurd (no_box (made_is r.is))
    follows_args bare (unfold_fix d1 d2 u d3) (args_kept l h g) = let r = follows_args bare d1 h in absurd (construct_not_unfolded (made_is r.is) u)
    follows_args bare (extend d1 d2 m) (args_kept l h g) = kept_args _ _ _ _ l (follows_args bare d1 h) (follows d2 g)
