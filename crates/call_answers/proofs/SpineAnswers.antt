-- Main, applied to variables that hold its arguments, gives what main gives that is applied to one argument after the other.
use Rattle.std.proofs.Common.{◌≡◌, ℕ, zero, suc, ◌+◌, max, List, [], ◌∷◌, ◌++◌, length, Some, sym, ap, ◌∙◌, subst, arith}
use Rattle.std.proofs.lemmas.Option.{same_Some}
use Rattle.std.specs.Prelude.{slice_get}
use Rattle.trees.specs.Tree.{Rel}
use Rattle.pc_terms.specs.declared.leaf.FamilyId.{FamilyId}
use Rattle.box_terms.specs.BoxSyntax.{BoxTerm, BApp}
use Rattle.lambda_box.specs.BoxProgram.{BoxFamily, BoxProgram, KeepsBoxFamily, box_apply}
use Rattle.lambda_box.specs.BoxData.{Data}
use Rattle.lambda_box.specs.BoxForm.{IsBoxProgram}
use Rattle.lambda_box.specs.SaturatedForm.{AreEnough, IsSaturatedAt, IsSaturated}
use Rattle.lambda_box.specs.DataTerms.{ValuesHold, hold_none, hold_last}
use Rattle.lambda_box.specs.ClosureEvaluation.{ClosureValue, VBox, ClosureValues, Then, ClosureEnv, Empty, Bind, BindFix, bind_all, size, Held, Holds, Finds, found, later, Counts, nothing, contraction, ◌⊕◌}
use Rattle.lambda_box.specs.ClosureEvaluation.{ClosureRun, run_value, run_app, run_box_app, run_fix_app, run_fix_box, run_construct, RunArgs, run_head, run_arg, ValueReads}
use Rattle.lambda_box.proofs.Families.{unique_family}
use Rattle.lambda_box.proofs.OneRun.{runs_are_one}
use Rattle.lambda_box.proofs.Spines.{closed_term_at}
use Rattle.lambda_box.proofs.Naming.{bodies_closed}
use Rattle.anf_convert.specs.ToAnfKeeps.{BoxAnswers, box_alone, box_applied}
use Rattle.box_passes.specs.Saturate.{innermost}
use Rattle.box_passes.proofs.SaturatedWidths.{held_count}
use Rattle.call_answers.proofs.Narrowing.{Narrows, narrow_box, narrow_past, narrow_bind, narrow_bind_fix, closure_narrow, fix_narrow, box_narrow, narrowed, data_narrow, reads_narrow}

-- main, applied to n variables, the last of which is variable i
abbrev spine : BoxTerm → ℕ → ℕ → BoxTerm
spine f zero i = f
spine f (suc n) i = BApp (spine f n (suc i)) (Rel i)

spine_is : (f : BoxTerm) (m n : ℕ) → box_apply (spine f m n) (innermost n) ≡ spine f (m + n) 0
spine_is f m zero = let z : m ≡ m + 0 = omega arith in ap (λ k. spine f k 0) z
spine_is f m (suc n) = let z : suc m + n ≡ m + suc n = omega arith in spine_is f (suc m) n ∙ ap (λ k. spine f k 0) z

-- the counts of an application in the order of the arguments

app_counts : (c d : Counts) → c ⊕ (contraction ⊕ nothing ⊕ nothing ⊕ d) ≡ contraction ⊕ c ⊕ nothing ⊕ d
app_counts c d =
    let p : c.contractions + (1 + (0 + (0 + d.contractions))) ≡ 1 + (c.contractions + (0 + d.contractions)) = omega arith in
    let q : c.matches + (0 + (0 + (0 + d.matches))) ≡ 0 + (c.matches + (0 + d.matches)) = omega arith in
    let r : c.blocks + (0 + (0 + (0 + d.blocks))) ≡ 0 + (c.blocks + (0 + d.blocks)) = omega arith in
    let s : max c.greatest (max 0 (max 0 (max 0 d.greatest))) ≡ max 0 (max c.greatest (max 0 d.greatest)) = omega arith in
    λ i. record { contractions = p i; matches = q i; blocks = r i; greatest = s i }

box_counts : (c : Counts) → c ⊕ (contraction ⊕ nothing ⊕ nothing) ≡ contraction ⊕ c ⊕ nothing
box_counts c =
    let p : c.contractions + (1 + (0 + 0)) ≡ 1 + (c.contractions + 0) = omega arith in
    let q : c.matches + (0 + (0 + 0)) ≡ 0 + (c.matches + 0) = omega arith in
    let r : c.blocks + (0 + (0 + 0)) ≡ 0 + (c.blocks + 0) = omega arith in
    let s : max c.greatest (max 0 (max 0 0)) ≡ max 0 (max c.greatest 0) = omega arith in
    λ i. record { contractions = p i; matches = q i; blocks = r i; greatest = s i }

fix_counts : (c d : Counts) → c ⊕ (contraction ⊕ contraction ⊕ nothing ⊕ nothing ⊕ d) ≡ contraction ⊕ contraction ⊕ c ⊕ nothing ⊕ d
fix_counts c d =
    let p : c.contractions + (1 + (1 + (0 + (0 + d.contractions)))) ≡ 1 + (1 + (c.contractions + (0 + d.contractions))) = omega arith in
    let q : c.matches + (0 + (0 + (0 + (0 + d.matches)))) ≡ 0 + (0 + (c.matches + (0 + d.matches))) = omega arith in
    let r : c.blocks + (0 + (0 + (0 + (0 + d.blocks)))) ≡ 0 + (0 + (c.blocks + (0 + d.blocks))) = omega arith in
    let s : max c.greatest (max 0 (max 0 (max 0 (max 0 d.greatest)))) ≡ max 0 (max 0 (max c.greatest (max 0 d.greatest))) = omega arith in
    λ i. record { contractions = p i; matches = q i; blocks = r i; greatest = s i }

fix_box_counts : (c : Counts) → c ⊕ (contraction ⊕ contraction ⊕ nothing ⊕ nothing) ≡ contraction ⊕ contraction ⊕ c ⊕ nothing
fix_box_counts c =
    let p : c.contractions + (1 + (1 + (0 + 0))) ≡ 1 + (1 + (c.contractions + 0)) = omega arith in
    let q : c.matches + (0 + (0 + (0 + 0))) ≡ 0 + (0 + (c.matches + 0)) = omega arith in
    let r : c.blocks + (0 + (0 + (0 + 0))) ≡ 0 + (0 + (c.blocks + 0)) = omega arith in
    let s : max c.greatest (max 0 (max 0 (max 0 0))) ≡ max 0 (max 0 (max c.greatest 0)) = omega arith in
    λ i. record { contractions = p i; matches = q i; blocks = r i; greatest = s i }

module _ (P : BoxProgram) (ok : IsBoxProgram P) (full : IsSaturated P) (E : ClosureEnv) where
  -- a saturated main is no constructor that waits for arguments

  enough : {f : FamilyId} {c : ℕ} {t : BoxTerm} {ws : ClosureValues} {n : Counts} (k : ℕ) → RunArgs P E f c t ws n → IsSaturatedAt P.families k t → AreEnough P.families (size ws + k) f c
  enough {f} {c} k run_head s = let z : k ≡ 0 + k = omega arith in subst (λ n. AreEnough P.families n f c) z s
  enough {f} {c} k (run_arg {vs = vs} r q) s = let z : size vs + suc k ≡ suc (size vs) + k = omega arith in subst (λ n. AreEnough P.families n f c) z (enough (suc k) r s.0)

  record Head (f : FamilyId) (c m : ℕ) (ws : ClosureValues) : Type 0 where
    values : ClosureValues
    counts : Counts
    args : RunArgs P E f c P.main values counts
    count : size ws ≡ m + size values

  head : (m i : ℕ) {f : FamilyId} {c : ℕ} {ws : ClosureValues} {n : Counts} → RunArgs P E f c (spine P.main m i) ws n → Head f c m ws
  head zero i {ws = ws} {n = n} r = record { values = ws; counts = n; args = r; count = omega arith }
  head (suc m) i (run_arg r q) = let x = head m (suc i) r in record { values = x.values; counts = x.counts; args = x.args; count = omega (arith, x.count) }

  no_constructor : (m i : ℕ) {f : FamilyId} {c n : ℕ} {F : BoxFamily} {ws : ClosureValues} {k : Counts} → KeepsBoxFamily P f F → slice_get F.args c ≡ Some n → size ws ≡ n →
      RunArgs P E f c (spine P.main (suc m) i) ws k → ⊥
  no_constructor m i {f} {c} {n} {F} {ws} kept at l r =
      let x = head (suc m) i r in
      let e = enough 0 x.args full.main in
      let same = unique_family P ok f e.family F (e.has, e.id) kept in
      let args = same_Some _ _ (sym e.counts ∙ ap (λ (G : BoxFamily). slice_get G.args c) same ∙ at) in
      omega (arith, x.count, e.enough, args, l)

  -- main, applied to one value after the other
  record Applied (vs : ClosureValues) (v : ClosureValue) (c : Counts) : Type 0 where
    value : ClosureValue
    answers : BoxAnswers P vs value c
    narrows : Narrows v value

  -- the last argument
  module _ (g : BoxTerm) (i : ℕ) (rest : ClosureValues) (a : ClosureValue) (before : (v : ClosureValue) (c : Counts) → ClosureRun P E g v c → Applied rest v c) (self : Narrows a a)
      (at : Finds E i (Holds a)) where
    abbrev two : ClosureValue → ClosureEnv
    two v = Bind a (Bind v Empty)

    last : {v : ClosureValue} {c : Counts} → ((f : FamilyId) (k n : ℕ) (F : BoxFamily) (ws : ClosureValues) (d : Counts) → KeepsBoxFamily P f F → slice_get F.args k ≡ Some n → size ws ≡ n →
        RunArgs P E f k (BApp g (Rel i)) ws d → ⊥) → ClosureRun P E (BApp g (Rel i)) v c → Applied (Then a rest) v c
    last none (run_app {e' = e'} {b = b} {v = u} {w = w} {c = c} {c' = c'} {d = d} r s q) =
        let one = runs_are_one P ok E (Rel i) u a c' nothing s (run_value at) in
        let x = before _ c r in
        let z = closure_narrow x.narrows in
        let y = narrowed P (bodies_closed P ok) (subst (λ u. ClosureRun P (Bind u e') b w d) one.0 q) (narrow_bind self z.narrows) z.under in
        let run : ClosureRun P (two x.value) (BApp (Rel 1) (Rel 0)) y.value (contraction ⊕ nothing ⊕ nothing ⊕ d) =
        run_app (subst (λ u. ClosureRun P (two x.value) (Rel 1) u nothing) z.is (run_value (later found))) (run_value found) y.run in
        record {
          value = y.value;
          answers = subst (λ k. BoxAnswers P (Then a rest) y.value k) (app_counts c d ∙ ap (λ k. contraction ⊕ c ⊕ k ⊕ d) (sym one.1)) (box_applied x.answers run);
          narrows = y.narrows;
        }
    last none (run_box_app {v = u} {c = c} {c' = c'} r s) =
        let one = runs_are_one P ok E (Rel i) u a c' nothing s (run_value at) in
        let x = before _ c r in
        let run : ClosureRun P (two x.value) (BApp (Rel 1) (Rel 0)) VBox (contraction ⊕ nothing ⊕ nothing) =
        run_box_app (subst (λ u. ClosureRun P (two x.value) (Rel 1) u nothing) (box_narrow x.narrows) (run_value (later found))) (run_value found) in
        record {
          value = VBox;
          answers = subst (λ k. BoxAnswers P (Then a rest) VBox k) (box_counts c ∙ ap (λ k. contraction ⊕ c ⊕ k) (sym one.1)) (box_applied x.answers run);
          narrows = narrow_box;
        }
    last none (run_fix_app {e' = e'} {b = b} {i = j} {rargs = rargs} {bodies = bodies} {v = u} {w = w} {c = c} {c' = c'} {d = d} r s there q) =
        let one = runs_are_one P ok E (Rel i) u a c' nothing s (run_value at) in
        let x = before _ c r in
        let z = fix_narrow x.narrows in
        let body = closed_term_at _ bodies j (length rargs) _ z.under there in
        let y = narrowed P (bodies_closed P ok) (subst (λ u. ClosureRun P (Bind u (BindFix rargs bodies e')) b w d) one.0 q) (narrow_bind self (narrow_bind_fix z.under z.narrows)) body.0 in
        let run : ClosureRun P (two x.value) (BApp (Rel 1) (Rel 0)) y.value (contraction ⊕ contraction ⊕ nothing ⊕ nothing ⊕ d) =
        run_fix_app (subst (λ u. ClosureRun P (two x.value) (Rel 1) u nothing) z.is (run_value (later found))) (run_value found) there y.run in
        record {
          value = y.value;
          answers = subst (λ k. BoxAnswers P (Then a rest) y.value k) (fix_counts c d ∙ ap (λ k. contraction ⊕ contraction ⊕ c ⊕ k ⊕ d) (sym one.1)) (box_applied x.answers run);
          narrows = y.narrows;
        }
    last none (run_fix_box {v = u} {c = c} {c' = c'} r s there) =
        let one = runs_are_one P ok E (Rel i) u a c' nothing s (run_value at) in
        let x = before _ c r in
        let z = fix_narrow x.narrows in
        let run : ClosureRun P (two x.value) (BApp (Rel 1) (Rel 0)) VBox (contraction ⊕ contraction ⊕ nothing ⊕ nothing) =
        run_fix_box (subst (λ u. ClosureRun P (two x.value) (Rel 1) u nothing) z.is (run_value (later found))) (run_value found) there in
        record {
          value = VBox;
          answers = subst (λ k. BoxAnswers P (Then a rest) VBox k) (fix_box_counts c ∙ ap (λ k. contraction ⊕ contraction ⊕ c ⊕ k) (sym one.1)) (box_applied x.answers run);
          narrows = narrow_box;
        }
    last none (run_construct {f = f} {i = k} {vs = ws} {c = d} {F = F} {n = n} kept there l r) = absurd (none f k n F ws d kept there l r)

  applied : {vs : ClosureValues} {args : List Data} → ValuesHold vs args → (i : ℕ) → ((j : ℕ) (h : Held) → Finds (bind_all vs Empty) j h → Finds E (i + j) h) → {v : ClosureValue} {c : Counts} →
      ClosureRun P E (spine P.main (size vs) i) v c → Applied vs v c
  applied hold_none i look run = let x = narrowed P (bodies_closed P ok) run (narrow_past {e = E}) ok.main.closed in record { value = x.value; answers = box_alone x.run; narrows = x.narrows }
  applied (hold_last {v = a} {vs = rest} hs h) i look run =
      let z : i + 0 ≡ i = omega arith in
      last (spine P.main (size rest) (suc i)) i rest a
      (λ v c r. applied hs (suc i) (λ j g f. let z : i + suc j ≡ suc i + j = omega arith in subst (λ n. Finds E n g) z (look (suc j) g (later f))) r)
      (data_narrow h) (subst (λ n. Finds E n (Holds a)) z (look 0 (Holds a) found))
      (λ f k n F ws d kept there l r. no_constructor (size rest) i kept there l r) run

pub record AnswersApplied (P : BoxProgram) (vs : ClosureValues) (d : Data) (c : Counts) : Type 0 where
  pub value : ClosureValue
  pub answers : BoxAnswers P vs value c
  pub reads : ValueReads value d

pub answers_applied : (P : BoxProgram) → IsBoxProgram P → IsSaturated P → (vs : ClosureValues) (args : List Data) → ValuesHold vs args → (v : ClosureValue) (d : Data) (c : Counts) →
    ClosureRun P (bind_all vs Empty) (box_apply P.main (innermost (length args))) v c → ValueReads v d → AnswersApplied P vs d c
answers_applied P ok full vs args held v d c run reads =
    let E = bind_all vs Empty in
    let n = length args in
    let z : 0 + n ≡ size vs = omega (arith, held_count held) in
    let same : box_apply P.main (innermost n) ≡ spine P.main (size vs) 0 = spine_is P.main 0 n ∙ ap (λ k. spine P.main k 0) z in
    let x = applied P ok full E held 0 (λ j h f. let z : j ≡ 0 + j = omega arith in subst (λ k. Finds E k h) z f) (subst (λ t. ClosureRun P E t v c) same run) in
    record { value = x.value; answers = x.answers; reads = reads_narrow reads x.narrows }
