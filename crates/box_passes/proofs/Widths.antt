-- The words of the greatest block: an invariant of the values of an evaluation with environments.
use Rattle.std.proofs.Common.{◌≡◌, ℕ, zero, suc, ◌+◌, ◌-◌, max, ◌≤◌, Bool, true, false, ◌&&◌, ◌||◌, nat_eq, List, length, Some, refl, sym, ap, ◌∙◌, subst, ⊎_elim, arith}
use Rattle.std.proofs.lemmas.Bool.{cases_lt, ne_eqb, or_from}
use Rattle.std.proofs.lemmas.Option.{same_Some}
use Rattle.std.specs.Prelude.{slice_get}
use Rattle.trees.specs.Tree.{Rel, Done, Next, term_at}
use Rattle.pc_terms.specs.declared.leaf.Name.{Name}
use Rattle.pc_terms.specs.declared.leaf.FamilyId.{FamilyId}
use Rattle.box_terms.specs.BoxSyntax.{BoxTerm, BoxTerms, Box, BLambda, BLetIn, BApp, BConst, BConstruct, BCase, BFix}
use Rattle.lambda_box.specs.BoxProgram.{BoxFamily, BoxProgram, KeepsBoxConstant, KeepsBoxFamily, box_apply}
use Rattle.box_passes.specs.Saturate.{innermost, lambdas}
use Rattle.lambda_box.specs.ClosureEvaluation.{names, names_terms, ClosureValue, VBox, VConstruct, VClosure, VFix, ClosureValues, NoValue, Then, ClosureEnv, Empty, Bind, BindFix, bind_all, box_values, size, ValueReads, value_reads, ValuesRead, no_values, and_then, Held, held_value, Finds, found, later, found_fix, past_fix, one_if, any_below, words}
use Rattle.lambda_box.specs.ClosureEvaluation.{closure_words, Counts, constructor_block, ClosureRun, run_box, run_value, run_definition, run_lambda, run_fix, run_constant, run_let, run_app, run_box_app, run_fix_app, run_fix_box, run_construct, run_match, run_only, RunArgs, run_head}
use Rattle.lambda_box.specs.ClosureEvaluation.{run_arg}
use Rattle.lambda_box.specs.BoxData.{Data}
use Rattle.lambda_box.specs.DataTerms.{ValuesHold, hold_none, hold_last}

-- the number of values in an environment
abbrev pub plain : ClosureEnv → ℕ
plain Empty = 0
plain (Bind v e) = suc (plain e)
plain (BindFix rargs bodies e) = plain e

one_if_small : (b : Bool) → one_if b ≤ 1
one_if_small true = omega arith
one_if_small false = omega arith

pub words_plain : (e : ClosureEnv) (N : ℕ → Bool) → words e N ≤ plain e
words_plain Empty N = omega arith
words_plain (Bind v e) N = omega (arith, one_if_small (N zero), words_plain e (λ i. N (suc i)))
words_plain (BindFix rargs bodies e) N = words_plain e (λ i. N (length rargs + i) || (any_below (length rargs) N && names_terms bodies i))

-- the first variables hold values
pub data PlainFirst : ℕ → ClosureEnv → Type 0 where
  first_none : {e : ClosureEnv} → PlainFirst 0 e
  first_one : {n : ℕ} {v : ClosureValue} {e : ClosureEnv} → PlainFirst n e → PlainFirst (suc n) (Bind v e)

any_none : (n : ℕ) (N : ℕ → Bool) → ((i : ℕ) → N i ≡ false) → any_below n N ≡ false
any_none zero N h = refl
any_none (suc n) N h = ap (λ b. b || any_below n N) (h n) ∙ any_none n N h

pub words_none : (e : ClosureEnv) (N : ℕ → Bool) → ((i : ℕ) → N i ≡ false) → words e N ≡ 0
words_none Empty N h = refl
words_none (Bind v e) N h = let a = words_none e (λ i. N (suc i)) (λ i. h (suc i)) in let b = ap one_if (h zero) in omega (arith, a, b)
words_none (BindFix rargs bodies e) N h =
    words_none e (λ i. N (length rargs + i) || (any_below (length rargs) N && names_terms bodies i))
    (λ i. ap (λ b. b || (any_below (length rargs) N && names_terms bodies i)) (h (length rargs + i)) ∙ ap (λ b. b && names_terms bodies i) (any_none (length rargs) N h))

words_few : {q : ℕ} {e : ClosureEnv} (N : ℕ → Bool) → PlainFirst q e → ((i : ℕ) → q ≤ i → N i ≡ false) → words e N ≤ q
words_few {e = e} N first_none h = let z = words_none e N (λ i. h i (omega arith)) in omega (arith, z)
words_few N (first_one p) h = omega (arith, one_if_small (N zero), words_few (λ i. N (suc i)) p (λ i l. h (suc i) (omega arith)))

-- what a constructor's function names
spine_names : (n : ℕ) (f : BoxTerm) (i : ℕ) → n ≤ i → names f i ≡ false → names (box_apply f (innermost n)) i ≡ false
spine_names zero f i l h = h
spine_names (suc n) f i l h =
    let z : 0 + i ≡ i = omega arith in
    spine_names n (BApp f (Rel n)) i (omega arith)
    (or_from (names f (0 + i)) (nat_eq n (0 + i) || false) (ap (names f) z ∙ h) (or_from (nat_eq n (0 + i)) false (ne_eqb n (0 + i) (λ e. omega (arith, e))) refl))

function_names : (m n : ℕ) (f : FamilyId) (c i : ℕ) → n ≤ m + i → names (lambdas m (box_apply (BConstruct f c) (innermost n))) i ≡ false
function_names zero n f c i l = spine_names n (BConstruct f c) i (omega arith) refl
function_names (suc m) n f c i l =
    or_from (names (lambdas m (box_apply (BConstruct f c) (innermost n))) (1 + i)) false (function_names m n f c (1 + i) (omega arith)) refl

mutual
  -- the term has no place under more than d binders, but in the functions of constructors, which have at most A arguments
  pub data FitsTerm (A : ℕ) : ℕ → BoxTerm → Type 0 where
    fits_rel : {d i : ℕ} → FitsTerm A d (Rel i)
    fits_box : {d : ℕ} → FitsTerm A d Box
    fits_lambda : {d : ℕ} {b : BoxTerm} (e : ℕ) → d ≡ suc e → FitsTerm A e b → FitsTerm A d (BLambda b)
    fits_let : {d : ℕ} {b t : BoxTerm} (e : ℕ) → d ≡ suc e → FitsTerm A d b → FitsTerm A e t → FitsTerm A d (BLetIn b t)
    fits_app : {d : ℕ} {f a : BoxTerm} → FitsTerm A d f → FitsTerm A d a → FitsTerm A d (BApp f a)
    fits_const : {d : ℕ} {k : Name} → FitsTerm A d (BConst k)
    fits_construct : {d : ℕ} {f : FamilyId} {c : ℕ} → FitsTerm A d (BConstruct f c)
    fits_case : {d : ℕ} {f : FamilyId} {s : BoxTerm} {bs : BoxTerms} → FitsTerm A d s → FitsTerms A d bs → FitsTerm A d (BCase f s bs)
    fits_fix : {d i : ℕ} {rargs : List ℕ} {bs : BoxTerms} → FitsTerms A d bs → FitsTerm A d (BFix i rargs bs)
    fits_function : {d : ℕ} {b : BoxTerm} (m n : ℕ) (f : FamilyId) (c : ℕ) → n ≤ A → n ≤ suc m → b ≡ BLambda (lambdas m (box_apply (BConstruct f c) (innermost n))) → FitsTerm A d b

  pub data FitsTerms (A : ℕ) : ℕ → BoxTerms → Type 0 where
    fits_done : {d : ℕ} → FitsTerms A d Done
    fits_next : {d n : ℕ} {t : BoxTerm} {ts : BoxTerms} (e : ℕ) → d ≡ n + e → FitsTerm A e t → FitsTerms A d ts → FitsTerms A d (Next n t ts)

-- so it is under more binders
mutual
  pub fits_more : {A d : ℕ} (k : ℕ) {t : BoxTerm} → FitsTerm A d t → FitsTerm A (d + k) t
  fits_more k fits_rel = fits_rel
  fits_more k fits_box = fits_box
  fits_more k (fits_lambda e eq h) = fits_lambda (e + k) (omega arith) (fits_more k h)
  fits_more k (fits_let e eq h g) = fits_let (e + k) (omega arith) (fits_more k h) (fits_more k g)
  fits_more k (fits_app h g) = fits_app (fits_more k h) (fits_more k g)
  fits_more k fits_const = fits_const
  fits_more k fits_construct = fits_construct
  fits_more k (fits_case h hs) = fits_case (fits_more k h) (all_fit_more k hs)
  fits_more k (fits_fix hs) = fits_fix (all_fit_more k hs)
  fits_more k (fits_function m n f c l le eq) = fits_function m n f c l le eq

  all_fit_more : {A d : ℕ} (k : ℕ) {ts : BoxTerms} → FitsTerms A d ts → FitsTerms A (d + k) ts
  all_fit_more k fits_done = fits_done
  all_fit_more k (fits_next e eq h hs) = fits_next (e + k) (omega arith) (fits_more k h) (all_fit_more k hs)

mutual
  pub data FitsValue (D A : ℕ) : ClosureValue → Type 0 where
    value_box : FitsValue D A VBox
    value_construct : {f : FamilyId} {c : ℕ} {vs : ClosureValues} → FitsValues D A vs → FitsValue D A (VConstruct f c vs)
    value_closure : {e : ClosureEnv} {b : BoxTerm} (d : ℕ) → FitsEnv D A e → FitsTerm A d b → suc (plain e) + d ≤ D → FitsValue D A (VClosure e b)
    value_function : {e : ClosureEnv} {b : BoxTerm} (m n : ℕ) (f : FamilyId) (c : ℕ) → FitsEnv D A e → n ≤ A → PlainFirst (n - suc m) e → b ≡ lambdas m (box_apply (BConstruct f c) (innermost n)) → FitsValue D A (VClosure e b)
    value_fix : {e : ClosureEnv} {i : ℕ} {rargs : List ℕ} {bodies : BoxTerms} (d : ℕ) → FitsEnv D A e → FitsTerms A d bodies → plain e + d ≤ D → FitsValue D A (VFix e i rargs bodies)

  pub data FitsValues (D A : ℕ) : ClosureValues → Type 0 where
    values_none : FitsValues D A NoValue
    values_then : {v : ClosureValue} {vs : ClosureValues} → FitsValue D A v → FitsValues D A vs → FitsValues D A (Then v vs)

  pub data FitsEnv (D A : ℕ) : ClosureEnv → Type 0 where
    env_empty : FitsEnv D A Empty
    env_bind : {v : ClosureValue} {e : ClosureEnv} → FitsValue D A v → FitsEnv D A e → FitsEnv D A (Bind v e)
    env_fix : {e : ClosureEnv} {rargs : List ℕ} {bodies : BoxTerms} (d : ℕ) → FitsEnv D A e → FitsTerms A d bodies → plain e + d ≤ D → FitsEnv D A (BindFix rargs bodies e)

-- values that are data fit
module _ (D A : ℕ) where
  mutual
    data_fits : {v : ClosureValue} {d : Data} → ValueReads v d → FitsValue D A v
    data_fits (value_reads rs) = value_construct (all_data_fit rs)

    all_data_fit : {vs : ClosureValues} {ds : Data} → ValuesRead vs ds → FitsValues D A vs
    all_data_fit no_values = values_none
    all_data_fit (and_then rs r) = values_then (data_fits r) (all_data_fit rs)

  pub held_fit : {vs : ClosureValues} {args : List Data} → ValuesHold vs args → FitsValues D A vs
  held_fit hold_none = values_none
  held_fit (hold_last hs r) = values_then (data_fits r) (held_fit hs)

data Spine : BoxTerm → Type 0 where
  spine_head : {f : FamilyId} {c : ℕ} → Spine (BConstruct f c)
  spine_arg : {t : BoxTerm} {i : ℕ} → Spine t → Spine (BApp t (Rel i))

-- the code that runs in an environment
data Code (D A : ℕ) (e : ClosureEnv) : BoxTerm → Type 0 where
  ordinary : {t : BoxTerm} (d : ℕ) → FitsTerm A d t → plain e + d ≤ D → Code D A e t
  function : {t : BoxTerm} (m n : ℕ) (f : FamilyId) (c : ℕ) → n ≤ A → PlainFirst (n - suc m) e → t ≡ BLambda (lambdas m (box_apply (BConstruct f c) (innermost n))) → Code D A e t
  spine : {t : BoxTerm} → Spine t → Code D A e t
  variable : {i : ℕ} → Code D A e (Rel i)

spine_of : (n : ℕ) (f : BoxTerm) → Spine f → Spine (box_apply f (innermost n))
spine_of zero f h = h
spine_of (suc n) f h = spine_of n (BApp f (Rel n)) (spine_arg h)

module _ (D A : ℕ) where
  fits_finds : {e : ClosureEnv} {i : ℕ} {h : Held} → FitsEnv D A e → Finds e i h → FitsValue D A (held_value h)
  fits_finds env_empty at = elim at [ ]
  fits_finds (env_bind v es) found = v
  fits_finds (env_bind v es) (later at) = fits_finds es at
  fits_finds (env_fix d es bs l) (found_fix j eq) = value_fix d es bs l
  fits_finds (env_fix d es bs l) (past_fix j eq at) = fits_finds es at

  fits_bind_all : {vs : ClosureValues} {e : ClosureEnv} → FitsValues D A vs → FitsEnv D A e → FitsEnv D A (bind_all vs e)
  fits_bind_all values_none h = h
  fits_bind_all (values_then v vs) h = env_bind v (fits_bind_all vs h)

  plain_bind_all : (vs : ClosureValues) (e : ClosureEnv) → plain (bind_all vs e) ≡ size vs + plain e
  plain_bind_all NoValue e = omega arith
  plain_bind_all (Then v vs) e = omega (arith, plain_bind_all vs e)

  fits_boxes : (k : ℕ) → FitsValues D A (box_values k)
  fits_boxes zero = values_none
  fits_boxes (suc k) = values_then value_box (fits_boxes k)

  boxes_size : (k : ℕ) → size (box_values k) ≡ k
  boxes_size zero = refl
  boxes_size (suc k) = ap suc (boxes_size k)

  record FitsAt (d n : ℕ) (t : BoxTerm) : Type 0 where
    e : ℕ
    room : d ≡ n + e
    fits : FitsTerm A e t

  fits_at : {ts : BoxTerms} {d n : ℕ} {t : BoxTerm} (i : ℕ) → FitsTerms A d ts → term_at ts i ≡ Some (n, t) → FitsAt d n t
  fits_at i fits_done e = absurd (cc)
  fits_at {d = d} zero (fits_next {n = m} {t = u} e eq h hs) q = let p = same_Some _ _ q in record { e = e; room = eq ∙ ap (λ x. x.0 + e) p; fits = subst (λ x. FitsTerm A e x.1) p h }
  fits_at (suc i) (fits_next e eq h hs) q = fits_at i hs q

  -- the body of a constructor's function
  function_code : {e : ClosureEnv} {v : ClosureValue} (m n : ℕ) (f : FamilyId) (c : ℕ) → n ≤ A → PlainFirst (n - suc m) e → Code D A (Bind v e) (lambdas m (box_apply (BConstruct f c) (innermost n)))
  function_code zero n f c l p = spine (spine_of n (BConstruct f c) spine_head)
  function_code {e} {v} (suc m) n f c l p = function m n f c l
      (⊎_elim (λ lt. let q : suc (n - suc (suc m)) ≡ n - suc m = omega arith in subst (λ k. PlainFirst k (Bind v e)) q (first_one p)) (λ le. let q : 0 ≡ n - suc m = omega arith in subst (λ k. PlainFirst k (Bind v e)) q first_none) (cases_lt (suc m) n)) refl

  inner : {b d : BoxTerm} → BLambda b ≡ BLambda d → b ≡ d
  inner e = ap body e
    where
      body : BoxTerm → BoxTerm
      body (BLambda b) = b
      body t = t

  -- a lambda is entered
  lambda_code : {e : ClosureEnv} {v : ClosureValue} {b : BoxTerm} (d : ℕ) → FitsTerm A d (BLambda b) → plain e + d ≤ D → Code D A (Bind v e) b
  lambda_code d (fits_lambda e' eq h) l = ordinary e' h (omega arith)
  lambda_code {e} {v} d (fits_function m n f c l le eq) r =
      let z : 0 ≡ n - suc m = omega arith in
      subst (λ b. Code D A (Bind v e) b) (sym (inner eq)) (function_code m n f c l (subst (λ k. PlainFirst k e) z first_none))

  closure_code : {e : ClosureEnv} {v : ClosureValue} {b : BoxTerm} → FitsValue D A (VClosure e b) → Code D A (Bind v e) b × FitsEnv D A e
  closure_code (value_closure d es h l) = (ordinary d h l, es)
  closure_code {e} {v} (value_function m n f c es l p eq) = (subst (λ b. Code D A (Bind v e) b) (sym eq) (function_code m n f c l p), es)

  constructed_values : {f : FamilyId} {c : ℕ} {vs : ClosureValues} → FitsValue D A (VConstruct f c vs) → FitsValues D A vs
  constructed_values (value_construct h) = h

  pub function_words : {e : ClosureEnv} (m n : ℕ) (f : FamilyId) (c : ℕ) → PlainFirst (n - suc m) e → words e (λ i. names (lambdas m (box_apply (BConstruct f c) (innermost n))) (suc i)) ≤ n
  function_words {e} m n f c p =
      let few = words_few (λ i. names (lambdas m (box_apply (BConstruct f c) (innermost n))) (suc i)) p (λ i l. function_names m n f c (suc i) (omega arith)) in
      omega (arith, few)

  abbrev W : ℕ
  W = 4 + D + A

  block_words : (n : ℕ) → n ≤ A → (constructor_block n).greatest ≤ W
  block_words zero l = omega arith
  block_words (suc n) l = omega arith

  record Small (v : ClosureValue) (c : Counts) : Type 0 where
    small : c.greatest ≤ W
    fits : FitsValue D A v

  record SmallArgs (vs : ClosureValues) (c : Counts) : Type 0 where
    small : c.greatest ≤ W
    fits : FitsValues D A vs

  lambda_small : {e : ClosureEnv} {b : BoxTerm} → FitsEnv D A e → Code D A e (BLambda b) → (closure_words e b ≤ W) × FitsValue D A (VClosure e b)
  lambda_small {e = e} {b = b} es (ordinary d (fits_lambda e' eq h) l) = (omega (arith, words_plain e (λ i. names b (suc i))), value_closure e' es h (omega arith))
  lambda_small {e} {b} es (ordinary d (fits_function m n f c l le eq) r) =
      let z : 0 ≡ n - suc m = omega arith in
      lambda_function es m n f c l (subst (λ k. PlainFirst k e) z first_none) (inner eq)
    where
      lambda_function : FitsEnv D A e → (m n : ℕ) (f : FamilyId) (c : ℕ) → n ≤ A → PlainFirst (n - suc m) e → b ≡ lambdas m (box_apply (BConstruct f c) (innermost n)) → (closure_words e b ≤ W) × FitsValue D A (VClosure e b)
      lambda_function es m n f c l p eq = (subst (λ b. closure_words e b ≤ W) (sym eq) (omega (arith, function_words m n f c p)), value_function m n f c es l p eq)
  lambda_small {e} {b} es (function m n f c l p eq) = (subst (λ b. closure_words e b ≤ W) (sym (inner eq)) (omega (arith, function_words m n f c p)), value_function m n f c es l p (inner eq))
  lambda_small es (spine h) = elim h [ ]

  module _ (P : BoxProgram) (constants : (k : Name) (b : BoxTerm) → KeepsBoxConstant P k b → FitsTerm A D b) (few : (f : FamilyId) (F : BoxFamily) (c n : ℕ) → KeepsBoxFamily P f F → slice_get F.args c ≡ Some n → n ≤ A) where
    abbrev Part : ClosureEnv → BoxTerm → Type 0
    Part e t = Code D A e t

    app_parts : {e : ClosureEnv} {f a : BoxTerm} → Code D A e (BApp f a) → Code D A e f × Code D A e a
    app_parts (ordinary d (fits_app h g) l) = (ordinary d h l, ordinary d g l)
    app_parts (ordinary d (fits_function m n f c l le eq) r) = absurd (cc)
    app_parts (function m n f c l p eq) = absurd (cc)
    app_parts (spine (spine_arg h)) = (spine h, variable)

    -- the parts of terms that no function of a constructor is
    record LetParts (e : ClosureEnv) (b t : BoxTerm) : Type 0 where
      first : Code D A e b
      second : (v : ClosureValue) → Code D A (Bind v e) t

    let_parts : {e : ClosureEnv} {b t : BoxTerm} → Code D A e (BLetIn b t) → LetParts e b t
    let_parts (ordinary d (fits_let e' eq h g) l) = record { first = ordinary d h l; second = λ v. ordinary e' g (omega arith) }
    let_parts (ordinary d (fits_function m n f c l le eq) r) = absurd (cc)
    let_parts (function m n f c l p eq) = absurd (cc)
    let_parts (spine h) = elim h [ ]

    record CaseParts (e : ClosureEnv) (s : BoxTerm) (bs : BoxTerms) : Type 0 where
      scrutinee : Code D A e s
      d : ℕ
      branches : FitsTerms A d bs
      room : plain e + d ≤ D

    case_parts : {e : ClosureEnv} {f : FamilyId} {s : BoxTerm} {bs : BoxTerms} → Code D A e (BCase f s bs) → CaseParts e s bs
    case_parts (ordinary d (fits_case h hs) l) = record { scrutinee = ordinary d h l; d = d; branches = hs; room = l }
    case_parts (ordinary d (fits_function m n f c l le eq) r) = absurd (cc)
    case_parts (function m n f c l p eq) = absurd (cc)
    case_parts (spine h) = elim h [ ]

    branch_code : (e : ClosureEnv) {bs : BoxTerms} {t : BoxTerm} (d i : ℕ) (vs : ClosureValues) → FitsTerms A d bs → plain e + d ≤ D → term_at bs i ≡ Some (size vs, t) → Code D A (bind_all vs e) t
    branch_code e d i vs hs l at = let b = fits_at i hs at in ordinary b.e b.fits (omega (arith, b.room, plain_bind_all vs e))

    record FixParts (e : ClosureEnv) (bs : BoxTerms) : Type 0 where
      d : ℕ
      bodies : FitsTerms A d bs
      room : plain e + d ≤ D

    fix_parts : {e : ClosureEnv} {i : ℕ} {rargs : List ℕ} {bs : BoxTerms} → Code D A e (BFix i rargs bs) → FixParts e bs
    fix_parts (ordinary d (fits_fix hs) l) = record { d = d; bodies = hs; room = l }
    fix_parts (ordinary d (fits_function m n f c l le eq) r) = absurd (cc)
    fix_parts (function m n f c l p eq) = absurd (cc)
    fix_parts (spine h) = elim h [ ]

    fix_value_parts : {e : ClosureEnv} {i : ℕ} {rargs : List ℕ} {bs : BoxTerms} → FitsValue D A (VFix e i rargs bs) → FitsEnv D A e × FixParts e bs
    fix_value_parts (value_fix d es hs l) = (es, record { d = d; bodies = hs; room = l })

    fix_code : {e : ClosureEnv} {v : ClosureValue} {rargs : List ℕ} {bs : BoxTerms} {b : BoxTerm} (i : ℕ) → FixParts e bs → term_at bs i ≡ Some (length rargs, BLambda b) → Code D A (Bind v (BindFix rargs bs e)) b
    fix_code {e} {v} {rargs} {bs} {b} i p at = let r = fits_at i p.bodies at in lambda_code {e = BindFix rargs bs e} r.e r.fits (omega (arith, r.room, p.room))

    constructor_small : (n : ℕ) (c : Counts) → c.greatest ≤ W → n ≤ A → max c.greatest (constructor_block n).greatest ≤ W
    constructor_small n c h l = omega (arith, block_words n l)

    mutual
      run_small : {e : ClosureEnv} {t : BoxTerm} {v : ClosureValue} {c : Counts} → ClosureRun P e t v c → FitsEnv D A e → Code D A e t → Small v c
      run_small run_box es h = record { small = omega arith; fits = value_box }
      run_small (run_value at) es h = record { small = omega arith; fits = fits_finds es at }
      run_small (run_definition {e' = e'} {bodies = bodies} at) es h =
          let v = fits_finds es at in
          let p = fix_value_parts v in
          record { small = omega (arith, words_plain e' (λ i. names_terms bodies i), p.1.room); fits = v }
      run_small (run_lambda {b = b}) es h = let r = lambda_small es h in record { small = r.0; fits = r.1 }
      run_small (run_fix {e = e} {bodies = bodies}) es h = let p = fix_parts h in record { small = omega (arith, words_plain e (λ i. names_terms bodies i), p.room); fits = value_fix p.d es p.bodies p.room }
      run_small (run_constant {k = k} {b = b} at r) es h = let s = run_small r env_empty (ordinary D (constants k b at) (omega arith)) in record { small = omega (arith, s.small); fits = s.fits }
      run_small (run_let r1 r2) es h =
          let p = let_parts h in
          let s1 = run_small r1 es p.first in
          let s2 = run_small r2 (env_bind s1.fits es) (p.second _) in
          record { small = omega (arith, s1.small, s2.small); fits = s2.fits }
      run_small (run_app r1 r2 r3) es h =
          let p = app_parts h in
          let s1 = run_small r1 es p.0 in
          let s2 = run_small r2 es p.1 in
          let c = closure_code s1.fits in
          let s3 = run_small r3 (env_bind s2.fits c.1) c.0 in
          record { small = omega (arith, s1.small, s2.small, s3.small); fits = s3.fits }
      run_small (run_box_app r1 r2) es h =
          let p = app_parts h in
          let s1 = run_small r1 es p.0 in
          let s2 = run_small r2 es p.1 in
          record { small = omega (arith, s1.small, s2.small); fits = value_box }
      run_small (run_fix_app {i = i} r1 r2 at r3) es h =
          let p = app_parts h in
          let s1 = run_small r1 es p.0 in
          let s2 = run_small r2 es p.1 in
          let q = fix_value_parts s1.fits in
          let s3 = run_small r3 (env_bind s2.fits (env_fix q.1.d q.0 q.1.bodies q.1.room)) (fix_code i q.1 at) in
          record { small = omega (arith, s1.small, s2.small, s3.small); fits = s3.fits }
      run_small (run_fix_box r1 r2 at) es h =
          let p = app_parts h in
          let s1 = run_small r1 es p.0 in
          let s2 = run_small r2 es p.1 in
          record { small = omega (arith, s1.small, s2.small); fits = value_box }
      run_small (run_construct {f = f} {i = i} {c = c} {F = F} {n = n} keeps at l r) es h =
          let s = args_small r es h in
          record { small = constructor_small n c s.small (few f F i n keeps at); fits = value_construct s.fits }
      run_small (run_match {i = i} {vs = vs} keeps p r1 at r2) es h =
          let q = case_parts h in
          let s1 = run_small r1 es q.scrutinee in
          let vs' = constructed_values s1.fits in
          let s2 = run_small r2 (fits_bind_all vs' es) (branch_code _ q.d i vs q.branches q.room at) in
          record { small = omega (arith, s1.small, s2.small); fits = s2.fits }
      run_small (run_only {k = k} {t = t} keeps p r1 r2) es h =
          let q = case_parts h in
          let s1 = run_small r1 es q.scrutinee in
          let s2 = run_small r2 (fits_bind_all (fits_boxes k) es) (branch_code _ q.d 0 (box_values k) q.branches q.room (ap (λ n. Some (n, t)) (sym (boxes_size k)))) in
          record { small = omega (arith, s1.small, s2.small); fits = s2.fits }

      args_small : {e : ClosureEnv} {f : FamilyId} {i : ℕ} {t : BoxTerm} {vs : ClosureValues} {c : Counts} → RunArgs P e f i t vs c → FitsEnv D A e → Code D A e t → SmallArgs vs c
      args_small run_head es h = record { small = omega arith; fits = values_none }
      args_small (run_arg r1 r2) es h =
          let p = app_parts h in
          let s1 = args_small r1 es p.0 in
          let s2 = run_small r2 es p.1 in
          record { small = omega (arith, s1.small, s2.small); fits = values_then s2.fits s1.fits }

    -- the words of a run in an environment of values alone, and of one in the empty environment
    pub called_small : {vs : ClosureValues} {t : BoxTerm} {v : ClosureValue} {c : Counts} → ClosureRun P (bind_all vs Empty) t v c → FitsValues D A vs → (d : ℕ) → FitsTerm A d t → size vs + d ≤ D → c.greatest ≤ 4 + D + A
    called_small {vs = vs} r hs d h le = let s = run_small r (fits_bind_all hs env_empty) (ordinary d h (omega (arith, plain_bind_all vs Empty, le))) in s.small

    pub main_small : {t : BoxTerm} {v : ClosureValue} {c : Counts} → ClosureRun P Empty t v c → FitsTerm A D t → c.greatest ≤ 4 + D + A
    main_small r h = let s = run_small r env_empty (ordinary D h (omega arith)) in s.small
