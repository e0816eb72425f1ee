-- A term without variables stands for a saturated term in an environment: the relation between evaluation by substitution and evaluation with
-- environments and closures.
use Rattle.std.proofs.Common.{◌≡◌, ℕ, suc, ◌+◌, ◌<◌, ◌≤◌, List, [], ◌∷◌, length, Some, sym, ap, ◌∙◌, subst, arith}
use Rattle.std.specs.Prelude.{slice_get}
use Rattle.trees.specs.Tree.{Rel, Done, Next, term_at}
use Rattle.trees.specs.Closed.{Closed, ClosedTerms}
use Rattle.trees.specs.Parallel.{rename, overs, substitute, substitute_terms, shift}
use Rattle.trees.proofs.Fusion.{substitute_rel}
use Rattle.trees.proofs.Closed.{loose-least, loose-closed}
use Rattle.trees.proofs.Cutoffs.{Order, order, below, past, overs_below, overs_past}
use Rattle.trees.proofs.Put.{substitute_whole}
use Rattle.trees.proofs.Bounds.{Fits, substitute-closed}
use Rattle.pc_terms.specs.declared.leaf.Name.{Name}
use Rattle.pc_terms.specs.declared.leaf.FamilyId.{FamilyId}
use Rattle.box_terms.specs.BoxSyntax.{BoxTerm, BoxTerms, Box, BLambda, BLetIn, BApp, BConst, BConstruct, BCase, BFix}
use Rattle.lambda_box.specs.BoxProgram.{BoxFamily, BoxProgram, KeepsBoxFamily, box_apply}
use Rattle.box_passes.specs.Saturate.{innermost, lambdas, constructor_function}
use Rattle.lambda_box.specs.ClosureEvaluation.{ClosureValue, VBox, VConstruct, VClosure, VFix, ClosureValues, NoValue, Then, ClosureEnv, Bind, BindFix, Held, held_value, Finds}

mutual
  -- the closed term is this value
  pub data IsValue (P : BoxProgram) : BoxTerm → ClosureValue → Type 0 where
    is_box : IsValue P Box VBox
    is_lambda : {e : ClosureEnv} {t b : BoxTerm} → Stands P 1 e t b → IsValue P (BLambda t) (VClosure e b)
    is_fix : {e : ClosureEnv} {i : ℕ} {rargs : List ℕ} {ts bs : BoxTerms} → StandDefs P (length rargs) rargs 0 e ts bs → i < length rargs → IsValue P (BFix i rargs ts) (VFix e i rargs bs)
    is_part : {n : ℕ} {e : ClosureEnv} {t b : BoxTerm} → Part P n t e (BLambda b) → IsValue P t (VClosure e b)
    is_part_box : {n : ℕ} {e : ClosureEnv} {t : BoxTerm} → Part P n t e Box → IsValue P t VBox
    is_construct : {f : FamilyId} {c n : ℕ} {F : BoxFamily} {t : BoxTerm} {vs : ClosureValues} → KeepsBoxFamily P f F → slice_get F.args c ≡ Some n → Made P f c F.params (F.params + n) t vs → IsValue P t (VConstruct f c vs)
    is_waiting : {f : FamilyId} {c n m : ℕ} {F : BoxFamily} {t : BoxTerm} {e : ClosureEnv} → KeepsBoxFamily P f F → slice_get F.args c ≡ Some n → Waits P f c (F.params + n) (suc m) t e →
        IsValue P t (VClosure e (lambdas m (box_apply (BConstruct f c) (innermost n))))

  -- the term is the other under k binders, where the variables outside have their values put in
  pub data Stands (P : BoxProgram) : ℕ → ClosureEnv → BoxTerm → BoxTerm → Type 0 where
    bound : {k : ℕ} {e : ClosureEnv} {i : ℕ} → i < k → Stands P k e (Rel i) (Rel i)
    held : {k : ℕ} {e : ClosureEnv} {j : ℕ} {t : BoxTerm} {h : Held} (i : ℕ) → j ≡ k + i → Finds e i h → IsValue P t (held_value h) → Stands P k e t (Rel j)
    box : {k : ℕ} {e : ClosureEnv} → Stands P k e Box Box
    lambda : {k : ℕ} {e : ClosureEnv} {t b : BoxTerm} → Stands P (1 + k) e t b → Stands P k e (BLambda t) (BLambda b)
    let_in : {k : ℕ} {e : ClosureEnv} {t u b d : BoxTerm} → Stands P (0 + k) e t b → Stands P (1 + k) e u d → Stands P k e (BLetIn t u) (BLetIn b d)
    app : {k : ℕ} {e : ClosureEnv} {t u b d : BoxTerm} → Stands P (0 + k) e t b → Stands P (0 + k) e u d → Stands P k e (BApp t u) (BApp b d)
    constant : {k : ℕ} {e : ClosureEnv} {x : Name} → Stands P k e (BConst x) (BConst x)
    case : {k : ℕ} {e : ClosureEnv} {f : FamilyId} {s d : BoxTerm} {ts bs : BoxTerms} → Stands P (0 + k) e s d → StandTerms P k e ts bs → Stands P k e (BCase f s ts) (BCase f d bs)
    fix : {k : ℕ} {e : ClosureEnv} {i : ℕ} {rargs : List ℕ} {ts bs : BoxTerms} → StandDefs P (length rargs) rargs k e ts bs → i < length rargs → Stands P k e (BFix i rargs ts) (BFix i rargs bs)
    full : {k : ℕ} {e : ClosureEnv} {f : FamilyId} {c n j : ℕ} {F : BoxFamily} {t b : BoxTerm} → KeepsBoxFamily P f F → slice_get F.args c ≡ Some n → j ≡ F.params + n → StandArgs P k e f c F.params j t b → Stands P k e t b
    alone : {k : ℕ} {e : ClosureEnv} {f : FamilyId} {c n : ℕ} {F : BoxFamily} {b : BoxTerm} → KeepsBoxFamily P f F → slice_get F.args c ≡ Some n → 0 < F.params + n → b ≡ constructor_function F.params n f c → Stands P k e (BConstruct f c) b

  pub data StandTerms (P : BoxProgram) : ℕ → ClosureEnv → BoxTerms → BoxTerms → Type 0 where
    none : {k : ℕ} {e : ClosureEnv} → StandTerms P k e Done Done
    next : {k : ℕ} {e : ClosureEnv} {n : ℕ} {t b : BoxTerm} {ts bs : BoxTerms} → Stands P (n + k) e t b → StandTerms P k e ts bs → StandTerms P k e (Next n t ts) (Next n b bs)

  -- a definition of a fixpoint with recursive argument r, lambda by lambda
  pub data StandBody (P : BoxProgram) : ℕ → ℕ → ClosureEnv → BoxTerm → BoxTerm → Type 0 where
    body_boxed : {r k : ℕ} {e : ClosureEnv} → StandBody P r k e Box Box
    body_last : {k : ℕ} {e : ClosureEnv} {t b : BoxTerm} → Stands P (1 + k) e t b → StandBody P 0 k e (BLambda t) (BLambda b)
    body_more : {r k : ℕ} {e : ClosureEnv} {t b : BoxTerm} → StandBody P r (1 + k) e t b → StandBody P (suc r) k e (BLambda t) (BLambda b)

  pub data StandDefs (P : BoxProgram) : ℕ → List ℕ → ℕ → ClosureEnv → BoxTerms → BoxTerms → Type 0 where
    no_defs : {n k : ℕ} {e : ClosureEnv} → StandDefs P n [] k e Done Done
    one_def : {n r k : ℕ} {rs : List ℕ} {e : ClosureEnv} {t b : BoxTerm} {ts bs : BoxTerms} → StandBody P r (n + k) e t b → StandDefs P n rs k e ts bs → StandDefs P n (r ∷ rs) k e (Next n t ts) (Next n b bs)

  -- a constructor with p parameters, which has j of its parameters and arguments; the parameters are dropped
  pub data StandArgs (P : BoxProgram) : ℕ → ClosureEnv → FamilyId → ℕ → ℕ → ℕ → BoxTerm → BoxTerm → Type 0 where
    args_head : {k : ℕ} {e : ClosureEnv} {f : FamilyId} {c p : ℕ} → StandArgs P k e f c p 0 (BConstruct f c) (BConstruct f c)
    args_dropped : {k : ℕ} {e : ClosureEnv} {f : FamilyId} {c p j : ℕ} {t u b : BoxTerm} → j < p → Closed (0 + k) u → StandArgs P (0 + k) e f c p j t b → StandArgs P k e f c p (suc j) (BApp t u) b
    args_kept : {k : ℕ} {e : ClosureEnv} {f : FamilyId} {c p j : ℕ} {t u b d : BoxTerm} → p ≤ j → StandArgs P (0 + k) e f c p j t b → Stands P (0 + k) e u d → StandArgs P k e f c p (suc j) (BApp t u) (BApp b d)

  -- the same of values
  pub data Made (P : BoxProgram) : FamilyId → ℕ → ℕ → ℕ → BoxTerm → ClosureValues → Type 0 where
    made_head : {f : FamilyId} {c p : ℕ} → Made P f c p 0 (BConstruct f c) NoValue
    made_dropped : {f : FamilyId} {c p j : ℕ} {t u : BoxTerm} {vs : ClosureValues} → j < p → Closed 0 u → Made P f c p j t vs → Made P f c p (suc j) (BApp t u) vs
    made_kept : {f : FamilyId} {c p j : ℕ} {t u : BoxTerm} {vs : ClosureValues} {v : ClosureValue} → p ≤ j → Made P f c p j t vs → IsValue P u v → Made P f c p (suc j) (BApp t u) (Then v vs)

  -- a constructor of all parameters and arguments together, which waits for m of them, in this environment
  pub data Waits (P : BoxProgram) : FamilyId → ℕ → ℕ → ℕ → BoxTerm → ClosureEnv → Type 0 where
    waits_head : {f : FamilyId} {c all m : ℕ} {e : ClosureEnv} → m ≡ all → Waits P f c all m (BConstruct f c) e
    waits_more : {f : FamilyId} {c all m : ℕ} {t u : BoxTerm} {e : ClosureEnv} {v : ClosureValue} → Waits P f c all (suc m) t e → IsValue P u v → Waits P f c all m (BApp t u) (Bind v e)

  -- a fixpoint with some values, which waits for n values before the last, is this body in this environment
  pub data Part (P : BoxProgram) : ℕ → BoxTerm → ClosureEnv → BoxTerm → Type 0 where
    part_fix : {e : ClosureEnv} {i k : ℕ} {rargs : List ℕ} {ts bs : BoxTerms} {b : BoxTerm} → StandDefs P (length rargs) rargs 0 e ts bs → slice_get rargs i ≡ Some k →
        term_at bs i ≡ Some (length rargs, b) → Part P k (BFix i rargs ts) (BindFix rargs bs e) b
    part_app : {n : ℕ} {t u b : BoxTerm} {e : ClosureEnv} {v : ClosureValue} → Part P (suc n) t e (BLambda b) → IsValue P u v → Part P n (BApp t u) (Bind v e) b
    part_box : {n : ℕ} {t u : BoxTerm} {e : ClosureEnv} {v : ClosureValue} → Part P (suc n) t e Box → IsValue P u v → Part P n (BApp t u) e Box

pub closed_more : (j k : ℕ) (t : BoxTerm) → j ≤ k → Closed j t → Closed k t
closed_more j k t l h = loose-closed k t (omega (arith, loose-least j t h))

mutual
  pub closed_value : {P : BoxProgram} {t : BoxTerm} {v : ClosureValue} → IsValue P t v → Closed 0 t
  closed_value is_box = tt
  closed_value (is_lambda h) = (closed_stands h, tt)
  closed_value (is_fix h l) = (closed_defs h, tt)
  closed_value (is_part h) = closed_part h
  closed_value (is_part_box h) = closed_part h
  closed_value (is_construct k at h) = closed_made h
  closed_value (is_waiting k at h) = closed_waits h

  pub closed_stands : {P : BoxProgram} {k : ℕ} {e : ClosureEnv} {t b : BoxTerm} → Stands P k e t b → Closed k t
  closed_stands (bound l) = l
  closed_stands {k = k} {t = t} (held i eq at h) = closed_more 0 k t (omega arith) (closed_value h)
  closed_stands box = tt
  closed_stands (lambda h) = (closed_stands h, tt)
  closed_stands (let_in h g) = (closed_stands h, (closed_stands g, tt))
  closed_stands (app h g) = (closed_stands h, (closed_stands g, tt))
  closed_stands constant = tt
  closed_stands (case h hs) = (closed_stands h, (closed_terms hs, tt))
  closed_stands (fix hs l) = (closed_defs hs, tt)
  closed_stands (full k at eq h) = closed_args h
  closed_stands (alone k at l eq) = tt

  pub closed_terms : {P : BoxProgram} {k : ℕ} {e : ClosureEnv} {ts bs : BoxTerms} → StandTerms P k e ts bs → ClosedTerms k ts
  closed_terms none = tt
  closed_terms (next h hs) = (closed_stands h, closed_terms hs)

  pub closed_body : {P : BoxProgram} {r k : ℕ} {e : ClosureEnv} {t b : BoxTerm} → StandBody P r k e t b → Closed k t
  closed_body body_boxed = tt
  closed_body (body_last h) = (closed_stands h, tt)
  closed_body (body_more h) = (closed_body h, tt)

  pub closed_defs : {P : BoxProgram} {n k : ℕ} {rs : List ℕ} {e : ClosureEnv} {ts bs : BoxTerms} → StandDefs P n rs k e ts bs → ClosedTerms k ts
  closed_defs no_defs = tt
  closed_defs (one_def h hs) = (closed_body h, closed_defs hs)

  pub closed_args : {P : BoxProgram} {k : ℕ} {e : ClosureEnv} {f : FamilyId} {c p j : ℕ} {t b : BoxTerm} → StandArgs P k e f c p j t b → Closed k t
  closed_args args_head = tt
  closed_args (args_dropped l c h) = (closed_args h, (c, tt))
  closed_args (args_kept l h g) = (closed_args h, (closed_stands g, tt))

  pub closed_made : {P : BoxProgram} {f : FamilyId} {c p j : ℕ} {t : BoxTerm} {vs : ClosureValues} → Made P f c p j t vs → Closed 0 t
  closed_made made_head = tt
  closed_made (made_dropped l c h) = (closed_made h, (c, tt))
  closed_made (made_kept l h g) = (closed_made h, (closed_value g, tt))

  pub closed_waits : {P : BoxProgram} {f : FamilyId} {c all m : ℕ} {t : BoxTerm} {e : ClosureEnv} → Waits P f c all m t e → Closed 0 t
  closed_waits (waits_head eq) = tt
  closed_waits (waits_more h g) = (closed_waits h, (closed_value g, tt))

  pub closed_part : {P : BoxProgram} {n : ℕ} {t b : BoxTerm} {e : ClosureEnv} → Part P n t e b → Closed 0 t
  closed_part (part_fix h eq at) = (closed_defs h, tt)
  closed_part (part_app h g) = (closed_part h, (closed_value g, tt))
  closed_part (part_box h g) = (closed_part h, (closed_value g, tt))

pub rename_whole : (t : BoxTerm) (r : ℕ → ℕ) → Closed 0 t → rename r t ≡ t
rename_whole t r c = sym (substitute_rel t r) ∙ substitute_whole t (λ j. Rel (r j)) c

-- what the environment holds, the other holds past m more variables
abbrev pub Extends : ClosureEnv → ClosureEnv → ℕ → Type 0
Extends e e' m = (i : ℕ) (h : Held) → Finds e i h → Finds e' (m + i) h

-- variable i holds what the term is
pub record Filled (P : BoxProgram) (e : ClosureEnv) (i : ℕ) (t : BoxTerm) : Type 0 where
  pub h : Held
  pub at : Finds e i h
  pub is : IsValue P t (held_value h)

-- k variables are kept, and the terms for the next m are what the environment's first m variables hold
pub record Fills (P : BoxProgram) (e : ClosureEnv) (k m : ℕ) (s : ℕ → BoxTerm) : Type 0 where
  pub keeps : (i : ℕ) → i < k → s i ≡ Rel i
  pub fills : (i : ℕ) → i < m → Filled P e i (s (k + i))

overs_fills : {P : BoxProgram} {e : ClosureEnv} {k m : ℕ} {s : ℕ → BoxTerm} (n : ℕ) → Fills P e k m s → Fills P e (n + k) m (overs n s)
overs_fills {P} {e} {k} {m} {s} n f = record { keeps = λ i l. kept i l (order n i); fills = filled }
  where
    kept : (i : ℕ) → i < n + k → Order n i → overs n s i ≡ Rel i
    kept i l (below b) = overs_below n s i b
    kept i l (past j e) = ap (overs n s) e ∙ overs_past n s j ∙ ap (shift n 0) (f.keeps j (omega arith)) ∙ ap Rel (sym e)

    filled : (i : ℕ) → i < m → Filled P e i (overs n s ((n + k) + i))
    filled i l =
        let g = f.fills i l in
        let same : n + k + i ≡ n + (k + i) = omega arith in
        let e' = ap (overs n s) same ∙ overs_past n s (k + i) ∙ rename_whole (s (k + i)) (λ j. n + j) (closed_value g.is) in
        subst (λ t. Filled P e i t) (sym e') g

fits : {P : BoxProgram} {e : ClosureEnv} {k m K : ℕ} {s : ℕ → BoxTerm} → K ≡ k + m → Fills P e k m s → Fits s K k
fits {k = k} {m = m} {K = K} {s = s} eq f i l = go (order k i)
  where
    go : Order k i → Closed k (s i)
    go (below b) = subst (λ t. Closed k t) (sym (f.keeps i b)) b
    go (past j e) = let g = f.fills j (omega arith) in subst (λ n. Closed k (s n)) (sym e) (closed_more 0 k (s (k + j)) (omega arith) (closed_value g.is))

module _ (P : BoxProgram) (e e' : ClosureEnv) (m : ℕ) (ext : Extends e e' m) where
  bound_put : (K k i : ℕ) (s : ℕ → BoxTerm) → K ≡ k + m → Fills P e' k m s → i < K → Order k i → Stands P k e' (s i) (Rel i)
  bound_put K k i s eq f l (below b) = subst (λ t. Stands P k e' t (Rel i)) (sym (f.keeps i b)) (bound b)
  bound_put K k i s eq f l (past j p) = let g = f.fills j (omega arith) in subst (λ n. Stands P k e' (s n) (Rel i)) (sym p) (held j p g.at g.is)

  mutual
    -- more values, put in
    pub stands_put : {t b : BoxTerm} (K k : ℕ) (s : ℕ → BoxTerm) → K ≡ k + m → Fills P e' k m s → Stands P K e t b → Stands P k e' (substitute s t) b
    stands_put K k s eq f (bound {i = i} l) = bound_put K k i s eq f l (order k i)
    stands_put K k s eq f (held {j = j} {t = t} {h = h} i p at g) = subst (λ u. Stands P k e' u (Rel j)) (sym (substitute_whole t s (closed_value g))) (held (m + i) (omega arith) (ext i h at) g)
    stands_put K k s eq f box = box
    stands_put K k s eq f (lambda h) = lambda (stands_put (1 + K) (1 + k) (overs 1 s) (omega arith) (overs_fills 1 f) h)
    stands_put K k s eq f (let_in h g) = let_in (stands_put (0 + K) (0 + k) s (omega arith) (overs_fills 0 f) h) (stands_put (1 + K) (1 + k) (overs 1 s) (omega arith) (overs_fills 1 f) g)
    stands_put K k s eq f (app h g) = app (stands_put (0 + K) (0 + k) s (omega arith) (overs_fills 0 f) h) (stands_put (0 + K) (0 + k) s (omega arith) (overs_fills 0 f) g)
    stands_put K k s eq f constant = constant
    stands_put K k s eq f (case h hs) = case (stands_put (0 + K) (0 + k) s (omega arith) (overs_fills 0 f) h) (stands_put_terms K k s eq f hs)
    stands_put K k s eq f (fix hs l) = fix (stands_put_defs _ K k s eq f hs) l
    stands_put K k s eq f (full F at z h) = full F at z (stands_put_args K k s eq f h)
    stands_put K k s eq f (alone F at l is) = alone F at l is

    pub stands_put_terms : {ts bs : BoxTerms} (K k : ℕ) (s : ℕ → BoxTerm) → K ≡ k + m → Fills P e' k m s → StandTerms P K e ts bs → StandTerms P k e' (substitute_terms s ts) bs
    stands_put_terms K k s eq f none = none
    stands_put_terms K k s eq f (next {n = n} h hs) = next (stands_put (n + K) (n + k) (overs n s) (omega arith) (overs_fills n f) h) (stands_put_terms K k s eq f hs)

    pub stands_put_body : {r : ℕ} {t b : BoxTerm} (K k : ℕ) (s : ℕ → BoxTerm) → K ≡ k + m → Fills P e' k m s → StandBody P r K e t b → StandBody P r k e' (substitute s t) b
    stands_put_body K k s eq f body_boxed = body_boxed
    stands_put_body K k s eq f (body_last h) = body_last (stands_put (1 + K) (1 + k) (overs 1 s) (omega arith) (overs_fills 1 f) h)
    stands_put_body K k s eq f (body_more h) = body_more (stands_put_body (1 + K) (1 + k) (overs 1 s) (omega arith) (overs_fills 1 f) h)

    pub stands_put_defs : {rs : List ℕ} {ts bs : BoxTerms} (n K k : ℕ) (s : ℕ → BoxTerm) → K ≡ k + m → Fills P e' k m s → StandDefs P n rs K e ts bs → StandDefs P n rs k e' (substitute_terms s ts) bs
    stands_put_defs n K k s eq f no_defs = no_defs
    stands_put_defs n K k s eq f (one_def h hs) = one_def (stands_put_body (n + K) (n + k) (overs n s) (omega arith) (overs_fills n f) h) (stands_put_defs n K k s eq f hs)

    pub stands_put_args : {g : FamilyId} {c p j : ℕ} {t b : BoxTerm} (K k : ℕ) (s : ℕ → BoxTerm) → K ≡ k + m → Fills P e' k m s → StandArgs P K e g c p j t b → StandArgs P k e' g c p j (substitute s t) b
    stands_put_args K k s eq f args_head = args_head
    stands_put_args K k s eq f (args_dropped {u = u} l c h) =
        args_dropped l (substitute-closed u s (0 + K) (0 + k) (fits (omega arith) (overs_fills 0 f)) c) (stands_put_args (0 + K) (0 + k) s (omega arith) (overs_fills 0 f) h)
    stands_put_args K k s eq f (args_kept l h g) =
        args_kept l (stands_put_args (0 + K) (0 + k) s (omega arith) (overs_fills 0 f) h) (stands_put (0 + K) (0 + k) s (omega arith) (overs_fills 0 f) g)
