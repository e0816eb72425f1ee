-- A program that is erased from the source is of the form of box programs.
use Rattle.std.proofs.Common.{◌≢◌, ℕ, zero, suc, ◌<◌, ◌+◌, List, [], ◌∷◌, length, get_or, Option, Some, All, AllPairs, refl, sym, arith}
use Rattle.std.proofs.lemmas.List.Kept.{AllPairs-cons}
use Rattle.universe_levels.specs.declared.constraint.Constraint.{Constraint}
use Rattle.trees.specs.Closed.{Every, EveryTerm}
use Rattle.pc_terms.specs.declared.leaf.Name.{Name}
use Rattle.pc_terms.specs.declared.leaf.FamilyId.{FamilyId}
use Rattle.pc_terms.specs.Syntax.{Label, ConstOf, Term, Terms, terms_of}
use Rattle.box_terms.specs.BoxSyntax.{BoxLabel, BoxOf, BLambdaOf, BLetInOf, BAppOf, BConstOf, BConstructOf, BCaseOf, BFixOf, BoxTerm, BoxTerms}
use Rattle.calculus_rules.specs.declared.declaration.Constructor.{Constructor}
use Rattle.calculus_rules.specs.declared.declaration.Kept.{Kept}
use Rattle.calculus_rules.specs.declared.declaration.Kept.TheVariants.{Constant}
use Rattle.calculus_rules.specs.Environment.{Env}
use Rattle.calculus_rules.specs.Context.{Context}
use Rattle.calculus_rules.specs.Typing.{Mode, bare, Types, rel, sort, prod, lambda, let_in, app, const, ind, construct, case, fix, conv, TypesAll, no_terms, term, Branches, no_branches, branch, Sorts, no_types, a_type, Bodies, no_bodies, a_body}
use Rattle.calculus_rules.specs.Accepted.{Accepted, empty, constant, block, IsFresh, env}
use Rattle.calculus_rules.proofs.Bare.{bare_types}
use Rattle.calculus_rules.proofs.OneEach.{one_of_each}
use Rattle.lambda_box.specs.BoxProgram.{BoxConstant, BoxFamily, Has, here, there, NamesKept, NamesOnly}
use Rattle.lambda_box.specs.BoxForm.{IsBoxBody, AreOrdered}
use Rattle.trees.proofs.Every.{every_more, every_before, every_both}
use Rattle.erase_laws.specs.Erases.{Erases, box, Erases.rel, Erases.lambda, Erases.let_in, Erases.app, Erases.const, Erases.construct, Erases.case, Erases.fix, ErasesBranches, ErasesBranches.no_branches, ErasesBranches.branch, ErasesBodies, ErasesBodies.no_bodies, body}
use Rattle.erase_laws.specs.ErasedProgram.{AreErased, none_erased, not_reached, reached}
use Rattle.erase_laws.specs.Laws.{ErasedProgramsHaveForm, ErasedProgramsKeepValues}
use Rattle.typing_laws.proofs.Declarations.{one_more, extends_types}
use Rattle.typing_laws.proofs.AcceptedClosed.{accepted_closed}
use Rattle.erase_laws.proofs.ErasedData.{values_are_kept}
use Rattle.erase_laws.proofs.ErasedForm.{erased_form, erased_closed}
use Rattle.typing_laws.proofs.TypedClosed.{types_closed}

-- a label names a declared constant, before and after erasure

abbrev pub Declared : List Kept → Label → Type 0
Declared ds (ConstOf k) = (T : Term) × (b : Option Term) × Has ds (Constant k T b)
Declared ds _ = Unit {0}

abbrev pub BoxDeclared : List Kept → BoxLabel → Type 0
BoxDeclared ds (BConstOf k) = (T : Term) × (b : Option Term) × Has ds (Constant k T b)
BoxDeclared ds _ = Unit {0}

-- a typed term names declared constants alone
mutual
  pub types_declared : {m : Mode} {E : Env} {c : Context} {t T : Term} → Types m E c t T → Every (Declared E.declarations) t
  types_declared (rel e) = tt
  types_declared (sort h) = (tt, tt)
  types_declared (prod p q) = (tt, (types_declared p, (types_declared q, tt)))
  types_declared (lambda p q) = (tt, (types_declared p, (types_declared q, tt)))
  types_declared (let_in p q r) = (tt, (types_declared q, (types_declared p, (types_declared r, tt))))
  types_declared (app p q) = (tt, (types_declared p, (types_declared q, tt)))
  types_declared (const {T = T} {b = b} k) = ((T, b, k), tt)
  types_declared (ind k) = (tt, tt)
  types_declared (construct k e) = (tt, tt)
  types_declared (case ps is k e l p es q may s bs) = (tt, (all_declared p, (types_declared q, (types_declared s, (branches_declared bs, tt)))))
  types_declared (fix e h s b ask) = (tt, (sorts_declared s, (bodies_declared b, tt)))
  types_declared (conv p b q) = types_declared p

  all_declared : {m : Mode} {E : Env} {c : Context} {s : ℕ → Term} {ts As : List Term} → TypesAll m E c s ts As → EveryTerm (Declared E.declarations) (terms_of ts)
  all_declared no_terms = tt
  all_declared (term p ps) = (types_declared p, all_declared ps)

  branches_declared : {m : Mode} {E : Env} {c : Context} {f : FamilyId} {ps : List Term} {ret : Term} {n : ℕ} {Cs : List Constructor} {bs : Terms} →
      Branches m E c f ps ret n Cs bs → EveryTerm (Declared E.declarations) bs
  branches_declared no_branches = tt
  branches_declared (branch e es p bs) = (types_declared p, branches_declared bs)

  sorts_declared : {m : Mode} {E : Env} {c : Context} {n : ℕ} {ts : Terms} → Sorts m E c n ts → EveryTerm (Declared E.declarations) ts
  sorts_declared no_types = tt
  sorts_declared {E = E} (a_type {n = n} {T = T} p ps) = (every_before (Declared E.declarations) T (λ i. n + i) (types_declared p), sorts_declared ps)

  bodies_declared : {m : Mode} {E : Env} {c : Context} {n : ℕ} {rs : List ℕ} {ts us : Terms} → Bodies m E c n rs ts us → EveryTerm (Declared E.declarations) us
  bodies_declared no_bodies = tt
  bodies_declared (a_body r p ps) = (types_declared p, bodies_declared ps)

-- what a term erases to names no more than the term
mutual
  pub erased_declared : {E : Env} {c : Context} {t : Term} {t' : BoxTerm} (ds : List Kept) → Erases E c t t' → Every (Declared ds) t → Every (BoxDeclared ds) t'
  erased_declared ds (box p) h = (tt, tt)
  erased_declared ds Erases.rel h = tt
  erased_declared ds (Erases.lambda p) h = (tt, (erased_declared ds p h.1.1.0, tt))
  erased_declared ds (Erases.let_in p q) h = (tt, (erased_declared ds p h.1.0, (erased_declared ds q h.1.1.1.0, tt)))
  erased_declared ds (Erases.app p q) h = (tt, (erased_declared ds p h.1.0, (erased_declared ds q h.1.1.0, tt)))
  erased_declared ds Erases.const h = (h.0, tt)
  erased_declared ds (Erases.construct k e) h = (tt, tt)
  erased_declared ds (Erases.case ps k may l p q) h = (tt, (erased_declared ds p h.1.1.1.0, (branches_named ds q h.1.1.1.1.0, tt)))
  erased_declared ds (Erases.fix Ts q) h = (tt, (bodies_named ds q h.1.1.0, tt))

  branches_named : {E : Env} {c : Context} {ps : List Term} {Cs : List Constructor} {bs : Terms} {bs' : BoxTerms} (ds : List Kept) → ErasesBranches E c ps Cs bs bs' →
      EveryTerm (Declared ds) bs → EveryTerm (BoxDeclared ds) bs'
  branches_named ds ErasesBranches.no_branches h = tt
  branches_named ds (ErasesBranches.branch e p ps) h = (erased_declared ds p h.0, branches_named ds ps h.1)

  bodies_named : {E : Env} {c : Context} {n : ℕ} {bs : Terms} {bs' : BoxTerms} (ds : List Kept) → ErasesBodies E c n bs bs' → EveryTerm (Declared ds) bs → EveryTerm (BoxDeclared ds) bs'
  bodies_named ds ErasesBodies.no_bodies h = tt
  bodies_named ds (body p ps) h = (erased_declared ds p h.0, bodies_named ds ps h.1)

declared_more : (d : Kept) (ds : List Kept) (t : BoxTerm) → Every (BoxDeclared ds) t → Every (BoxDeclared (d ∷ ds)) t
declared_more d ds t h = every_more (BoxDeclared ds) (BoxDeclared (d ∷ ds)) later t h
  where
    later : (l : BoxLabel) → BoxDeclared ds l → BoxDeclared (d ∷ ds) l
    later BoxOf h = tt
    later BLambdaOf h = tt
    later BLetInOf h = tt
    later BAppOf h = tt
    later (BConstOf k) (T, b, h) = (T, b, there h)
    later (BConstructOf f c) h = tt
    later (BCaseOf f) h = tt
    later (BFixOf i rargs) h = tt

-- a constant's body has its type over the whole environment, and names constants declared before it
module _ (levels : ℕ) (cs : List Constraint) where
  pub body_typed : {ds : List Kept} {k : Name} {T b : Term} → Accepted levels cs ds → Has ds (Constant k T (Some b)) → Types bare (env levels cs ds) [] b T
  body_typed empty h = elim h [ ]
  body_typed (constant {ds = ds} a f p q) here = extends_types (one_more levels cs ds _) (bare_types q)
  body_typed (constant {ds = ds} a f p q) (there h) = extends_types (one_more levels cs ds _) (body_typed a h)
  body_typed (block {ds = ds} a f p) (there h) = extends_types (one_more levels cs ds _) (body_typed a h)

  -- what is erased of declarations names these alone
  erased_bodies : {E : Env} {ds : List Kept} {xs : List BoxConstant} → Accepted levels cs ds → AreErased E ds xs → (d : BoxConstant) → Has xs d → Every (BoxDeclared ds) d.body
  erased_bodies a none_erased d h = elim h [ ]
  erased_bodies (constant {ds = ds} a f p q) (not_reached es) d h = declared_more _ ds d.body (erased_bodies a es d h)
  erased_bodies (block {ds = ds} a f p) (not_reached es) d h = declared_more _ ds d.body (erased_bodies a es d h)
  erased_bodies (constant {ds = ds} a f p q) (reached e es) d here = declared_more _ ds d.body (erased_declared ds e (types_declared q))
  erased_bodies (constant {ds = ds} a f p q) (reached e es) d (there h) = declared_more _ ds d.body (erased_bodies a es d h)

-- a term that names neither a new name nor anything outside the constants with it, names the constants without it
without : (ds : List Kept) (k : Name) (b : BoxTerm) (xs : List BoxConstant) (t : BoxTerm) → IsFresh k ds → Every (BoxDeclared ds) t → NamesOnly (record { name = k; body = b } ∷ xs) t → NamesOnly xs t
without ds k b xs t fresh h g = every_both (BoxDeclared ds) (NamesKept (record { name = k; body = b } ∷ xs)) (NamesKept xs) both t h g
  where
    other : (j : Name) (b' : BoxTerm) → j ≢ k → Has (record { name = k; body = b } ∷ xs) (record { name = j; body = b' }) → Has xs (record { name = j; body = b' })
    other j b' n here = absurd (n refl)
    other j b' n (there m) = m

    both : (l : BoxLabel) → BoxDeclared ds l → NamesKept (record { name = k; body = b } ∷ xs) l → NamesKept xs l
    both BoxOf h g = tt
    both BLambdaOf h g = tt
    both BLetInOf h g = tt
    both BAppOf h g = tt
    both (BConstOf j) (T, o, m) (b', p) = (b', other j b' (fresh (Constant j T o) m) p)
    both (BConstructOf f c) h g = tt
    both (BCaseOf f) h g = tt
    both (BFixOf i rargs) h g = tt

-- what is erased has a declared name
erased_from : {E : Env} {ds : List Kept} {xs : List BoxConstant} → AreErased E ds xs → (d : BoxConstant) → Has xs d →
    (T : Term) × (b : Term) × Has ds (Constant d.name T (Some b)) × Erases E [] b d.body
erased_from none_erased d h = elim h [ ]
erased_from (not_reached es) d h = let (T, b, m, e) = erased_from es d h in (T, b, there m, e)
erased_from (reached {T = T} {b = b} e es) d here = (T, b, here, e)
erased_from (reached e es) d (there h) = let (T, b, m, e) = erased_from es d h in (T, b, there m, e)

pub has_at : {A : Type 0} (xs : List A) (i : ℕ) (d : A) → i < length xs → Has xs (get_or xs i d)
has_at [] i d l = absurd (omega arith)
has_at (x ∷ xs) zero d l = here
has_at (x ∷ xs) (suc i) d l = there (has_at xs i d (omega arith))

-- the constants are in order, and of distinct names
ordered : {E : Env} {Fs : List BoxFamily} (levels : ℕ) (cs : List Constraint) {ds : List Kept} {xs : List BoxConstant} → Accepted levels cs ds → AreErased E ds xs →
    ((d : BoxConstant) → Has xs d → IsBoxBody Fs xs d.body) → AreOrdered Fs xs
ordered levels cs a none_erased h = tt
ordered levels cs (constant a f p q) (not_reached es) h = ordered levels cs a es h
ordered levels cs (block a f p) (not_reached es) h = ordered levels cs a es h
ordered {E} {Fs} levels cs (constant {ds = ds} a f p q) (reached {k = k} {b' = b'} {cs = xs} e es) h = (
  less b' (erased_declared ds e (types_declared q)) (h (record { name = k; body = b' }) here),
  ordered levels cs a es (λ d m. less d.body (erased_bodies levels cs a es d m) (h d (there m))),
)
  where
    less : (t : BoxTerm) → Every (BoxDeclared ds) t → IsBoxBody Fs (record { name = k; body = b' } ∷ xs) t → IsBoxBody Fs xs t
    less t g r = record { closed = r.closed; form = r.form; named = without ds k b' xs t f g r.named }

distinct : (levels : ℕ) (cs : List Constraint) {E : Env} {ds : List Kept} {xs : List BoxConstant} → Accepted levels cs ds → AreErased E ds xs → AllPairs (λ c d. c.name ≢ d.name) xs
distinct levels cs a none_erased = λ i j d l within. absurd (omega arith)
distinct levels cs (constant a f p q) (not_reached es) = distinct levels cs a es
distinct levels cs (block a f p) (not_reached es) = distinct levels cs a es
distinct levels cs (constant {ds = ds} a f p q) (reached {k = k} {b' = b'} {cs = xs} e es) =
    AllPairs-cons (λ c d. c.name ≢ d.name) (record { name = k; body = b' }) xs others (distinct levels cs a es)
  where
    others : All (λ d. k ≢ d.name) xs
    others i d l = λ e. let (T, b, m, _) = erased_from es (get_or xs i d) (has_at xs i d l) in f (Constant (get_or xs i d).name T (Some b)) m (sym e)

pub erased_programs_have_form : ErasedProgramsHaveForm
erased_programs_have_form E accepted main T typed P h = (
  record {
    constants = ordered E.levels E.constraints accepted.declarations h.constants each_body;
    distinct_constants = distinct E.levels E.constraints accepted.declarations h.constants;
    distinct_families = h.distinct;
    counts = h.counts;
    main = record { closed = erased_closed h.main 0 (types_closed typed); form = erased_form (one_of_each E accepted) h.families h.main typed; named = h.main_named };
  },
  record { bodies = λ k b' m. erased_from h.constants (record { name = k; body = b' }) m; families = h.families },
)
  where
    each_body : (d : BoxConstant) → Has P.constants d → IsBoxBody P.families P.constants d.body
    each_body d m =
        let (T, b, k, e) = erased_from h.constants d m in
        record {
          closed = erased_closed e 0 ((accepted_closed E accepted).bodies d.name T b k);
          form = erased_form (one_of_each E accepted) h.families e (body_typed E.levels E.constraints accepted.declarations k);
          named = h.bodies_named d m;
        }

pub erased_programs_keep_values : ErasedProgramsKeepValues
erased_programs_keep_values E accepted t T typed P h v n e S first =
    let (form, erased) = erased_programs_have_form E accepted t T typed P h in
    values_are_kept E accepted P form erased t v T n typed e h.main S first
