-- Values in which box stands for parameters of constructors: their spines, how they are extended and unfolded, and their data.
use Rattle.std.proofs.Common.{◌≡◌, ℕ, suc, ◌+◌, ◌<◌, ◌≤◌, List, [], ◌∷◌, ◌++◌, length, refl, sym, ap, ◌∙◌, subst, arith}
use Rattle.pc_terms.specs.declared.leaf.FamilyId.{FamilyId}
use Rattle.box_terms.specs.BoxSyntax.{BoxTerm, BoxTerms, Box, BApp, BConstruct, BFix}
use Rattle.lambda_box.specs.BoxProgram.{BoxFamily, BoxProgram, KeepsBoxFamily, box_apply}
use Rattle.lambda_box.specs.BoxEvaluation.{IsBoxConstructor, is_box_constructor, BoxTakesMore, constructor, fixpoint, box_unfolded, BoxUnfolds, unfolds}
use Rattle.lambda_box.specs.BoxData.{Data, BoxReads, box_reads, BoxReadsAll, no_box_field, box_field}
use Rattle.lambda_box.proofs.Spines.{apply_append}
use Rattle.applied_terms.proofs.Built.{built_of, built_list, WantsParameter, fix_wants_none, full_wants_none}
use Rattle.applied_terms.proofs.Pared.{Pared, pared_app, pared_parameter, pared_construct, pared_fix, ParedTerms, ParedList, pared_none, pared_one, pared_put_list, pared_apply, pared_count, pared_fixpoints, pared_at, built_pared}

-- an application to several arguments none of which is a parameter
pub record ParedSpine (P : BoxProgram) (h : BoxTerm) (xs : List BoxTerm) (u : BoxTerm) : Type 0 where
  pub head : BoxTerm
  pub arguments : List BoxTerm
  pub is : u ≡ box_apply head arguments
  pub heads : Pared P h head
  pub each : ParedList P xs arguments

pub pared_spine : {P : BoxProgram} (xs : List BoxTerm) {h u : BoxTerm} → ((zs : List BoxTerm) → WantsParameter P (box_apply h zs) → ⊥) → Pared P (box_apply h xs) u → ParedSpine P h xs u
pared_spine [] {h} {u} none p = record { head = u; arguments = []; is = refl; heads = p; each = pared_none }
pared_spine {P} (x ∷ xs) {h} {u} none p =
    let r = pared_spine xs {h = BApp h x} (λ zs w. none (x ∷ zs) w) p in
    go r.is r.heads r.each
  where
    go : {k : BoxTerm} {zs : List BoxTerm} → u ≡ box_apply k zs → Pared P (BApp h x) k → ParedList P xs zs → ParedSpine P h (x ∷ xs) u
    go {zs = zs} e (pared_app {f' = f'} {a' = a'} q q') qs = record { head = f'; arguments = a' ∷ zs; is = e; heads = q; each = pared_one q' qs }
    go e (pared_parameter q w) qs = absurd (none [] w)

-- to several of any kind
record LooseSpine (P : BoxProgram) (h : BoxTerm) (xs : List BoxTerm) (u : BoxTerm) : Type 0 where
  head : BoxTerm
  arguments : List BoxTerm
  is : u ≡ box_apply head arguments
  heads : Pared P h head
  count : length arguments ≡ length xs

loose_spine : {P : BoxProgram} (xs : List BoxTerm) {h u : BoxTerm} → Pared P (box_apply h xs) u → LooseSpine P h xs u
loose_spine [] {h} {u} p = record { head = u; arguments = []; is = refl; heads = p; count = refl }
loose_spine {P} (x ∷ xs) {h} {u} p =
    let r = loose_spine xs {h = BApp h x} p in
    go r.arguments r.is r.heads r.count
  where
    go : {k : BoxTerm} (zs : List BoxTerm) → u ≡ box_apply k zs → Pared P (BApp h x) k → length zs ≡ length xs → LooseSpine P h (x ∷ xs) u
    go zs e (pared_app {f' = f'} {a' = a'} q q') l = record { head = f'; arguments = a' ∷ zs; is = e; heads = q; count = ap suc l }
    go zs e (pared_parameter {f' = f'} q w) l = record { head = f'; arguments = Box ∷ zs; is = e; heads = q; count = ap suc l }

construct_is : {P : BoxProgram} {f : FamilyId} {c : ℕ} {u : BoxTerm} → Pared P (BConstruct f c) u → u ≡ BConstruct f c
construct_is pared_construct = refl

-- a constructor with all its parameters and arguments
pub record ParedConstructor (P : BoxProgram) (f : FamilyId) (c : ℕ) (xs : List BoxTerm) (u : BoxTerm) : Type 0 where
  pub parameters : List BoxTerm
  pub arguments : List BoxTerm
  pub whole : u ≡ box_apply (BConstruct f c) (parameters ++ arguments)
  pub is : IsBoxConstructor P f c u parameters arguments
  pub each : ParedList P xs arguments

-- a name stands for one family
abbrev pub OneFamily : BoxProgram → Type 0
OneFamily P = (f : FamilyId) (F G : BoxFamily) → KeepsBoxFamily P f F → KeepsBoxFamily P f G → F ≡ G

pub pared_constructor : {P : BoxProgram} → OneFamily P → {f : FamilyId} {c : ℕ} {w u : BoxTerm} {qs xs : List BoxTerm} → IsBoxConstructor P f c w qs xs → Pared P w u → ParedConstructor P f c xs u
pared_constructor {P} unique {f} {c} {w} {u} {qs} {xs} (is_box_constructor {F = F} kept p at lq lx e) pared =
    let le : F.params ≤ length qs = omega (arith, lq) in
    let r = pared_spine xs {h = box_apply (BConstruct f c) qs} (full_wants_none unique kept le (built_of qs refl)) (subst (λ t. Pared P t u) (e ∙ apply_append (BConstruct f c) qs xs) pared) in
    let s = loose_spine qs {h = BConstruct f c} r.heads in
    let whole = r.is ∙ ap (λ h. box_apply h r.arguments) (s.is ∙ ap (λ h. box_apply h s.arguments) (construct_is s.heads)) ∙ sym (apply_append (BConstruct f c) s.arguments r.arguments) in
    record { parameters = s.arguments; arguments = r.arguments; whole = whole; is = is_box_constructor kept p at (s.count ∙ lq) (pared_count r.each ∙ lx) whole; each = r.each }

-- a value that takes more
record ParedFix (P : BoxProgram) (i : ℕ) (rargs : List ℕ) (bodies : BoxTerms) (u : BoxTerm) : Type 0 where
  bodies' : BoxTerms
  is : u ≡ BFix i rargs bodies'
  each : ParedTerms P bodies bodies'

fix_is : {P : BoxProgram} {i : ℕ} {rargs : List ℕ} {bodies : BoxTerms} {u : BoxTerm} → Pared P (BFix i rargs bodies) u → ParedFix P i rargs bodies u
fix_is (pared_fix {bs' = bs'} h) = record { bodies' = bs'; is = refl; each = h }

fix_spine : {P : BoxProgram} {i : ℕ} {rargs : List ℕ} {bodies : BoxTerms} {w u : BoxTerm} (xs : List BoxTerm) → w ≡ box_apply (BFix i rargs bodies) xs → Pared P w u → ParedSpine P (BFix i rargs bodies) xs u
fix_spine {P} {i} {rargs} {bodies} {u = u} xs e p = pared_spine xs (λ zs w. fix_wants_none i rargs bodies zs w) (subst (λ t. Pared P t u) e p)

pub pared_takes_more : {P : BoxProgram} {w u : BoxTerm} → BoxTakesMore P w → Pared P w u → BoxTakesMore P u
pared_takes_more (constructor f c xs {F = F} {n = n} kept at l e) p =
    let r = built_list (built_pared p (built_of xs e)) in
    constructor f c r.arguments kept at (subst (λ k. k < F.params + n) (sym r.count) l) r.is
pared_takes_more (fixpoint i rargs bodies xs {rarg = rarg} at l e) p =
    let r = fix_spine xs e p in
    let k = fix_is r.heads in
    fixpoint i rargs k.bodies' r.arguments at (subst (λ m. m < rarg) (sym (pared_count r.each)) l) (r.is ∙ ap (λ h. box_apply h r.arguments) k.is)

-- a fixpoint that unfolds
pub record ParedUnfolding (P : BoxProgram) (g v u : BoxTerm) : Type 0 where
  pub contractum : BoxTerm
  pub unfolds : BoxUnfolds g v contractum
  pub is : Pared P u contractum

pub pared_unfolds : {P : BoxProgram} {g v u g' v' : BoxTerm} → BoxUnfolds g v u → Pared P g g' → Pared P v v' → ParedUnfolding P g' v' u
pared_unfolds {P} {v' = v'} (unfolds i rargs bodies xs at l b e) p q =
    let r = fix_spine xs e p in
    let k = fix_is r.heads in
    let body = pared_at i k.each b in
    record {
      contractum = BApp (box_apply (box_unfolded rargs k.bodies' body.term) r.arguments) v';
      unfolds = BoxUnfolds.unfolds i rargs k.bodies' r.arguments at (pared_count r.each ∙ l) body.at (r.is ∙ ap (λ h. box_apply h r.arguments) k.is);
      is = pared_app (pared_apply r.each (pared_put_list (pared_fixpoints 0 (length rargs) rargs k.each) body.is)) q;
    }

-- data stays
mutual
  pub pared_reads : {P : BoxProgram} → OneFamily P → {w u : BoxTerm} {d : Data} → BoxReads P w d → Pared P w u → BoxReads P u d
  pared_reads {P} unique {u = u} (box_reads {c = c} {ds = ds} con rs) p =
      let r = pared_constructor unique con p in
      subst (λ n. BoxReads P u ((c, n) ∷ ds)) (pared_count r.each) (box_reads r.is (pared_reads_all unique rs r.each))

  pared_reads_all : {P : BoxProgram} → OneFamily P → {xs ys : List BoxTerm} {ds : Data} → BoxReadsAll P xs ds → ParedList P xs ys → BoxReadsAll P ys ds
  pared_reads_all unique no_box_field pared_none = no_box_field
  pared_reads_all unique (box_field r rs) (pared_one p ps) = box_field (pared_reads unique r p) (pared_reads_all unique rs ps)
