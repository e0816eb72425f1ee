-- A program has at most the words of its source.
use Rattle.std.proofs.Common.{◌≡◌, ℕ, zero, suc, ◌≤◌, max, List, [], ◌∷◌, ◌++◌, length, map, Some, None, slice_get, sym, ap, subst, ◌∙◌, arith}
use Rattle.std.proofs.lemmas.List.{length-map}
use Rattle.pc_terms.specs.Syntax.{Term, Terms}
use Rattle.box_terms.specs.BoxSyntax.{BoxTerm, BoxTerms}
use Rattle.calculus_rules.specs.declared.declaration.Constructor.{Constructor}
use Rattle.calculus_rules.specs.declared.declaration.Family.{Family}
use Rattle.calculus_rules.specs.declared.declaration.Block.{Block}
use Rattle.calculus_rules.specs.declared.declaration.Kept.{Kept}
use Rattle.calculus_rules.specs.declared.declaration.Kept.TheVariants.{Constant, Heads, Block as Whole}
use Rattle.calculus_rules.specs.Environment.{Env, FamilyDecl, with_parameters}
use Rattle.calculus_rules.specs.Environment as source
use Rattle.calculus_rules.specs.Context.{Context}
use Rattle.pc_rules.specs.DirectedPlaces.{Placed, gives, at_place, and_then}
use Rattle.pc_rules.specs.DirectedTyping.{infer}
use Rattle.pc_rules.specs.Entailment.{test_of}
use Rattle.pc_rules.proofs.Entailing.{entailed_decides}
use Rattle.pc_rules.specs.declared.broken.Place.TheVariants.{Main as AtMain}
use Rattle.pc_rules.specs.declared.meter.Account.{Account}
use Rattle.lambda_box.specs.BoxProgram.{BoxConstant, BoxFamily, BoxProgram, Has}
use Rattle.lambda_box.specs.BoxForm.{IsBoxProgram}
use Rattle.lambda_box.specs.DataTerms.{binder_depth, binder_depth_terms, binder_depth_constants, greatest_of, greatest_arguments, greatest_words}
use Rattle.erase_laws.specs.Erases.{Erases, box, ErasesBranches, ErasesBodies, body}
use Rattle.erase_laws.specs.ErasedProgram.{arguments_of, AreErased, none_erased, not_reached, reached, IsErased}
use Rattle.erase_rules.specs.DirectedErasure.{erased}
use Rattle.erase_rules.specs.DirectedProgram.{Reached, Answer, Program, answer, box_families, families_from, erased_constants}
use Rattle.erase_rules.proofs.Program.{gives_both, given_value, program_is, program_is_erased}
use Rattle.erase_rules.proofs.Families.{family_back}
use Rattle.erase_rules.proofs.Together.{program_has_form}
use Rattle.read_counts.proofs.KeptBlocks.{few_counts}
use Rattle.headline.proofs.Derived.{derived}
use Rattle.dump_reader.specs.declared.environment.RawEnv.{RawEnv}
use Rattle.headline.specs.SourceWords.{source_words, binders_over, binders_over_terms, binders_in, most_arguments, most_in_families, most_in_blocks, most_constructors, most_alternatives, source_branches}
use Rattle.headline.specs.AcceptedProgram.{IsAcceptedAs, IsErasedTo, ErasedProgramsAreWithin}
use Rattle.calculus_rules.proofs.Listing.{from_map}

-- binders

mutual
  erased_binders : {E : Env} {c : Context} {t : Term} {t' : BoxTerm} → Erases E c t t' → binder_depth t' ≤ binders_over t
  erased_binders (box e) = omega arith
  erased_binders Erases.rel = omega arith
  erased_binders (Erases.lambda p) = let a = erased_binders p in omega arith
  erased_binders (Erases.let_in p q) = let a = erased_binders p in let b = erased_binders q in omega arith
  erased_binders (Erases.app p q) = let a = erased_binders p in let b = erased_binders q in omega arith
  erased_binders Erases.const = omega arith
  erased_binders (Erases.construct k n) = omega arith
  erased_binders (Erases.case ps k m l p q) = let a = erased_binders p in let b = branch_binders q in omega arith
  erased_binders (Erases.fix Ts q) = let b = body_binders q in omega arith

  branch_binders : {E : Env} {c : Context} {ps : List Term} {Cs : List Constructor} {ts : Terms} {ts' : BoxTerms} → ErasesBranches E c ps Cs ts ts' → binder_depth_terms ts' ≤ binders_over_terms ts
  branch_binders ErasesBranches.no_branches = omega arith
  branch_binders (ErasesBranches.branch k p q) = let a = erased_binders p in let b = branch_binders q in omega arith

  body_binders : {E : Env} {c : Context} {n : ℕ} {ts : Terms} {ts' : BoxTerms} → ErasesBodies E c n ts ts' → binder_depth_terms ts' ≤ binders_over_terms ts
  body_binders ErasesBodies.no_bodies = omega arith
  body_binders (body p q) = let a = erased_binders p in let b = body_binders q in omega arith

passed_binders : (d : Kept) (ds : List Kept) → binders_in ds ≤ binders_in (d ∷ ds)
passed_binders (Constant k T (Some b)) ds = omega arith
passed_binders (Constant k T None) ds = omega arith
passed_binders (Heads B) ds = omega arith
passed_binders (Whole B) ds = omega arith

constant_binders : {E : Env} {ds : List Kept} {cs : List BoxConstant} → AreErased E ds cs → binder_depth_constants cs ≤ binders_in ds
constant_binders none_erased = omega arith
constant_binders (not_reached {d = d} {ds = ds} h) = let a = constant_binders h in omega (arith, a, passed_binders d ds)
constant_binders (reached p h) = let a = erased_binders p in let b = constant_binders h in omega arith

-- arguments of constructors

pub counted_arguments : (Cs : List Constructor) → greatest_of (map arguments_of Cs) ≤ most_arguments Cs
counted_arguments [] = omega arith
counted_arguments (C ∷ Cs) = let a = counted_arguments Cs in omega arith

block_arguments : (B : Block) (n : ℕ) (Gs : List Family) → greatest_arguments (families_from B n Gs) ≤ most_in_families Gs
block_arguments B n [] = omega arith
block_arguments B n (G ∷ Gs) = let a = block_arguments B (suc n) Gs in let b = counted_arguments G.ctors in omega arith

both_arguments : (Fs Gs : List BoxFamily) → greatest_arguments (Fs ++ Gs) ≤ max (greatest_arguments Fs) (greatest_arguments Gs)
both_arguments [] Gs = omega arith
both_arguments (F ∷ Fs) Gs = let a = both_arguments Fs Gs in omega arith

all_arguments : (ds : List Kept) → greatest_arguments (box_families ds) ≤ most_in_blocks ds
all_arguments [] = omega arith
all_arguments (Constant k T b ∷ ds) = all_arguments ds
all_arguments (Heads B ∷ ds) = all_arguments ds
all_arguments (Whole B ∷ ds) =
    let a = all_arguments ds in let b = block_arguments B 0 B.families in let c = both_arguments (box_families ds) (families_from B 0 B.families) in omega (arith, a, b, c)

-- constructors of families

family_constructors : (Gs : List Family) (n : ℕ) (G : Family) → slice_get Gs n ≡ Some G → length G.ctors ≤ most_constructors Gs
family_constructors [] n G e = absurd cc
family_constructors (H ∷ Gs) zero G e = let q : H ≡ G = cc in omega (arith, ap (λ (x : Family). length x.ctors) q)
family_constructors (H ∷ Gs) (suc n) G e = let a = family_constructors Gs n G e in omega arith

kept_constructors : (ds : List Kept) (B : Block) → source.Has ds (Whole B) → most_constructors B.families ≤ most_alternatives ds
kept_constructors [] B h = elim h [ ]
kept_constructors (Whole D ∷ ds) B source.here = omega arith
kept_constructors (Whole D ∷ ds) B (source.there h) = let a = kept_constructors ds B h in omega arith
kept_constructors (Heads D ∷ ds) B (source.there h) = kept_constructors ds B h
kept_constructors (Constant k T b ∷ ds) B (source.there h) = kept_constructors ds B h

few_constructors : (E : Env) (X : BoxFamily) → Has (box_families E.declarations) X → length X.args ≤ source_branches E
few_constructors E X h =
    let b = family_back E X h in
    let F : FamilyDecl = b.1 in
    let k = b.2 in
    let B : Block = k.0 in
    let g = from_map (with_parameters B.params) (slice_get B.families b.0.family) F k.3 in
    let G : Family = g.0 in
    let args : length X.args ≡ length F.constructors = ap (λ (x : BoxFamily). length x.args) b.3 ∙ length-map F.constructors arguments_of in
    let ctors : length G.ctors ≡ length F.constructors = ap (λ (x : FamilyDecl). length x.constructors) (sym g.2) in
    let a = family_constructors B.families b.0.family G g.1 in
    let c = kept_constructors E.declarations B k.1 in
    omega (arith, args, ctors, a, c)

-- the families of a program are all that are kept
pub families_are : (E : Env) (main : Term) (P : BoxProgram) → IsErasedTo E main P → P.families ≡ box_families E.declarations
families_are E main P h =
    let q = test_of E in
    let n = h.room in
    let u = h.before in
    let v = h.after in
    let k2 : BoxTerm → Reached → Account → Placed Answer = λ main' r w. gives (answer E main' r r.without_body) w in
    let k1 : BoxTerm → Account → Placed Answer = λ main' v. and_then (erased_constants E (infer E q n) (main' ∷ []) E.declarations v) (k2 main') in
    let p1 = gives_both (at_place AtMain (erased E (infer E q n) [] main u)) k1 (Program P) v h.gives in
    let p2 = gives_both (erased_constants E (infer E q n) (p1.0 ∷ []) E.declarations p1.1) (k2 p1.0) (Program P) v p1.3 in
    let is = program_is E p1.0 p2.0 p2.0.without_body P (given_value p2.3) in
    sym (ap (λ (x : BoxProgram). x.families) is.1)

module _ (e : RawEnv) (E : Env) (T : Term) (P : BoxProgram) (accepted : IsAcceptedAs e E T) (h : IsErasedTo E e.main P) where
  is_formed : IsErased E e.main P × IsBoxProgram P
  is_formed =
      let d = derived e E T accepted in
      let f = d.formed in
      let a = f.accepted in
      let test = entailed_decides E.levels E.constraints a.consistent a.over in
      let counts = few_counts e accepted.spelled E T d in (
        program_is_erased E a counts (test_of E) test h.room e.main T f.typed P h.before h.after h.gives,
        (program_has_form E a counts (test_of E) test h.room e.main T f.typed P h.before h.after h.gives).0,
      )

  pub erased_form : IsBoxProgram P
  erased_form = is_formed.1

  pub erased_words : greatest_words P ≤ source_words E e.main
  erased_words =
      let is = is_formed.0 in
      let x = erased_binders is.main in
      let y = constant_binders is.constants in
      let z : greatest_arguments P.families ≤ most_in_blocks E.declarations = subst (λ Fs. greatest_arguments Fs ≤ most_in_blocks E.declarations) (sym (families_are E e.main P h)) (all_arguments E.declarations) in
      omega (arith, x, y, z)

-- it has the form of programs, and the numbers of its source
pub of_source : ErasedProgramsAreWithin
of_source e E T P accepted h fits = record {
  within = record {
    form = erased_form e E T P accepted h;
    constructors = λ F m. few_constructors E F (subst (λ Fs. Has Fs F) (families_are E e.main P h) m);
    constants = fits.constants;
    main = fits.main;
    limits = fits.limits;
  };
  words = erased_words e E T P accepted h;
}
