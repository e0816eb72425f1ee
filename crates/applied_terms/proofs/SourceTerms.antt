-- The source terms of data: data that fits has one, and each is read back as its data.
use Rattle.std.proofs.Common.{◌≡◌, ℕ, zero, suc, List, [], ◌∷◌, ◌++◌, length, Some, refl, sym, ap, ◌∙◌, subst, slice_get}
use Rattle.pc_terms.specs.Syntax.{Term, Construct, apply}
use Rattle.calculus_rules.specs.declared.declaration.Constructor.{Constructor}
use Rattle.calculus_rules.specs.Environment.{Env}
use Rattle.calculus_rules.specs.Instances.{branch_entries}
use Rattle.calculus_rules.specs.Step.{is_constructor}
use Rattle.calculus_rules.specs.FirstOrder.{Shape, ArgumentsAt, ConstructorsAt, no_constructor, a_constructor, Data, Reads, reads, ReadsAll, no_field, field, FitsShapes, fits, FieldsFit, no_field_fits, field_fits}
use Rattle.calculus_rules.proofs.Spines.{one_item}
use Rattle.typing_laws.proofs.DataAlong.{Members}
use Rattle.typing_laws.proofs.Telescopes.{entries_at_length}
use Rattle.first_order.specs.Applied.{IsSourceOf, source_of, AreSourcesOf, no_field_source, field_source, AreArguments}
use Rattle.applied_terms.specs.CallEvaluation.{ArgumentsFitSets, no_argument_fits, argument_fits}
use Rattle.applied_terms.specs.Laws.{FittingDataHasATerm, AppliedTermsAreThere, SourceTermsAreRead}

-- data that fits has a source term

record SourceTerm (S : List Shape) (i : ℕ) (d : Data) : Type 0 where
  term : Term
  is : IsSourceOf S i d term

record SourceTerms (S : List Shape) (js : List ℕ) (ds : Data) : Type 0 where
  terms : List Term
  are : AreSourcesOf S js ds terms
  count : length terms ≡ length js

mutual
  has_source : {S : List Shape} {i : ℕ} {d : Data} → FitsShapes S i d → SourceTerm S i d
  has_source {S} {i} (fits {c = c} {h = h} {js = js} {ds = ds} at ctor fs) =
      let r = have_sources fs in
      let t = apply (Construct h.family c) (h.parameters ++ r.terms) in
      record { term = t; is = subst (λ n. IsSourceOf S i ((c, n) ∷ ds) t) r.count (source_of at ctor r.are refl) }

  have_sources : {S : List Shape} {js : List ℕ} {ds : Data} → FieldsFit S js ds → SourceTerms S js ds
  have_sources no_field_fits = record { terms = []; are = no_field_source; count = refl }
  have_sources (field_fits f fs) =
      let x = has_source f in
      let r = have_sources fs in
      record { terms = x.term ∷ r.terms; are = field_source x.is r.are; count = ap suc r.count }

pub fitting_data_has_a_term : FittingDataHasATerm
fitting_data_has_a_term S i d f = let r = has_source f in (r.term, r.is)

record Arguments (Ss : List (List Shape)) (ds : List Data) : Type 0 where
  terms : List Term
  sources : AreArguments Ss ds terms

have_arguments : {Ss : List (List Shape)} {ds : List Data} → ArgumentsFitSets Ss ds → Arguments Ss ds
have_arguments no_argument_fits = record { terms = []; sources = AreArguments.no_argument }
have_arguments (argument_fits f fs) =
    let x = has_source f in
    let r = have_arguments fs in
    record { terms = x.term ∷ r.terms; sources = AreArguments.an_argument x.is r.sources }

pub applied_terms_are_there : AppliedTermsAreThere
applied_terms_are_there Ss main ds f = let r = have_arguments f in (apply main r.terms, record { terms = r.terms; sources = r.sources; is = refl })

-- and is read back

source_count : {S : List Shape} {js : List ℕ} {ds : Data} {xs : List Term} → AreSourcesOf S js ds xs → length js ≡ length xs
source_count no_field_source = refl
source_count (field_source r rs) = ap suc (source_count rs)

mutual
  source_fits : {S : List Shape} {i : ℕ} {d : Data} {t : Term} → IsSourceOf S i d t → FitsShapes S i d
  source_fits {S} {i} (source_of {c = c} {ds = ds} at ctor rs e) = subst (λ n. FitsShapes S i ((c, n) ∷ ds)) (source_count rs) (fits at ctor (sources_fit rs))

  sources_fit : {S : List Shape} {js : List ℕ} {ds : Data} {xs : List Term} → AreSourcesOf S js ds xs → FieldsFit S js ds
  sources_fit no_field_source = no_field_fits
  sources_fit (field_source r rs) = field_fits (source_fits r) (sources_fit rs)

arguments_count : {E : Env} {S : List Shape} {n : ℕ} {Bs : List Term} {js : List ℕ} → ArgumentsAt E S n Bs js → length js ≡ length Bs
arguments_count ArgumentsAt.no_argument = refl
arguments_count (ArgumentsAt.an_argument e at rest) = ap suc (arguments_count rest)

-- the constructor whose argument types stand at these places
pub record ConstructorOf (E : Env) (S : List Shape) (ps : List Term) (Cs : List Constructor) (c : ℕ) (js : List ℕ) : Type 0 where
  pub declared : Constructor
  pub at : slice_get Cs c ≡ Some declared
  pub arguments : ArgumentsAt E S 0 (branch_entries declared ps) js

pub constructor_of : {E : Env} {S : List Shape} {ps : List Term} {Cs : List Constructor} {jss : List (List ℕ)} → ConstructorsAt E S ps Cs jss → (c : ℕ) (js : List ℕ) →
    slice_get jss c ≡ Some js → ConstructorOf E S ps Cs c js
constructor_of no_constructor c js e = absurd (cc)
constructor_of {E} {S} {ps} (a_constructor {C = C} a rest) zero js e = record { declared = C; at = refl; arguments = subst (λ js. ArgumentsAt E S 0 (branch_entries C ps) js) (one_item e) a }
constructor_of (a_constructor a rest) (suc c) js e = let r = constructor_of rest c js e in record { declared = r.declared; at = r.at; arguments = r.arguments }

-- as many fields as the constructor has arguments
pub fields_count : {E : Env} {S : List Shape} {ps : List Term} {Cs : List Constructor} {c : ℕ} {js : List ℕ} {ds : Data} {xs : List Term} (k : ConstructorOf E S ps Cs c js) →
    AreSourcesOf S js ds xs → length xs ≡ length k.declared.args
fields_count {ps = ps} k rs = sym (source_count rs) ∙ arguments_count k.arguments ∙ entries_at_length _ k.declared.args

mutual
  source_reads : {E : Env} {S : List Shape} → Members E S → {i : ℕ} {d : Data} {t : Term} → IsSourceOf S i d t → Reads E S i t d
  source_reads M (source_of {i = i} {c = c} {h = h} {js = js} at ctor rs e) =
      let m = M i h at in
      let k = constructor_of m.constructors c js ctor in
      reads at ctor (is_constructor m.kept k.at m.parameters (fields_count k rs) e) (sources_read M rs)

  sources_read : {E : Env} {S : List Shape} → Members E S → {js : List ℕ} {ds : Data} {xs : List Term} → AreSourcesOf S js ds xs → ReadsAll E S js xs ds
  sources_read M no_field_source = no_field
  sources_read M (field_source r rs) = field (source_reads M r) (sources_read M rs)

pub source_terms_are_read : SourceTermsAreRead
source_terms_are_read E T S first i d t r = (source_fits r, source_reads first.members r)
