-- The source terms of data erase to constructors; with box for their parameters these are terms of the same data after erasure.
use Rattle.std.proofs.Common.{◌≡◌, ℕ, zero, suc, List, [], ◌∷◌, ◌++◌, length, refl, sym, ◌∙◌, subst, arith}
use Rattle.pc_terms.specs.Syntax.{Term}
use Rattle.box_terms.specs.BoxSyntax.{BoxTerm, BConstruct}
use Rattle.calculus_rules.specs.Environment.{Env}
use Rattle.calculus_rules.specs.Context.{Context}
use Rattle.calculus_rules.specs.Step.{is_constructor}
use Rattle.calculus_rules.specs.FirstOrder.{Shape, Data}
use Rattle.calculus_rules.specs.Typing.{bare, Types, TypesAll, no_terms, term}
use Rattle.calculus_rules.specs.Accepted.{IsAccepted}
use Rattle.typing_laws.proofs.DataAlong.{Members}
use Rattle.type_laws.specs.Contexts.{IsContext}
use Rattle.type_laws.proofs.MatchesKeep.{built_types}
use Rattle.lambda_box.specs.BoxProgram.{BoxProgram, NamesOnly, box_apply, boxes}
use Rattle.lambda_box.specs.BoxEvaluation.{IsBoxConstructor, is_box_constructor, BoxEvaluates, box_is}
use Rattle.lambda_box.specs.DataTerms.{evaluable, AreEvaluable, no_evaluable, one_evaluable, DataTerm, data_term, DataFields, no_data_field, data_field, DataTerms, no_data, more_data}
use Rattle.lambda_box.proofs.Naming.{EachNamed, named_apply, named_boxes}
use Rattle.lambda_box.proofs.Spines.{boxes_number, apply_append}
use Rattle.erase_laws.specs.Erases.{Erases, construct, ErasesAll, none, one}
use Rattle.erase_laws.proofs.ErasedRedexes.{counts_at, not_prop, erases_from}
use Rattle.erase_laws.proofs.ErasedSpines.{all_lengths, apply_erases}
use Rattle.erase_laws.proofs.Serves.{Serves}
use Rattle.erase_laws.proofs.Total.{erases}
use Rattle.first_order.specs.Applied.{IsSourceOf, source_of, AreSourcesOf, no_field_source, field_source, AreArguments}
use Rattle.applied_terms.proofs.Built.{built_head}
use Rattle.applied_terms.proofs.Pared.{Pared, pared_construct, ParedList, pared_none, pared_one, pared_apply, pared_parameters, pared_count}
use Rattle.applied_terms.proofs.SourceTerms.{constructor_of, fields_count}
use Rattle.applied_terms.proofs.TypedTerms.{TypedArguments, no_typed, one_typed}

-- parameters erase to something

record AllErased (E : Env) (xs : List Term) : Type 0 where
  terms : List BoxTerm
  erase : ErasesAll E [] xs terms

all_erased : {E : Env} {s : ℕ → Term} {xs As : List Term} → TypesAll bare E [] s xs As → AllErased E xs
all_erased no_terms = record { terms = []; erase = none }
all_erased (term p ps) = let (x', h) = erases p in let r = all_erased ps in record { terms = x' ∷ r.terms; erase = one h r.erase }

both_erase : {E : Env} {c : Context} {xs ys : List Term} {xs' ys' : List BoxTerm} → ErasesAll E c xs xs' → ErasesAll E c ys ys' → ErasesAll E c (xs ++ ys) (xs' ++ ys')
both_erase none qs = qs
both_erase (one p ps) qs = one p (both_erase ps qs)

both_named : (P : BoxProgram) (xs ys : List BoxTerm) → EachNamed P xs → EachNamed P ys → EachNamed P (xs ++ ys)
both_named P [] ys h g = g
both_named P (x ∷ xs) ys h g = (h.0, both_named P xs ys h.1 g)

boxes_evaluable : (P : BoxProgram) (n : ℕ) → AreEvaluable P (boxes n)
boxes_evaluable P zero = no_evaluable
boxes_evaluable P (suc n) = one_evaluable (evaluable tt (BoxEvaluates.value box_is)) (boxes_evaluable P n)

-- what a source term erases to, and what comes of it with box for parameters: a term of the data
record ErasedSource (E : Env) (P : BoxProgram) (t : Term) (d : Data) : Type 0 where
  before : BoxTerm
  after : BoxTerm
  erased : Erases E [] t before
  pared : Pared P before after
  named : NamesOnly P.constants after
  is : DataTerm P after d

record ErasedSources (E : Env) (P : BoxProgram) (xs : List Term) (ds : Data) : Type 0 where
  before : List BoxTerm
  after : List BoxTerm
  erased : ErasesAll E [] xs before
  pared : ParedList P before after
  named : EachNamed P after
  are : DataFields P after ds

module _ (E : Env) (h : IsAccepted E) (P : BoxProgram) (H : Serves E P) (S : List Shape) (M : Members E S) where
  mutual
    source_erased : {i : ℕ} {d : Data} {t T : Term} → IsSourceOf S i d t → Types bare E [] t T → ErasedSource E P t d
    source_erased {i = i} {T = T} (source_of {c = c} {t = t} {h = k} {js = js} {xs = xs} {ds = ds} at ctor rs e) typed =
        let m = M i k at in
        let F = m.declared in
        let C = constructor_of m.constructors c js ctor in
        let count = fields_count C rs in
        let parts = built_types E h [] k.family F c C.declared t k.parameters xs T IsContext.empty m.kept C.at (is_constructor m.kept C.at m.parameters count e) typed in
        let qs = all_erased parts.parameters in
        let r = sources_erased rs parts.arguments in
        let n = length qs.terms in
        let head = BConstruct k.family c in
        let params : n ≡ length F.parameters = all_lengths qs.erase ∙ m.parameters in
        let fields : length r.after ≡ length xs = pared_count r.pared ∙ all_lengths r.erased in
        let pared : Pared P (box_apply head (qs.terms ++ r.before)) (box_apply head (boxes n ++ r.after)) =
        subst (λ t. Pared P t (box_apply head (boxes n ++ r.after))) (sym (apply_append head qs.terms r.before)) (subst (λ t. Pared P (box_apply (box_apply head qs.terms) r.before) t) (sym (apply_append head (boxes n) r.after))
        (pared_apply r.pared (pared_parameters {j = 0} qs.terms (H.families k.family F m.kept, refl) (omega (arith, params)) built_head pared_construct))) in
        let con : IsBoxConstructor P k.family c (box_apply head (boxes n ++ r.after)) (boxes n) r.after =
        is_box_constructor (H.families k.family F m.kept, refl) (not_prop F.sort m.not_prop) (counts_at F.constructors c C.declared C.at) (boxes_number n ∙ params) (fields ∙ count) refl in
        record {
          before = box_apply head (qs.terms ++ r.before);
          after = box_apply head (boxes n ++ r.after);
          erased = erases_from (sym e) (apply_erases (construct m.kept m.not_prop) (both_erase qs.erase r.erased));
          pared = pared;
          named = named_apply P (boxes n ++ r.after) head (tt, tt) (both_named P (boxes n) r.after (named_boxes P n) r.named);
          is = subst (λ m. DataTerm P (box_apply head (boxes n ++ r.after)) ((c, m) ∷ ds)) fields (data_term con (boxes_evaluable P n) r.are);
        }

    sources_erased : {s : ℕ → Term} {As : List Term} {js : List ℕ} {ds : Data} {xs : List Term} → AreSourcesOf S js ds xs → TypesAll bare E [] s xs As → ErasedSources E P xs ds
    sources_erased no_field_source no_terms = record { before = []; after = []; erased = none; pared = pared_none; named = tt; are = no_data_field }
    sources_erased (field_source o os) (term p ps) =
        let x = source_erased o p in
        let r = sources_erased os ps in
        record { before = x.before ∷ r.before; after = x.after ∷ r.after; erased = one x.erased r.erased; pared = pared_one x.pared r.pared; named = (x.named, r.named); are = data_field x.is r.are }

-- and so the arguments
pub record ErasedArguments (E : Env) (P : BoxProgram) (xs : List Term) (ds : List Data) : Type 0 where
  pub before : List BoxTerm
  pub after : List BoxTerm
  pub erased : ErasesAll E [] xs before
  pub pared : ParedList P before after
  pub named : EachNamed P after
  pub are : DataTerms P after ds

pub arguments_erased : (E : Env) → IsAccepted E → (P : BoxProgram) → Serves E P → {Ss : List (List Shape)} {ds : List Data} {xs : List Term} → AreArguments Ss ds xs → TypedArguments E Ss xs → ErasedArguments E P xs ds
arguments_erased E h P H AreArguments.no_argument no_typed = record { before = []; after = []; erased = none; pared = pared_none; named = tt; are = no_data }
arguments_erased E h P H (AreArguments.an_argument {S = S} o os) (one_typed M p ps) =
    let x = source_erased E h P H S M o p in
    let r = arguments_erased E h P H os ps in
    record { before = x.before ∷ r.before; after = x.after ∷ r.after; erased = one x.erased r.erased; pared = pared_one x.pared r.pared; named = (x.named, r.named); are = more_data x.is r.are }
