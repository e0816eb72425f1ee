-- Declarations one after the other, and the whole environment.
use Rattle.std.proofs.Common.{◌≡◌, ◌∙◌, ℕ, zero, suc, ◌+◌, ◌-◌, ◌<◌, refl, sym, ap, subst, List, [], ◌∷◌, ◌++◌, map, reverse, take, drop, drop-cons, get_or, length, add-one, None, Some, slice_get, Ok, Err, arith}
use Rattle.std.proofs.lemmas.List.{drop_all, take_all, drop-map, take-map, map-append, reverse-append}
use Rattle.std.proofs.Math.Seq.{take-suc}
use Rattle.universe_levels.specs.declared.level.Level.{Level}
use Rattle.universe_levels.specs.declared.constraint.Constraint.{Constraint}
use Rattle.pc_terms.specs.Syntax.{Term}
use Rattle.dump_reader.specs.declared.declaration.RawDecl.{RawDecl}
use Rattle.calculus_rules.specs.declared.declaration.Kept.{Kept}
use Rattle.pc_rules.specs.declared.meter.Account.{Account}
use Rattle.pc_rules.specs.declared.meter.Meter.{Meter}
use Rattle.pc_rules.specs.declared.broken.Place.TheVariants.{Declaration as AtDeclaration}
use Rattle.pc_rules.specs.declared.stop.Halt.{Halt}
use Rattle.calculus_rules.specs.Environment.{Env, name_of}
use Rattle.pc_rules.specs.Lookup.{IsNew, with_kept}
use Rattle.calculus_rules.specs.Accepted.{IsFresh, Accepted, constant, block, IsAccepted}
use Rattle.calculus_rules.specs.Typing.{Types, guarded}
use Rattle.pc_rules.specs.Entailment.{test_of}
use Rattle.pc_rules.specs.Follows.{Halts, IsAfter, Follows}
use Rattle.calculus_rules.specs.Lookups.{kept_at}
use Rattle.pc_rules.specs.DirectedRun as run
use Rattle.pc_rules.specs.DirectedDeclarations.{Given, declaration_rule, declarations_rule, main_rule, first_repeated}
use Rattle.pc_rules.specs.DirectedRun.{most_nested}
use Rattle.rule_laws.specs.Declarations.{plain, plain_given, IsCheckedDeclaration, IsCheckedEnvironment}
use Rattle.rule_laws.proofs.TypedCounts.{accepted_counted}
use Rattle.rule_laws.proofs.Extending.{not_found}
use Rattle.rule_laws.proofs.Environments.{distinct_levels}
use Rattle.inductive_check.specs.Given.{given_of}
use Rattle.env_check.specs.Answers.{CheckAnswers}
use Rattle.env_check.specs.Places.{first, next, StandsAt}
use Rattle.env_check.specs.Steps.{refusal_at, LeadsTo, HasChecked}
use Rattle.env_check.proofs.Steps.{leads_refl, leads_trans, leads_answers, declarations_next, declarations_halted, declarations_end, declaration_place}

last_first : (d : Given) (xs : List Given) → reverse (map plain_given (xs ++ d ∷ [])) ≡ plain_given d ∷ reverse (map plain_given xs)
last_first d xs = ap reverse (map-append plain_given xs (d ∷ [])) ∙ reverse-append (map plain_given xs) (plain_given d ∷ [])

-- nothing has been checked

pub checked_none : (E : Env) (n : ℕ) (ds : List Given) (u : Account) → IsAccepted E → E.declarations ≡ [] → HasChecked E n ds u 0 E u
checked_none E n ds u a e = record {
  leads = λ main. subst (λ ks. LeadsTo (declarations_rule E.levels E.constraints (test_of E) n 0 [] ds main u) (declarations_rule E.levels E.constraints (test_of E) n 0 ks ds main u))
      (sym e) (leads_refl (declarations_rule E.levels E.constraints (test_of E) n 0 [] ds main u));
  accepted = a;
  levels = refl;
  constraints = refl;
  comes = first;
  same = ap (λ ks. map plain ks) e;
}

-- one more

given_there : (i : ℕ) (ds rest : List Given) (d : Given) → drop i ds ≡ d ∷ rest → slice_get ds i ≡ Some d
given_there zero [] rest d e = absurd cc
given_there zero (x ∷ ds) rest d e = let q : x ≡ d = cc in ap Some q
given_there (suc i) [] rest d e = absurd cc
given_there (suc i) (x ∷ ds) rest d e = given_there i ds rest d e

module _ (E : Env) (n : ℕ) (ds : List Given) (u : Account) (i : ℕ) (H : Env) (v : Account) (c : HasChecked E n ds u i H v) (d : Given) (at : drop i ds ≡ d ∷ drop (suc i) ds) where
  next_leads : (k : Kept) (w : Account) → (declaration_rule H (test_of H) n d v).end ≡ run.Done k w → (main : Term) →
      LeadsTo (declarations_rule E.levels E.constraints (test_of E) n 0 [] ds main u) (declarations_rule H.levels H.constraints (test_of H) n (suc i) (k ∷ H.declarations) (drop (suc i) ds) main w)
  next_leads k w e main =
      let here = subst (λ rest. LeadsTo (declarations_rule E.levels E.constraints (test_of E) n 0 [] ds main u) (declarations_rule H.levels H.constraints (test_of H) n i H.declarations rest main v)) at (c.leads main) in
      leads_trans _ _ _ here (declarations_next H.levels H.constraints (test_of H) n i H.declarations d (drop (suc i) ds) main v w k e)

  pub checked_more : (k : Kept) (w : Account) (H' : Env) → take (suc i) ds ≡ take i ds ++ d ∷ [] → (declaration_rule H (test_of H) n d v).end ≡ run.Done k w →
      IsCheckedDeclaration H.levels H.constraints H.declarations d k → H' ≡ with_kept H k → HasChecked E n ds u (suc i) H' w
  checked_more k w H' taken e is kept =
      let a = c.accepted in
      let more : HasChecked E n ds u (suc i) (with_kept H k) w = record {
        leads = next_leads k w e;
        accepted = record { over = a.over; consistent = a.consistent; declarations = is.accepted };
        levels = c.levels;
        constraints = c.constraints;
        comes = next c.comes (given_there i ds (drop (suc i) ds) d at) e;
        same = ap (λ x. x ∷ map plain H.declarations) is.same ∙ ap (λ xs. plain_given d ∷ xs) c.same
            ∙ sym (ap (λ xs. reverse (map plain_given xs)) taken ∙ last_first d (take i ds));
      } in
      subst (λ X. HasChecked E n ds u (suc i) X w) (sym kept) more

  pub checked_halted : (h : Halt) (w : Account) → Halts (declaration_rule H (test_of H) n d v) h w → (main : Term) →
      CheckAnswers (declarations_rule E.levels E.constraints (test_of E) n 0 [] ds main u) (Err (refusal_at (AtDeclaration i) v h)) w
  checked_halted h w e main =
      let here = subst (λ rest. LeadsTo (declarations_rule E.levels E.constraints (test_of E) n 0 [] ds main u) (declarations_rule H.levels H.constraints (test_of H) n i H.declarations rest main v)) at (c.leads main) in
      leads_answers _ _ (Err (refusal_at (AtDeclaration i) v h)) w here (declarations_halted H.levels H.constraints (test_of H) n i H.declarations d (drop (suc i) ds) main v w h e)

-- one more of those that are read

given_at : (xs : List RawDecl) (i : ℕ) (x : RawDecl) → i < length xs → x ≡ get_or xs i x → drop i (map given_of xs) ≡ given_of x ∷ drop (suc i) (map given_of xs)
given_at xs i x within is =
    drop-map given_of i xs ∙ ap (λ ys. map given_of ys) (drop-cons xs i x within ∙ ap (λ y. y ∷ drop (suc i) xs) (sym is)) ∙ ap (λ ys. given_of x ∷ ys) (sym (drop-map given_of (suc i) xs))

given_taken : (xs : List RawDecl) (i : ℕ) (x : RawDecl) → i < length xs → x ≡ get_or xs i x → take (suc i) (map given_of xs) ≡ take i (map given_of xs) ++ given_of x ∷ []
given_taken xs i x within is =
    take-map given_of (suc i) xs ∙ ap (λ ys. map given_of ys) (take-suc xs i x within ∙ ap (λ y. take i xs ++ y ∷ []) (sym is))
    ∙ map-append given_of (take i xs) (x ∷ []) ∙ ap (λ ys. ys ++ given_of x ∷ []) (sym (take-map given_of i xs))

accepted_fresh : {levels : ℕ} {cs : List Constraint} {k : Kept} {ds : List Kept} → Accepted levels cs (k ∷ ds) → IsFresh (name_of k) ds
accepted_fresh (constant a fresh typed fits) = fresh
accepted_fresh (block a fresh fits) = fresh

pub checked_new : (H : Env) (d : Given) (k : Kept) → IsCheckedDeclaration H.levels H.constraints H.declarations d k → IsNew H (name_of k)
checked_new H d k is = not_found H.declarations (name_of k) (kept_at H.declarations (name_of k)) (accepted_fresh is.accepted) refl

module _ (E : Env) (m0 : Meter) (xs : List RawDecl) (i : ℕ) (H : Env) (m : Meter) (c : HasChecked E (most_nested - m0.nest) (map given_of xs) m0.account i H m.account) (after : IsAfter m0 m)
    (x : RawDecl) (within : i < length xs) (is : x ≡ get_or xs i x) where
  pub read_more : (k : Kept) (m1 : Meter) (H' : Env) → Follows (declaration_rule H (test_of H) (most_nested - m.nest) (given_of x) m.account) (Ok k) m m1 →
      IsCheckedDeclaration H.levels H.constraints H.declarations (given_of x) k → H' ≡ with_kept H k → HasChecked E (most_nested - m0.nest) (map given_of xs) m0.account (i + 1) H' m1.account
  read_more k m1 H' f checked kept =
      let e = subst (λ n. (declaration_rule H (test_of H) (most_nested - n) (given_of x) m.account).end ≡ run.Done k m1.account) after.nest f.answer in
      rw add-one (checked_more E (most_nested - m0.nest) (map given_of xs) m0.account i H m.account c (given_of x) (given_at xs i x within is) k m1.account H' (given_taken xs i x within is) e checked kept)

  pub read_halted : (h : Halt) (m1 : Meter) → Follows (declaration_rule H (test_of H) (most_nested - m.nest) (given_of x) m.account) (Err h) m m1 → (main : Term) →
      CheckAnswers (declarations_rule E.levels E.constraints (test_of E) (most_nested - m0.nest) 0 [] (map given_of xs) main m0.account) (Err (refusal_at (AtDeclaration i) m.account h)) m1.account
  read_halted h m1 f main =
      let e = subst (λ n. Halts (declaration_rule H (test_of H) (most_nested - n) (given_of x) m.account) h m1.account) after.nest f.answer in
      checked_halted E (most_nested - m0.nest) (map given_of xs) m0.account i H m.account c (given_of x) (given_at xs i x within is) h m1.account e main

  pub read_place : (h : Halt) (m1 : Meter) → Follows (declaration_rule H (test_of H) (most_nested - m.nest) (given_of x) m.account) (Err h) m m1 → (main : Term) →
      StandsAt E (most_nested - m0.nest) (map given_of xs) main m0.account (refusal_at (AtDeclaration i) m.account h)
  read_place h m1 f main =
      let e = subst (λ n. Halts (declaration_rule H (test_of H) (most_nested - n) (given_of x) m.account) h m1.account) after.nest f.answer in
      declaration_place E (most_nested - m0.nest) (map given_of xs) m0.account i H m.account m1.account (given_of x) main h c.comes
      (given_there i (map given_of xs) (drop (suc i) (map given_of xs)) (given_of x) (given_at xs i x within is)) e

-- all of them

module _ (E : Env) (n : ℕ) (ds : List Given) (u : Account) (H : Env) (v : Account) (c : HasChecked E n ds u (length ds) H v) where
  pub checked_all : (main : Term) → LeadsTo (declarations_rule E.levels E.constraints (test_of E) n 0 [] ds main u) (main_rule H (test_of H) n main v)
  checked_all main =
      let here = subst (λ rest. LeadsTo (declarations_rule E.levels E.constraints (test_of E) n 0 [] ds main u) (declarations_rule H.levels H.constraints (test_of H) n (length ds) H.declarations rest main v))
      (drop_all (length ds) ds (omega arith)) (c.leads main) in
      leads_trans _ _ _ here (declarations_end H.levels H.constraints (test_of H) n (length ds) H.declarations main v)

  pub checked_whole : (levels : List Level) (cs : List Constraint) (main T : Term) → first_repeated 0 [] levels ≡ None → E.levels ≡ length levels → E.constraints ≡ cs → Types guarded H [] main T →
      IsCheckedEnvironment levels cs ds main H T
  checked_whole levels cs main T distinct el ec typed = record {
    formed = record { distinct = distinct_levels levels distinct; count = c.levels ∙ el; accepted = c.accepted; typed = typed };
    counted = accepted_counted H c.accepted;
    constraints = c.constraints ∙ ec;
    declarations = c.same ∙ ap (λ xs. reverse (map plain_given xs)) (take_all (length ds) ds (omega arith));
  }
