-- The terms of an environment that some text spells are formed as terms in memory are.
use Rattle.std.proofs.Common.{◌≡◌, ℕ, suc, List, [], ◌∷◌, length, map, Option, Some, None, option_map, refl, sym, ap, subst}
use Rattle.dump_grammar.specs.Named.{Named, Rel, Sort, Prod, Lambda, LetIn, App, Const, Ind, Construct, Case, Fix, NamedTerms, NoTerm, OneTerm, NamedBranches, NoBranch, OneBranch, NamedDefs, NoDef, OneDef, NamedCtor, NamedFamily, NamedDecl, Constant, Block}
use Rattle.dump_grammar.specs.Numbering.{name_table, level_table}
use Rattle.dump_reader.specs.Formed.{Each, IsFormed as IsFormedText, AreFormed, AreFormedBranches, AreFormedDefs, IsFormedOption, IsFormedCtor, IsFormedFamily, IsFormedDecl}
use Rattle.dump_reader.specs.Numbered.{recursive_arguments, numbered_term, numbered_terms, numbered_branches, numbered_types, numbered_bodies}
use Rattle.dump_reader.specs.NumberedEnvironment.{numbered_ctor, numbered_family, numbered_decl}
use Rattle.dump_reader.specs.declared.environment.RawEnv.{RawEnv}
use Rattle.dump_reader.specs.Spelled.{IsSpelled}
use Rattle.dump_reader.proofs.Verdicts.{fine-formed}
use Rattle.pc_terms.specs.Formed.{IsFormed, HasForm, EachTerm, AreAll, binders_of}
use Rattle.rule_laws.specs.Inference.{AllFormed}
use Rattle.rule_laws.specs.Declarations.{ConstructorsFormed, FamiliesFormed, BodyFormed, GivenFormed, AllGivenFormed}
use Rattle.inductive_check.specs.Given.{ctor_of, family_of, given_of}
use Rattle.env_check.specs.Rules.{givens}

module _ (ns ls : List (List ℕ)) where
  under_none : (ts : NamedTerms) → AreAll 0 (binders_of (numbered_terms ns ls ts))
  unfolding numbered_term
  under_none NoTerm = tt
  under_none (OneTerm t more) = (refl, under_none more)

  types_under : (ds : NamedDefs) → AreAll 0 (binders_of (numbered_types ns ls ds))
  unfolding numbered_term
  types_under NoDef = tt
  types_under (OneDef A b n more) = (refl, types_under more)

  types_many : (ds : NamedDefs) → length (binders_of (numbered_types ns ls ds)) ≡ length (recursive_arguments ds)
  unfolding numbered_term recursive_arguments
  types_many NoDef = refl
  types_many (OneDef A b n more) = ap suc (types_many more)

  bodies_under : (m : ℕ) (ds : NamedDefs) → AreAll m (binders_of (numbered_bodies ns ls m ds))
  unfolding numbered_term
  bodies_under m NoDef = tt
  bodies_under m (OneDef A b n more) = (refl, bodies_under m more)

  bodies_many : (m : ℕ) (ds : NamedDefs) → length (binders_of (numbered_bodies ns ls m ds)) ≡ length (recursive_arguments ds)
  unfolding numbered_term recursive_arguments
  bodies_many m NoDef = refl
  bodies_many m (OneDef A b n more) = ap suc (bodies_many m more)

  mutual
    unfolding numbered_term IsFormedText

    term_formed : (t : Named) → IsFormedText t → IsFormed (numbered_term ns ls t)
    term_formed (Rel n) h = tt
    term_formed (Sort s) h = ((tt, tt), tt)
    term_formed (Prod A B) h = ((tt, tt), (term_formed A h.0, (term_formed B h.1, tt)))
    term_formed (Lambda A b) h = ((tt, tt), (term_formed A h.0, (term_formed b h.1, tt)))
    term_formed (LetIn b B t) h = ((tt, tt), (term_formed b h.0, (term_formed B h.1, (term_formed t h.2, tt))))
    term_formed (App f a) h = ((tt, tt), (term_formed f h.0, (term_formed a h.1, tt)))
    term_formed (Const k) h = ((tt, tt), tt)
    term_formed (Ind k n) h = ((tt, tt), tt)
    term_formed (Construct k n c) h = ((tt, tt), tt)
    term_formed (Case k n ps m ret scrut bs) h = ((under_none ps, tt), (terms_formed ps h.1, (term_formed ret h.2, (term_formed scrut h.3, (branches_formed bs h.4, tt)))))
    term_formed (Fix ds i) h =
        let m = length (recursive_arguments ds) in
        (((types_many ds, types_under ds, bodies_many m ds, bodies_under m ds), h.0), (types_formed ds h.1, (bodies_formed m ds h.1, tt)))

    terms_formed : (ts : NamedTerms) → AreFormed ts → EachTerm HasForm (numbered_terms ns ls ts)
    terms_formed NoTerm h = tt
    terms_formed (OneTerm t more) h = (term_formed t h.0, terms_formed more h.1)

    branches_formed : (bs : NamedBranches) → AreFormedBranches bs → EachTerm HasForm (numbered_branches ns ls bs)
    branches_formed NoBranch h = tt
    branches_formed (OneBranch m b more) h = (term_formed b h.0, branches_formed more h.1)

    types_formed : (ds : NamedDefs) → AreFormedDefs ds → EachTerm HasForm (numbered_types ns ls ds)
    types_formed NoDef h = tt
    types_formed (OneDef A b n more) h = (term_formed A h.0, types_formed more h.2)

    bodies_formed : (m : ℕ) (ds : NamedDefs) → AreFormedDefs ds → EachTerm HasForm (numbered_bodies ns ls m ds)
    bodies_formed m NoDef h = tt
    bodies_formed m (OneDef A b n more) h = (term_formed b h.1, bodies_formed m more h.2)

  all_formed : (ts : List Named) → Each IsFormedText ts → AllFormed (map (numbered_term ns ls) ts)
  all_formed [] h = tt
  all_formed (t ∷ ts) h = (term_formed t h.0, all_formed ts h.1)

  constructors_formed : (cs : List NamedCtor) → Each IsFormedCtor cs → ConstructorsFormed (map ctor_of (map (numbered_ctor ns ls) cs))
  constructors_formed [] h = tt
  constructors_formed (c ∷ cs) h = ((all_formed c.args h.0.1, all_formed c.result h.0.2), constructors_formed cs h.1)

  families_formed : (fs : List NamedFamily) → Each IsFormedFamily fs → FamiliesFormed (map family_of (map (numbered_family ns ls) fs))
  families_formed [] h = tt
  families_formed (f ∷ fs) h = ((all_formed f.indices h.0.2, constructors_formed f.ctors h.0.3), families_formed fs h.1)

  body_formed : (b : Option Named) → IsFormedOption b → BodyFormed (option_map (numbered_term ns ls) b)
  body_formed None h = tt
  body_formed (Some b) h = term_formed b h

  given_formed : (d : NamedDecl) → IsFormedDecl d → GivenFormed (given_of (numbered_decl ns ls d))
  given_formed (Constant k A b) h = (term_formed A h.1, body_formed b h.2)
  given_formed (Block k ps fs) h = (all_formed ps h.1, families_formed fs h.2)

  all_given_formed : (ds : List NamedDecl) → Each IsFormedDecl ds → AllGivenFormed (map given_of (map (numbered_decl ns ls) ds))
  all_given_formed [] h = tt
  all_given_formed (d ∷ ds) h = (given_formed d h.0, all_given_formed ds h.1)

-- the declarations and main of what is read

pub read_formed : (e : RawEnv) → IsSpelled e → AllGivenFormed (givens e) × IsFormed e.main
read_formed e (bytes, env, verdict, is) =
    let f = fine-formed bytes env verdict in
    let ns = name_table env in
    let ls = level_table env in (
      subst (λ (x : RawEnv). AllGivenFormed (givens x)) (sym is) (all_given_formed ns ls env.decls f.decls),
      subst (λ (x : RawEnv). IsFormed x.main) (sym is) (term_formed ns ls env.main f.main),
    )
