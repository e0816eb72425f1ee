-- What a text spells is formed: names and levels are ASCII, a universe has a part, and a fixpoint's index is below the number of its definitions.
use Rattle.std.proofs.Common.{◌≡◌, ℕ, suc, ◌<◌, List, [], ◌∷◌, map, length, true, false, refl, sym, ap, subst, arith}
use Rattle.std.specs.Prelude.{nat_lt}
use Rattle.std.specs.Str.{IsAscii}
use Rattle.std.proofs.lemmas.Bool.Decides.{nat_tests}
use Rattle.sexp_reader.specs.Text.{Text, Open, Close, Atom}
use Rattle.sexp_reader.specs.Lex.{tokens_of}
use Rattle.dump_grammar.specs.Judge.{texts}
use Rattle.dump_grammar.specs.declared.keyword.Keyword.TheVariants as words
use Rattle.dump_grammar.specs.Numbers.{word}
use Rattle.dump_grammar.specs.Sorts.{PartForm, SortForm, PropForm, SetForm, TypeForm, parts, sort, part_meaning, sort_meaning}
use Rattle.dump_grammar.specs.Terms.{Form, FRel, FSort, FProd, FLambda, FLetIn, FApp, FConst, FInd, FConstruct, FCase, FFix, FCast, Forms, NoForm, OneForm, BranchForms, NoBranchForm, BranchForm, Definitions, NoDefinition, Definition, atoms, form, forms, branches, definitions, meaning, applied, meanings, branch_meanings, definition_meanings}
use Rattle.dump_grammar.specs.Declarations.{Binding, CtorForm, FamilyForm, BodyForm, NoneForm, SomeForm, DeclForm, ConstantForm, BlockForm, bindings, constructor, constructors, family, families, body, declaration, binding_meaning, constructor_meaning, family_meaning, body_meaning, declaration_meaning}
use Rattle.dump_grammar.specs.Environments.{ConstraintForm, Dump, level_names, constraints, declarations, dump, constraint_meaning, env_of, SpellsEnv}
use Rattle.dump_grammar.specs.Named.{Named, App, NamedEnv, terms_of, branches_of, defs_of}
use Rattle.dump_parser.proofs.Atoms.{ArePlain, lex-plain}
use Rattle.dump_reader.specs.Numbered.{recursive_arguments}
use Rattle.dump_reader.specs.Formed.{Each, IsFormedPart, IsFormedSort, IsFormed, AreFormed, AreFormedBranches, AreFormedDefs, IsFormedOption, IsFormedConstraint, IsFormedCtor, IsFormedFamily, IsFormedDecl, IsFormedEnv}

-- ---- sorts

parts-formed : (ps : List PartForm) (r : List Text) → ArePlain (parts ps r) → ArePlain r × Each IsFormedPart (map part_meaning ps)
unfolding parts
parts-formed [] r h = (h, tt)
parts-formed (p ∷ ps) r h = (let k = parts-formed ps r h.1.1.1.1 in (k.0, (h.1.0, k.1)))

sort-formed : (s : SortForm) (r : List Text) → ArePlain (sort s r) → ArePlain r × IsFormedSort (sort_meaning s)
unfolding sort sort_meaning
sort-formed PropForm r h = (h.1, tt)
sort-formed SetForm r h = (h.1, (λ e. cc, (h.0, tt)))
sort-formed (TypeForm p more) r h = (let k = parts-formed more (Close ∷ r) h.1.1.1.1.1.1 in (k.0.1, (λ e. cc, (h.1.1.1.0, k.1))))

-- ---- terms

atoms-formed : (ns : List (List ℕ)) (r : List Text) → ArePlain (atoms ns r) → ArePlain r × Each IsAscii ns
unfolding atoms
atoms-formed [] r h = (h, tt)
atoms-formed (a ∷ ns) r h = (let k = atoms-formed ns r h.1 in (k.0, (h.0, k.1)))

definition-count : {m : ℕ} (ds : Definitions m) → length (recursive_arguments (defs_of (definition_meanings ds))) ≡ m
unfolding recursive_arguments meaning
definition-count NoDefinition = refl
definition-count (Definition na A b n more) = ap (λ k. suc k) (definition-count more)

below-count : (i m n : ℕ) → n ≡ m → nat_lt i (suc m) ≡ true → i < suc n
below-count i m n e h = grind (arith, nat_tests)

mutual
  unfolding form meaning IsFormed recursive_arguments

  form-formed : (f : Form) (r : List Text) → ArePlain (form f r) → ArePlain r × IsFormed (meaning f)
  form-formed (FRel n) r h = (h.1.1.1, tt)
  form-formed (FSort s) r h = (let k = sort-formed s (Close ∷ r) h.1 in (k.0.1, k.1))
  form-formed (FProd na A B) r h =
      let k = form-formed A (Open ∷ form B (Close ∷ r)) h.1.1.1 in
      let l = form-formed B (Close ∷ r) k.0.1 in
      (l.0.1, (k.1, l.1))
  form-formed (FLambda na A b) r h =
      let k = form-formed A (Open ∷ form b (Close ∷ r)) h.1.1.1 in
      let l = form-formed b (Close ∷ r) k.0.1 in
      (l.0.1, (k.1, l.1))
  form-formed (FLetIn na b B t) r h =
      let k = form-formed b (Open ∷ form B (Open ∷ form t (Close ∷ r))) h.1.1.1 in
      let l = form-formed B (Open ∷ form t (Close ∷ r)) k.0.1 in
      let m = form-formed t (Close ∷ r) l.0.1 in
      (m.0.1, (k.1, l.1, m.1))
  form-formed (FApp f a more) r h =
      let k = form-formed f (Open ∷ form a (forms more (Close ∷ r))) h.1.1 in
      let l = form-formed a (forms more (Close ∷ r)) k.0.1 in
      let m = applied-formed (App (meaning f) (meaning a)) more (Close ∷ r) (k.1, l.1) l.0 in
      (m.0.1, m.1)
  form-formed (FConst k) r h = (h.1.1.1, h.1.0)
  form-formed (FInd k n) r h = (h.1.1.1.1, h.1.0)
  form-formed (FConstruct k n c) r h = (h.1.1.1.1.1, h.1.0)
  form-formed (FCase k n params names ret scrut brs) r h =
      let p = forms-formed params (Close ∷ Open ∷ word words.Pred ∷ Open ∷ atoms names (Close ∷ Open ∷ form ret (Close ∷ Open ∷ form scrut (branches brs (Close ∷ r))))) h.1.1.1.1.1.1.1 in
      let q = atoms-formed names (Close ∷ Open ∷ form ret (Close ∷ Open ∷ form scrut (branches brs (Close ∷ r)))) p.0.1.1.1.1 in
      let s = form-formed ret (Close ∷ Open ∷ form scrut (branches brs (Close ∷ r))) q.0.1.1 in
      let t = form-formed scrut (branches brs (Close ∷ r)) s.0.1.1 in
      let u = branches-formed brs (Close ∷ r) t.0 in
      (u.0.1, (h.1.1.0, p.1, s.1, t.1, u.1))
  form-formed (FFix {m} na A b n more i below) r h =
      let k = form-formed A (Open ∷ form b (Atom n.atom ∷ Close ∷ definitions more (Close ∷ Atom i.atom ∷ Close ∷ r))) h.1.1.1.1.1.1 in
      let l = form-formed b (Atom n.atom ∷ Close ∷ definitions more (Close ∷ Atom i.atom ∷ Close ∷ r)) k.0.1 in
      let d = definitions-formed more (Close ∷ Atom i.atom ∷ Close ∷ r) l.0.1.1 in
      (d.0.1.1.1, (below-count i.value m (length (recursive_arguments (defs_of (definition_meanings more)))) (definition-count more) below, (k.1, l.1, d.1)))
  form-formed (FCast t kind T) r h =
      let k = form-formed t (Atom kind ∷ Open ∷ form T (Close ∷ r)) h.1.1 in
      let l = form-formed T (Close ∷ r) k.0.1.1 in
      (l.0.1, ((l.1, tt), k.1))

  applied-formed : (g : Named) (more : Forms) (r : List Text) → IsFormed g → ArePlain (forms more r) → ArePlain r × IsFormed (applied g more)
  applied-formed g NoForm r p h = (h, p)
  applied-formed g (OneForm f more) r p h = (let k = form-formed f (forms more r) h.1 in applied-formed (App g (meaning f)) more r (p, k.1) k.0)

  forms-formed : (fs : Forms) (r : List Text) → ArePlain (forms fs r) → ArePlain r × AreFormed (terms_of (meanings fs))
  forms-formed NoForm r h = (h, tt)
  forms-formed (OneForm f more) r h =
      let k = form-formed f (forms more r) h.1 in
      let l = forms-formed more r k.0 in
      (l.0, (k.1, l.1))

  branches-formed : (bs : BranchForms) (r : List Text) → ArePlain (branches bs r) → ArePlain r × AreFormedBranches (branches_of (branch_meanings bs))
  branches-formed NoBranchForm r h = (h, tt)
  branches-formed (BranchForm names b more) r h =
      let q = atoms-formed names (Close ∷ Open ∷ form b (Close ∷ branches more r)) h.1.1.1 in
      let k = form-formed b (Close ∷ branches more r) q.0.1.1 in
      let l = branches-formed more r k.0.1 in
      (l.0, (k.1, l.1))

  definitions-formed : {m : ℕ} (ds : Definitions m) (r : List Text) → ArePlain (definitions ds r) → ArePlain r × AreFormedDefs (defs_of (definition_meanings ds))
  definitions-formed NoDefinition r h = (h, tt)
  definitions-formed (Definition na A b n more) r h =
      let k = form-formed A (Open ∷ form b (Atom n.atom ∷ Close ∷ definitions more r)) h.1.1.1.1 in
      let l = form-formed b (Atom n.atom ∷ Close ∷ definitions more r) k.0.1 in
      let d = definitions-formed more r l.0.1.1 in
      (d.0, (k.1, l.1, d.1))

-- ---- declarations

bindings-formed : (bs : List Binding) (r : List Text) → ArePlain (bindings bs r) → ArePlain r × Each IsFormed (map binding_meaning bs)
unfolding bindings
bindings-formed [] r h = (h, tt)
bindings-formed (b ∷ more) r h =
    let k = form-formed b.type (Close ∷ bindings more r) h.1.1.1 in
    let l = bindings-formed more r k.0.1 in
    (l.0, (k.1, l.1))

results-formed : (fs : Forms) (r : List Text) → ArePlain (forms fs r) → ArePlain r × Each IsFormed (meanings fs)
unfolding form meaning
results-formed NoForm r h = (h, tt)
results-formed (OneForm f more) r h =
    let k = form-formed f (forms more r) h.1 in
    let l = results-formed more r k.0 in
    (l.0, (k.1, l.1))

ctor-formed : (c : CtorForm) (r : List Text) → ArePlain (constructor c r) → ArePlain r × IsFormedCtor (constructor_meaning c)
ctor-formed c r h =
    let k = bindings-formed c.args (Close ∷ Open ∷ word words.Result ∷ forms c.result (Close ∷ Close ∷ r)) h.1.1.1.1 in
    let l = results-formed c.result (Close ∷ Close ∷ r) k.0.1.1.1 in
    (l.0.1.1, (h.1.0, k.1, l.1))

ctors-formed : (cs : List CtorForm) (r : List Text) → ArePlain (constructors cs r) → ArePlain r × Each IsFormedCtor (map constructor_meaning cs)
unfolding constructors
ctors-formed [] r h = (h, tt)
ctors-formed (c ∷ more) r h =
    let k = ctor-formed c (constructors more r) h.1 in
    let l = ctors-formed more r k.0 in
    (l.0, (k.1, l.1))

family-formed : (f : FamilyForm) (r : List Text) → ArePlain (family f r) → ArePlain r × IsFormedFamily (family_meaning f)
family-formed f r h =
    let s = sort-formed f.sort (Close ∷ Open ∷ word words.Indices ∷ bindings f.indices (Close ∷ constructors f.ctors (Close ∷ r))) h.1.1.1.1 in
    let k = bindings-formed f.indices (Close ∷ constructors f.ctors (Close ∷ r)) s.0.1.1.1 in
    let l = ctors-formed f.ctors (Close ∷ r) k.0.1 in
    (l.0.1, (h.1.0, s.1, k.1, l.1))

families-formed : (fs : List FamilyForm) (r : List Text) → ArePlain (families fs r) → ArePlain r × Each IsFormedFamily (map family_meaning fs)
unfolding families
families-formed [] r h = (h, tt)
families-formed (f ∷ more) r h =
    let k = family-formed f (families more r) h.1 in
    let l = families-formed more r k.0 in
    (l.0, (k.1, l.1))

body-formed : (b : BodyForm) (r : List Text) → ArePlain (body b r) → ArePlain r × IsFormedOption (body_meaning b)
unfolding body
body-formed NoneForm r h = (h.1, tt)
body-formed (SomeForm f) r h = form-formed f r h.1

declaration-formed : (d : DeclForm) (r : List Text) → ArePlain (declaration d r) → ArePlain r × IsFormedDecl (declaration_meaning d)
unfolding declaration declaration_meaning
declaration-formed (ConstantForm k A b) r h =
    let l = form-formed A (body b (Close ∷ r)) h.1.1.1 in
    let m = body-formed b (Close ∷ r) l.0 in
    (m.0.1, (h.1.0, l.1, m.1))
declaration-formed (BlockForm k ps f more) r h =
    let l = bindings-formed ps (Close ∷ Open ∷ family f (families more (Close ∷ r))) h.1.1.1.1 in
    let m = family-formed f (families more (Close ∷ r)) l.0.1.1 in
    let n = families-formed more (Close ∷ r) m.0 in
    (n.0.1, (h.1.0, l.1, (m.1, n.1)))

-- ---- environments

constraints-formed : (cs : List ConstraintForm) (r : List Text) → ArePlain (constraints cs r) → ArePlain r × Each IsFormedConstraint (map constraint_meaning cs)
unfolding constraints
constraints-formed [] r h = (h, tt)
constraints-formed (c ∷ more) r h = (let k = constraints-formed more r h.1.1.1.1.1 in (k.0, ((h.1.1.0, h.1.1.1.0), k.1)))

declarations-formed : (ds : List DeclForm) (t : Form) (r : List Text) → ArePlain (declarations ds t r) → ArePlain r × Each IsFormedDecl (map declaration_meaning ds) × IsFormed (meaning t)
unfolding declarations
declarations-formed [] t r h = (let k = form-formed t (Close ∷ r) h.1.1 in (k.0.1, tt, k.1))
declarations-formed (d ∷ more) t r h =
    let k = declaration-formed d (Open ∷ declarations more t r) h in
    let l = declarations-formed more t r k.0.1 in
    (l.0, (k.1, l.1), l.2)

dump-formed : (d : Dump) → ArePlain (dump d []) → IsFormedEnv (env_of d)
dump-formed d h =
    let l = atoms-formed (level_names d.levels) (Close ∷ Open ∷ word words.Constraints ∷ constraints d.constraints (Close ∷ Open ∷ declarations d.decls d.main (Close ∷ []))) h.1.1.1.1.1 in
    let c = constraints-formed d.constraints (Close ∷ Open ∷ declarations d.decls d.main (Close ∷ [])) l.0.1.1.1 in
    let k = declarations-formed d.decls d.main (Close ∷ []) c.0.1.1 in
    record { levels = l.1; constraints = c.1; decls = k.1; main = k.2 }

pub spelled-formed : (bytes : List ℕ) (env : NamedEnv) → SpellsEnv (texts (tokens_of bytes)) env → IsFormedEnv env
spelled-formed bytes env s = subst (λ (e : NamedEnv). IsFormedEnv e) (sym s.2) (dump-formed s.0 (subst (λ (ts : List Text). ArePlain ts) s.1 (lex-plain bytes 0 false)))
