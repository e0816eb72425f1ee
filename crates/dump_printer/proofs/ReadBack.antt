-- The canonical text is read back as the environment, where its nesting is within the limit.
use Rattle.std.proofs.Common.{◌≡◌, ℕ, ◌+◌, ◌≤◌, List, [], ◌∷◌, map, length, None, Ok, refl, subst}
use Rattle.sexp_reader.specs.Lex.{tokens_of}
use Rattle.dump_grammar.specs.Keywords.{spelling}
use Rattle.dump_grammar.specs.declared.keyword.Keyword.TheVariants as words
use Rattle.dump_grammar.specs.Numbering.{name_table, level_table}
use Rattle.dump_grammar.specs.Uses.{level_uses}
use Rattle.dump_grammar.specs.Terms.{Form, NoForm, meaning}
use Rattle.dump_grammar.specs.Declarations.{Binding, CtorForm, FamilyForm, BodyForm, NoneForm, SomeForm, DeclForm, ConstantForm, BlockForm, binding_meaning, constructor_meaning, family_meaning, body_meaning, declaration_meaning}
use Rattle.dump_grammar.specs.Environments.{Dump, env_of}
use Rattle.dump_grammar.specs.Within.{bindings_over, ctor_over, ctors_over, family_over, families_over, body_over, declaration_over, declarations_over, dump_over, tokens_over, forms_over, DumpIsWithin}
use Rattle.dump_grammar.proofs.Within.{limited}
use Rattle.dump_reader.specs.declared.environment.RawEnv.{RawEnv}
use Rattle.dump_reader.specs.Spelling.{IsVerdict}
use Rattle.dump_printer.specs.CanonicalTerms.{text_of}
use Rattle.dump_printer.specs.Canonical.{canonical_tokens, canonical_text}
use Rattle.dump_printer.specs.Nesting.{nesting}
use Rattle.dump_reader.specs.Spelled.{IsSpelled}
use Rattle.dump_printer.proofs.Fits.{Fits}
use Rattle.dump_printer.proofs.FitEnvironments.{FitEach, FitCtors, FitsFamily, FitFamilies, FitsOption, FitsDecl, FitDecls, results-apart}
use Rattle.dump_printer.proofs.CanonicalForms.{canon}
use Rattle.dump_printer.proofs.CanonicalEnvironments.{canon_binding, canon_ctor, canon_family, canon_body, canon_decl}
use Rattle.dump_printer.proofs.CanonicalLimits.{join, tokens-within, sort-over, canon-over, forms-over}
use Rattle.dump_printer.proofs.Printed.{set-first, dump-fit, canonical_dump}
use Rattle.dump_printer.proofs.Spelling.{formed, tokens-good, tokens-are, text-tokens, meant-again}
use Rattle.dump_grammar.proofs.NoLimit.{none_both}

no-more : forms_over NoForm ≡ None
unfolding forms_over
no-more = refl

module _ (ns ls : List (List ℕ)) (set : text_of ls 0 ≡ spelling words.Set) where
  bindings-over : (n : ℕ) (bs : List Binding) → FitEach ns ls (map binding_meaning bs) → bindings_over n bs ≡ None → bindings_over n (map (canon_binding ls) bs) ≡ None
  unfolding bindings_over
  bindings-over n [] h o = refl
  bindings-over n (b ∷ bs) h o =
      let x = none_both _ _ o in
      let y = none_both _ _ x.1 in
      join _ _ x.0 (join _ _ (canon-over ls ns set b.type h.0 y.0).0 (bindings-over (n + 1) bs h.1 y.1))

  ctors-over : (n : ℕ) (ks : List CtorForm) → FitCtors ns ls (map constructor_meaning ks) → ctors_over n ks ≡ None → ctors_over n (map (canon_ctor ls) ks) ≡ None
  unfolding ctors_over
  ctors-over n [] h o = refl
  ctors-over n (k ∷ ks) h o =
      let x = none_both _ _ o in
      let y = none_both (ctor_over k) (ctors_over (n + 1) ks) x.1 in
      let z = none_both _ _ y.0 in
      join _ _ x.0 (join _ _ (join _ _ (bindings-over 0 k.args h.0.1 z.0) (forms-over ls ns set k.result (results-apart ns ls k.result h.0.2) z.1 NoForm (no-more))) (ctors-over (n + 1) ks h.1 y.1))

  family-over : (f : FamilyForm) → FitsFamily ns ls (family_meaning f) → family_over f ≡ None → family_over (canon_family ls f) ≡ None
  family-over f h o =
      let x = none_both _ _ o in
      let y = none_both _ _ x.1 in
      join _ _ (sort-over ls ns f.sort h.1 x.0) (join _ _ (bindings-over 0 f.indices h.2 y.0) (ctors-over 0 f.ctors h.3 y.1))

  families-over : (n : ℕ) (fs : List FamilyForm) → FitFamilies ns ls (map family_meaning fs) → families_over n fs ≡ None → families_over n (map (canon_family ls) fs) ≡ None
  unfolding families_over
  families-over n [] h o = refl
  families-over n (f ∷ fs) h o =
      let x = none_both _ _ o in
      let y = none_both (family_over f) (families_over (n + 1) fs) x.1 in
      join _ _ x.0 (join (family_over (canon_family ls f)) _ (family-over f h.0 y.0) (families-over (n + 1) fs h.1 y.1))

  body-over : (b : BodyForm) → FitsOption ns ls (body_meaning b) → body_over b ≡ None → body_over (canon_body ls b) ≡ None
  body-over NoneForm h o = refl
  body-over (SomeForm f) h o = (canon-over ls ns set f h o).0

  declaration-over : (d : DeclForm) → FitsDecl ns ls (declaration_meaning d) → declaration_over d ≡ None → declaration_over (canon_decl ls d) ≡ None
  unfolding declaration_over declaration_meaning
  declaration-over (ConstantForm k A b) h o = (let x = none_both _ _ o in join _ _ (canon-over ls ns set A h.1 x.0).0 (body-over b h.2 x.1))
  declaration-over (BlockForm k ps f more) h o =
      let x = none_both _ _ o in
      let y = none_both (family_over f) (families_over 1 more) x.1 in
      join _ _ (bindings-over 0 ps h.1 x.0) (join (family_over (canon_family ls f)) _ (family-over f h.2.0 y.0) (families-over 1 more h.2.1 y.1))

  declarations-over : (n : ℕ) (xs : List DeclForm) (t : Form) → FitDecls ns ls (map declaration_meaning xs) → Fits ns ls (meaning t) → declarations_over n xs t ≡ None → declarations_over n (map (canon_decl ls) xs) (canon ls t NoForm) ≡ None
  unfolding declarations_over
  declarations-over n [] t h k o = (canon-over ls ns set t k o).0
  declarations-over n (d ∷ xs) t h k o =
      let x = none_both _ _ o in
      let y = none_both _ _ x.1 in
      join _ _ x.0 (join _ _ (declaration-over d h.0 y.0) (declarations-over (n + 1) xs t h.1 k y.1))

dump-within : (d : Dump) (o : dump_over d ≡ None) → dump_over (canonical_dump d o) ≡ None
dump-within d o =
    let x = none_both _ _ o in
    let y = none_both _ _ x.1 in
    let h = dump-fit d o in
    let n = env_of d in
    join _ _ x.0 (join _ _ y.0 (declarations-over (name_table n) (level_table n) (set-first (level_uses n)) 0 d.decls d.main h.decls h.main y.1))

pub text-read-back : (e : RawEnv) → IsSpelled e → nesting (canonical_tokens e) ≤ 1000 → IsVerdict (canonical_text e) (Ok e)
text-read-back e s shallow =
    let h = formed e s in
    let d = canonical_dump h.form h.within.1 in
    let within : DumpIsWithin d = (subst (λ ts. tokens_over 0 ts ≡ None) (tokens-are e h) (tokens-within 0 (canonical_tokens e) (tokens-good e h) shallow), dump-within h.form h.within.1) in
    (env_of d, limited.within (length (canonical_text e)) (tokens_of (canonical_text e)) d (text-tokens e h) within, meant-again e h)
