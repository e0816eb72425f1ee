-- The brackets of an environment's canonical tokens are all closed for the first time at their end.
use Rattle.std.proofs.Common.{◌≡◌, ℕ, zero, suc, ◌+◌, ◌-◌, ◌<◌, List, [], ◌∷◌, Option, Some, None, Bool, true, false, cond, ◌⊎◌, inl, inr, refl, subst, arith}
use Rattle.sexp_reader.specs.Text.{Text, Open, Close, Atom}
use Rattle.sexp_reader.specs.Lex.{nesting_after_text}
use Rattle.universe_levels.specs.declared.constraint.Constraint.{Constraint}
use Rattle.universe_levels.specs.declared.level.Level.{Level}
use Rattle.universe_levels.specs.declared.level.LevelExpr.{LevelExpr}
use Rattle.universe_levels.specs.declared.sort.Sort.{Sort as Sorts}
use Rattle.universe_levels.specs.declared.sort.Sort.TheVariants as sorts
use Rattle.dump_grammar.specs.declared.keyword.Keyword.TheVariants as words
use Rattle.dump_grammar.specs.Numbers.{word}
use Rattle.pc_terms.specs.Syntax.{Term, Terms, Done, Next, Rel, SortT, Prod, Lambda, LetIn, App, Const, Ind, Construct, Case, Fix}
use Rattle.dump_reader.specs.declared.declaration.RawCtor.{RawCtor}
use Rattle.dump_reader.specs.declared.declaration.RawFamily.{RawFamily}
use Rattle.dump_reader.specs.declared.declaration.RawDecl.{RawDecl}
use Rattle.dump_reader.specs.declared.declaration.RawDecl.TheVariants as decls
use Rattle.dump_reader.specs.declared.environment.RawEnv.{RawEnv}
use Rattle.dump_printer.specs.CanonicalTerms.{numeral, anonymous, anonymous_names, each, is_set, part, sort, term, terms, branches, pieces, definitions}
use Rattle.dump_printer.specs.Canonical as c

-- behind so many open brackets, all are closed for the first time at the end of the tokens
unfoldable pub Ends : ℕ → List Text → Type 0
Ends d [] = ⊥
Ends d (t ∷ ts) = ((nesting_after_text d t ≡ 0) × (ts ≡ [])) ⊎ ((0 < nesting_after_text d t) × Ends (nesting_after_text d t) ts)

-- tokens before others, of which all brackets are closed
abbrev Goes : (List Text → List Text) → Type 0
Goes p = (d : ℕ) (ts : List Text) → 0 < d → Ends d ts → Ends d (p ts)

an_atom : (d : ℕ) (a : List ℕ) (ts : List Text) → 0 < d → Ends d ts → Ends d (Atom a ∷ ts)
unfolding Ends
an_atom d a ts h e = inr (h, e)

opened : (d : ℕ) (ts : List Text) → Ends (d + 1) ts → Ends d (Open ∷ ts)
unfolding Ends
opened d ts e = inr ((let h : 0 < d + 1 = omega arith in h), e)

closed : (d : ℕ) (ts : List Text) → 0 < d → Ends d ts → Ends (d + 1) (Close ∷ ts)
unfolding Ends
closed d ts h e = (let q : d ≡ d + 1 - 1 = omega arith in inr (subst (λ m. 0 < m) q h, subst (λ m. Ends m ts) q e))

last_bracket : Ends 1 (Close ∷ [])
unfolding Ends
last_bracket = inl (refl, refl)

more : (d : ℕ) → 0 < d + 1
more d = omega arith

each_goes : {X : Type 0} (piece : X → List Text → List Text) → ((x : X) → Goes (piece x)) → (xs : List X) → Goes (each piece xs)
unfolding each
each_goes piece g [] d ts h e = e
each_goes piece g (x ∷ xs) d ts h e = g x d (each piece xs ts) h (each_goes piece g xs d ts h e)

names_go : (n : ℕ) → Goes (anonymous_names n)
unfolding anonymous_names
names_go zero d ts h e = e
names_go (suc n) d ts h e = an_atom d _ _ h (names_go n d ts h e)

module _ (ns ls : List (List ℕ)) where
  part_goes : (e : LevelExpr) → Goes (part ls e)
  part_goes x d ts h e = opened d _ (an_atom (d + 1) _ _ (more d) (an_atom (d + 1) _ _ (more d) (closed d ts h e)))

  sort_goes : (s : Sorts) → Goes (sort ls s)
  sort_goes sorts.Prop d ts h e = an_atom d _ ts h e
  sort_goes (sorts.Of u) d ts h e =
      let P : Bool → Type 0 = λ b. Ends d (cond b (word words.Set ∷ ts) (Open ∷ word words.Type ∷ each (part ls) u (Close ∷ ts))) in
      let on : (b : Bool) → P b = λ b. elim b as P [
        | true ↦ an_atom d _ ts h e
        | false ↦ opened d _ (an_atom (d + 1) _ _ (more d) (each_goes (part ls) part_goes u (d + 1) (Close ∷ ts) (more d) (closed d ts h e)))
      ] in
      on (is_set u)

  abbrev AllGo : List (List Text → List Text) → Type 0
  AllGo [] = Unit {0}
  AllGo (p ∷ ps) = Goes p × AllGo ps

  definitions_go : (rs : List ℕ) (As bs : List (List Text → List Text)) → AllGo As → AllGo bs → Goes (definitions rs As bs)
  definitions_go (r ∷ rs) (A ∷ As) (b ∷ bs) g k d ts h e =
      let rest = definitions rs As bs ts in
      opened d _ (an_atom (d + 1) _ _ (more d) (an_atom (d + 1) _ _ (more d)
      (g.0 (d + 1) (b (numeral r ∷ Close ∷ rest)) (more d)
      (k.0 (d + 1) (numeral r ∷ Close ∷ rest) (more d) (an_atom (d + 1) _ (Close ∷ rest) (more d) (closed d rest h (definitions_go rs As bs g.1 k.1 d ts h e)))))))
  definitions_go [] As bs g k d ts h e = e
  definitions_go (r ∷ rs) [] bs g k d ts h e = e
  definitions_go (r ∷ rs) (A ∷ As) [] g k d ts h e = e

  abbrev tree : Term → List Text → List Text
  tree t after = term false ns ls t after

  -- a word, a binder and two terms in brackets
  binder : (w : List ℕ) (A B : Term) → Goes (tree A) → Goes (tree B) → Goes (λ ts. Open ∷ Atom w ∷ anonymous ∷ tree A (tree B (Close ∷ ts)))
  binder w A B a b d ts h e = opened d _ (an_atom (d + 1) _ _ (more d) (an_atom (d + 1) _ _ (more d) (a (d + 1) (tree B (Close ∷ ts)) (more d) (b (d + 1) (Close ∷ ts) (more d) (closed d ts h e)))))

  mutual
    unfolding term

    term_goes : (r : Bool) (t : Term) → Goes (term r ns ls t)
    term_goes true (App f a) d ts h e = term_goes true f d (tree a ts) h (term_goes false a d ts h e)
    term_goes false (App f a) d ts h e =
        opened d _ (an_atom (d + 1) _ _ (more d) (term_goes true f (d + 1) (tree a (Close ∷ ts)) (more d) (term_goes false a (d + 1) (Close ∷ ts) (more d) (closed d ts h e))))
    term_goes r (Rel i) d ts h e = opened d _ (an_atom (d + 1) _ _ (more d) (an_atom (d + 1) _ _ (more d) (closed d ts h e)))
    term_goes r (SortT s) d ts h e = opened d _ (an_atom (d + 1) _ _ (more d) (sort_goes s (d + 1) (Close ∷ ts) (more d) (closed d ts h e)))
    term_goes r (Prod A B) d ts h e = binder _ A B (term_goes false A) (term_goes false B) d ts h e
    term_goes r (Lambda A b) d ts h e = binder _ A b (term_goes false A) (term_goes false b) d ts h e
    term_goes r (LetIn b B t) d ts h e =
        opened d _ (an_atom (d + 1) _ _ (more d) (an_atom (d + 1) _ _ (more d)
        (term_goes false b (d + 1) (tree B (tree t (Close ∷ ts))) (more d)
        (term_goes false B (d + 1) (tree t (Close ∷ ts)) (more d) (term_goes false t (d + 1) (Close ∷ ts) (more d) (closed d ts h e))))))
    term_goes r (Const k) d ts h e = opened d _ (an_atom (d + 1) _ _ (more d) (an_atom (d + 1) _ _ (more d) (closed d ts h e)))
    term_goes r (Ind f) d ts h e = opened d _ (an_atom (d + 1) _ _ (more d) (an_atom (d + 1) _ _ (more d) (an_atom (d + 1) _ _ (more d) (closed d ts h e))))
    term_goes r (Construct f n) d ts h e =
        opened d _ (an_atom (d + 1) _ _ (more d) (an_atom (d + 1) _ _ (more d) (an_atom (d + 1) _ _ (more d) (an_atom (d + 1) _ _ (more d) (closed d ts h e)))))
    term_goes r (Case f ps n ret s bs) d ts h e =
        let last = branches_go bs (d + 1) (Close ∷ ts) (more d) (closed d ts h e) in
        let scrutinee = term_goes false s (d + 1) (branches ns ls bs (Close ∷ ts)) (more d) last in
        let behind = tree s (branches ns ls bs (Close ∷ ts)) in
        let predicate = term_goes false ret (d + 1 + 1) (Close ∷ behind) (more (d + 1)) (closed (d + 1) behind (more d) scrutinee) in
        let names = names_go n (d + 1 + 1 + 1) (Close ∷ tree ret (Close ∷ behind)) (more (d + 1 + 1)) (closed (d + 1 + 1) (tree ret (Close ∷ behind)) (more (d + 1)) predicate) in
        let after = Open ∷ word words.Pred ∷ Open ∷ anonymous_names n (Close ∷ tree ret (Close ∷ behind)) in
        let pred = opened (d + 1) _ (an_atom (d + 1 + 1) _ _ (more (d + 1)) (opened (d + 1 + 1) _ names)) in
        let parameters = terms_go ps (d + 1 + 1) (Close ∷ after) (more (d + 1)) (closed (d + 1) after (more d) pred) in
        let list = opened (d + 1) _ (an_atom (d + 1 + 1) _ _ (more (d + 1)) parameters) in
        opened d _ (an_atom (d + 1) _ _ (more d)
        (opened (d + 1) _ (an_atom (d + 1 + 1) _ _ (more (d + 1)) (an_atom (d + 1 + 1) _ _ (more (d + 1)) (closed (d + 1) _ (more d) list)))))
    term_goes r (Fix i rs types bodies) d ts h e =
        let last = closed (d + 1) (numeral i ∷ Close ∷ ts) (more d) (an_atom (d + 1) _ (Close ∷ ts) (more d) (closed d ts h e)) in
        opened d _ (an_atom (d + 1) _ _ (more d)
        (opened (d + 1) _ (definitions_go rs (pieces ns ls types) (pieces ns ls bodies) (pieces_go types) (pieces_go bodies) (d + 1 + 1) (Close ∷ numeral i ∷ Close ∷ ts) (more (d + 1)) last)))

    terms_go : (us : Terms) → Goes (terms ns ls us)
    terms_go Done d ts h e = e
    terms_go (Next n t us) d ts h e = term_goes false t d (terms ns ls us ts) h (terms_go us d ts h e)

    branches_go : (bs : Terms) → Goes (branches ns ls bs)
    branches_go Done d ts h e = e
    branches_go (Next n t bs) d ts h e =
        let rest = branches ns ls bs ts in
        let body = term_goes false t (d + 1) (Close ∷ rest) (more d) (closed d rest h (branches_go bs d ts h e)) in
        opened d _ (an_atom (d + 1) _ _ (more d)
        (opened (d + 1) _ (names_go n (d + 1 + 1) (Close ∷ tree t (Close ∷ rest)) (more (d + 1)) (closed (d + 1) (tree t (Close ∷ rest)) (more d) body))))

    pieces_go : (us : Terms) → AllGo (pieces ns ls us)
    pieces_go Done = tt
    pieces_go (Next n t us) = ((λ d ts h e. term_goes false t d ts h e), pieces_go us)

  -- ---- environments

  binding_goes : (A : Term) → Goes (c.binding ns ls A)
  binding_goes A d ts h e = opened d _ (an_atom (d + 1) _ _ (more d) (term_goes false A (d + 1) (Close ∷ ts) (more d) (closed d ts h e)))

  constructor_goes : (k : RawCtor) → Goes (c.constructor ns ls k)
  constructor_goes k d ts h e =
      let last = closed (d + 1) (Close ∷ ts) (more d) (closed d ts h e) in
      let results = each_goes (term false ns ls) (λ t. term_goes false t) k.result (d + 1 + 1) (Close ∷ Close ∷ ts) (more (d + 1)) last in
      let result = opened (d + 1) _ (an_atom (d + 1 + 1) _ _ (more (d + 1)) results) in
      let arguments = each_goes (c.binding ns ls) binding_goes k.args (d + 1 + 1) _ (more (d + 1)) (closed (d + 1) _ (more d) result) in
      opened d _ (an_atom (d + 1) _ _ (more d) (an_atom (d + 1) _ _ (more d) (opened (d + 1) _ (an_atom (d + 1 + 1) _ _ (more (d + 1)) arguments))))

  family_goes : (f : RawFamily) → Goes (c.family ns ls f)
  family_goes f d ts h e =
      let ctors = each_goes (c.constructor ns ls) constructor_goes f.ctors (d + 1) (Close ∷ ts) (more d) (closed d ts h e) in
      let indices = each_goes (c.binding ns ls) binding_goes f.indices (d + 1 + 1) _ (more (d + 1)) (closed (d + 1) _ (more d) ctors) in
      let index = opened (d + 1) _ (an_atom (d + 1 + 1) _ _ (more (d + 1)) indices) in
      let its_sort = sort_goes f.sort (d + 1 + 1) _ (more (d + 1)) (closed (d + 1) _ (more d) index) in
      opened d _ (an_atom (d + 1) _ _ (more d) (an_atom (d + 1) _ _ (more d) (opened (d + 1) _ (an_atom (d + 1 + 1) _ _ (more (d + 1)) its_sort))))

  body_goes : (b : Option Term) → Goes (c.body ns ls b)
  body_goes None d ts h e = an_atom d _ ts h e
  body_goes (Some t) d ts h e = term_goes false t d ts h e

  declaration_goes : (x : RawDecl) → Goes (c.declaration ns ls x)
  declaration_goes (decls.Constant k A b) d ts h e =
      opened d _ (an_atom (d + 1) _ _ (more d) (an_atom (d + 1) _ _ (more d) (term_goes false A (d + 1) _ (more d) (body_goes b (d + 1) (Close ∷ ts) (more d) (closed d ts h e)))))
  declaration_goes (decls.Block k ps fs) d ts h e =
      let families = each_goes (c.family ns ls) family_goes fs (d + 1) (Close ∷ ts) (more d) (closed d ts h e) in
      let parameters = each_goes (c.binding ns ls) binding_goes ps (d + 1 + 1) _ (more (d + 1)) (closed (d + 1) _ (more d) families) in
      opened d _ (an_atom (d + 1) _ _ (more d) (an_atom (d + 1) _ _ (more d) (opened (d + 1) _ (an_atom (d + 1 + 1) _ _ (more (d + 1)) parameters))))

  level_goes : (l : Level) → Goes (c.level ls l)
  level_goes l d ts h e = an_atom d _ ts h e

  constraint_goes : (k : Constraint) → Goes (c.constraint ls k)
  constraint_goes k d ts h e = opened d _ (an_atom (d + 1) _ _ (more d) (an_atom (d + 1) _ _ (more d) (an_atom (d + 1) _ _ (more d) (closed d ts h e))))

pub canonical_ends : (e : RawEnv) → Ends 0 (c.canonical_tokens e)
canonical_ends e =
    let ns = e.names in
    let ls = e.level_names in
    let one : 0 < 0 + 1 = omega arith in
    let two : 0 < 0 + 1 + 1 = omega arith in
    let last : Ends (0 + 1) (Close ∷ []) = last_bracket in
    let main = term_goes ns ls false e.main (0 + 1 + 1) (Close ∷ Close ∷ []) two (closed (0 + 1) (Close ∷ []) one last) in
    let its_main = opened (0 + 1) _ (an_atom (0 + 1 + 1) _ _ two main) in
    let declarations = each_goes (c.declaration ns ls) (declaration_goes ns ls) e.decls (0 + 1) _ one its_main in
    let constraints = each_goes (c.constraint ls) (constraint_goes ns ls) e.constraints (0 + 1 + 1) _ two (closed (0 + 1) _ one declarations) in
    let constraint = opened (0 + 1) _ (an_atom (0 + 1 + 1) _ _ two constraints) in
    let levels = each_goes (c.level ls) (level_goes ns ls) e.levels (0 + 1 + 1) _ two (closed (0 + 1) _ one constraint) in
    opened 0 _ (an_atom (0 + 1) _ _ one (an_atom (0 + 1) _ _ one (opened (0 + 1) _ (an_atom (0 + 1 + 1) _ _ two levels))))
