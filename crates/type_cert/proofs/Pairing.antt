-- Parts that are put behind others, and what scripts make of them.
use Rattle.std.proofs.lemmas.Bool.{ne_eqb}
use Rattle.std.proofs.Common.{◌≡◌, ◌≢◌, ◌∙◌, sym, ap, refl, ℕ, ◌<◌, ◌≤◌, ◌+◌, ◌==◌, if◌then◌else◌, Bool, true, false, List, [], ◌∷◌, ◌++◌, length, drop, get_or, Option, Some, None, eq-eqb, append_assoc, append-nil, arith}
use Rattle.trees.specs.Tree.{terms_of}
use Rattle.pc_terms.specs.Syntax.{Term, Terms, Done, Next, CaseOf, FixOf}
use Rattle.pc_terms.specs.View.{tree_of}
use Rattle.pc_terms.specs.Lists.{arms_of, types_of, bodies_of, rargs_of}
use Rattle.pc_terms.specs.declared.term.Branch.{Branch}
use Rattle.pc_terms.specs.declared.term.Def.{Def}
use Rattle.pc_terms.specs.declared.term.Match.{Match}
use Rattle.pc_terms.specs.declared.term.Node.TheVariants as nodes
use Rattle.calculus_rules.specs.Context.{Values}
use Rattle.calculus_rules.specs.Same.{same_labels}
use Rattle.pc_rules.proofs.ListSteps.{next_is, none_left}
use Rattle.cert_rules.specs.Walk.{WalkAct}
use Rattle.cert_rules.specs.Scripts.{Script, with_part, term_parts, parts_of}
use Rattle.type_cert.specs.declared.parts.Part.{Part}
use Rattle.type_cert.specs.Pairs.{with_pair, pair_under, term_pairs, joined, paired_matches, paired_fixpoints, act_of, acted}

-- one part more

pub joined_pair : (ps : List Part) (p : Part) (o : Option (List Part)) → joined ps (with_pair p o) ≡ joined (ps ++ (p ∷ [])) o
joined_pair ps p None = refl
joined_pair ps p (Some qs) = ap Some (sym (append_assoc ps (p ∷ []) qs))

pub joined_from_none : (o : Option (List Part)) → joined [] o ≡ o
joined_from_none None = refl
joined_from_none (Some qs) = refl

pub joined_to_none : (ps : List Part) → joined ps (Some []) ≡ Some ps
joined_to_none ps = ap Some (append-nil ps)

-- two lists, from their next ones on

pair_next : (ps qs : List Part) (n m : ℕ) (t u : Term) (ts us : Terms) (o : Option (List Part)) → n ≡ m → qs ≡ ps ++ (pair_under n t u ∷ []) →
    joined ps (term_pairs (Next n t ts) (Next m u us) o) ≡ joined qs (term_pairs ts us o)
pair_next ps qs n m t u ts us o e r =
    ap (λ b. joined ps (if b then with_pair (pair_under n t u) (term_pairs ts us o) else None)) (eq-eqb n m e)
    ∙ joined_pair ps (pair_under n t u) (term_pairs ts us o) ∙ ap (λ q. joined q (term_pairs ts us o)) (sym r)

other_next : (ps : List Part) (n m : ℕ) (t u : Term) (ts us : Terms) (o : Option (List Part)) → (n == m) ≡ false → joined ps (term_pairs (Next n t ts) (Next m u us) o) ≡ None
other_next ps n m t u ts us o e = ap (λ b. joined ps (if b then with_pair (pair_under n t u) (term_pairs ts us o) else None)) e

module _ (ts us : List Term) (i : ℕ) (ps : List Part) (o : Option (List Part)) where
  abbrev terms_from : ℕ → List Part → Option (List Part)
  terms_from j qs = joined qs (term_pairs (terms_of (drop j ts)) (terms_of (drop j us)) o)

  pub terms_next : (t u : Term) (qs : List Part) → i < length ts → i < length us → t ≡ get_or ts i t → u ≡ get_or us i u → qs ≡ ps ++ (pair_under 0 t u ∷ []) →
      terms_from i ps ≡ terms_from (i + 1) qs
  terms_next t u qs h k e e' r =
      (λ j. joined ps (term_pairs (terms_of (next_is ts i t h e j)) (terms_of (next_is us i u k e' j)) o)) ∙ pair_next ps qs 0 0 t u (terms_of (drop (i + 1) ts)) (terms_of (drop (i + 1) us)) o refl r

  pub terms_end : length ts ≤ i → length us ≤ i → terms_from i ps ≡ joined ps o
  terms_end h k = λ j. joined ps (term_pairs (terms_of (none_left ts i h j)) (terms_of (none_left us i k j)) o)

pub terms_other : (ts us : List Term) (o : Option (List Part)) → (length ts ≡ length us → ⊥) → term_pairs (terms_of ts) (terms_of us) o ≡ None
terms_other [] [] o h = absurd (h refl)
terms_other [] (u ∷ us) o h = refl
terms_other (t ∷ ts) [] o h = refl
terms_other (t ∷ ts) (u ∷ us) o h = ap (λ x. with_pair (pair_under 0 t u) x) (terms_other ts us o (λ e. h (omega (arith, e))))

module _ (xs ys : List Branch) (i : ℕ) (ps : List Part) (o : Option (List Part)) (x y : Branch) (h : i < length xs) (k : i < length ys) (e : x ≡ get_or xs i x) (e' : y ≡ get_or ys i y) where
  abbrev arms_from : ℕ → List Part → Option (List Part)
  arms_from j qs = joined qs (term_pairs (arms_of (drop j xs)) (arms_of (drop j ys)) o)

  arms_here : arms_from i ps ≡ joined ps (term_pairs (arms_of (x ∷ drop (i + 1) xs)) (arms_of (y ∷ drop (i + 1) ys)) o)
  arms_here = λ j. joined ps (term_pairs (arms_of (next_is xs i x h e j)) (arms_of (next_is ys i y k e' j)) o)

  pub arms_next : (qs : List Part) → x.binders ≡ y.binders → qs ≡ ps ++ (pair_under x.binders x.body y.body ∷ []) → arms_from i ps ≡ arms_from (i + 1) qs
  arms_next qs b r = arms_here ∙ pair_next ps qs x.binders y.binders x.body y.body (arms_of (drop (i + 1) xs)) (arms_of (drop (i + 1) ys)) o b r

  pub arms_differ : x.binders ≢ y.binders → arms_from i ps ≡ None
  arms_differ b = arms_here ∙ other_next ps x.binders y.binders x.body y.body (arms_of (drop (i + 1) xs)) (arms_of (drop (i + 1) ys)) o (ne_eqb x.binders y.binders b)

pub arms_end : (xs ys : List Branch) (i : ℕ) (ps : List Part) (o : Option (List Part)) → length xs ≤ i → length ys ≤ i →
    joined ps (term_pairs (arms_of (drop i xs)) (arms_of (drop i ys)) o) ≡ joined ps o
arms_end xs ys i ps o h k = λ j. joined ps (term_pairs (arms_of (none_left xs i h j)) (arms_of (none_left ys i k j)) o)

arm_none : (b : Bool) (p : Part) (o : Option (List Part)) → o ≡ None → (if b then with_pair p o else None) ≡ None
arm_none true p o e = ap (λ x. with_pair p x) e
arm_none false p o e = refl

pub arms_other : (xs ys : List Branch) (o : Option (List Part)) → (length xs ≡ length ys → ⊥) → term_pairs (arms_of xs) (arms_of ys) o ≡ None
arms_other [] [] o h = absurd (h refl)
arms_other [] (y ∷ ys) o h = refl
arms_other (x ∷ xs) [] o h = refl
arms_other (x ∷ xs) (y ∷ ys) o h = arm_none (x.binders == y.binders) _ _ (arms_other xs ys o (λ e. h (omega (arith, e))))

module _ (ds es : List Def) (i : ℕ) (ps : List Part) (o : Option (List Part)) where
  pub types_next : (d e : Def) (qs : List Part) → i < length ds → i < length es → d ≡ get_or ds i d → e ≡ get_or es i e → qs ≡ ps ++ (pair_under 0 d.ty e.ty ∷ []) →
      joined ps (term_pairs (types_of (drop i ds)) (types_of (drop i es)) o) ≡ joined qs (term_pairs (types_of (drop (i + 1) ds)) (types_of (drop (i + 1) es)) o)
  types_next d e qs h k p p' r =
      (λ j. joined ps (term_pairs (types_of (next_is ds i d h p j)) (types_of (next_is es i e k p' j)) o)) ∙ pair_next ps qs 0 0 d.ty e.ty (types_of (drop (i + 1) ds)) (types_of (drop (i + 1) es)) o refl r

  pub types_end : length ds ≤ i → length es ≤ i → joined ps (term_pairs (types_of (drop i ds)) (types_of (drop i es)) o) ≡ joined ps o
  types_end h k = λ j. joined ps (term_pairs (types_of (none_left ds i h j)) (types_of (none_left es i k j)) o)

  pub bodies_next : (n : ℕ) (d e : Def) (qs : List Part) → i < length ds → i < length es → d ≡ get_or ds i d → e ≡ get_or es i e → qs ≡ ps ++ (pair_under n d.body e.body ∷ []) →
      joined ps (term_pairs (bodies_of n (drop i ds)) (bodies_of n (drop i es)) o) ≡ joined qs (term_pairs (bodies_of n (drop (i + 1) ds)) (bodies_of n (drop (i + 1) es)) o)
  bodies_next n d e qs h k p p' r =
      (λ j. joined ps (term_pairs (bodies_of n (next_is ds i d h p j)) (bodies_of n (next_is es i e k p' j)) o)) ∙ pair_next ps qs n n d.body e.body (bodies_of n (drop (i + 1) ds)) (bodies_of n (drop (i + 1) es)) o refl r

  pub bodies_end : (n : ℕ) → length ds ≤ i → length es ≤ i → joined ps (term_pairs (bodies_of n (drop i ds)) (bodies_of n (drop i es)) o) ≡ joined ps o
  bodies_end n h k = λ j. joined ps (term_pairs (bodies_of n (none_left ds i h j)) (bodies_of n (none_left es i k j)) o)

-- what scripts make of the parts

module _ (go : Script) (V : Values) where
  with_acted : (p : Part) (o : Option (List Part)) → with_part (act_of go V p) (acted go V o) ≡ acted go V (with_pair p o)
  with_acted p None = refl
  with_acted p (Some ps) = refl

  acted_if : (b : Bool) (act : WalkAct) (x : Option (List WalkAct)) (p : Part) (o : Option (List Part)) → with_part act x ≡ acted go V (with_pair p o) →
      (if b then with_part act x else None) ≡ acted go V (if b then with_pair p o else None)
  acted_if true act x p o e = e
  acted_if false act x p o e = refl

  term_acted : (ts us : Terms) (x : Option (List WalkAct)) (o : Option (List Part)) → x ≡ acted go V o → term_parts go V ts us x ≡ acted go V (term_pairs ts us o)
  term_acted Done Done x o e = e
  term_acted Done (Next m u us) x o e = refl
  term_acted (Next n t ts) Done x o e = refl
  term_acted (Next n t ts) (Next m u us) x o e =
      acted_if (n == m) (act_of go V (pair_under n t u)) (term_parts go V ts us x) (pair_under n t u) (term_pairs ts us o)
      (ap (λ y. with_part (act_of go V (pair_under n t u)) y) (term_acted ts us x o e) ∙ with_acted (pair_under n t u) (term_pairs ts us o))

  part_acted : (p : Part) (x : Option (List WalkAct)) (o : Option (List Part)) → x ≡ acted go V o → with_part (act_of go V p) x ≡ acted go V (with_pair p o)
  part_acted p x o e = ap (λ y. with_part (act_of go V p) y) e ∙ with_acted p o

  acted_then : (b : Bool) (x : Option (List WalkAct)) (o : Option (List Part)) → x ≡ acted go V o → (if b then x else None) ≡ acted go V (if b then o else None)
  acted_then true x o e = e
  acted_then false x o e = refl

  pub matches_acted : (equal : Bool) (x y : Match) → parts_of go V equal (tree_of (nodes.Case x)) (tree_of (nodes.Case y)) ≡ acted go V (paired_matches x y)
  matches_acted equal x y =
      acted_then (same_labels (CaseOf x.family x.binders) (CaseOf y.family y.binders)) _ _
      (term_acted (terms_of x.params) (terms_of y.params) _ _
      (part_acted (pair_under x.binders x.ret y.ret) _ _
      (part_acted (pair_under 0 x.scrut y.scrut) _ _
      (term_acted (arms_of x.branches) (arms_of y.branches) (Some []) (Some []) refl))))

  pub fixpoints_acted : (equal : Bool) (ds es : List Def) (i j : ℕ) → parts_of go V equal (tree_of (nodes.Fix ds i)) (tree_of (nodes.Fix es j)) ≡ acted go V (paired_fixpoints i ds j es)
  fixpoints_acted equal ds es i j =
      acted_then (same_labels (FixOf i (rargs_of ds)) (FixOf j (rargs_of es))) _ _
      (term_acted (types_of ds) (types_of es) _ _ (term_acted (bodies_of (length ds) ds) (bodies_of (length es) es) (Some []) (Some []) refl))
