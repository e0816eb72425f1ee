-- Two terms for which a script is accepted are equal, or the first is below the second.
use Rattle.std.proofs.Common.{◌≡◌, ℕ, zero, suc, ◌==◌, ◌||◌, inl, inr, Bool, true, false, if◌then◌else◌, List, [], ◌∷◌, Option, Some, None, refl, sym, subst, slice_get}
use Rattle.std.proofs.lemmas.Bool.{eqb-true, or_cases}
use Rattle.universe_levels.specs.declared.sort.Sort.{Sort}
use Rattle.universe_levels.specs.declared.sort.Sort.TheVariants.{Prop, Of}
use Rattle.pc_terms.specs.Syntax.{Slot, slots, Label, ProdOf, LetInOf, Term, Terms, Children, End, Child, Group, Next, Rel, Node, SortT, Prod, LetIn}
use Rattle.pc_terms.specs.Syntax as syntax
use Rattle.calculus_rules.specs.Environment.{Env, SortEntails}
use Rattle.calculus_rules.specs.Context.{Values, under}
use Rattle.calculus_rules.specs.Conversion.{Equal, EqualChildren, EqualTerms, inside, and, group, end, same as the_same, back, chain, sorts, Below, equal as of_equal, sort as of_sorts, product}
use Rattle.calculus_rules.specs.Conversion as conversion
use Rattle.calculus_rules.specs.Same.{same, same_labels}
use Rattle.pc_rules.specs.DirectedComparison.{Test, IsTest, sort_below, sorts_stand}
use Rattle.calculus_rules.proofs.Spines.{one_item}
use Rattle.pc_rules.proofs.WeakNext.{both_true, none_some}
use Rattle.pc_rules.proofs.SameTrees.{same_is, false_true}
pub use Rattle.pc_rules.proofs.SameTrees.{same_labels_is}
use Rattle.calculus_rules.proofs.Congruence.{equal_products, equal_lets}
use Rattle.calculus_rules.proofs.WeakHead.{weak_equal}
use Rattle.rule_laws.specs.Comparison.{Compares}
use Rattle.rule_laws.proofs.Comparing.{weaker}
use Rattle.cert_rules.specs.declared.item.CertItem.{CertItem}
use Rattle.cert_rules.specs.declared.item.CertItem.TheVariants.{Same, Left, Right, Parts}
use Rattle.cert_rules.specs.Walk.{Items, WalkState, WalkAct, Passed, pass, bar_here, past, walk_all}
use Rattle.cert_rules.specs.WalkSteps.{walk_steps}
use Rattle.cert_rules.specs.Scripts.{Script, with_part, term_parts, child_parts, node_parts, parts_of, sorts_at, walk_parts, script_by, script}
use Rattle.cert_rules.proofs.PassedWalks.{on_both, tested, barred_passed, crowded_passed, all_both, steps_lead}

-- what passes from somewhere
abbrev Passes : WalkAct → Type 0
Passes act = (s : WalkState) × (v : WalkState) × ((act s).end ≡ Passed tt v)

abbrev AllPass : List WalkAct → Type 0
AllPass [] = Unit {0}
AllPass (act ∷ acts) = Passes act × AllPass acts

all_pass : (acts : List WalkAct) (s v : WalkState) → (walk_all acts s).end ≡ Passed tt v → AllPass acts
all_pass [] s v h = tt
all_pass (act ∷ acts) s v h = let p = all_both act acts s v h in ((s, p.0, p.1), all_pass acts p.0 v p.2)

-- a list that begins with an act
abbrev Begins : WalkAct → Option (List WalkAct) → Type 0
Begins act o = Passes act × ((more : List WalkAct) × (o ≡ Some more) × AllPass more)

begins : (act : WalkAct) (o : Option (List WalkAct)) (acts : List WalkAct) → with_part act o ≡ Some acts → AllPass acts → Begins act o
begins act None acts e p = absurd (none_some e)
begins act (Some more) acts e p =
    let q : AllPass (act ∷ more) = subst (λ xs. AllPass xs) (sym (one_item e)) p in
    (q.0, (more, refl, q.1))

module _ (E : Env) where
  -- a script that has been found sound
  abbrev pub Shows : Script → Type 0
  Shows go = (V : Values) (equal : Bool) (a b : Term) (s v : WalkState) → (go V equal a b s).end ≡ Passed tt v → Compares E equal V a b

  left_first : (equal : Bool) (V : Values) (a b x : Term) → Equal E V a x → Compares E equal V x b → Compares E equal V a b
  left_first true V a b x p h = chain p h
  left_first false V a b x p h = Below.chain (of_equal p) h

  right_first : (equal : Bool) (V : Values) (a b y : Term) → Equal E V b y → Compares E equal V a y → Compares E equal V a b
  right_first true V a b y p h = chain h (back p)
  right_first false V a b y p h = Below.chain h (of_equal (back p))

  module _ (go : Script) (shows : Shows go) where
    shown : (V : Values) (t u : Term) → Passes (go V true t u) → Equal E V t u
    shown V t u p = shows V true t u p.0 p.1 p.2

    abbrev Terms2 : Values → Terms → Terms → Option (List WalkAct) → Type 0
    Terms2 V ts us rest = EqualTerms E V ts us × ((more : List WalkAct) × (rest ≡ Some more) × AllPass more)

    next_terms : (V : Values) (n m : ℕ) (t u : Term) (ts us : Terms) (rest : Option (List WalkAct)) (acts : List WalkAct) (b : Bool) → (n == m) ≡ b →
        (if b then with_part (go (under n V) true t u) (term_parts go V ts us rest) else None) ≡ Some acts → AllPass acts →
        ((more : List WalkAct) → term_parts go V ts us rest ≡ Some more → AllPass more → Terms2 V ts us rest) → Terms2 V (Next n t ts) (Next m u us) rest
    next_terms V n m t u ts us rest acts false e h p rec = absurd (none_some h)
    next_terms V n m t u ts us rest acts true e h p rec =
        let b = begins (go (under n V) true t u) (term_parts go V ts us rest) acts h p in
        let r = rec b.1.0 b.1.1 b.1.2 in
        (subst (λ m. EqualTerms E V (Next n t ts) (Next m u us)) (eqb-true n m e) (conversion.next (shown (under n V) t u b.0) r.0), r.1)

    terms_shown : (V : Values) (ts us : Terms) (rest : Option (List WalkAct)) (acts : List WalkAct) → term_parts go V ts us rest ≡ Some acts → AllPass acts →
        Terms2 V ts us rest
    terms_shown V syntax.Done syntax.Done rest acts h p = (conversion.done, (acts, h, p))
    terms_shown V (Next n t ts) (Next m u us) rest acts h p =
        next_terms V n m t u ts us rest acts (n == m) refl h p (λ more e q. terms_shown V ts us rest more e q)
    terms_shown V syntax.Done (Next m u us) rest acts h p = absurd (none_some h)
    terms_shown V (Next n t ts) syntax.Done rest acts h p = absurd (none_some h)

    children_shown : (V : Values) (ss : List Slot) (ts us : Children ss) (acts : List WalkAct) → child_parts go V ts us ≡ Some acts → AllPass acts →
        EqualChildren E V ss ts us
    children_shown V _ End End acts h p = end
    children_shown V _ (Child {n = n} {ss = ss} t ts) (Child u us) acts h p =
        let b = begins (go (under n V) true t u) (child_parts go V ts us) acts h p in
        and (shown (under n V) t u b.0) (children_shown V ss ts us b.1.0 b.1.1 b.1.2)
    children_shown V _ (Group {ss = ss} ps ts) (Group qs us) acts h p =
        let r = terms_shown V ps qs (child_parts go V ts us) acts h p in
        group r.0 (children_shown V ss ts us r.1.0 r.1.1 r.1.2)

    product_shown : (equal : Bool) (V : Values) (A A' B B' : Term) → Equal E V A A' → Compares E equal (None ∷ V) B B' → Compares E equal V (Prod A B) (Prod A' B')
    product_shown true V A A' B B' p h = equal_products E V A A' B B' p h
    product_shown false V A A' B B' p h = product p h

    node_shown : (V : Values) (equal : Bool) (l : Label) (ts us : Children (slots l)) (acts : List WalkAct) → node_parts go V equal l ts us ≡ Some acts → AllPass acts →
        Compares E equal V (Node l ts) (Node l us)
    node_shown V equal ProdOf (Child A (Child B End)) (Child A' (Child B' End)) acts h p =
        let q : AllPass (go V true A A' ∷ go (None ∷ V) equal B B' ∷ []) = subst (λ xs. AllPass xs) (sym (one_item h)) p in
        product_shown equal V A A' B B' (shown V A A' q.0) (shows (None ∷ V) equal B B' q.1.0.0 q.1.0.1 q.1.0.2)
    node_shown V equal LetInOf (Child b (Child B (Child t End))) (Child b' (Child B' (Child t' End))) acts h p =
        let q : AllPass (go V true b b' ∷ go V true B B' ∷ go (Some b ∷ V) true t t' ∷ []) = subst (λ xs. AllPass xs) (sym (one_item h)) p in
        weaker E equal V (LetIn b B t) (LetIn b' B' t') (equal_lets E V b b' B B' t t' (shown V b b' q.0) (shown V B B' q.1.0) (shown (Some b ∷ V) t t' q.1.1.0))
    node_shown V equal l ts us acts h p = weaker E equal V (Node l ts) (Node l us) (inside (children_shown V (slots l) ts us acts h p))

    nodes_shown : (V : Values) (equal : Bool) (l m : Label) (ts : Children (slots l)) (us : Children (slots m)) (acts : List WalkAct) (b : Bool) → same_labels l m ≡ b →
        (if b then node_parts go V equal l ts us else None) ≡ Some acts → AllPass acts → Compares E equal V (Node l ts) (Node m us)
    nodes_shown V equal l m ts us acts false e h p = absurd (none_some h)
    nodes_shown V equal l m ts us acts true e h p =
        subst (λ m. (us : Children (slots m)) → node_parts go V equal l ts us ≡ Some acts → Compares E equal V (Node l ts) (Node m us)) (same_labels_is l m e)
        (λ us h. node_shown V equal l ts us acts h p) us h

    variables_shown : (V : Values) (equal : Bool) (i j : ℕ) (acts : List WalkAct) (b : Bool) → (i == j) ≡ b → (if b then Some [] else None) ≡ Some acts →
        Compares E equal V (Rel i) (Rel j)
    variables_shown V equal i j acts false e h = absurd (none_some h)
    variables_shown V equal i j acts true e h = weaker E equal V (Rel i) (Rel j) (subst (λ x. Equal E V (Rel i) (Rel x)) (eqb-true i j e) the_same)

    parts_shown : (V : Values) (equal : Bool) (a b : Term) (acts : List WalkAct) → parts_of go V equal a b ≡ Some acts → AllPass acts → Compares E equal V a b
    parts_shown V equal (Rel i) (Rel j) acts h p = variables_shown V equal i j acts (i == j) refl h
    parts_shown V equal (Node l ts) (Node m us) acts h p = nodes_shown V equal l m ts us acts (same_labels l m) refl h p
    parts_shown V equal (Rel i) (Node m us) acts h p = absurd (none_some h)
    parts_shown V equal (Node l ts) (Rel j) acts h p = absurd (none_some h)

    walked_shown : (V : Values) (equal : Bool) (a b : Term) (i : ℕ) (o : Option (List WalkAct)) (s v : WalkState) → parts_of go V equal a b ≡ o →
        (walk_parts i o s).end ≡ Passed tt v → Compares E equal V a b
    walked_shown V equal a b i None s v e h = absurd (barred_passed h)
    walked_shown V equal a b i (Some acts) s v e h = parts_shown V equal a b acts e (all_pass acts s v h)

  module _ (q : Test) (test : IsTest E.levels E.constraints q) where
    entails : (s s' : Sort) → sort_below q s s' ≡ true → SortEntails E s s'
    entails Prop s' h = tt
    entails (Of x) Prop h = false_true h
    entails (Of x) (Of y) h = test.yes x y h

    sorts_shown : (equal : Bool) (V : Values) (s s' : Sort) → sorts_stand q equal s s' ≡ true → Compares E equal V (SortT s) (SortT s')
    sorts_shown true V s s' h = let t = both_true (sort_below q s s') (sort_below q s' s) h in sorts (entails s s' t.0) (entails s' s t.1)
    sorts_shown false V s s' h = of_sorts (entails s s' h)

    at_shown : (V : Values) (equal : Bool) (a b : Term) → sorts_at q equal a b ≡ true → Compares E equal V a b
    at_shown V equal (SortT s) (SortT s') h = sorts_shown equal V s s' h
    at_shown V equal a b h = false_true h

    same_shown : (V : Values) (equal : Bool) (a b : Term) (s v : WalkState) → (if same a b || sorts_at q equal a b then pass {A = Unit {0}} tt (past s) else bar_here s).end ≡ Passed tt v →
        Compares E equal V a b
    same_shown V equal a b s v h =
        elim (or_cases (same a b) (sorts_at q equal a b) (tested (same a b || sorts_at q equal a b) (pass tt (past s)) s.at s tt v h).0) [
          | inl e ↦ weaker E equal V a b (subst (λ x. Equal E V a x) (same_is a b e) the_same)
          | inr e ↦ at_shown V equal a b e
        ]

    by_shown : (go : Script) → Shows go → (o : Option CertItem) (V : Values) (equal : Bool) (a b : Term) (s v : WalkState) →
        (script_by E q go o V equal a b s).end ≡ Passed tt v → Compares E equal V a b
    by_shown go shows (Some Same) V equal a b s v h = same_shown V equal a b s v h
    by_shown go shows (Some (Left (suc n))) V equal a b s v h =
        let p = on_both (walk_steps E V s.at (suc n) a (past s)) (λ x v. go V equal x b v) tt v h in
        left_first equal V a b p.0 (weak_equal (steps_lead E V s.at (suc n) a p.0 (past s) p.1 p.2)) (shows V equal p.0 b p.1 v p.3)
    by_shown go shows (Some (Right (suc n))) V equal a b s v h =
        let p = on_both (walk_steps E V s.at (suc n) b (past s)) (λ y v. go V equal a y v) tt v h in
        right_first equal V a b p.0 (weak_equal (steps_lead E V s.at (suc n) b p.0 (past s) p.1 p.2)) (shows V equal a p.0 p.1 v p.3)
    by_shown go shows (Some Parts) V equal a b s v h = walked_shown go shows V equal a b s.at (parts_of go V equal a b) (past s) v refl h
    by_shown go shows o V equal a b s v h = absurd (barred_passed h)

    pub script_sound : (cert : Items) (n : ℕ) → Shows (script cert E q n)
    unfolding script
    script_sound cert zero V equal a b s v h = absurd (crowded_passed h)
    script_sound cert (suc n) V equal a b s v h = by_shown (script cert E q n) (script_sound cert n) (slice_get cert s.at) V equal a b s v h
