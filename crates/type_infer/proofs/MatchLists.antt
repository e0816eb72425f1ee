-- The lists of a match and of its family, from one item on.
use Rattle.std.proofs.Common.{◌≡◌, ◌∙◌, sym, ap, refl, ℕ, suc, ◌<◌, ◌≤◌, ◌+◌, min, ◌⊎◌, inl, inr, Result, Ok, Err, true, false, List, [], ◌∷◌, ◌++◌, length, drop, get_or, append_assoc, subst}
use Rattle.universe_levels.specs.declared.level.LevelExpr.{LevelExpr}
use Rattle.universe_levels.specs.declared.sort.Sort.{Sort}
use Rattle.universe_levels.specs.declared.sort.Sort.TheVariants.{Prop, Of}
use Rattle.trees.specs.Tree.{terms_of, number}
use Rattle.trees.specs.Shape.{binders_of}
use Rattle.trees.specs.Measures.{IsBeyond}
use Rattle.pc_terms.specs.Syntax.{Term, apply}
use Rattle.pc_terms.specs.Lists.{arms_of}
use Rattle.pc_terms.specs.declared.term.Branch.{Branch}
use Rattle.pc_terms.proofs.Applied.{beyond-apply, apply-append}
use Rattle.pc_terms.proofs.Forms.{number_terms}
use Rattle.calculus_rules.specs.declared.declaration.Constructor.{Constructor}
use Rattle.pc_rules.specs.declared.meter.Account.{Account}
use Rattle.pc_rules.specs.declared.stop.Halt.{Halt}
use Rattle.calculus_rules.specs.Environment.{FamilyDecl}
use Rattle.pc_rules.specs.DirectedRun as run
use Rattle.pc_rules.specs.DirectedTyping.{counted, names_counted, match_counted, all_prop}
use Rattle.pc_rules.specs.Follows.{Answers, Halts}
use Rattle.type_infer.proofs.Answering.{answers_bind}
use Rattle.pc_rules.proofs.ListSteps.{next_is, none_left, min_either}
use Rattle.pc_rules.proofs.Following.{answers_err}

-- the variables of branches

module _ (Cs : List Constructor) (bs : List Branch) where
  abbrev pub names_from : ℕ → run.Act
  names_from i u = names_counted (drop i Cs) (binders_of (arms_of (drop i bs))) u

  pub names_next : (i : ℕ) (C : Constructor) (b : Branch) (u : Account) (r : Result (Unit {0}) Halt) → i < length Cs → i < length bs → C ≡ get_or Cs i C → b ≡ get_or bs i b →
      Answers (counted (length C.args) b.binders u) (Ok tt) u → Answers (names_from (i + 1) u) r u → Answers (names_from i u) r u
  names_next i C b u r h k e e' p q =
      rw (next_is Cs i C h e, next_is bs i b k e') (answers_bind (counted (length C.args) b.binders u) (λ _ v. names_from (i + 1) v) tt u r p q)

  pub names_stop : (i : ℕ) (C : Constructor) (b : Branch) (u : Account) (x : Halt) → i < length Cs → i < length bs → C ≡ get_or Cs i C → b ≡ get_or bs i b →
      Halts (counted (length C.args) b.binders u) x u → Halts (names_from i u) x u
  names_stop i C b u x h k e e' p =
      rw (next_is Cs i C h e, next_is bs i b k e') (answers_err (counted (length C.args) b.binders u) (λ _ v. names_from (i + 1) v) u x p)

  no_names : (Ds : List Constructor) (u : Account) → names_counted Ds [] u ≡ run.done tt u
  no_names [] u = refl
  no_names (D ∷ Ds) u = refl

  names_short : (i : ℕ) (u : Account) → (length Cs ≤ i) ⊎ (length bs ≤ i) → names_from i u ≡ run.done tt u
  names_short i u (inl h) = rw (none_left Cs i h) refl
  names_short i u (inr h) = rw (none_left bs i h) (no_names (drop i Cs) u)

  pub names_end : (i : ℕ) (u : Account) → min (length Cs) (length bs) ≤ i → Answers (names_from i u) (Ok tt) u
  names_end i u h = rw (names_short i u (min_either (length Cs) (length bs) i h)) refl

-- sorts of arguments

pub all_prop_next : (ss : List Sort) (i : ℕ) (s : Sort) → i < length ss → s ≡ get_or ss i s → s ≡ Prop → all_prop (drop i ss) ≡ all_prop (drop (i + 1) ss)
all_prop_next ss i s h e p = ap all_prop (next_is ss i s h e) ∙ ap (λ x. all_prop (x ∷ drop (i + 1) ss)) p

pub some_not_prop : (ss : List Sort) (i : ℕ) (s : Sort) (u : List LevelExpr) → i < length ss → s ≡ get_or ss i s → s ≡ Of u → all_prop (drop i ss) ≡ false
some_not_prop ss i s u h e p = ap all_prop (next_is ss i s h e) ∙ ap (λ x. all_prop (x ∷ drop (i + 1) ss)) p

pub all_prop_end : (ss : List Sort) (i : ℕ) → length ss ≤ i → all_prop (drop i ss) ≡ true
all_prop_end ss i h = ap all_prop (none_left ss i h)

-- applications to two lists, one after the other

pub beyond_before : (t : Term) (xs ys : List Term) → IsBeyond (apply t xs) → IsBeyond (apply t (xs ++ ys))
beyond_before t xs ys h = subst (λ (u : Term). IsBeyond u) (sym (apply-append t xs ys)) (beyond-apply (apply t xs) ys h)

-- an item more of those from a place on
pub one_more_item : {A : Type 0} (out xs : List A) (i : ℕ) (a : A) → i < length xs → a ≡ get_or xs i a → (out ++ (a ∷ [])) ++ drop (i + 1) xs ≡ out ++ drop i xs
one_more_item out xs i a h e = append_assoc out (a ∷ []) (drop (i + 1) xs) ∙ ap (λ ys. out ++ ys) (sym (next_is xs i a h e))

-- as many branches as their list has

number_arms : (bs : List Branch) → number (arms_of bs) ≡ length bs
number_arms [] = refl
number_arms (b ∷ bs) = ap suc (number_arms bs)

module _ (F : FamilyDecl) (n : ℕ) (ps : List Term) (bs : List Branch) (u : Account) where
  -- the counts of a match with so many parameters and branches
  abbrev names_left : run.Act
  names_left x = names_counted F.constructors (binders_of (arms_of bs)) x

  abbrev branches_left : ℕ → run.Act
  branches_left b w = run.bind (counted (length F.constructors) b w) (λ _ x. names_left x)

  abbrev indices_left : ℕ → run.Act
  indices_left b v = run.bind (counted (length F.indices + 1) n v) (λ _ w. branches_left b w)

  abbrev counts : ℕ → ℕ → run.Act
  counts a b v = run.bind (counted (length F.parameters) a v) (λ _ w. indices_left b w)

  counts_are : (r : Result (Unit {0}) Halt) → Answers (counts (length ps) (length bs) u) r u → Answers (match_counted F (terms_of ps) n (arms_of bs) u) r u
  counts_are r h =
      subst (λ a. Answers (counts a (number (arms_of bs)) u) r u) (sym (number_terms ps))
      (subst (λ b. Answers (counts (length ps) b u) r u) (sym (number_arms bs)) h)

  pub parameters_stop : (x : Halt) → Halts (counted (length F.parameters) (length ps) u) x u → Halts (match_counted F (terms_of ps) n (arms_of bs) u) x u
  parameters_stop x h = counts_are (Err x) (answers_err (counted (length F.parameters) (length ps) u) (λ _ v. indices_left (length bs) v) u x h)

  module _ (p : Answers (counted (length F.parameters) (length ps) u) (Ok tt) u) where
    parameters_go : (r : Result (Unit {0}) Halt) → Answers (indices_left (length bs) u) r u → Answers (match_counted F (terms_of ps) n (arms_of bs) u) r u
    parameters_go r h = counts_are r (answers_bind (counted (length F.parameters) (length ps) u) (λ _ v. indices_left (length bs) v) tt u r p h)

    pub indices_stop : (x : Halt) → Halts (counted (length F.indices + 1) n u) x u → Halts (match_counted F (terms_of ps) n (arms_of bs) u) x u
    indices_stop x h = parameters_go (Err x) (answers_err (counted (length F.indices + 1) n u) (λ _ v. branches_left (length bs) v) u x h)

    module _ (q : Answers (counted (length F.indices + 1) n u) (Ok tt) u) where
      indices_go : (r : Result (Unit {0}) Halt) → Answers (branches_left (length bs) u) r u → Answers (match_counted F (terms_of ps) n (arms_of bs) u) r u
      indices_go r h = parameters_go r (answers_bind (counted (length F.indices + 1) n u) (λ _ v. branches_left (length bs) v) tt u r q h)

      pub branches_stop : (x : Halt) → Halts (counted (length F.constructors) (length bs) u) x u → Halts (match_counted F (terms_of ps) n (arms_of bs) u) x u
      branches_stop x h = indices_go (Err x) (answers_err (counted (length F.constructors) (length bs) u) (λ _ v. names_left v) u x h)

      pub names_go : (r : Result (Unit {0}) Halt) → Answers (counted (length F.constructors) (length bs) u) (Ok tt) u →
          Answers (names_counted F.constructors (binders_of (arms_of bs)) u) r u → Answers (match_counted F (terms_of ps) n (arms_of bs) u) r u
      names_go r k h = indices_go r (answers_bind (counted (length F.constructors) (length bs) u) (λ _ v. names_left v) tt u r k h)
