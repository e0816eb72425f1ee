-- Texts that are put item by item.
use Rattle.std.proofs.Common.{◌≡◌, ◌≤◌, ◌<◌, ◌+◌, ◌∙◌, ap, sym, ℕ, List, ◌++◌, length, drop, get_or}
use Rattle.std.proofs.lemmas.List.{append_assoc, append-nil, drop_all}
use Rattle.box_terms.specs.declared.term.BoxBranch.{BoxBranch}
use Rattle.box_terms.specs.declared.term.BoxDef.{BoxDef}
use Rattle.box_terms.specs.BoxLists.{arms_of, bodies_of, rargs_of}
use Rattle.box_text.specs.BoxText.{Table, term_text, arm_text, arms_text, definition_text, definitions_text, each_text}
use Rattle.trees.proofs.Lists.{next_is}

-- what is still to be put, after one piece more
next_piece : (out out' piece before rest whole : List ℕ) → out' ≡ out ++ piece → before ≡ piece ++ rest → out ++ before ≡ whole → out' ++ rest ≡ whole
next_piece out out' piece before rest whole h e w = ap (λ o. o ++ rest) h ∙ append_assoc out piece rest ∙ ap (λ t. out ++ t) (sym e) ∙ w

module _ (out out' whole : List ℕ) where
  pub each_put : {A : Type 0} (f : A → List ℕ) (xs : List A) (i : ℕ) (x : A) → i < length xs → x ≡ get_or xs i x → out' ≡ out ++ f x → out ++ each_text f (drop i xs) ≡ whole →
      out' ++ each_text f (drop (i + 1) xs) ≡ whole
  each_put f xs i x l e h w = next_piece out out' (f x) (each_text f (drop i xs)) (each_text f (drop (i + 1) xs)) whole h (ap (each_text f) (next_is xs i x l e)) w

  pub arms_put : (ns : Table) (bs : List BoxBranch) (i : ℕ) (b : BoxBranch) → i < length bs → b ≡ get_or bs i b → out' ≡ out ++ arm_text b.binders (term_text ns b.body) →
      out ++ arms_text ns (arms_of (drop i bs)) ≡ whole → out' ++ arms_text ns (arms_of (drop (i + 1) bs)) ≡ whole
  arms_put ns bs i b l e h w =
      next_piece out out' (arm_text b.binders (term_text ns b.body)) (arms_text ns (arms_of (drop i bs))) (arms_text ns (arms_of (drop (i + 1) bs))) whole h
      (ap (λ xs. arms_text ns (arms_of xs)) (next_is bs i b l e)) w

  pub definitions_put : (ns : Table) (m : ℕ) (ds : List BoxDef) (i : ℕ) (d : BoxDef) → i < length ds → d ≡ get_or ds i d → out' ≡ out ++ definition_text d.rarg (term_text ns d.body) →
      out ++ definitions_text ns (rargs_of (drop i ds)) (bodies_of m (drop i ds)) ≡ whole → out' ++ definitions_text ns (rargs_of (drop (i + 1) ds)) (bodies_of m (drop (i + 1) ds)) ≡ whole
  definitions_put ns m ds i d l e h w =
      next_piece out out' (definition_text d.rarg (term_text ns d.body)) (definitions_text ns (rargs_of (drop i ds)) (bodies_of m (drop i ds)))
      (definitions_text ns (rargs_of (drop (i + 1) ds)) (bodies_of m (drop (i + 1) ds))) whole h (ap (λ xs. definitions_text ns (rargs_of xs) (bodies_of m xs)) (next_is ds i d l e)) w

-- nothing is left

module _ (out whole : List ℕ) where
  pub each_all : {A : Type 0} (f : A → List ℕ) (xs : List A) (i : ℕ) → length xs ≤ i → out ++ each_text f (drop i xs) ≡ whole → out ≡ whole
  each_all f xs i l w = sym (append-nil out) ∙ sym (ap (λ ys. out ++ each_text f ys) (drop_all i xs l)) ∙ w

  pub arms_all : (ns : Table) (bs : List BoxBranch) (i : ℕ) → length bs ≤ i → out ++ arms_text ns (arms_of (drop i bs)) ≡ whole → out ≡ whole
  arms_all ns bs i l w = sym (append-nil out) ∙ sym (ap (λ ys. out ++ arms_text ns (arms_of ys)) (drop_all i bs l)) ∙ w

  pub definitions_all : (ns : Table) (m : ℕ) (ds : List BoxDef) (i : ℕ) → length ds ≤ i → out ++ definitions_text ns (rargs_of (drop i ds)) (bodies_of m (drop i ds)) ≡ whole → out ≡ whole
  definitions_all ns m ds i l w = sym (append-nil out) ∙ sym (ap (λ ys. out ++ definitions_text ns (rargs_of ys) (bodies_of m ys)) (drop_all i ds l)) ∙ w

-- each body is smaller than the list
