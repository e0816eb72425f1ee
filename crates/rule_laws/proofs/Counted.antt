-- Well-counted terms stay so under renaming, substitution and application.
use Rattle.std.proofs.Common.{◌≡◌, ℕ, zero, suc, ◌+◌, List, [], ◌∷◌, ◌++◌, Some, subst}
use Rattle.trees.proofs.Shape.{each_renamed, before_renaming, each_substituted, first_each}
use Rattle.pc_terms.specs.Syntax.{Term, Terms, Done, Next, Rel, App, ups, rename, substitute, shift, first, put, put_all, apply, head, args, term_at, list_of}
use Rattle.pc_terms.specs.Formed.{EachTerm}
use Rattle.calculus_rules.specs.Environment.{Env}
use Rattle.pc_rules.specs.WellCounted.{IsCounted, AreCounted, IsCountedNode}

-- substitutions that put in well-counted terms
abbrev pub PutsCounted : Env → (ℕ → Term) → Type 0
PutsCounted E s = (i : ℕ) → IsCounted E (s i)

module _ (E : Env) where
  pub rel_counted : PutsCounted E Rel
  rel_counted i = tt

  pub first_counted : (a : Term) (s : ℕ → Term) → IsCounted E a → PutsCounted E s → PutsCounted E (first a s)
  first_counted a s h f = first_each (IsCountedNode E) a s h f

  pub put_counted : (a : Term) → IsCounted E a → PutsCounted E (put a)
  put_counted a h = first_counted a Rel h (rel_counted)

  pub put_all_counted : (xs : List Term) (s : ℕ → Term) → AreCounted E xs → PutsCounted E s → PutsCounted E (put_all xs s)
  put_all_counted [] s h f = f
  put_all_counted (x ∷ xs) s h f = put_all_counted xs (first x s) h.1 (first_counted x s h.0 f)

  pub substituted_counted : (s : ℕ → Term) (t : Term) → PutsCounted E s → IsCounted E t → IsCounted E (substitute s t)
  substituted_counted s t f h = each_substituted (IsCountedNode E) t s f h

  pub renamed_counted : (r : ℕ → ℕ) (t : Term) → IsCounted E t → IsCounted E (rename r t)
  renamed_counted r t h = each_renamed (IsCountedNode E) t r h

  pub shifted_counted : (n k : ℕ) (t : Term) → IsCounted E t → IsCounted E (shift n k t)
  shifted_counted n k t h = each_renamed (IsCountedNode E) t (ups k (λ i. n + i)) h

  pub before_shift : (n k : ℕ) (t : Term) → IsCounted E (shift n k t) → IsCounted E t
  before_shift n k t h = before_renaming (IsCountedNode E) t (ups k (λ i. n + i)) h

  -- applications

  pub app_counted : (f a : Term) → IsCounted E f → IsCounted E a → IsCounted E (App f a)
  app_counted f a h k = (((tt, tt), tt), (h, (k, tt)))

  pub apply_counted : (f : Term) (xs : List Term) → IsCounted E f → AreCounted E xs → IsCounted E (apply f xs)
  apply_counted f [] h k = h
  apply_counted f (x ∷ xs) h k = apply_counted (App f x) xs (app_counted f x h k.0) k.1

  pub function_counted : (f : Term) (xs : List Term) → IsCounted E (apply f xs) → IsCounted E f × AreCounted E xs
  function_counted f [] h = (h, tt)
  function_counted f (x ∷ xs) h = let r = function_counted (App f x) xs h in (r.0.1.0, (r.0.1.1.0, r.1))

  pub appended_counted : (xs ys : List Term) → AreCounted E xs → AreCounted E ys → AreCounted E (xs ++ ys)
  appended_counted [] ys h k = k
  appended_counted (x ∷ xs) ys h k = (h.0, appended_counted xs ys h.1 k)

  pub parts_counted : (xs ys : List Term) → AreCounted E (xs ++ ys) → AreCounted E xs × AreCounted E ys
  parts_counted [] ys h = (tt, h)
  parts_counted (x ∷ xs) ys h = let r = parts_counted xs ys h.1 in ((h.0, r.0), r.1)

  pub head_counted : (t : Term) → IsCounted E t → IsCounted E (head t)
  head_counted (App f a) h = head_counted f h.1.0
  head_counted t h = h

  pub args_counted : (t : Term) → IsCounted E t → AreCounted E (args t)
  args_counted (App f a) h = appended_counted (args f) (a ∷ []) (args_counted f h.1.0) (h.1.1.0, tt)
  args_counted t h = tt

  -- lists

  pub list_counted : (ts : Terms) → EachTerm (IsCountedNode E) ts → AreCounted E (list_of ts)
  list_counted Done h = tt
  list_counted (Next n t ts) h = (h.0, list_counted ts h.1)

  pub terms_counted : (ts : Terms) → AreCounted E (list_of ts) → EachTerm (IsCountedNode E) ts
  terms_counted Done h = tt
  terms_counted (Next n t ts) h = (h.0, terms_counted ts h.1)

  some_term : {x y : ℕ × Term} → Some x ≡ Some y → x ≡ y
  some_term e = cc

  pub term_counted : (ts : Terms) (i n : ℕ) (t : Term) → EachTerm (IsCountedNode E) ts → term_at ts i ≡ Some (n, t) → IsCounted E t
  term_counted Done i n t h e = absurd (cc)
  term_counted (Next m x ts) zero n t h e = subst (λ p. IsCounted E p.1) (some_term e) h.0
  term_counted (Next m x ts) (suc i) n t h e = term_counted ts i n t h.1 e
