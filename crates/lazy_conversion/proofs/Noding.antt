-- Nodes whose parts are walked, as the terms that they are.
use Rattle.std.proofs.Common.{◌≡◌, ℕ, ◌+◌, List, length, map, Bool, IsTrue, ◌↔◌, refl, sym, ap, ◌∙◌}
use Rattle.trees.specs.Tree.{terms_of}
use Rattle.trees.specs.Substitution.{deeper, walk, walk_trees}
use Rattle.trees.proofs.Closed.{deeper_is}
use Rattle.pc_terms.specs.Syntax as s
use Rattle.pc_terms.specs.Lists.{bodies_of, walk_match, walk_def}
use Rattle.pc_terms.specs.View.{tree_of}
use Rattle.pc_terms.specs.declared.term.Def.{Def}
use Rattle.pc_terms.specs.declared.term.Match.{Match}
use Rattle.pc_terms.specs.declared.term.Node.{Node}
use Rattle.pc_terms.specs.declared.term.Node.TheVariants.{Rel, Case, Fix}
use Rattle.pc_terms.proofs.NodeTrees.{tree_of-inj}
use Rattle.pc_terms.proofs.Parts.{walk_terms-of, walk_arms-of, walk_types-of, walk_bodies-of, walk_rargs-of, walk_length}
use Rattle.lazy_conversion.specs.Walked.{walk_node}

module _ (f : ℕ → ℕ → s.Term) (k : ℕ) where
  pub match_tree : (m : Match) → tree_of (Case (walk_match f k m)) ≡ walk f k (tree_of (Case m))
  match_tree m =
      let ps : terms_of (map (walk f k) m.params) ≡ walk_trees f k (terms_of m.params) = walk_terms-of f k m.params in
      let ret : walk f (k + m.binders) m.ret ≡ walk f (deeper m.binders k) m.ret = ap (λ n. walk f n m.ret) (sym (deeper_is m.binders k)) in
      let bs = walk_arms-of f k m.branches in
      λ i. s.Case m.family (ps i) m.binders (ret i) (walk f k m.scrut) (bs i)

  fix_tree : (ds : List Def) (n : ℕ) → tree_of (Fix (map (walk_def f k (length ds)) ds) n) ≡ walk f k (tree_of (Fix ds n))
  fix_tree ds n =
      let long : length (map (walk_def f k (length ds)) ds) ≡ length ds = walk_length f k (length ds) ds in
      let rargs = walk_rargs-of f k (length ds) ds in
      let types = walk_types-of f k (length ds) ds in
      let bodies : bodies_of (length (map (walk_def f k (length ds)) ds)) (map (walk_def f k (length ds)) ds) ≡ walk_trees f k (bodies_of (length ds) ds) =
      ap (λ m. bodies_of m (map (walk_def f k (length ds)) ds)) long ∙ walk_bodies-of f k (length ds) ds in
      λ i. s.Fix n (rargs i) (types i) (bodies i)

  pub node_tree : (n : Node) → ((i : ℕ) → n ≡ Rel i → ⊥) → tree_of (walk_node f k n) ≡ walk f k (tree_of n)
  node_tree (Rel i) h = absurd (h i refl)
  node_tree (Case m) h = match_tree m
  node_tree (Fix ds i) h = fix_tree ds i
  node_tree n h = refl

  -- a node that is no variable is none where it is walked
  pub no_variable : (j : ℕ) (y : Node) → ((i : ℕ) → y ≡ Rel i → ⊥) → s.Rel j ≡ walk f k (tree_of y) → ⊥
  no_variable j (Rel i) h e = h i refl
  no_variable j y h e = cc

-- two nodes that are no variables
module _ (f g : ℕ → ℕ → s.Term) (k l : ℕ) (x y : Node) (a b : s.Term) (ea : tree_of x ≡ a) (eb : tree_of y ≡ b)
    (h : (i : ℕ) → x ≡ Rel i → ⊥) (o : (i : ℕ) → y ≡ Rel i → ⊥) where
  pub nodes_same : (r : Bool) → (IsTrue r ↔ (walk_node f k x ≡ walk_node g l y)) → (IsTrue r ↔ (walk f k a ≡ walk g l b))
  nodes_same r e =
      let left : tree_of (walk_node f k x) ≡ walk f k a = node_tree f k x h ∙ ap (walk f k) ea in
      let right : tree_of (walk_node g l y) ≡ walk g l b = node_tree g l y o ∙ ap (walk g l) eb in
      (λ t. sym left ∙ ap tree_of (e.0 t) ∙ right, λ q. e.1 (tree_of-inj (walk_node f k x) (walk_node g l y) (left ∙ q ∙ sym right)))
