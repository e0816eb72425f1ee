-- A term has the depth of the tree that it is made of.
use Rattle.std.proofs.Common.{◌≡◌, ℕ, max, List, length, refl, arith}
use Rattle.trees.specs.Measures as m
use Rattle.dump_grammar.specs.Named.{Named, Rel, Sort, Prod, Lambda, LetIn, App, Const, Ind, Construct, Case, Fix, NamedTerms, NoTerm, OneTerm, NamedBranches, NoBranch, OneBranch, NamedDefs, NoDef, OneDef, depth, depth_terms, depth_branches, depth_defs}
use Rattle.dump_reader.specs.Numbered.{recursive_arguments, numbered_term, numbered_terms, numbered_branches, numbered_types, numbered_bodies}

mutual
  unfolding numbered_term depth

  pub depth-numbered : (ns ls : List (List ℕ)) (t : Named) → m.depth (numbered_term ns ls t) ≡ depth t
  depth-numbered ns ls (Rel n) = refl
  depth-numbered ns ls (Sort s) = refl
  depth-numbered ns ls (Prod A B) = omega (arith, depth-numbered ns ls A, depth-numbered ns ls B)
  depth-numbered ns ls (Lambda A b) = omega (arith, depth-numbered ns ls A, depth-numbered ns ls b)
  depth-numbered ns ls (LetIn b B t) = omega (arith, depth-numbered ns ls b, depth-numbered ns ls B, depth-numbered ns ls t)
  depth-numbered ns ls (App f a) = omega (arith, depth-numbered ns ls f, depth-numbered ns ls a)
  depth-numbered ns ls (Const k) = refl
  depth-numbered ns ls (Ind k n) = refl
  depth-numbered ns ls (Construct k n c) = refl
  depth-numbered ns ls (Case k n ps m r s bs) = omega (arith, depth-terms ns ls ps, depth-numbered ns ls r, depth-numbered ns ls s, depth-branches ns ls bs)
  depth-numbered ns ls (Fix ds i) = omega (arith, depth-defs ns ls (length (recursive_arguments ds)) ds)

  pub depth-terms : (ns ls : List (List ℕ)) (ts : NamedTerms) → m.depth_trees (numbered_terms ns ls ts) ≡ depth_terms ts
  depth-terms ns ls NoTerm = refl
  depth-terms ns ls (OneTerm t more) = omega (arith, depth-numbered ns ls t, depth-terms ns ls more)

  pub depth-branches : (ns ls : List (List ℕ)) (bs : NamedBranches) → m.depth_trees (numbered_branches ns ls bs) ≡ depth_branches bs
  depth-branches ns ls NoBranch = refl
  depth-branches ns ls (OneBranch n b more) = omega (arith, depth-numbered ns ls b, depth-branches ns ls more)

  pub depth-defs : (ns ls : List (List ℕ)) (n : ℕ) (ds : NamedDefs) → max (m.depth_trees (numbered_types ns ls ds)) (m.depth_trees (numbered_bodies ns ls n ds)) ≡ depth_defs ds
  depth-defs ns ls n NoDef = refl
  depth-defs ns ls n (OneDef A b r more) = omega (arith, depth-numbered ns ls A, depth-numbered ns ls b, depth-defs ns ls n more)
