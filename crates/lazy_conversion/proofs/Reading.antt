-- Lists of parts as they are read.
use Rattle.std.proofs.Common.{◌≡◌, ◌∙◌, ◌+◌, ap, refl, ℕ, List, [], ◌∷◌, length, map, arith}
use Rattle.trees.specs.Substitution.{walk}
use Rattle.pc_terms.specs.Syntax.{Term, list_of}
use Rattle.pc_terms.specs.Lists.{bodies_of, walk_def}
use Rattle.pc_terms.specs.declared.term.Def.{Def}
use Rattle.pc_terms.proofs.Parts.{walk_length}
use Rattle.reduce_machine.specs.Reads.{stands_under}
use Rattle.lazy_conversion.specs.Stuck.{defs_of, type_list, body_list}
use Rattle.lazy_conversion.specs.declared.stuck.Recursive.{Recursive}

module _ (f : ℕ → ℕ → Term) (m : ℕ) where
  walked_types : (ds : List Def) → map (walk f 0) (type_list ds) ≡ type_list (map (walk_def f 0 m) ds)
  walked_types [] = refl
  walked_types (d ∷ ds) = ap (λ ts. walk f 0 d.ty ∷ ts) (walked_types ds)

  walked_bodies : (n k : ℕ) (ds : List Def) → map (walk f m) (list_of (bodies_of n ds)) ≡ list_of (bodies_of k (map (walk_def f 0 m) ds))
  walked_bodies n k [] = refl
  walked_bodies n k (d ∷ ds) =
      let z : m ≡ 0 + m = omega arith in
      λ j. walk f (z j) d.body ∷ walked_bodies n k ds j

-- the types and the bodies of definitions under bindings

pub types_read : (r : Recursive) (ts : List Term) → ts ≡ type_list r.defs.now → map (walk (stands_under r.env.now.items) 0) ts ≡ type_list (defs_of r)
types_read r ts e = ap (map (walk (stands_under r.env.now.items) 0)) e ∙ walked_types (stands_under r.env.now.items) (length r.defs.now) r.defs.now

pub bodies_read : (r : Recursive) (n : ℕ) (ts : List Term) → n ≡ length r.defs.now → ts ≡ body_list r.defs.now → map (walk (stands_under r.env.now.items) n) ts ≡ body_list (defs_of r)
bodies_read r n ts p e =
    (λ j. map (walk (stands_under r.env.now.items) (p j)) (e j))
    ∙ walked_bodies (stands_under r.env.now.items) (length r.defs.now) (length r.defs.now) (length (defs_of r)) r.defs.now

pub defs_count : (r : Recursive) → length (defs_of r) ≡ length r.defs.now
defs_count r = walk_length (stands_under r.env.now.items) 0 (length r.defs.now) r.defs.now
