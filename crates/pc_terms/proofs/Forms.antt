-- The tree of a node is formed where its parts are.
use Rattle.std.specs.List.{All}
use Rattle.std.proofs.Common.{◌≡◌, ℕ, suc, ◌<◌, List, [], ◌∷◌, length, refl, sym, ap, arith}
use Rattle.trees.specs.Tree.{Rel, Node, Group, End, terms_of, number}
use Rattle.trees.specs.Shape.{binders_of, EachTerm, AreAll}
use Rattle.pc_terms.specs.Syntax.{Term, SortOf, ProdOf, LambdaOf, LetInOf, AppOf, ConstOf, IndOf, ConstructOf, CaseOf, FixOf, HasIndex}
use Rattle.pc_terms.specs.Formed.{HasForm, IsFormed}
use Rattle.pc_terms.specs.Lists.{arms_of, types_of, bodies_of, rargs_of}
use Rattle.pc_terms.specs.View.{tree_of}
use Rattle.pc_terms.proofs.Parts.{rargs_length}
use Rattle.pc_terms.specs.declared.term.Match.{Match}
use Rattle.pc_terms.specs.declared.term.Node.TheVariants.{Case, Fix}
use Rattle.pc_terms.specs.declared.term.Branch.{Branch}
use Rattle.pc_terms.specs.declared.term.Def.{Def}

-- a fixpoint that is formed names a definition of its own
pub index_of-formed : (t : Term) → IsFormed t → HasIndex t
index_of-formed (Rel i) h = tt
index_of-formed (Node (SortOf s) ts) h = tt
index_of-formed (Node ProdOf ts) h = tt
index_of-formed (Node LambdaOf ts) h = tt
index_of-formed (Node LetInOf ts) h = tt
index_of-formed (Node AppOf ts) h = tt
index_of-formed (Node (ConstOf c) ts) h = tt
index_of-formed (Node (IndOf f) ts) h = tt
index_of-formed (Node (ConstructOf f c) ts) h = tt
index_of-formed (Node (CaseOf f n) ts) h = tt
index_of-formed (Node (FixOf i rargs) (Group types (Group bodies End))) h = h.0.1

terms_of-formed : (xs : List Term) → All IsFormed xs → EachTerm HasForm (terms_of xs)
terms_of-formed [] h = tt
terms_of-formed (x ∷ xs) h = (h 0 x (omega arith), terms_of-formed xs (λ i o l. h (suc i) o (omega (arith, l))))

arms_of-formed : (bs : List Branch) → All (λ b. IsFormed b.body) bs → EachTerm HasForm (arms_of bs)
arms_of-formed [] h = tt
arms_of-formed (b ∷ bs) h = (h 0 b (omega arith), arms_of-formed bs (λ i o l. h (suc i) o (omega (arith, l))))

types_of-formed : (ds : List Def) → All (λ d. IsFormed d.ty × IsFormed d.body) ds → EachTerm HasForm (types_of ds)
types_of-formed [] h = tt
types_of-formed (d ∷ ds) h = ((h 0 d (omega arith)).0, types_of-formed ds (λ i o l. h (suc i) o (omega (arith, l))))

bodies_of-formed : (m : ℕ) (ds : List Def) → All (λ d. IsFormed d.ty × IsFormed d.body) ds → EachTerm HasForm (bodies_of m ds)
bodies_of-formed m [] h = tt
bodies_of-formed m (d ∷ ds) h = ((h 0 d (omega arith)).1, bodies_of-formed m ds (λ i o l. h (suc i) o (omega (arith, l))))

pub terms_of-closed : (xs : List Term) → AreAll 0 (binders_of (terms_of xs))
terms_of-closed [] = tt
terms_of-closed (x ∷ xs) = (refl, terms_of-closed xs)

-- as many terms as their list has
pub number_terms : (xs : List Term) → number (terms_of xs) ≡ length xs
number_terms [] = refl
number_terms (x ∷ xs) = ap suc (number_terms xs)

types_of-closed : (ds : List Def) → AreAll 0 (binders_of (types_of ds))
types_of-closed [] = tt
types_of-closed (d ∷ ds) = (refl, types_of-closed ds)

bodies_of-under : (m n : ℕ) → m ≡ n → (ds : List Def) → AreAll n (binders_of (bodies_of m ds))
bodies_of-under m n e [] = tt
bodies_of-under m n e (d ∷ ds) = (e, bodies_of-under m n e ds)

types_of-length : (ds : List Def) → length (binders_of (types_of ds)) ≡ length (rargs_of ds)
types_of-length [] = refl
types_of-length (d ∷ ds) = omega (arith, types_of-length ds)

bodies_of-length : (m : ℕ) (ds : List Def) → length (binders_of (bodies_of m ds)) ≡ length (rargs_of ds)
bodies_of-length m [] = refl
bodies_of-length m (d ∷ ds) = omega (arith, bodies_of-length m ds)

pub case-formed : (m : Match) → All IsFormed m.params → IsFormed m.ret → IsFormed m.scrut → All (λ b. IsFormed b.body) m.branches → IsFormed (tree_of (Case m))
case-formed m p r s b = ((terms_of-closed m.params, tt), (terms_of-formed m.params p, (r, (s, (arms_of-formed m.branches b, tt)))))

pub fix-formed : (ds : List Def) (i : ℕ) → i < length (rargs_of ds) → All (λ d. IsFormed d.ty × IsFormed d.body) ds → IsFormed (tree_of (Fix ds i))
fix-formed ds i l h = (
  ((types_of-length ds, types_of-closed ds, bodies_of-length (length ds) ds, bodies_of-under (length ds) (length (rargs_of ds)) (sym (rargs_length ds)) ds), l),
  (types_of-formed ds h, (bodies_of-formed (length ds) ds h, tt)),
)
