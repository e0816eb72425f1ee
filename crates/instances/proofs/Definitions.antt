-- The fixpoints of definitions, one by one.
use Rattle.std.proofs.Common.{◌≡◌, ℕ, zero, suc, ◌+◌, ◌<◌, List, [], ◌∷◌, ◌++◌, length, get_or, Some, refl, ap, ◌∙◌, arith}
use Rattle.std.specs.Bool.{IsTrue}
use Rattle.std.specs.Option.{option_map}
use Rattle.trees.specs.Measures.{IsBeyond}
use Rattle.pc_terms.specs.Syntax.{Term, Terms, Rel, Fix, term_at, put_all, substitute}
use Rattle.pc_terms.specs.Lists.{rargs_of, types_of, bodies_of}
use Rattle.pc_terms.proofs.Parts.{rargs_length}
use Rattle.pc_terms.specs.declared.term.Def.{Def}
use Rattle.calculus_rules.specs.Instances.{fixpoints}
use Rattle.pc_rules.specs.DirectedRun.{is_beyond}
use Rattle.instances.specs.Unfolding.{fixpoint_at, unfolding_of, some_beyond, unfolding_beyond}
use Rattle.pc_rules.proofs.Following.{beyond_is, or_right}

pub fixpoints-last : (i n : ℕ) (rargs : List ℕ) (types bodies : Terms) →
    fixpoints i (suc n) rargs types bodies ≡ fixpoints i n rargs types bodies ++ (Fix (i + n) rargs types bodies ∷ [])
fixpoints-last i zero rargs types bodies = let e : i ≡ i + 0 = omega arith in ap (λ j. Fix j rargs types bodies ∷ []) e
fixpoints-last i (suc n) rargs types bodies =
    let e : suc i + n ≡ i + suc n = omega arith in
    ap (λ ts. Fix i rargs types bodies ∷ ts)
    (fixpoints-last (suc i) n rargs types bodies ∙ ap (λ j. fixpoints (suc i) n rargs types bodies ++ (Fix j rargs types bodies ∷ [])) e)

pub bodies-at : (m : ℕ) (ds : List Def) (i : ℕ) (o : Def) → i < length ds → term_at (bodies_of m ds) i ≡ Some (m, (get_or ds i o).body)
bodies-at m [] i o l = absurd (omega arith)
bodies-at m (d ∷ ds) zero o l = refl
bodies-at m (d ∷ ds) (suc i) o l = bodies-at m ds i o (omega arith)

pub fixpoints-next : (i : ℕ) (rargs : List ℕ) (types bodies : Terms) →
    fixpoints 0 (i + 1) rargs types bodies ≡ fixpoints 0 i rargs types bodies ++ (Fix i rargs types bodies ∷ [])
fixpoints-next i rargs types bodies =
    let e : i + 1 ≡ suc i = omega arith in
    let f : 0 + i ≡ i = omega arith in
    ap (λ n. fixpoints 0 n rargs types bodies) e ∙ fixpoints-last 0 i rargs types bodies
    ∙ ap (λ j. fixpoints 0 i rargs types bodies ++ (Fix j rargs types bodies ∷ [])) f

-- all fixpoints of the definitions
abbrev pub all_fixpoints : List Def → List Term
all_fixpoints ds = fixpoints 0 (length ds) (rargs_of ds) (types_of ds) (bodies_of (length ds) ds)

-- the unfolding of a definition that is read from the list
pub unfolding_at : (ds : List Def) (i : ℕ) (o : Def) → i < length ds → unfolding_of ds i ≡ Some (substitute (put_all (all_fixpoints ds) Rel) (get_or ds i o).body)
unfolding_at ds i o l =
    ap (option_map (λ b. substitute (put_all (fixpoints 0 (length (rargs_of ds)) (rargs_of ds) (types_of ds) (bodies_of (length ds) ds)) Rel) b.1)) (bodies-at (length ds) ds i o l)
    ∙ ap (λ n. Some (substitute (put_all (fixpoints 0 n (rargs_of ds) (types_of ds) (bodies_of (length ds) ds)) Rel) (get_or ds i o).body)) (rargs_length ds)

pub unfolding_at-beyond : (ds : List Def) (i : ℕ) (t : Term) → unfolding_of ds i ≡ Some t → IsBeyond t → IsTrue (unfolding_beyond ds i)
unfolding_at-beyond ds i t e h =
    or_right (is_beyond (fixpoint_at ds i)) (some_beyond (unfolding_of ds i)) (ap some_beyond e ∙ beyond_is t h)

-- the lists as they are read
pub unfolding_read : (ds es : List Def) (list : List Term) (i : ℕ) (o : Def) → es ≡ ds → list ≡ all_fixpoints ds →
    substitute (put_all list Rel) (get_or es i o).body ≡ substitute (put_all (all_fixpoints ds) Rel) (get_or ds i o).body
unfolding_read ds es list i o e f =
    ap (λ ts. substitute (put_all ts Rel) (get_or es i o).body) f ∙ ap (λ (ds' : List Def). substitute (put_all (all_fixpoints ds) Rel) (get_or ds' i o).body) e
