-- Directed erasure of a whole environment never goes back on units, and more units change no result.
use Rattle.std.proofs.Common.{ℕ, ◌≤◌, Bool, true, false, if◌then◌else◌, List, [], ◌∷◌, length, Some, None, refl, sym, ap, subst, arith}
use Rattle.pc_terms.specs.Syntax.{Term}
use Rattle.box_terms.specs.BoxSyntax.{BoxTerm}
use Rattle.calculus_rules.specs.declared.declaration.Kept.{Kept}
use Rattle.calculus_rules.specs.declared.declaration.Kept.TheVariants.{Constant, Heads, Block as Whole}
use Rattle.pc_rules.specs.declared.broken.Place.{Place}
use Rattle.pc_rules.specs.declared.broken.Place.TheVariants.{Declaration as AtDeclaration, Main as AtMain}
use Rattle.pc_rules.specs.declared.meter.Account.{Account}
use Rattle.calculus_rules.specs.Environment.{Env}
use Rattle.pc_rules.specs.DirectedRun as run
use Rattle.pc_rules.specs.DirectedRun.{Run, Leaves}
use Rattle.pc_rules.specs.DirectedComparison.{Test}
use Rattle.pc_rules.specs.DirectedTyping.{Typing, infer}
use Rattle.pc_rules.specs.DirectedLaws.{more, Stays}
use Rattle.pc_rules.proofs.Fair.{IsFair}
use Rattle.pc_rules.proofs.FairTyping.{FairTyping, fair_infer}
use Rattle.pc_rules.specs.DirectedPlaces.{Outcome, Gives, Breaks, Spends, Nests, Placed, gives, outcome_at, at_place, outcome_then, and_then}
use Rattle.erase_rules.specs.DirectedProgram.{is_reached, with_constant, with_axiom, erased_constants, answer, erased_program}
use Rattle.erase_rules.specs.Laws.{LeavesAt, StaysAt}
use Rattle.erase_rules.proofs.FairErasure.{fair_erased}

-- with n units at most and k more
record IsFairAt {A : Type 0} (n k : ℕ) (f : Account → Placed A) : Type 0 where
  pub falls : (u : Account) → LeavesAt (f u).outcome u.left
  pub stays : (u : Account) → u.left ≤ n → StaysAt k (f u).outcome (f (more k u)).outcome

fair_gives : {A : Type 0} {n k : ℕ} (a : A) → IsFairAt n k (λ u. gives a u)
fair_gives a = record { falls = λ u. omega arith; stays = λ u l. refl }

fair_where : {A : Type 0} {n k : ℕ} (b : Bool) (f g : Account → Placed A) → IsFairAt n k f → IsFairAt n k g → IsFairAt n k (λ u. if b then f u else g u)
fair_where true f g p q = p
fair_where false f g p q = q

leaves_at : {A : Type 0} (p : Place) (e : run.End A) (n : ℕ) → Leaves e n → LeavesAt (outcome_at p e) n
leaves_at p (run.Done a v) n h = h
leaves_at p (run.Refused b v) n h = h
leaves_at p run.NoUnit n h = tt
leaves_at p run.Nested n h = tt

stays_at : {A : Type 0} (p : Place) (k : ℕ) (e e' : run.End A) → Stays k e e' → StaysAt k (outcome_at p e) (outcome_at p e')
stays_at p k (run.Done a v) e' h = ap (λ x. outcome_at p x) h
stays_at p k (run.Refused b v) e' h = ap (λ x. outcome_at p x) h
stays_at p k run.NoUnit e' h = tt
stays_at p k run.Nested e' h = ap (λ x. outcome_at p x) h

fair_at_place : {A : Type 0} {n k : ℕ} (p : Place) (f : Account → Run A) → IsFair n k f f → IsFairAt n k (λ u. at_place p (f u))
fair_at_place {k = k} p f h = record {
  falls = λ u. leaves_at p (f u).end u.left (h.falls u);
  stays = λ u l. stays_at p k (f u).end (f (more k u)).end (h.stays u l);
}

less_at : {A : Type 0} (o : Outcome A) (m n : ℕ) → m ≤ n → LeavesAt o m → LeavesAt o n
less_at (Gives a v) m n l h = omega arith
less_at (Breaks p b v) m n l h = omega arith
less_at Spends m n l h = tt
less_at Nests m n l h = tt

leaves_then : {A B : Type 0} {n k : ℕ} (g : A → Account → Placed B) → ((a : A) → IsFairAt n k (g a)) → (m : ℕ) (o : Outcome A) → LeavesAt o m →
    LeavesAt (outcome_then o (λ a v. (g a v).outcome)) m
leaves_then g q m (Gives a v) h = less_at (g a v).outcome v.left m h ((q a).falls v)
leaves_then g q m (Breaks p b v) h = h
leaves_then g q m Spends h = tt
leaves_then g q m Nests h = tt

stays_then : {A B : Type 0} {n k : ℕ} (g : A → Account → Placed B) → ((a : A) → IsFairAt n k (g a)) → (m : ℕ) → m ≤ n → (o o' : Outcome A) → LeavesAt o m → StaysAt k o o' →
    StaysAt k (outcome_then o (λ a v. (g a v).outcome)) (outcome_then o' (λ a v. (g a v).outcome))
stays_then {k = k} g q m l (Gives a v) o' h s =
    subst (λ x. StaysAt k (g a v).outcome (outcome_then x (λ a v. (g a v).outcome))) (sym s) ((q a).stays v (omega arith))
stays_then g q m l (Breaks p b v) o' h s = ap (λ x. outcome_then x (λ a v. (g a v).outcome)) s
stays_then g q m l Spends o' h s = tt
stays_then g q m l Nests o' h s = ap (λ x. outcome_then x (λ a v. (g a v).outcome)) s

fair_and_then : {A B : Type 0} {n k : ℕ} (f : Account → Placed A) (g : A → Account → Placed B) → IsFairAt n k f → ((a : A) → IsFairAt n k (g a)) →
    IsFairAt n k (λ u. and_then (f u) g)
unfolding and_then
fair_and_then {k = k} f g p q = record {
  falls = λ u. leaves_then g q u.left (f u).outcome (p.falls u);
  stays = λ u l. stays_then g q u.left l (f u).outcome (f (more k u)).outcome (p.falls u) (p.stays u l);
}

fair_constants : (n k : ℕ) (E : Env) (inf : Typing) → FairTyping n k inf → (ts : List BoxTerm) (ds : List Kept) → IsFairAt n k (λ u. erased_constants E inf ts ds u)
unfolding erased_constants
fair_constants n k E inf h ts [] = fair_gives _
fair_constants n k E inf h ts (Constant l T (Some b) ∷ ds) =
    fair_where (is_reached l ts) _ _
    (fair_and_then _ _ (fair_at_place (AtDeclaration (length ds)) _ (fair_erased n k E inf h [] b))
    (λ b'. fair_and_then _ _ (fair_constants n k E inf h (b' ∷ ts) ds) (λ r. fair_gives (with_constant l b' r))))
    (fair_constants n k E inf h ts ds)
fair_constants n k E inf h ts (Constant l T None ∷ ds) =
    fair_where (is_reached l ts) _ _
    (fair_and_then _ _ (fair_constants n k E inf h ts ds) (λ r. fair_gives (with_axiom l r)))
    (fair_constants n k E inf h ts ds)
fair_constants n k E inf h ts (Heads B ∷ ds) = fair_constants n k E inf h ts ds
fair_constants n k E inf h ts (Whole B ∷ ds) = fair_constants n k E inf h ts ds

fair_program : (n k : ℕ) (E : Env) (q : Test) (m : ℕ) (main : Term) → IsFairAt n k (λ u. erased_program E q m main u)
fair_program n k E q m main =
    fair_and_then _ _ (fair_at_place AtMain _ (fair_erased n k E (infer E q m) (record { at = fair_infer E q m }) [] main)) (λ main'.
    fair_and_then _ _ (fair_constants n k E (infer E q m) (record { at = fair_infer E q m }) (main' ∷ []) E.declarations)
    (λ r. fair_gives (answer E main' r r.without_body)))

pub program_falls : (E : Env) (q : Test) (m : ℕ) (main : Term) (u : Account) → LeavesAt (erased_program E q m main u).outcome u.left
program_falls E q m main u = (fair_program u.left 0 E q m main).falls u

pub program_stays : (E : Env) (q : Test) (m : ℕ) (main : Term) (k : ℕ) (u : Account) →
    StaysAt k (erased_program E q m main u).outcome (erased_program E q m main (more k u)).outcome
program_stays E q m main k u = (fair_program u.left k E q m main).stays u (omega arith)
