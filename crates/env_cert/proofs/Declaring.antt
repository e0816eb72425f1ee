-- Declarations one after the other.
use Rattle.std.proofs.Common.{◌≡◌, ◌∙◌, ℕ, ◌+◌, ◌<◌, ◌≤◌, refl, sym, ap, subst, List, [], ◌∷◌, ◌++◌, map, take, drop, get_or, length, Ok, Err}
use Rattle.std.proofs.lemmas.List.{map-append}
use Rattle.universe_levels.specs.declared.constraint.Constraint.{Constraint}
use Rattle.pc_terms.specs.declared.leaf.Name.{Name}
use Rattle.pc_terms.specs.Syntax.{Term}
use Rattle.dump_reader.specs.declared.declaration.RawFamily.{RawFamily}
use Rattle.dump_reader.specs.declared.declaration.RawDecl.TheVariants.{Block as RawBlock}
use Rattle.dump_reader.specs.declared.declaration.RawDecl.{RawDecl}
use Rattle.calculus_rules.specs.declared.declaration.Block.{Block}
use Rattle.calculus_rules.specs.declared.declaration.Kept.{Kept}
use Rattle.calculus_rules.specs.declared.declaration.Kept.TheVariants.{Block as Whole}
use Rattle.calculus_rules.specs.Lookups.{kept_at}
use Rattle.calculus_rules.specs.Environment.{Env}
use Rattle.calculus_rules.specs.Accepted.{Accepted, constant, block, IsAccepted}
use Rattle.pc_rules.specs.declared.stop.Stop.TheVariants as stops
use Rattle.pc_rules.specs.Entailment.{test_of}
use Rattle.pc_rules.specs.Lookup.{AreHeads, with_kept}
use Rattle.pc_rules.specs.DirectedDeclarations.{Given, fresh_name}
use Rattle.pc_rules.proofs.ListSteps.{next_is, none_left, take_next}
use Rattle.rule_laws.specs.Declarations.{GivenFormed, AllGivenFormed, IsCheckedDeclaration}
use Rattle.rule_laws.proofs.TypedCounts.{accepted_counted}
use Rattle.type_infer.specs.Ready.{IsReady}
use Rattle.type_infer.proofs.Beginning.{decides}
use Rattle.inductive_check.specs.Given.{given_of, block_of}
use Rattle.cert_rules.specs.Walk.{Items, WalkState, Walk, walk_on, by_rules}
use Rattle.cert_rules.specs.WalkDeclarations.{walk_declaration, walk_declarations}
use Rattle.cert_rules.proofs.SoundEnvironments.{declaration_sound}
use Rattle.type_cert.specs.declared.halt.WalkHalt.{WalkHalt}
use Rattle.type_cert.specs.declared.halt.WalkHalt.TheVariants as walks
use Rattle.type_cert.specs.declared.trail.Trail.{Trail}
use Rattle.type_cert.specs.declared.verifier.Verifier.{Verifier}
use Rattle.block_cert.specs.BlockWalks.{block_walk}
use Rattle.type_cert.specs.Retraces.{stand, Retraces}
use Rattle.type_cert.proofs.Retracing.{retraces_on, retraces_err, retraces_pass, retraces_memory}
use Rattle.env_cert.specs.EnvWalks.{declaration_walk, declarations_walk, LeadsOn, StopsAmong}

-- an accepted environment is ready for typing
pub accepted_ready : (E : Env) → IsAccepted E → IsReady E []
accepted_ready E a = record { env = accepted_counted E a; context = tt; consistent = a.consistent }

-- heads of a block are never accepted
pub not_heads : {levels : ℕ} {cs : List Constraint} {k : Kept} {ds : List Kept} → Accepted levels cs (k ∷ ds) → AreHeads k → ⊥
not_heads (constant a fresh typed fits) h = h
not_heads (block a fresh fits) h = h

-- a declaration to which the walk comes is accepted
pub declaration_checked : (cert : Items) (n : ℕ) (E : Env) → IsAccepted E → (d : Given) (k : Kept) (t0 t1 : Trail) → GivenFormed d →
    Retraces (walk_declaration cert E (test_of E) n d (stand t0)) (Ok k) t0 t1 → IsCheckedDeclaration E.levels E.constraints E.declarations d k
declaration_checked cert n E a d k t0 t1 f p =
    declaration_sound cert E.levels E.constraints (test_of E) (decides E [] (accepted_ready E a)) E.declarations (a.declarations, (accepted_counted E a).declarations) n d k (stand t0) (stand t1) f p.answer

pub kept_accepted : (E : Env) → IsAccepted E → (d : Given) (k : Kept) → IsCheckedDeclaration E.levels E.constraints E.declarations d k → IsAccepted (with_kept E k)
kept_accepted E a d k c = record { over = a.over; consistent = a.consistent; declarations = c.accepted }

-- what is given is formed, one by one

givens_more : (ds es : List Given) → AllGivenFormed ds → AllGivenFormed es → AllGivenFormed (ds ++ es)
givens_more [] es h k = k
givens_more (d ∷ ds) es h k = (h.0, givens_more ds es h.1 k)

pub formed_next : (xs : List RawDecl) (i : ℕ) (x : RawDecl) → i < length xs → x ≡ get_or xs i x → AllGivenFormed (map given_of (take i xs)) → GivenFormed (given_of x) →
    AllGivenFormed (map given_of (take (i + 1) xs))
formed_next xs i x l is h k =
    subst (λ ds. AllGivenFormed ds) (sym (ap (map given_of) (take_next xs i x l is) ∙ map-append given_of (take i xs) (x ∷ [])))
    (givens_more (map given_of (take i xs)) (given_of x ∷ []) h (k, tt))

-- the walk goes on by one

module _ (cert : Items) (n : ℕ) (E : Env) (ds : List Given) (t0 : Trail) (H : Env) (xs : List RawDecl) (i : ℕ) (t : Trail) (go : LeadsOn cert n E ds t0 H (map given_of (drop i xs)) t) where
  module _ (x : RawDecl) (l : i < length xs) (is : x ≡ get_or xs i x) where
    abbrev others : Term → Kept → WalkState → Walk (Env × Term)
    others main k v = declarations_walk cert n (with_kept H k) (map given_of (drop (i + 1) xs)) main v

    here : (main : Term) (s : WalkState) → declarations_walk cert n H (map given_of (drop i xs)) main s ≡ walk_on (walk_declaration cert H (test_of H) n (given_of x) s) (others main)
    unfolding walk_declarations
    here main s = rw (next_is xs i x l is) refl

    pub goes_further : (k : Kept) (t1 : Trail) → Retraces (walk_declaration cert H (test_of H) n (given_of x) (stand t)) (Ok k) t t1 →
        LeadsOn cert n E ds t0 (with_kept H k) (map given_of (drop (i + 1) xs)) t1
    goes_further k t1 p main r u q = go main r u (subst (λ w. Retraces w r t u) (sym (here main (stand t))) (retraces_on (others main) p q))

    pub goes_no_further : (h : WalkHalt) (t1 : Trail) → Retraces (walk_declaration cert H (test_of H) n (given_of x) (stand t)) (Err h) t t1 → StopsAmong cert n E ds t0 h t1
    goes_no_further h t1 p main = go main (Err h) t1 (subst (λ w. Retraces w (Err h) t t1) (sym (here main (stand t))) (retraces_err (others main) p))

    pub goes_short : (k : Kept) (t1 : Trail) → Retraces (walk_declaration cert H (test_of H) n (given_of x) (stand t)) (Ok k) t t1 →
        StopsAmong cert n E ds t0 (walks.Stop stops.Memory) t1
    goes_short k t1 p main = goes_further k t1 p main (Err (walks.Stop stops.Memory)) t1 (retraces_memory (others main k (stand t1)) t1)

  pub goes_through : length xs ≤ i → LeadsOn cert n E ds t0 H [] t
  goes_through l = subst (λ ys. LeadsOn cert n E ds t0 H (map given_of ys) t) (none_left xs i l) go

-- nothing has been walked yet
pub goes_nowhere : (cert : Items) (n : ℕ) (E : Env) (ds : List Given) (t0 : Trail) → LeadsOn cert n E ds t0 E ds t0
goes_nowhere cert n E ds t0 main r u p = p

-- a block that is read, whose name is new
module _ (v : Verifier) (k : Name) (ps : List Term) (fs : List RawFamily) (d : RawDecl) (is : d ≡ RawBlock k ps fs) (t0 t1 : Trail)
    (f : Retraces (by_rules (fresh_name (kept_at v.env.now.declarations k) k) (stand t0)) (Ok tt) t0 t0) where
  pub block_halts : (h : WalkHalt) → Retraces (block_walk v (block_of d) (stand t0)) (Err h) t0 t1 → Retraces (declaration_walk v (given_of d) (stand t0)) (Err h) t0 t1
  block_halts h =
      subst (λ d. Retraces (block_walk v (block_of d) (stand t0)) (Err h) t0 t1 → Retraces (declaration_walk v (given_of d) (stand t0)) (Err h) t0 t1) (sym is)
      (λ p. retraces_on _ f (retraces_err _ p))

  pub block_kept : (D : Block) → Retraces (block_walk v (block_of d) (stand t0)) (Ok D) t0 t1 → Retraces (declaration_walk v (given_of d) (stand t0)) (Ok (Whole D)) t0 t1
  block_kept D =
      subst (λ d. Retraces (block_walk v (block_of d) (stand t0)) (Ok D) t0 t1 → Retraces (declaration_walk v (given_of d) (stand t0)) (Ok (Whole D)) t0 t1) (sym is)
      (λ p. retraces_on _ f (retraces_on _ p (retraces_pass _ _)))
