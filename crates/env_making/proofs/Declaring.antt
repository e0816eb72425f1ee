-- Declarations one after the other.
use Rattle.std.proofs.Common.{◌≡◌, ◌∙◌, ℕ, zero, suc, ◌+◌, ◌<◌, ◌≤◌, refl, sym, ap, subst, List, [], ◌∷◌, map, drop, get_or, length, add-one, Ok, Err}
use Rattle.pc_terms.specs.declared.leaf.Name.{Name}
use Rattle.pc_terms.specs.Syntax.{Term}
use Rattle.dump_reader.specs.declared.declaration.RawFamily.{RawFamily}
use Rattle.dump_reader.specs.declared.declaration.RawDecl.TheVariants.{Block as RawBlock}
use Rattle.dump_reader.specs.declared.declaration.RawDecl.{RawDecl}
use Rattle.calculus_rules.specs.declared.declaration.Block.{Block}
use Rattle.calculus_rules.specs.declared.declaration.Kept.{Kept}
use Rattle.calculus_rules.specs.declared.declaration.Kept.TheVariants.{Block as Whole}
use Rattle.calculus_rules.specs.Lookups.{kept_at}
use Rattle.calculus_rules.specs.Environment.{Env}
use Rattle.calculus_rules.specs.Accepted.{IsAccepted}
use Rattle.pc_rules.specs.declared.broken.Place.TheVariants.{Declaration as AtDeclaration, Main as AtMain}
use Rattle.pc_rules.specs.declared.meter.Account.{Account}
use Rattle.pc_rules.specs.declared.stop.Halt.{Halt}
use Rattle.pc_rules.specs.Entailment.{test_of}
use Rattle.pc_rules.specs.Follows.{IsAfter}
use Rattle.pc_rules.specs.Lookup.{with_kept}
use Rattle.pc_rules.specs.DirectedPlaces.{Placed}
use Rattle.pc_rules.specs.DirectedDeclarations.{Given, fresh_name}
use Rattle.pc_rules.proofs.ListSteps.{next_is, none_left}
use Rattle.rule_laws.specs.Declarations.{GivenFormed, AllGivenFormed, IsCheckedDeclaration}
use Rattle.rule_laws.proofs.TypedCounts.{accepted_counted}
use Rattle.type_infer.proofs.Beginning.{decides}
use Rattle.inductive_check.specs.Given.{given_of, block_of}
use Rattle.cert_rules.specs.Writing.{Wrote, wrote, silent}
use Rattle.cert_rules.specs.MakingDeclarations.{write_placed, gives_made, make_declarations}
use Rattle.cert_rules.proofs.TraceBlocks.{declaration_trace}
use Rattle.env_cert.proofs.Declaring.{accepted_ready}
use Rattle.script_making.specs.declared.draft.Draft.{Draft}
use Rattle.script_making.specs.Makes.{Makes}
use Rattle.script_making.proofs.Making.{makes_on, makes_err, makes_done}
use Rattle.type_making.specs.Making.{infer_making}
use Rattle.block_making.specs.BlockMaking.{block_making}
use Rattle.env_making.specs.declared.refusal.CertRefusal.TheVariants.{Memory}
use Rattle.env_making.specs.Refusals.{halted_at}
use Rattle.env_making.specs.Placing.{MakesPlaced}
use Rattle.env_making.specs.EnvMaking.{declaration_making, declarations_making, LeadsMaking, EndsMaking}
use Rattle.env_making.proofs.Placing.{placed_on, placed_halts, placed_memory, placed_given}

-- a declaration that is made is accepted
pub made_checked : (n : ℕ) (E : Env) → IsAccepted E → (d : Given) (k : Kept) (t0 t1 : Draft) → GivenFormed d → Makes (declaration_making E n d t0.meter.account) (Ok k) t0 t1 →
    IsCheckedDeclaration E.levels E.constraints E.declarations d k
made_checked n E a d k t0 t1 f p =
    let t = declaration_trace [] (test_of E) 0 E.levels E.constraints E.declarations (decides E [] (accepted_ready E a)) a.declarations (accepted_counted E a).declarations n d f in
    (t.leads t0.meter.account (wrote p.answer.0 k) t1.meter.account p.answer.1).0

-- what is given is formed, one by one

formed_left : (xs : List RawDecl) (i : ℕ) → AllGivenFormed (map given_of xs) → AllGivenFormed (map given_of (drop i xs))
formed_left xs zero h = h
formed_left [] (suc i) h = tt
formed_left (x ∷ xs) (suc i) h = formed_left xs i h.1

pub formed_at : (xs : List RawDecl) (i : ℕ) (x : RawDecl) → i < length xs → x ≡ get_or xs i x → AllGivenFormed (map given_of xs) → GivenFormed (given_of x)
formed_at xs i x l is h = (subst (λ ys. AllGivenFormed (map given_of ys)) (next_is xs i x l is) (formed_left xs i h)).0

-- main comes last, whatever the number of declarations
module _ (n : ℕ) (H : Env) (j : ℕ) (main : Term) where
  pub main_given : (T : Term) (t0 t1 : Draft) → Makes (infer_making H n [] main t0.meter.account) (Ok T) t0 t1 → MakesPlaced (declarations_making n H j [] main t0.meter.account) (Ok (H, T)) t0 t1
  unfolding make_declarations
  main_given T t0 t1 p = placed_on AtMain (infer_making H n [] main t0.meter.account) (λ T v. gives_made H T v) p (placed_given H T t1)

  pub main_halts : (h : Halt) (t0 t1 : Draft) → Makes (infer_making H n [] main t0.meter.account) (Err h) t0 t1 →
      MakesPlaced (declarations_making n H j [] main t0.meter.account) (Err (halted_at AtMain h)) t0 t1
  unfolding make_declarations
  main_halts h t0 t1 p = placed_halts AtMain (infer_making H n [] main t0.meter.account) (λ T v. gives_made H T v) p

  any_number : (i : ℕ) (u : Account) → declarations_making n H i [] main u ≡ declarations_making n H j [] main u
  unfolding make_declarations
  any_number i u = refl

-- the making goes on by one
module _ (n : ℕ) (E : Env) (ds : List Given) (t0 : Draft) (H : Env) (xs : List RawDecl) (i : ℕ) (t : Draft) (go : LeadsMaking n E 0 ds t0 H i (map given_of (drop i xs)) t) where
  module _ (x : RawDecl) (l : i < length xs) (is : x ≡ get_or xs i x) where
    abbrev others : Term → Kept → Account → Placed (Wrote (Env × Term))
    others main k v = declarations_making n (with_kept H k) (i + 1) (map given_of (drop (i + 1) xs)) main v

    one_then : (main : Term) (u : Account) → declarations_making n H i (given_of x ∷ map given_of (drop (i + 1) xs)) main u ≡
        write_placed (AtDeclaration i) (declaration_making H n (given_of x) u) (others main)
    unfolding make_declarations
    one_then main u = λ z. write_placed (AtDeclaration i) (declaration_making H n (given_of x) u)
        (λ k v. declarations_making n (with_kept H k) (sym (add-one i) z) (map given_of (drop (i + 1) xs)) main v)

    here : (main : Term) (u : Account) → declarations_making n H i (map given_of (drop i xs)) main u ≡ write_placed (AtDeclaration i) (declaration_making H n (given_of x) u) (others main)
    here main u = ap (λ ys. declarations_making n H i (map given_of ys) main u) (next_is xs i x l is) ∙ one_then main u

    pub makes_further : (k : Kept) (t1 : Draft) → Makes (declaration_making H n (given_of x) t.meter.account) (Ok k) t t1 →
        LeadsMaking n E 0 ds t0 (with_kept H k) (i + 1) (map given_of (drop (i + 1) xs)) t1
    makes_further k t1 p main r u q =
        go main r u (subst (λ d. MakesPlaced d r t u) (sym (here main t.meter.account)) (placed_on (AtDeclaration i) (declaration_making H n (given_of x) t.meter.account) (others main) p q))

    pub makes_no_further : (h : Halt) (t1 : Draft) → Makes (declaration_making H n (given_of x) t.meter.account) (Err h) t t1 → EndsMaking n E 0 ds t0 (halted_at (AtDeclaration i) h) t1
    makes_no_further h t1 p main =
        go main (Err (halted_at (AtDeclaration i) h)) t1
        (subst (λ d. MakesPlaced d (Err (halted_at (AtDeclaration i) h)) t t1) (sym (here main t.meter.account)) (placed_halts (AtDeclaration i) (declaration_making H n (given_of x) t.meter.account) (others main) p))

  pub makes_short : (t1 : Draft) → IsAfter t.meter t1.meter → EndsMaking n E 0 ds t0 Memory t1
  makes_short t1 f main = go main (Err Memory) t1 (placed_memory (declarations_making n H i (map given_of (drop i xs)) main t.meter.account) t t1 f)

  pub makes_through : length xs ≤ i → LeadsMaking n E 0 ds t0 H (length xs) [] t
  makes_through l main r u q =
      go main r u (subst (λ d. MakesPlaced d r t u)
      (sym (ap (λ ys. declarations_making n H i (map given_of ys) main t.meter.account) (none_left xs i l) ∙ any_number n H (length xs) main i t.meter.account)) q)

-- nothing has been made yet
pub makes_nowhere : (n : ℕ) (E : Env) (ds : List Given) (t0 : Draft) → LeadsMaking n E 0 ds t0 E 0 ds t0
makes_nowhere n E ds t0 main r u p = p

-- a block that is read, whose name is new
module _ (E : Env) (n : ℕ) (k : Name) (ps : List Term) (fs : List RawFamily) (d : RawDecl) (is : d ≡ RawBlock k ps fs) (t0 t1 : Draft)
    (f : Makes (silent (fresh_name (kept_at E.declarations k) k) t0.meter.account) (Ok tt) t0 t0) where
  pub block_halts : (h : Halt) → Makes (block_making E n (block_of d) t0.meter.account) (Err h) t0 t1 → Makes (declaration_making E n (given_of d) t0.meter.account) (Err h) t0 t1
  block_halts h =
      subst (λ d. Makes (block_making E n (block_of d) t0.meter.account) (Err h) t0 t1 → Makes (declaration_making E n (given_of d) t0.meter.account) (Err h) t0 t1) (sym is)
      (λ p. makes_on _ f (makes_err _ p))

  pub block_kept : (D : Block) → Makes (block_making E n (block_of d) t0.meter.account) (Ok D) t0 t1 → Makes (declaration_making E n (given_of d) t0.meter.account) (Ok (Whole D)) t0 t1
  block_kept D =
      subst (λ d. Makes (block_making E n (block_of d) t0.meter.account) (Ok D) t0 t1 → Makes (declaration_making E n (given_of d) t0.meter.account) (Ok (Whole D)) t0 t1) (sym is)
      (λ p. makes_on _ f (makes_on _ p (makes_done _ _)))
