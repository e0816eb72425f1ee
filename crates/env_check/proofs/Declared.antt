-- One declaration.
use Rattle.std.proofs.Common.{◌≡◌, ℕ, sym, ap, subst, List, Option, Result, Ok, Err}
use Rattle.pc_terms.specs.declared.leaf.Name.{Name}
use Rattle.pc_terms.specs.Syntax.{Term}
use Rattle.dump_reader.specs.declared.declaration.RawFamily.{RawFamily}
use Rattle.dump_reader.specs.declared.declaration.RawDecl.{RawDecl}
use Rattle.dump_reader.specs.declared.declaration.RawDecl.TheVariants.{Block as RawBlock}
use Rattle.calculus_rules.specs.declared.declaration.Block.{Block}
use Rattle.calculus_rules.specs.declared.declaration.Kept.{Kept}
use Rattle.calculus_rules.specs.declared.declaration.Kept.TheVariants.{Block as Whole}
use Rattle.pc_rules.specs.declared.meter.Account.{Account}
use Rattle.pc_rules.specs.declared.meter.Meter.{Meter}
use Rattle.pc_rules.specs.declared.stop.Halt.{Halt}
use Rattle.calculus_rules.specs.Environment.{Env}
use Rattle.pc_rules.specs.Lookup.{IsNew}
use Rattle.calculus_rules.specs.Accepted.{IsFresh, block, IsAccepted}
use Rattle.pc_rules.specs.Follows.{Answers, Follows}
use Rattle.pc_rules.specs.DirectedRun.{Run, done, bind}
use Rattle.calculus_rules.specs.Lookups.{kept_at}
use Rattle.pc_rules.specs.DirectedComparison.{Test}
use Rattle.pc_rules.specs.DirectedDeclarations.{fresh_name, constant_rule, block_rule, GivenConstant, GivenBlock, declaration_rule}
use Rattle.pc_rules.proofs.Fair.{leaves_bind, same_left}
use Rattle.pc_rules.proofs.FairTyping.{block_leaves, fresh_name_leaves}
use Rattle.pc_rules.proofs.Leaving.{leaving}
use Rattle.pc_rules.proofs.Following.{follows_bind, follows_err, follows_done, follows_still}
use Rattle.rule_laws.specs.Declarations.{IsCheckedBlock, IsCheckedDeclaration}
use Rattle.rule_laws.proofs.Extending.{fresh_is}
use Rattle.inductive_check.specs.Given.{block_of, given_of}

-- a constant

module _ (E : Env) (q : Test) (n : ℕ) (k : Name) (T : Term) (b : Option Term) where
  pub constant_name_taken : (h : Halt) (m : Meter) → Answers {A = Unit {0}} (fresh_name (kept_at E.declarations k) k m.account) (Err h) m.account →
      Follows (declaration_rule E q n (GivenConstant k T b) m.account) (Err h) m m
  constant_name_taken h m p =
      follows_err (fresh_name (kept_at E.declarations k) k m.account) (λ _ v. constant_rule E q n k T b v) h m m
      (follows_still (fresh_name (kept_at E.declarations k) k m.account) (Err h) m p (fresh_name_leaves (kept_at E.declarations k) k m.account)) (search leaving depth 8)

  pub constant_declared : (r : Result Kept Halt) (m0 m1 : Meter) → Answers {A = Unit {0}} (fresh_name (kept_at E.declarations k) k m0.account) (Ok tt) m0.account →
      Follows (constant_rule E q n k T b m0.account) r m0 m1 → Follows (declaration_rule E q n (GivenConstant k T b) m0.account) r m0 m1
  constant_declared r m0 m1 p f =
      follows_bind (fresh_name (kept_at E.declarations k) k m0.account) (λ _ v. constant_rule E q n k T b v) tt r m0 m0 m1
      (follows_still (fresh_name (kept_at E.declarations k) k m0.account) (Ok tt) m0 p (fresh_name_leaves (kept_at E.declarations k) k m0.account)) f

-- a block

module _ (E : Env) (q : Test) (n : ℕ) (B : Block) where
  after_name : Unit {0} → Account → Run Kept
  after_name _ v = bind (block_rule E q n B v) (λ D w. done (Whole D) w)

  pub block_name_taken : (h : Halt) (m : Meter) → Answers {A = Unit {0}} (fresh_name (kept_at E.declarations B.name) B.name m.account) (Err h) m.account →
      Follows (declaration_rule E q n (GivenBlock B) m.account) (Err h) m m
  unfolding after_name
  block_name_taken h m p =
      follows_err (fresh_name (kept_at E.declarations B.name) B.name m.account) after_name h m m
      (follows_still (fresh_name (kept_at E.declarations B.name) B.name m.account) (Err h) m p (fresh_name_leaves (kept_at E.declarations B.name) B.name m.account))
      (λ _ v. leaves_bind (block_rule E q n B v) (λ D w. done (Whole D) w) v.left (block_leaves E q n B v) (λ D w. same_left w))

  named : (r : Result Kept Halt) (m0 m1 : Meter) → Answers {A = Unit {0}} (fresh_name (kept_at E.declarations B.name) B.name m0.account) (Ok tt) m0.account →
      Follows (after_name tt m0.account) r m0 m1 → Follows (declaration_rule E q n (GivenBlock B) m0.account) r m0 m1
  unfolding after_name
  named r m0 m1 p f =
      follows_bind (fresh_name (kept_at E.declarations B.name) B.name m0.account) after_name tt r m0 m0 m1
      (follows_still (fresh_name (kept_at E.declarations B.name) B.name m0.account) (Ok tt) m0 p (fresh_name_leaves (kept_at E.declarations B.name) B.name m0.account)) f

  block_halted : (h : Halt) (m0 m1 : Meter) → Answers {A = Unit {0}} (fresh_name (kept_at E.declarations B.name) B.name m0.account) (Ok tt) m0.account →
      Follows (block_rule E q n B m0.account) (Err h) m0 m1 → Follows (declaration_rule E q n (GivenBlock B) m0.account) (Err h) m0 m1
  unfolding after_name
  block_halted h m0 m1 p f = named (Err h) m0 m1 p (follows_err (block_rule E q n B m0.account) (λ D w. done (Whole D) w) h m0 m1 f (λ D w. same_left w))

  block_declared : (D : Block) (m0 m1 : Meter) → Answers {A = Unit {0}} (fresh_name (kept_at E.declarations B.name) B.name m0.account) (Ok tt) m0.account →
      Follows (block_rule E q n B m0.account) (Ok D) m0 m1 → Follows (declaration_rule E q n (GivenBlock B) m0.account) (Ok (Whole D)) m0 m1
  unfolding after_name
  block_declared D m0 m1 p f =
      named (Ok (Whole D)) m0 m1 p (follows_bind (block_rule E q n B m0.account) (λ D w. done (Whole D) w) D (Ok (Whole D)) m0 m1 m1 f (follows_done (Whole D) m1))

-- a block that is read

module _ (E : Env) (q : Test) (n : ℕ) (k : Name) (ps : List Term) (fs : List RawFamily) (d : RawDecl) (is : d ≡ RawBlock k ps fs) where
  pub read_block_halted : (h : Halt) (m0 m1 : Meter) → Answers {A = Unit {0}} (fresh_name (kept_at E.declarations k) k m0.account) (Ok tt) m0.account →
      Follows (block_rule E q n (block_of d) m0.account) (Err h) m0 m1 → Follows (declaration_rule E q n (given_of d) m0.account) (Err h) m0 m1
  read_block_halted h m0 m1 p =
      subst (λ d. Follows (block_rule E q n (block_of d) m0.account) (Err h) m0 m1 → Follows (declaration_rule E q n (given_of d) m0.account) (Err h) m0 m1) (sym is)
      (block_halted E q n (block_of (RawBlock k ps fs)) h m0 m1 p)

  pub read_block_declared : (D : Block) (m0 m1 : Meter) → Answers {A = Unit {0}} (fresh_name (kept_at E.declarations k) k m0.account) (Ok tt) m0.account →
      Follows (block_rule E q n (block_of d) m0.account) (Ok D) m0 m1 → Follows (declaration_rule E q n (given_of d) m0.account) (Ok (Whole D)) m0 m1
  read_block_declared D m0 m1 p =
      subst (λ d. Follows (block_rule E q n (block_of d) m0.account) (Ok D) m0 m1 → Follows (declaration_rule E q n (given_of d) m0.account) (Ok (Whole D)) m0 m1) (sym is)
      (block_declared E q n (block_of (RawBlock k ps fs)) D m0 m1 p)

pub block_checked : (E : Env) (B D : Block) → IsAccepted E → IsNew E B.name → IsCheckedBlock E B D → IsCheckedDeclaration E.levels E.constraints E.declarations (GivenBlock B) (Whole D)
block_checked E B D a new c =
    let same_name : B.name ≡ D.name = sym (ap (λ X. X.name) c.heads) in
    record {
      accepted = block a.declarations (subst (λ k. IsFresh k E.declarations) same_name (fresh_is E.declarations B.name new)) c.fits;
      counted = c.counted;
      same = ap (λ X. Whole X) c.same;
    }
