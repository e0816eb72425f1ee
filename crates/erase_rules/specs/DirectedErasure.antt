-- Directed erasure, with units. A term is tested, and gives box where there is evidence that it is erasable. Else its former is kept, types are
-- dropped, and erasure goes on with the subterms from left to right: in a match with the scrutinee and then the branches. No limit can be
-- passed in making what it gives, since that is no deeper than its source; what is made on the way are the entries of branches and of
-- fixpoints.
use Rattle.std.specs.Prelude.{List, ◌∷◌, Option, Some, None}
use Rattle.pc_terms.specs.declared.leaf.FamilyId.{FamilyId}
use Rattle.pc_terms.specs.Syntax.{Term, Terms, Next, Rel, Lambda, LetIn, App, Const, Construct, Case, Fix, list_of}
use Rattle.pc_terms.specs.Syntax as syntax
use Rattle.box_terms.specs.BoxSyntax.{BoxTerm, BoxTerms, Box, BLambda, BLetIn, BApp, BConst, BConstruct, BCase, BFix}
use Rattle.calculus_rules.specs.declared.declaration.Constructor.{Constructor}
use Rattle.calculus_rules.specs.declared.evidence.Evidence.{Evidence}
use Rattle.calculus_rules.specs.declared.entry.Entry.TheVariants.{Assumed, Defined}
use Rattle.pc_rules.specs.declared.broken.Broken.TheVariants.{UnknownName}
use Rattle.pc_rules.specs.declared.meter.Account.{Account}
use Rattle.calculus_rules.specs.Environment.{Env, FamilyDecl}
use Rattle.calculus_rules.specs.Context.{Context, extend}
use Rattle.calculus_rules.specs.Instances.{branch_entries, definitions}
use Rattle.pc_rules.specs.DirectedRun.{Run, done, refused, passing, any_beyond, bind}
use Rattle.calculus_rules.specs.Lookups.{family_of}
use Rattle.pc_rules.specs.DirectedComparison.{lifted_types}
use Rattle.pc_rules.specs.DirectedTyping.{Typing}
use Rattle.pc_rules.specs.DirectedErasable.{erasable_test}

-- box where there is evidence, and else what keeps the former
abbrev pub box_or : Option Evidence → (Account → Run BoxTerm) → Account → Run BoxTerm
box_or (Some k) keep u = done Box u
box_or None keep u = keep u

unfoldable pub tested : Env → Typing → Context → Term → (Account → Run BoxTerm) → Account → Run BoxTerm
tested E inf c t keep u = bind (erasable_test E inf c t u) (λ o v. box_or o keep v)

-- the branches of a match on a family, where there is one
abbrev pub in_family : FamilyId → Option FamilyDecl → (List Constructor → Account → Run BoxTerms) → Account → Run BoxTerms
in_family f None go u = refused (UnknownName f.block) u
in_family f (Some F) go u = go F.constructors u

-- what is kept of a term without evidence. Products, sorts and families have no former after erasure: the test finds evidence for those that
-- have a type, and box is given to the others too
abbrev mutual
  pub kept : Env → Typing → Context → Term → Account → Run BoxTerm
  kept E inf c (Rel i) u = done (Rel i) u
  kept E inf c (Lambda A b) u = bind (tested E inf (Assumed A ∷ c) b (kept E inf (Assumed A ∷ c) b) u) (λ b' v. done (BLambda b') v)
  kept E inf c (LetIn b B t) u =
      bind (tested E inf c b (kept E inf c b) u) (λ b' v.
      bind (tested E inf (Defined b B ∷ c) t (kept E inf (Defined b B ∷ c) t) v) (λ t' w. done (BLetIn b' t') w))
  kept E inf c (App f a) u =
      bind (tested E inf c f (kept E inf c f) u) (λ f' v. bind (tested E inf c a (kept E inf c a) v) (λ a' w. done (BApp f' a') w))
  kept E inf c (Const k) u = done (BConst k) u
  kept E inf c (Construct f n) u = done (BConstruct f n) u
  kept E inf c (Case f ps n ret s bs) u =
      bind (tested E inf c s (kept E inf c s) u) (λ s' v.
      bind (in_family f (family_of E f) (λ Cs w. kept_branches E inf c (list_of ps) Cs bs w) v) (λ bs' w. done (BCase f s' bs') w))
  kept E inf c (Fix i rargs types bodies) u =
      bind (passing (any_beyond (lifted_types 0 (list_of types))) u) (λ _ v.
      bind (kept_bodies E inf (definitions c 0 types) bodies v) (λ bodies' w. done (BFix i rargs bodies') w))
  kept E inf c t u = done Box u

  -- each branch is erased under the entries of its constructor's arguments
  pub kept_branches : Env → Typing → Context → List Term → List Constructor → Terms → Account → Run BoxTerms
  kept_branches E inf c ps (C ∷ Cs) (Next n body bs) u =
      bind (passing (any_beyond (branch_entries C ps)) u) (λ _ v.
      bind (tested E inf (extend c (branch_entries C ps)) body (kept E inf (extend c (branch_entries C ps)) body) v) (λ body' w.
      bind (kept_branches E inf c ps Cs bs w) (λ bs' x. done (Next n body' bs') x)))
  kept_branches E inf c ps Cs bs u = done syntax.Done u

  -- each definition of a fixpoint in the context of all of them
  pub kept_bodies : Env → Typing → Context → Terms → Account → Run BoxTerms
  kept_bodies E inf c (Next n body bs) u =
      bind (tested E inf c body (kept E inf c body) u) (λ body' v. bind (kept_bodies E inf c bs v) (λ bs' w. done (Next n body' bs') w))
  kept_bodies E inf c syntax.Done u = done syntax.Done u

abbrev pub erased : Env → Typing → Context → Term → Account → Run BoxTerm
erased E inf c t u = tested E inf c t (kept E inf c t) u
