-- Directed erasure never goes back on units, and more units change no result.
use Rattle.std.proofs.Common.{ℕ, List, [], ◌∷◌, Option, Some, None}
use Rattle.pc_terms.specs.declared.leaf.FamilyId.{FamilyId}
use Rattle.pc_terms.specs.Syntax.{Term, Terms, Next, Rel, Lambda, LetIn, App, Const, Construct, Case, Fix, list_of}
use Rattle.pc_terms.specs.Syntax as syntax
use Rattle.box_terms.specs.BoxSyntax.{BoxTerm, BoxTerms, Box, BLambda, BLetIn, BApp, BConst, BConstruct, BCase, BFix}
use Rattle.calculus_rules.specs.declared.declaration.Constructor.{Constructor}
use Rattle.calculus_rules.specs.declared.entry.Entry.TheVariants.{Assumed, Defined}
use Rattle.pc_rules.specs.declared.broken.Broken.TheVariants.{UnknownName}
use Rattle.pc_rules.specs.declared.meter.Account.{Account}
use Rattle.calculus_rules.specs.Environment.{Env, FamilyDecl}
use Rattle.calculus_rules.specs.Context.{Context, extend}
use Rattle.calculus_rules.specs.Instances.{branch_entries, definitions}
use Rattle.calculus_rules.specs.declared.evidence.Evidence.{Evidence}
use Rattle.pc_rules.specs.DirectedRun.{Run, any_beyond, Leaves}
use Rattle.calculus_rules.specs.Lookups.{family_of}
use Rattle.pc_rules.specs.DirectedComparison.{lifted_types}
use Rattle.pc_rules.specs.DirectedTyping.{Typing}
use Rattle.pc_rules.proofs.Fair.{IsFair, same_left, fair_done, fair_refused, fair_passing, fair_bind}
use Rattle.pc_rules.proofs.FairTyping.{FairTyping}
use Rattle.pc_rules.proofs.FairErasable.{fair_erasable}
use Rattle.erase_rules.specs.DirectedErasure.{box_or, tested, in_family, kept, kept_branches, kept_bodies, erased}

fair_box_or : {n k : ℕ} (o : Option Evidence) (f : Account → Run BoxTerm) → IsFair n k f f → IsFair n k (λ u. box_or o f u) (λ u. box_or o f u)
fair_box_or (Some e) f h = fair_done Box
fair_box_or None f h = h

fair_tested : {n k : ℕ} (E : Env) (inf : Typing) → FairTyping n k inf → (c : Context) (t : Term) (f : Account → Run BoxTerm) → IsFair n k f f →
    IsFair n k (λ u. tested E inf c t f u) (λ u. tested E inf c t f u)
unfolding tested
fair_tested E inf h c t f p = fair_bind _ _ _ _ (fair_erasable E inf h c t) (λ o. fair_box_or o f p)

fair_in_family : {n k : ℕ} (f : FamilyId) (o : Option FamilyDecl) (go : List Constructor → Account → Run BoxTerms) → ((Cs : List Constructor) → IsFair n k (go Cs) (go Cs)) →
    IsFair n k (λ u. in_family f o go u) (λ u. in_family f o go u)
fair_in_family f None go h = fair_refused (UnknownName f.block)
fair_in_family f (Some F) go h = h F.constructors

module _ (n k : ℕ) (E : Env) (inf : Typing) (h : FairTyping n k inf) where
  mutual
    fair_kept : (c : Context) (t : Term) → IsFair n k (λ u. kept E inf c t u) (λ u. kept E inf c t u)
    fair_kept c (Rel i) = fair_done (Rel i)
    fair_kept c (Lambda A b) = fair_bind _ _ _ _ (fair_tested E inf h (Assumed A ∷ c) b _ (fair_kept (Assumed A ∷ c) b)) (λ b'. fair_done (BLambda b'))
    fair_kept c (LetIn b B t) =
        fair_bind _ _ _ _ (fair_tested E inf h c b _ (fair_kept c b)) (λ b'.
        fair_bind _ _ _ _ (fair_tested E inf h (Defined b B ∷ c) t _ (fair_kept (Defined b B ∷ c) t)) (λ t'. fair_done (BLetIn b' t')))
    fair_kept c (App f a) =
        fair_bind _ _ _ _ (fair_tested E inf h c f _ (fair_kept c f)) (λ f'.
        fair_bind _ _ _ _ (fair_tested E inf h c a _ (fair_kept c a)) (λ a'. fair_done (BApp f' a')))
    fair_kept c (Const l) = fair_done (BConst l)
    fair_kept c (Construct f m) = fair_done (BConstruct f m)
    fair_kept c (Case f ps m ret s bs) =
        fair_bind _ _ _ _ (fair_tested E inf h c s _ (fair_kept c s)) (λ s'.
        fair_bind _ _ _ _ (fair_in_family f (family_of E f) _ (λ Cs. fair_branches c (list_of ps) Cs bs)) (λ bs'. fair_done (BCase f s' bs')))
    fair_kept c (Fix i rargs types bodies) =
        fair_bind _ _ _ _ (fair_passing (any_beyond (lifted_types 0 (list_of types)))) (λ x.
        fair_bind _ _ _ _ (fair_bodies (definitions c 0 types) bodies) (λ bodies'. fair_done (BFix i rargs bodies')))
    fair_kept c t = fair_done Box

    fair_branches : (c : Context) (ps : List Term) (Cs : List Constructor) (bs : Terms) → IsFair n k (λ u. kept_branches E inf c ps Cs bs u) (λ u. kept_branches E inf c ps Cs bs u)
    fair_branches c ps [] syntax.Done = fair_done syntax.Done
    fair_branches c ps (C ∷ Cs) syntax.Done = fair_done syntax.Done
    fair_branches c ps [] (Next m body bs) = fair_done syntax.Done
    fair_branches c ps (C ∷ Cs) (Next m body bs) =
        fair_bind _ _ _ _ (fair_passing (any_beyond (branch_entries C ps))) (λ x.
        fair_bind _ _ _ _ (fair_tested E inf h (extend c (branch_entries C ps)) body _ (fair_kept (extend c (branch_entries C ps)) body)) (λ body'.
        fair_bind _ _ _ _ (fair_branches c ps Cs bs) (λ bs'. fair_done (Next m body' bs'))))

    fair_bodies : (c : Context) (bs : Terms) → IsFair n k (λ u. kept_bodies E inf c bs u) (λ u. kept_bodies E inf c bs u)
    fair_bodies c syntax.Done = fair_done syntax.Done
    fair_bodies c (Next m body bs) =
        fair_bind _ _ _ _ (fair_tested E inf h c body _ (fair_kept c body)) (λ body'.
        fair_bind _ _ _ _ (fair_bodies c bs) (λ bs'. fair_done (Next m body' bs')))

  pub fair_erased : (c : Context) (t : Term) → IsFair n k (λ u. erased E inf c t u) (λ u. erased E inf c t u)
  fair_erased c t = fair_tested E inf h c t _ (fair_kept c t)

-- what runs leave, from one account

module _ (E : Env) (inf : Typing) (h : FairTyping 0 0 inf) where
  pub kept_leaves : (c : Context) (t : Term) (u : Account) → Leaves (kept E inf c t u).end u.left
  kept_leaves c t u = (fair_kept 0 0 E inf h c t).falls u

  pub box_or_leaves : (c : Context) (t : Term) (o : Option Evidence) (u : Account) → Leaves (box_or o (kept E inf c t) u).end u.left
  box_or_leaves c t (Some k) u = same_left u
  box_or_leaves c t None u = kept_leaves c t u

  pub erased_leaves : (c : Context) (t : Term) (u : Account) → Leaves (erased E inf c t u).end u.left
  erased_leaves c t u = (fair_erased 0 0 E inf h c t).falls u

  pub kept_branches_leave : (c : Context) (ps : List Term) (Cs : List Constructor) (bs : Terms) (u : Account) → Leaves (kept_branches E inf c ps Cs bs u).end u.left
  kept_branches_leave c ps Cs bs u = (fair_branches 0 0 E inf h c ps Cs bs).falls u

  pub family_branches_leave : (c : Context) (ps : List Term) (bs : Terms) (f : FamilyId) (o : Option FamilyDecl) (u : Account) →
      Leaves (in_family f o (λ Cs w. kept_branches E inf c ps Cs bs w) u).end u.left
  family_branches_leave c ps bs f None u = same_left u
  family_branches_leave c ps bs f (Some F) u = kept_branches_leave c ps F.constructors bs u

  pub kept_bodies_leave : (c : Context) (bs : Terms) (u : Account) → Leaves (kept_bodies E inf c bs u).end u.left
  kept_bodies_leave c bs u = (fair_bodies 0 0 E inf h c bs).falls u
