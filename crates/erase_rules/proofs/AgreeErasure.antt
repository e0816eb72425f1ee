-- Directed erasure agrees with itself, whatever the units and the room.
use Rattle.std.proofs.Common.{ℕ, Bool, true, false, if◌then◌else◌, List, [], ◌∷◌, length, Option, Some, None}
use Rattle.pc_terms.specs.declared.leaf.FamilyId.{FamilyId}
use Rattle.pc_terms.specs.Syntax.{Term, Terms, Next, Rel, Lambda, LetIn, App, Const, Construct, Case, Fix, list_of}
use Rattle.pc_terms.specs.Syntax as syntax
use Rattle.box_terms.specs.BoxSyntax.{BoxTerm, BoxTerms, Box, BLambda, BLetIn, BApp, BConst, BConstruct, BCase, BFix}
use Rattle.calculus_rules.specs.declared.declaration.Constructor.{Constructor}
use Rattle.calculus_rules.specs.declared.declaration.Kept.{Kept}
use Rattle.calculus_rules.specs.declared.declaration.Kept.TheVariants.{Constant, Heads, Block as Whole}
use Rattle.calculus_rules.specs.declared.evidence.Evidence.{Evidence}
use Rattle.calculus_rules.specs.declared.entry.Entry.TheVariants.{Assumed, Defined}
use Rattle.pc_rules.specs.declared.broken.Broken.TheVariants.{UnknownName}
use Rattle.pc_rules.specs.declared.broken.Place.TheVariants.{Declaration as AtDeclaration, Main as AtMain}
use Rattle.pc_rules.specs.declared.meter.Account.{Account}
use Rattle.calculus_rules.specs.Environment.{Env, FamilyDecl}
use Rattle.calculus_rules.specs.Context.{Context, extend}
use Rattle.calculus_rules.specs.Instances.{branch_entries, definitions}
use Rattle.pc_rules.specs.DirectedRun.{Run, any_beyond}
use Rattle.calculus_rules.specs.Lookups.{family_of}
use Rattle.pc_rules.specs.DirectedComparison.{Test, lifted_types}
use Rattle.pc_rules.specs.DirectedTyping.{Typing, infer}
use Rattle.agreeing.specs.Agreement.{AgreeAtPlaces}
use Rattle.agreeing.proofs.Agree.{IsAgreeing, agree_done, agree_refused, agree_passing, agree_bind}
use Rattle.agreeing.proofs.AgreeTyping.{AgreeTyping, agree_infer}
use Rattle.agreeing.proofs.AgreeErasable.{agree_erasable}
use Rattle.agreeing.proofs.AgreeEnvironment.{PlacesAgree, agree_gives, agree_at_place, agree_and_then}
use Rattle.erase_rules.specs.DirectedErasure.{box_or, tested, in_family, kept, kept_branches, kept_bodies, erased}
use Rattle.pc_rules.specs.DirectedPlaces.{Placed}
use Rattle.erase_rules.specs.DirectedProgram.{is_reached, with_constant, with_axiom, erased_constants, answer, erased_program}

agree_box_or : (o : Option Evidence) (f f' : Account → Run BoxTerm) → IsAgreeing f f' → IsAgreeing (λ u. box_or o f u) (λ u. box_or o f' u)
agree_box_or (Some k) f f' h = agree_done Box
agree_box_or None f f' h = h

agree_tested : (E : Env) (inf inf' : Typing) → AgreeTyping inf inf' → (c : Context) (t : Term) (f f' : Account → Run BoxTerm) → IsAgreeing f f' →
    IsAgreeing (λ u. tested E inf c t f u) (λ u. tested E inf' c t f' u)
unfolding tested
agree_tested E inf inf' h c t f f' p = agree_bind _ _ _ _ (agree_erasable E inf inf' h c t) (λ o. agree_box_or o f f' p)

agree_in_family : (f : FamilyId) (o : Option FamilyDecl) (go go' : List Constructor → Account → Run BoxTerms) → ((Cs : List Constructor) → IsAgreeing (go Cs) (go' Cs)) →
    IsAgreeing (λ u. in_family f o go u) (λ u. in_family f o go' u)
agree_in_family f None go go' h = agree_refused (UnknownName f.block)
agree_in_family f (Some F) go go' h = h F.constructors

module _ (E : Env) (inf inf' : Typing) (h : AgreeTyping inf inf') where
  mutual
    agree_kept : (c : Context) (t : Term) → IsAgreeing (λ u. kept E inf c t u) (λ u. kept E inf' c t u)
    agree_kept c (Rel i) = agree_done (Rel i)
    agree_kept c (Lambda A b) =
        agree_bind _ _ _ _ (agree_tested E inf inf' h (Assumed A ∷ c) b _ _ (agree_kept (Assumed A ∷ c) b)) (λ b'. agree_done (BLambda b'))
    agree_kept c (LetIn b B t) =
        agree_bind _ _ _ _ (agree_tested E inf inf' h c b _ _ (agree_kept c b)) (λ b'.
        agree_bind _ _ _ _ (agree_tested E inf inf' h (Defined b B ∷ c) t _ _ (agree_kept (Defined b B ∷ c) t)) (λ t'. agree_done (BLetIn b' t')))
    agree_kept c (App f a) =
        agree_bind _ _ _ _ (agree_tested E inf inf' h c f _ _ (agree_kept c f)) (λ f'.
        agree_bind _ _ _ _ (agree_tested E inf inf' h c a _ _ (agree_kept c a)) (λ a'. agree_done (BApp f' a')))
    agree_kept c (Const k) = agree_done (BConst k)
    agree_kept c (Construct f n) = agree_done (BConstruct f n)
    agree_kept c (Case f ps n ret s bs) =
        agree_bind _ _ _ _ (agree_tested E inf inf' h c s _ _ (agree_kept c s)) (λ s'.
        agree_bind _ _ _ _ (agree_in_family f (family_of E f) _ _ (λ Cs. agree_branches c (list_of ps) Cs bs)) (λ bs'. agree_done (BCase f s' bs')))
    agree_kept c (Fix i rargs types bodies) =
        agree_bind _ _ _ _ (agree_passing (any_beyond (lifted_types 0 (list_of types)))) (λ x.
        agree_bind _ _ _ _ (agree_bodies (definitions c 0 types) bodies) (λ bodies'. agree_done (BFix i rargs bodies')))
    agree_kept c t = agree_done Box

    agree_branches : (c : Context) (ps : List Term) (Cs : List Constructor) (bs : Terms) → IsAgreeing (λ u. kept_branches E inf c ps Cs bs u) (λ u. kept_branches E inf' c ps Cs bs u)
    agree_branches c ps [] syntax.Done = agree_done syntax.Done
    agree_branches c ps (C ∷ Cs) syntax.Done = agree_done syntax.Done
    agree_branches c ps [] (Next n body bs) = agree_done syntax.Done
    agree_branches c ps (C ∷ Cs) (Next n body bs) =
        agree_bind _ _ _ _ (agree_passing (any_beyond (branch_entries C ps))) (λ x.
        agree_bind _ _ _ _ (agree_tested E inf inf' h (extend c (branch_entries C ps)) body _ _ (agree_kept (extend c (branch_entries C ps)) body)) (λ body'.
        agree_bind _ _ _ _ (agree_branches c ps Cs bs) (λ bs'. agree_done (Next n body' bs'))))

    agree_bodies : (c : Context) (bs : Terms) → IsAgreeing (λ u. kept_bodies E inf c bs u) (λ u. kept_bodies E inf' c bs u)
    agree_bodies c syntax.Done = agree_done syntax.Done
    agree_bodies c (Next n body bs) =
        agree_bind _ _ _ _ (agree_tested E inf inf' h c body _ _ (agree_kept c body)) (λ body'.
        agree_bind _ _ _ _ (agree_bodies c bs) (λ bs'. agree_done (Next n body' bs')))

  pub agree_erased : (c : Context) (t : Term) → IsAgreeing (λ u. erased E inf c t u) (λ u. erased E inf' c t u)
  agree_erased c t = agree_tested E inf inf' h c t _ _ (agree_kept c t)

-- the whole

agree_where : {A : Type 0} (b : Bool) (f f' g g' : Account → Placed A) → PlacesAgree f f' → PlacesAgree g g' → PlacesAgree (λ u. if b then f u else g u) (λ u. if b then f' u else g' u)
agree_where true f f' g g' p q = p
agree_where false f f' g g' p q = q

agree_constants : (E : Env) (inf inf' : Typing) → AgreeTyping inf inf' → (ts : List BoxTerm) (ds : List Kept) →
    PlacesAgree (λ u. erased_constants E inf ts ds u) (λ u. erased_constants E inf' ts ds u)
unfolding erased_constants
agree_constants E inf inf' h ts [] = agree_gives _
agree_constants E inf inf' h ts (Constant k T (Some b) ∷ ds) =
    agree_where (is_reached k ts) _ _ _ _
    (agree_and_then _ _ _ _ (agree_at_place (AtDeclaration (length ds)) _ _ (agree_erased E inf inf' h [] b))
    (λ b'. agree_and_then _ _ _ _ (agree_constants E inf inf' h (b' ∷ ts) ds) (λ r. agree_gives (with_constant k b' r))))
    (agree_constants E inf inf' h ts ds)
agree_constants E inf inf' h ts (Constant k T None ∷ ds) =
    agree_where (is_reached k ts) _ _ _ _
    (agree_and_then _ _ _ _ (agree_constants E inf inf' h ts ds) (λ r. agree_gives (with_axiom k r)))
    (agree_constants E inf inf' h ts ds)
agree_constants E inf inf' h ts (Heads B ∷ ds) = agree_constants E inf inf' h ts ds
agree_constants E inf inf' h ts (Whole B ∷ ds) = agree_constants E inf inf' h ts ds

agree_whole : (E : Env) (q : Test) (m n : ℕ) (main : Term) → PlacesAgree (λ u. erased_program E q m main u) (λ u. erased_program E q n main u)
agree_whole E q m n main =
    agree_and_then _ _ _ _ (agree_at_place AtMain _ _ (agree_erased E (infer E q m) (infer E q n) (record { at = agree_infer E q m n }) [] main)) (λ main'.
    agree_and_then _ _ _ _ (agree_constants E (infer E q m) (infer E q n) (record { at = agree_infer E q m n }) (main' ∷ []) E.declarations)
    (λ r. agree_gives (answer E main' r r.without_body)))

pub agree_program : (E : Env) (q : Test) (m n : ℕ) (main : Term) (u v : Account) → AgreeAtPlaces (erased_program E q m main u).outcome (erased_program E q n main v).outcome
agree_program E q m n main = (agree_whole E q m n main).at
