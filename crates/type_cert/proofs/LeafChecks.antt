-- How leaves are checked by the types that are kept.
use Rattle.std.proofs.Common.{◌≡◌, ◌+◌, ◌-◌, ◌<◌, ◌||◌, ℕ, sym, subst as transport, refl, Ok, Some, None, true, false, slice_get, arith}
use Rattle.universe_levels.specs.declared.sort.Sort.{Sort}
use Rattle.universe_levels.specs.Consistency.{IsSortOver}
use Rattle.universe_levels.specs.Sorts.{super_sort}
use Rattle.pc_terms.specs.declared.leaf.FamilyId.{FamilyId}
use Rattle.pc_terms.specs.Syntax.{Term, SortT, Ind}
use Rattle.calculus_rules.specs.Environment.{Env}
use Rattle.calculus_rules.specs.Context.{Context, values}
use Rattle.calculus_rules.specs.Same.{same}
use Rattle.pc_rules.specs.declared.meter.Account.{Account}
use Rattle.pc_rules.specs.DirectedRun.{Run, ticked}
use Rattle.pc_rules.specs.Entailment.{test_of}
use Rattle.pc_rules.specs.Follows.{Answers}
use Rattle.pc_rules.specs.DirectedComparison.{sort_below}
use Rattle.pc_rules.specs.DirectedTyping.{undeclared_in, ind_rule}
use Rattle.type_infer.specs.Ready.{IsReady}
use Rattle.type_infer.proofs.Sorts.{over_from}
use Rattle.pc_rules.proofs.Meters.{after-trans, after-tick}
use Rattle.pc_rules.proofs.SameTrees.{same_yes}
use Rattle.cert_rules.specs.declared.item.CertItem.TheVariants.{Number, Same, Conv}
use Rattle.cert_rules.specs.Walk.{Items, WalkState, by_rules}
use Rattle.cert_rules.specs.Scripts.{Script, script, sorts_at}
use Rattle.cert_rules.specs.WalkTyping.{Walking, walk_infer, walk_rule, walk_sort_of, walk_fits, walk_check}
use Rattle.type_cert.specs.declared.trail.Trail.{Trail}
use Rattle.type_cert.specs.Retraces.{stand, WalkAnswers, Retraces}
use Rattle.type_cert.specs.Unread.{RetracesUnread}
use Rattle.type_cert.proofs.Retracing.{retraces_on, retraces_then, retraces_pass}
use Rattle.type_cert.proofs.Scripting.{further, script_same, from_past}
use Rattle.type_cert.proofs.Inferring.{fits_same, fits_conv, inferred_from}
use Rattle.type_cert.proofs.Sorting.{infer_leaf, infer_family, infer_sort, sort_passes}
use Rattle.std.proofs.lemmas.Bool.{or_right}

-- a type that is the one that is asked for fits, and its item is passed
pub fits_there : (cert : Items) (E : Env) (inf : Walking) (cmp : Script) (c : Context) {S T : Term} {t0 t1 : Trail} → slice_get cert t0.at ≡ Some Same → S ≡ T → t1.meter ≡ t0.meter → t1.at ≡ t0.at + 1 →
    Retraces (walk_fits cert E inf cmp c S T (stand t0)) (Ok tt) t0 t1
fits_there cert E inf cmp c {S = S} {T = T} {t0 = t0} {t1 = t1} z e m n =
    let one : further t0 ≡ t1 = λ i. record { meter = sym m i; at = sym n i } in
    transport (λ t. Retraces (walk_fits cert E inf cmp c S T (stand t0)) (Ok tt) t0 t) one (fits_same cert E inf cmp c S T t0 z (same_yes S T true ((λ _. e), (λ _. refl)) refl))

-- a leaf whose type is the one that is asked for is checked with a unit and that item
pub leaf_checks : (cert : Items) (E : Env) (cmp : Script) (c : Context) (x : Term) {T W : Term} (f : Account → Run Term) →
    ((k : ℕ) (s : WalkState) → walk_rule cert E (walk_infer cert E (test_of E) k) (script cert E (test_of E) k) c x s ≡ by_rules f s) → (n : ℕ) (t0 t1 : Trail) → 0 < n → 0 < t0.meter.account.left →
    t1.meter.account ≡ ticked t0.meter.account → t1.meter.nest ≡ t0.meter.nest → t1.at ≡ t0.at + 1 → slice_get cert t0.at ≡ Some Same → Answers (f t1.meter.account) (Ok T) t1.meter.account → T ≡ W →
    Retraces (walk_check cert E (walk_infer cert E (test_of E) n) cmp c x W (stand t0)) (Ok tt) t0 t1
unfolding walk_check
leaf_checks cert E cmp c x {T = T} f leaf n t0 t1 z h e k g s a w =
    let between : Trail = record { meter = t1.meter; at = t0.at } in
    retraces_on _ (infer_leaf cert E c x T f leaf n t0 between z h e k refl a) (fits_there cert E (walk_infer cert E (test_of E) n) cmp c s w refl g)

-- a family whose type is a sort is checked against a sort above it with two units and three items

module _ (cert : Items) (E : Env) (c : Context) (n : ℕ) (s w : Sort) (f : FamilyId) (answers : (u : Account) → Answers (ind_rule E f u) (Ok (SortT s)) u) (d : undeclared_in E.levels w ≡ None)
    (t0 : Trail) (z : 0 < n) (h : 1 < t0.meter.account.left) where
  abbrev inf : Walking
  inf = walk_infer cert E (test_of E) n

  abbrev once : Trail
  once = record { meter = record t0.meter { account = ticked t0.meter.account }; at = t0.at }

  abbrev twice : Trail
  twice = record { meter = record t0.meter { account = ticked (ticked t0.meter.account) }; at = t0.at + 2 }

  found : Retraces (walk_infer cert E (test_of E) n c (Ind f) (stand t0)) (Ok (SortT s)) t0 once
  found = infer_family cert E c n t0 once z (omega (arith, h)) refl refl refl f s answers

  asked : Retraces (walk_infer cert E (test_of E) n c (SortT w) (stand (further once))) (Ok (SortT (super_sort w))) (further once) (record { meter = twice.meter; at = (further once).at })
  asked = infer_sort cert E c n (further once) (record { meter = twice.meter; at = (further once).at }) z (omega (arith, h)) refl refl refl w d

  pub low_over : IsReady E c → IsSortOver E.levels s
  low_over r = over_from E s (SortT s) refl (inferred_from cert E c (Ind f) r ((tt, tt), tt) n (Ok (SortT s)) t0 once found).classifier

  pub high_over : IsReady E c → IsSortOver E.levels w
  high_over r = over_from E w (SortT w) refl (inferred_from cert E c (SortT w) r ((tt, tt), tt) n (Ok (SortT (super_sort w))) (further once) (record { meter = twice.meter; at = (further once).at }) asked).subject

  sorted : slice_get cert (t0.at + 1) ≡ Some (Number 0) → RetracesUnread (walk_sort_of cert E (walk_infer cert E (test_of E) n) c (SortT w) (stand (further once))) (Ok tt) (further once) twice
  sorted none = sort_passes cert E c n refl (further once) twice asked none (omega arith)

  below_there : slice_get cert (t0.at + 2) ≡ Some Same → sort_below (test_of E) s w ≡ true →
      Retraces (script cert E (test_of E) n (values c) false (SortT s) (SortT w) (stand twice)) (Ok tt) twice (further twice)
  below_there there below =
      let q = test_of E in
      let e : (same (SortT s) (SortT w) || sorts_at q false (SortT s) (SortT w)) ≡ true = or_right _ _ below in
      script_same cert E q (values c) false (SortT s) (SortT w) n (n - 1) (script cert E q n) (omega (arith, z)) there (retraces_then _ _ _ (Ok tt) twice (further twice) e (from_past (retraces_pass tt (further twice))))

  pub family_checks : (t1 : Trail) → t1.meter.account ≡ ticked (ticked t0.meter.account) → t1.meter.nest ≡ t0.meter.nest → t1.at ≡ t0.at + 3 → slice_get cert t0.at ≡ Some Conv → slice_get cert (t0.at + 1) ≡ Some (Number 0) → slice_get cert (t0.at + 2) ≡ Some Same →
      sort_below (test_of E) s w ≡ true → Retraces (walk_check cert E (walk_infer cert E (test_of E) n) (script cert E (test_of E) n) c (Ind f) (SortT w) (stand t0)) (Ok tt) t0 t1
  unfolding walk_check
  family_checks t1 e k g conv none there below =
      let cmp = script cert E (test_of E) n in
      let u = (sorted none).unread in
      let fits = fits_conv cert E (walk_infer cert E (test_of E) n) cmp c (SortT s) (SortT w) (Ok tt) once (further twice) conv (retraces_on _ u.1 (below_there there below)) in
      let at : t0.at + 2 + 1 ≡ t1.at = omega (arith, g) in
      let p = retraces_on _ found fits in
      let end : stand (further twice) ≡ stand t1 = λ i. record { account = sym e i; at = at i } in
      let after = after-trans t0.meter once.meter t1.meter (after-tick t0.meter once.meter refl refl) (after-tick once.meter t1.meter e k) in
      record { answer = transport (λ x. WalkAnswers (walk_check cert E (walk_infer cert E (test_of E) n) cmp c (Ind f) (SortT w) (stand t0)) (Ok tt) x) end p.answer; after = after }
