-- What the directed rules of blocks and constants write leads the certified walk.
use Rattle.std.proofs.Common.{◌≡◌, ◌∙◌, ℕ, suc, ◌+◌, not, Bool, true, false, if◌then◌else◌, List, [], ◌∷◌, map, length, Option, Some, None, refl, sym, ap, subst}
use Rattle.universe_levels.specs.declared.constraint.Constraint.{Constraint}
use Rattle.universe_levels.specs.declared.sort.Sort.{Sort}
use Rattle.universe_levels.specs.Consistency.{IsSortOver}
use Rattle.pc_terms.specs.declared.leaf.Name.{Name}
use Rattle.pc_terms.specs.Syntax.{Term, Rel}
use Rattle.pc_terms.specs.Formed.{IsFormed}
use Rattle.calculus_rules.specs.declared.declaration.Constructor.{Constructor}
use Rattle.calculus_rules.specs.declared.declaration.Family.{Family}
use Rattle.calculus_rules.specs.declared.declaration.Block.{Block}
use Rattle.calculus_rules.specs.declared.declaration.Kept.{Kept}
use Rattle.calculus_rules.specs.declared.declaration.Kept.TheVariants.{Constant, Heads, Block as Whole}
use Rattle.calculus_rules.specs.declared.entry.Entry.TheVariants.{Assumed}
use Rattle.pc_rules.specs.declared.broken.Broken.{Broken}
use Rattle.pc_rules.specs.declared.broken.Broken.TheVariants.{NotPositive}
use Rattle.pc_rules.specs.declared.meter.Account.{Account}
use Rattle.calculus_rules.specs.Environment.{Env, head_of, heads_of}
use Rattle.calculus_rules.specs.Context.{Context, extend}
use Rattle.calculus_rules.specs.Accepted.{IsFresh, env, Accepted}
use Rattle.pc_rules.specs.DirectedRun as run
use Rattle.pc_rules.specs.DirectedRun.{Run, bind}
use Rattle.calculus_rules.specs.Lookups.{kept_at}
use Rattle.pc_rules.specs.DirectedComparison.{Test, IsTest, Comparison, compare}
use Rattle.pc_rules.specs.DirectedTyping.{Typing, infer, check_all, counted, undeclared_in, levels_declared}
use Rattle.pc_rules.specs.DirectedPositivity.{is_positive, types_positive, constructor_positive, constructors_positive, families_positive, block_positive}
use Rattle.calculus_rules.specs.declared.target.Target.TheVariants.{Families}
use Rattle.calculus_rules.specs.Naming.{some_names}
use Rattle.pc_rules.specs.DirectedDeclarations.{distinct_names, family_head, family_heads, heads_rule, fits_sort, arguments_rule, result_names, with_sorts, constructor_rule, constructors_rule, with_constructors, families_rule, with_families, with_heads, block_rule, body_rule, constant_rule, fresh_name, Given, GivenConstant, GivenBlock, declaration_rule}
use Rattle.pc_rules.specs.WellCounted.{AreCounted, AreCountedFamilies, HasCountedDeclarations, IsCountedContext}
use Rattle.rule_laws.specs.Inference.{AllFormed}
use Rattle.rule_laws.specs.Declarations.{ConstructorsFormed, FamiliesFormed, BlockFormed, BodyFormed, GivenFormed, IsCheckedDeclaration}
use Rattle.rule_laws.proofs.Runs.{refused_done}
use Rattle.rule_laws.proofs.CountedParts.{context_extended}
use Rattle.rule_laws.proofs.SimpleRules.{declared_over, levels_are_declared}
use Rattle.rule_laws.proofs.MatchRule.{count_is}
use Rattle.rule_laws.proofs.Extending.{FindsAs, all_more, finds_more, fresh_is, env_more}
use Rattle.rule_laws.proofs.Environments.{declaration_sound}
use Rattle.cert_rules.specs.Walk.{Items, WalkState, Walk, pass, walk_on, by_rules}
use Rattle.cert_rules.specs.Scripts.{Script, script}
use Rattle.cert_rules.specs.WalkTyping.{Walking, walk_infer, walk_check_all}
use Rattle.cert_rules.specs.WalkDeclarations.{walk_head, walk_heads, walk_block_heads, walk_arguments, walk_constructor, walk_constructors, walk_families, walk_block, walk_body, walk_constant, walk_declaration}
use Rattle.cert_rules.specs.Writing.{Wrote, silent, write_on, end_forgotten}
use Rattle.cert_rules.specs.MakingTyping.{MakeTyping, MakeComparison, make_infer, make_compare, make_check_all}
use Rattle.cert_rules.specs.MakingDeclarations.{make_head, make_heads, make_block_heads, make_arguments, make_constructor, make_constructors, make_families, make_block, make_body, make_constant, make_declaration}
use Rattle.cert_rules.proofs.ExactRules.{exact_distinct, exact_levels, exact_fits_sort, exact_counted, exact_fresh}
use Rattle.cert_rules.proofs.ExactPositivity.{exact_positive}
use Rattle.cert_rules.proofs.Deferred.{Defers, defer_none, defer_on, defer_first, defer_last, defer_skip, defer_known, trace_settled}
use Rattle.cert_rules.proofs.Traces.{write_both, writing_done, writing_forgotten, on_forgotten, Traces, trace_on, trace_less, trace_rules, trace_done, trace_skip, trace_still, trace_never}
use Rattle.cert_rules.proofs.TraceComparison.{compare_trace}
use Rattle.cert_rules.proofs.TraceSorts.{Inferred, Compared, sort_trace, sorts_trace, check_trace, all_trace}
use Rattle.cert_rules.proofs.TraceRules.{infer_trace}
use Rattle.cert_rules.proofs.SoundEnvironments.{name_is_new}

-- a test of the directed rules that the walk makes later, and that takes no unit

module _ (cert : Items) where
  abbrev denied_run : Bool → Broken → Account → Run (Unit {0})
  denied_run b x u = if b then run.refused x u else run.done tt u

  trace_denied : {A : Type 0} {P : A → Type 0} (b : Bool) (x : Broken) (d : Account → Run A) (g : Account → Run (Wrote A)) (h : WalkState → Walk A) → (b ≡ false → Traces cert P d g h) →
      Traces cert P (λ u. bind (denied_run b x u) (λ _ v. d v)) (λ u. write_on (silent (denied_run b x) u) (λ _ v. g v)) h
  trace_denied false x d g h p = trace_skip cert (λ u. run.done tt u) d g h (trace_still cert (λ u. run.done tt u) tt tt (λ u. refl)) (p refl)
  trace_denied {A} {P} true x d g h p =
      trace_never cert _ _ _
      (λ u. on_forgotten (λ _ v. g v) (λ _ v. d v) (silent (run.refused x) u) (run.refused x u) (writing_forgotten u (λ n. []) (run.refused x u))
      (λ w v e. absurd (refused_done (writing_done u (λ n. []) (run.refused {A = Unit {0}} x u) w v e).0)))
      (λ u r v e. let s = write_both (silent (run.refused x) u) (λ _ v. g v) r v e in
      refused_done (writing_done u (λ n. []) (run.refused {A = Unit {0}} x u) s.0 s.1 s.2).0)

-- heads

abbrev HeadsCounted : Env → List Family → Type 0
HeadsCounted E Fs = AreCountedFamilies E (map head_of Fs)

module _ (cert : Items) (E : Env) (w : HasCountedDeclarations E) (infd : Typing) (infg : MakeTyping) (infh : Walking) (ti : Inferred cert E w infd infg infh) (B : Block)
    (params : AreCounted E B.params) where
  head_trace : (F : Family) → AllFormed F.indices → Traces cert (λ _. AreCounted E F.indices × IsSortOver E.levels F.sort) (λ u. family_head E infd B F u)
      (λ u. make_head E infg B F u) (λ s. walk_head cert E infh B F s)
  head_trace F f =
      trace_on cert _ _ _ _ _ _ (trace_rules cert {P = λ _. Unit {0}} (distinct_names [] F.ctors) (λ j. exact_distinct [] F.ctors) (λ u a v e. tt))
      (λ o t. trace_on cert _ _ _ _ _ _
      (trace_rules cert {P = λ _. IsSortOver E.levels F.sort} (levels_declared (undeclared_in E.levels F.sort)) (λ j. exact_levels (undeclared_in E.levels F.sort))
      (λ u a v e. declared_over E F.sort (levels_are_declared E F.sort u v e)))
      (λ o over. trace_on cert _ _ _ _ _ _ (sorts_trace cert E w infd infg infh ti (extend [] B.params) F.indices (context_extended E [] B.params tt params) f)
      (λ xs ks. trace_done cert tt (ks, over))))

  heads_trace : (Fs : List Family) → FamiliesFormed Fs → Traces cert (λ _. HeadsCounted E Fs) (λ u. family_heads E infd B Fs u) (λ u. make_heads E infg B Fs u)
      (λ s. walk_heads cert E infh B Fs s)
  heads_trace [] f = trace_done cert tt tt
  heads_trace (F ∷ Fs) f =
      trace_on cert _ _ _ _ _ _ (head_trace F f.0.0) (λ o h. trace_less cert (λ o hs. ((h.0, tt, h.1), hs)) (heads_trace Fs f.1))

block_heads_trace : (cert : Items) (E : Env) (w : HasCountedDeclarations E) (infd : Typing) (infg : MakeTyping) (infh : Walking) → Inferred cert E w infd infg infh → (B : Block) →
    BlockFormed B → Traces cert (λ _. AreCounted E B.params × HeadsCounted E B.families) (λ u. heads_rule E infd B u) (λ u. make_block_heads E infg B u)
    (λ s. walk_block_heads cert E infh B s)
block_heads_trace cert E w infd infg infh ti B f =
    trace_on cert _ _ _ _ _ _ (sorts_trace cert E w infd infg infh ti [] B.params tt f.0)
    (λ xs params. trace_less cert (λ o hs. (params, hs)) (heads_trace cert E w infd infg infh ti B params B.families f.1))

-- constructors: the walk tests positivity once for the block, after its last constructor

module _ (cert : Items) (H : Env) (w : HasCountedDeclarations H) (infd : Typing) (infg : MakeTyping) (infh : Walking) (ti : Inferred cert H w infd infg infh)
    (cmp : Comparison) (mk : MakeComparison) (sc : Script) (tc : Compared cert H w cmp mk sc) (q : Test) where
  arguments_defer : (k : Name) (f n : ℕ) (r : Sort) (c : Context) (As : List Term) → IsCountedContext H c → AllFormed As →
      Defers cert (λ _. AreCounted H As) (λ u. types_positive H k As u) (λ u. arguments_rule H q infd k f n r c As u) (λ u. make_arguments H q infg k f n r c As u)
      (λ s. walk_arguments cert H q infh r c As s)
  unfolding arguments_rule make_arguments walk_arguments
  arguments_defer k f n r c [] kc fs = defer_none cert (trace_done cert [] tt)
  arguments_defer k f n r c (A ∷ As) kc fs =
      defer_first cert (λ u. types_positive H k (A ∷ As) u) _ _ _ _ _ _ (sort_trace cert H w infd infg infh ti c A kc fs.0)
      (λ x kA. defer_first cert (λ u. types_positive H k (A ∷ As) u) _ _ _ _ _ _
      (trace_rules cert {P = λ _. Unit {0}} (fits_sort q r x) (λ j. exact_fits_sort q r x) (λ u a v e. tt))
      (λ o t. defer_skip cert (λ u. is_positive H k A u) (λ u. types_positive H k As u) (λ j. exact_positive H k A) (NotPositive f n) _ _ _
      (defer_last cert (λ u. types_positive H k As u) _ _ _ _ _ _ (arguments_defer k f n r (Assumed A ∷ c) As (kA, kc) fs.1)
      (λ xs h. trace_done cert (x ∷ xs) (kA, h)))))

  module _ (B : Block) (params : AreCounted H B.params) where
    -- the constructor's result terms, once its arguments are counted
    results_trace : (F : Family) (f n : ℕ) (C : Constructor) (ss : List Sort) → AreCounted H F.indices → AllFormed C.result → AreCounted H C.args →
        Traces cert (λ _. some_names (Families B.name) 0 C.result ≡ false)
        (λ u. bind (counted (length F.indices) (length C.result) u) (λ _ v.
        bind (check_all H infd cmp (extend (extend [] B.params) C.args) (λ i. Rel (length C.args + i)) C.result F.indices v) (λ _ x.
        bind (result_names B.name f n C.result x) (λ _ y. run.done (with_sorts C ss) y))))
        (λ u. write_on (silent (counted (length F.indices) (length C.result)) u) (λ _ v.
        write_on (make_check_all H infg mk (extend (extend [] B.params) C.args) (λ i. Rel (length C.args + i)) C.result F.indices v) (λ _ x.
        write_on (silent (result_names B.name f n C.result) x) (λ _ y. silent (run.done (with_sorts C ss)) y))))
        (λ s. walk_on (by_rules (counted (length F.indices) (length C.result)) s) (λ _ v.
        walk_on (walk_check_all cert H infh sc (extend (extend [] B.params) C.args) (λ i. Rel (length C.args + i)) C.result F.indices v) (λ _ x.
        pass (with_sorts C ss) x)))
    results_trace F f n C ss wi fr ka =
        let c : Context = extend [] B.params in
        let kc : IsCountedContext H c = context_extended H [] B.params tt params in
        trace_on cert _ _ _ _ _ _
        (trace_rules cert {P = λ _. length F.indices ≡ length C.result} (counted (length F.indices) (length C.result)) (λ j. exact_counted (length F.indices) (length C.result))
        (λ u a v e. count_is (length F.indices) (length C.result) u v e))
        (λ o l. trace_on cert _ _ _ _ _ _
        (all_trace cert H w infd infg infh ti cmp mk sc tc (extend c C.args) (λ i. Rel (length C.args + i)) C.result F.indices (context_extended H c C.args kc ka) (λ i. tt) (sym l) fr wi)
        (λ o ks. trace_denied cert (some_names (Families B.name) 0 C.result) (NotPositive f n) _ _ _ (λ e. trace_done cert (with_sorts C ss) e)))

    constructor_defer : (F : Family) (f n : ℕ) (C : Constructor) → AreCounted H F.indices → AllFormed C.args × AllFormed C.result →
        Defers cert (λ _. Unit {0}) (λ u. constructor_positive H B.name C u) (λ u. constructor_rule H q infd cmp B F f n C u)
        (λ u. make_constructor H q infg mk B F f n C u) (λ s. walk_constructor cert H q infh sc B F C s)
    constructor_defer F f n C wi fc =
        defer_on cert (λ u. types_positive H B.name C.args u) (λ u. run.done (not (some_names (Families B.name) 0 C.result)) u) _ _ _ _ _ _
        (arguments_defer B.name f n F.sort (extend [] B.params) C.args (context_extended H [] B.params tt params) fc.0)
        (λ ss h. defer_known cert (some_names (Families B.name) 0 C.result) (results_trace F f n C ss wi fc.1 h))

    constructors_defer : (F : Family) (f n : ℕ) (Cs : List Constructor) → AreCounted H F.indices → ConstructorsFormed Cs →
        Defers cert (λ _. Unit {0}) (λ u. constructors_positive H B.name Cs u) (λ u. constructors_rule H q infd cmp B F f n Cs u)
        (λ u. make_constructors H q infg mk B F f n Cs u) (λ s. walk_constructors cert H q infh sc B F Cs s)
    unfolding constructors_rule make_constructors walk_constructors
    constructors_defer F f n [] wi fc = defer_none cert (trace_done cert [] tt)
    constructors_defer F f n (C ∷ Cs) wi fc =
        defer_on cert (λ u. constructor_positive H B.name C u) (λ u. constructors_positive H B.name Cs u) _ _ _ _ _ _ (constructor_defer F f n C wi fc.0)
        (λ D h. defer_last cert (λ u. constructors_positive H B.name Cs u) _ _ _ _ _ _ (constructors_defer F f (suc n) Cs wi fc.1)
        (λ Ds hs. trace_done cert (D ∷ Ds) tt))

    families_defer : (f : ℕ) (Fs : List Family) → HeadsCounted H Fs → FamiliesFormed Fs →
        Defers cert (λ _. Unit {0}) (λ u. families_positive H B.name Fs u) (λ u. families_rule H q infd cmp B f Fs u)
        (λ u. make_families H q infg mk B f Fs u) (λ s. walk_families cert H q infh sc B Fs s)
    unfolding families_rule make_families walk_families
    families_defer f [] hs fs = defer_none cert (trace_done cert [] tt)
    families_defer f (F ∷ Fs) hs fs =
        defer_on cert (λ u. constructors_positive H B.name F.ctors u) (λ u. families_positive H B.name Fs u) _ _ _ _ _ _ (constructors_defer F f 0 F.ctors hs.0.0 fs.0.1)
        (λ Cs h. defer_last cert (λ u. families_positive H B.name Fs u) _ _ _ _ _ _ (families_defer (suc f) Fs hs.1 fs.1)
        (λ Gs ps. trace_done cert (with_constructors F Cs ∷ Gs) tt))

-- the whole block

heads_more : (E H : Env) → FindsAs E H → (Fs : List Family) → HeadsCounted E Fs → HeadsCounted H Fs
heads_more E H f [] h = tt
heads_more E H f (F ∷ Fs) h = ((all_more E H f F.indices h.0.0, tt, subst (λ n. IsSortOver n F.sort) f.levels h.0.2), heads_more E H f Fs h.1)

module _ (cert : Items) (q : Test) (m : ℕ) where
  block_trace : (E : Env) → HasCountedDeclarations E → IsTest E.levels E.constraints q → (n : ℕ) (B : Block) → IsFresh B.name E.declarations → BlockFormed B →
      Traces cert (λ _. Unit {0}) (λ u. block_rule E q n B u) (λ u. make_block E q n B u) (λ s. walk_block cert E q m B s)
  block_trace E w test n B fresh fb =
      let H : Env = with_heads E B in
      let more : FindsAs E H = finds_more E.levels E.constraints E.declarations (Heads (heads_of B)) fresh in
      trace_on cert _ _ _ _ _ _ (block_heads_trace cert E w (infer E q n) (make_infer E q n) (walk_infer cert E q m) (infer_trace cert E w q test n m) B fb)
      (λ o hs.
      let wH : HasCountedDeclarations H = env_more E.levels E.constraints E.declarations (Heads (heads_of B)) fresh w (hs.0, hs.1) in
      trace_settled cert (λ u. block_positive H B u) (λ Fs. with_families B Fs) _ _ _
      (families_defer cert H wH (infer H q n) (make_infer H q n) (walk_infer cert H q m) (infer_trace cert H wH q test n m) (compare H q n) (make_compare H q n) (script cert H q m)
      (λ c equal a b vs ka kb. compare_trace cert H q wH n c equal a b vs ka kb m) q B (all_more E H more B.params hs.0) 0 B.families (heads_more E H more B.families hs.1) fb.1))

  -- a constant

  body_trace : (E : Env) → HasCountedDeclarations E → IsTest E.levels E.constraints q → (n : ℕ) (T : Term) (b : Option Term) → IsFormed T → BodyFormed b →
      Traces cert (λ _. Unit {0}) (λ u. body_rule E (infer E q n) (compare E q n) T b u) (λ u. make_body E (make_infer E q n) (make_compare E q n) T b u)
      (λ s. walk_body cert E (walk_infer cert E q m) (script cert E q m) T b s)
  body_trace E w test n T None fT fb = trace_done cert tt tt
  body_trace E w test n T (Some b) fT fb =
      trace_less cert (λ a h. tt)
      (check_trace cert E w (infer E q n) (make_infer E q n) (walk_infer cert E q m) (infer_trace cert E w q test n m) (compare E q n) (make_compare E q n) (script cert E q m)
      (λ c equal a b vs ka kb. compare_trace cert E q w n c equal a b vs ka kb m) [] b T tt fb fT)

  constant_trace : (E : Env) → HasCountedDeclarations E → IsTest E.levels E.constraints q → (n : ℕ) (k : Name) (T : Term) (b : Option Term) → IsFormed T → BodyFormed b →
      Traces cert (λ _. Unit {0}) (λ u. constant_rule E q n k T b u) (λ u. make_constant E q n k T b u) (λ s. walk_constant cert E q m k T b s)
  constant_trace E w test n k T b fT fb =
      trace_on cert _ _ _ _ _ _ (sort_trace cert E w (infer E q n) (make_infer E q n) (walk_infer cert E q m) (infer_trace cert E w q test n m) [] T tt fT)
      (λ x kT. trace_on cert _ _ _ _ _ _ (body_trace E w test n T b fT fb) (λ o t. trace_done cert (Constant k T b) tt))

  given_trace : (levels : ℕ) (cs : List Constraint) (ds : List Kept) → IsTest levels cs q → HasCountedDeclarations (env levels cs ds) → (n : ℕ) (d : Given) → GivenFormed d →
      Traces cert (λ _. Unit {0}) (λ u. declaration_rule (env levels cs ds) q n d u) (λ u. make_declaration (env levels cs ds) q n d u)
      (λ s. walk_declaration cert (env levels cs ds) q m d s)
  given_trace levels cs ds test w n (GivenConstant k T b) f =
      trace_on cert _ _ _ _ _ _ (trace_rules cert {P = λ _. Unit {0}} (fresh_name (kept_at ds k) k) (λ j. exact_fresh (kept_at ds k) k) (λ u a v e. tt))
      (λ o t. constant_trace (env levels cs ds) w test n k T b f.0 f.1)
  given_trace levels cs ds test w n (GivenBlock B) f =
      trace_on cert _ _ _ _ _ _
      (trace_rules cert {P = λ _. IsFresh B.name ds} (fresh_name (kept_at ds B.name) B.name) (λ j. exact_fresh (kept_at ds B.name) B.name)
      (λ u a v e. fresh_is ds B.name (name_is_new (kept_at ds B.name) B.name u v e)))
      (λ o fresh. trace_on cert _ _ _ _ _ _ (block_trace (env levels cs ds) w test n B fresh f) (λ D t. trace_done cert (Whole D) tt))

  -- one declaration more, which is accepted by the directed rules
  pub declaration_trace : (levels : ℕ) (cs : List Constraint) (ds : List Kept) → IsTest levels cs q → Accepted levels cs ds → HasCountedDeclarations (env levels cs ds) → (n : ℕ) (d : Given) →
      GivenFormed d →
      Traces cert (λ e. IsCheckedDeclaration levels cs ds d e) (λ u. declaration_rule (env levels cs ds) q n d u) (λ u. make_declaration (env levels cs ds) q n d u)
      (λ s. walk_declaration cert (env levels cs ds) q m d s)
  declaration_trace levels cs ds test a w n d f =
      let p = given_trace levels cs ds test w n d f in
      record {
        forgets = p.forgets;
        leads = λ u r v e.
            (let h : (declaration_rule (env levels cs ds) q n d u).end ≡ run.Done r.value v = sym (ap (λ x. x.end) (p.forgets u)) ∙ ap (λ x. end_forgotten x) e in
            (declaration_sound levels cs q test ds (a, w) n d r.value u v f h, (p.leads u r v e).1));
      }
