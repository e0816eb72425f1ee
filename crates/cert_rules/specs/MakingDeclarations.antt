-- Directed rules of blocks, constants and whole environments that also write the items of a certificate.
use Rattle.std.specs.Prelude.{ℕ, suc, ◌+◌, ◌||◌, false, List, [], ◌∷◌, ◌++◌, length, Option, Some, None}
use Rattle.universe_levels.specs.declared.level.Level.{Level}
use Rattle.universe_levels.specs.declared.constraint.Constraint.{Constraint}
use Rattle.universe_levels.specs.declared.sort.Sort.{Sort}
use Rattle.pc_terms.specs.declared.leaf.Name.{Name}
use Rattle.pc_terms.specs.Syntax.{Term, Rel}
use Rattle.calculus_rules.specs.declared.declaration.Constructor.{Constructor}
use Rattle.calculus_rules.specs.declared.declaration.Family.{Family}
use Rattle.calculus_rules.specs.declared.declaration.Block.{Block}
use Rattle.calculus_rules.specs.declared.declaration.Kept.{Kept}
use Rattle.calculus_rules.specs.declared.declaration.Kept.TheVariants.{Constant, Block as Whole}
use Rattle.calculus_rules.specs.declared.entry.Entry.TheVariants.{Assumed}
use Rattle.pc_rules.specs.declared.broken.Broken.TheVariants.{LevelUndeclared, UniverseCycle, DuplicateName}
use Rattle.pc_rules.specs.declared.broken.Place.{Place}
use Rattle.pc_rules.specs.declared.broken.Place.TheVariants.{Level as AtLevel, Constraint as AtConstraint, Declaration as AtDeclaration, Main as AtMain}
use Rattle.pc_rules.specs.declared.meter.Account.{Account}
use Rattle.calculus_rules.specs.Environment.{Env}
use Rattle.calculus_rules.specs.Context.{Context, extend}
use Rattle.calculus_rules.specs.Accepted.{env}
use Rattle.pc_rules.specs.DirectedRun.{Run, done}
use Rattle.pc_rules.specs.DirectedPlaces.{Placed, breaks, Outcome, Gives, Breaks, outcome_at, outcome_then, outcome_deep}
use Rattle.pc_rules.specs.DirectedDeclarations.{Spends, Nests, distinct_names, fits_sort, positive_rule, result_names, with_sorts, with_constructors, with_families, with_heads, Given, GivenConstant, GivenBlock, fresh_name, first_repeated, first_undeclared_end, place_of}
use Rattle.calculus_rules.specs.Lookups.{kept_at}
use Rattle.pc_rules.specs.DirectedComparison.{Test}
use Rattle.pc_rules.specs.DirectedTyping.{counted, undeclared_in, levels_declared}
use Rattle.cert_rules.specs.Walk.{Items}
use Rattle.cert_rules.specs.Writing.{Wrote, WriteAct, wrote, silent, write_on}
use Rattle.cert_rules.specs.MakingTyping.{MakeTyping, MakeComparison, make_compare, make_infer, make_sort_of, make_sorts_of, make_check, make_check_all}

abbrev pub make_head : Env → MakeTyping → Block → Family → WriteAct
make_head E inf B F u =
    write_on (silent (distinct_names [] F.ctors) u) (λ _ v.
    write_on (silent (levels_declared (undeclared_in E.levels F.sort)) v) (λ _ w.
    write_on (make_sorts_of E inf (extend [] B.params) F.indices w) (λ ss x. silent (done tt) x)))

abbrev pub make_heads : Env → MakeTyping → Block → List Family → WriteAct
make_heads E inf B [] u = silent (done tt) u
make_heads E inf B (F ∷ Fs) u = write_on (make_head E inf B F u) (λ _ v. make_heads E inf B Fs v)

abbrev pub make_block_heads : Env → MakeTyping → Block → WriteAct
make_block_heads E inf B u = write_on (make_sorts_of E inf [] B.params u) (λ ss v. make_heads E inf B B.families v)

unfoldable pub make_arguments : Env → Test → MakeTyping → Name → ℕ → ℕ → Sort → Context → List Term → Account → Run (Wrote (List Sort))
make_arguments H q inf k f n r c [] u = silent (done []) u
make_arguments H q inf k f n r c (A ∷ As) u =
    write_on (make_sort_of H inf c A u) (λ s v.
    write_on (silent (fits_sort q r s) v) (λ _ w.
    write_on (silent (positive_rule H k f n A) w) (λ _ x.
    write_on (make_arguments H q inf k f n r (Assumed A ∷ c) As x) (λ ss y. silent (done (s ∷ ss)) y))))

abbrev pub make_constructor : Env → Test → MakeTyping → MakeComparison → Block → Family → ℕ → ℕ → Constructor → Account → Run (Wrote Constructor)
make_constructor H q inf cmp B F f n C u =
    write_on (make_arguments H q inf B.name f n F.sort (extend [] B.params) C.args u) (λ ss v.
    write_on (silent (counted (length F.indices) (length C.result)) v) (λ _ w.
    write_on (make_check_all H inf cmp (extend (extend [] B.params) C.args) (λ i. Rel (length C.args + i)) C.result F.indices w) (λ _ x.
    write_on (silent (result_names B.name f n C.result) x) (λ _ y. silent (done (with_sorts C ss)) y))))

unfoldable pub make_constructors : Env → Test → MakeTyping → MakeComparison → Block → Family → ℕ → ℕ → List Constructor → Account → Run (Wrote (List Constructor))
make_constructors H q inf cmp B F f n [] u = silent (done []) u
make_constructors H q inf cmp B F f n (C ∷ Cs) u =
    write_on (make_constructor H q inf cmp B F f n C u) (λ D v.
    write_on (make_constructors H q inf cmp B F f (suc n) Cs v) (λ Ds w. silent (done (D ∷ Ds)) w))

unfoldable pub make_families : Env → Test → MakeTyping → MakeComparison → Block → ℕ → List Family → Account → Run (Wrote (List Family))
make_families H q inf cmp B f [] u = silent (done []) u
make_families H q inf cmp B f (F ∷ Fs) u =
    write_on (make_constructors H q inf cmp B F f 0 F.ctors u) (λ Cs v.
    write_on (make_families H q inf cmp B (suc f) Fs v) (λ Gs w. silent (done (with_constructors F Cs ∷ Gs)) w))

abbrev pub make_block : Env → Test → ℕ → Block → Account → Run (Wrote Block)
make_block E q n B u =
    write_on (make_block_heads E (make_infer E q n) B u) (λ _ v.
    write_on (make_families (with_heads E B) q (make_infer (with_heads E B) q n) (make_compare (with_heads E B) q n) B 0 B.families v) (λ Fs w.
    silent (done (with_families B Fs)) w))

abbrev pub make_body : Env → MakeTyping → MakeComparison → Term → Option Term → WriteAct
make_body E inf cmp T None u = silent (done tt) u
make_body E inf cmp T (Some b) u = make_check E inf cmp [] b T u

abbrev pub make_constant : Env → Test → ℕ → Name → Term → Option Term → Account → Run (Wrote Kept)
make_constant E q n k T b u =
    write_on (make_sort_of E (make_infer E q n) [] T u) (λ s v.
    write_on (make_body E (make_infer E q n) (make_compare E q n) T b v) (λ _ w. silent (done (Constant k T b)) w))

abbrev pub make_declaration : Env → Test → ℕ → Given → Account → Run (Wrote Kept)
make_declaration E q n (GivenConstant k T b) u =
    write_on (silent (fresh_name (kept_at E.declarations k) k) u) (λ _ v. make_constant E q n k T b v)
make_declaration E q n (GivenBlock B) u =
    write_on (silent (fresh_name (kept_at E.declarations B.name) B.name) u) (λ _ v.
    write_on (make_block E q n B v) (λ D w. silent (done (Whole D)) w))

-- the environment and main's type, with the certificate
abbrev pub Made : Type 0
Made = Placed (Wrote (Env × Term))

-- what was written before
abbrev pub outcome_before : {A : Type 0} → Items → Outcome (Wrote A) → Outcome (Wrote A)
outcome_before is (Gives w u) = Gives (wrote (is ++ w.items) w.value) u
outcome_before is (Breaks p b u) = Breaks p b u
outcome_before is Spends = Spends
outcome_before is Nests = Nests

-- what is done at a place, and then the rest
unfoldable pub write_placed : {A B : Type 0} → Place → Run (Wrote A) → (A → Account → Placed (Wrote B)) → Placed (Wrote B)
write_placed p r k = record {
  outcome = outcome_then (outcome_at p r.end) (λ w u. outcome_before w.items (k w.value u).outcome);
  deep = r.deep || outcome_deep (outcome_at p r.end) (λ w u. (k w.value u).deep);
}

abbrev pub gives_made : Env → Term → Account → Made
gives_made E T u = record { outcome = Gives (wrote [] (E, T)) u; deep = false }

unfoldable pub make_declarations : ℕ → List Constraint → Test → ℕ → ℕ → List Kept → List Given → Term → Account → Made
make_declarations levels cs q n i ds [] main u =
    write_placed AtMain (make_infer (env levels cs ds) q n [] main u) (λ T v. gives_made (env levels cs ds) T v)
make_declarations levels cs q n i ds (d ∷ rest) main u =
    write_placed (AtDeclaration i) (make_declaration (env levels cs ds) q n d u) (λ k v. make_declarations levels cs q n (suc i) (k ∷ ds) rest main v)

abbrev pub make_graph : Option (List ℕ) → Made → Account → Made
make_graph None go u = go
make_graph (Some places) go u = breaks (place_of places) (UniverseCycle places) u

abbrev pub make_constraints : Option (ℕ × Level) → Made → Account → Made
make_constraints None go u = go
make_constraints (Some p) go u = breaks (AtConstraint p.0) (LevelUndeclared p.1) u

abbrev pub make_levels : Option (ℕ × Level) → Made → Account → Made
make_levels None go u = go
make_levels (Some p) go u = breaks (AtLevel p.0) (DuplicateName p.1.0) u

abbrev pub make_environment : List Level → List Constraint → Option (List ℕ) → Test → ℕ → List Given → Term → Account → Made
make_environment levels cs cycle q n ds main u =
    make_levels (first_repeated 0 [] levels)
    (make_constraints (first_undeclared_end (length levels) 0 cs)
    (make_graph cycle (make_declarations (length levels) cs q n 0 [] ds main u) u) u) u

-- the outcome of the directed rules
abbrev pub outcome_forgotten : {A : Type 0} → Outcome (Wrote A) → Outcome A
outcome_forgotten (Gives w u) = Gives w.value u
outcome_forgotten (Breaks p b u) = Breaks p b u
outcome_forgotten Spends = Spends
outcome_forgotten Nests = Nests

abbrev pub placed_forgotten : {A : Type 0} → Placed (Wrote A) → Placed A
placed_forgotten r = record { outcome = outcome_forgotten r.outcome; deep = r.deep }
