-- The directed rules of levels, constraints, the graph, declarations and main, in this order.
use Rattle.std.specs.Prelude.{ℕ, suc, ◌+◌, ◌==◌, ◌||◌, Bool, false, if◌then◌else◌, nat_le, List, [], ◌∷◌, length, Option, Some, None}
use Rattle.universe_levels.specs.declared.level.Level.{Level}
use Rattle.universe_levels.specs.declared.sort.Sort.{Sort}
use Rattle.universe_levels.specs.declared.sort.Sort.TheVariants.{Prop, Of}
use Rattle.universe_levels.specs.declared.constraint.Constraint.{Constraint}
use Rattle.universe_levels.specs.Consistency.{IsConsistent}
use Rattle.universe_graph.specs.Listed.{Clashes}
use Rattle.pc_terms.specs.declared.leaf.Name.{Name}
use Rattle.pc_terms.specs.Syntax.{Term, Rel}
use Rattle.calculus_rules.specs.declared.declaration.Constructor.{Constructor}
use Rattle.calculus_rules.specs.declared.declaration.Family.{Family}
use Rattle.calculus_rules.specs.declared.declaration.Block.{Block}
use Rattle.calculus_rules.specs.declared.declaration.Kept.{Kept}
use Rattle.calculus_rules.specs.declared.declaration.Kept.TheVariants.{Constant, Heads, Block as Whole}
use Rattle.calculus_rules.specs.declared.entry.Entry.TheVariants.{Assumed}
use Rattle.pc_rules.specs.declared.broken.Broken.TheVariants.{LevelUndeclared, UniverseCycle, NotPositive, SortTooSmall, DuplicateName}
use Rattle.pc_rules.specs.declared.broken.Place.{Place}
use Rattle.pc_rules.specs.declared.broken.Place.TheVariants.{Level as AtLevel, Constraint as AtConstraint, Declaration as AtDeclaration, Main as AtMain}
use Rattle.pc_rules.specs.declared.meter.Account.{Account}
use Rattle.calculus_rules.specs.declared.target.Target.TheVariants.{Families}
use Rattle.calculus_rules.specs.Environment.{Env, heads_of}
use Rattle.calculus_rules.specs.Context.{Context, extend}
use Rattle.calculus_rules.specs.Accepted.{env}
use Rattle.calculus_rules.specs.Same.{same_names}
use Rattle.calculus_rules.specs.Naming.{some_names}
use Rattle.pc_rules.specs.DirectedRun.{Run, Act, done, refused, bind}
pub use Rattle.pc_rules.specs.DirectedPlaces.{Outcome, Gives, Breaks, Spends, Nests, Placed, gives, breaks, placed_end, placed}
use Rattle.calculus_rules.specs.Lookups.{kept_at}
use Rattle.pc_rules.specs.DirectedComparison.{Test, Comparison, compare, sort_below}
use Rattle.pc_rules.specs.DirectedPositivity.{is_positive}
use Rattle.pc_rules.specs.DirectedTyping.{Typing, infer, sort_of, sorts_of, check, check_all, counted, undeclared_in, levels_declared}

-- a block's heads

abbrev pub has_name : Name → List Constructor → Bool
has_name k [] = false
has_name k (C ∷ Cs) = same_names C.name k || has_name k Cs

-- each constructor's name is none of those before it
abbrev pub distinct_names : List Constructor → List Constructor → Act
distinct_names before [] u = done tt u
distinct_names before (C ∷ Cs) u = if has_name C.name before then refused (DuplicateName C.name.0) u else distinct_names (C ∷ before) Cs u

abbrev pub family_head : Env → Typing → Block → Family → Act
family_head E inf B F u =
    bind (distinct_names [] F.ctors u) (λ _ v.
    bind (levels_declared (undeclared_in E.levels F.sort) v) (λ _ w.
    bind (sorts_of E inf (extend [] B.params) F.indices w) (λ ss x. done tt x)))

abbrev pub family_heads : Env → Typing → Block → List Family → Act
family_heads E inf B [] u = done tt u
family_heads E inf B (F ∷ Fs) u = bind (family_head E inf B F u) (λ _ v. family_heads E inf B Fs v)

abbrev pub heads_rule : Env → Typing → Block → Act
heads_rule E inf B u = bind (sorts_of E inf [] B.params u) (λ ss v. family_heads E inf B B.families v)

-- a block's constructors: f and n are the places of the family and of the constructor

abbrev pub fits_sort : Test → Sort → Sort → Act
fits_sort q Prop s u = done tt u
fits_sort q (Of w) s u = if sort_below q s (Of w) then done tt u else refused (SortTooSmall s (Of w)) u

abbrev pub positive_rule : Env → Name → ℕ → ℕ → Term → Act
positive_rule H k f n A u = bind (is_positive H k A u) (λ b v. if b then done tt v else refused (NotPositive f n) v)

unfoldable pub arguments_rule : Env → Test → Typing → Name → ℕ → ℕ → Sort → Context → List Term → Account → Run (List Sort)
arguments_rule H q inf k f n r c [] u = done [] u
arguments_rule H q inf k f n r c (A ∷ As) u =
    bind (sort_of H inf c A u) (λ s v.
    bind (fits_sort q r s v) (λ _ w.
    bind (positive_rule H k f n A w) (λ _ x.
    bind (arguments_rule H q inf k f n r (Assumed A ∷ c) As x) (λ ss y. done (s ∷ ss) y))))

abbrev pub result_names : Name → ℕ → ℕ → List Term → Act
result_names k f n ts u = if some_names (Families k) 0 ts then refused (NotPositive f n) u else done tt u

-- the constructor with the sorts of its arguments
abbrev pub with_sorts : Constructor → List Sort → Constructor
with_sorts C ss = record { name = C.name; args = C.args; arg_sorts = ss; result = C.result }

abbrev pub constructor_rule : Env → Test → Typing → Comparison → Block → Family → ℕ → ℕ → Constructor → Account → Run Constructor
constructor_rule H q inf cmp B F f n C u =
    bind (arguments_rule H q inf B.name f n F.sort (extend [] B.params) C.args u) (λ ss v.
    bind (counted (length F.indices) (length C.result) v) (λ _ w.
    bind (check_all H inf cmp (extend (extend [] B.params) C.args) (λ i. Rel (length C.args + i)) C.result F.indices w) (λ _ x.
    bind (result_names B.name f n C.result x) (λ _ y. done (with_sorts C ss) y))))

unfoldable pub constructors_rule : Env → Test → Typing → Comparison → Block → Family → ℕ → ℕ → List Constructor → Account → Run (List Constructor)
constructors_rule H q inf cmp B F f n [] u = done [] u
constructors_rule H q inf cmp B F f n (C ∷ Cs) u =
    bind (constructor_rule H q inf cmp B F f n C u) (λ D v. bind (constructors_rule H q inf cmp B F f (suc n) Cs v) (λ Ds w. done (D ∷ Ds) w))

abbrev pub with_constructors : Family → List Constructor → Family
with_constructors F Cs = record { name = F.name; sort = F.sort; indices = F.indices; ctors = Cs }

unfoldable pub families_rule : Env → Test → Typing → Comparison → Block → ℕ → List Family → Account → Run (List Family)
families_rule H q inf cmp B f [] u = done [] u
families_rule H q inf cmp B f (F ∷ Fs) u =
    bind (constructors_rule H q inf cmp B F f 0 F.ctors u) (λ Cs v.
    bind (families_rule H q inf cmp B (suc f) Fs v) (λ Gs w. done (with_constructors F Cs ∷ Gs) w))

abbrev pub with_families : Block → List Family → Block
with_families B Fs = record { name = B.name; params = B.params; families = Fs }

-- the environment in which a block's constructors are typed: its families are known by their types alone
abbrev pub with_heads : Env → Block → Env
with_heads E B = env E.levels E.constraints (Heads (heads_of B) ∷ E.declarations)

-- a block with the argument sorts that are found, whatever sorts are given; n rules may still stand in one another
abbrev pub block_rule : Env → Test → ℕ → Block → Account → Run Block
block_rule E q n B u =
    bind (heads_rule E (infer E q n) B u) (λ _ v.
    bind (families_rule (with_heads E B) q (infer (with_heads E B) q n) (compare (with_heads E B) q n) B 0 B.families v) (λ Fs w.
    done (with_families B Fs) w))

-- a constant

abbrev pub body_rule : Env → Typing → Comparison → Term → Option Term → Act
body_rule E inf cmp T None u = done tt u
body_rule E inf cmp T (Some b) u = check E inf cmp [] b T u

abbrev pub constant_rule : Env → Test → ℕ → Name → Term → Option Term → Account → Run Kept
constant_rule E q n k T b u =
    bind (sort_of E (infer E q n) [] T u) (λ s v.
    bind (body_rule E (infer E q n) (compare E q n) T b v) (λ _ w. done (Constant k T b) w))

-- a declaration as it is given, where argument sorts aren't looked at; never the heads of a block
pub data Given : Type 0 where
  GivenConstant : Name → Term → Option Term → Given
  GivenBlock : Block → Given

abbrev pub fresh_name : Option Kept → Name → Act
fresh_name None k u = done tt u
fresh_name (Some d) k u = refused (DuplicateName k.0) u

abbrev pub declaration_rule : Env → Test → ℕ → Given → Account → Run Kept
declaration_rule E q n (GivenConstant k T b) u =
    bind (fresh_name (kept_at E.declarations k) k u) (λ _ v. constant_rule E q n k T b v)
declaration_rule E q n (GivenBlock B) u =
    bind (fresh_name (kept_at E.declarations B.name) B.name u) (λ _ v. bind (block_rule E q n B v) (λ D w. done (Whole D) w))

-- how the check of a whole environment ends: with the environment, and main's type
abbrev pub Checked : Type 0
Checked = Placed (Env × Term)

abbrev pub Accepts : Env → Term → Account → Outcome (Env × Term)
Accepts E T u = Gives (E, T) u

abbrev pub accepts : Env → Term → Account → Checked
accepts E T u = gives (E, T) u

-- levels, as they are listed: none is listed twice
abbrev pub has_level : Level → List Level → Bool
has_level l [] = false
has_level l (m ∷ ms) = (l.0 == m.0) || has_level l ms

abbrev pub first_repeated : ℕ → List Level → List Level → Option (ℕ × Level)
first_repeated i before [] = None
first_repeated i before (l ∷ ls) = if has_level l before then Some (i, l) else first_repeated (suc i) (l ∷ before) ls

-- constraints: each names declared levels
abbrev pub undeclared_end : ℕ → Constraint → Option Level
undeclared_end n c = if nat_le c.left.0 n then (if nat_le c.right.0 n then None else Some c.right) else Some c.left

abbrev pub first_end : ℕ → Option Level → Option (ℕ × Level) → Option (ℕ × Level)
first_end i None rest = rest
first_end i (Some l) rest = Some (i, l)

abbrev pub first_undeclared_end : ℕ → ℕ → List Constraint → Option (ℕ × Level)
first_undeclared_end n i [] = None
first_undeclared_end n i (c ∷ cs) = first_end i (undeclared_end n c) (first_undeclared_end n (suc i) cs)

-- main
abbrev pub main_rule : Env → Test → ℕ → Term → Account → Checked
main_rule E q n main u = placed AtMain (infer E q n [] main u) (λ T v. accepts E T v)

-- declarations, from place i on; and then main
unfoldable pub declarations_rule : ℕ → List Constraint → Test → ℕ → ℕ → List Kept → List Given → Term → Account → Checked
declarations_rule levels cs q n i ds [] main u = main_rule (env levels cs ds) q n main u
declarations_rule levels cs q n i ds (d ∷ rest) main u =
    placed (AtDeclaration i) (declaration_rule (env levels cs ds) q n d u) (λ k v. declarations_rule levels cs q n (suc i) (k ∷ ds) rest main v)

abbrev pub place_of : List ℕ → Place
place_of [] = AtConstraint 0
place_of (i ∷ is) = AtConstraint i

-- what is known of the graph: no cycle where the constraints have a valuation, and else the places, in rising order, of constraints that
-- alone have none
abbrev pub IsCycle : ℕ → List Constraint → Option (List ℕ) → Type 0
IsCycle levels cs None = IsConsistent levels cs
IsCycle levels cs (Some places) = Clashes levels cs places

-- the graph, with such a cycle
abbrev pub graph_rule : Option (List ℕ) → Checked → Account → Checked
graph_rule None go u = go
graph_rule (Some places) go u = breaks (place_of places) (UniverseCycle places) u

abbrev pub constraints_rule : Option (ℕ × Level) → Checked → Account → Checked
constraints_rule None go u = go
constraints_rule (Some p) go u = breaks (AtConstraint p.0) (LevelUndeclared p.1) u

abbrev pub levels_rule : Option (ℕ × Level) → Checked → Account → Checked
levels_rule None go u = go
levels_rule (Some p) go u = breaks (AtLevel p.0) (DuplicateName p.1.0) u

-- the whole: levels, constraints, the graph (`cycle` is one by IsCycle, which asks it of constraints on declared levels), the declarations
-- in order, main; n rules may stand in one another
abbrev pub environment_rule : List Level → List Constraint → Option (List ℕ) → Test → ℕ → List Given → Term → Account → Checked
environment_rule levels cs cycle q n ds main u =
    levels_rule (first_repeated 0 [] levels)
    (constraints_rule (first_undeclared_end (length levels) 0 cs)
    (graph_rule cycle (declarations_rule (length levels) cs q n 0 [] ds main u) u) u) u
