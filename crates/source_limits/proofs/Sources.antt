-- The sizes of the program of an accepted environment are bounded by the numbers of its source.
use Rattle.std.proofs.Common.{◌≡◌, ℕ, suc, ◌+◌, ◌*◌, ◌≤◌, max, List, [], ◌∷◌, ◌++◌, length, refl, sym, subst, arith}
use Rattle.pc_terms.specs.Syntax.{Term}
use Rattle.calculus_rules.specs.declared.declaration.Family.{Family}
use Rattle.calculus_rules.specs.declared.declaration.Block.{Block}
use Rattle.calculus_rules.specs.declared.declaration.Kept.{Kept}
use Rattle.calculus_rules.specs.declared.declaration.Kept.TheVariants.{Constant, Heads, Block as Whole}
use Rattle.calculus_rules.specs.Environment.{Env}
use Rattle.pc_rules.specs.Entailment.{test_of}
use Rattle.dump_reader.specs.declared.environment.RawEnv.{RawEnv}
use Rattle.lambda_box.specs.BoxProgram.{BoxConstant, BoxFamily, BoxProgram}
use Rattle.lambda_box.specs.DataTerms.{greatest_words}
use Rattle.lambda_box.specs.SaturatedForm.{nodes_of_constants, program_nodes, greatest_counts}
use Rattle.box_passes.proofs.Passes.{passes_form}
use Rattle.erase_rules.specs.ProgramNodes.{constant_nodes}
use Rattle.erase_rules.specs.DirectedProgram.{box_families, families_from}
use Rattle.erase_rules.proofs.ProgramSize.{program_is_small}
use Rattle.back_end.proofs.Whole.{product_le}
use Rattle.compile.specs.declared.fault.CompileFault.{CompileFault}
use Rattle.compile.specs.declared.fault.CompileFault.TheVariants as refusals
use Rattle.headline.specs.AcceptedProgram.{IsAcceptedAs, IsErasedTo}
use Rattle.headline.specs.SourceWords.{most_in_families, source_words}
use Rattle.headline.proofs.SourceSizes.{counted_arguments, families_are, erased_form, erased_words}
use Rattle.source_limits.specs.SourceNodes.{source_nodes, most_counts, most_nodes}
use Rattle.source_limits.specs.PassedSizes.{saturated_nodes, ShowsSize, ShowsSourceSize}
use Rattle.source_limits.specs.Laws.{SourcesBoundSizes, RefusalsShowSourceSizes, SmallSourcesFit}
use Rattle.source_limits.proofs.Sizes.{refusals_show_sizes, small_programs_fit}

-- parameters and arguments of constructors

block_counts : (B : Block) (n : ℕ) (Gs : List Family) → greatest_counts (families_from B n Gs) ≤ length B.params + most_in_families Gs
block_counts B n [] = omega arith
block_counts B n (G ∷ Gs) = omega (arith, block_counts B (suc n) Gs, counted_arguments G.ctors)

both_counts : (Fs Gs : List BoxFamily) → greatest_counts (Fs ++ Gs) ≤ max (greatest_counts Fs) (greatest_counts Gs)
both_counts [] Gs = omega arith
both_counts (F ∷ Fs) Gs = omega (arith, both_counts Fs Gs)

all_counts : (ds : List Kept) → greatest_counts (box_families ds) ≤ most_counts ds
all_counts [] = omega arith
all_counts (Constant k T b ∷ ds) = all_counts ds
all_counts (Heads B ∷ ds) = all_counts ds
all_counts (Whole B ∷ ds) = omega (arith, all_counts ds, block_counts B 0 B.families, both_counts (box_families ds) (families_from B 0 B.families))

-- nodes

same_nodes : (cs : List BoxConstant) → nodes_of_constants cs ≡ constant_nodes cs
same_nodes [] = refl
same_nodes (c ∷ cs) = omega (arith, same_nodes cs)

saturated_few : (e : RawEnv) (E : Env) (T : Term) (P : BoxProgram) → IsAcceptedAs e E T → IsErasedTo E e.main P → saturated_nodes P ≤ most_nodes E e.main
saturated_few e E T P accepted h =
    let size = (passes_form P (erased_form e E T P accepted h)).size in
    let few = program_is_small E (test_of E) h.room e.main P h.before h.after h.gives in
    let counts : greatest_counts P.families ≤ most_counts E.declarations = subst (λ Fs. greatest_counts Fs ≤ most_counts E.declarations) (sym (families_are E e.main P h)) (all_counts E.declarations) in
    let grown = product_le (program_nodes P) (source_nodes E e.main) (3 * greatest_counts P.families + 1) (3 * most_counts E.declarations + 1) (omega (arith, few, same_nodes P.constants)) (omega (arith, counts)) in
    omega (arith, size, grown)

pub sources_bound_sizes : SourcesBoundSizes
sources_bound_sizes e E T P accepted h = (erased_words e E T P accepted h, saturated_few e E T P accepted h)

source_shows : (E : Env) (main : Term) (P : BoxProgram) → greatest_words P ≤ source_words E main → saturated_nodes P ≤ most_nodes E main → (a : CompileFault) → ShowsSize P a → ShowsSourceSize E main a
source_shows E main P words nodes refusals.Depth s = tt
source_shows E main P words nodes refusals.Captured s = omega (arith, s.1, words)
source_shows E main P words nodes refusals.Functions s = omega (arith, s, nodes)
source_shows E main P words nodes refusals.Locals s = omega (arith, s, nodes)
source_shows E main P words nodes refusals.Memory s = tt

pub refusals_show_source_sizes : RefusalsShowSourceSizes
refusals_show_source_sizes e E T P a accepted h refused =
    let b = sources_bound_sizes e E T P accepted h in
    source_shows E e.main P b.0 b.1 a (refusals_show_sizes P a (erased_form e E T P accepted h) refused)

pub small_sources_fit : SmallSourcesFit
small_sources_fit e E T P accepted h small = small_programs_fit P (source_words E e.main) (erased_form e E T P accepted h) (erased_words e E T P accepted h) small
