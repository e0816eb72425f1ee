-- All passes on programs after erasure, one after the other.
use Rattle.std.proofs.Common.{◌≡◌, ℕ, ◌≤◌, max, Bool, true, false, List, [], ◌∷◌, refl, ◌∙◌, arith}
use Rattle.std.specs.Prelude.{if◌then◌else◌, reverse}
use Rattle.trees.specs.Measures.{depth}
use Rattle.box_terms.specs.BoxSyntax.{BoxTerm}
use Rattle.lambda_box.specs.BoxProgram.{BoxConstant, BoxFamily, BoxProgram, Has, here, there}
use Rattle.lambda_box.specs.BoxForm.{IsBoxProgram}
use Rattle.lambda_box.specs.ClosureEvaluation.{NoValue}
use Rattle.lambda_box.specs.DataTerms.{hold_none}
use Rattle.box_passes.specs.PassLaws.{saturated_program}
use Rattle.box_passes.proofs.Passes.{passes_form, passes_count}
use Rattle.shrink_passes.specs.Uses.{greatest}
use Rattle.shrink_passes.specs.Inline.{changed, with_body, is_put_in, inline_from, inline_program}
use Rattle.shrink_passes.specs.DropParams.{leading, without_params, drop_from, drop_program}
use Rattle.shrink_passes.specs.ShrunkProgram.{shrunk_program, ShrunkForms, ShrunkKeeps, ShrunkRuns}
use Rattle.shrink_passes.proofs.Following.{no_more_trans}
use Rattle.shrink_passes.proofs.InlineSteps.{inline_is_right}
use Rattle.shrink_passes.proofs.DropSteps.{drop_is_right}

-- the families stay

inline_families : (Fs : List BoxFamily) (done : List BoxConstant) (f : BoxTerm → BoxTerm) (rest : List BoxConstant) (main : BoxTerm) → (inline_from Fs done f rest main).families ≡ Fs
inline_families Fs done f [] main = refl
inline_families Fs done f (d ∷ rest) main = either (is_put_in Fs done f d rest main) (inline_families Fs done (with_body f d) rest main) (inline_families Fs (changed f d ∷ done) f rest main)
  where
    either : (z : Bool) → (inline_from Fs done (with_body f d) rest main).families ≡ Fs → (inline_from Fs (changed f d ∷ done) f rest main).families ≡ Fs →
        (if z then inline_from Fs done (with_body f d) rest main else inline_from Fs (changed f d ∷ done) f rest main).families ≡ Fs
    either true x y = x
    either false x y = y

drop_families : (Fs : List BoxFamily) (done : List BoxConstant) (f : BoxTerm → BoxTerm) (rest : List BoxConstant) (main : BoxTerm) → (drop_from Fs done f rest main).families ≡ Fs
drop_families Fs done f [] main = refl
drop_families Fs done f (d ∷ rest) main =
    let r = without_params Fs done d rest main (leading (f d.body)) 0 (f d.body) f in
    drop_families Fs (record { name = d.name; body = r.0 } ∷ done) r.1 rest main

shrunk_families : (P : BoxProgram) → (drop_program (inline_program P)).families ≡ P.families
shrunk_families P =
    drop_families (inline_program P).families [] (λ t. t) (reverse (inline_program P).constants) (inline_program P).main
    ∙ inline_families P.families [] (λ t. t) (reverse P.constants) P.main

pub shrunk_forms : ShrunkForms
shrunk_forms P ok =
    let x = passes_form P ok in
    let y = inline_is_right (saturated_program P) x.form in
    let z = drop_is_right (inline_program (saturated_program P)) y.form in
    record {
      form = z.form;
      saturated = z.saturated (y.saturated x.saturated);
      ordinary = z.ordinary (y.ordinary x.ordinary);
      nodes = omega (arith, y.nodes, z.nodes);
      size = omega (arith, x.size, y.nodes, z.nodes);
      no_deeper = omega (arith, y.no_deeper, z.no_deeper);
      families = shrunk_families (saturated_program P);
    }

-- where no term of the saturated program is deeper than n, none of this is

greatest_at : (h : BoxTerm → ℕ) (cs : List BoxConstant) (d : BoxConstant) → Has cs d → h d.body ≤ greatest h cs
greatest_at h [] d at = elim at [ ]
greatest_at h (c ∷ cs) d here = omega arith
greatest_at h (c ∷ cs) d (there at) = omega (arith, greatest_at h cs d at)

greatest_most : (h : BoxTerm → ℕ) (n : ℕ) (cs : List BoxConstant) → ((d : BoxConstant) → Has cs d → h d.body ≤ n) → greatest h cs ≤ n
greatest_most h n [] all = omega arith
greatest_most h n (c ∷ cs) all = omega (arith, all c here, greatest_most h n cs (λ d at. all d (there at)))

pub shrunk_shallow : (P : BoxProgram) → IsBoxProgram P → (n : ℕ) → ((d : BoxConstant) → Has (saturated_program P).constants d → depth d.body ≤ n) → depth (saturated_program P).main ≤ n →
    ((d : BoxConstant) → Has (shrunk_program P).constants d → depth d.body ≤ n) × (depth (shrunk_program P).main ≤ n)
shrunk_shallow P ok n constants main =
    let less = (shrunk_forms P ok).no_deeper in
    let most = greatest_most depth n (saturated_program P).constants constants in
    ((λ d at. omega (arith, less, most, main, greatest_at depth (shrunk_program P).constants d at)), omega (arith, less, most, main))

pub shrunk_keeps : ShrunkKeeps
shrunk_keeps P ok vs args held v d c run reads =
    let x = passes_form P ok in
    let y = inline_is_right (saturated_program P) x.form in
    let z = drop_is_right (inline_program (saturated_program P)) y.form in
    let a = y.runs vs args held v d c run reads in
    let b = z.runs vs args held a.v d a.counts a.run a.reads in
    record { v = b.v; counts = b.counts; run = b.run; reads = b.reads; no_more = no_more_trans b.no_more a.no_more }

pub shrunk_runs : ShrunkRuns
shrunk_runs P ok w d n m evaluates reads =
    let f = passes_form P ok in
    let x = passes_count P ok w d n m evaluates reads in
    let y = inline_is_right (saturated_program P) f.form in
    let z = drop_is_right (inline_program (saturated_program P)) y.form in
    let a = y.runs NoValue [] hold_none x.v d x.counts x.run x.reads in
    let b = z.runs NoValue [] hold_none a.v d a.counts a.run a.reads in
    let c = x.contractions in
    let k = x.blocks in
    let g = x.greatest in
    record {
      substituted = x.substituted;
      v = b.v;
      counts = b.counts;
      run = b.run;
      reads = b.reads;
      contractions = omega (arith, c, a.no_more.contractions, b.no_more.contractions);
      blocks = omega (arith, k, a.no_more.blocks, b.no_more.blocks);
      greatest = omega (arith, g, a.no_more.greatest, b.no_more.greatest);
      matches = b.no_more.matches ∙ a.no_more.matches ∙ x.matches;
    }
