-- On a plain environment that keeps all rules no stage of `exec` refuses: each computes on main's constructor.
use Rattle.std.proofs.Common.{◌≡◌, ◌≢◌, ℕ, suc, ◌<◌, ◌≤◌, ◌==◌, List, [], ◌∷◌, ◌++◌, map, length, Some, Ok, Err, ◌⊎◌, inl, inr, sym, ap, subst, ◌∙◌, arith}
use Rattle.std.specs.Prelude.{slice_get, option_map}
use Rattle.std.proofs.lemmas.Option.{slice_get-map}
use Rattle.pc_terms.specs.declared.leaf.Name.{Name}
use Rattle.pc_terms.specs.Syntax.{Ind, Construct}
use Rattle.pc_rules.specs.declared.meter.Account.{Account}
use Rattle.calculus_rules.specs.Accepted.{env}
use Rattle.pc_rules.specs.Entailment.{test_of}
use Rattle.calculus_rules.specs.Environment.{Env, KeepsFamily}
use Rattle.calculus_rules.specs.FirstOrder.{Data, Shape as Member, FitsShapes}
use Rattle.pc_rules.specs.DirectedRun.{Done, done, ticked, noted}
use Rattle.calculus_rules.specs.Lookups.{if_some}
use Rattle.pc_rules.specs.DirectedPlaces.{Gives, gives}
use Rattle.pc_rules.specs.DirectedFirstOrder.{Found, first_order_search}
use Rattle.pc_rules.proofs.WeakNext.{if_some_is, if_is}
use Rattle.calculus_rules.proofs.Spines.{one_item}
use Rattle.first_order.specs.declared.shapes.Shape.{Shape}
use Rattle.first_order.specs.declared.shapes.ShapeCtor.{ShapeCtor}
use Rattle.first_order.specs.Searching.{family_in, member, members, ctor_name, constructor_name, IsNamed as HasNames}
use Rattle.first_order.specs.Texts.{IsText, alone, with_arguments, by_shapes, constructor_in, counted_ctor, named_ctor}
use Rattle.lambda_box.specs.BoxProgram.{BoxProgram}
use Rattle.erase_rules.specs.DirectedProgram.{Program, box_families}
use Rattle.plain_programs.specs.PlainEnvironment.{KeepsPlain, empties, plain_set}
use Rattle.plain_programs.specs.PlainProgram.{IsPlainProgram, plain_program}
use Rattle.plain_programs.proofs.Searched.{types_are_found}
use Rattle.plain_programs.proofs.Erased.{mains_are_erased}
use Rattle.plain_programs.proofs.Passed.{modules_are_small, programs_evaluate, programs_fit}
use Rattle.plain_programs.proofs.Runs.{runs_answer}
use Rattle.command_line.specs.declared.line.Request.{Request}
use Rattle.command_line.specs.Line.{IsInRange}
use Rattle.dump_reader.specs.declared.environment.RawEnv.{RawEnv}
use Rattle.driver.specs.declared.refusal.Refusal.{Refusal}
use Rattle.driver.specs.declared.refusal.Refusal.TheVariants as refusals
use Rattle.driver.specs.Answerable.{IsAnswerable}
use Rattle.driver.specs.Judged.{start}
use Rattle.driver.specs.ExecEnds.{erasure_of, Accepting, Searching, Erasing, Answering, ErasureSays, PassesSay, its_module, its_shapes, StageRefuses, in_search, in_erasure, in_passes, in_run, in_text, IsExecCause, ExecEnds}
use Rattle.driver.specs.Executed.{HasErasedData}
use Rattle.driver.specs.MadeModule.{MakesNone, by_search, by_erasure, by_passes, by_bytes, IsMakeCause}
use Rattle.driver.specs.PlainAnswer.{NamesConstructor}
use Rattle.driver.specs.SourceSays.{ShapesSay}
use Rattle.driver.specs.Serve.{IsCheckCause, IsSure}
use Rattle.driver.proofs.Accepting.{all_kept, at_place, answerable_rules, answerable_ends, answerable_keeps}
use Rattle.driver.proofs.CheckCauses.{cause_status, not_zero}
use Rattle.driver.proofs.MadeCauses.{is_written}
use Rattle.driver.proofs.SourceCauses.{plainly, accepts_inj}
use Rattle.driver.proofs.ExecCauses.{search_status, shapes_status, erasure_status, erased_status, not_passed, refused, of_run, no_text_of, set_in, account_in, program_in}
use Rattle.calculus_rules.proofs.Listing.{from_map}

-- ---- the name of a text of one constructor

-- a constructor of the type at a place
record IsNamedAt (S : List Shape) (names : List (List ℕ)) (i c : ℕ) (line : List ℕ) : Type 0 where
  shape : Shape
  at : slice_get S i ≡ Some shape
  ctor : ShapeCtor
  ctor_at : slice_get shape.ctors c ≡ Some ctor
  named : slice_get names ctor.name.0 ≡ Some line

node_named : (S : List Shape) (names : List (List ℕ)) (i c : ℕ) (line js : List ℕ) → by_shapes S names i (c, 0) ≡ Some (line, js) → IsNamedAt S names i c line
node_named S names i c line js h =
    let r = if_some_is (constructor_in S i c 0) (λ k. named_ctor names k) h in
    let s = if_some_is (slice_get S i) (λ h. if_some (slice_get h.ctors c) (λ k. counted_ctor 0 k)) r.1 in
    let t = if_some_is (slice_get (s.0).ctors c) (λ k. counted_ctor 0 k) s.2 in
    let q = if_is (length (t.0).args == 0) (Some t.0) t.2 in
    let name = if_some_is (slice_get names (r.0).name.0) (λ name. Some (name, (r.0).args)) r.2 in
    let same : t.0 ≡ r.0 = one_item q.1 in
    let line_is : name.0 ≡ line = ap (λ x. x.0) (one_item name.2) in
    record {
      shape = s.0;
      at = s.1;
      ctor = t.0;
      ctor_at = t.1;
      named = ap (λ (k : ShapeCtor). slice_get names k.name.0) same ∙ name.1 ∙ ap (λ x. Some x) line_is;
    }

abbrev first_node : Data → ℕ × ℕ
first_node [] = (0, 0)
first_node (d ∷ ds) = d

text_named : {S : List Shape} {names : List (List ℕ)} {i : ℕ} {ds : Data} {line : List ℕ} (c : ℕ) → IsText (by_shapes S names) i ds line → ds ≡ (c, 0) ∷ [] → IsNamedAt S names i c line
text_named {S} {names} c (alone {i} {name} h) e = node_named S names i c name [] (subst (λ k. by_shapes S names i (k, 0) ≡ Some (name, [])) (ap (λ d. (first_node d).0) e) h)
text_named c (with_arguments {i} {n} h t) e = (let none : suc n ≡ 0 = ap (λ d. (first_node d).1) e in absurd (omega (arith, none)))

-- ---- the stages

-- with four turns at least
module _ (request : Request) (rest : ℕ) (four : request.turns ≡ suc (suc (suc (suc rest)))) (e : RawEnv) (a : IsAnswerable e) where
  some : 0 < request.turns
  some = omega (arith, four)

  abbrev E : Env
  E = env 0 [] (all_kept e.decls [])

  abbrev checked : Account
  checked = noted 9 (ticked (start request.turns))

  abbrev P : BoxProgram
  P = plain_program (box_families E.declarations) a.id a.number

  abbrev tree : Data
  tree = (a.number, 0) ∷ []

  keeps : KeepsPlain E a.id a.number
  keeps = answerable_keeps e a

  abbrev set : List Member
  set = plain_set a.id keeps.ctors

  same_check : (x : Accepting request.turns e) → (x.kept ≡ E) × (x.type ≡ Ind a.id) × (x.left ≡ checked)
  same_check x = accepts_inj x.kept E x.type (Ind a.id) x.left checked (sym (plainly request.turns e x.kept x.type x.left x.accepted) ∙ ap (λ d. d.outcome) (answerable_rules request.turns e some a))

  for_search : checked.left ≡ suc (suc (suc rest))
  for_search = omega (arith, four)

  for_erasure : (ticked checked).left ≡ suc (suc rest)
  for_erasure = omega (arith, four)

  search : (x : Accepting request.turns e) → first_order_search x.kept x.type x.left ≡ done (Found set) (ticked checked)
  search x =
      let q = same_check x in
      let there : first_order_search x.kept x.type x.left ≡ first_order_search E (Ind a.id) checked = λ i. first_order_search (q.0 i) (q.1 i) (q.2 i) in
      there ∙ (types_are_found E a.id a.number (suc (suc rest)) checked keeps for_search).0

  set_is : (x : Searching request.turns e) → (members x.shapes ≡ set) × (x.left ≡ ticked checked)
  set_is x = let both : Done (Found (members x.shapes)) x.left ≡ Done (Found set) (ticked checked) = sym x.found ∙ ap (λ r. r.end) (search x.before) in (ap (λ z. set_in z (members x.shapes)) both, ap (λ z. account_in z x.left) both)

  abbrev erased_account : Account
  erased_account = noted 8 (ticked (noted 9 (ticked (ticked checked))))

  erasure : (x : Searching request.turns e) → erasure_of x.before.kept e.main x.left ≡ gives (Program P) erased_account
  erasure x =
      let q = (same_check x.before).0 in
      let w = (set_is x).1 in
      let m = a.plain.main_is in
      let there : erasure_of x.before.kept e.main x.left ≡ erasure_of E (Construct a.id a.number) (ticked checked) = λ i. erasure_of (q i) (m i) (w i) in
      there ∙ (mains_are_erased E (test_of E) 2047 a.id a.number rest (ticked checked) keeps for_erasure).0

  program_is : (x : Erasing request.turns e) → x.program ≡ P
  program_is x = let both : Gives (Program x.program) x.left ≡ Gives (Program P) erased_account = sym x.erased ∙ ap (λ r. r.outcome) (erasure x.before) in ap (λ z. program_in z x.program) both

  is_plain : (x : Erasing request.turns e) → IsPlainProgram x.program a.id a.number
  is_plain x = subst (λ Q. IsPlainProgram Q a.id a.number) (sym (program_is x)) (mains_are_erased E (test_of E) 2047 a.id a.number rest (ticked checked) keeps for_erasure).1

  fits_set : (x : Searching request.turns e) → FitsShapes (members x.shapes) 0 tree
  fits_set x = subst (λ S. FitsShapes S 0 tree) (sym (set_is x).0) (types_are_found E a.id a.number (suc (suc rest)) checked keeps for_search).1

  -- main's erased program evaluates to the constructor
  pub has_data : (x : Erasing request.turns e) → HasErasedData request.turns e tree 1 0
  has_data x =
      let v = programs_evaluate x.program a.id a.number (is_plain x) in
      record { stages = x; value = x.program.main; evaluates = v.0; reads = v.1; fits = fits_set x.before }

  -- no stage to the module refuses

  no_search : (x : Accepting request.turns e) (w : Account) (r : Refusal) → ShapesSay x.kept x.type x.left (Err r) w → r ≢ refusals.Memory → ⊥
  no_search x w r h n = not_zero r (shapes_status x.kept x.type x.left r w h n (ap (λ z. z.deep) (search x)) ∙ ap (λ z. search_status z.end) (search x))

  no_erasure : (x : Searching request.turns e) (w : Account) (r : Refusal) → ErasureSays e x.before.kept e.main x.left (Err r) w → r ≢ refusals.Memory → ⊥
  no_erasure x w r h n = not_zero r (erased_status e x.before.kept e.main x.left r w h n (ap (λ z. z.deep) (erasure x)) ∙ ap (λ z. erasure_status z.outcome) (erasure x))

  no_passes : (x : Erasing request.turns e) (r : Refusal) → PassesSay request.pages x.program (Err r) → r ≢ refusals.Memory → ⊥
  no_passes x r h n = (not_passed request.pages x.program r h n).1 (programs_fit x.program a.id a.number (is_plain x)).0

  -- so `compile` has no refusal but want of memory

  no_stop : (r : Refusal) → r ≢ refusals.Memory → MakesNone request.turns e request.pages r → ⊥
  no_stop r n (by_search x w h) = no_search x w r h n
  no_stop r n (by_erasure x w h) = no_erasure x w r h n
  no_stop r n (by_passes x h) = no_passes x r h n
  no_stop r n (by_bytes x valid h) = is_written (its_module request.pages x) r h n (modules_are_small x.before.program a.id a.number request.pages x.before.form (is_plain x.before))

  pub not_stopped : (r : Refusal) → IsCheckCause request.turns r e ⊎ IsMakeCause request.turns request.pages r e → (IsSure r → ⊥) → ⊥
  not_stopped r (inl c) n = not_zero r (sym (cause_status request.turns r e 0 c n (answerable_ends request.turns e some a)))
  not_stopped r (inr (m, c)) n = no_stop r m c

  module _ (range : IsInRange request) (enough : 1052672 ≤ request.steps) where
    -- the run answers it
    answer_is : (x : Answering request.turns e request.pages request.steps) → x.answer.tree ≡ tree
    answer_is x = runs_answer x.before.before.program a.id a.number request.pages request.steps (Ok x.answer) (omega (arith, range.pages.0)) (omega (arith, range.pages.1)) enough x.before.before.form (is_plain x.before.before) x.ends

    no_refusal : (r : Refusal) → r ≢ refusals.Memory → StageRefuses request.turns e request.pages request.steps r → ⊥
    no_refusal r n (in_search x w h) = no_search x w r h n
    no_refusal r n (in_erasure x w h) = no_erasure x w r h n
    no_refusal r n (in_passes x h) = no_passes x r h n
    no_refusal r n (in_run x valid h) =
        let o = of_run (its_module request.pages x) request.pages request.steps r h n in
        let s = runs_answer x.before.program a.id a.number request.pages request.steps (Err o.why) (omega (arith, range.pages.0)) (omega (arith, range.pages.1)) enough x.before.form (is_plain x.before) o.ends in
        o.other (ap refused s)
    no_refusal r n (in_text x valid h) =
        (no_text_of (its_shapes x.before.before) x.answer r h n).1 (subst (λ d. FitsShapes (members (its_shapes x.before.before)) 0 d) (sym (answer_is x)) (fits_set x.before.before.before))

    -- no refusal but want of memory has a cause
    pub no_cause : (r : Refusal) → IsCheckCause request.turns r e ⊎ IsExecCause request.turns request.pages request.steps r e → (IsSure r → ⊥) → ⊥
    no_cause r (inl c) n = not_zero r (sym (cause_status request.turns r e 0 c n (answerable_ends request.turns e some a)))
    no_cause r (inr (m, c)) n = no_refusal r m c

    -- ---- the text

    pub constructor_text : (text : List ℕ) → ExecEnds request.turns e request.pages request.steps (Ok text) → (name : List ℕ) × NamesConstructor e a.id a.number name × (text ≡ name ++ 10 ∷ [])
    constructor_text text (x, (line, is, same)) =
        let z = x.before.before.before in
        let k = z.before in
        let c = text_named a.number is (answer_is x) in
        let h = at_place (HasNames k.kept) z.shapes 0 c.shape c.at z.named in
        let first : member c.shape ≡ record { family = a.id; parameters = []; constructors = empties keeps.ctors } =
        one_item (sym (slice_get-map member z.shapes 0 ∙ ap (option_map member) c.at) ∙ ap (λ S. slice_get S 0) (set_is z).0) in
        let family : h.family ≡ a.id = sym (ap family_in h.head_is) ∙ ap (λ (m : Member). m.family) first in
        let number : slice_get (map ctor_name c.shape.ctors) a.number ≡ Some c.ctor.name = slice_get-map ctor_name c.shape.ctors a.number ∙ ap (option_map ctor_name) c.ctor_at in
        let r = from_map constructor_name (slice_get h.declared.constructors a.number) c.ctor.name
        (sym (slice_get-map constructor_name h.declared.constructors a.number) ∙ ap (λ ls. slice_get ls a.number) (sym h.names) ∙ number) in
        let names : NamesConstructor e a.id a.number line = record {
          well = record { kept = k.kept; type = k.type; checked = k.checked };
          family = h.declared;
          keeps = subst (λ f. KeepsFamily k.kept f h.declared) family h.keeps;
          constructor = r.0;
          is_main = r.1;
          named = sym (ap (λ (l : Name). slice_get e.names l.0) r.2) ∙ c.named;
        } in
        (line, names, same)
