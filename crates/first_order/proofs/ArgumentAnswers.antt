-- What an answer says that is the reading of arguments from an offset on.
use Rattle.std.proofs.Common.{◌≡◌, ◌∙◌, ℕ, ◌+◌, ◌≤◌, List, length, drop, Result, Ok, Err, IfOk, IfErr, refl, sym, ap, subst as along, arith}
use Rattle.std.proofs.lemmas.List.{length-drop, length-map}
use Rattle.std.specs.Prelude.{Vec}
use Rattle.std.specs.declared.alloc.Global.{Global}
use Rattle.sexp_reader.specs.Lex.{tokens_of}
use Rattle.dump_grammar.specs.Judge.{texts}
use Rattle.calculus_rules.specs.FirstOrder.{Data}
use Rattle.first_order.specs.declared.shapes.Shape.{Shape}
use Rattle.first_order.specs.declared.shapes.Shapes.{Shapes}
use Rattle.first_order.specs.declared.faults.ArgsFault.{ArgsFault}
use Rattle.first_order.specs.declared.faults.ArgsFault.TheVariants as faults
use Rattle.first_order.specs.ArgumentTexts.{SpellsArguments}
use Rattle.first_order.specs.Awaited.{whole_call, ArgumentReading, ArgumentsAre, ArgumentsFail, fault_behind, reading_behind, call_arguments, arguments_from, joined, argument_sets, AnswersReading, HasNoFault, AnswersSpelled}
use Rattle.first_order.specs.Nexts.{offset_in}
use Rattle.first_order.proofs.ArgumentOffsets.{refusal-within}
use Rattle.first_order.proofs.ArgumentSpelling.{read-spelled, whole-spelled}
use Rattle.first_order.proofs.ArgumentComplete.{arguments-read, one_cut, arguments_trees}

pub sets_count : (ss : List Shapes) → length (argument_sets ss) ≡ length ss
sets_count ss = length-map ss (λ s. s.types)

are_behind : (n : ℕ) (r : ArgumentReading) (ds : Data) → reading_behind n r ≡ ArgumentsAre ds → r ≡ ArgumentsAre ds
are_behind n (ArgumentsAre es) ds e = e
are_behind n (ArgumentsFail f) ds e = absurd cc

fails_behind : (n : ℕ) (r : ArgumentReading) (f : ArgsFault) → reading_behind n r ≡ ArgumentsFail f → (g : ArgsFault) × (r ≡ ArgumentsFail g) × (fault_behind n g ≡ f)
fails_behind n (ArgumentsAre es) f e = absurd cc
fails_behind n (ArgumentsFail g) f e = (g, refl, cc)

offset_behind : (n : ℕ) (g : ArgsFault) → offset_in (fault_behind n g) ≤ n + offset_in g
offset_behind n (faults.Syntax o) = omega arith
offset_behind n (faults.Wrong o) = omega arith
offset_behind n faults.NameBytes = omega arith
offset_behind n faults.Nesting = omega arith
offset_behind n faults.Memory = omega arith

module _ (names : List (List ℕ)) (sets : List Shapes) (bytes : List ℕ) (from : ℕ) where
  abbrev Ss : List (List Shape)
  Ss = argument_sets sets

  offset-within : (f : ArgsFault) → from ≤ length bytes → arguments_from names Ss bytes from ≡ ArgumentsFail f → offset_in f ≤ length bytes
  offset-within f le e =
      let (g, r, b) = fails_behind from (call_arguments names Ss (drop from bytes)) f e in
      let w = refusal-within names Ss (drop from bytes) g r in
      let here : offset_in f ≤ from + offset_in g = along (λ h. offset_in h ≤ from + offset_in g) b (offset_behind from g) in
      omega (arith, here, w, length-drop from bytes, le)

  pub answer-offset : (x : Result (Vec Data Global) ArgsFault) → from ≤ length bytes → AnswersReading (arguments_from names Ss bytes from) (length sets) x → IfErr x (λ f. offset_in f ≤ length bytes)
  answer-offset (Ok v) le h = tt
  answer-offset (Err faults.Memory) le h = omega arith
  answer-offset (Err (faults.Syntax o)) le h = offset-within (faults.Syntax o) le h
  answer-offset (Err (faults.Wrong o)) le h = offset-within (faults.Wrong o) le h
  answer-offset (Err faults.NameBytes) le h = omega arith
  answer-offset (Err faults.Nesting) le h = omega arith

  pub answer-spelled : (x : Result (Vec Data Global) ArgsFault) → AnswersReading (arguments_from names Ss bytes from) (length sets) x → IfOk x (λ v. SpellsArguments names Ss (texts (tokens_of (drop from bytes))) v.items)
  answer-spelled (Err f) h = tt
  answer-spelled (Ok v) h =
      let rest = drop from bytes in
      let e = are_behind from (call_arguments names Ss rest) (joined v.items) h.0 in
      let w = whole-spelled names Ss (texts (tokens_of rest)) (joined v.items) (read-spelled names (length rest) (tokens_of rest) 0 (whole_call Ss) (joined v.items) e) in
      let t = arguments_trees names Ss (texts (tokens_of rest)) w.0 w.2 in
      let same : v.items ≡ w.0 = one_cut v.items w.0 h.2 t.0 (h.1 ∙ sym (sets_count sets) ∙ sym t.1) w.1 in
      along (SpellsArguments names Ss (texts (tokens_of rest))) (sym same) w.2

  read-behind : (ds : List Data) → SpellsArguments names Ss (texts (tokens_of (drop from bytes))) ds → HasNoFault 0 (tokens_of (drop from bytes)) → arguments_from names Ss bytes from ≡ ArgumentsAre (joined ds)
  read-behind ds s f = ap (reading_behind from) (arguments-read names Ss (length (drop from bytes)) (tokens_of (drop from bytes)) ds s f)

  never : (r : ArgumentReading) (ds : Data) (f : ArgsFault) → r ≡ ArgumentsAre ds → r ≡ ArgumentsFail f → ⊥
  never r ds f e g = let h : ArgumentsAre ds ≡ ArgumentsFail f = sym e ∙ g in cc

  are_same : (r : ArgumentReading) (ds es : Data) → r ≡ ArgumentsAre ds → r ≡ ArgumentsAre es → ds ≡ es
  are_same r ds es e g = let h : ArgumentsAre ds ≡ ArgumentsAre es = sym e ∙ g in cc

  pub answer-complete : (x : Result (Vec Data Global) ArgsFault) → AnswersReading (arguments_from names Ss bytes from) (length sets) x → AnswersSpelled names Ss (tokens_of (drop from bytes)) x
  answer-complete (Ok v) h ds s f =
      let t = arguments_trees names Ss (texts (tokens_of (drop from bytes))) ds s in
      (one_cut v.items ds h.2 t.0 (h.1 ∙ sym (sets_count sets) ∙ sym t.1) (are_same (arguments_from names Ss bytes from) (joined v.items) (joined ds) h.0 (read-behind ds s f)), tt)
  answer-complete (Err faults.Memory) h ds s f = (tt, refl)
  answer-complete (Err (faults.Syntax o)) h ds s f = absurd (never (arguments_from names Ss bytes from) (joined ds) (faults.Syntax o) (read-behind ds s f) h)
  answer-complete (Err (faults.Wrong o)) h ds s f = absurd (never (arguments_from names Ss bytes from) (joined ds) (faults.Wrong o) (read-behind ds s f) h)
  answer-complete (Err faults.NameBytes) h ds s f = absurd (never (arguments_from names Ss bytes from) (joined ds) faults.NameBytes (read-behind ds s f) h)
  answer-complete (Err faults.Nesting) h ds s f = absurd (never (arguments_from names Ss bytes from) (joined ds) faults.Nesting (read-behind ds s f) h)
