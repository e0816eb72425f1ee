-- The canonical text of an environment that some text spells spells it.
use Rattle.std.proofs.Common.{◌≡◌, ℕ, List, [], ◌∷◌, length, refl, sym, ap, subst, ◌∙◌}
use Rattle.sexp_reader.specs.Lex.{tokens_of}
use Rattle.dump_grammar.specs.Numbering.{firsts, name_table, level_table}
use Rattle.dump_grammar.specs.Uses.{name_uses, level_uses}
use Rattle.dump_grammar.specs.Keywords.{spelling}
use Rattle.dump_grammar.specs.declared.keyword.Keyword.TheVariants as words
use Rattle.dump_grammar.specs.Environments.{Dump, dump, env_of}
use Rattle.dump_grammar.specs.Table.{VEnv, start}
use Rattle.dump_grammar.specs.Judge.{texts, Fine}
use Rattle.dump_grammar.specs.Within.{DumpIsWithin}
use Rattle.dump_grammar.proofs.Numbering.{numbering}
use Rattle.dump_grammar.proofs.Law.{judged}
use Rattle.dump_grammar.proofs.Within.{limited}
use Rattle.dump_reader.specs.declared.environment.RawEnv.{RawEnv}
use Rattle.dump_reader.specs.NumberedEnvironment.{numbered}
use Rattle.dump_reader.specs.Spelling.{Spells}
use Rattle.dump_printer.specs.Canonical.{canonical_tokens, canonical_text}
use Rattle.dump_reader.specs.Spelled.{IsSpelled}
use Rattle.dump_printer.proofs.Printed.{dump-fit, canonical_dump, canonical-tokens, canonical-numbers}
use Rattle.dump_printer.proofs.Good.{AreGood, accepted-good, spaced-read, word-good}
use Rattle.dump_printer.proofs.GoodTexts.{AllGood, good-more, uses-good}
use Rattle.dump_printer.proofs.GoodTokens.{environment-good}

-- A form of the text that was accepted.
pub record IsFormed (e : RawEnv) : Type 0 where
  pub form : Dump
  pub within : DumpIsWithin form
  pub good : AreGood (dump form [])
  pub meant : e ≡ numbered (env_of form)

pub formed : (e : RawEnv) → IsSpelled e → IsFormed e
formed e h =
    let bytes = h.0 in
    let x = judged.fine (length bytes) (tokens_of bytes) (VEnv h.1 ∷ []) h.2 in
    let d = x.2.0 in
    let same : h.1 ≡ env_of d = (let f = x.1 in let g : h.1 ≡ x.0 = cc in g ∙ x.2.2) in
    record {
      form = d;
      within = limited.only (length bytes) (tokens_of bytes) d x.2.1 (h.2 ∙ ap (λ n. Fine (VEnv n ∷ [])) same);
      good = subst AreGood x.2.1 (accepted-good bytes (length bytes) 0 start [] (VEnv h.1 ∷ []) h.2);
      meant = h.3 ∙ ap numbered same;
    }

firsts-good : (us : List (List ℕ)) → AllGood us → AllGood (firsts us)
firsts-good us h a e = h a (sym (numbering.only us a) ∙ e)

module _ (e : RawEnv) (h : IsFormed e) where
  pub tokens-good : AreGood (canonical_tokens e)
  tokens-good =
      let d = h.form in
      let uses = uses-good d h.good in
      let fine = environment-good (name_table (env_of d)) (level_table (env_of d)) (firsts-good (name_uses (env_of d)) uses.0) (firsts-good (spelling words.Set ∷ level_uses (env_of d)) (good-more (spelling words.Set) (level_uses (env_of d)) (word-good words.Set) uses.1)) (env_of
      d) (dump-fit d h.within.1) in
      subst (λ r. AreGood (canonical_tokens r)) (sym h.meant) fine

  pub tokens-are : canonical_tokens e ≡ dump (canonical_dump h.form h.within.1) []
  tokens-are = ap canonical_tokens h.meant ∙ canonical-tokens h.form h.within.1

  pub text-tokens : texts (tokens_of (canonical_text e)) ≡ dump (canonical_dump h.form h.within.1) []
  text-tokens = spaced-read (canonical_tokens e) tokens-good ∙ tokens-are

  pub meant-again : e ≡ numbered (env_of (canonical_dump h.form h.within.1))
  meant-again = h.meant ∙ sym (canonical-numbers h.form h.within.1)

pub text-spells : (e : RawEnv) → IsSpelled e → Spells (canonical_text e) e
text-spells e s =
    let h = formed e s in
    let d = canonical_dump h.form h.within.1 in
    (env_of d, (d, text-tokens e h, refl), meant-again e h)
