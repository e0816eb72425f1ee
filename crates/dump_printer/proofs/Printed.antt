-- The canonical tokens of an environment that is spelled spell it.
use Rattle.std.proofs.Common.{◌≡◌, ℕ, List, [], ◌∷◌, ◌||◌, true, false, None, refl, ap, ◌∙◌}
use Rattle.std.specs.Prelude.{bytes_eq}
use Rattle.dump_grammar.specs.Keywords.{spelling}
use Rattle.dump_grammar.specs.declared.keyword.Keyword.TheVariants as words
use Rattle.dump_grammar.specs.Numbering.{is_in, firsts, name_table, level_table}
use Rattle.dump_grammar.specs.Uses.{name_uses, level_uses}
use Rattle.dump_grammar.specs.Environments.{Dump, dump, env_of}
use Rattle.dump_grammar.specs.Within.{dump_over}
use Rattle.dump_grammar.proofs.Numbering.{numbering}
use Rattle.dump_reader.specs.NumberedEnvironment.{numbered, numbered_by}
use Rattle.dump_printer.specs.CanonicalTerms.{text_of}
use Rattle.dump_printer.specs.Canonical.{canonical_tokens}
use Rattle.dump_printer.proofs.FitEnvironments.{FitsEnv}
use Rattle.dump_printer.proofs.Fitting.{AreIn, dump-fits}
use Rattle.dump_printer.proofs.Renumbered.{IsTable, firsts-table}
use Rattle.dump_printer.proofs.NormalEnvironments.{normal_env, same-names, same-levels, env-back}
use Rattle.dump_printer.proofs.CanonicalEnvironments.{canon_dump, dump-tokens, dump-meaning}

in-firsts : (us : List (List ℕ)) → AreIn us (firsts us)
in-firsts us a e = numbering.only us a ∙ e

in-more : (b : List ℕ) (us : List (List ℕ)) → AreIn us (firsts (b ∷ us))
unfolding is_in
in-more b us a e = numbering.only (b ∷ us) a ∙ rw e (elim (bytes_eq a b) as (λ x. (x || true) ≡ true) [ true ↦ refl | false ↦ refl ])

pub set-first : (us : List (List ℕ)) → text_of (firsts (spelling words.Set ∷ us)) 0 ≡ spelling words.Set
unfolding firsts
set-first us = refl

module _ (d : Dump) (within : dump_over d ≡ None) where
  pub dump-fit : FitsEnv (name_table (env_of d)) (level_table (env_of d)) (env_of d)
  dump-fit = dump-fits (name_table (env_of d)) (level_table (env_of d)) d within (in-firsts (name_uses (env_of d))) (in-more (spelling words.Set) (level_uses (env_of d)))

  -- the canonical form of the text
  abbrev pub canonical_dump : Dump
  canonical_dump = canon_dump (level_table (env_of d)) d

  pub canonical-tokens : canonical_tokens (numbered (env_of d)) ≡ dump canonical_dump []
  canonical-tokens = dump-tokens (level_table (env_of d)) (name_table (env_of d)) d dump-fit []

  pub canonical-means : env_of canonical_dump ≡ normal_env (level_table (env_of d)) (env_of d)
  canonical-means = dump-meaning (level_table (env_of d)) (name_table (env_of d)) (set-first (level_uses (env_of d))) d dump-fit

  pub canonical-numbers : numbered (env_of canonical_dump) ≡ numbered (env_of d)
  canonical-numbers =
      let n = env_of d in
      let ns = name_table n in
      let ls = level_table n in
      let table : IsTable ls = firsts-table (spelling words.Set ∷ level_uses n) in
      let m = normal_env ls n in
      ap numbered canonical-means
      ∙ ap (λ t. numbered_by t (level_table m) m) (same-names ls n)
      ∙ ap (λ t. numbered_by ns t m) (same-levels ns n table dump-fit)
      ∙ env-back ls ns table n dump-fit
