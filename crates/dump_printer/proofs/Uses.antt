-- Uses of names and levels in a term applied to some arguments.
use Rattle.std.proofs.Common.{◌≡◌, ℕ, List, refl}
use Rattle.dump_grammar.specs.Named.{Named, App, terms_of}
use Rattle.dump_grammar.specs.Terms.{Forms, NoForm, OneForm, meaning, meanings, applied}
use Rattle.dump_grammar.specs.Uses.{names, names_of_terms, levels, levels_of_terms}

pub names-applied : (t : Named) (fs : Forms) (us : List (List ℕ)) → names (applied t fs) us ≡ names t (names_of_terms (terms_of (meanings fs)) us)
unfolding names meaning
names-applied t NoForm us = refl
names-applied t (OneForm a more) us = names-applied (App t (meaning a)) more us

pub levels-applied : (t : Named) (fs : Forms) (us : List (List ℕ)) → levels (applied t fs) us ≡ levels t (levels_of_terms (terms_of (meanings fs)) us)
unfolding levels meaning
levels-applied t NoForm us = refl
levels-applied t (OneForm a more) us = levels-applied (App t (meaning a)) more us
