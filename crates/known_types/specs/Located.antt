-- A site is one of an environment and a context where its stamps are theirs, and where it has none.
use Rattle.calculus_rules.specs.Environment.{Env}
use Rattle.calculus_rules.specs.Context.{Context}
use Rattle.known_types.specs.Sites.{AreWorldsOf}
use Rattle.known_types.specs.declared.site.Site.{Site}

abbrev pub IsOf : Site → Env → Context → Type 0
IsOf s E c = AreWorldsOf s.world E c
