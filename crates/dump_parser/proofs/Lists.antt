-- Lists that grow at their end.
use Rattle.std.proofs.Common.{◌≡◌, List, [], ◌∷◌, ◌++◌, refl}
use Rattle.dump_grammar.specs.Named.{Named, App}
use Rattle.dump_parser.specs.Tree.{applied}

pub applied_more : (f : Named) (ts : List Named) (t : Named) → applied f (ts ++ t ∷ []) ≡ App (applied f ts) t
applied_more f [] t = refl
applied_more f (a ∷ ts) t = applied_more (App f a) ts t
