-- Nodes, and parts of nodes, whose parts are what they are at a place.
use Rattle.std.specs.Prelude.{ℕ, ◌+◌, length, map}
use Rattle.trees.specs.Substitution.{walk}
use Rattle.pc_terms.specs.Syntax as s
use Rattle.pc_terms.specs.Lists.{walk_branch, walk_def, walk_match}
use Rattle.pc_terms.specs.declared.term.Branch.{Branch}
use Rattle.pc_terms.specs.declared.term.Def.{Def}
use Rattle.pc_terms.specs.declared.term.Match.{Match}
use Rattle.pc_terms.specs.declared.term.Node.{Node}
use Rattle.pc_terms.specs.declared.term.Node.TheVariants.{Rel, Sort, Prod, Lambda, LetIn, App, Const, Ind, Construct, Case, Fix}
use Rattle.lazy_conversion.specs.declared.places.Place.{Place}
use Rattle.lazy_conversion.specs.Lifted.{lifted_under}

-- a node with its parts walked; a variable stays
abbrev pub walk_node : (ℕ → ℕ → s.Term) → ℕ → Node → Node
walk_node f k (Rel i) = Rel i
walk_node f k (Sort s') = Sort s'
walk_node f k (Prod a b) = Prod (walk f k a) (walk f (k + 1) b)
walk_node f k (Lambda a b) = Lambda (walk f k a) (walk f (k + 1) b)
walk_node f k (LetIn v a b) = LetIn (walk f k v) (walk f k a) (walk f (k + 1) b)
walk_node f k (App g a) = App (walk f k g) (walk f k a)
walk_node f k (Const c) = Const c
walk_node f k (Ind g) = Ind g
walk_node f k (Construct g c) = Construct g c
walk_node f k (Case m) = Case (walk_match f k m)
walk_node f k (Fix ds i) = Fix (map (walk_def f k (length ds)) ds) i

abbrev pub node_seen : Place → Node → Node
node_seen p n = walk_node (lifted_under p.lifted p.env.now.items) p.under n

abbrev pub branch_seen : Place → Branch → Branch
branch_seen p b = walk_branch (lifted_under p.lifted p.env.now.items) p.under b

-- a definition, of m
abbrev pub def_seen : Place → ℕ → Def → Def
def_seen p m d = walk_def (lifted_under p.lifted p.env.now.items) p.under m d

abbrev pub match_seen : Place → Match → Match
match_seen p m = walk_match (lifted_under p.lifted p.env.now.items) p.under m

-- a match around one and the same scrutinee
abbrev pub match_around : Place → Match → Match
match_around p m = record (walk_match (lifted_under p.lifted p.env.now.items) p.under m) { scrut = s.Rel 0 }
