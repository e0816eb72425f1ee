-- Generation: what a term's type says of its parts, by the rules that end a derivation: the former's own rule, and then conversions.
use Rattle.std.proofs.Common.{ℕ, List, [], ◌∷◌, refl}
use Rattle.universe_levels.specs.declared.sort.Sort.{Sort}
use Rattle.pc_terms.specs.declared.leaf.Name.{Name}
use Rattle.pc_terms.specs.declared.leaf.FamilyId.{FamilyId}
use Rattle.pc_terms.specs.Syntax.{Term, Terms, Rel, SortT, Prod, Lambda, LetIn, App, Const, Ind, Construct, Case, Fix, apply}
use Rattle.calculus_rules.specs.Environment.{Env}
use Rattle.calculus_rules.specs.Context.{Context}
use Rattle.calculus_rules.specs.Conversion.{same, Below, equal}
use Rattle.calculus_rules.specs.Typing.{Mode, Types, rel, sort, prod, lambda, let_in, app, const, ind, construct, case, fix, conv}
use Rattle.typing_laws.specs.TypedParts.{OfRel, OfSort, OfProd, OfLambda, OfLetIn, OfApp, OfConst, OfInd, OfConstruct, OfCase, OfFix}

pub of_rel : {m : Mode} {E : Env} {c : Context} {i : ℕ} {T : Term} → Types m E c (Rel i) T → OfRel m E c i T
of_rel (rel {T = T} e) = record { entry_type = T; entry = e; below = equal same }
of_rel (conv p b q) = let r = of_rel p in record { entry_type = r.entry_type; entry = r.entry; below = Below.chain r.below b }

pub of_sort : {m : Mode} {E : Env} {c : Context} {s : Sort} {T : Term} → Types m E c (SortT s) T → OfSort m E c s T
of_sort (sort h) = record { declared = h; below = equal same }
of_sort (conv p b q) = let r = of_sort p in record { declared = r.declared; below = Below.chain r.below b }

pub of_prod : {m : Mode} {E : Env} {c : Context} {A B T : Term} → Types m E c (Prod A B) T → OfProd m E c A B T
of_prod (prod {s = s} {s' = s'} p q) = record { domain_sort = s; codomain_sort = s'; domain = p; codomain = q; below = equal same }
of_prod (conv p b q) = let r = of_prod p in record { domain_sort = r.domain_sort; codomain_sort = r.codomain_sort; domain = r.domain; codomain = r.codomain; below = Below.chain r.below b }

pub of_lambda : {m : Mode} {E : Env} {c : Context} {A b T : Term} → Types m E c (Lambda A b) T → OfLambda m E c A b T
of_lambda (lambda {B = B} {s = s} p q) = record { codomain = B; sort = s; domain = p; body = q; below = equal same }
of_lambda (conv p b q) = let r = of_lambda p in record { codomain = r.codomain; sort = r.sort; domain = r.domain; body = r.body; below = Below.chain r.below b }

pub of_let_in : {m : Mode} {E : Env} {c : Context} {b B t T : Term} → Types m E c (LetIn b B t) T → OfLetIn m E c b B t T
of_let_in (let_in {T = T} {s = s} p q r) = record { codomain = T; sort = s; domain = p; value = q; body = r; below = equal same }
of_let_in (conv p b q) = let r = of_let_in p in record { codomain = r.codomain; sort = r.sort; domain = r.domain; value = r.value; body = r.body; below = Below.chain r.below b }

pub of_app : {m : Mode} {E : Env} {c : Context} {f a T : Term} → Types m E c (App f a) T → OfApp m E c f a T
of_app (app {A = A} {B = B} p q) = record { domain = A; codomain = B; function = p; argument = q; below = equal same }
of_app (conv p b q) = let r = of_app p in record { domain = r.domain; codomain = r.codomain; function = r.function; argument = r.argument; below = Below.chain r.below b }

pub of_const : {m : Mode} {E : Env} {c : Context} {k : Name} {T : Term} → Types m E c (Const k) T → OfConst m E c k T
of_const (const {T = T} {b = b} h) = record { kept_type = T; body = b; kept = h; below = equal same }
of_const (conv p b q) = let r = of_const p in record { kept_type = r.kept_type; body = r.body; kept = r.kept; below = Below.chain r.below b }

pub of_ind : {m : Mode} {E : Env} {c : Context} {f : FamilyId} {T : Term} → Types m E c (Ind f) T → OfInd m E c f T
of_ind (ind {F = F} h) = record { family = F; known = h; below = equal same }
of_ind (conv p b q) = let r = of_ind p in record { family = r.family; known = r.known; below = Below.chain r.below b }

pub of_construct : {m : Mode} {E : Env} {c : Context} {f : FamilyId} {n : ℕ} {T : Term} → Types m E c (Construct f n) T → OfConstruct m E c f n T
of_construct (construct {F = F} {C = C} h e) = record { family = F; constructor = C; kept = h; at = e; below = equal same }
of_construct (conv p b q) = let r = of_construct p in record { family = r.family; constructor = r.constructor; kept = r.kept; at = r.at; below = Below.chain r.below b }

pub of_case : {m : Mode} {E : Env} {c : Context} {f : FamilyId} {xs : Terms} {n : ℕ} {ret t : Term} {bs : Terms} {T : Term} →
    Types m E c (Case f xs n ret t bs) T → OfCase m E c f xs n ret t bs T
of_case (case {F = F} {s = u} ps is kept e l p es q may s b) =
    record {
      family = F;
      kept = kept;
      parameters = ps;
      are = refl;
      indices = is;
      names = e;
      count = l;
      fit = p;
      entries = es;
      sort = u;
      predicate = q;
      may = may;
      scrutinee = s;
      branches = b;
      below = equal same;
    }
of_case (conv p b q) =
    let r = of_case p in
    record {
      family = r.family;
      kept = r.kept;
      parameters = r.parameters;
      are = r.are;
      indices = r.indices;
      names = r.names;
      count = r.count;
      fit = r.fit;
      entries = r.entries;
      sort = r.sort;
      predicate = r.predicate;
      may = r.may;
      scrutinee = r.scrutinee;
      branches = r.branches;
      below = Below.chain r.below b;
    }

pub of_fix : {m : Mode} {E : Env} {c : Context} {i : ℕ} {rargs : List ℕ} {types bodies : Terms} {T : Term} → Types m E c (Fix i rargs types bodies) T →
    OfFix m E c i rargs types bodies T
of_fix (fix {T = T} e h p b ask) = record { written = T; count = e; at = h; sorts = p; bodies_fit = b; asked = ask; below = equal same }
of_fix (conv p b q) = let r = of_fix p in record { written = r.written; count = r.count; at = r.at; sorts = r.sorts; bodies_fit = r.bodies_fit; asked = r.asked; below = Below.chain r.below b }

-- the head of an application to several arguments has a type
pub of_apply : {m : Mode} {E : Env} {c : Context} (xs : List Term) (f : Term) {T : Term} → Types m E c (apply f xs) T → (U : Term) × Types m E c f U
of_apply [] f {T} p = (T, p)
of_apply (a ∷ xs) f p = let (U, q) = of_apply xs (App f a) p in let r = of_app q in (Prod r.domain r.codomain, r.function)
