-- The laws of bare typing, as statements.
use Rattle.std.specs.Prelude.{ℕ, ◌≡◌, List, [], ◌∷◌, ◌++◌, length}
use Rattle.universe_levels.specs.declared.constraint.Constraint.{Constraint}
use Rattle.universe_levels.specs.declared.sort.Sort.{Sort}
use Rattle.pc_terms.specs.declared.leaf.Name.{Name}
use Rattle.pc_terms.specs.declared.leaf.FamilyId.{FamilyId}
use Rattle.pc_terms.specs.Syntax.{Term, Terms, Rel, SortT, Prod, Lambda, LetIn, App, Const, Ind, Construct, Case, Fix, Closed, overs, put, substitute, shift}
use Rattle.calculus_rules.specs.declared.declaration.Kept.{Kept}
use Rattle.calculus_rules.specs.declared.entry.Entry.{Entry}
use Rattle.calculus_rules.specs.Environment.{Env}
use Rattle.calculus_rules.specs.Context.{Context, Values, values}
use Rattle.calculus_rules.specs.Conversion.{Equal, Below}
use Rattle.calculus_rules.specs.Typing.{Mode, Types, bare}
use Rattle.calculus_rules.specs.Accepted.{IsAccepted, env}
use Rattle.calculus_rules.specs.Evaluation.{Evaluates}
use Rattle.calculus_rules.specs.FirstOrder.{Shape, IsFirstOrder, Data, Reads, NothingErasable}
use Rattle.calculus_rules.specs.Lawful.{IsLawful}
use Rattle.typing_laws.specs.TypedParts.{OfRel, OfSort, OfProd, OfLambda, OfLetIn, OfApp, OfConst, OfInd, OfConstruct, OfCase, OfFix}
use Rattle.typing_laws.specs.Substituting.{lifted_context, put_context, Fits}

-- weakening by outer entries, of equality and of bare types

abbrev pub WeakeningOfEquality : Type 0
WeakeningOfEquality = (E : Env) → IsAccepted E → (ds es c : Context) (t u : Term) → Equal E (values (ds ++ c)) t u →
    Equal E (values (lifted_context (length es) ds ++ (es ++ c))) (shift (length es) (length ds) t) (shift (length es) (length ds) u)

abbrev pub WeakeningOfTypes : Type 0
WeakeningOfTypes = (E : Env) → IsAccepted E → (ds es c : Context) (t T : Term) → Types bare E (ds ++ c) t T →
    Types bare E (lifted_context (length es) ds ++ (es ++ c)) (shift (length es) (length ds) t) (shift (length es) (length ds) T)

abbrev pub WeakeningOfBelow : Type 0
WeakeningOfBelow = (E : Env) → IsAccepted E → (ds es c : Context) (t u : Term) → Below E (values (ds ++ c)) t u →
    Below E (values (lifted_context (length es) ds ++ (es ++ c))) (shift (length es) (length ds) t) (shift (length es) (length ds) u)

-- closed substitution: a term that fits is put in for an entry

abbrev pub SubstitutionOfTypes : Type 0
SubstitutionOfTypes = (E : Env) → IsAccepted E → (ds c : Context) (e : Entry) (a t T : Term) → Fits E c e a → Types bare E (ds ++ (e ∷ c)) t T →
    Types bare E (put_context a ds ++ c) (substitute (overs (length ds) (put a)) t) (substitute (overs (length ds) (put a)) T)

abbrev pub SubstitutionOfEquality : Type 0
SubstitutionOfEquality = (E : Env) → IsAccepted E → (ds c : Context) (e : Entry) (a t u : Term) → Fits E c e a → Equal E (values (ds ++ (e ∷ c))) t u →
    Equal E (values (put_context a ds ++ c)) (substitute (overs (length ds) (put a)) t) (substitute (overs (length ds) (put a)) u)

abbrev pub SubstitutionOfBelow : Type 0
SubstitutionOfBelow = (E : Env) → IsAccepted E → (ds c : Context) (e : Entry) (a t u : Term) → Fits E c e a → Below E (values (ds ++ (e ∷ c))) t u →
    Below E (values (put_context a ds ++ c)) (substitute (overs (length ds) (put a)) t) (substitute (overs (length ds) (put a)) u)

-- weakening by declarations

abbrev pub DeclarationsKeepTypes : Type 0
DeclarationsKeepTypes = (levels : ℕ) (cs : List Constraint) (ds : List Kept) (d : Kept) (c : Context) (t T : Term) →
    Types bare (env levels cs ds) c t T → Types bare (env levels cs (d ∷ ds)) c t T

abbrev pub DeclarationsKeepEquality : Type 0
DeclarationsKeepEquality = (levels : ℕ) (cs : List Constraint) (ds : List Kept) (d : Kept) (V : Values) (t u : Term) →
    Equal (env levels cs ds) V t u → Equal (env levels cs (d ∷ ds)) V t u

abbrev pub DeclarationsKeepBelow : Type 0
DeclarationsKeepBelow = (levels : ℕ) (cs : List Constraint) (ds : List Kept) (d : Kept) (V : Values) (t u : Term) →
    Below (env levels cs ds) V t u → Below (env levels cs (d ∷ ds)) V t u

-- a lawful evaluation lies in equality
abbrev pub LawfulIsEqual : Type 0
LawfulIsEqual = (E : Env) (t v : Term) (n : ℕ) (e : Evaluates E t v n) → IsLawful e → Equal E [] t v

-- a typed term has no variables but its context's
abbrev pub TypedIsClosed : Type 0
TypedIsClosed = (E : Env) (c : Context) (t T : Term) → Types bare E c t T → Closed (length c) t

-- generation: what a type of a term says of its parts, for each former (of bare types and of guarded ones)

abbrev pub VariablesGenerate : Type 0
VariablesGenerate = (m : Mode) (E : Env) (c : Context) (i : ℕ) (T : Term) → Types m E c (Rel i) T → OfRel m E c i T

abbrev pub SortsGenerate : Type 0
SortsGenerate = (m : Mode) (E : Env) (c : Context) (s : Sort) (T : Term) → Types m E c (SortT s) T → OfSort m E c s T

abbrev pub ProductsGenerate : Type 0
ProductsGenerate = (m : Mode) (E : Env) (c : Context) (A B T : Term) → Types m E c (Prod A B) T → OfProd m E c A B T

abbrev pub LambdasGenerate : Type 0
LambdasGenerate = (m : Mode) (E : Env) (c : Context) (A b T : Term) → Types m E c (Lambda A b) T → OfLambda m E c A b T

abbrev pub LetsGenerate : Type 0
LetsGenerate = (m : Mode) (E : Env) (c : Context) (b B t T : Term) → Types m E c (LetIn b B t) T → OfLetIn m E c b B t T

abbrev pub ApplicationsGenerate : Type 0
ApplicationsGenerate = (m : Mode) (E : Env) (c : Context) (f a T : Term) → Types m E c (App f a) T → OfApp m E c f a T

abbrev pub ConstantsGenerate : Type 0
ConstantsGenerate = (m : Mode) (E : Env) (c : Context) (k : Name) (T : Term) → Types m E c (Const k) T → OfConst m E c k T

abbrev pub FamiliesGenerate : Type 0
FamiliesGenerate = (m : Mode) (E : Env) (c : Context) (f : FamilyId) (T : Term) → Types m E c (Ind f) T → OfInd m E c f T

abbrev pub ConstructorsGenerate : Type 0
ConstructorsGenerate = (m : Mode) (E : Env) (c : Context) (f : FamilyId) (n : ℕ) (T : Term) → Types m E c (Construct f n) T → OfConstruct m E c f n T

abbrev pub MatchesGenerate : Type 0
MatchesGenerate = (m : Mode) (E : Env) (c : Context) (f : FamilyId) (xs : Terms) (n : ℕ) (ret t : Term) (bs : Terms) (T : Term) → Types m E c (Case f xs n ret t bs) T →
    OfCase m E c f xs n ret t bs T

abbrev pub FixpointsGenerate : Type 0
FixpointsGenerate = (m : Mode) (E : Env) (c : Context) (i : ℕ) (rargs : List ℕ) (types bodies : Terms) (T : Term) → Types m E c (Fix i rargs types bodies) T →
    OfFix m E c i rargs types bodies T

-- data along one first-order set of a type is data along each
abbrev pub DataIsAlongEach : Type 0
DataIsAlongEach = (E : Env) → IsAccepted E → (T : Term) (S S' : List Shape) → IsFirstOrder E T S → IsFirstOrder E T S' → (v : Term) (d : Data) (r : Reads E S 0 v d) →
    NothingErasable r → (r' : Reads E S' 0 v d) × NothingErasable r'

-- and a value is read as one tree of data along a set
abbrev pub ReadingIsDetermined : Type 0
ReadingIsDetermined = (E : Env) → IsAccepted E → (S : List Shape) (i : ℕ) (v : Term) (d d' : Data) → Reads E S i v d → Reads E S i v d' → d ≡ d'
