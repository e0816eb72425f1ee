-- How the logic stores a term.
use Rattle.std.specs.Prelude.{◌≡◌, ℕ, List}
use Rattle.std.proofs.Common.{ap, refl}
use Rattle.std.specs.Coded.{Coded, coded_ℕ, coded_list, coded×}
use base.Stored.{Gv, gnil, gnum, gcons}
use Rattle.dump_grammar.specs.Named.{NamedSort, AProp, AType, Named, Rel, Sort, Prod, Lambda, LetIn, App, Const, Ind, Construct, Case, Fix, NamedTerms, NoTerm, OneTerm, NamedBranches, NoBranch, OneBranch, NamedDefs, NoDef, OneDef}

-- tags, made of constructors, which `cc` tells apart
abbrev pub mark : Gv → Gv
mark g = gcons gnil g

abbrev pub t0 : Gv
t0 = gnil

abbrev pub t1 : Gv
t1 = mark t0

abbrev pub t2 : Gv
t2 = mark t1

abbrev pub t3 : Gv
t3 = mark t2

abbrev pub t4 : Gv
t4 = mark t3

abbrev pub t5 : Gv
t5 = mark t4

abbrev pub t6 : Gv
t6 = mark t5

abbrev pub t7 : Gv
t7 = mark t6

abbrev pub t8 : Gv
t8 = mark t7

abbrev pub t9 : Gv
t9 = mark t8

abbrev pub t10 : Gv
t10 = mark t9

abbrev pub coded_name : Coded (List ℕ)
coded_name = coded_list coded_ℕ

abbrev pub coded_parts : Coded (List (List ℕ × ℕ))
coded_parts = coded_list (coded× coded_name coded_ℕ)

abbrev pub code_sort : NamedSort → Gv
code_sort AProp = t0
code_sort (AType ps) = gcons t1 (coded_parts.code ps)

pub code_sort-inj : (x y : NamedSort) → code_sort x ≡ code_sort y → x ≡ y
code_sort-inj AProp AProp p = refl
code_sort-inj (AType ps) (AType qs) p = ap AType (coded_parts.inj ps qs (cc))
code_sort-inj _ _ p = cc

abbrev mutual
  pub code : Named → Gv
  code (Rel n) = gcons t0 (gnum n)
  code (Sort s) = gcons t1 (code_sort s)
  code (Prod a b) = gcons t2 (gcons (code a) (code b))
  code (Lambda a b) = gcons t3 (gcons (code a) (code b))
  code (LetIn a b c) = gcons t4 (gcons (code a) (gcons (code b) (code c)))
  code (App a b) = gcons t5 (gcons (code a) (code b))
  code (Const k) = gcons t6 (coded_name.code k)
  code (Ind k n) = gcons t7 (gcons (coded_name.code k) (gnum n))
  code (Construct k n c) = gcons t8 (gcons (coded_name.code k) (gcons (gnum n) (gnum c)))
  code (Case k n ps m r s bs) = gcons t9 (gcons (coded_name.code k) (gcons (gnum n) (gcons (code_terms ps) (gcons (gnum m) (gcons (code r) (gcons (code s) (code_branches bs)))))))
  code (Fix ds i) = gcons t10 (gcons (code_defs ds) (gnum i))

  pub code_terms : NamedTerms → Gv
  code_terms NoTerm = gnil
  code_terms (OneTerm t more) = gcons (code t) (code_terms more)

  pub code_branches : NamedBranches → Gv
  code_branches NoBranch = gnil
  code_branches (OneBranch n b more) = gcons (gnum n) (gcons (code b) (code_branches more))

  pub code_defs : NamedDefs → Gv
  code_defs NoDef = gnil
  code_defs (OneDef a b n more) = gcons (code a) (gcons (code b) (gcons (gnum n) (code_defs more)))

-- What is stored in the same way is the same, for each part that is.
abbrev pub Same : Named → Type 0
Same a = (x : Named) → code a ≡ code x → a ≡ x

rel-inj : (n : ℕ) → Same (Rel n)
rel-inj n (Rel m) p = cc
rel-inj n _ p = cc

sort-inj : (s : NamedSort) → Same (Sort s)
sort-inj s (Sort s') p = ap Sort (code_sort-inj s s' (cc))
sort-inj s _ p = cc

prod-inj : (a b : Named) → Same a → Same b → Same (Prod a b)
prod-inj a b f g (Prod a' b') p = cc (f a' (cc), g b' (cc))
prod-inj a b f g _ p = cc

lambda-inj : (a b : Named) → Same a → Same b → Same (Lambda a b)
lambda-inj a b f g (Lambda a' b') p = cc (f a' (cc), g b' (cc))
lambda-inj a b f g _ p = cc

let-inj : (a b c : Named) → Same a → Same b → Same c → Same (LetIn a b c)
let-inj a b c f g h (LetIn a' b' c') p = cc (f a' (cc), g b' (cc), h c' (cc))
let-inj a b c f g h _ p = cc

app-inj : (a b : Named) → Same a → Same b → Same (App a b)
app-inj a b f g (App a' b') p = cc (f a' (cc), g b' (cc))
app-inj a b f g _ p = cc

const-inj : (k : List ℕ) → Same (Const k)
const-inj k (Const k') p = ap Const (coded_name.inj k k' (cc))
const-inj k _ p = cc

ind-inj : (k : List ℕ) (n : ℕ) → Same (Ind k n)
ind-inj k n (Ind k' n') p = cc (coded_name.inj k k' (cc))
ind-inj k n _ p = cc

construct-inj : (k : List ℕ) (n c : ℕ) → Same (Construct k n c)
construct-inj k n c (Construct k' n' c') p = cc (coded_name.inj k k' (cc))
construct-inj k n c _ p = cc

abbrev pub SameTerms : NamedTerms → Type 0
SameTerms a = (x : NamedTerms) → code_terms a ≡ code_terms x → a ≡ x

abbrev pub SameBranches : NamedBranches → Type 0
SameBranches a = (x : NamedBranches) → code_branches a ≡ code_branches x → a ≡ x

abbrev pub SameDefs : NamedDefs → Type 0
SameDefs a = (x : NamedDefs) → code_defs a ≡ code_defs x → a ≡ x

case-inj : (k : List ℕ) (n : ℕ) (ps : NamedTerms) (m : ℕ) (r s : Named) (bs : NamedBranches) → SameTerms ps → Same r → Same s → SameBranches bs → Same (Case k n ps m r s bs)
case-inj k n ps m r s bs f g h l (Case k' n' ps' m' r' s' bs') p =
    let names : coded_name.code k ≡ coded_name.code k' = cc in
    let family : n ≡ n' = cc in
    let params : code_terms ps ≡ code_terms ps' = cc in
    let binders : m ≡ m' = cc in
    let ret : code r ≡ code r' = cc in
    let scrut : code s ≡ code s' = cc in
    let branches : code_branches bs ≡ code_branches bs' = cc in
    λ i. Case (coded_name.inj k k' names i) (family i) (f ps' params i) (binders i) (g r' ret i) (h s' scrut i) (l bs' branches i)
case-inj k n ps m r s bs f g h l _ p = cc

fix-inj : (ds : NamedDefs) (i : ℕ) → SameDefs ds → Same (Fix ds i)
fix-inj ds i f (Fix ds' i') p = cc (f ds' (cc))
fix-inj ds i f _ p = cc

one_term-inj : (t : Named) (more : NamedTerms) → Same t → SameTerms more → SameTerms (OneTerm t more)
one_term-inj t more f g (OneTerm t' more') p = cc (f t' (cc), g more' (cc))
one_term-inj t more f g _ p = cc

no_term-inj : SameTerms NoTerm
no_term-inj NoTerm p = refl
no_term-inj _ p = cc

one_branch-inj : (n : ℕ) (b : Named) (more : NamedBranches) → Same b → SameBranches more → SameBranches (OneBranch n b more)
one_branch-inj n b more f g (OneBranch n' b' more') p = cc (f b' (cc), g more' (cc))
one_branch-inj n b more f g _ p = cc

no_branch-inj : SameBranches NoBranch
no_branch-inj NoBranch p = refl
no_branch-inj _ p = cc

one_def-inj : (a b : Named) (n : ℕ) (more : NamedDefs) → Same a → Same b → SameDefs more → SameDefs (OneDef a b n more)
one_def-inj a b n more f g h (OneDef a' b' n' more') p = cc (f a' (cc), g b' (cc), h more' (cc))
one_def-inj a b n more f g h _ p = cc

no_def-inj : SameDefs NoDef
no_def-inj NoDef p = refl
no_def-inj _ p = cc

mutual
  pub code-inj : (x y : Named) → code x ≡ code y → x ≡ y
  code-inj (Rel n) = rel-inj n
  code-inj (Sort s) = sort-inj s
  code-inj (Prod a b) = prod-inj a b (code-inj a) (code-inj b)
  code-inj (Lambda a b) = lambda-inj a b (code-inj a) (code-inj b)
  code-inj (LetIn a b c) = let-inj a b c (code-inj a) (code-inj b) (code-inj c)
  code-inj (App a b) = app-inj a b (code-inj a) (code-inj b)
  code-inj (Const k) = const-inj k
  code-inj (Ind k n) = ind-inj k n
  code-inj (Construct k n c) = construct-inj k n c
  code-inj (Case k n ps m r s bs) = case-inj k n ps m r s bs (code_terms-inj ps) (code-inj r) (code-inj s) (code_branches-inj bs)
  code-inj (Fix ds i) = fix-inj ds i (code_defs-inj ds)

  pub code_terms-inj : (x y : NamedTerms) → code_terms x ≡ code_terms y → x ≡ y
  code_terms-inj NoTerm = no_term-inj
  code_terms-inj (OneTerm t more) = one_term-inj t more (code-inj t) (code_terms-inj more)

  pub code_branches-inj : (x y : NamedBranches) → code_branches x ≡ code_branches y → x ≡ y
  code_branches-inj NoBranch = no_branch-inj
  code_branches-inj (OneBranch n b more) = one_branch-inj n b more (code-inj b) (code_branches-inj more)

  pub code_defs-inj : (x y : NamedDefs) → code_defs x ≡ code_defs y → x ≡ y
  code_defs-inj NoDef = no_def-inj
  code_defs-inj (OneDef a b n more) = one_def-inj a b n more (code-inj a) (code-inj b) (code_defs-inj more)

abbrev pub coded_named : Coded Named
coded_named = record { code = code; inj = code-inj }
