-- The text of a number: booleans, three functions on them, and a chain of constants.
use Rattle.std.specs.Prelude.{ℕ, zero, suc, ◌+◌, ◌*◌, ◌/◌, ◌%◌, List, [], ◌++◌, codes, decimal}

-- the number after this one of the sequence
abbrev pub next : ℕ → ℕ
next x = (1103515245 * x + 12345) % 2147483648

-- which of the three bodies a number of the sequence chooses
abbrev pub choice : ℕ → ℕ
choice x = (x / 65536) % 3

abbrev pub booleans : List ℕ
booleans = codes "(InductiveDecl bool (params) (family bool (sort Set) (indices) (ctor true (args) (result)) (ctor false (args) (result))))\n"

abbrev pub negation : List ℕ
negation =
    codes "(ConstantDecl negb (tProd a (tInd bool 0) (tInd bool 0)) (tLambda a (tInd bool 0) (tCase (bool 0) (params) (pred (x) (tInd bool 0)) (tRel 0) (br () (tConstruct bool 0 1)) (br () (tConstruct bool 0 0)))))\n"

abbrev pub conjunction : List ℕ
conjunction =
    codes "(ConstantDecl andb (tProd a (tInd bool 0) (tProd b (tInd bool 0) (tInd bool 0))) (tLambda a (tInd bool 0) (tLambda b (tInd bool 0) (tCase (bool 0) (params) (pred (x) (tInd bool 0)) (tRel 1) (br () (tRel 0)) (br () (tConstruct bool 0 1))))))\n"

abbrev pub exclusive : List ℕ
exclusive =
    codes "(ConstantDecl xorb (tProd a (tInd bool 0) (tProd b (tInd bool 0) (tInd bool 0))) (tLambda a (tInd bool 0) (tLambda b (tInd bool 0) (tCase (bool 0) (params) (pred (x) (tInd bool 0)) (tRel 1) (br () (tApp (tConst negb) (tRel 0))) (br () (tRel 0))))))\n"

-- the constant with the number 0 is true
abbrev pub first : List ℕ
first = codes "(ConstantDecl c0 (tInd bool 0) (tConstruct bool 0 0))\n"

abbrev pub front : List ℕ
front = codes "(env 1 (levels) (constraints)\n" ++ (booleans ++ (negation ++ (conjunction ++ (exclusive ++ first))))

-- negb p, andb true p or xorb p true, where p is the constant with this number
abbrev pub body_text : ℕ → ℕ → List ℕ
body_text zero p = codes "(tApp (tConst negb) (tConst c" ++ (decimal p ++ codes "))")
body_text (suc zero) p = codes "(tApp (tConst andb) (tConstruct bool 0 0) (tConst c" ++ (decimal p ++ codes "))")
body_text (suc (suc k)) p = codes "(tApp (tConst xorb) (tConst c" ++ (decimal p ++ codes ") (tConstruct bool 0 0))")

-- the constant with the last number, whose body names the one with the number before
abbrev pub constant_text : ℕ → ℕ → ℕ → List ℕ
constant_text which p i = codes "(ConstantDecl c" ++ (decimal i ++ (codes " (tInd bool 0) " ++ (body_text which p ++ codes ")\n")))

-- so many constants behind the one with the number p, from the number x of the sequence on
abbrev pub constants_text : ℕ → ℕ → ℕ → List ℕ
constants_text zero p x = []
constants_text (suc k) p x = constant_text (choice (next x)) p (p + 1) ++ constants_text k (p + 1) (next x)

abbrev pub main_text : ℕ → List ℕ
main_text n = codes "(main (tConst c" ++ (decimal n ++ codes ")))\n")

abbrev pub text_of : ℕ → List ℕ
text_of n = front ++ (constants_text n 0 n ++ main_text n)
