-- What the broken rules are in words, and the labels of what their refusals keep.
use Rattle.std.specs.Prelude.{ℕ, List, codes}
use Rattle.pc_rules.specs.declared.broken.Broken.{Broken}
use Rattle.pc_rules.specs.declared.broken.Broken.TheVariants as broken

-- the rule that is broken
unfoldable pub words_of : Broken → List ℕ
words_of (broken.UnboundRel i n) = codes "a variable has no binder"
words_of (broken.UnknownName k) = codes "nothing that fits is declared by this name before"
words_of (broken.BadNumber i n) = codes "no family or constructor has this number"
words_of (broken.LevelUndeclared l) = codes "a level is not declared"
words_of (broken.UniverseCycle cs) = codes "no levels meet these constraints together"
words_of (broken.NotASort t) = codes "a type is asked for, and a term of another type stands there"
words_of (broken.NotAProduct t) = codes "a function is asked for, and a term of another type stands there"
words_of (broken.NotBelow c) = codes "the type found is not the type asked for"
words_of (broken.CountWrong w g) = codes "the number of parameters, names, branches or indices is wrong"
words_of (broken.NotTheFamily t) = codes "the scrutinee's type is not the match's family with all its arguments"
words_of (broken.ElimNotAllowed f) = codes "a match on a family in Prop has a sort that it may not have"
words_of (broken.NotEnoughAbstractions d) = codes "the body of a definition of a fixpoint begins with too few lambdas"
words_of (broken.NotGuarded t) = codes "a recursive call has too few arguments or one that is not smaller, or a body begins with too few lambdas"
words_of (broken.NotPositive f c) = codes "a constructor is not strictly positive"
words_of (broken.SortTooSmall s r) = codes "the sort of a constructor's argument is greater than its family's"
words_of (broken.DuplicateName k) = codes "the name is declared before"
words_of (broken.RecArgNotInductive t) = codes "the type of a recursive argument is no family"
