-- The form of programs that `to_anf` takes: names are in scope, and counts are within the limits.
use Rattle.std.specs.Prelude.{ℕ, zero, suc, ◌+◌, ◌<◌, ◌≤◌, length}
use Rattle.trees.specs.Tree.{Rel, Done, Next, number}
use Rattle.pc_terms.specs.declared.leaf.Name.{Name}
use Rattle.box_terms.specs.BoxSyntax.{BoxTerm, BoxTerms, Box, BLambda, BLetIn, BApp, BConst, BConstruct, BCase, BFix}
use Rattle.lambda_box.specs.BoxProgram.{BoxConstant, BoxProgram, Has}
use Rattle.anf_convert.specs.AnfForm.{constructors, fields, AnfFormed}
use Rattle.anf_convert.specs.ToAnf.{number_in, to_anf}
use Rattle.anf_convert.specs.ToAnfKeeps.{AreUnder}

-- one more than the number of arguments, where the term is a constructor with arguments, maybe below lets
abbrev pub more_args : ℕ → ℕ
more_args zero = zero
more_args (suc n) = suc (suc n)

abbrev pub constructor_args : BoxTerm → ℕ
constructor_args (BConstruct f c) = 1
constructor_args (BApp f a) = more_args (constructor_args f)
constructor_args (BLetIn a b) = constructor_args b
constructor_args t = 0

-- no branch has more variables of its own than a block has fields
abbrev pub FewBinders : BoxTerms → Type 0
FewBinders Done = Unit {0}
FewBinders (Next j t rest) = (j < fields) × FewBinders rest

module _ (constant : Name → ℕ) (k m : ℕ) where
  -- a term under n variables, where there are k constants and no match has over m branches
  abbrev mutual
    pub TermFits : ℕ → BoxTerm → Type 0
    TermFits n (Rel i) = i < n
    TermFits n Box = Unit {0}
    TermFits n (BLambda b) = TermFits (suc n) b
    TermFits n (BLetIn a b) = TermFits n a × TermFits (suc n) b
    TermFits n (BApp f a) = (constructor_args (BApp f a) ≤ fields) × TermFits n f × TermFits n a
    TermFits n (BConst x) = constant x < k
    TermFits n (BConstruct f c) = c < constructors
    TermFits n (BCase f t bs) = (number bs ≤ m) × FewBinders bs × TermFits n t × TermsFit n bs
    TermFits n (BFix i rargs bodies) = (i < length rargs) × AreUnder (length rargs) rargs bodies × TermsFit n bodies

    -- each under its own variables too
    pub TermsFit : ℕ → BoxTerms → Type 0
    TermsFit n Done = Unit {0}
    TermsFit n (Next j t rest) = TermFits (j + n) t × TermsFit n rest

pub record ProgramFits (P : BoxProgram) (m : ℕ) : Type 0 where
  pub constants : (c : BoxConstant) → Has P.constants c → TermFits (number_in P.constants) (length P.constants) m 0 c.body
  pub main : TermFits (number_in P.constants) (length P.constants) m 0 P.main

-- such a program is translated to one of the form
abbrev pub ToAnfForms : Type 0
ToAnfForms = (P : BoxProgram) (m : ℕ) → ProgramFits P m → AnfFormed (to_anf P) m
