-- The words of all blocks are at most the number of blocks times the words of the greatest.
use Rattle.std.proofs.Common.{ℕ, ◌*◌, ◌≤◌, List, arith}
use Rattle.anf_convert.specs.Anf.{Atom, AnfOp, AnfBlock, AnfProgram}
use Rattle.anf_convert.specs.Captured.{Scope}
use Rattle.anf_convert.specs.AnfEvaluation.{AnfVal, AnfVals, Gives, give_word, give_fix, give_box, give_empty, GivesAll, give_none, give_more, AnfDoes, op_const, op_app, op_app_box, op_app_fix, op_app_fix_box, op_con, op_lam, op_fix, op_case, AnfGets, block_atom, block_op, block_let, block_bind, AnfAnswers, main_alone, main_applied}
use Rattle.anf_convert.specs.AnfEvaluation.{WordsBound}

gives_bound : {w : ℕ} {s : Scope} {e : AnfVals} {a : Atom} {v : AnfVal} {b l : ℕ} → Gives w s e a v b l → l ≤ b * w
gives_bound (give_word is at) = omega arith
gives_bound (give_fix is at few) = omega arith
gives_bound give_box = omega arith
gives_bound give_empty = omega arith

all_bound : {w : ℕ} {s : Scope} {e : AnfVals} {as' : List Atom} {vs : AnfVals} {b l : ℕ} → GivesAll w s e as' vs b l → l ≤ b * w
all_bound give_none = omega arith
all_bound (give_more h hs) = omega (arith, gives_bound h, all_bound hs)

module _ (P : AnfProgram) (w : ℕ) where
  mutual
    op_bound : {s : Scope} {e : AnfVals} {op : AnfOp} {v : AnfVal} {c k b l : ℕ} → AnfDoes P w s e op v c k b l → l ≤ b * w
    op_bound (op_const at d) = block_bound d
    op_bound (op_app h1 h2 d) = omega (arith, gives_bound h1, gives_bound h2, block_bound d)
    op_bound (op_app_box h1 h2) = omega (arith, gives_bound h1, gives_bound h2)
    op_bound (op_app_fix h1 h2 at d) = omega (arith, gives_bound h1, gives_bound h2, block_bound d)
    op_bound (op_app_fix_box h1 h2 at) = omega (arith, gives_bound h1, gives_bound h2)
    op_bound (op_con hs few) = omega (arith, all_bound hs)
    op_bound (op_lam few) = omega arith
    op_bound (op_fix few) = omega arith
    op_bound (op_case h at d) = omega (arith, gives_bound h, block_bound d)

    block_bound : {s : Scope} {e : AnfVals} {t : AnfBlock} {v : AnfVal} {c k b l : ℕ} → AnfGets P w s e t v c k b l → l ≤ b * w
    block_bound (block_atom h) = gives_bound h
    block_bound (block_op d) = op_bound d
    block_bound (block_let h d) = omega (arith, gives_bound h, block_bound d)
    block_bound (block_bind d1 d2) = omega (arith, op_bound d1, block_bound d2)

  answers_bound : {args : AnfVals} {v : AnfVal} {c k b l : ℕ} → AnfAnswers P w args v c k b l → l ≤ b * w
  answers_bound (main_alone d) = block_bound d
  answers_bound (main_applied m d) = omega (arith, answers_bound m, op_bound d)

pub words_bound : WordsBound
words_bound P w args v c k b l h = answers_bound P w h
