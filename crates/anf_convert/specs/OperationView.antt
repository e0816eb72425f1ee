-- What an operation that is no atom is seen as.
use Rattle.anf_convert.specs.Anf.{AnfOp, ConstOp, AnfBinding, AtomIs, OpIs}

-- an atom stands for nothing here
abbrev pub operation_of : AnfBinding → AnfOp
operation_of (OpIs op) = op
operation_of (AtomIs a) = ConstOp 0
