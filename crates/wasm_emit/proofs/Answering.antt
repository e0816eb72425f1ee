-- From runs that end one way to runs that end another, and greater bounds.
use Rattle.std.proofs.Common.{ℕ, ◌+◌, ◌*◌, ◌≤◌, arith}
use Rattle.wasm_core.specs.Parts.{Parts}
use Rattle.wasm_core.specs.MachineStep.{State}
use Rattle.wasm_core.specs.Answer.{Exhausted, exhausted, AnswersWithin}
use Rattle.wasm_core.specs.WordData.{DataNodes as Nodes}
use Rattle.wasm_core.specs.RunTree.{Within as Tree, now, gone, moves}
use Rattle.wasm_emit.specs.EmitLaws.{Spent, spent}

-- other ends
pub forget : {m : Parts} {frames : ℕ} {Q R E F : State → Type 0} → ((t : State) → Q t → R t) → ((t : State) → E t → F t) → {least most : ℕ} {t : State} → Tree m frames Q E least most t → Tree m frames R F least most t
forget f g (now {s = s} q) = now (f s q)
forget f g (gone {s = s} e) = gone (g s e)
forget f g (moves s t deep le x y j k) = moves s t deep le x y (forget f g j) (forget f g k)

pub is_exhausted : (m : Parts) (bytes : ℕ) (t : State) → Spent m bytes t → Exhausted m t
is_exhausted m bytes t (spent h x) = exhausted h

pub steps : (b c' z x : ℕ) → 64 * (b + c' + 1) * x ≤ 64 * (b + (c' + z) + 1) * x
steps b c' z x = omega arith

-- a greater bound
pub longer : {m : Parts} {l u : ℕ} {d : Nodes} → l ≤ u → AnswersWithin m l d → AnswersWithin m u d
longer le a = record { first = a.first; starts = a.starts; bounded = λ k t r. omega (arith, a.bounded k t r); answers = a.answers }
