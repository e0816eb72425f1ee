use Rattle.type_infer.proofs.universes.is_sort.Goals as goal

pub returns-in-Sort : goal.returns-in-Sort
returns-in-Sort c = record { sort = λ h. (_, rw c.in-Sort.is at c.view.ensures.is) }
