-- Stamps of longer contexts.
use Rattle.std.proofs.Common.{◌≡◌, ◌∙◌, ℕ, zero, suc, ◌+◌, ◌-◌, sym, ap, subst, List, [], ◌∷◌, ◌++◌, length, take, refl, arith, Option, Some, None, IfSome}
use Rattle.std.specs.declared.alloc.Global.{Global}
use Rattle.std.specs.declared.rc.Rc.{Rc}
use Rattle.std.proofs.lemmas.List.{length-append}
use Rattle.calculus_rules.specs.declared.entry.Entry.{Entry}
use Rattle.calculus_rules.specs.Environment.{Env}
use Rattle.calculus_rules.specs.Context.{Context}
use Rattle.known_types.specs.Sites.{Longer, IsLonger, IsWorldOf, AreWorldsOf, context_number}
use Rattle.known_types.specs.declared.world.World.{World}
use Rattle.known_types.proofs.Longer.{same_longer}
use Rattle.known_types.proofs.Numbers.{context_found}

pub some_like : {A : Type 0} (r : Option A) (P Q : A → Type 0) → ((a : A) → P a → Q a) → IfSome r P → IfSome r Q
some_like None P Q h p = tt
some_like (Some a) P Q h p = h a p

-- stamps that were kept are those of the context that is asked for
pub longer_again : (u v w x : World) (n k : ℕ) (d e : Context) → IsLonger u w n d → x ≡ w → u.env ≡ v.env → u.ctx ≡ v.ctx → n ≡ k → take k d ≡ take k e →
    (E : Env) (c : Context) (es : List Entry) → IsWorldOf v E c → e ≡ es ++ c → length es ≡ k → IsWorldOf x E e
longer_again u v w x n k d e h y o p nk t E c es i q l =
    let g = h.2 c (p ∙ i.1) in
    let same : d ≡ e = same_longer c d e g.0 es k g.1 q (g.2 ∙ nk) l t in
    rw y (h.0 ∙ o ∙ i.0, h.1 ∙ ap context_number same)

-- how many entries a context has more
pub count_is : (c d : Context) (h : Longer c d) → length h.0 ≡ length d - length c
count_is c d h = let e = ap length h.1 ∙ length-append h.0 c in omega (arith, e)

nothing_more : (es : List Entry) (c : Context) → length es ≡ zero → es ++ c ≡ c
nothing_more [] c e = refl
nothing_more (x ∷ es) c e = absurd (omega (arith, e))

pub none_longer : (c d : Context) → Longer c d → length d - length c ≡ 0 → d ≡ c
none_longer c d h e = h.1 ∙ nothing_more h.0 c (count_is c d h ∙ e)

-- stamps of a context and of a longer one
pub longer_from : (v w : World) (E : Env) (c d : Context) (n : ℕ) → Longer c d → n ≡ length d - length c → IsWorldOf v E c → IsWorldOf w E d → IsLonger v w n d
longer_from v w E c d n h e x y =
    (y.0 ∙ sym x.0, y.1, λ b p. let s : c ≡ b = context_found c b (sym x.1 ∙ p) in (h.0, h.1 ∙ ap (λ z. h.0 ++ z) s, count_is c d h ∙ sym e))

pub worlds_shared : (r : Option (Rc World Global)) (v : World) (E : Env) (c : Context) → IfSome r (λ w. w.value ≡ v) → IsWorldOf v E c → AreWorldsOf r E c
worlds_shared None v E c h x = tt
worlds_shared (Some w) v E c h x = rw h x

pub worlds_made : (r : Option (Rc World Global)) (E : Env) (c : Context) → IfSome r (λ w. IsWorldOf w.value E c) → AreWorldsOf r E c
worlds_made None E c h = tt
worlds_made (Some w) E c h = h
