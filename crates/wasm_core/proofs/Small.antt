-- Equations of optional values.
use Rattle.std.proofs.Common.{◌≡◌, Option, Some, None, refl, Bool, true, false}
use Rattle.std.specs.Option.{option_and_then, option_map}
use Rattle.std.proofs.lemmas.Option.{same_Some}
use Rattle.wasm_core.specs.ModuleTyping.{when}

pub no : {A B : Type 0} {x : A} → ◌≡◌ {A = Option A} None (Some x) → B
no h = cc

pub some_of : {A B : Type 0} (f : A → Option B) (o : Option A) (y : B) → option_and_then f o ≡ Some y → (x : A) × (o ≡ Some x) × (f x ≡ Some y)
some_of f None y e = no e
some_of f (Some x) y e = (x, refl, e)

pub map_of : {A B : Type 0} (f : A → B) (o : Option A) (y : B) → option_map f o ≡ Some y → (x : A) × (o ≡ Some x) × (f x ≡ y)
map_of f None y e = no e
map_of f (Some x) y e = (x, refl, same_Some _ _ e)

pub when_of : {A : Type 0} (b : Bool) (x y : A) → when b x ≡ Some y → (b ≡ true) × (x ≡ y)
when_of true x y e = (refl, same_Some _ _ e)
when_of false x y e = no e
