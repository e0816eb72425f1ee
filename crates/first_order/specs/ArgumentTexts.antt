-- Which data the tokens of a text of arguments spell: `(args d d)`, where each d is a constructor's name alone, or in brackets before its arguments. The types say which constructors
-- stand where: each argument is data at the first type of a set of its own. It is this project's own.
use Rattle.std.specs.Prelude.{◌≡◌, ◌≢◌, ℕ, suc, List, [], ◌∷◌, ◌++◌, length, Bool, false, bytes_eq, if◌then◌else◌, Option, Some, None, slice_get}
use Rattle.sexp_reader.specs.Text.{Text, Open, Close, Atom}
use Rattle.dump_grammar.specs.declared.keyword.Keyword.TheVariants as words
use Rattle.dump_grammar.specs.Numbers.{word}
use Rattle.calculus_rules.specs.FirstOrder.{Data}
use Rattle.calculus_rules.specs.Lookups.{if_some}
use Rattle.first_order.specs.declared.shapes.Shape.{Shape}
use Rattle.first_order.specs.declared.shapes.ShapeCtor.{ShapeCtor}

-- ---- the constructor of a name

abbrev pub is_text : List ℕ → Option (List ℕ) → Bool
is_text a None = false
is_text a (Some t) = bytes_eq t a

-- the first of these constructors that has the name: its number, where the first of them has number c, and the places of its arguments' types
unfoldable pub ctor_from : (names : List (List ℕ)) → (name : List ℕ) → (c : ℕ) → List ShapeCtor → Option (ℕ × List ℕ)
ctor_from names a c [] = None
ctor_from names a c (k ∷ ks) = if is_text a (slice_get names k.name.0) then Some (c, k.args) else ctor_from names a (suc c) ks

-- the constructor of a name at a type, by the type's place
abbrev pub ctor_at : (names : List (List ℕ)) → List Shape → ℕ → (name : List ℕ) → Option (ℕ × List ℕ)
ctor_at names S i a = if_some (slice_get S i) (λ h. ctor_from names a 0 h.ctors)

-- ---- what tokens spell

mutual
  -- data at a place
  pub data SpellsItem (names : List (List ℕ)) (S : List Shape) : ℕ → List Text → Data → Type 0 where
    name_alone : {i c : ℕ} {a : List ℕ} → ctor_at names S i a ≡ Some (c, []) → SpellsItem names S i (Atom a ∷ []) ((c, 0) ∷ [])
    in_brackets : {i c j : ℕ} {a js : List ℕ} {ts : List Text} {ds : Data} → ctor_at names S i a ≡ Some (c, j ∷ js) → SpellsItems names S (j ∷ js) ts ds →
        SpellsItem names S i (Open ∷ Atom a ∷ (ts ++ Close ∷ [])) ((c, suc (length js)) ∷ ds)

  -- data at several places, one behind the other
  pub data SpellsItems (names : List (List ℕ)) (S : List Shape) : List ℕ → List Text → Data → Type 0 where
    no_item : SpellsItems names S [] [] []
    one_item : {j : ℕ} {js : List ℕ} {ts us : List Text} {d ds : Data} → SpellsItem names S j ts d → SpellsItems names S js us ds →
        SpellsItems names S (j ∷ js) (ts ++ us) (d ++ ds)

-- the arguments, each at the first type of its own set
pub data SpellsEach (names : List (List ℕ)) : List (List Shape) → List Text → List Data → Type 0 where
  no_argument : SpellsEach names [] [] []
  one_argument : {S : List Shape} {Ss : List (List Shape)} {ts us : List Text} {d : Data} {ds : List Data} → SpellsItem names S 0 ts d → SpellsEach names Ss us ds →
      SpellsEach names (S ∷ Ss) (ts ++ us) (d ∷ ds)

-- These tokens spell these arguments, one at least.
abbrev pub SpellsArguments : (names : List (List ℕ)) → List (List Shape) → List Text → List Data → Type 0
SpellsArguments names Ss ts ds = (Ss ≢ []) × (us : List Text) × (ts ≡ Open ∷ word words.Args ∷ (us ++ Close ∷ [])) × SpellsEach names Ss us ds
