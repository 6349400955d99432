-- The policy of a joined text, by the two policies that it joins: a set over the elements of both, each one deeper.
use mathlib.Core.Path.{◌≡◌}
use Prim.Native.Nat.{ℕ, suc}
use mathlib.Core.Bool.{cond}
use mathlib.Core.List.{List, [], ◌∷◌, ◌++◌, map}
use lib.ListN.{get_or}
use Rattle.laws.proofs.Types.{Word, Element}
use Rattle.meaning.specs.Model.{Attribute, obligations_of, padded, Policy, full}
use Rattle.meaning.specs.Joining.{declared, both, place_in}
use Rattle.meaning.specs.Claims.Texts.{Paired}

-- Masks for other attributes: a file's own mask where it declares the name, else all values
abbrev pub mask_for : (own : List Attribute) (masks : List ℕ) → Attribute → ℕ
mask_for own ms c = cond (declared own c.name) (get_or ms (place_in own c.name) 0) (full c.values)

-- An element of a file with attributes `own`, and that element in the joined file
pub record Raised (attrs own : List Attribute) (e raised : Element) : Type 0 where
  pub depth : raised.depth ≡ suc e.depth
  pub word : raised.word ≡ e.word
  pub obligations : obligations_of raised ≡ obligations_of e
  pub masks : raised.masks ≡ padded 6 (map (mask_for own e.masks) attrs)

pub record JoinedPolicy (w : Word) (p q joined : Policy) : Type 0 where
  pub attributes : joined.attributes ≡ both p.attributes q.attributes
  pub root : Element
  pub of_first : List Element
  pub of_second : List Element
  pub elements : joined.elements ≡ root ∷ (of_first ++ of_second)
  pub root_depth : root.depth ≡ 0
  pub root_word : root.word ≡ w
  pub root_obligations : obligations_of root ≡ []
  pub root_masks : root.masks ≡ padded 6 (map (λ c. full c.values) joined.attributes)
  pub first_raised : Paired (Raised joined.attributes p.attributes) p.elements of_first
  pub second_raised : Paired (Raised joined.attributes q.attributes) q.elements of_second
