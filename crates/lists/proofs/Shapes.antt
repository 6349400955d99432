-- What its Rattle type says of an element: 16 name bytes and six masks. So has each element of a list by value.
use Prim.Native.Nat.{ℕ, zero, suc}
use mathlib.Core.List.{List, [], ◌∷◌}
use lib.ListN.{take}
use mir.Val.{Val}
use denote.Shadow.{shadow}
use denote.Laws.{Is}
use denote.Array.{each}
use Rattle.meaning.specs.declared.Element.{Element}
use Rattle.meaning.specs.Claims.Texts.{All}
use Rattle.meaning.specs.Claims.Writing.{Shaped}
use Rattle.meaning.specs.contracts.Element as T
use Rattle.elements.specs.declared.Elements.{Elements}
use Rattle.elements.specs.Listed.{elements_of}
use Rattle.elements.specs.contracts.Elements as B

element_shaped : (e : Element) (vs : List Val) → Is T.the_row e vs → Shaped e
element_shaped e vs is =
    let are = is.1.1 in
    record { name_size = are.1.1.0.1.0.1; masks_size = are.1.1.1.1.1.0.1.0.1; places_size = (are.1.1.1.1.1.1.1.0.1.1.0.1.0.1, (are.1.1.1.1.1.1.1.1.0.1.1.0.1.0.1, tt)) }

each_shaped : (es : List Element) (us : List Val) → shadow (each (T.the_row).Denot (T.the_row).own_val es us) → All Shaped es
each_shaped [] [] s = tt
each_shaped [] (u ∷ us) s = tt
each_shaped (e ∷ es) [] s = absurd s
each_shaped (e ∷ es) (u ∷ us) s = (element_shaped e (u ∷ []) s.0, each_shaped es us s.1)

all_taken : (n : ℕ) (es : List Element) → All Shaped es → All Shaped (take n es)
all_taken zero es a = tt
all_taken (suc n) [] a = tt
all_taken (suc n) (e ∷ es) a = (a.0, all_taken n es a.1)

pub elements_shaped : (l : Elements) (vs : List Val) → Is B.the_row l vs → All Shaped (elements_of l)
elements_shaped l vs is = all_taken l.len l.all (each_shaped l.all is.1.1.0.0 is.1.1.0.1.1)
