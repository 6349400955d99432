-- The elements of a list by value.
use Rattle.std.specs.Prelude.{◌+◌, List, take, set, replicate}
use Rattle.meaning.specs.declared.Kind.TheVariants.{Rule}
use Rattle.meaning.specs.declared.Word.TheVariants.{Permit}
use Rattle.meaning.specs.declared.Element.{Element}
use Rattle.meaning.specs.Model.{unused}
use Rattle.elements.specs.declared.Elements.{Elements}

-- what stands at a place that holds no element yet
abbrev pub blank : Element
blank = record { kind = Rule; depth = 0; name = replicate 16 0; len = 0; word = Permit; masks = replicate 6 0; obligations = 0; first = unused; second = unused }

abbrev pub no_elements : Elements
no_elements = record { all = replicate 65 blank; len = 0 }

-- one element more
abbrev pub with_element : Elements → Element → Elements
with_element l e = record { all = set l.all l.len e; len = l.len + 1 }

-- the elements themselves
abbrev pub elements_of : Elements → List Element
elements_of l = take l.len l.all
