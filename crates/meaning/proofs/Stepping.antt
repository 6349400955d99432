-- The step to the next request by quotient and remainder; cases, computed.
use mathlib.Core.Path.{◌≡◌, refl}
use Prim.Native.Nat.{ℕ, zero, suc}
use mathlib.Core.List.{List, [], ◌∷◌}
use Rattle.meaning.specs.Deciding.{Request, stepped}

-- the requests met by as many steps
abbrev after : ℕ → List ℕ → Request → List Request
after zero ss q = []
after (suc n) ss q = let next = stepped ss q in next ∷ after n ss next

-- two values, then the three sets of two: request 0 to the last, and request 0 again
pub whole_space : after 6 (2 ∷ 3 ∷ []) (0 ∷ 0 ∷ []) ≡ (0 ∷ 1 ∷ []) ∷ (0 ∷ 2 ∷ []) ∷ (1 ∷ 0 ∷ []) ∷ (1 ∷ 1 ∷ []) ∷ (1 ∷ 2 ∷ []) ∷ (0 ∷ 0 ∷ []) ∷ []
whole_space = refl

-- one request in all
pub one_request : after 2 (1 ∷ []) (0 ∷ []) ≡ (0 ∷ []) ∷ (0 ∷ []) ∷ []
one_request = refl

-- attributes of one value first, in the middle and last: what comes in is carried on
pub one_value : after 3 (1 ∷ 3 ∷ 1 ∷ 1 ∷ 2 ∷ 1 ∷ []) (0 ∷ 1 ∷ 0 ∷ 0 ∷ 1 ∷ 0 ∷ []) ≡ (0 ∷ 2 ∷ 0 ∷ 0 ∷ 0 ∷ 0 ∷ []) ∷ (0 ∷ 2 ∷ 0 ∷ 0 ∷ 1 ∷ 0 ∷ []) ∷ (0 ∷ 0 ∷ 0 ∷ 0 ∷ 0 ∷ 0 ∷ []) ∷ []
one_value = refl

-- request 3,839 to 3,840, which carries over two attributes, and 4,095 to 0
pub carried_over : after 1 (16 ∷ 16 ∷ 16 ∷ []) (14 ∷ 15 ∷ 15 ∷ []) ≡ (15 ∷ 0 ∷ 0 ∷ []) ∷ []
carried_over = refl

pub all_carried : after 1 (16 ∷ 16 ∷ 16 ∷ []) (15 ∷ 15 ∷ 15 ∷ []) ≡ (0 ∷ 0 ∷ 0 ∷ []) ∷ []
all_carried = refl

-- the sets of 12 values, the last but one, the last, the first
pub sets_of_twelve : after 3 (4095 ∷ []) (4092 ∷ []) ≡ (4093 ∷ []) ∷ (4094 ∷ []) ∷ (0 ∷ []) ∷ []
sets_of_twelve = refl
