-- The combining algorithms on words: bit v of what the formulas give is what the algorithm gives of the two replies' bits.
use mathlib.Core.Path.{◌≡◌}
use Prim.Native.Nat.{ℕ}
use mathlib.Core.Bool.{not, ◌&&◌}
use mathlib.Core.List.{[], ◌∷◌}
use lib.Bits.{bit_and, bit_or}
use Rattle.meaning.specs.declared.Word.TheVariants.{DenyOverrides, PermitOverrides, FirstApplicable, OnlyOneApplicable}
use Rattle.meaning.specs.Deciding.{bit, combined}
use Rattle.laws.proofs.Bits.{bit_and_lem, bit_or_lem}
use Rattle.decisions.specs.Replies.{next_of}
use Rattle.blocks.specs.Bits.{decision_by}
use Rattle.blocks.proofs.Combining.{deny_bits, permit_bits, first_bits, only_one_bits}

-- w has the bits of x that y does not have, at v
abbrev Less : ℕ → ℕ → ℕ → ℕ → Type 0
Less v w x y = bit w v ≡ (bit x v && not (bit y v))

-- Two replies, permitting p and cp, denying d and cd
module _ (p d cp cd v : ℕ) where
  pub deny_words : (w : ℕ) → Less v w (bit_or p cp) (bit_or d cd) → decision_by (bit w v) (bit (bit_or d cd) v) ≡ next_of DenyOverrides (decision_by (bit p v) (bit d v)) (decision_by (bit cp v) (bit cd v))
  deny_words w e = rw (e, bit_or_lem p cp v, bit_or_lem d cd v) (deny_bits (bit p v) (bit d v) (bit cp v) (bit cd v))

  pub permit_words : (a b x y s t : ℕ) → Less v a p d → Less v b cp cd → Less v x d p → Less v y cd cp → Less v s (bit_or p cp) (bit_or x y) → Less v t (bit_or d cd) (bit_or a b)
      → decision_by (bit (bit_or (bit_or a b) s) v) (bit t v) ≡ next_of PermitOverrides (decision_by (bit p v) (bit d v)) (decision_by (bit cp v) (bit cd v))
  permit_words a b x y s t ea eb ex ey es et =
      rw (bit_or_lem (bit_or a b) s v, es, et, bit_or_lem a b v, bit_or_lem x y v, ea, eb, ex, ey, bit_or_lem p cp v, bit_or_lem d cd v) (permit_bits (bit p v) (bit d v) (bit cp v) (bit cd v))

  pub first_words : (x y : ℕ) → Less v x cp (bit_or p d) → Less v y cd (bit_or p d)
      → decision_by (bit (bit_or p x) v) (bit (bit_or d y) v) ≡ next_of FirstApplicable (decision_by (bit p v) (bit d v)) (decision_by (bit cp v) (bit cd v))
  first_words x y ex ey = rw (bit_or_lem p x v, bit_or_lem d y v, ex, ey, bit_or_lem p d v) (first_bits (bit p v) (bit d v) (bit cp v) (bit cd v))

  -- and matching m and cm
  module _ (m cm : ℕ) where
    pub only_one_words : (x y : ℕ) → Less v x m (bit_and m cm) → Less v y cm (bit_and m cm)
        → decision_by (bit (bit_or (bit_and m cm) (bit_or (bit_and p x) (bit_and cp y))) v) (bit (bit_or (bit_and m cm) (bit_or (bit_and d x) (bit_and cd y))) v)
        ≡ combined OnlyOneApplicable (record { matched = bit m v; decision = decision_by (bit p v) (bit d v) } ∷ record { matched = bit cm v; decision = decision_by (bit cp v) (bit cd v) } ∷ [])
    only_one_words x y ex ey =
        rw (
          bit_or_lem (bit_and m cm) (bit_or (bit_and p x) (bit_and cp y)) v,
          bit_or_lem (bit_and m cm) (bit_or (bit_and d x) (bit_and cd y)) v,
          bit_or_lem (bit_and p x) (bit_and cp y) v,
          bit_or_lem (bit_and d x) (bit_and cd y) v,
          bit_and_lem p x v,
          bit_and_lem cp y v,
          bit_and_lem d x v,
          bit_and_lem cd y v,
          ex,
          ey,
          bit_and_lem m cm v,
        )
        (only_one_bits (bit m v) (bit cm v) (bit p v) (bit d v) (bit cp v) (bit cd v))
