-- A loop that stores what each number gives: the text so far, and one more.
use mathlib.Core.Path.{◌≡◌, refl, sym, ap, ◌∙◌, subst}
use Prim.Native.Nat.{ℕ, zero, suc, ◌+◌, ◌-◌, ◌*◌, ◌≤◌}
use native.Mathlib.Nat.{zero-add, mul-suc}
use native.Mathlib.Omega.{arith}
use mathlib.Core.List.{List, [], ◌∷◌, ◌++◌, append_assoc, append-nil}
use lib.ListN.{length, take, get_or}
use Rattle.meaning.specs.Text.{Bytes, gathered, counting}
use Rattle.printing.specs.declared.Sink.{Sink}
use Rattle.printing.specs.Puts.{Puts}
use Rattle.printing.proofs.Laws.{then, nothing, same_text}

pub gathered_last : (F : ℕ → Bytes) (a k : ℕ) → gathered F (counting a (suc k)) ≡ gathered F (counting a k) ++ F (a + k)
gathered_last F a zero = let here : a + 0 ≡ a = omega arith in rw here (append-nil (F a))
gathered_last F a (suc k) =
    let next : suc a + k ≡ a + suc k = omega arith in
    ap (λ t. F a ++ t) (gathered_last F (suc a) k ∙ ap (λ m. gathered F (counting (suc a) k) ++ F m) next) ∙ sym (append_assoc (F a) (gathered F (counting (suc a) k)) (F (a + suc k)))

-- so many numbers and so many behind them
pub gathered_more : (F : ℕ → Bytes) (a m k : ℕ) → gathered F (counting a (m + k)) ≡ gathered F (counting a m) ++ gathered F (counting (a + m) k)
gathered_more F a zero k = let here : a + 0 ≡ a = omega arith in rw (zero-add k, here)
gathered_more F a (suc m) k =
    let next : suc m + k ≡ suc (m + k) = omega arith in
    let behind : suc a + m ≡ a + suc m = omega arith in
    rw next (ap (λ t. F a ++ t) (gathered_more F (suc a) m k ∙ ap (λ n. gathered F (counting (suc a) m) ++ gathered F (counting n k)) behind) ∙ sym (append_assoc (F a) (gathered F (counting (suc a) m)) (gathered F (counting (a + suc m) k))))

-- the texts of the numbers from a up to i, of at most so many bytes each, put into a sink
pub record Sofar (F : ℕ → Bytes) (most a : ℕ) (begin : Sink) (i : ℕ) (end : Sink) : Type 0 where
  pub from : a ≤ i
  pub text : Puts begin (gathered F (counting a (i - a))) end
  pub within : end.at ≤ begin.at + most * (i - a)

module _ {F : ℕ → Bytes} {most a : ℕ} {begin : Sink} where
  pub begun : Sofar F most a begin a begin
  begun = let none : a - a ≡ 0 = omega arith in record { from = omega arith; text = rw none (nothing begin); within = omega arith }

  module _ {i : ℕ} {b : Sink} (sofar : Sofar F most a begin i b) where
    one_more : i + 1 - a ≡ suc (i - a)
    one_more = omega (arith, sofar.from)

    text_more : gathered F (counting a (i - a)) ++ F i ≡ gathered F (counting a (i + 1 - a))
    text_more =
        let here : a + (i - a) ≡ i = omega (arith, sofar.from) in
        sym (ap (λ k. gathered F (counting a k)) one_more ∙ gathered_last F a (i - a) ∙ ap (λ k. gathered F (counting a (i - a)) ++ F k) here)

    room_more : most * (i + 1 - a) ≡ most * (i - a) + most
    room_more = ap (λ k. most * k) one_more ∙ mul-suc most (i - a)

    pub stored : {c : Sink} → Puts b (F i) c × (c.at ≤ b.at + most) → Sofar F most a begin (i + 1) c
    stored {c} (p, l) =
        record {
          from = omega (arith, sofar.from);
          text = same_text text_more (then sofar.text p);
          within = omega (arith, sofar.within, room_more, l);
        }

    pub passed_over : F i ≡ [] → Sofar F most a begin (i + 1) b
    passed_over e = stored (same_text (sym e) (nothing b), omega arith)

    -- all of the numbers
    pub ended : (end : ℕ) → i ≡ end → Puts begin (gathered F (counting a (end - a))) b
    ended end e = subst (λ k. Puts begin (gathered F (counting a (k - a))) b) e sofar.text

-- the same from 0 on
pub ended_all : {F : ℕ → Bytes} {most : ℕ} {begin : Sink} {i : ℕ} {b : Sink} → Sofar F most 0 begin i b → (end : ℕ) → i ≡ end → Puts begin (gathered F (counting 0 end)) b
ended_all {F} {begin = begin} {b = b} sofar end e = let all : end - 0 ≡ end = omega arith in subst (λ k. Puts begin (gathered F (counting 0 k)) b) all (ended sofar end e)

-- what the first elements of a list give, by their places
gathered_shift : (F : ℕ → Bytes) (a k : ℕ) → gathered F (counting (suc a) k) ≡ gathered (λ i. F (suc i)) (counting a k)
gathered_shift F a zero = refl
gathered_shift F a (suc k) = ap (λ t. F (suc a) ++ t) (gathered_shift F (suc a) k)

pub taken : {A : Type 0} (d : A) (F : A → Bytes) (l : List A) (k : ℕ) → k ≤ length l → gathered (λ i. F (get_or l i d)) (counting 0 k) ≡ gathered F (take k l)
taken d F l zero h = refl
taken d F [] (suc k) h = absurd (omega arith)
taken d F (x ∷ l) (suc k) h = ap (λ t. F x ++ t) (gathered_shift (λ i. F (get_or (x ∷ l) i d)) 0 k ∙ taken d F l k (omega arith))
