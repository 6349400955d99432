-- Texts laid one behind the other, behind a buffer's end, and over its start; lines by their fields.
use mathlib.Core.Path.{◌≡◌, refl, sym, ap, ap₂, ◌∙◌, subst}
use mathlib.Core.List.{List, [], ◌∷◌, ◌++◌, append_assoc, append-nil}
use Prim.Native.Nat.{ℕ, suc, ◌+◌, ◌-◌, ◌≤◌, ◌<◌, min}
use native.Mathlib.Nat.{add-zero, add-suc, suc-add}
use native.Mathlib.Omega.{arith}
use lib.ListN.{length, take, drop, set, length-append, take-append-drop}
use lib.Dec.{ltb}
use lib.Seq.{sets, sets-eq, length-sets, set_out, take_all, length-take-le}
use borrow.Author.Tests.{ltb-true, ltb-false}
use borrow.Rule.Slice.PartMut.{put_mid}
use Rattle.std.proofs.lemmas.Slice.{put_mid-paste}
use Rattle.laws.proofs.Bools.{Test, passed, failed, test}
use Rattle.meaning.specs.Text.{Bytes, gathered, join, newline, tab, line}
use Rattle.printing.specs.declared.Sink.{Sink}
use Rattle.printing.specs.Wrote.{Wrote}
use Rattle.printing.specs.Puts.{Puts}

sets_append : (l : List ℕ) (i : ℕ) (xs ys : List ℕ) → sets l i (xs ++ ys) ≡ sets (sets l i xs) (i + length xs) ys
sets_append l i [] ys = rw (add-zero i)
sets_append l i (x ∷ xs) ys = rw (add-suc i (length xs), ← suc-add i (length xs)) (sets_append (set l i x) (suc i) xs ys)

-- nothing is stored behind the end
pub sets_out : (l : List ℕ) (i : ℕ) (xs : List ℕ) → length l ≤ i → sets l i xs ≡ l
sets_out l i [] h = refl
sets_out l i (x ∷ xs) h = ap (λ m. sets m (suc i) xs) (set_out l i x h) ∙ sets_out l (suc i) xs (omega arith)

-- all bytes that fit
sets_fit : (l xs : List ℕ) (n i : ℕ) → i ≡ min (length xs) (length l - n) → sets l n (take i xs) ≡ sets l n xs
sets_fit l xs n i e = go (test (ltb i (length xs)))
  where
    go : Test (ltb i (length xs)) → sets l n (take i xs) ≡ sets l n xs
    go (passed t) =
        let few = ltb-true i (length xs) t in
        let size = length-take-le i xs (omega arith) in
        let full : length (sets l n (take i xs)) ≤ n + length (take i xs) = omega (arith, length-sets l n (take i xs)) in
        sym (sets_out (sets l n (take i xs)) (n + length (take i xs)) (drop i xs) full) ∙ sym (sets_append l n (take i xs) (drop i xs)) ∙ ap (sets l n) (take-append-drop i xs)
    go (failed t) = ap (sets l n) (take_all i xs (ltb-false i (length xs) t))

-- a part of a buffer that holds the bytes that fit
pub copied_fit : (l ys xs : List ℕ) (n k i : ℕ) → n < length l → i ≡ min (length xs) (length l - n) → i ≡ k → ys ≡ take i xs → put_mid n k l ys ≡ sets l n xs
copied_fit l ys xs n k i inside fit same copied =
    let zs = take i xs in
    let size : length zs ≡ i = length-take-le i xs (omega arith) in
    put_mid-paste n k l ys zs i copied same (sym size)
    ∙ ap₂ (λ t m. (take n l ++ t) ++ drop (n + m) l) (take_all i zs (omega (arith, size))) (sym size)
    ∙ sym (sets-eq zs l n (omega (arith, size)))
    ∙ sets_fit l xs n i fit

-- one text behind the other, and no text
wrote_then : {x y z s t : List ℕ} {n m k : ℕ} → Wrote x n s y m → Wrote y m t z k → Wrote x n (s ++ t) z k
wrote_then {x} {y} {z} {s} {t} {n} {m} {k} p q =
    record {
      moved = omega (arith, p.moved, q.moved, length-append s t);
      laid = rw (q.laid, p.laid, p.moved, sets_append x n s t);
    }

pub then : {a b c : Sink} {s t : List ℕ} → Puts a s b → Puts b t c → Puts a (s ++ t) c
then p q = record { buffer = q.buffer ∙ p.buffer; wrote = wrote_then p.wrote q.wrote }

-- one text behind another whose end is known because it was counted
pub then_counted : {x y z a b s t : List ℕ} {n m k l : ℕ} → Wrote a n s b m → Wrote x n s y l → Wrote y m t z k → Wrote x n (s ++ t) z k
then_counted {x} {y} {s = s} {n = n} c w = wrote_then (subst (Wrote x n s y) (w.moved ∙ sym c.moved) w)

pub nothing : (a : Sink) → Puts a [] a
nothing a = record { buffer = refl; wrote = record { moved = omega arith; laid = refl } }

-- an equal text is put as well
pub same_text : {a b : Sink} {s t : List ℕ} → s ≡ t → Puts a s b → Puts a t b
same_text {a} {b} same p = subst (λ t. Puts a t b) same p

-- what a lent buffer holds once the sink over it is done with
pub filled : {a b : Sink} {text y : List ℕ} → Puts a text b → y ≡ b.out.now → Wrote a.out.now a.at text y b.at
filled p same = rw same p.wrote

-- a text that is laid over the start of a buffer that holds it
pub at_start : {x t y : List ℕ} {m : ℕ} → Wrote x 0 t y m → length t ≤ length x → y ≡ t ++ drop (length t) x
at_start {x} {t} {y} {m} w h = let here : 0 + length t ≡ length t = omega arith in w.laid ∙ sets-eq t x 0 (omega arith) ∙ rw here

-- a line's first field, its tab, and the line of the other fields
pub line_next : (a b : Bytes) (fs : List Bytes) → (a ++ (tab ∷ [])) ++ line (b ∷ fs) ≡ line (a ∷ b ∷ fs)
line_next a b [] = append_assoc a (tab ∷ []) (b ++ (newline ∷ [])) ∙ sym (append_assoc a (tab ∷ b) (newline ∷ []))
line_next a b (c ∷ fs) = append_assoc a (tab ∷ []) (line (b ∷ c ∷ fs)) ∙ sym (append_assoc a _ (newline ∷ []))

-- pieces parted by a byte: each but the first has one before it
pub join_behind : (b : ℕ) (x : Bytes) (xs : List Bytes) → join b (x ∷ xs) ≡ x ++ gathered (λ y. b ∷ y) xs
join_behind b x [] = sym (append-nil x)
join_behind b x (y ∷ ys) = ap (λ t. x ++ b ∷ t) (join_behind b y ys)

-- a line's first field, the others with a tab before each, and the newline
pub line_behind : (x : Bytes) (xs : List Bytes) → x ++ (gathered (λ y. tab ∷ y) xs ++ (newline ∷ [])) ≡ line (x ∷ xs)
line_behind x xs = sym (append_assoc x (gathered (λ y. tab ∷ y) xs) (newline ∷ [])) ∙ ap (λ t. t ++ (newline ∷ [])) (sym (join_behind tab x xs))
