-- Text: bytes, lines, fields, names and decimal numbers, and the lists that the other definitions use.
use Rattle.std.specs.Prelude.{ℕ, zero, suc, ◌+◌, ◌/◌, ◌%◌, Bool, true, false, not, cond, ◌&&◌, ◌||◌, List, [], ◌∷◌, ◌++◌, map, length, take, leb, ltb, eqb}
use Prim.Native.Char.{code}
use Prim.Native.String.{String, [] as []ˢ, ◌∷◌ as ◌∷ˢ◌}
use Rattle.std.proofs.Math.Option.{Option, none, some}

abbrev pub Bytes : Type 0
Bytes = List ℕ

-- the bytes of a quoted text
abbrev pub bytes : String → Bytes
bytes []ˢ = []
bytes (c ∷ˢ s) = code c ∷ bytes s

-- Lists
module _ {A : Type 0} where
  abbrev pub empty : List A → Bool
  empty [] = true
  empty (x ∷ xs) = false

  abbrev pub any : (A → Bool) → List A → Bool
  any p [] = false
  any p (x ∷ xs) = p x || any p xs

  abbrev pub all : (A → Bool) → List A → Bool
  all p [] = true
  all p (x ∷ xs) = p x && all p xs

  -- the elements that pass a test
  abbrev pub keep : (A → Bool) → List A → List A
  keep p [] = []
  keep p (x ∷ xs) = cond (p x) (x ∷ keep p xs) (keep p xs)

  -- the list without its element k, counted from 0
  abbrev pub without : ℕ → List A → List A
  without k [] = []
  without zero (x ∷ xs) = xs
  without (suc k) (x ∷ xs) = x ∷ without k xs

  -- all but the last element; the last element, or d of an empty list
  abbrev pub front : List A → List A
  front [] = []
  front (x ∷ []) = []
  front (x ∷ y ∷ ys) = x ∷ front (y ∷ ys)

  abbrev pub last : A → List A → A
  last d [] = d
  last d (x ∷ xs) = last x xs

  abbrev pub is_none : Option A → Bool
  is_none none = true
  is_none (some x) = false

module _ {A B : Type 0} where
  -- what each element gives, joined in order
  abbrev pub gathered : (A → List B) → List A → List B
  gathered f [] = []
  gathered f (x ∷ xs) = f x ++ gathered f xs

  -- nothing, or what a value gives
  abbrev pub if_some : Option A → (A → List B) → List B
  if_some none f = []
  if_some (some x) f = f x

-- Numbers: k of them from n on, the first of those and the last below n that pass a test
abbrev pub counting : ℕ → ℕ → List ℕ
counting n zero = []
counting n (suc k) = n ∷ counting (suc n) k

abbrev pub first_from : (ℕ → Bool) → ℕ → ℕ → Option ℕ
first_from t n zero = none
first_from t n (suc k) =
    let later = first_from t (suc n) k in
    cond (t n) (some n) later

abbrev pub last_below : (ℕ → Bool) → ℕ → Option ℕ
last_below t zero = none
last_below t (suc n) =
    let earlier = last_below t n in
    cond (t n) (some n) earlier

abbrev pub between : ℕ → ℕ → ℕ → Bool
between low high n = leb low n && leb n high

-- Texts that are equal byte for byte
abbrev pub same : Bytes → Bytes → Bool
same [] [] = true
same [] (y ∷ ys) = false
same (x ∷ xs) [] = false
same (x ∷ xs) (y ∷ ys) = eqb x y && same xs ys

-- Names that are equal: they differ only in letter case, so A-Z count as a-z
abbrev pub folded : ℕ → ℕ
folded b = cond (between 65 90 b) (b + 32) b

abbrev pub lower : Bytes → Bytes
lower n = map folded n

abbrev pub same_name : Bytes → Bytes → Bool
same_name m n = same (lower m) (lower n)

abbrev pub among_names : Bytes → List Bytes → Bool
among_names n ns = any (same_name n) ns

abbrev pub repeated : List Bytes → Bool
repeated [] = false
repeated (n ∷ ns) = among_names n ns || repeated ns

-- The pieces of a text that byte b parts, one more than there are such bytes; and the text that they make again
abbrev pub longer : ℕ → List Bytes → List Bytes
longer x [] = (x ∷ []) ∷ []
longer x (p ∷ ps) = (x ∷ p) ∷ ps

abbrev pub cut : ℕ → Bytes → List Bytes
cut b [] = [] ∷ []
cut b (x ∷ xs) = cond (eqb x b) ([] ∷ cut b xs) (longer x (cut b xs))

abbrev pub join : ℕ → List Bytes → Bytes
join b [] = []
join b (p ∷ []) = p
join b (p ∷ q ∷ ps) = p ++ b ∷ join b (q ∷ ps)

abbrev pub newline : ℕ
newline = 10

abbrev pub tab : ℕ
tab = 9

abbrev pub comma : ℕ
comma = 44

-- A line: fields parted by tabs, ended by a newline
abbrev pub line : List Bytes → Bytes
line fs = join tab fs ++ (newline ∷ [])

-- A field: one or more bytes 33 to 126
abbrev pub is_field : Bytes → Bool
is_field f = not (empty f) && all (between 33 126) f

-- A name: 1 to 16 bytes of a-z, A-Z, 0-9 and hyphen, not starting with a hyphen
abbrev pub name_byte : ℕ → Bool
name_byte b = between 97 122 b || between 65 90 b || between 48 57 b || eqb b 45

abbrev pub is_name : Bytes → Bool
is_name n = between 1 16 (length n) && all name_byte n && not (same (take 1 n) (bytes "-"))

-- A number in decimal: its fuel n + 1 exceeds its digits
abbrev pub digits : ℕ → ℕ → Bytes
digits zero n = []
digits (suc k) n =
    let more = digits k (n / 10) ++ ((48 + (n % 10)) ∷ []) in
    cond (ltb n 10) ((48 + n) ∷ []) more

abbrev pub decimal : ℕ → Bytes
decimal n = digits (suc n) n
