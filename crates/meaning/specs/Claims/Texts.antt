-- Lists, texts, names and numbers: what the other claims stand on.
use Rattle.std.specs.Prelude.{◌≡◌, ◌≢◌, ◌⊎◌, ◌↔◌, ℕ, ◌+◌, ◌*◌, ◌-◌, ◌≤◌, ◌<◌, true, false, length, get_or}
use mathlib.Core.List.{List, [], ◌∷◌, Memᴰ}
use Rattle.meaning.specs.Text.{Bytes, cut, join, same_name, among_names, repeated, is_field, is_name, decimal}

module _ {A : Type 0} where
  abbrev pub All : (A → Type 0) → List A → Type 0
  All P [] = Unit {0}
  All P (x ∷ xs) = P x × All P xs

  -- no element twice
  abbrev pub Distinct : List A → Type 0
  Distinct [] = Unit {0}
  Distinct (x ∷ xs) = (Memᴰ x xs → ⊥) × Distinct xs

  -- each element stands before all later ones
  abbrev pub Ordered : (A → A → Type 0) → List A → Type 0
  Ordered before [] = Unit {0}
  Ordered before (x ∷ xs) = ((y : A) → Memᴰ y xs → before x y) × Ordered before xs

  -- each element with those before it, the nearest first
  abbrev pub Each : (List A → A → Type 0) → List A → List A → Type 0
  Each P before [] = Unit {0}
  Each P before (x ∷ xs) = P before x × Each P (x ∷ before) xs

module _ {A B : Type 0} where
  -- two lists of one length, whose elements at each place are so related
  abbrev pub Paired : (A → B → Type 0) → List A → List B → Type 0
  Paired R [] [] = Unit {0}
  Paired R [] (y ∷ ys) = ⊥
  Paired R (x ∷ xs) [] = ⊥
  Paired R (x ∷ xs) (y ∷ ys) = R x y × Paired R xs ys

abbrev pub Rising : List ℕ → Type 0
Rising ns = Ordered (λ n m. n < m) ns

abbrev pub total : List ℕ → ℕ
total [] = 0
total (n ∷ ns) = n + total ns

abbrev pub In : ℕ → ℕ → ℕ → Type 0
In low high n = (low ≤ n) × (n ≤ high)

-- A field: one or more bytes 33 to 126
pub record Field (f : Bytes) : Type 0 where
  pub some_byte : 1 ≤ length f
  pub field_bytes : All (In 33 126) f

-- A name: 1 to 16 bytes of a-z, A-Z, 0-9 and hyphen, not starting with a hyphen
abbrev pub NameByte : ℕ → Type 0
NameByte b = In 97 122 b ⊎ (In 65 90 b ⊎ (In 48 57 b ⊎ (b ≡ 45)))

pub record Name (n : Bytes) : Type 0 where
  pub size : In 1 16 (length n)
  pub name_bytes : All NameByte n
  pub no_hyphen_first : get_or n 0 0 ≢ 45

-- Two names are equal if they differ only in letter case: at each place the same byte, or a letter of A-Z and that letter of a-z
abbrev pub CapitalOf : ℕ → ℕ → Type 0
CapitalOf small capital = In 65 90 capital × (small ≡ capital + 32)

abbrev pub SameLetter : ℕ → ℕ → Type 0
SameLetter x y = (x ≡ y) ⊎ (CapitalOf x y ⊎ CapitalOf y x)

abbrev pub EqualNames : Bytes → Bytes → Type 0
EqualNames m n = Paired SameLetter m n

-- a name that is equal to one of them; names of which no two are equal
abbrev pub Among : Bytes → List Bytes → Type 0
Among n ns = (m : Bytes) × Memᴰ m ns × EqualNames n m

abbrev pub DistinctNames : List Bytes → Type 0
DistinctNames [] = Unit {0}
DistinctNames (n ∷ ns) = (Among n ns → ⊥) × DistinctNames ns

-- A number in decimal: digits, the first not 0 unless it is alone, whose value is the number
abbrev pub decimal_value : ℕ → Bytes → ℕ
decimal_value sofar [] = sofar
decimal_value sofar (b ∷ bs) = decimal_value (sofar * 10 + (b - 48)) bs

pub record Decimal (n : ℕ) (t : Bytes) : Type 0 where
  pub some_digit : 1 ≤ length t
  pub digits_only : All (In 48 57) t
  pub same_value : decimal_value 0 t ≡ n
  pub no_zero_first : 1 ≤ n → get_or t 0 48 ≢ 48

-- A text and its pieces, parted by byte b: they make the text again, and none has that byte
pub record Parted (b : ℕ) (t : Bytes) (pieces : List Bytes) : Type 0 where
  pub joined : join b pieces ≡ t
  pub apart : All (λ p. Memᴰ b p → ⊥) pieces
  pub some_piece : 1 ≤ length pieces

pub record Texts : Type 0 where
  pub fields : (f : Bytes) → is_field f ≡ true ↔ Field f
  pub names : (n : Bytes) → is_name n ≡ true ↔ Name n
  pub same_names : (m n : Bytes) → same_name m n ≡ true ↔ EqualNames m n
  pub used_names : (n : Bytes) (ns : List Bytes) → among_names n ns ≡ true ↔ Among n ns
  pub no_name_twice : (ns : List Bytes) → repeated ns ≡ false ↔ DistinctNames ns
  pub pieces : (b : ℕ) (t : Bytes) → Parted b t (cut b t)
  pub decimals : (n : ℕ) → Decimal n (decimal n)
