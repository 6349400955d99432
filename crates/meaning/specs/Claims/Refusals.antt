-- The paper's table of refusals, row by row, said of a text and two numbers.
use Rattle.std.specs.Prelude.{◌≡◌, ◌≢◌, ◌⊎◌, ℕ, suc, ◌+◌, ◌≤◌, ◌<◌, Bool, false, cond, List, [], ◌∷◌, ◌++◌, map, reverse, length, get_or, drop}
use Rattle.meaning.specs.Text.{Bytes, bytes, all, gathered, cut, join, newline, tab, line, is_field, is_name}
use Rattle.meaning.specs.Model.{Kind, rule, Word, Attribute, Obligation, Element, name_of, obligation_name, obligations_of, space, letter_text, kind_text, word_text}
use Rattle.meaning.specs.Claims.Texts.{Among, DistinctNames}
use Rattle.meaning.specs.Claims.PolicyFile.{Allowed, Targets, PlacedAt, attribute_names, GoodLines}

-- Refused: the table's rows 2 to 8 and 14 on a line, by its fields, behind lines that break no rule, of these attributes and
-- elements, the nearest first. A row's condition on an attribute line, on a tree line and on an obligation's line
abbrev pub On : (Attribute → Type 0) → (Kind → Bytes → Bytes → Bytes → List Bytes → Type 0) → (Bytes → Bytes → Type 0) → List Bytes → Type 0
On A T O fs = ((several : Bool) × (get_or fs 0 [] ≡ letter_text several) × A (record { several = several; name = get_or fs 1 []; values = drop 2 fs }))
    ⊎ (((k : Kind) × (get_or fs 0 [] ≡ kind_text k) × T k (get_or fs 1 []) (get_or fs 2 []) (get_or fs 3 []) (drop 4 fs))
    ⊎ ((get_or fs 0 [] ≡ bytes "O") × O (get_or fs 1 []) (get_or fs 2 [])))

-- empty line or field, other byte; first field not A, M, S, P, R or O; field count under 3 (A, M), not 4 plus the attributes so far,
-- or not 3 (O)
abbrev pub BadFields : List Attribute → List Bytes → Type 0
BadFields attrs fs = (all is_field fs ≡ false)
    ⊎ ((((several : Bool) → get_or fs 0 [] ≢ letter_text several) × ((k : Kind) → get_or fs 0 [] ≢ kind_text k) × (get_or fs 0 [] ≢ bytes "O"))
    ⊎ (((several : Bool) × (get_or fs 0 [] ≡ letter_text several) × (length fs < 3))
    ⊎ (((k : Kind) × (get_or fs 0 [] ≡ kind_text k) × (length fs ≢ 4 + length attrs))
    ⊎ ((get_or fs 0 [] ≡ bytes "O") × (length fs ≢ 3)))))

-- a name used before among the attributes, a value twice; attribute 7, value 17 (M: 13), space over 4,096
abbrev pub Used : List Attribute → Attribute → Type 0
Used attrs a = Among a.name (attribute_names attrs) ⊎ (DistinctNames a.values → ⊥)

abbrev pub TooMany : List Attribute → Attribute → Type 0
TooMany attrs a = (6 ≤ length attrs) ⊎ ((cond a.several 12 16 < length a.values) ⊎ (4096 < space (attrs ++ (a ∷ []))))

-- tree line before any A or M, bad depth, place or parent; a word not allowed for its kind; a bad target
abbrev pub BadPlace : List Attribute → List Element → Kind → Bytes → Type 0
BadPlace attrs before k d = (length attrs ≡ 0) ⊎ ((x : ℕ) → x ≤ 7 → d ≡ (48 + x) ∷ [] → PlacedAt before k x → ⊥)

abbrev pub BadWord : Kind → Bytes → Type 0
BadWord k w = (v : Word) → Allowed k v → w ≢ word_text v

abbrev pub BadTargets : List Attribute → List Bytes → Type 0
BadTargets attrs ts = (ms : List ℕ) → Targets attrs ts ms → ⊥

-- an obligation that doesn't follow `P`, `S` or `O`, or is the third; those that it would join
abbrev pub BadlyFollowing : List Element → Type 0
BadlyFollowing [] = Unit {0}
BadlyFollowing (e ∷ before) = (e.kind ≡ rule) ⊎ (2 ≤ e.obligations)

abbrev pub obligations_before : List Element → List Obligation
obligations_before [] = []
obligations_before (e ∷ before) = obligations_of e

-- in the order of the tests: 14 directly after 6
abbrev pub table_rows : (unended : Type 0) → List Attribute → List Element → List Bytes → List (ℕ × Type 0)
table_rows unended attrs before fs =
    (2, unended ⊎ BadFields attrs fs)
    ∷ (3, On (λ a. all is_name (a.name ∷ a.values) ≡ false) (λ k d n w ts. is_name n ≡ false) (λ n w. is_name n ≡ false) fs)
    ∷ (4, On (Used attrs) (λ k d n w ts. Among n (map name_of before)) (λ n w. Among n (map obligation_name (obligations_before before))) fs)
    ∷ (5, On (TooMany attrs) (λ k d n w ts. 64 ≤ length before) (λ n w. ⊥) fs)
    ∷ (6, On (λ a. 1 ≤ length before) (λ k d n w ts. BadPlace attrs before k d) (λ n w. ⊥) fs)
    ∷ (14, On (λ a. ⊥) (λ k d n w ts. ⊥) (λ n w. BadlyFollowing before) fs)
    ∷ (7, On (λ a. ⊥) (λ k d n w ts. BadWord k w) (λ n w. BadWord rule w) fs)
    ∷ (8, On (λ a. ⊥) (λ k d n w ts. BadTargets attrs ts) (λ n w. ⊥) fs)
    ∷ []

-- n is the number of the first row that holds
abbrev pub Lowest : ℕ → List (ℕ × Type 0) → Type 0
Lowest n [] = ⊥
Lowest n (r ∷ rs) = (r.1 × (n ≡ r.0)) ⊎ ((r.1 → ⊥) × Lowest n rs)

-- The first bad line: those before it break no rule. What stands behind the last newline is a line too, where it is not empty
pub record BadLine (f : Bytes) (n m : ℕ) : Type 0 where
  pub before : List (List Bytes)
  pub bad : Bytes
  pub after : List Bytes
  pub are : cut newline f ≡ map (join tab) before ++ (bad ∷ after)
  pub is_line : bad ≡ [] → 1 ≤ length after
  pub attributes : List Attribute
  pub elements : List Element
  pub good : GoodLines before attributes elements
  pub number : Lowest n (table_rows (length after ≡ 0) attributes (reverse elements) (cut tab bad))
  pub second : m ≡ suc (length before)

-- Reading tests 1, then lines from the top, then 9
abbrev pub Refuses : Bytes → ℕ → ℕ → Type 0
Refuses f n m = ((16384 < length f) × (n ≡ 1) × (m ≡ 0))
    ⊎ (((length f ≤ 16384) × BadLine f n m)
    ⊎ ((length f ≤ 16384) × (rows : List (List Bytes)) × (attrs : List Attribute) × (f ≡ gathered line rows) × GoodLines rows attrs [] × (n ≡ 9) × (m ≡ 0)))
