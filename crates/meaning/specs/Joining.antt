-- Joining two policies as the two children of one set, on their bytes.
use Rattle.std.specs.Prelude.{ℕ, suc, Bool, not, cond, ◌&&◌, List, [], ◌∷◌, ◌++◌, map, length, drop, get_or}
use Rattle.std.proofs.Math.Option.{Option, none, some}
use Rattle.meaning.specs.Text.{Bytes, bytes, is_none, any, keep, gathered, same, same_name, among_names, cut, join, tab, line, decimal}
use Rattle.meaning.specs.Model.{set, Attribute, Result, given, ◌then◌, unless, unless_found, fitted, letter_text, attribute_fields}
use Rattle.meaning.specs.Reading.{obligation_letter, depth_of, word_of, lowest, read}
use Rattle.meaning.specs.Trimming.{file_lines}

-- Attributes with equal names become one, the first file's line in its place; those of the second alone follow
abbrev pub declared : List Attribute → Bytes → Bool
declared attrs n = among_names n (map (λ a. a.name) attrs)

abbrev pub both : (first second : List Attribute) → List Attribute
both first second = first ++ keep (λ b. not (declared first b.name)) second

-- 19: the second file's first line, by numbers from n on, where an attribute of equal name differs in its letter, in its values to
-- the byte or in their order
abbrev pub differs : Attribute → Attribute → Bool
differs b a = same_name b.name a.name && not (same (letter_text b.several) (letter_text a.several) && same (join tab b.values) (join tab a.values))

abbrev pub first_differing : (first : List Attribute) → ℕ → (second : List Attribute) → Option ℕ
first_differing first n [] = none
first_differing first n (b ∷ bs) =
    let later = first_differing first (suc n) bs in
    cond (any (differs b) first) (some n) later

-- A file's target at an attribute: its field at the place where it declares that name, `*` where it lacks the attribute
abbrev pub place_in : List Attribute → Bytes → ℕ
place_in [] n = 0
place_in (a ∷ attrs) n = cond (same_name n a.name) 0 (suc (place_in attrs n))

abbrev pub target_for : (own : List Attribute) (targets : List Bytes) → Attribute → Bytes
target_for own ts c = cond (declared own c.name) (get_or ts (place_in own c.name) []) (bytes "*")

-- A line behind a file's own attribute lines, among the joined attributes: an `O` line as it is; a tree line one deeper
abbrev pub deeper_fields : (attrs own : List Attribute) → List Bytes → List Bytes
deeper_fields attrs own fs = get_or fs 0 [] ∷ decimal (suc (depth_of (get_or fs 1 []))) ∷ get_or fs 2 [] ∷ get_or fs 3 [] ∷ map (target_for own (drop 4 fs)) attrs

abbrev pub deeper_line : (attrs own : List Attribute) → Bytes → Bytes
deeper_line attrs own l =
    let fs = cut tab l in
    cond (obligation_letter (get_or fs 0 [])) (line fs) (line (deeper_fields attrs own fs))

abbrev pub tree_part : (attrs own : List Attribute) → Bytes → Bytes
tree_part attrs own f = gathered (deeper_line attrs own) (drop (length own) (file_lines f))

-- The joined text: both files as the two children of a set named `joined` at depth 0, all targets `*`
unfoldable pub joined_text : (word f : Bytes) (first : List Attribute) (g : Bytes) (second : List Attribute) → Bytes
joined_text w f first g second =
    let attrs = both first second in
    gathered (λ a. line (attribute_fields a)) attrs
    ++ (line (bytes "S" ∷ bytes "0" ∷ bytes "joined" ∷ w ∷ map (λ a. bytes "*") attrs)
    ++ (tree_part attrs first f ++ tree_part attrs second g))

-- 19; then 7, with the line of `joined`, for a word that isn't one of the four; then what reading the joined text would refuse
unfoldable pub joined : (word f : Bytes) (first : List Attribute) (g : Bytes) (second : List Attribute) → Result Bytes
joined w f first g second =
    unless_found 19 (first_differing first 1 second)
    (unless (lowest ((7, is_none (word_of set w)) ∷ [])) (suc (length (both first second)))
    (let t = joined_text w f first g second in read t then λ j. given t))

-- The operation: the first file is read, and then the second
unfoldable pub join_file : ℕ → (first second word : Bytes) → Result Bytes
join_file room f g w = read f then λ p. read g then λ q. joined w f p.attributes g q.attributes then fitted room
