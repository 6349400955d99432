-- A line one deeper, by the places of the joined attributes among a file's own; and what is asked of a file and of its lines.
use Rattle.std.specs.Prelude.{ℕ, suc, ◌≤◌, ◌≡◌, ◌⊎◌, true, cond, List, [], ◌∷◌, ◌++◌, map, ltb, length, drop, get_or}
use Rattle.meaning.specs.Text.{Bytes, bytes, counting, cut, tab, line, decimal}
use Rattle.meaning.specs.Reading.{obligation_letter, depth_of}
use Rattle.meaning.specs.Trimming.{file_lines}
use Rattle.meaning.specs.Claims.Texts.{All}
use Rattle.text.specs.Ended.{Ended}
use Rattle.layout.specs.declared.Attributes.{Attributes}
use Rattle.layout.specs.Places.{AllStanding}
use Rattle.joined_attributes.specs.declared.Placing.{Placing}

-- the places that are listed
abbrev pub places_of : Placing → List ℕ
places_of p = map (λ i. get_or p.places i 0) (counting 0 p.len)

-- the target at place k of n; `*` where k is none of them
abbrev pub placed_target : ℕ → List Bytes → ℕ → Bytes
placed_target n ts k = cond (ltb k n) (get_or ts k []) (bytes "*")

-- the fields before the targets, one deeper, with a tab behind each but the last
abbrev pub head_text : List Bytes → Bytes
head_text fs = get_or fs 0 [] ++ (tab ∷ decimal (suc (depth_of (get_or fs 1 []))) ++ (tab ∷ get_or fs 2 [] ++ (tab ∷ get_or fs 3 [])))

abbrev pub deepened : List ℕ → ℕ → List Bytes → List Bytes
deepened ks n fs = get_or fs 0 [] ∷ decimal (suc (depth_of (get_or fs 1 []))) ∷ get_or fs 2 [] ∷ get_or fs 3 [] ∷ map (placed_target n (drop 4 fs)) ks

abbrev pub deeper_placed : List ℕ → ℕ → Bytes → Bytes
deeper_placed ks n l =
    let fs = cut tab l in
    cond (obligation_letter (get_or fs 0 [])) (line fs) (line (deepened ks n fs))

-- an `O` line, or one with a target
abbrev pub Fits : Bytes → Type 0
Fits l = (obligation_letter (get_or (cut tab l) 0 []) ≡ true) ⊎ (5 ≤ length (cut tab l))

-- from `from` on a file has only such lines, each ended by a newline
pub record Behind (f : Bytes) (from : ℕ) : Type 0 where
  pub inside : from ≤ length f
  pub short : length f ≤ 16384
  pub ended : Ended (drop from f)
  pub fitting : All Fits (file_lines (drop from f))

-- a file no longer than allowed, whose attributes stand in it
pub record Headed (f : Bytes) (a : Attributes) : Type 0 where
  pub short : length f ≤ 16384
  pub standing : AllStanding f a

-- and whose lines behind its attribute lines start at `from`
pub record Joinable (f : Bytes) (a : Attributes) (from : ℕ) : Type 0 where
  pub headed : Headed f a
  pub behind : Behind f from
  pub other_lines : file_lines (drop from f) ≡ drop a.len (file_lines f)
