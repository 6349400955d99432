-- Joining: which text joins two files, what it decides, and what is refused. Said of the operation too, in `jogimaduve`, proofs/Joining.
use Rattle.std.specs.Prelude.{◌≡◌, ◌≢◌, ◌⊎◌, ℕ, suc, ◌+◌, ◌≤◌, ◌<◌, false, cond, ◌&&◌, length, get_or}
use mathlib.Core.List.{List, [], ◌∷◌, ◌++◌, map, Memᴰ}
use Rattle.meaning.specs.Text.{Bytes, bytes, gathered, line}
use Rattle.meaning.specs.Model.{Kind, set, Word, Attribute, Policy, sizes, space, given, attribute_fields, kind_text, word_text}
use Rattle.meaning.specs.Reading.{read}
use Rattle.meaning.specs.Deciding.{request_of, is, Reply, asked, outcome, decision_on}
use Rattle.meaning.specs.Claims.Texts.{Paired, EqualNames, Among}
use Rattle.meaning.specs.Claims.PolicyFile.{Allowed, attribute_names, WellFormed}
use Rattle.meaning.specs.Claims.Refusals.{BadWord, Refuses}
use Rattle.meaning.specs.Claims.Standard.{standard}
use Rattle.meaning.specs.Claims.Deciding.{reply_at}

-- Attributes with equal names become one: the first file's, each in its place, and behind them, in order, those of the second
-- whose names the first lacks
pub data Alone (first : List Attribute) : (second alone : List Attribute) → Type 0 where
  no_more : Alone first [] []
  one : (b : Attribute) (bs cs : List Attribute) → Among b.name (attribute_names first) → Alone first bs cs → Alone first (b ∷ bs) cs
  follows : (b : Attribute) (bs cs : List Attribute) → (Among b.name (attribute_names first) → ⊥) → Alone first bs cs → Alone first (b ∷ bs) (b ∷ cs)

pub record JoinedAttributes (first second attrs : List Attribute) : Type 0 where
  pub alone : List Attribute
  pub of_second : Alone first second alone
  pub are : attrs ≡ first ++ alone

-- an attribute that has an equal name, and differs in its letter, in its values to the byte or in their order
pub record Differing (first : List Attribute) (b : Attribute) : Type 0 where
  pub other : Attribute
  pub of_first : Memᴰ other first
  pub equal_names : EqualNames b.name other.name
  pub differs : (b.several ≢ other.several) ⊎ (b.values ≢ other.values)

-- attribute i of some has this name
abbrev pub NamedAt : List Attribute → Bytes → ℕ → Type 0
NamedAt attrs n i = (i < length attrs) × EqualNames n (get_or (attribute_names attrs) i [])

-- A file's target at an attribute: its own field where it has that name, `*` where it lacks it
abbrev pub TargetFor : (own : List Attribute) (targets : List Bytes) → Attribute → Bytes → Type 0
TargetFor own ts c t = ((i : ℕ) × NamedAt own c.name i × (t ≡ get_or ts i [])) ⊎ ((Among c.name (attribute_names own) → ⊥) × (t ≡ bytes "*"))

-- A line by its fields, and that line in the joined file: an `O` line is the same; a tree line is one deeper, with a target at each attribute
pub data Deeper (attrs own : List Attribute) : (before after : List Bytes) → Type 0 where
  obligation_line : (n w : Bytes) → Deeper attrs own (bytes "O" ∷ n ∷ w ∷ []) (bytes "O" ∷ n ∷ w ∷ [])
  tree_line : (k : Kind) (d : ℕ) (n w : Bytes) (ts us : List Bytes) → d ≤ 7 → Paired (TargetFor own ts) attrs us
      → Deeper attrs own (kind_text k ∷ ((48 + d) ∷ []) ∷ n ∷ w ∷ ts) (kind_text k ∷ ((48 + suc d) ∷ []) ∷ n ∷ w ∷ us)

-- the lines of a file behind its attribute lines
abbrev pub other_lines : {f : Bytes} {p : Policy} → WellFormed f p → List (List Bytes)
other_lines x = gathered (λ ls. ls) x.good.tree

-- The joined text: the attributes' lines, the set's, then each file's other lines in order, one deeper, and no others
pub record JoinedText (w : Bytes) {f g : Bytes} {p q : Policy} (x : WellFormed f p) (y : WellFormed g q) (attrs : List Attribute) (t : Bytes) : Type 0 where
  pub of_first : List (List Bytes)
  pub of_second : List (List Bytes)
  pub text : t ≡ gathered line (map attribute_fields attrs ++ ((bytes "S" ∷ bytes "0" ∷ bytes "joined" ∷ w ∷ map (λ a. bytes "*") attrs) ∷ (of_first ++ of_second)))
  pub first_deeper : Paired (Deeper attrs p.attributes) (other_lines x) of_first
  pub second_deeper : Paired (Deeper attrs q.attributes) (other_lines y) of_second

-- A file's own request in one of the joined file: it has the same values at its own attributes, by their names
pub record OwnRequest (joined : Policy) (n : ℕ) (p : Policy) (m : ℕ) : Type 0 where
  pub in_space : m < space p.attributes
  pub each_named : (i : ℕ) → i < length p.attributes → (j : ℕ) × NamedAt joined.attributes (get_or (attribute_names p.attributes) i []) j
  pub same_values : (i j : ℕ) → i < length p.attributes → NamedAt joined.attributes (get_or (attribute_names p.attributes) i []) j
      → get_or (request_of (sizes p.attributes) m) i 0 ≡ get_or (request_of (sizes joined.attributes) n) j 0

-- On a request the joined file decides as the word does over the two files' decisions, each on its own request, by only-one-applicable
-- with their first targets; with it come the obligations of each file that is asked and gave that decision, the first file's first
pub record DecidesOver (w : Word) (p q joined : Policy) (n : ℕ) : Type 0 where
  pub first_request : ℕ
  pub second_request : ℕ
  pub first_own : OwnRequest joined n p first_request
  pub second_own : OwnRequest joined n q second_request
  pub replies : List Reply
  pub replies_are : replies ≡ reply_at p first_request 0 ∷ reply_at q second_request 0 ∷ []
  pub decides : decision_on joined n ≡ standard w replies
  pub obligations : (outcome joined n).obligations
      ≡ cond (get_or (asked w replies) 0 false && is (decision_on joined n) (decision_on p first_request)) (outcome p first_request).obligations []
      ++ cond (get_or (asked w replies) 1 false && is (decision_on joined n) (decision_on q second_request)) (outcome q second_request).obligations []

-- What joins file f, of policy p, and file g, of policy q: no attribute differs, the word is one of the four, and the text is accepted
pub record Joins (w f : Bytes) (p : Policy) (g : Bytes) (q : Policy) (t : Bytes) : Type 0 where
  pub none_differ : (b : Attribute) → Memᴰ b q.attributes → Differing p.attributes b → ⊥
  pub word : Word
  pub allowed : Allowed set word
  pub is_word : w ≡ word_text word
  pub policy : Policy
  pub is_accepted : read t ≡ given policy
  pub attributes : JoinedAttributes p.attributes q.attributes policy.attributes
  pub text : (x : WellFormed f p) (y : WellFormed g q) → JoinedText w x y policy.attributes t
  pub decides : (n : ℕ) → n < space policy.attributes → DecidesOver word p q policy n

-- What is refused, in this order, with number and second number: the second file's first line that differs; a word that isn't one
-- of the four, with the line of `joined`; what reading the joined text refuses
pub data Unjoined (w f : Bytes) (p : Policy) (g : Bytes) (q : Policy) : ℕ → ℕ → Type 0 where
  attribute_differs : (before after : List Attribute) (b : Attribute) → q.attributes ≡ before ++ (b ∷ after) → Differing p.attributes b
      → ((c : Attribute) → Memᴰ c before → Differing p.attributes c → ⊥) → Unjoined w f p g q 19 (suc (length before))
  no_such_word : (attrs : List Attribute) → ((b : Attribute) → Memᴰ b q.attributes → Differing p.attributes b → ⊥)
      → JoinedAttributes p.attributes q.attributes attrs → BadWord set w → Unjoined w f p g q 7 (suc (length attrs))
  not_read : (attrs : List Attribute) (word : Word) (t : Bytes) (n m : ℕ) → ((b : Attribute) → Memᴰ b q.attributes → Differing p.attributes b → ⊥)
      → JoinedAttributes p.attributes q.attributes attrs → Allowed set word → w ≡ word_text word
      → ((x : WellFormed f p) (y : WellFormed g q) → JoinedText w x y attrs t) → Refuses t n m → Unjoined w f p g q n m
