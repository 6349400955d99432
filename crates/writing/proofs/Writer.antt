-- The answer of the writer, from what was read of the attribute lines and what the test of the elements gave.
use Rattle.std.specs.Prelude.{Ok, Err}
use mathlib.Core.Path.{◌≡◌, refl, sym, ap, ◌∙◌, subst}
use Prim.Native.Nat.{ℕ, zero, suc, ◌<◌}
use native.Mathlib.Omega.{arith}
use mathlib.Core.List.{List, [], ◌∷◌, ◌++◌, reverse, map}
use lib.ListN.{length, take, get_or, length-map}
use Rattle.std.proofs.lemmas.List.{nil_from_length}
use Rattle.meaning.specs.declared.Element.{Element}
use Rattle.meaning.specs.Text.{Bytes, gathered}
use Rattle.meaning.specs.Model.{Result, refused, given, ◌then◌}
use Rattle.meaning.specs.Reading.{Sofar, short, read_text, finished}
use Rattle.meaning.specs.Report.{fitted}
use Rattle.meaning.specs.Writing.{header_tests, read_elements, element_lines, write_file}
use Rattle.meaning.specs.Operations.{answered, lent, write_answer, write_lent}
use Rattle.meaning.specs.Claims.Texts.{All}
use Rattle.laws.proofs.Reading.{short_given}
use Rattle.laws.proofs.GoodLists.{Small, taken_small, taken_few}
use Rattle.std.specs.Prelude.{Result as Outcome}
use Rattle.refusals.specs.declared.Refused.{Refused}
use Rattle.refusals.specs.Numbers.{number_of, answer_of}
use Rattle.layout.specs.declared.Attributes.{Attributes}
use Rattle.layout.specs.Places.{attributes_of, value_counts, counts_at}
use Rattle.layout.proofs.Laws.{attributes_length}
use Rattle.layout.proofs.Counts.{counts_are}
use Rattle.elements.specs.Listed.{blank}
use Rattle.header.specs.Told.{HeaderHolds, HeaderAs}
use Rattle.checking.specs.Tested.{taken as kept, number_told, line_told, CheckedAs}
use Rattle.treelines.specs.Writable.{Headed, Writable}
use Rattle.writing.proofs.Texts.{told, Gives}
use Rattle.writing.proofs.Kept.{elements_kept, lines_kept}

-- what is done behind the attribute lines
abbrev behind : ℕ → Bytes → List Element → Sofar → Result Bytes
behind room header es s =
    read_elements (suc (length s.attributes)) s es then finished then λ p.
    short (header ++ gathered (element_lines p.attributes) p.elements) then fitted room

write_is : (room : ℕ) (header : Bytes) (es : List Element) → write_file room header es ≡ ((short header then (read_text header_tests)) then behind room header es)
unfolding write_file
write_is room header es = go (short header) refl
  where
    go : (x : Result Bytes) → short header ≡ x → (x then λ h. read_text header_tests h then behind room h es) ≡ ((x then (read_text header_tests)) then behind room header es)
    go (refused n m) e = refl
    go (given h) e = ap (λ k. read_text header_tests h then behind room k es) (sym (short_given header h e).0)

-- an element of a list, by its place
small_at : (es : List Element) (i : ℕ) → All Small es → i < length es → Small (get_or es i blank)
small_at [] i a l = absurd (omega arith)
small_at (e ∷ es) zero a l = a.0
small_at (e ∷ es) (suc i) a l = small_at es i a.1 (omega arith)

-- attribute lines that are refused
pub header_refused : (header : Bytes) (r : Refused) → HeaderAs header (Err r) (short header then (read_text header_tests)) → (es : List Element) (old : Bytes) → (answer_of r ≡ write_answer header es old) × (old ≡ write_lent header es old)
header_refused header r is es old = (ap (answered length) (sym all), ap (lent old) (sym all))
  where
    go : (x : Result Sofar) → HeaderAs header (Err r) x → (x then behind (length old) header es) ≡ refused (number_of r.why) r.second
    go (refused n m) t = λ i. refused (sym t.is i).number (sym t.is i).second
    go (given s) t = absurd t

    all : write_file (length old) header es ≡ refused (number_of r.why) r.second
    all = write_is (length old) header es ∙ go (short header then (read_text header_tests)) is

module _ (header : Bytes) (a : Attributes) (is : HeaderAs header (Ok a) (short header then (read_text header_tests))) (old : Bytes) where
  pub header_read : (s : Sofar) × ((short header then (read_text header_tests)) ≡ given s) × HeaderHolds header a s
  header_read = go (short header then (read_text header_tests)) refl is
    where
      go : (x : Result Sofar) → (short header then (read_text header_tests)) ≡ x → HeaderAs header (Ok a) x → (s : Sofar) × ((short header then (read_text header_tests)) ≡ given s) × HeaderHolds header a s
      go (refused n m) e t = absurd t
      go (given s) e t = (s, e, t)

  pub holds : HeaderHolds header a header_read.0
  holds = header_read.2

  pub headed : Headed header a
  headed = record { short = holds.size; standing = holds.spaced.standing; few_values = holds.spaced.few_values }

  -- what was read so far: these attributes, and no element
  abbrev start : Sofar
  start = record { attributes = attributes_of header a; before = [] }

  written_behind : (es : List Element) → write_file (length old) header es ≡ behind (length old) header es start
  written_behind es =
      let (s, e, t) = header_read in
      write_is (length old) header es ∙ ap (λ x. x then behind (length old) header es) e ∙ (λ i. behind (length old) header es (record { attributes = t.attributes i; before = t.no_element i }))

  module _ (es : List Element) (c : Outcome (Unit {0}) Refused)
      {counts : List ℕ} (counted : counts ≡ counts_at a) (checks : (attrs : List _) → take a.len counts ≡ value_counts attrs → CheckedAs c (read_elements (suc a.len) (record { attributes = attrs; before = [] }) es)) where
    tested : CheckedAs c (read_elements (suc (length (attributes_of header a))) start es)
    tested = subst (λ n. CheckedAs c (read_elements (suc n) start es)) (sym (attributes_length header a)) (checks (attributes_of header a) (ap (take a.len) counted ∙ counts_are header a holds.spaced.standing))

    -- an element that is refused
    pub element_refused : (number_told c ≡ 0 → ⊥) → (told (number_told c) (line_told c) ≡ write_answer header es old) × (old ≡ write_lent header es old)
    element_refused h = (ap (answered length) (sym all), ap (lent old) (sym all))
      where
        rest : Result Sofar → Result Bytes
        rest x = x then finished then λ p. short (header ++ gathered (element_lines p.attributes) p.elements) then fitted (length old)

        go : (x : Result Sofar) → CheckedAs c x → rest x ≡ refused (number_told c) (line_told c)
        go (refused n m) t = λ i. refused (sym t.number i) (sym t.line i)
        go (given s) t = absurd (h t.number)

        all : write_file (length old) header es ≡ refused (number_told c) (line_told c)
        all = written_behind es ∙ go (read_elements (suc (length (attributes_of header a))) start es) tested

    -- no element
    pub none_given : length es ≡ 0 → (told 9 0 ≡ write_answer header es old) × (old ≡ write_lent header es old)
    none_given e =
        let none = nil_from_length es e in
        let all : write_file (length old) header es ≡ refused 9 0 = ap (write_file (length old) header) none ∙ written_behind [] in
        (ap (answered length) (sym all), ap (lent old) (sym all))

    -- elements that are good
    module _ (fine : number_told c ≡ 0) where
      taken : (z : Sofar) × (read_elements (suc (length (attributes_of header a))) start es ≡ given z)
      taken = go (read_elements (suc (length (attributes_of header a))) start es) refl tested
        where
          go : (x : Result Sofar) → read_elements (suc (length (attributes_of header a))) start es ≡ x → CheckedAs c x → (z : Sofar) × (read_elements (suc (length (attributes_of header a))) start es ≡ given z)
          go (refused n m) e t = absurd (omega (arith, t.number, t.from_three))
          go (given z) e t = (z, e)

      pub writable : Writable es
      writable =
          let (y, e) = taken in
          let first = suc (length (attributes_of header a)) in
          let most = taken_few first start es y e (omega arith) in
          record {
            few = omega arith;
            each = λ i l. let small = small_at es i (taken_small first start es y e) l in
                record { name = small.short; depth = small.shallow; few_obligations = small.few_obligations; obligations = small.short_obligations };
          }

      pub text_written : (length es ≡ 0 → ⊥) → {new : Bytes} {x : _} → Gives (header ++ gathered (element_lines (attributes_of header a)) es) old new x → (x ≡ write_answer header es old) × (new ≡ write_lent header es old)
      text_written some {new} {x} (answer, lends) = (answer ∙ ap (answered length) (sym all), lends ∙ ap (lent old) (sym all))
        where
          rest : Result Sofar → Result Bytes
          rest x = x then finished then λ p. short (header ++ gathered (element_lines p.attributes) p.elements) then fitted (length old)

          -- the policy that they make
          made : (y : Sofar) → y.attributes ≡ attributes_of header a → reverse y.before ≡ map kept es → rest (given y) ≡ (short (header ++ gathered (element_lines (attributes_of header a)) es) then fitted (length old))
          made y attributes elements = go y.before refl
            where
              go : (before : List Element) → y.before ≡ before → rest (given y) ≡ (short (header ++ gathered (element_lines (attributes_of header a)) es) then fitted (length old))
              go [] e = absurd (some (sym (length-map es kept) ∙ ap length (sym elements) ∙ ap (λ b. length (reverse b)) e))
              go (x ∷ xs) e =
                  rw e (λ i. short (header ++ gathered (element_lines (attributes i)) ((ap reverse (sym e) ∙ elements) i)) then fitted (length old))
                  ∙ ap (λ t. short (header ++ t) then fitted (length old)) (lines_kept (attributes_of header a) es)

          all : write_file (length old) header es ≡ (short (header ++ gathered (element_lines (attributes_of header a)) es) then fitted (length old))
          all =
              let (y, e) = taken in
              let (attributes, elements) = elements_kept (suc (length (attributes_of header a))) start es y e in
              written_behind es ∙ ap rest e ∙ made y attributes elements
