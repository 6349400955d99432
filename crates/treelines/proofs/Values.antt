-- The names of the values whose bits are set, name by name.
use mathlib.Core.Path.{◌≡◌, refl, sym, ap, ◌∙◌}
use mathlib.Core.Logic.{◌≢◌}
use Prim.Native.Nat.{ℕ, ◌+◌, ◌-◌, ◌/◌, ◌%◌, ◌≤◌}
use native.Mathlib.Omega.{arith}
use mathlib.Core.Bool.{Bool, true, false, cond}
use mathlib.Core.List.{List, [], ◌∷◌, ◌++◌, append_assoc, append-nil}
use lib.ListN.{length, take, drop, get_or}
use borrow.Author.Tests.{eq-eqb, ne_eqb, lt-ltb, le-ltb}
use Rattle.meaning.specs.Text.{Bytes, gathered, cut, join, tab, comma}
use Rattle.meaning.specs.Writing.{value_names}
use Rattle.text.proofs.Pieces.{behind, piece_at_lem, piece_length}
use Rattle.printing.specs.declared.Sink.{Sink}
use Rattle.printing.specs.Puts.{Puts}
use Rattle.printing.proofs.Laws.{then, nothing, join_behind, same_text}

-- a name, with a comma before it if it is a later one; and names that are still to be written
abbrev pub name_text : Bool → Bytes → Bytes
name_text later n = cond later (comma ∷ n) n

abbrev names_text : Bool → List Bytes → Bytes
names_text later ns = cond later (gathered (λ n. comma ∷ n) ns) (join comma ns)

names_next : (later : Bool) (n : Bytes) (ns : List Bytes) → names_text later (n ∷ ns) ≡ name_text later n ++ names_text true ns
names_next true n ns = refl
names_next false n ns = join_behind comma n ns

names_none : (later : Bool) → names_text later [] ≡ []
names_none true = refl
names_none false = refl

-- the names before `start` are put into a sink; those behind it, whose bits are the lowest of `left`, make all names with them
pub record Walked (values : Bytes) (mask : ℕ) (a : Sink) (start left : ℕ) (later : Bool) (b : Sink) : Type 0 where
  pub here : start ≤ length values
  pub done : Bytes
  pub text : Puts a done b
  pub all : done ++ names_text later (value_names (cut tab (drop start values)) left) ≡ join comma (value_names (cut tab values) mask)
  pub within : b.at ≤ a.at + start

-- the same with the names up to that of the value that ends at e
pub record Passed (values : Bytes) (mask : ℕ) (a : Sink) (e left : ℕ) (later : Bool) (b : Sink) : Type 0 where
  pub inside : e ≤ length values
  pub done : Bytes
  pub text : Puts a done b
  pub all : done ++ names_text later (value_names (behind tab values e) (left / 2)) ≡ join comma (value_names (cut tab values) mask)
  pub within : b.at ≤ a.at + e + 1

pub walk_starts : (values : Bytes) (mask : ℕ) (a : Sink) → Walked values mask a 0 mask false a
walk_starts values mask a = record { here = omega arith; done = []; text = nothing a; all = refl; within = omega arith }

module _ {values : Bytes} {mask : ℕ} {a : Sink} {start left : ℕ} {later : Bool} {b : Sink} (w : Walked values mask a start left later b) where
  -- the value at hand ends at e
  module _ {e : ℕ} (ends : e ≡ start + length (get_or (cut tab (drop start values)) 0 [])) (inside : e ≤ length values) where
    abbrev value : Bytes
    value = take (e - start) (drop start values)

    -- its bit is set, and its name is put
    pub walk_names : left % 2 ≡ 1 → {c : Sink} → Puts b (name_text later value) c × (c.at ≤ b.at + length value + 1) → Passed values mask a e left true c
    walk_names odd (put, l) =
        record {
          inside = inside;
          done = w.done ++ name_text later value;
          text = then w.text put;
          all =
              append_assoc w.done (name_text later value) (names_text true (value_names (behind tab values e) (left / 2)))
              ∙ ap (λ t. w.done ++ t) (sym (names_next later value (value_names (behind tab values e) (left / 2))) ∙ rw (piece_at_lem tab values start e ends inside, eq-eqb (left % 2) 1 odd))
              ∙ w.all;
          within = omega (arith, w.within, l, piece_length tab values start e ends inside);
        }

    -- or not, and it is passed over
    pub walk_passes : left % 2 ≢ 1 → Passed values mask a e left later b
    walk_passes even =
        record {
          inside = inside;
          done = w.done;
          text = w.text;
          all = ap (λ t. w.done ++ t) (rw (piece_at_lem tab values start e ends inside, ne_eqb (left % 2) 1 even)) ∙ w.all;
          within = omega (arith, w.within, ends);
        }

module _ {values : Bytes} {mask : ℕ} {a : Sink} {e left : ℕ} {later : Bool} {b : Sink} (p : Passed values mask a e left later b) where
  -- another value follows
  pub walk_goes_on : e ≢ length values → Walked values mask a (e + 1) (left / 2) later b
  walk_goes_on more =
      record {
        here = omega (arith, p.inside);
        done = p.done;
        text = p.text;
        all = rw (lt-ltb e (length values) (omega (arith, p.inside))) at p.all;
        within = omega (arith, p.within);
      }

  -- or none
  pub walk_ends : length values ≤ 16384 → e ≡ length values → Puts a (join comma (value_names (cut tab values) mask)) b × (b.at ≤ a.at + 16385)
  walk_ends short l =
      let whole = sym (append-nil p.done) ∙ rw (le-ltb e (length values) (omega arith), names_none later) at p.all in
      (same_text whole p.text, omega (arith, p.within))
