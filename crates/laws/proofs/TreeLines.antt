-- A tree line as the paper says it, and the element that is read of it and written as it.
use mathlib.Core.Path.{◌≡◌, refl, sym, ap, ◌∙◌}
use Prim.Native.Nat.{ℕ, zero, suc, ◌-◌, ◌≤◌}
use native.Mathlib.Omega.{arith}
use mathlib.Core.Bool.{true, false, not, ◌&&◌}
use mathlib.Core.List.{List, [], ◌∷◌, ◌++◌}
use lib.ListN.{length, take, drop, replicate}
use lib.Seq.{length-take-le, take-append_seam, drop-append_seam}
use lib.Dec.{leb}
use borrow.Author.Tests.{leb-true, ne_eqb, le-ltb}
use Rattle.meaning.specs.Text.{Bytes, bytes, all, same, between, name_byte, is_name}
use Rattle.meaning.specs.Model.{Attribute, name_of, kind_text, word_text, full, padded}
use Rattle.meaning.specs.Reading.{non_zero, bad_masks, bad_stored}
use Rattle.meaning.specs.Writing.{target_texts, element_fields}
use Rattle.meaning.specs.Claims.Texts.{All}
use Rattle.meaning.specs.Claims.PolicyFile.{GoodAttribute, Targets, TreeLine}
use Rattle.laws.proofs.Types.{Element}
use Rattle.laws.proofs.Bools.{contradiction, and_true}
use Rattle.laws.proofs.Fields.{digit}
use Rattle.laws.proofs.Bounds.{GoodLine, stored_short, named, masks_good, length_padded}
use Rattle.laws.proofs.Marks.{target_of_lem, of_target}
use Rattle.laws.proofs.LinesBack.{padded_take, masks_back}
use Rattle.laws.proofs.Words.{HasWord, allowed_word, word_allowed}

-- Names and masks with zeros behind them
pub zeros : (k : ℕ) → non_zero (replicate k 0) ≡ false
zeros zero = refl
zeros (suc k) = zeros k

pub name_size : (n : Bytes) → is_name n ≡ true → between 1 16 (length n) ≡ true
name_size n h =
    let a = (and_true (between 1 16 (length n) && all name_byte n) (not (same (take 1 n) (bytes "-"))) h).0 in
    (and_true (between 1 16 (length n)) (all name_byte n) a).0

pub record TargetsBack (attrs : List Attribute) (ts : List Bytes) (ms zs : List ℕ) : Type 0 where
  pub count : length ms ≡ length attrs
  pub masked : bad_masks attrs (ms ++ zs) ≡ false
  pub texts : target_texts attrs (ms ++ zs) ≡ ts

pub targets_back : (attrs : List Attribute) (ts : List Bytes) (ms zs : List ℕ) → All GoodAttribute attrs → non_zero zs ≡ false → Targets attrs ts ms → TargetsBack attrs ts ms zs
targets_back [] [] [] zs g z x = record { count = refl; masked = z; texts = refl }
targets_back [] [] (m ∷ ms) zs g z x = absurd x
targets_back [] (t ∷ ts) ms zs g z x = absurd x
targets_back (a ∷ attrs) [] ms zs g z x = absurd x
targets_back (a ∷ attrs) (t ∷ ts) [] zs g z x = absurd x
targets_back (a ∷ attrs) (t ∷ ts) (m ∷ ms) zs g z x =
    let own = of_target a.values t m g.0.some_value x.0 in
    let later = targets_back attrs ts ms zs g.1 z x.1 in
    record {
      count = ap suc later.count;
      masked = rw (ne_eqb m 0 (omega (arith, own.not_empty)), le-ltb (full a.values) m own.no_high_bit, later.masked);
      texts = rw (later.texts, ← own.is_text);
    }

pub targets_of : (attrs : List Attribute) (ms : List ℕ) → bad_masks attrs ms ≡ false → Targets attrs (target_texts attrs ms) (take (length attrs) ms)
targets_of [] ms h = tt
targets_of (a ∷ attrs) [] h = contradiction refl h
targets_of (a ∷ attrs) (m ∷ ms) h = let b = masks_good a attrs m ms h in (target_of_lem a.values m b.not_empty b.no_high_bit, targets_of attrs ms b.others)

-- A name in its 16 bytes
pub stored_name : (n : Bytes) → is_name n ≡ true → bad_stored (length n) (padded 16 n) ≡ false
stored_name n h =
    let behind : List ℕ = replicate (16 - length n) 0 in
    let is : is_name (take (length n) (padded 16 n)) ≡ true = rw (take-append_seam n behind) h in
    let none : non_zero (drop (length n) (padded 16 n)) ≡ false = rw (drop-append_seam n behind) (zeros (16 - length n)) in
    rw (name_size n h, is, none)

pub name_short : (n : Bytes) → is_name n ≡ true → length n ≤ 16
name_short n h = leb-true (length n) 16 (and_true (leb 1 (length n)) (leb (length n) 16) (name_size n h)).1

-- A good line's element is written as a tree line of it
module _ (attrs : List Attribute) (attributes_good : All GoodAttribute attrs) (few : length attrs ≤ 6) where
  pub tree_line_of : (e : Element) → GoodLine attrs e → HasWord e → TreeLine attrs (element_fields attrs e) e
  tree_line_of e g w =
      let n = named e g.named in
      let m = masks_back attrs e.masks attributes_good g.masked in
      let short = stored_short e.len e.name g.named in
      record {
        name = name_of e;
        targets = target_texts attrs e.masks;
        masks = take (length attrs) e.masks;
        are_fields = ap (λ d. kind_text e.kind ∷ d ∷ name_of e ∷ word_text e.word ∷ target_texts attrs e.masks) (digit e.depth (omega (arith, g.shallow)));
        shallow = g.shallow;
        is_name = n.is_name;
        name_bytes = sym (padded_take 16 e.len e.name g.name_size short n.zeros_behind);
        name_length = sym (length-take-le e.len e.name (omega (arith, g.name_size)));
        allowed = word_allowed e.kind e.word w;
        targeted = targets_of attrs e.masks g.masked;
        element_masks = sym (padded_take 6 (length attrs) e.masks g.masks_size few m.zeros_behind);
      }

  -- and a tree line is a good one, of an element that is written so
  pub record OfLine (fs : List Bytes) (e : Element) : Type 0 where
    pub good : GoodLine attrs e
    pub fields : fs ≡ element_fields attrs e
    pub word : HasWord e

  pub of_tree_line : (fs : List Bytes) (e : Element) → TreeLine attrs fs e → OfLine fs e
  of_tree_line fs e x =
      let n = x.name in
      let again : name_of e ≡ n = rw (x.name_bytes, x.name_length) (take-append_seam n (replicate (16 - length n) 0)) in
      let back = targets_back attrs x.targets x.masks (replicate (6 - length x.masks) 0) attributes_good (zeros (6 - length x.masks)) x.targeted in
      record {
        good = record {
          named = rw (x.name_bytes, x.name_length) (stored_name n x.is_name);
          shallow = x.shallow;
          masked = rw x.element_masks back.masked;
          name_size = ap length x.name_bytes ∙ length_padded 16 n (name_short n x.is_name);
          masks_size = ap length x.element_masks ∙ length_padded 6 x.masks (omega (arith, back.count));
        };
        fields = x.are_fields ∙ rw (digit e.depth (omega (arith, x.shallow)), again, x.element_masks, back.texts);
        word = allowed_word e.kind e.word x.allowed;
      }
