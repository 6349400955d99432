-- What a turn reads stands behind what was read before it, and was taken from the reader next.
use Rattle.std.proofs.Common.{◌≡◌, ◌≤◌, ℕ, ◌+◌, ◌-◌, List, ◌++◌, length, take, subst, sym, ap, ◌∙◌, rules, length-take-le}
use Rattle.std.proofs.Math.Seq.{take-append-add}
use Rattle.std.proofs.lemmas.List.{take-append-le}
use Rattle.std.specs.Io.KnownBytes.{Consumes}
use Rattle.std.proofs.KnownBytes.{Consumes-trans}
use borrow.Rule.Slice.PartMut.{put_mid, post_of}
use Rattle.input.proofs.read_all.Goals as goal

-- the first bytes of a list whose part from d on was overwritten
filled : (d k n : ℕ) (xs ys : List ℕ) → d ≤ length xs → n ≤ length ys → take (d + n) (put_mid d k xs ys) ≡ take d xs ++ take n ys
filled d k n xs ys within fits =
    let rest = ys ++ post_of d k xs in
    let front : length (take d xs) ≡ d = length-take-le d xs within in
    ap (λ m. take (m + n) (take d xs ++ rest)) (sym front) ∙ take-append-add (take d xs) rest n ∙ ap (λ l. take d xs ++ l) (take-append-le n ys (post_of d k xs) fits)

pub loop-done-preserved : goal.loop-done-preserved
loop-done-preserved g c =
    let from = c.loop-done.done in (
      search rules,
      subst (Consumes _ _) (sym (filled from (length c.loop-done.file - from) c.in-Ok.more c.loop-done.file c.read.new.buf c.loop-done.invariant.0 (search rules)))
          (Consumes-trans _ _ _ _ _ c.loop-done.invariant.1 c.in-Ok.ensures.bytes.0),
    )
