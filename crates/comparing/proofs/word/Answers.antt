-- `comparing::word` meets its contract: byte after byte, from the highest.
use Prim.Native.Nat.{◌+◌, ◌*◌}
use mathlib.Core.Path.{ap, ◌∙◌}
use native.Mathlib.Nat.{add-zero}
use lib.ListN.{get_or}
use Rattle.comparing.specs.Words.{word_at, BytesAt}
use Rattle.comparing.proofs.word.Goals as goal

pub returns : goal.returns
unfolding word_at BytesAt
returns c =
    let a = c.args in
    let s = a.s.now in
    let i = a.i in
    let b7 = c.below-h.ensures in
    let b6 = c.below-h-2.ensures in
    let b5 = c.below-h-3.ensures in
    let b4 = c.below-h-4.ensures in
    let b3 = c.below-h-5.ensures in
    let b2 = c.below-h-6.ensures in
    let b1 = c.below-h-7.ensures in
    let b0 = c.below.ensures in
    let h7 = b7.0 ∙ add-zero (get_or s (i + 7) 0) in
    let h6 = b6.0 ∙ ap (λ h. get_or s (i + 6) 0 + 256 * h) h7 in
    let h5 = b5.0 ∙ ap (λ h. get_or s (i + 5) 0 + 256 * h) h6 in
    let h4 = b4.0 ∙ ap (λ h. get_or s (i + 4) 0 + 256 * h) h5 in
    let h3 = b3.0 ∙ ap (λ h. get_or s (i + 3) 0 + 256 * h) h4 in
    let h2 = b2.0 ∙ ap (λ h. get_or s (i + 2) 0 + 256 * h) h3 in
    let h1 = b1.0 ∙ ap (λ h. get_or s (i + 1) 0 + 256 * h) h2 in
    record { value = b0.0 ∙ ap (λ h. get_or s i 0 + 256 * h) h1; bytes = (b0.1, b1.1, b2.1, b3.1, b4.1, b5.1, b6.1, b7.1) }
