-- A proposal that flags do not stand for: its refusal, or its first other line.
use mathlib.Core.Path.{◌≡◌, refl, sym, ap, ◌∙◌}
use Prim.Native.Nat.{ℕ, zero, suc}
use Rattle.std.specs.Prelude.{Option as Found}
use Rattle.std.specs.Option.{unwrap_or}
use mathlib.Core.Option.{Option, none, some}
use Rattle.meaning.specs.Text.{Bytes}
use Rattle.meaning.specs.Model.{Policy, refused, given}
use Rattle.meaning.specs.Reading.{read}
use Rattle.meaning.specs.Trimming.{file_lines}
use Rattle.meaning.specs.Accepting.{first_other, judged, accept_file}
use Rattle.meaning.specs.Operations.{accept_answer}
use Rattle.laws.proofs.Reading.{accepted}
use Rattle.laws.proofs.Operations.{operations}
use Rattle.laws.proofs.OtherLines.{leaves_out}
use Rattle.other_lines.specs.Told.{line_told}
use Rattle.accepting.specs.Judged.{LeavesOthersOut}

module _ (f g : Bytes) (out : LeavesOthersOut f g) where
  pub told_refusal : {n m : ℕ} → read g ≡ refused n m → record { number = n; second = m } ≡ accept_answer f g
  told_refusal {n} {m} e = sym (operations.accepts_no_proposal f g out.policy n m out.is_read e)

  pub told_line : (q : Policy) → read g ≡ given q → {r : Found ℕ} → r ≡ line_told (first_other 1 (file_lines f) (file_lines g)) → record { number = 16; second = unwrap_or r 0 } ≡ accept_answer f g
  unfolding judged accept_file
  told_line q i {r} is = go (first_other 1 (file_lines f) (file_lines g)) refl
    where
      numbered : (k : ℕ) → unwrap_or (line_told (some k)) 0 ≡ k
      numbered zero = refl
      numbered (suc k) = refl

      go : (o : Option ℕ) → first_other 1 (file_lines f) (file_lines g) ≡ o → record { number = 16; second = unwrap_or r 0 } ≡ accept_answer f g
      go none e = absurd (out.others (accepted g q i).text.pieces (leaves_out (file_lines f) (file_lines g) e))
      go (some k) e = ap (λ l. record { number = 16; second = l }) (ap (λ o. unwrap_or o 0) (is ∙ ap line_told e) ∙ numbered k) ∙ sym (rw (out.is_read, i, e))
