-- Sums of cells, word by word; sums of more than two cells by the same laws again. Assumes nothing.
use Rattle.std.proofs.Common.{◌≡◌, ℕ, ◌<◌, List, length, get_or, sym, ◌∙◌, ap₂, arith}
use Rattle.lists.proofs.Words.{AllWords}
use Rattle.lists.proofs.ZipLaws.{length_zip, get_or-zip, zip_words}
use Rattle.mixer.specs.Word.{plain_sum}
use Rattle.cell_sums.specs.CellSum.{cell_sum}

module _ (n : ℕ) (a b : List ℕ) (la : length a ≡ n) where
  pub length_sum : length (cell_sum a b) ≡ n
  unfolding cell_sum
  length_sum = length_zip plain_sum a b ∙ la

  pub sum_at : length b ≡ n → (j x y : ℕ) → j < n → x ≡ get_or a j 0 → y ≡ get_or b j 0 → plain_sum x y ≡ get_or (cell_sum a b) j 0
  unfolding cell_sum
  sum_at lb j x y h ex ey = ap₂ plain_sum ex ey ∙ sym (get_or-zip plain_sum a b j (omega arith) (omega arith))

pub sum_words : (a b : List ℕ) → AllWords a → AllWords b → AllWords (cell_sum a b)
unfolding cell_sum
sum_words = zip_words plain_sum (λ x y hx hy. omega arith)
