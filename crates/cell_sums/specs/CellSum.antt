-- Sums of cells.
use Rattle.std.specs.Prelude.{ℕ, List}
use Rattle.mixer.specs.Word.{plain_sum}
use Rattle.lists.specs.Zip.{zip_into}

-- the wordwise sum of two cells; it is a plain sum with every addition of G
unfoldable pub cell_sum : List ℕ → List ℕ → List ℕ
cell_sum = zip_into plain_sum
