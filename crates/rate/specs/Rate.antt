-- The output of the sponge.
use Rattle.std.specs.Prelude.{ℕ, List, get_or}
use Rattle.lists.specs.Zip.{tabulate}
use Rattle.profile.specs.Profile.{cell_words}

-- document 01 names it rand
unfoldable pub rand : List ℕ → List ℕ
rand s = tabulate cell_words (λ i. get_or s i 0)
