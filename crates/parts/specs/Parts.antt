-- A matrix of which parts are lent: one part is the caller's own, to be written, with what stands before it and after it; other parts may be
-- lent beside it, to be read.
use Rattle.std.specs.Prelude.{◌≡◌, cond, ℕ, ◌<◌, List, ◌++◌, length, eqb}
use Rattle.places.specs.Places.{place, cell_start}
use Rattle.places.specs.declared.RowStart.{RowStart}
use Rattle.matrix.specs.Cells.{cell_from}

-- the whole matrix around one's own part
abbrev pub around : List ℕ → List ℕ → List ℕ → List ℕ
around before after own = before ++ (own ++ after)

-- where a row is looked for: in a part that is lent, and in one's own where that one is empty
unfoldable pub found_in : List ℕ → List ℕ → List ℕ
found_in own lent = cond (eqb (length lent) 0) own lent

-- how many words there are, of so many of one's own
abbrev pub found_words : ℕ → List ℕ → ℕ
found_words words lent = cond (eqb (length lent) 0) words (length lent)

-- the cells of a row are found there from a start on, whatever one's own words are, of which there are so many
abbrev pub Found : ℕ → ℕ → List ℕ → List ℕ → List ℕ → RowStart → ℕ → Type 0
Found C words before after lent start row =
    (own : List ℕ) → length own ≡ words → (col : ℕ) → col < C → cell_from (cell_start start col) (found_in own lent) ≡ cell_from (place C row col) (around before after own)
