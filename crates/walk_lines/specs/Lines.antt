-- The lines of the Setup steps. Bytes are in ASCII: 32 is the space, 10 is the newline.
use Rattle.std.specs.Prelude.{ℕ, zero, suc, ◌+◌, List, [], ◌∷◌, ◌++◌}
use Rattle.setup_order.specs.SetupOrder.{row1_of}
use Rattle.decimal.specs.Decimal.{decimal}

-- row0, a space, row1, a newline
unfoldable pub line : ℕ → ℕ → List ℕ
line row0 row1 = decimal row0 ++ (32 ∷ []) ++ decimal row1 ++ (10 ∷ [])

-- the lines of the first k Setup steps, from row 3
unfoldable pub step_lines : ℕ → List ℕ
step_lines zero = []
step_lines (suc k) = step_lines k ++ line (3 + k) (row1_of (3 + k))

-- room for the longest output: two numbers of at most five digits, a space and a newline for each row
abbrev pub output_bytes : ℕ
output_bytes = 196608
