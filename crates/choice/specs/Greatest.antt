-- The greatest number of a range that stays within a limit.
use Rattle.std.specs.Prelude.{ℕ, zero, suc, ◌+◌, ◌-◌, cond, leb}

-- of n numbers from the least on
unfoldable pub greatest_of : (ℕ → ℕ) → ℕ → ℕ → ℕ → ℕ
greatest_of f limit least zero = 0
greatest_of f limit least (suc n) = cond (leb (f (least + n)) limit) (least + n) (greatest_of f limit least n)

-- the greatest x of least to most with f x at most the limit, 0 where there is none
abbrev pub greatest : (ℕ → ℕ) → ℕ → ℕ → ℕ → ℕ
greatest f limit least most = greatest_of f limit least (most + 1 - least)
