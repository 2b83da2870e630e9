-- The numbers of accounts, as the code compares them: those of a block with one another and with all behind it.
use Rattle.std.specs.Prelude.{◌≡◌, Bool, true, false, not, ◌&&◌, ◌||◌, ℕ, ◌≤◌, ◌<◌, List, [], ◌∷◌, ◌++◌, eqb, length, take, drop}
use Rattle.accounts.specs.Accounts.{Account, accounts}
use Rattle.accounts.specs.Book.{Running}

unfoldable pub numbers_of : List Account → List ℕ
numbers_of [] = []
numbers_of (a ∷ l) = a.number ∷ numbers_of l

-- those of the accounts from a place on
abbrev pub numbers_from : List ℕ → ℕ → List ℕ
numbers_from book at = numbers_of (accounts (drop at book))

unfoldable pub member : ℕ → List ℕ → Bool
member x [] = false
member x (y ∷ l) = eqb y x || member x l

-- no number stands twice
unfoldable pub differ : List ℕ → Bool
differ [] = true
differ (x ∷ l) = not (member x l) && differ l

-- a number of the second list stands in the first
unfoldable pub meet : List ℕ → List ℕ → Bool
meet block [] = false
meet block (x ∷ l) = member x block || meet block l

-- the numbers from a place on are those of a block, of so many, and those from a later place on
pub record Collected (book : List ℕ) (at : ℕ) (block : List ℕ) (count end : ℕ) : Type 0 where
  pub count_most : count ≤ length block
  pub moves : at < length book → at < end
  pub running : Running book end
  pub numbers : numbers_from book at ≡ take count block ++ numbers_from book end
