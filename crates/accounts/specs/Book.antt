-- The book: a list of accounts with distinct numbers, and how it changes.
use Rattle.std.specs.Prelude.{◌≡◌, ℕ, ◌+◌, ◌-◌, ◌≤◌, Bool, true, false, cond, not, ◌&&◌, ◌||◌, List, [], ◌∷◌, ◌++◌, eqb, length, drop, replicate}
use Rattle.lists.specs.Zip.{put_into}
use Rattle.accounts.specs.Accounts.{Account, encode, encode_all, accounts}

-- ---- a list of accounts

-- an account has this number
unfoldable pub has : ℕ → List Account → Bool
has number [] = false
has number (a ∷ l) = eqb a.number number || has number l

unfoldable pub distinct : List Account → Bool
distinct [] = true
distinct (a ∷ l) = not (has a.number l) && distinct l

-- the account of a number; where there is none, one of zeros
unfoldable pub found : ℕ → List Account → Account
found number [] = record { number = 0; parameters = record { time = 0; rows = 0; columns = 0 }; salt = []; key = [] }
found number (a ∷ l) = cond (eqb a.number number) a (found number l)

-- where its bytes start among those of all; where there is none, where they end
unfoldable pub place_of : ℕ → List Account → ℕ
place_of number [] = 0
place_of number (a ∷ l) = cond (eqb a.number number) 0 (length (encode a) + place_of number l)

unfoldable pub without : ℕ → List Account → List Account
without number [] = []
without number (a ∷ l) = cond (eqb a.number number) (without number l) (a ∷ without number l)

-- an account put last, in place of one of its number
unfoldable pub with : Account → List Account → List Account
with a l = without a.number l ++ (a ∷ [])

-- ---- the used part of a slice

-- a run of whole accounts, and nothing behind them
abbrev pub is_run : List ℕ → Bool
is_run bytes = eqb (length (encode_all (accounts bytes))) (length bytes)

-- the same as a statement, and of what stands from a place on
abbrev pub Run : List ℕ → Type 0
Run bytes = length (encode_all (accounts bytes)) ≡ length bytes

pub record Running (book : List ℕ) (at : ℕ) : Type 0 where
  pub inside : at ≤ length book
  pub rest : Run (drop at book)

unfoldable pub is_book : List ℕ → Bool
is_book bytes = is_run bytes && distinct (accounts bytes)

-- accounts in a slice of which so many bytes were used: those that are no longer used are zeros, those that neither are nor were are kept
unfoldable pub rewritten : List Account → ℕ → List ℕ → List ℕ
rewritten l used slice = put_into slice (encode_all l ++ replicate (used - length (encode_all l)) 0)
