-- What checking a password against an account promises: what the check of a stored key does, with the account's key, salt and T, R and C.
use Rattle.std.specs.Prelude.{ℕ, List, length}
use Rattle.settings.specs.Settings.{usual}
use Rattle.input.specs.Input.{input}
use Rattle.derivation.specs.Promises.{plain_number, ComparedBy}
use Rattle.derivation.specs.Answers.{Costs}
use Rattle.accounts.specs.Accounts.{Account}
use Rattle.accounts.specs.Book.{found}
use Rattle.accounts.specs.Promises.{accounts_in, check_number}

-- by the number of the first refusal
abbrev pub CheckedBy : ℕ → List ℕ → Account → List ℕ → List ℕ → Costs → ℕ → Type 0
CheckedBy number password a matrix = ComparedBy number (usual a.parameters) (input password a.salt (length a.key)) a.key matrix

-- an account by itself: the refusals of the check of a stored key
abbrev pub KeyChecked : List ℕ → Account → List ℕ → List ℕ → Costs → ℕ → Type 0
KeyChecked password a matrix =
    CheckedBy (plain_number (usual a.parameters) (input password a.salt (length a.key)) matrix) password a matrix

-- an account of a book
abbrev pub AccountChecked : List ℕ → List ℕ → ℕ → ℕ → List ℕ → List ℕ → Costs → ℕ → Type 0
AccountChecked password book used number matrix =
    CheckedBy (check_number (length password) number used book (length matrix)) password (found number (accounts_in used book)) matrix
