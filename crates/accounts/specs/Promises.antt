-- What the operations on a book promise: the answer, and what they leave in the lent slice, which is `book` before the call and `book'`
-- after it.
use Rattle.std.specs.Prelude.{◌≡◌, ℕ, List, [], ◌∷◌, ◌++◌, length, take, Result, Ok, Err}
use Rattle.settings.specs.Settings.{usual}
use Rattle.settings.specs.declared.Parameters.{Parameters}
use Rattle.settings.specs.declared.StoredParameters.{StoredParameters}
use Rattle.refusals.specs.Refusals.{number_of}
use Rattle.refusals.specs.declared.Refusal.{Refusal}
use Rattle.refusals.specs.Checks.{Check, first, answered, password_check, matrix_check, book_check, account_check, book_room_check, stored_checks}
use Rattle.accounts.specs.Accounts.{Account, encode_all, accounts}
use Rattle.accounts.specs.Book.{has, found, place_of, without, with, is_book, rewritten}

-- the account that a caller gives part by part
abbrev pub account : ℕ → StoredParameters → List ℕ → List ℕ → Account
account number p salt key = record { number = number; parameters = p; salt = salt; key = key }

-- the accounts of the used part
abbrev pub accounts_in : ℕ → List ℕ → List Account
accounts_in used book = accounts (take used book)

abbrev pub good_book : ℕ → List ℕ → Check
good_book used book = book_check used (length book) (is_book (take used book))

-- 0 or the number of a refusal, and a place in the book: of the account that was looked for, or where the used part now ends
pub record BookAnswer : Type 0 where
  pub refusal : ℕ
  pub place : ℕ

unfoldable pub placed : ℕ → BookAnswer
placed place = record { refusal = 0; place = place }

unfoldable pub no_place : ℕ → BookAnswer
no_place number = record { refusal = number; place = 0 }

-- what the code answers, as such a record
abbrev pub place_answer : Result ℕ Refusal → BookAnswer
place_answer (Ok place) = placed place
place_answer (Err r) = no_place (number_of r)

abbrev pub book_answer : ℕ → ℕ → BookAnswer
book_answer number place = answered number (placed place) (no_place number)

-- ---- finding and removing

unfoldable pub find_checks : ℕ → ℕ → List ℕ → List Check
find_checks number used book = good_book used book ∷ account_check (has number (accounts_in used book)) ∷ []

abbrev pub find_number : ℕ → ℕ → List ℕ → ℕ
find_number number used book = first (find_checks number used book)

unfoldable pub find_answer : ℕ → ℕ → List ℕ → BookAnswer
find_answer number used book = book_answer (find_number number used book) (place_of number (accounts_in used book))

-- accounts were put in place of those of before, or the call was refused
pub record Changed (number : ℕ) (l : List Account) (used : ℕ) (book book' : List ℕ) (r : BookAnswer) : Type 0 where
  pub answer : r ≡ book_answer number (length (encode_all l))
  pub book_after : book' ≡ answered number (rewritten l used book) book

abbrev pub Removed : ℕ → ℕ → List ℕ → List ℕ → BookAnswer → Type 0
Removed number used book book' r = Changed (find_number number used book) (without number (accounts_in used book)) used book book' r

-- ---- adding: the new account first, then the book, then the room for all

unfoldable pub add_checks : Account → ℕ → List ℕ → List Check
add_checks a used book =
    stored_checks (length a.key) (length a.salt) a.parameters
    ++ (good_book used book ∷ book_room_check (length (encode_all (with a (accounts_in used book)))) (length book) ∷ [])

abbrev pub add_number : Account → ℕ → List ℕ → ℕ
add_number a used book = first (add_checks a used book)

abbrev pub Added : Account → ℕ → List ℕ → List ℕ → BookAnswer → Type 0
Added a used book book' r = Changed (add_number a used book) (with a (accounts_in used book)) used book book' r

-- ---- checking a password against an account, with the usual settings

abbrev pub account_parameters : ℕ → ℕ → List ℕ → Parameters
account_parameters number used book = usual (found number (accounts_in used book)).parameters

unfoldable pub check_checks : ℕ → ℕ → ℕ → List ℕ → ℕ → List Check
check_checks password number used book matrix =
    password_check password ∷ find_checks number used book ++ (matrix_check (account_parameters number used book) matrix ∷ [])

abbrev pub check_number : ℕ → ℕ → ℕ → List ℕ → ℕ → ℕ
check_number password number used book matrix = first (check_checks password number used book matrix)
