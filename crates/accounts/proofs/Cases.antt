-- Worked books: an account as bytes and back, and each refusal of a book that is just right and just not. Assumes nothing.
use mathlib.Core.Path.{◌≡◌, refl}
use Prim.Native.Nat.{ℕ}
use mathlib.Core.List.{List, [], ◌∷◌, ◌++◌}
use Rattle.lists.specs.Every.{same_bytes}
use Rattle.little_endian.specs.Bytes.{le_value, le_bytes}
use Rattle.refusals.specs.Checks.{first, stored_checks}
use Rattle.accounts.specs.Accounts.{Account, head, encode, encode_all, head_of, is_whole, account_of, accounts_after, accounts}
use Rattle.accounts.specs.Book.{has, distinct, without, with, is_book}
use Rattle.accounts.specs.Promises.{find_checks, find_number, add_checks, add_number}

-- number 258, T 1, R 772, C 1, a salt of the bytes 1 to 8 and the key 9
abbrev account : ℕ → Account
account n =
    record {
      number = n;
      parameters = record { time = 1; rows = 772; columns = 1 };
      salt = 1 ∷ 2 ∷ 3 ∷ 4 ∷ 5 ∷ 6 ∷ 7 ∷ 8 ∷ [];
      key = 9 ∷ [];
    }

abbrev bytes : List ℕ
bytes = 65 ∷ 67 ∷ 2 ∷ 1 ∷ 0 ∷ 0 ∷ 1 ∷ 4 ∷ 3 ∷ 1 ∷ 0 ∷ 8 ∷ 1 ∷ 0 ∷ 1 ∷ 2 ∷ 3 ∷ 4 ∷ 5 ∷ 6 ∷ 7 ∷ 8 ∷ 9 ∷ []

pub account_written : encode_all (account 258 ∷ []) ≡ bytes
unfolding encode_all encode head le_bytes
account_written = refl

pub account_read : accounts bytes ≡ account 258 ∷ []
unfolding accounts_after is_whole account_of head_of same_bytes le_value first stored_checks
account_read = refl

-- the number is there, another is not; a used length of a byte less, and of one more than the slice has; the account twice; no account
pub found_or_not : (find_number 258 23 bytes ≡ 0) × (find_number 257 23 bytes ≡ 18) × (find_number 258 22 bytes ≡ 17) × (find_number 258 24 bytes ≡ 17)
    × (find_number 258 46 (bytes ++ bytes) ≡ 17) × (find_number 258 0 [] ≡ 18)
unfolding find_checks first stored_checks is_book accounts_after is_whole account_of head_of same_bytes le_value le_bytes encode_all encode head distinct has
found_or_not = (refl, refl, refl, refl, refl, refl)

-- room for a second account and one byte less; the same account anew needs no more than it had
pub room_or_not : (add_number (account 1) 23 (bytes ++ bytes) ≡ 0) × (add_number (account 1) 23 (bytes ++ (0 ∷ [])) ≡ 19) × (add_number (account 258) 23 bytes ≡ 0)
unfolding add_checks first stored_checks is_book accounts_after is_whole account_of head_of same_bytes le_value le_bytes encode_all encode head distinct has with without
room_or_not = (refl, refl, refl)
