-- An account, and accounts as bytes: mark, number, T, R, C, the lengths of salt and key, salt, key.
use Rattle.std.specs.Prelude.{ℕ, zero, suc, ◌+◌, ◌-◌, ◌^◌, ◌<◌, ◌≡◌, Bool, cond, ◌&&◌, List, [], ◌∷◌, ◌++◌, eqb, leb, length, get_or, take, drop, Option, Some, None}
use Rattle.little_endian.specs.Bytes.{le_value, le_bytes}
use Rattle.settings.specs.declared.StoredParameters.{StoredParameters}
use Rattle.refusals.specs.Checks.{Check, first, stored_checks}
use Rattle.text.specs.Text.{stands_at}
use Rattle.accounts.specs.declared.Entry.{Entry}

-- ---- written

pub record Account : Type 0 where
  pub number : ℕ
  pub parameters : StoredParameters
  pub salt : List ℕ
  pub key : List ℕ

-- `Ac` in ASCII
abbrev pub mark : List ℕ
mark = 65 ∷ 67 ∷ []

-- the bytes before the salt
abbrev pub head_bytes : ℕ
head_bytes = 14

-- mark and numbers, the lowest byte first
unfoldable pub head : ℕ → StoredParameters → ℕ → ℕ → List ℕ
head number p salt key =
    mark ++ (le_bytes 4 number ++ (le_bytes 1 p.time ++ (le_bytes 2 p.rows ++ (le_bytes 2 p.columns ++ (le_bytes 1 salt ++ le_bytes 2 key)))))

unfoldable pub encode : Account → List ℕ
encode a = head a.number a.parameters (length a.salt) (length a.key) ++ (a.salt ++ a.key)

unfoldable pub encode_all : List Account → List ℕ
encode_all [] = []
encode_all (a ∷ l) = encode a ++ encode_all l

-- ---- read

-- the number of so many bytes at a place
abbrev pub number_at : ℕ → ℕ → List ℕ → ℕ
number_at place width bytes = le_value (take width (drop place bytes))

-- an account's numbers, and the size that they make
abbrev pub entry_by : ℕ → StoredParameters → ℕ → ℕ → Entry
entry_by number p salt key = record { size = head_bytes + salt + key; number = number; parameters = p; salt = salt; key = key }

-- what a head says
unfoldable pub head_of : List ℕ → Entry
head_of bytes =
    let p : StoredParameters = record { time = number_at 6 1 bytes; rows = number_at 7 2 bytes; columns = number_at 9 2 bytes } in
    entry_by (number_at 2 4 bytes) p (number_at 11 1 bytes) (number_at 12 2 bytes)

-- the limits of what is kept of an operator
abbrev pub limits : Entry → List Check
limits e = stored_checks e.key e.salt e.parameters

-- bytes begin with a mark, and with the whole of an account within the limits
unfoldable pub is_whole : List ℕ → Bool
is_whole bytes = stands_at bytes 0 mark && eqb (first (limits (head_of bytes))) 0 && leb (head_of bytes).size (length bytes)

-- what stands in front: an account's numbers, if there is one
unfoldable pub whole_entry : List ℕ → Option Entry
whole_entry bytes = cond (is_whole bytes) (Some (head_of bytes)) None

-- the same with zeros where there is none
unfoldable pub nothing : Entry
nothing = record { size = 0; number = 0; parameters = record { time = 0; rows = 0; columns = 0 }; salt = 0; key = 0 }

unfoldable pub entry_of : List ℕ → Entry
entry_of bytes = cond (is_whole bytes) (head_of bytes) nothing

unfoldable pub account_of : List ℕ → Account
account_of bytes =
    let e = head_of bytes in
    record {
      number = e.number;
      parameters = e.parameters;
      salt = take e.salt (drop head_bytes bytes);
      key = take e.key (drop (head_bytes + e.salt) bytes);
    }

-- one whole account after another, after so many bytes that belong to the last one
unfoldable pub accounts_after : ℕ → List ℕ → List Account
accounts_after skip [] = []
accounts_after (suc skip) (b ∷ bytes) = accounts_after skip bytes
accounts_after zero (b ∷ bytes) =
    cond (is_whole (b ∷ bytes)) (account_of (b ∷ bytes) ∷ accounts_after ((head_of (b ∷ bytes)).size - 1) bytes) []

abbrev pub accounts : List ℕ → List Account
accounts = accounts_after 0

-- ---- which accounts can be written and read again

pub record Good (a : Account) : Type 0 where
  pub within : first (stored_checks (length a.key) (length a.salt) a.parameters) ≡ 0
  pub number_fits : a.number < 2 ^ 32
  pub salt_bytes : (i : ℕ) → get_or a.salt i 0 < 256
  pub key_bytes : (i : ℕ) → get_or a.key i 0 < 256
