-- What a refusal may go by: the heads that are come to from account to account, and no byte of a salt or a key.
use Rattle.std.specs.Prelude.{ℕ, zero, suc, ◌-◌, cond, List, [], ◌∷◌, take}
use Rattle.accounts.specs.Accounts.{head_bytes, head_of, is_whole}

-- the head in front, of fewer bytes where it is cut off, and where a whole account stands there, the heads behind it
unfoldable pub heads_after : ℕ → List ℕ → List (List ℕ)
heads_after skip [] = []
heads_after (suc skip) (b ∷ bytes) = heads_after skip bytes
heads_after zero (b ∷ bytes) =
    take head_bytes (b ∷ bytes) ∷ cond (is_whole (b ∷ bytes)) (heads_after ((head_of (b ∷ bytes)).size - 1) bytes) []

abbrev pub heads : List ℕ → List (List ℕ)
heads = heads_after 0
