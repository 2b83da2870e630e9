-- A derivation's input and its absorption.
use Rattle.std.specs.Prelude.{ℕ, zero, suc, ◌*◌, List, [], ◌∷◌, length, drop}
use Rattle.little_endian.specs.Bytes.{le_words}
use Rattle.profile.specs.Profile.{full_rounds, block_words, start}
use Rattle.sponge.specs.Sponge.{absorb}
use Rattle.settings.specs.declared.Lengths.{Lengths}
use Rattle.settings.specs.Settings.{Settings}
pub use Rattle.padded_input.specs.Padded.{block_bytes, number_bytes, missing, Short}
unfoldable pub use Rattle.padded_input.specs.Padded.{unpadded, padding, padded, blocks}

-- ---- any list of numbers

-- the words of block b
abbrev pub block : List ℕ → ℕ → List ℕ
block bytes b = le_words block_words (drop (block_bytes * b) bytes)

-- the first n blocks, from the first on, each with a full call
unfoldable pub absorb_blocks : (ℕ → ℕ → ℕ) → ℕ → List ℕ → List ℕ → List ℕ
absorb_blocks sum zero bytes s = s
absorb_blocks sum (suc b) bytes s = absorb sum full_rounds (block bytes b) (absorb_blocks sum b bytes s)

-- every block of the padded input, absorbed into a state
unfoldable pub absorb_input : (ℕ → ℕ → ℕ) → List ℕ → List ℕ → List ℕ → List ℕ → List ℕ
absorb_input sum password salt ns s =
    absorb_blocks sum (blocks (length password) (length salt) (length ns)) (padded password salt ns) s

-- ---- a derivation's input

-- the key length is in bytes
pub record Input : Type 0 where
  pub password : List ℕ
  pub salt : List ℕ
  pub key_length : ℕ

abbrev pub input : List ℕ → List ℕ → ℕ → Input
input password salt key_length = record { password = password; salt = salt; key_length = key_length }

abbrev pub lengths : Input → Lengths
lengths x = record { key = x.key_length; password = length x.password; salt = length x.salt }

-- key length, password length, salt length, T, R, C
abbrev pub numbers : Input → Settings → List ℕ
numbers x S =
    x.key_length ∷ length x.password ∷ length x.salt ∷ S.time ∷ S.rows ∷ S.columns ∷ []

unfoldable pub padded_input : Settings → Input → List ℕ
padded_input S x = padded x.password x.salt (numbers x S)

-- how many blocks the padded input has, with its six numbers
unfoldable pub input_blocks : Lengths → ℕ
input_blocks l = blocks l.password l.salt 6

-- the state once the input is absorbed
unfoldable pub input_state : Settings → Input → List ℕ
input_state S x = absorb_input S.addition.sum x.password x.salt (numbers x S) start
