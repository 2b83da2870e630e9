-- The cases of document 01 that are marked P, as one joint statement about the rules.
use Rattle.std.specs.Prelude.{◌≡◌, ℕ, ◌-◌, [], ◌∷◌, ◌++◌, length, get_or, drop, replicate}
use Rattle.mixer.specs.Word.{plain_sum}
use Rattle.mixer.specs.G.{G}
use Rattle.mixer.specs.declared.Words.{Words}
use Rattle.setup_order.specs.SetupOrder.{order, row1_of}
use Rattle.settings.specs.Settings.{Settings, usual}
use Rattle.input.specs.Input.{Input, padded_input}
use Rattle.derivation.specs.Cost.{full_cost}
use Rattle.derivation.specs.Answers.{costs}

abbrev pub four : ℕ → ℕ → ℕ → ℕ → Words
four a b c d = record { a = a; b = b; c = c; d = d }

pub record BenchCases : Type 0 where
  pub G_of_one : G plain_sum (four 1 0 0 0) ≡ four 0x101 0x0202000200020200 0x0101000100010000 0x0101000000010000
  pub G_of_zeros : G plain_sum (four 0 0 0 0) ≡ four 0 0 0 0
  -- row1 for rows 8 to 15
  pub rows_8_to_15 : row1_of 8 ∷ row1_of 9 ∷ row1_of 10 ∷ row1_of 11 ∷ row1_of 12 ∷ row1_of 13 ∷ row1_of 14 ∷ row1_of 15 ∷ [] ≡ 0 ∷ 3 ∷ 6 ∷ 1 ∷ 4 ∷ 7 ∷ 2 ∷ 5 ∷ []
  -- the window of 16 begins at row 16, and that of 32 at row 32
  pub stp_with_wnd_16 : ((order (16 - 3)).wnd ≡ 16) × ((order (16 - 3)).stp ≡ 5)
  pub stp_with_wnd_32 : ((order (32 - 3)).wnd ≡ 32) × ((order (32 - 3)).stp ≡ 7)
  -- the padded input with a salt of 8 bytes, whatever its bytes and the other numbers; a block has 64 bytes
  pub password_none : (S : Settings) (x : Input) → length x.salt ≡ 8 → length x.password ≡ 0
      → (length (padded_input S x) ≡ 64) × (drop 32 (padded_input S x) ≡ 0x80 ∷ (replicate 30 0 ++ (0x01 ∷ [])))
  pub password_31 : (S : Settings) (x : Input) → length x.salt ≡ 8 → length x.password ≡ 31
      → (length (padded_input S x) ≡ 64) × (get_or (padded_input S x) 63 0 ≡ 0x81)
  pub password_32 : (S : Settings) (x : Input) → length x.salt ≡ 8 → length x.password ≡ 32 → length (padded_input S x) ≡ 128
  -- the costs: key 32, password 31, salt 8, T 1, R 3, C 1; and the full calls with password 32 and key 97
  pub costs_30 : costs (record { key = 32; password = 31; salt = 8 }) (usual (record { time = 1; rows = 3; columns = 1 })) ≡ record { refusal = 0; full = 2; reduced = 6; rounds = 30 }
  pub full_4 : full_cost (record { key = 97; password = 32; salt = 8 }) ≡ 4
