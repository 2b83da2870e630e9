-- The inputs that end alike: of two calls whose padded inputs have equally many blocks and differ in one block at most, the end
-- states, the used matrices and the used records are equal exactly where password, salt and key length are. It holds for every
-- addition of G that can be undone, every number of rounds and every rotation, without visits too, and whatever the two matrices
-- held, where rows and columns have numbers of 16 bits. Assumes nothing.
use mathlib.Core.Path.{◌≡◌, sym, ap, ◌∙◌}
use mathlib.Core.Logic.{◌↔◌}
use Prim.Native.Nat.{ℕ, ◌*◌, ◌^◌, ◌≤◌, ◌<◌}
use native.Mathlib.Omega.{arith}
use mathlib.Core.List.{List}
use lib.ListN.{length}
use Rattle.little_endian.proofs.ByteLaws.{AllBytes}
use Rattle.mixer.specs.Word.{Undoes}
use Rattle.permutation.proofs.State.{IsState}
use Rattle.settings.specs.Settings.{Settings}
use Rattle.settings.specs.Sizes.{matrix_words, visit_count}
use Rattle.matrix.proofs.Apart.{cells-words, words-cells}
use Rattle.input.specs.Input.{Input, input, lengths, input_blocks, padded_input, input_state}
use Rattle.input.proofs.InputLaws.{input_state_lem, input_state_inj, length-padded-input}
use Rattle.visits.specs.Encoding.{encode, decode}
use Rattle.visits.specs.Wandered.{Packable}
use Rattle.visits.proofs.EncodingLaws.{decode-visits}
use Rattle.derivation.specs.Derivation.{setup_end, walk_end, end_state, end_matrix, end_record}
use Rattle.end_states.specs.EndStates.{end_of, EndAlike, StartAlike, AtMostOneDiffers, blocks_of}
use Rattle.end_states.proofs.Walks.{walk_forth, walk_back}

-- bytes, lengths of four bytes, and room for the used matrix; what the matrix holds is left open
pub record Fits (S : Settings) (x : Input) (m : List ℕ) : Type 0 where
  pub key_fits : x.key_length < 2 ^ 32
  pub password_fits : length x.password < 2 ^ 32
  pub password_bytes : AllBytes x.password
  pub salt_bytes : AllBytes x.salt
  pub room : matrix_words S ≤ length m

blocks_are : (S : Settings) (x : Input) → blocks_of (padded_input S x) ≡ input_blocks (lengths x)
blocks_are S x = omega (arith, length-padded-input S x)

module _ (S : Settings) (u : Undoes S.addition) (least : 3 ≤ S.rows) (x y : Input) (m l : List ℕ) (fx : Fits S x m) (fy : Fits S y l) where
  hs : IsState (input_state S x)
  hs = input_state_lem S x u fx.password_bytes fx.salt_bytes

  ht : IsState (input_state S y)
  ht = input_state_lem S y u fy.password_bytes fy.salt_bytes

  start_end : StartAlike x y → EndAlike (end_of S x m) (end_of S y l)
  unfolding end_of end_state end_matrix end_record walk_end
  start_end i =
      let a = walk_forth S u least _ m _ l hs ht fx.room fy.room (λ j. input_state S (input (i.passwords j) (i.salts j) (i.key_lengths j))) in
      record { states = a.0.state; matrices = cells-words (S.rows * S.columns) _ _ a.0.cells; records = ap encode a.1 }

  end_start : Packable S → (b : ℕ) → AtMostOneDiffers S b x y → EndAlike (end_of S x m) (end_of S y l) → StartAlike x y
  unfolding end_of end_state end_matrix end_record walk_end
  end_start packable b apart ends =
      let visited = decode-visits S packable (visit_count S) in
      let told = sym (visited (setup_end S (input_state S x) m)) ∙ ap (decode S.columns (visit_count S)) ends.records ∙ visited (setup_end S (input_state S y) l) in
      let e =
      walk_back S u least _ m _ l hs ht fx.room fy.room
      (record { state = ends.states; cells = words-cells (S.rows * S.columns) _ _ ends.matrices }, told) in
      let i =
      input_state_inj S x y u fx.password_bytes fx.salt_bytes fy.password_bytes fy.salt_bytes fx.key_fits fy.key_fits fx.password_fits fy.password_fits
      (sym (blocks_are S x) ∙ apart.as_many ∙ blocks_are S y) b (λ j lt. apart.others j (omega (arith, blocks_are S x))) e in
      record { passwords = i.0; salts = i.1; key_lengths = i.2 }

-- the theorem
pub end_states_tell_inputs : (S : Settings) → Undoes S.addition → 3 ≤ S.rows → Packable S → (b : ℕ) (x y : Input) (m l : List ℕ) → Fits S x m → Fits S y l
    → AtMostOneDiffers S b x y → EndAlike (end_of S x m) (end_of S y l) ↔ StartAlike x y
end_states_tell_inputs S u least packable b x y m l fx fy apart =
    (end_start S u least x y m l fx fy packable b apart, start_end S u least x y m l fx fy)
