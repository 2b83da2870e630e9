-- The cases marked P hold together, most of them by computing. Assumes nothing.
use mathlib.Core.Path.{◌≡◌, refl, sym, ap, ◌∙◌}
use Prim.Native.Nat.{ℕ}
use native.Mathlib.Omega.{arith}
use lib.ListN.{length}
use lib.Seq.{drop_at}
use Rattle.mixer.specs.Word.{turn_right}
use Rattle.mixer.specs.G.{G, half_g}
use Rattle.setup_order.specs.SetupOrder.{first_order, moved, new_window, next_order, order, row1_of}
use Rattle.padded_input.specs.Padded.{unpadded, padding, missing, padded, blocks}
use Rattle.padded_input.proofs.Padded.{length-unpadded, padding_at, padding_is, padding_32}
use Rattle.input.specs.Input.{numbers, input_blocks, padded_input}
use Rattle.input.proofs.InputLaws.{length-padded-input}
use Rattle.key.specs.Key.{pieces}
use Rattle.derivation.specs.Cost.{full_cost}
use Rattle.derivation.specs.Answers.{costs, spent_on}
use Rattle.statements.specs.BenchCases.{BenchCases}

pub bench_cases : BenchCases
unfolding G half_g turn_right row1_of order next_order new_window moved first_order costs spent_on full_cost input_blocks blocks pieces padded_input padded
bench_cases =
    record {
      G_of_one = refl;
      G_of_zeros = refl;
      rows_8_to_15 = refl;
      stp_with_wnd_16 = (refl, refl);
      stp_with_wnd_32 = (refl, refl);
      -- bytes 32 to 63 are padded
      password_none = λ S x s e.
          let bytes = unpadded x.password x.salt (numbers x S) in
          let l : length bytes ≡ 32 = omega (arith, length-unpadded x.password x.salt (numbers x S)) in
          (omega (arith, length-padded-input S x), drop_at bytes _ 32 l ∙ ap (λ (n : ℕ). padding (missing n)) l ∙ padding_32);
      -- only the last byte is padded
      password_31 = λ S x s e.
          let last = padding_at x.password x.salt (numbers x S) 63 0 1 (omega arith) (omega arith) in
          (omega (arith, length-padded-input S x), sym (padding_is 1 0 0x81 (omega arith) (yes refl) (yes refl) refl ∙ last));
      -- the input fills its block, and the padding has one of its own
      password_32 = λ S x s e. omega (arith, length-padded-input S x);
      costs_30 = refl;
      full_4 = refl;
    }
