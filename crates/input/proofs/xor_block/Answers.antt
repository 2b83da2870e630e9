-- Assumes nothing.
use Rattle.std.proofs.Common.{ℕ, List, take, ◌*◌, sym, ap, ◌∙◌, arith}
use lib.Seq.{drop-drop}
use Rattle.std.specs.Int.Bits.{bit_xor}
use Rattle.lists.specs.Zip.{zip_at}
use Rattle.lists.proofs.Placed.{placed_none, placed_again, placed_end}
use Rattle.little_endian.specs.Bytes.{le_value}
use Rattle.little_endian.proofs.ByteLaws.{length-words, get_or-words}
use Rattle.input.proofs.xor_block.Goals as goal

pub loop-i-init : goal.loop-i-init
loop-i-init c = placed_none bit_xor (length-words 8 _)

pub loop-i-preserved : goal.loop-i-preserved
loop-i-preserved c =
    placed_again bit_xor c.loop-i.invariant (omega arith) (omega arith)
    (c.input_word-word.ensures ∙ sym (get_or-words 8 _ c.loop-i.i (omega arith)
    ∙ ap (λ (l : List ℕ). le_value (take 8 l)) (drop-drop (8 * c.loop-i.i) (64 * c.args.b) _)))

pub returns : goal.returns
unfolding zip_at
returns c = placed_end bit_xor c.loop-i.invariant (omega arith)
