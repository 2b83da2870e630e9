use Rattle.std.proofs.Common.{refl, ◌∙◌, arith}
use Rattle.lists.proofs.Placed.{placed_none, placed_again}
use Rattle.book_writing.proofs.Moving.{moved_length, read_before_written}
use Rattle.book_writing.proofs.take_out.Goals as goal

pub loop-moved-init : goal.loop-moved-init
loop-moved-init c = let a = c.args in placed_none (λ x y. y) (moved_length a.book.now a.used c.requires.1 a.place a.size c.requires.0)

pub loop-moved-preserved : goal.loop-moved-preserved
loop-moved-preserved c =
    let inv = c.loop-moved.invariant in
    let a = c.args in
    placed_again (λ x y. y) inv (omega arith) refl
    (c.used_byte.ensures
    ∙ read_before_written a.book.now c.loop-moved.book a.used a.place a.size c.loop-moved.moved c.requires.1 c.requires.0 (omega arith) inv)
