-- The first j words are in, whichever list of words the calls answer.
use Rattle.std.proofs.Common.{◌≡◌, ℕ, ◌<◌, List, length, get_or}
use Rattle.std.specs.Int.Bits.{bit_xor}
use Rattle.lists.proofs.Placed.{Placed}
use Rattle.rate.proofs.xor_each.Given as goal

abbrev pub invariant-loop-j : goal.invariant-loop-j
invariant-loop-j g l =
    (words : List ℕ) → length words ≡ l.n → ((j r : ℕ) → j < l.n → goal.F-post g l.word j r → r ≡ get_or words j 0) → Placed bit_xor 0 l.fn.s words l.s l.j l.n
