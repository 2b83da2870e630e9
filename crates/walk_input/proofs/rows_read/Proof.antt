-- `rows_read` meets its contract: each return but the last names a test of the definition that the input fails. Assumes nothing.
use mathlib.Core.Bool.{and-false}
use Prim.Native.Nat.{◌-◌}
use native.Mathlib.Omega.{arith}
use lib.ListN.{length, get_or, take, length-take}
use borrow.Author.Tests.{le-leb, lt-leb, eq-eqb, ne_eqb}
use Rattle.decimal.proofs.Decimal.{five_digits}
use Rattle.walk_input.specs.Input.{rows_read}
use Rattle.walk_input.proofs.rows_read.Statement.{statement}
use Rattle.walk_input.proofs.rows_read.Tie as tie

pub rows_read_spec : {M : Type 1} → statement M
unfolding rows_read
rows_read_spec =
    tie.close
    (tie.spec (λ c. simp (lt-leb 1 (length c.args.input.now - 1) (omega arith)))
    (omega arith) (λ c. simp (lt-leb (length c.args.input.now - 1) 5 (omega arith), and-false))
    (omega arith) (λ c. simp (eq-eqb (get_or c.args.input.now 0 0) 48 (omega arith), and-false))
    (omega arith)
    (λ c.
    let input = c.args.input.now in
    simp (ne_eqb (get_or input (length input - 1) 0) 10 (λ e. omega arith), and-false))
    (λ c. simp length-take (omega arith)) (λ c κs. tt)
    (λ c.
    let input = c.args.input.now in
    let n = length input - 1 in
    simp
    (le-leb 1 n (omega arith), le-leb n 5 (omega arith), ne_eqb (get_or input 0 0) 48 (λ e. omega arith), eq-eqb (get_or input n 0) 10 (omega arith))
    (omega (arith, c.number.ensures, five_digits (take n input) (omega (arith, length-take n input))))))
