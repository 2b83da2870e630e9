-- R as standard input gives it. Bytes are in ASCII: 48 is the digit 0, 10 is the newline.
use Rattle.std.specs.Prelude.{ℕ, ◌-◌, cond, not, ◌&&◌, List, leb, eqb, length, get_or, take}
use Rattle.decimal.specs.Decimal.{number_of}

-- the number that up to five digits write, the first of them not 0, with a newline behind them and nothing more; any other input is 0, which is outside the limits
unfoldable pub rows_read : List ℕ → ℕ
rows_read input =
    let n = length input - 1 in
    cond (leb 1 n && leb n 5 && not (eqb (get_or input 0 0) 48) && eqb (get_or input n 0) 10) (number_of (take n input)) 0
