-- The order in which Setup revisits rows, from row 3 on. The paper's gap is +1 where rising is true and −1 where it is false.
use Rattle.std.specs.Prelude.{ℕ, zero, suc, ◌+◌, ◌-◌, ◌*◌, ◌%◌, ◌^◌, ◌≤◌, ◌<◌, true, cond, not, eqb}
use Rattle.setup_order.specs.declared.Order.{Order}

-- at row 3
unfoldable pub first_order : Order
first_order = record { stp = 1; wnd = 2; sqrt = 2; rising = true; row1 = 1; prev1 = 0 }

-- after a row: prev1 = row1, row1 = (row1 + stp) mod wnd
unfoldable pub moved : Order → Order
moved o =
    record { stp = o.stp; wnd = o.wnd; sqrt = o.sqrt; rising = o.rising; row1 = (o.row1 + o.stp) % o.wnd; prev1 = o.row1 }

-- a window twice as wide: the step is sqrt + gap, then the gap's sign turns, and where it has become −1 sqrt doubles as well
unfoldable pub new_window : Order → Order
new_window o =
    let rising = not o.rising in
    let stp = cond o.rising (o.sqrt + 1) (o.sqrt - 1) in
    let sqrt = cond rising o.sqrt (2 * o.sqrt) in
    record { stp = stp; wnd = 2 * o.wnd; sqrt = sqrt; rising = rising; row1 = o.row1; prev1 = o.prev1 }

-- from a row to the next: where row1 becomes 0, a new window begins
unfoldable pub next_order : Order → Order
next_order o = cond (eqb (moved o).row1 0) (new_window (moved o)) (moved o)

-- the order of row 3 + k
unfoldable pub order : ℕ → Order
order zero = first_order
order (suc k) = next_order (order k)

-- row1 of the step that fills row0
unfoldable pub row1_of : ℕ → ℕ
row1_of row0 = (order (row0 - 3)).row1

-- numbers of an order whose sums and doubles stay far below 2 ^ 64
pub record Fits (o : Order) : Type 0 where
  pub wnd_pos : 0 < o.wnd
  pub wnd_fits : o.wnd ≤ 2 ^ 32
  pub row1_lt : o.row1 < o.wnd
  pub stp_lt : o.stp < o.wnd
  pub sqrt_pos : 0 < o.sqrt
  pub sqrt_le : o.sqrt ≤ o.wnd
