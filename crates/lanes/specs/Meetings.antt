-- Where the lanes meet (the guide's SyncThreads): the steps between two meetings are an interval. Every lane has the same.
use Rattle.std.specs.Prelude.{ℕ, zero, suc, ◌+◌, ◌-◌, ◌*◌, ◌/◌, min}
use Rattle.settings.specs.Settings.{Settings}
use Rattle.setup_order.specs.SetupOrder.{order}

-- Setup: the row of a lane with which interval t begins. A meeting follows row 4, and then every sqrt/2 rows, sqrt as it is once the row
-- before the interval is filled
unfoldable pub first_row : ℕ → ℕ
first_row zero = 3
first_row (suc zero) = 5
first_row (suc (suc t)) = first_row (suc t) + (order (first_row (suc t) - 3)).sqrt / 2

-- the visits: the visit of a lane with which interval t begins. A meeting follows visit number sqrt, counted from 0, and then every sqrt
-- visits
unfoldable pub first_visit : ℕ → ℕ → ℕ
first_visit sqrt zero = 0
first_visit sqrt (suc t) = suc t * sqrt + 1

-- sqrt as Setup leaves it in a lane of n rows
abbrev pub sqrt_after : ℕ → ℕ
sqrt_after n = (order (n - 3)).sqrt

-- how many of the first `all` steps there are from one to before another
abbrev pub steps_from : ℕ → ℕ → ℕ → ℕ
steps_from first next all = min next all - first

-- the rows and the visits of interval t, in lanes of n rows
abbrev pub rows_in : ℕ → ℕ → ℕ
rows_in n t = steps_from (first_row t) (first_row (suc t)) n

abbrev pub visits_in : Settings → ℕ → ℕ → ℕ
visits_in S n t = steps_from (first_visit (sqrt_after n) t) (first_visit (sqrt_after n) (suc t)) (n * S.time)
