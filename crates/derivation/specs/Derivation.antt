-- A derivation: the input is absorbed, Setup fills the matrix, the visits change it, a last cell is absorbed, the key is squeezed.
use Rattle.std.specs.Prelude.{ℕ, ◌-◌, List}
use Rattle.settings.specs.Settings.{Settings}
use Rattle.settings.specs.Sizes.{visit_count}
use Rattle.input.specs.Input.{Input, input_state}
use Rattle.columns.specs.Columns.{work}
use Rattle.setup_order.specs.SetupOrder.{order}
use Rattle.setup.specs.Setup.{setup}
use Rattle.visits.specs.Visits.{Walk, walk, Visit, wander, visits}
use Rattle.visits.specs.Encoding.{encode}
use Rattle.last_cell.specs.LastCell.{last_absorbed}
use Rattle.key.specs.Key.{key_bytes}

-- what Setup leaves of a state and a matrix: the first visit's previous rows are those of Setup's last step
unfoldable pub setup_end : Settings → List ℕ → List ℕ → Walk
setup_end S s m = walk (setup S (work s m)) (S.rows - 1) (order (S.rows - 3)).prev1

-- after the last visit, for an input and what the matrix held before; with T = 0 there is none, and this is what Setup leaves
unfoldable pub walk_end : Settings → Input → List ℕ → Walk
walk_end S x m = wander S (visit_count S) (setup_end S (input_state S x) m)

-- the state that the key is squeezed from
unfoldable pub final_state : Settings → Walk → List ℕ
final_state S w = last_absorbed S w.prev0 w.done

-- ---- what a derivation gives: the key, and the state, the matrix, the visits and the used record after the last visit

unfoldable pub key_of : Settings → Input → List ℕ → List ℕ
key_of S x m = key_bytes S.addition.sum x.key_length (final_state S (walk_end S x m))

unfoldable pub end_state : Settings → Input → List ℕ → List ℕ
end_state S x m = (walk_end S x m).done.state

unfoldable pub end_matrix : Settings → Input → List ℕ → List ℕ
end_matrix S x m = (walk_end S x m).done.matrix

abbrev pub end_visits : Settings → Input → List ℕ → List Visit
end_visits S x m = visits S (visit_count S) (setup_end S (input_state S x) m)

unfoldable pub end_record : Settings → Input → List ℕ → List ℕ
end_record S x m = encode (end_visits S x m)
