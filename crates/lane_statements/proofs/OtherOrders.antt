-- An accepted call in one of whose intervals the lanes have another order than in turn, so that the theorem about any order is about more
-- than one: two lanes over twelve rows, T = 1. Interval 1 has one visit of each. Assumes nothing.
use mathlib.Core.Path.{◌≡◌, refl}
use mathlib.Core.Logic.{◌≢◌}
use mathlib.Core.List.{[]}
use lib.ListN.{replicate}
use Rattle.setup_order.specs.SetupOrder.{first_order, moved, new_window, next_order, order}
use Rattle.settings.specs.Settings.{settings, usual}
use Rattle.settings.specs.declared.StoredParameters.{StoredParameters}
use Rattle.input.specs.Input.{Input, input}
use Rattle.refusals.specs.Checks.{first, lanes_cost_checks, lanes_checks}
use Rattle.lanes.specs.Meetings.{first_visit, visits_in}
use Rattle.lanes.specs.Orders.{Schedule}
use Rattle.lanes.proofs.VisitsOrder.{in_turn_order, other_order, other_orders}
use Rattle.lanes_derivation.specs.LanesDerivation.{rows_each}
use Rattle.lanes_derivation.specs.LanesContracts.{lanes_number}

abbrev q : StoredParameters
q = record { time = 1; rows = 12; columns = 1 }

abbrev x : Input
x = input [] (replicate 8 0) 1

pub other_orders_of_a_call : (lanes_number q 2 x (replicate 144 0) ≡ 0)
    × Schedule 2 (visits_in (settings (usual q)) (rows_each (settings (usual q)) 2) 1) in_turn_order
    × Schedule 2 (visits_in (settings (usual q)) (rows_each (settings (usual q)) 2) 1) other_order
    × (in_turn_order ≢ other_order)
unfolding first_visit order next_order new_window moved first_order first lanes_checks lanes_cost_checks
other_orders_of_a_call = (refl, other_orders.0, other_orders.1, other_orders.2)
