-- A block less for each call.
use Rattle.clearing.proofs.+clear_stack.Given as goal

abbrev pub decreases-clear_stack : goal.decreases-clear_stack
decreases-clear_stack l = l.blocks
