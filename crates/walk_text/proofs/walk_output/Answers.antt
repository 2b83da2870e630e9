-- The check of R decides between the two forms of the output.
use Rattle.std.proofs.Common.{[], ◌∷◌, sym, arith}
use borrow.Author.Tests.{ne_eqb}
use Rattle.refusals.specs.Refusals.{number_of}
use Rattle.refusals.proofs.Accepted.{accepted}
use Rattle.refusals.proofs.Chained.{number_above}
use Rattle.text.proofs.Appending.{in_front}
use Rattle.walk_text.specs.Output.{walk_output}
use Rattle.walk_text.proofs.walk_output.Goals as goal

pub put_steps-requires : goal.put_steps-requires
put_steps-requires c = let bounds = accepted (_ ∷ []) (omega arith) (sym c.in-Ok.ensures) in omega arith

pub returns-in-Ok-clause-out_after : goal.returns-in-Ok-clause-out_after
unfolding walk_output
returns-in-Ok-clause-out_after c = simp (sym c.rows_read-rows.ensures, sym c.in-Ok.ensures) (in_front c.put_steps.ensures).1

pub returns-in-Err-clause-out_after : goal.returns-in-Err-clause-out_after
unfolding walk_output
returns-in-Err-clause-out_after c =
    let refused = ne_eqb (number_of c.in-Err.refusal) 0 (λ z. omega (arith, number_above c.in-Err.refusal)) in
    simp (sym c.rows_read-rows.ensures, sym c.in-Err.ensures, refused) (in_front c.put_refused.ensures).1
