use Rattle.std.proofs.Common.{rules, arith}
use Rattle.account_reader.proofs.StepLaws.{stays, inside, moves, steps}
use Rattle.account_reader.proofs.ReaderIterator.next.Goals as goal

pub returns-in_err-account-clause-steps : goal.returns-in_err-account-clause-steps
returns-in_err-account-clause-steps c = stays c.args.self.now c.from_residual.ensures c.in_err-account.ensures

pub overflow_add-self : goal.overflow_add-self
overflow_add-self c = omega (arith, inside c.args.self.now c.in_ok-account.ensures)

pub returns-clause-steps : goal.returns-clause-steps
returns-clause-steps c = steps c.args.self.now c.in_ok-account.ensures

pub returns-clause-goes : goal.returns-clause-goes
returns-clause-goes c =
    let more = moves c.args.self.now c.in_ok-account.ensures in
    let most = inside c.args.self.now c.in_ok-account.ensures in
    record { on = λ f. (search rules, search rules, omega arith); keeps = search rules; rests = search rules }
