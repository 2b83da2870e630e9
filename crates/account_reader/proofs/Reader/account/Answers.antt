use Rattle.std.proofs.Common.{◌∙◌, arith}
use Rattle.account_reader.proofs.StepLaws.{none_past}
use Rattle.account_reader.proofs.Reader.account.Goals as goal

pub returns-in_err-get : goal.returns-in_err-get
returns-in_err-get c = c.from_residual.ensures ∙ none_past c.args.self.now.book.now c.args.self.now.at (omega (arith, c.in_err-get.ensures.lookup.0))
