-- The digits from there on, after those read, stand for the whole number.
use Rattle.decimal.proofs.Decimal.{Reading}
use Rattle.decimal.proofs.number.Given as goal

abbrev pub invariant-loop-digit : goal.invariant-loop-digit
invariant-loop-digit l = Reading l.digits l.digit-index l.v
