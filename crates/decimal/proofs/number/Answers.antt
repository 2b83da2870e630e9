use Rattle.std.proofs.Common.{sym, arith, ◌∙◌}
use Rattle.decimal.proofs.Decimal.{reading_more, reading_end, no_digit}
use Rattle.decimal.proofs.number.Goals as goal

pub returns-then-not-is_ascii_digit : goal.returns-then-not-is_ascii_digit
returns-then-not-is_ascii_digit c =
    no_digit c.loop-digit.invariant (omega arith) (sym c.is_ascii_digit.ensures.value ∙ c.if-not-is_ascii_digit.true)

pub loop-digit-preserved : goal.loop-digit-preserved
loop-digit-preserved c =
    reading_more c.loop-digit.invariant (omega arith) (sym c.is_ascii_digit.ensures.value ∙ c.if-not-is_ascii_digit.false)
    (rw (← c.from.ensures) c.min-v.ensures)

pub returns : goal.returns
returns c = reading_end c.loop-digit.invariant (omega arith)
