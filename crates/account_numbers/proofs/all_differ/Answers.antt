use Rattle.std.proofs.Common.{◌∙◌, arith}
use Rattle.account_numbers.proofs.Comparing.{member_is, compared_same, compared_more, compared_end}
use Rattle.account_numbers.proofs.all_differ.Goals as goal

pub returns-then-contains : goal.returns-then-contains
returns-then-contains c = compared_same c.loop-i.invariant (omega arith) (c.contains.ensures.value ∙ member_is _ _) c.if-contains.true

pub loop-i-preserved : goal.loop-i-preserved
loop-i-preserved c = compared_more c.loop-i.invariant (omega arith) (c.contains.ensures.value ∙ member_is _ _) c.if-contains.false

pub returns : goal.returns
returns c = compared_end c.loop-i.invariant (omega arith)
