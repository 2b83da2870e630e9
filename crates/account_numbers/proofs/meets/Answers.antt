use Rattle.std.proofs.Common.{rules, refl, ◌∙◌, arith}
use Rattle.account_reader.proofs.StepLaws.{ended, told, behind, before_end, stands_behind, run_over}
use Rattle.account_numbers.proofs.Comparing.{member_is, apart_meets, apart_more, apart_end}
use Rattle.account_numbers.proofs.meets.Goals as goal

pub returns-then-contains : goal.returns-then-contains
returns-then-contains c =
    let inv = c.loop-account.invariant in
    let k = c.in-Some.ensures.steps in
    apart_meets inv.apart (omega (arith, before_end inv.stands k)) (told inv.stands k).1 (c.contains.ensures.value ∙ member_is _ _) c.if-contains.true

pub loop-account-preserved : goal.loop-account-preserved
loop-account-preserved c =
    let inv = c.loop-account.invariant in
    let k = c.in-Some.ensures.steps in
    let next = stands_behind inv.stands k in
    record {
      can = search rules;
      finite = search rules;
      stands = record { same_book = next.same_book; same_place = refl };
      apart =
          apart_more inv.apart (omega (arith, before_end inv.stands k)) (told inv.stands k).1 (c.contains.ensures.value ∙ member_is _ _)
          c.if-contains.false (next.same_place ∙ behind inv.stands k);
    }

pub returns : goal.returns
returns c =
    let inv = c.loop-account.invariant in apart_end inv.apart (run_over inv.apart.running (ended inv.stands c.in-None.ensures.steps))
