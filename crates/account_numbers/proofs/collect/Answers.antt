use Rattle.std.proofs.Common.{◌≡◌, length, refl, ◌∙◌, arith}
use Rattle.account_reader.proofs.StepLaws.{ended, stays_at, told, behind, before_end, stands_behind, run_over}
use Rattle.account_numbers.proofs.Comparing.{stood, collecting_none, collecting_more, collecting_end}
use Rattle.account_numbers.proofs.collect.Goals as goal

pub loop-i-init : goal.loop-i-init
loop-i-init c = record { same_book = refl; collecting = collecting_none c.requires.0 c.requires.1 }

pub returns-in_default-clause-collected : goal.returns-in_default-clause-collected
returns-in_default-clause-collected c =
    let inv = c.loop-i.invariant in
    let q = stood inv.same_book in
    let k = c.in_default.ensures.steps in
    rw (stays_at q k) (collecting_end inv.collecting (λ fits. run_over inv.collecting.running (ended q k)))

pub returns-in_default-clause-same_book : goal.returns-in_default-clause-same_book
returns-in_default-clause-same_book c = c.in_default.ensures.steps.same_book ∙ c.loop-i.invariant.same_book

pub loop-i-preserved : goal.loop-i-preserved
loop-i-preserved c =
    let inv = c.loop-i.invariant in
    let q = stood inv.same_book in
    let k = c.in-Some.ensures.steps in
    record {
      same_book = k.same_book ∙ inv.same_book;
      collecting =
          collecting_more inv.collecting (omega arith) (omega (arith, before_end q k)) (told q k).1 ((stands_behind q k).same_place ∙ behind q k);
    }

pub returns-clause-collected : goal.returns-clause-collected
returns-clause-collected c =
    let inv = c.loop-i.invariant in
    let all : c.loop-i.i ≡ length c.loop-i.block = omega (arith, inv.collecting.count_most) in
    rw (← all) (collecting_end inv.collecting (λ fits. absurd (omega arith)))
