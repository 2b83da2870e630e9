use Rattle.std.proofs.Common.{◌≡◌, length, rules, sym, ◌∙◌}
use Rattle.std.proofs.lemmas.Iterator.{YieldsList-from_slice, IsFirst-from_position, index_from_first}
use borrow.Author.Tests.{tests}
use Rattle.line_form.specs.Line.{until}
use Rattle.line_marks.proofs.Marks.{until_none, until_hit, until_miss}
use Rattle.line_marks.proofs.place_of.Goals as goal

pub returns-clause-value : goal.returns-clause-value
returns-clause-value c =
    let byte = c.args.byte in
    let first = IsFirst-from_position _ _ c.position-place.result (λ b. b ≡ byte) (λ b. b ≡ byte → ⊥) c.position-place.ensures.ran
    (YieldsList-from_slice c.args.part.now cc) (λ x q k. search (rules, tests)) (λ x q k. search (rules, tests)) in
    c.unwrap_or.ensures
    ∙ sym (index_from_first (λ l. length (until byte l)) (λ b. b ≡ byte) (λ b. b ≡ byte → ⊥) (until_none byte) (until_hit byte) (until_miss byte) c.args.part.now c.position-place.result first)
