-- Each field by its text.
use Rattle.line_texts.proofs.TextLaws.{form_taken, texts_say}
use Rattle.line_texts.proofs.values_of.Goals as goal

pub returns-clause-value : goal.returns-clause-value
returns-clause-value c =
    λ line m. texts_say line m c.number.ensures c.number-2.ensures c.number-3.ensures c.decoded_length.ensures c.decoded_length-2.ensures

pub returns-clause-answer : goal.returns-clause-answer
returns-clause-answer c =
    λ line q.
    form_taken line q.of_form
    (texts_say line q.marked c.number.ensures c.number-2.ensures c.number-3.ensures c.decoded_length.ensures c.decoded_length-2.ensures)
