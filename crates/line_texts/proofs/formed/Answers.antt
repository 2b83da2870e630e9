use Rattle.std.proofs.Common.{refl, sym, ◌∙◌}
use Rattle.line_texts.proofs.TextLaws.{unmarked, of_form, not_of_form, form_refused}
use Rattle.line_texts.proofs.formed.Goals as goal
use Rattle.line_texts.proofs.formed.Goals.{in_default-via-in-Some+else-are_texts, in_default-via-in_default}

pub returns-in-Some : goal.returns-in-Some
returns-in-Some c =
    let m = c.in-Some.ensures in record { of_form = of_form m (sym c.are_texts.ensures ∙ c.if-are_texts.true); marked = m }

pub returns-in_default : goal.returns-in_default
returns-in_default c =
    elim c.in_default.branch [
      | in_default-via-in-Some+else-are_texts w ↦ let no = not_of_form w.in-Some.ensures (sym w.are_texts.ensures ∙ w.if-are_texts.false) in (refl, no, form_refused _ no refl)
      | in_default-via-in_default w ↦ let no = unmarked _ w.in_default.ensures in (refl, no, form_refused _ no refl)
    ]
