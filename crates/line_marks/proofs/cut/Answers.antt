use Rattle.line_marks.proofs.Marks.{none_stands, cut_here, not_cut}
use Rattle.line_marks.proofs.cut.Goals as goal

pub returns-in_err-strip_prefix : goal.returns-in_err-strip_prefix
returns-in_err-strip_prefix c =
    not_cut c.args.part.now c.args.byte c.args.mark.now c.from_residual.ensures
    (none_stands _ _ _ c.place_of.ensures.value c.split_at.ensures.back c.in_err-strip_prefix.ensures.cases)

pub returns : goal.returns
returns c =
    let h = c.in_ok-strip_prefix.ensures.cases in
    cut_here c.args.part.now c.args.byte c.args.mark.now c.place_of.ensures.value c.split_at.ensures.back c.split_at.ensures.front h.0 h.1
