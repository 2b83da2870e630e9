use Rattle.std.proofs.Common.{◌+◌, sym, ◌∙◌}
use Rattle.line_form.specs.Line.{start_mark, rows_mark, columns_mark, text_mark, time_end, rows_end, columns_end}
use Rattle.line_marks.proofs.Marks.{same, missing, text_here, stands_here, rest_here, no_texts, no_start, no_rows, no_columns, no_salt, no_key, all_marked}
use Rattle.line_marks.proofs.split_line.Goals as goal

pub returns-in_err-rest : goal.returns-in_err-rest
returns-in_err-rest c = no_texts _ c.from_residual.ensures (no_start _ (sym (same _ start_mark) ∙ c.in_err-rest.ensures.cases))

pub returns-in_err-time : goal.returns-in_err-time
returns-in_err-time c =
    let line = c.args.line.now in
    no_texts line c.from_residual-in_err-time.ensures (no_rows line (missing line 9 44 rows_mark c.in_ok-rest.ensures.cases.1 c.in_err-time.ensures))

pub returns-in_err-rows : goal.returns-in_err-rows
returns-in_err-rows c =
    let line = c.args.line.now in
    let time = rest_here line 9 44 rows_mark c.in_ok-rest.ensures.cases.1 c.in_ok-time.ensures in
    no_texts line c.from_residual-in_err-rows.ensures (no_columns line (missing line (time_end line + 3) 44 columns_mark time c.in_err-rows.ensures))

pub returns-in_err-columns : goal.returns-in_err-columns
returns-in_err-columns c =
    let line = c.args.line.now in
    let time = rest_here line 9 44 rows_mark c.in_ok-rest.ensures.cases.1 c.in_ok-time.ensures in
    let rows = rest_here line (time_end line + 3) 44 columns_mark time c.in_ok-rows.ensures in
    no_texts line c.from_residual-in_err-columns.ensures (no_salt line (missing line (rows_end line + 3) 36 text_mark rows c.in_err-columns.ensures))

pub returns-in_err-salt : goal.returns-in_err-salt
returns-in_err-salt c =
    let line = c.args.line.now in
    let time = rest_here line 9 44 rows_mark c.in_ok-rest.ensures.cases.1 c.in_ok-time.ensures in
    let rows = rest_here line (time_end line + 3) 44 columns_mark time c.in_ok-rows.ensures in
    let columns = rest_here line (rows_end line + 3) 36 text_mark rows c.in_ok-columns.ensures in
    no_texts line c.from_residual-in_err-salt.ensures (no_key line (missing line (columns_end line + 1) 36 text_mark columns c.in_err-salt.ensures))

pub returns : goal.returns
returns c =
    let line = c.args.line.now in
    let start = c.in_ok-rest.ensures.cases in
    let time = rest_here line 9 44 rows_mark start.1 c.in_ok-time.ensures in
    let rows = rest_here line (time_end line + 3) 44 columns_mark time c.in_ok-rows.ensures in
    let columns = rest_here line (rows_end line + 3) 36 text_mark rows c.in_ok-columns.ensures in
    record {
      marked =
          all_marked line (sym (same _ start_mark) ∙ start.0) (stands_here line 9 44 rows_mark start.1 c.in_ok-time.ensures)
          (stands_here line (time_end line + 3) 44 columns_mark time c.in_ok-rows.ensures)
          (stands_here line (rows_end line + 3) 36 text_mark rows c.in_ok-columns.ensures)
          (stands_here line (columns_end line + 1) 36 text_mark columns c.in_ok-salt.ensures);
      time_is = text_here line 9 44 rows_mark start.1 c.in_ok-time.ensures;
      rows_is = text_here line (time_end line + 3) 44 columns_mark time c.in_ok-rows.ensures;
      columns_is = text_here line (rows_end line + 3) 36 text_mark rows c.in_ok-columns.ensures;
      salt_is = text_here line (columns_end line + 1) 36 text_mark columns c.in_ok-salt.ensures;
      key_is = rest_here line (columns_end line + 1) 36 text_mark columns c.in_ok-salt.ensures;
    }
