-- What is turned down is no whole account, test by test.
use Rattle.std.proofs.Common.{sym, ap, arith, ◌∙◌}
use Rattle.refusals.specs.Checks.{first}
use Rattle.accounts.specs.declared.Entry.{Entry}
use Rattle.accounts.specs.Accounts.{mark, limits}
use Rattle.accounts.proofs.Decoding.{size_is, unmarked, outside, cut_off, whole_none}
use Rattle.account_heads.proofs.Tests.{no_ok, an_ok, last_test}
use Rattle.account_heads.proofs.whole_entry.Goals as goal
use Rattle.account_heads.proofs.whole_entry.Goals.{then-bytes-lt-HEAD_BYTES-via-then-bytes-lt-HEAD_BYTES, then-bytes-lt-HEAD_BYTES-via-else-bytes-lt-HEAD_BYTES+then-not-stands_at}

pub returns-then-bytes-lt-HEAD_BYTES : goal.returns-then-bytes-lt-HEAD_BYTES
returns-then-bytes-lt-HEAD_BYTES c =
    let u = c.args.bytes.now in
    sym (whole_none u
    (elim c.then-bytes-lt-HEAD_BYTES.branch [
      | then-bytes-lt-HEAD_BYTES-via-then-bytes-lt-HEAD_BYTES w ↦ cut_off u (omega (arith, size_is u))
      | then-bytes-lt-HEAD_BYTES-via-else-bytes-lt-HEAD_BYTES+then-not-stands_at w ↦
          unmarked u (sym w.stands_at.ensures ∙ w.if-not-stands_at.true)
    ]))

pub returns-in_err-ok : goal.returns-in_err-ok
returns-in_err-ok c =
    let u = c.args.bytes.now in
    let limited = ap (λ (e : Entry). first (limits e)) c.head_of-entry.ensures in
    let refused = no_ok c.check_stored.result c.in_err-ok.ensures.value in
    c.from_residual.ensures ∙ sym (whole_none u (outside u (λ z. omega (arith, refused, c.check_stored.ensures, limited))))

pub returns : goal.returns
returns c =
    let u = c.args.bytes.now in
    let limited = ap (λ (e : Entry). first (limits e)) c.head_of-entry.ensures in
    let passed = an_ok c.check_stored.result c.in_ok-ok.ensures.value in
    last_test u c.head_of-entry.ensures (sym c.stands_at.ensures ∙ c.if-not-stands_at.false)
    (omega (arith, passed, c.check_stored.ensures, limited)) c.then_some.ensures
