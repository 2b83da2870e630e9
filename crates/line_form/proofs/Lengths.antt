-- The length of a line, by the lengths of what it says, and its most. Assumes nothing.
use mathlib.Core.Path.{◌≡◌}
use Prim.Native.Nat.{suc, ◌≤◌}
use native.Mathlib.Omega.{arith}
use lib.ListN.{length, length-append}
use Rattle.refusals.specs.Checks.{first, stored_checks}
use Rattle.refusals.proofs.Accepted.{accepted}
use Rattle.decimal.proofs.Decimal.{decimal_fits}
use Rattle.base64_encoding.specs.Base64.{encoded_length}
use Rattle.base64_encoding.proofs.Elements.{length-encode}
use Rattle.line_form.specs.Line.{Values, joined, line_of, length_by}
use Rattle.line_form.specs.Promises.{value_checks}

pub line-length : (v : Values) → length (line_of v) ≡ length_by v.parameters (length v.salt) (length v.key)
unfolding line_of joined length_by
line-length v = simp (length-append, length-encode) (omega arith)

-- no line within the limits is longer than 1,480 bytes
pub line_most : (v : Values) → first (value_checks v) ≡ 0 → length (line_of v) ≤ 1480
unfolding length_by stored_checks encoded_length
line_most v e =
    let bounds = accepted (value_checks v) (omega arith) e in
    let p = v.parameters in
    omega (
      arith,
      line-length v,
      decimal_fits 2 (suc p.time) p.time (omega arith),
      decimal_fits 4 (suc p.rows) p.rows (omega arith),
      decimal_fits 2 (suc p.columns) p.columns (omega arith),
    )
