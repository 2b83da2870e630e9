use Rattle.std.proofs.Common.{◌≡◌, ℕ, suc, ◌+◌, ◌*◌, ◌^◌, ◌<◌, ◌≤◌, length, arith, rules, Option, Some, None, ◌∙◌}
use Rattle.std.specs.Option.{MatchOption, IfSome, IfNone}
use native.Mathlib.Nat.{pow-suc}
use Rattle.decimal.specs.Decimal.{decimal}
use Rattle.decimal.proofs.Decimal.{decimal_one, decimal-length_is}
use Rattle.decimal.proofs.decimal_length.Goals as goal

by_power : (n r : ℕ) (power : Option ℕ) → IfNone power (n ≡ 0) → IfSome power (λ k. 10 ^ k ≤ n) → IfSome power (λ k. n < 10 * 10 ^ k)
    → MatchOption power (r ≡ 1) (λ k. r ≡ k + 1) → r ≡ length (decimal n)
by_power n r None zero least most e = e ∙ decimal_one n (omega (arith, zero))
by_power n r (Some k) zero least most e =
    let size : r ≡ suc k = omega (arith, e) in
    size ∙ decimal-length_is k n (omega (arith, most, pow-suc 10 k)) least

pub returns : goal.returns
returns c =
    let known = c.checked_ilog10.ensures in
    by_power c.args.n c.map_or.result c.checked_ilog10.result known.none known.power_le known.next_power_gt (search rules)
