-- The bound of so many bytes.
use Rattle.std.proofs.Common.{ℕ, ◌*◌, ◌^◌, ◌<◌, sym, subst}
use Rattle.little_endian.proofs.ByteLaws.{value_most, drop_bytes}
use Rattle.account_heads.proofs.number_at.Goals as goal

pub returns-clause-upper_bound : goal.returns-clause-upper_bound
returns-clause-upper_bound c =
    let a = c.args in
    subst (λ (x : ℕ). x < 2 ^ (8 * a.width)) (sym c.load_number.ensures)
    (value_most a.width _ (drop_bytes a.place a.bytes.now (λ i. (c.type_inv.bytes i).fits)))
