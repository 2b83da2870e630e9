-- Field by field.
use Rattle.std.proofs.Common.{◌≡◌}
use Rattle.accounts.specs.Accounts.{number_at, entry_by, head_of}
use Rattle.account_heads.proofs.head_of.Goals as goal

pub returns : goal.returns
unfolding head_of
returns c =
    let u = c.args.bytes.now in
    let number : _ ≡ number_at 2 4 u = c.number_at.ensures.value in
    let time : _ ≡ number_at 6 1 u = c.number_at-2.ensures.value in
    let rows : _ ≡ number_at 7 2 u = c.number_at-3.ensures.value in
    let columns : _ ≡ number_at 9 2 u = c.number_at-4.ensures.value in
    let salt : _ ≡ number_at 11 1 u = c.number_at-salt.ensures.value in
    let key : _ ≡ number_at 12 2 u = c.number_at-key.ensures.value in
    λ i. entry_by (number i) (record { time = time i; rows = rows i; columns = columns i }) (salt i) (key i)
