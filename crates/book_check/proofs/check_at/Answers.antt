-- The check of the account's key, with the parts that are lent.
use Rattle.std.proofs.Common.{drop, rules, arith}
use Rattle.accounts.proofs.Decoding.{whole_some}
use Rattle.book_check.proofs.Checks.{account_is, parts_inside, salt_lent, key_lent, parameters_lent, checked_as}
use Rattle.book_check.proofs.check_at.Goals as goal

pub unwrap-account-requires : goal.unwrap-account-requires
unwrap-account-requires c = rw (c.account_at.ensures, whole_some (drop c.args.place c.args.part.now) c.requires) (search rules)

pub overflow_add-salt_from : goal.overflow_add-salt_from
overflow_add-salt_from c =
    omega (arith, parts_inside c.args.part.now c.args.place c.requires (account_is _ c.account_at.ensures c.unwrap-account.ensures))

pub overflow_add-key_from : goal.overflow_add-key_from
overflow_add-key_from c =
    omega (arith, parts_inside c.args.part.now c.args.place c.requires (account_is _ c.account_at.ensures c.unwrap-account.ensures))

pub slice_bounds-salt-end : goal.slice_bounds-salt-end
slice_bounds-salt-end c =
    omega (arith, parts_inside c.args.part.now c.args.place c.requires (account_is _ c.account_at.ensures c.unwrap-account.ensures))

pub overflow_add-key : goal.overflow_add-key
overflow_add-key c =
    omega (arith, parts_inside c.args.part.now c.args.place c.requires (account_is _ c.account_at.ensures c.unwrap-account.ensures))

pub slice_bounds-key-end : goal.slice_bounds-key-end
slice_bounds-key-end c =
    omega (arith, parts_inside c.args.part.now c.args.place c.requires (account_is _ c.account_at.ensures c.unwrap-account.ensures))

pub returns : goal.returns
returns c =
    let part = c.args.part.now in
    let place = c.args.place in
    let is = account_is (drop place part) c.account_at.ensures c.unwrap-account.ensures in
    checked_as (parameters_lent part place c.requires is c.usual.ensures) (salt_lent part place c.requires is) (key_lent part place c.requires is) _ _ _ _ _
    c.check.ensures
