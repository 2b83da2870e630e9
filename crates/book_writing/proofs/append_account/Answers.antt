-- Head, salt and key, one after another.
use Rattle.std.proofs.Common.{length, arith}
use mathlib.Core.List.{append_assoc}
use Rattle.text.specs.Text.{Appended}
use Rattle.text.proofs.Appending.{◌then◌, reworded}
use Rattle.accounts.specs.Accounts.{head, encode}
use Rattle.accounts.proofs.Decoding.{length-head}
use Rattle.book_writing.proofs.append_account.Goals as goal

pub append-end-requires : goal.append-end-requires
append-end-requires c =
    let a = c.args in
    omega (arith, c.append_head-end.ensures.next_is, c.append_head-end.ensures.same_length, length-head a.number a.p (length a.salt.now) (length a.key.now))

pub append-requires : goal.append-requires
append-requires c =
    let a = c.args in
    omega (
      arith,
      c.append_head-end.ensures.next_is,
      c.append_head-end.ensures.same_length,
      c.append-end.ensures.next_is,
      c.append-end.ensures.same_length,
      length-head a.number a.p (length a.salt.now) (length a.key.now),
    )

pub returns : goal.returns
unfolding encode
returns c =
    let a = c.args in
    let put-salt : Appended _ _ _ a.salt.now _ = c.append-end.ensures in
    let put-key : Appended _ _ _ a.key.now _ = c.append.ensures in
    reworded (c.append_head-end.ensures then put-salt then put-key)
    (append_assoc (head a.number a.p (length a.salt.now) (length a.key.now)) a.salt.now a.key.now)
