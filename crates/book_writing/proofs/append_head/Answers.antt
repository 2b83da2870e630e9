-- The mark and six numbers, one after another.
use Rattle.std.proofs.Common.{◌≡◌, ℕ, List, ◌++◌}
use mathlib.Core.List.{append_assoc}
use Rattle.little_endian.specs.Bytes.{le_bytes}
use Rattle.settings.specs.declared.StoredParameters.{StoredParameters}
use Rattle.text.proofs.Appending.{◌then◌, reworded}
use Rattle.text.specs.Text.{Appended}
use Rattle.accounts.specs.Accounts.{mark as Ac, head}
use Rattle.book_writing.proofs.append_head.Goals as goal

regroup : (m n t r c s k : List ℕ) → m ++ n ++ t ++ r ++ c ++ s ++ k ≡ m ++ (n ++ (t ++ (r ++ (c ++ (s ++ k)))))
regroup m n t r c s k = simp append_assoc

regrouped : (number : ℕ) (p : StoredParameters) (salt key : ℕ)
    → Ac ++ le_bytes 4 number ++ le_bytes 1 p.time ++ le_bytes 2 p.rows ++ le_bytes 2 p.columns ++ le_bytes 1 salt ++ le_bytes 2 key ≡ head number p salt key
unfolding head
regrouped number p salt key =
    regroup Ac (le_bytes 4 number) (le_bytes 1 p.time) (le_bytes 2 p.rows) (le_bytes 2 p.columns) (le_bytes 1 salt) (le_bytes 2 key)

pub returns : goal.returns
returns c =
    let a = c.args in
    let put-mark : Appended _ _ _ Ac _ = c.append-end.ensures in
    let put-number : Appended _ _ _ (le_bytes 4 a.number) _ = c.append_number-end.ensures.appended in
    let put-time : Appended _ _ _ (le_bytes 1 a.p.time) _ = c.append_number-end-2.ensures.appended in
    let put-rows : Appended _ _ _ (le_bytes 2 a.p.rows) _ = c.append_number-end-3.ensures.appended in
    let put-columns : Appended _ _ _ (le_bytes 2 a.p.columns) _ = c.append_number-end-4.ensures.appended in
    let put-salt : Appended _ _ _ (le_bytes 1 a.salt) _ = c.append_number-end-5.ensures.appended in
    let put-key : Appended _ _ _ (le_bytes 2 a.key) _ = c.append_number.ensures.appended in
    reworded (put-mark then put-number then put-time then put-rows then put-columns then put-salt then put-key)
    (regrouped a.number a.p a.salt a.key)
