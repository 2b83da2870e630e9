-- Reading and writing are inverse: the accounts of a run are written as its bytes, and what is written of good accounts is read as them.
-- Assumes nothing.
use mathlib.Core.Path.{◌≡◌, refl, sym, ap, ap₂, subst, ◌∙◌}
use Prim.Native.Nat.{ℕ, zero, suc, ◌+◌, ◌≤◌}
use native.Mathlib.Omega.{arith}
use mathlib.Core.Bool.{Bool, true, false}
use mathlib.Core.List.{List, [], ◌∷◌, ◌++◌, append_assoc}
use lib.ListN.{length, take, drop, length-append, length-drop, take-append-drop}
use lib.Seq.{length-take-le, take-add, drop-drop, take_at, drop_at}
use Rattle.lists.proofs.Grown.{All}
use Rattle.lists.proofs.EveryLaws.{same_of_equal, equal_of_same}
use Rattle.little_endian.specs.Bytes.{le_value, le_bytes}
use Rattle.little_endian.proofs.ByteLaws.{AllBytes, bytes_value, value_bytes, value_most, take_bytes, drop_bytes}
use Rattle.refusals.specs.Checks.{first, stored_checks}
use Rattle.refusals.proofs.Accepted.{accepted}
use Rattle.text.specs.Text.{stands_at}
use Rattle.accounts.specs.Accounts.{Account, mark, head_bytes, head, encode, encode_all, number_at, entry_by, head_of, limits, is_whole, account_of, accounts, entry_of, Good}
use Rattle.accounts.specs.Book.{Run}
use Rattle.accounts.specs.declared.Entry.{Entry}
use Rattle.accounts.proofs.Decoding.{length-head, length-encode, length_all_cons, whole, is_whole_lem, size_is, front_size, accounts-whole, accounts_none, accounts_end, entry_whole}
use Rattle.accounts.proofs.Walking.{run-whole}

-- ---- from bytes to accounts and back

number_bytes_lem : (place width : ℕ) (u : List ℕ) → AllBytes u → place + width ≤ length u → le_bytes width (number_at place width u) ≡ take width (drop place u)
number_bytes_lem place width u h fits =
    let long = length-take-le width (drop place u) (omega (arith, length-drop place u)) in
    ap (λ (n : ℕ). le_bytes n (number_at place width u)) (sym long) ∙ bytes_value (take width (drop place u)) (take_bytes width (drop place u) (drop_bytes place u h))

-- the first 14 bytes, field by field
in_fields : (u : List ℕ)
    → take 14 u ≡ take 2 u ++ (take 4 (drop 2 u) ++ (take 1 (drop 6 u) ++ (take 2 (drop 7 u) ++ (take 2 (drop 9 u) ++ (take 1 (drop 11 u) ++ take 2 (drop 12 u))))))
in_fields u =
    take-add 2 12 u
    ∙ ap (λ (l : List ℕ). take 2 u ++ l)
    (next 4 8 2 ∙ ap (λ (l : List ℕ). take 4 (drop 2 u) ++ l)
    (next 1 7 6 ∙ ap (λ (l : List ℕ). take 1 (drop 6 u) ++ l)
    (next 2 5 7 ∙ ap (λ (l : List ℕ). take 2 (drop 7 u) ++ l)
    (next 2 3 9 ∙ ap (λ (l : List ℕ). take 2 (drop 9 u) ++ l) (next 1 2 11)))))
  where
    next : (n m k : ℕ) → take (n + m) (drop k u) ≡ take n (drop k u) ++ take m (drop (k + n) u)
    next n m k = take-add n m (drop k u) ∙ ap (λ (l : List ℕ). take n (drop k u) ++ take m l) (drop-drop n k u)

head_written : (u : List ℕ) → AllBytes u → stands_at u 0 mark ≡ true → head_bytes ≤ length u
    → head (head_of u).number (head_of u).parameters (head_of u).salt (head_of u).key ≡ take head_bytes u
unfolding head head_of
head_written u h marked fits =
    let marks = sym (equal_of_same (take 2 u) mark marked) in
    (λ i. marks i
    ++ (number_bytes_lem 2 4 u h (omega arith) i ++ (number_bytes_lem 6 1 u h (omega arith) i ++ (number_bytes_lem 7 2 u h (omega arith) i
    ++ (number_bytes_lem 9 2 u h (omega arith) i ++ (number_bytes_lem 11 1 u h (omega arith) i ++ number_bytes_lem 12 2 u h (omega arith) i))))))
    ∙ sym (in_fields u)

front_written : (u : List ℕ) → AllBytes u → is_whole u ≡ true → encode (account_of u) ≡ take (head_of u).size u
unfolding encode account_of
front_written u h e =
    let q = whole u e in
    let s = (head_of u).salt in
    let k = (head_of u).key in
    let room : head_bytes + s + k ≤ length u = omega (arith, q.fits, size_is u) in
    let salt = length-take-le s (drop head_bytes u) (omega (arith, length-drop head_bytes u)) in
    let key = length-take-le k (drop (head_bytes + s) u) (omega (arith, length-drop (head_bytes + s) u)) in
    ap₂ (λ (m n : ℕ). head (head_of u).number (head_of u).parameters m n ++ (take s (drop head_bytes u) ++ take k (drop (head_bytes + s) u))) salt key
    ∙ ap (λ (l : List ℕ). l ++ (take s (drop head_bytes u) ++ take k (drop (head_bytes + s) u))) (head_written u h q.marked (omega arith))
    ∙ sym (append_assoc (take head_bytes u) (take s (drop head_bytes u)) (take k (drop (head_bytes + s) u)))
    ∙ ap (λ (l : List ℕ). l ++ take k (drop (head_bytes + s) u)) (sym (take-add head_bytes s u)) ∙ sym (take-add (head_bytes + s) k u)
    ∙ ap (λ (n : ℕ). take n u) (sym (size_is u))

written : (k : ℕ) (u : List ℕ) → length u ≤ k → AllBytes u → Run u → encode_all (accounts u) ≡ u
unfolding encode_all
written zero u fits h r = ap encode_all (accounts_end u (omega arith)) ∙ empty u (omega arith)
  where
    empty : (l : List ℕ) → length l ≡ 0 → [] ≡ l
    empty [] e = refl
    empty (x ∷ l) e = absurd (omega arith)
written (suc k) [] fits h r = ap encode_all (accounts_end [] refl)
written (suc k) (b ∷ bs) fits h r =
    let u = b ∷ bs in
    let w = run-whole u r (omega arith) in
    let n = (head_of u).size in
    let rest = drop n u in
    let behind : Run rest = omega (
      arith,
      r,
      ap (λ (l : List Account). length (encode_all l)) (accounts-whole u w),
      length_all_cons (account_of u) (accounts rest),
      front_size u (whole u w),
      (whole u w).fits,
      length-drop n u,
    ) in
    ap encode_all (accounts-whole u w)
    ∙ ap₂ (λ (x y : List ℕ). x ++ y) (front_written u h w)
    (written k rest (omega (arith, length-drop n u, size_is u)) (drop_bytes n u h) behind)
    ∙ take-append-drop n u

-- the bytes of a run are those of its accounts
pub accounts_written : (u : List ℕ) → AllBytes u → Run u → encode_all (accounts u) ≡ u
accounts_written u h r = written (length u) u (omega arith) h r

-- ---- from accounts to bytes and back

-- the numbers of an account as its head says them
abbrev pub entry : Account → Entry
entry a = entry_by a.number a.parameters (length a.salt) (length a.key)

module _ (a : Account) (g : Good a) (rest : List ℕ) where
  abbrev u : List ℕ
  u = encode a ++ rest

  head_read : head_of u ≡ entry a
  unfolding head_of encode head le_bytes stored_checks
  head_read =
      let bounds = accepted (limits (entry a)) (omega arith) g.within in
      let p = a.parameters in
      let number : le_value (le_bytes 4 a.number) ≡ a.number = value_bytes 4 a.number g.number_fits in
      let time : le_value (le_bytes 1 p.time) ≡ p.time = value_bytes 1 p.time (omega arith) in
      let rows : le_value (le_bytes 2 p.rows) ≡ p.rows = value_bytes 2 p.rows (omega arith) in
      let columns : le_value (le_bytes 2 p.columns) ≡ p.columns = value_bytes 2 p.columns (omega arith) in
      let salt : le_value (le_bytes 1 (length a.salt)) ≡ length a.salt = value_bytes 1 (length a.salt) (omega arith) in
      let key : le_value (le_bytes 2 (length a.key)) ≡ length a.key = value_bytes 2 (length a.key) (omega arith) in
      λ i. entry_by (number i) (record { time = time i; rows = rows i; columns = columns i }) (salt i) (key i)

  pub whole_read : is_whole u ≡ true
  unfolding encode head
  whole_read =
      is_whole_lem u (same_of_equal mark) (ap (λ (e : Entry). first (limits e)) head_read ∙ g.within)
      (omega (arith, ap (λ (e : Entry). e.size) head_read, length-append (encode a) rest, length-encode a))

  pub entry_read : entry_of u ≡ entry a
  entry_read = entry_whole u whole_read ∙ head_read

  pub account_read : account_of u ≡ a
  unfolding account_of encode
  account_read =
      let h = head a.number a.parameters (length a.salt) (length a.key) in
      let salt = a.salt in
      let key = a.key in
      let split : u ≡ h ++ (salt ++ (key ++ rest)) = append_assoc h (salt ++ key) rest ∙ ap (λ (l : List ℕ). h ++ l) (append_assoc salt key rest) in
      let behind : drop head_bytes u ≡ salt ++ (key ++ rest) = ap (drop head_bytes) split ∙ drop_at h (salt ++ (key ++ rest)) head_bytes (length-head _ _ _ _) in
      let salts : take (length salt) (drop head_bytes u) ≡ salt = ap (take (length salt)) behind ∙ take_at salt (key ++ rest) (length salt) refl in
      let keys : take (length key) (drop (head_bytes + length salt) u) ≡ key =
      ap (take (length key)) (sym (drop-drop (length salt) head_bytes u) ∙ ap (drop (length salt)) behind ∙ drop_at salt (key ++ rest) (length salt) refl)
      ∙ take_at key rest (length key) refl in
      let e = head_read in
      (λ i. record {
        number = (e i).number;
        parameters = (e i).parameters;
        salt = take (e i).salt (drop head_bytes u);
        key = take (e i).key (drop (head_bytes + (e i).salt) u);
      })
      ∙ (λ i. record { number = a.number; parameters = a.parameters; salt = salts i; key = keys i })

  one_read : accounts u ≡ a ∷ accounts rest
  one_read =
      accounts-whole u whole_read
      ∙ ap₂ (λ (x : Account) (l : List ℕ). x ∷ accounts l) account_read
      (ap (λ (e : Entry). drop e.size u) head_read ∙ drop_at (encode a) rest _ (length-encode a))

-- good accounts are read as they were written
pub accounts_read : (l : List Account) → All Good l → accounts (encode_all l) ≡ l
unfolding encode_all
accounts_read [] g = accounts_end [] refl
accounts_read (a ∷ l) g = one_read a g.0 (encode_all l) ∙ ap (λ (m : List Account). a ∷ m) (accounts_read l g.1)

-- ---- what is read is good

front_good : (u : List ℕ) → AllBytes u → is_whole u ≡ true → Good (account_of u)
unfolding account_of head_of
front_good u h e =
    let q = whole u e in
    let s = (head_of u).salt in
    let k = (head_of u).key in
    let salt = length-take-le s (drop head_bytes u) (omega (arith, length-drop head_bytes u, q.fits)) in
    let key = length-take-le k (drop (head_bytes + s) u) (omega (arith, length-drop (head_bytes + s) u, q.fits)) in
    record {
      within = ap₂ (λ (m n : ℕ). first (stored_checks m n (head_of u).parameters)) key salt ∙ q.within;
      number_fits = value_most 4 (drop 2 u) (drop_bytes 2 u h);
      salt_bytes = take_bytes s (drop head_bytes u) (drop_bytes head_bytes u h);
      key_bytes = take_bytes k (drop (head_bytes + s) u) (drop_bytes (head_bytes + s) u h);
    }

good_within : (k : ℕ) (u : List ℕ) → length u ≤ k → AllBytes u → All Good (accounts u)
good_within zero u fits h = subst (All Good) (sym (accounts_end u (omega arith))) tt
good_within (suc k) u fits h =
    let n = (head_of u).size in go (is_whole u) refl (good_within k (drop n u) (omega (arith, length-drop n u, size_is u)) (drop_bytes n u h))
  where
    go : (b : Bool) → is_whole u ≡ b → All Good (accounts (drop (head_of u).size u)) → All Good (accounts u)
    go true e behind = subst (All Good) (sym (accounts-whole u e)) (front_good u h e, behind)
    go false e behind = subst (All Good) (sym (accounts_none u e)) tt

pub accounts_good : (u : List ℕ) → AllBytes u → All Good (accounts u)
accounts_good u h = good_within (length u) u (omega arith) h
