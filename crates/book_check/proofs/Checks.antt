-- The checks of an account's check: those of the check of a stored key that an account keeps, and what a refused check answers.
-- Assumes nothing.
use mathlib.Core.Path.{◌≡◌, refl, sym, ap, ap₂, subst, ◌∙◌}
use Prim.Native.Nat.{ℕ, ◌+◌, ◌-◌, ◌≤◌, ◌<◌}
use native.Mathlib.Omega.{arith}
use mathlib.Core.Bool.{true}
use mathlib.Core.List.{List, [], ◌∷◌, ◌++◌}
use lib.ListN.{length, take, drop, length-drop}
use lib.Seq.{drop-drop}
use Rattle.std.specs.Prelude.{Option, Some}
use Rattle.settings.specs.Settings.{usual}
use Rattle.settings.specs.declared.Parameters.{Parameters}
use Rattle.refusals.specs.Checks.{Check, first, password_check, rotation_check, matrix_check, stored_checks, cost_checks, plain_checks}
use Rattle.refusals.proofs.Accepted.{accepted, accepts, first_passed, more_refuse, more_pass}
use Rattle.refusals.proofs.Chained.{refused as refuse_first, passed}
use Rattle.input.specs.Input.{input, lengths}
use Rattle.derivation.specs.Answers.{Costs, no_costs}
use Rattle.derivation.specs.Promises.{plain_number, Compared}
use Rattle.derivation.proofs.Answering.{answered_no, cost_no}
use Rattle.little_endian.proofs.ByteLaws.{AllBytes, take_bytes}
use Rattle.accounts.specs.Accounts.{Account, head_bytes, head_of, is_whole, whole_entry, entry_of, account_of}
use Rattle.accounts.specs.declared.Entry.{Entry}
use Rattle.accounts.proofs.Decoding.{whole, size_is, entry_whole, some_whole}
use Rattle.accounts.specs.Book.{found}
use Rattle.accounts.specs.Promises.{BookAnswer, accounts_in, account_parameters, find_checks, find_number, find_answer, check_checks, check_number}
use Rattle.accounts.proofs.Changing.{found-account, found_good}
use Rattle.accounts.proofs.Rewriting.{refusal_is, found_book, found-has, found_at}
use Rattle.book_check.specs.Promises.{CheckedBy, KeyChecked, AccountChecked}

-- of an account within the limits, and a password that is not too long, the matrix alone is left to check
matrix_decides : (password : List ℕ) (a : Account) (matrix : List ℕ) → length password ≤ 1024 → first (stored_checks (length a.key) (length a.salt) a.parameters) ≡ 0
    → first (matrix_check (usual a.parameters) (length matrix) ∷ []) ≡ plain_number (usual a.parameters) (input password a.salt (length a.key)) matrix
unfolding stored_checks plain_checks cost_checks
matrix_decides password a matrix h z =
    let p = usual a.parameters in
    let l = lengths (input password a.salt (length a.key)) in
    let bounds = accepted (stored_checks (length a.key) (length a.salt) a.parameters) (omega arith) z in
    let kept = accepts (cost_checks l p) (omega arith) in
    more_pass (cost_checks l p) (rotation_check p.rotation ∷ matrix_check p (length matrix) ∷ []) (sym kept) (omega arith) refl
    (sym (first_passed (rotation_check p.rotation) (matrix_check p (length matrix) ∷ []) refl))

module _ (password book : List ℕ) (used number : ℕ) (matrix : List ℕ) where
  abbrev a : Account
  a = found number (accounts_in used book)

  abbrev before : List Check
  before = password_check (length password) ∷ find_checks number used book

  abbrev last : List Check
  last = matrix_check (account_parameters number used book) (length matrix) ∷ []

  refused : {n : ℕ} → n ≡ check_number (length password) number used book (length matrix) → (n ≡ 0 → ⊥) → {r : Costs} → r ≡ no_costs n → {same : ℕ} → same ≡ 0
      → AccountChecked password book used number matrix matrix r same
  refused e h is not_same = record { answer = cost_no _ _ e h is; same_is = answered_no _ _ e h not_same; matrix_after = answered_no _ _ e h refl }

  pub password_refused : {n : ℕ} → n ≡ first (password_check (length password) ∷ []) → 0 < n → {r : Costs} → r ≡ no_costs n → {same : ℕ} → same ≡ 0
      → AccountChecked password book used number matrix matrix r same
  unfolding check_checks
  password_refused e h is not_same =
      refused (refuse_first (password_check (length password) ∷ []) (find_checks number used book ++ last) e h) (λ z. omega arith) is not_same

  module _ (short : 0 ≡ first (password_check (length password) ∷ [])) where
    finding : {n : ℕ} → n ≡ find_number number used book → n ≡ first before
    finding e = passed (password_check (length password) ∷ []) (find_checks number used book) (omega arith) short e

    pub find_refused : {f : BookAnswer} → f ≡ find_answer number used book → (f.refusal ≡ 0 → ⊥) → {r : Costs} → r ≡ no_costs f.refusal → {same : ℕ} → same ≡ 0
        → AccountChecked password book used number matrix matrix r same
    unfolding check_checks
    find_refused to h is not_same = refused (more_refuse before last (finding (refusal_is number used book to)) h) h is not_same

    -- once the account is found, the check of its key
    pub key_checked : (bytes : AllBytes book) {f : BookAnswer} (to : f ≡ find_answer number used book) (z : f.refusal ≡ 0) {matrix' : List ℕ} {r : Costs} {same : ℕ}
        → KeyChecked password (account_of (drop f.place (take used book))) matrix matrix' r same
        → AccountChecked password book used number matrix matrix' r same
    unfolding check_checks find_checks
    key_checked bytes {f} to z {matrix'} {r} {same} checked =
        let u = take used book in
        let all = take_bytes used book bytes in
        let is_book = (found_book number used book to z).is_book in
        let here = found-has number used book to z in
        let it : account_of (drop f.place u) ≡ a =
        ap (λ (k : ℕ). account_of (drop k u)) (found_at number used book to z) ∙ found-account u all is_book number here in
        let only = (found_good u all is_book number here).within in
        let number_is : plain_number (usual a.parameters) (input password a.salt (length a.key)) matrix
        ≡ check_number (length password) number used book (length matrix) =
        sym (matrix_decides password a matrix (accepted (password_check (length password) ∷ []) (omega arith) (sym short)).0.1.0 only)
        ∙ more_pass before last (finding (refusal_is number used book to)) (omega arith) z refl in
        subst (λ (n : ℕ). CheckedBy n password a matrix matrix' r same) number_is (subst (λ (b : Account). KeyChecked password b matrix matrix' r same) it checked)

-- ---- the parts of the account at a place, as the code lends them

pub account_is : (u : List ℕ) {o : Option Entry} {e : Entry} → o ≡ whole_entry u → o ≡ Some e → e ≡ entry_of u
account_is u told is = (some_whole u (sym is ∙ told)).1

module _ (part : List ℕ) (place : ℕ) (w : is_whole (drop place part) ≡ true) {e : Entry} (is : e ≡ entry_of (drop place part)) where
  abbrev here : List ℕ
  here = drop place part

  as_head : e ≡ head_of here
  as_head = is ∙ entry_whole here w

  pub parts_inside : place + head_bytes + e.salt + e.key ≤ length part
  parts_inside =
      let salt = ap (λ (x : Entry). x.salt) as_head in
      let key = ap (λ (x : Entry). x.key) as_head in
      omega (arith, (whole here w).fits, size_is here, length-drop place part)

  pub salt_lent : take (place + head_bytes + e.salt - (place + head_bytes)) (drop (place + head_bytes) part) ≡ (account_of here).salt
  unfolding account_of
  salt_lent =
      let n : place + head_bytes + e.salt - (place + head_bytes) ≡ (head_of here).salt = omega (arith, ap (λ (x : Entry). x.salt) as_head) in
      ap₂ (λ (k : ℕ) (l : List ℕ). take k l) n (sym (drop-drop head_bytes place part))

  pub key_lent : take (place + head_bytes + e.salt + e.key - (place + head_bytes + e.salt)) (drop (place + head_bytes + e.salt) part) ≡ (account_of here).key
  unfolding account_of
  key_lent =
      let salt = ap (λ (x : Entry). x.salt) as_head in
      let n : place + head_bytes + e.salt + e.key - (place + head_bytes + e.salt) ≡ (head_of here).key = omega (arith, ap (λ (x : Entry). x.key) as_head) in
      let from : place + head_bytes + e.salt ≡ place + (head_bytes + (head_of here).salt) = omega (arith, salt) in
      ap₂ (λ (k : ℕ) (l : List ℕ). take k l) n (ap (λ (k : ℕ). drop k part) from ∙ sym (drop-drop (head_bytes + (head_of here).salt) place part))

  pub parameters_lent : {p : Parameters} → p ≡ usual e.parameters → p ≡ usual (account_of here).parameters
  unfolding account_of
  parameters_lent f = f ∙ ap (λ (x : Entry). usual x.parameters) as_head

-- the same check in other words
pub checked_as : {p q : Parameters} {salt salt' key key' : List ℕ} → p ≡ q → salt ≡ salt' → key ≡ key' → (password matrix matrix' : List ℕ) (r : Costs) (same : ℕ)
    → Compared p (input password salt (length key)) key matrix matrix' r same → Compared q (input password salt' (length key')) key' matrix matrix' r same
checked_as {p} {q} {salt} {salt'} {key} {key'} e f g password matrix matrix' r same c =
    subst (λ (k : List ℕ). Compared q (input password salt' (length k)) k matrix matrix' r same) g
    (subst (λ (s : List ℕ). Compared q (input password s (length key)) key matrix matrix' r same) f
    (subst (λ (x : Parameters). Compared x (input password salt (length key)) key matrix matrix' r same) e c))
