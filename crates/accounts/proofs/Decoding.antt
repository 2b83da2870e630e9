-- Reading account after account: what a whole account in front means, and one step of the reading. Assumes nothing.
use mathlib.Core.Path.{◌≡◌, refl, sym, ap, ◌∙◌}
use Prim.Native.Nat.{ℕ, zero, suc, ◌+◌, ◌-◌, ◌≤◌, ◌<◌}
use native.Mathlib.Omega.{arith}
use mathlib.Core.Bool.{Bool, true, false, cond, ◌&&◌, and-eq-true_iff, false≢true}
use mathlib.Core.List.{List, [], ◌∷◌}
use lib.Dec.{eqb, leb}
use lib.ListN.{length, take, drop, length-append, length-take, length-drop}
use borrow.Author.Tests.{leb-true, le-leb, lt-leb, eqb-true, eq-eqb, ne_eqb}
use Rattle.std.specs.Prelude.{Option, Some, None, unwrap_or}
use Rattle.little_endian.proofs.ByteLaws.{length_bytes}
use Rattle.settings.specs.declared.StoredParameters.{StoredParameters}
use Rattle.refusals.specs.Checks.{first, stored_checks}
use Rattle.refusals.proofs.Accepted.{accepted}
use Rattle.text.specs.Text.{stands_at}
use Rattle.lists.specs.Every.{same_bytes}
use Rattle.accounts.specs.Accounts.{Account, mark, head_bytes, head, encode, encode_all, head_of, limits, is_whole, whole_entry, nothing, entry_of, account_of, accounts_after, accounts}
use Rattle.accounts.specs.declared.Entry.{Entry}

-- ---- sizes

pub length-head : (number : ℕ) (p : StoredParameters) (salt key : ℕ) → length (head number p salt key) ≡ head_bytes
unfolding head
length-head number p salt key = simp (length-append, length_bytes) (omega arith)

pub length-encode : (a : Account) → length (encode a) ≡ head_bytes + length a.salt + length a.key
unfolding encode
length-encode a = simp (length-append, length-head) (omega arith)

pub encode_longer : (a : Account) → head_bytes ≤ length (encode a)
encode_longer a = omega (arith, length-encode a)

pub length_all_cons : (a : Account) (l : List Account) → length (encode_all (a ∷ l)) ≡ length (encode a) + length (encode_all l)
unfolding encode_all
length_all_cons a l = length-append (encode a) (encode_all l)

-- ---- a whole account in front

pub record Whole (u : List ℕ) : Type 0 where
  pub marked : stands_at u 0 mark ≡ true
  pub within : first (limits (head_of u)) ≡ 0
  pub fits : (head_of u).size ≤ length u

pub whole : (u : List ℕ) → is_whole u ≡ true → Whole u
unfolding is_whole
whole u e =
    let outer = (and-eq-true_iff (stands_at u 0 mark && eqb (first (limits (head_of u))) 0) (leb (head_of u).size (length u))).0 e in
    let inner = (and-eq-true_iff (stands_at u 0 mark) (eqb (first (limits (head_of u))) 0)).0 outer.0 in
    record { marked = inner.0; within = eqb-true _ _ inner.1; fits = leb-true _ _ outer.1 }

-- one of the three that does not hold is enough, and all of them are
all_of : {a b c : Bool} → (a ≡ true) → (b ≡ true) → (c ≡ true) → (a && b && c) ≡ true
all_of ha hb hc = λ i. ha i && hb i && hc i

false_second : (a c : Bool) → (a && false && c) ≡ false
false_second true c = refl
false_second false c = refl

false_third : (a b : Bool) → (a && b && false) ≡ false
false_third true true = refl
false_third true false = refl
false_third false b = refl

module _ (u : List ℕ) where
  pub is_whole_lem : stands_at u 0 mark ≡ true → first (limits (head_of u)) ≡ 0 → (head_of u).size ≤ length u → is_whole u ≡ true
  unfolding is_whole
  is_whole_lem m l f = all_of m (eq-eqb _ _ l) (le-leb _ _ f)

  pub unmarked : stands_at u 0 mark ≡ false → is_whole u ≡ false
  unfolding is_whole
  unmarked e = ap (λ (t : Bool). t && eqb (first (limits (head_of u))) 0 && leb (head_of u).size (length u)) e

  pub outside : (first (limits (head_of u)) ≡ 0 → ⊥) → is_whole u ≡ false
  unfolding is_whole
  outside h = ap (λ (t : Bool). stands_at u 0 mark && t && leb (head_of u).size (length u)) (ne_eqb _ _ h) ∙ false_second (stands_at u 0 mark) _

  pub cut_off : length u < (head_of u).size → is_whole u ≡ false
  unfolding is_whole
  cut_off h =
      ap (λ (t : Bool). stands_at u 0 mark && eqb (first (limits (head_of u))) 0 && t) (lt-leb _ _ h)
      ∙ false_third (stands_at u 0 mark) (eqb (first (limits (head_of u))) 0)

pub size_is : (u : List ℕ) → (head_of u).size ≡ head_bytes + (head_of u).salt + (head_of u).key
unfolding head_of
size_is u = refl

-- the most bytes of salt and key
pub stored_most : (key salt : ℕ) (p : StoredParameters) → first (stored_checks key salt p) ≡ 0 → (salt ≤ 64) × (key ≤ 1024)
unfolding stored_checks
stored_most key salt p z = let bounds = accepted (stored_checks key salt p) (omega arith) z in (omega arith, omega arith)

pub front_size : (u : List ℕ) → Whole u → length (encode (account_of u)) ≡ (head_of u).size
unfolding account_of
front_size u q =
    let e = head_of u in
    let salt : length (take e.salt (drop head_bytes u)) ≡ e.salt = simp (length-take, length-drop) (omega (arith, q.fits, size_is u)) in
    let key : length (take e.key (drop (head_bytes + e.salt) u)) ≡ e.key = simp (length-take, length-drop) (omega (arith, q.fits, size_is u)) in
    omega (arith, length-encode (account_of u), salt, key, size_is u)

-- ---- a step of the reading

skipped : (n : ℕ) (u : List ℕ) → accounts_after n u ≡ accounts (drop n u)
unfolding accounts_after
skipped zero u = refl
skipped (suc n) [] = refl
skipped (suc n) (b ∷ u) = skipped n u

none_whole : is_whole [] ≡ false
unfolding is_whole same_bytes
none_whole = refl

drop_pred : (n : ℕ) (b : ℕ) (u : List ℕ) → 0 < n → drop (n - 1) u ≡ drop n (b ∷ u)
drop_pred zero b u h = absurd (omega arith)
drop_pred (suc n) b u h = let back : suc n - 1 ≡ n = omega arith in ap (λ (k : ℕ). drop k u) back

-- an account, then those behind it
pub accounts-whole : (u : List ℕ) → is_whole u ≡ true → accounts u ≡ account_of u ∷ accounts (drop (head_of u).size u)
unfolding accounts_after
accounts-whole [] e = absurd (false≢true (sym none_whole ∙ e))
accounts-whole (b ∷ u) e =
    let n = (head_of (b ∷ u)).size in
    ap (λ (t : Bool). cond t (account_of (b ∷ u) ∷ accounts_after (n - 1) u) []) e
    ∙ ap (λ (l : List Account). account_of (b ∷ u) ∷ l)
    (skipped (n - 1) u ∙ ap accounts (drop_pred n b u (omega (arith, size_is (b ∷ u)))))

pub accounts_none : (u : List ℕ) → is_whole u ≡ false → accounts u ≡ []
unfolding accounts_after
accounts_none [] e = refl
accounts_none (b ∷ u) e = ap (λ (t : Bool). cond t (account_of (b ∷ u) ∷ accounts_after ((head_of (b ∷ u)).size - 1) u) []) e

pub accounts_end : (u : List ℕ) → length u ≡ 0 → accounts u ≡ []
unfolding accounts_after
accounts_end [] e = refl
accounts_end (b ∷ u) e = absurd (omega arith)

-- ---- what stands in front, as the code asks for it

pub entry_whole : (u : List ℕ) → is_whole u ≡ true → entry_of u ≡ head_of u
unfolding entry_of
entry_whole u e = ap (λ (t : Bool). cond t (head_of u) nothing) e

pub entry_none : (u : List ℕ) → is_whole u ≡ false → entry_of u ≡ nothing
unfolding entry_of
entry_none u e = ap (λ (t : Bool). cond t (head_of u) nothing) e

-- the size tells whether there is an account
pub whole_of_size : (u : List ℕ) → ((entry_of u).size ≡ 0 → ⊥) → is_whole u ≡ true
unfolding nothing
whole_of_size u h = go (is_whole u) refl
  where
    go : (t : Bool) → is_whole u ≡ t → t ≡ true
    go true e = refl
    go false e = absurd (h (ap (λ (x : Entry). x.size) (entry_none u e)))

pub none_of_size : (u : List ℕ) → (entry_of u).size ≡ 0 → is_whole u ≡ false
none_of_size u h = go (is_whole u) refl
  where
    go : (t : Bool) → is_whole u ≡ t → t ≡ false
    go true e = absurd (omega (arith, h, ap (λ (x : Entry). x.size) (entry_whole u e), size_is u))
    go false e = refl

-- the entry never passes the end
pub entry_fits : (u : List ℕ) → (entry_of u).size ≤ length u
unfolding nothing
entry_fits u = go (is_whole u) refl
  where
    go : (t : Bool) → is_whole u ≡ t → (entry_of u).size ≤ length u
    go true e = omega (arith, ap (λ (x : Entry). x.size) (entry_whole u e), (whole u e).fits)
    go false e = omega (arith, ap (λ (x : Entry). x.size) (entry_none u e))

-- ---- the same, if there is one

pub entry_or : (u : List ℕ) → entry_of u ≡ unwrap_or (whole_entry u) nothing
unfolding whole_entry
entry_or u = go (is_whole u) refl
  where
    go : (t : Bool) → is_whole u ≡ t → entry_of u ≡ unwrap_or (whole_entry u) nothing
    go true e = entry_whole u e ∙ sym (ap (λ (t : Bool). unwrap_or (cond t (Some (head_of u)) None) nothing) e)
    go false e = entry_none u e ∙ sym (ap (λ (t : Bool). unwrap_or (cond t (Some (head_of u)) None) nothing) e)

pub whole_some : (u : List ℕ) → is_whole u ≡ true → whole_entry u ≡ Some (head_of u)
unfolding whole_entry
whole_some u e = ap (λ (t : Bool). cond t (Some (head_of u)) None) e

pub whole_none : (u : List ℕ) → is_whole u ≡ false → whole_entry u ≡ None
unfolding whole_entry
whole_none u e = ap (λ (t : Bool). cond t (Some (head_of u)) None) e

pub some_whole : (u : List ℕ) {e : Entry} → Some e ≡ whole_entry u → (is_whole u ≡ true) × (e ≡ entry_of u)
some_whole u {e} h = go (is_whole u) refl
  where
    go : (t : Bool) → is_whole u ≡ t → (is_whole u ≡ true) × (e ≡ entry_of u)
    go true w = let told = h ∙ whole_some u w in let same : e ≡ head_of u = cc in (w, same ∙ sym (entry_whole u w))
    go false w = let told = h ∙ whole_none u w in absurd (cc)

pub no_whole : (u : List ℕ) → None ≡ whole_entry u → is_whole u ≡ false
no_whole u h = go (is_whole u) refl
  where
    go : (t : Bool) → is_whole u ≡ t → t ≡ false
    go true w = let told = h ∙ whole_some u w in absurd (cc)
    go false w = refl
