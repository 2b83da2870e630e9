-- Which refusal is given does not depend on the bytes of salts, keys or passwords: it goes by lengths and by the heads that are come to from
-- account to account, so by marks, numbers and T, R and C. Assumes nothing.
use mathlib.Core.Path.{◌≡◌, refl, sym, ap, ap₂, subst, ◌∙◌}
use Prim.Native.Nat.{ℕ, zero, suc, ◌+◌, ◌-◌, ◌≤◌, min}
use native.Mathlib.Omega.{arith}
use mathlib.Core.Bool.{Bool, true, false, cond, not, ◌&&◌, ◌||◌}
use mathlib.Core.List.{List, [], ◌∷◌, ◌++◌}
use lib.Dec.{eqb, leb}
use lib.ListN.{length, take, drop, length-drop, length-take}
use lib.Seq.{take-take, length-take-le}
use Rattle.lists.specs.Every.{same_bytes}
use Rattle.lists.proofs.Grown.{All}
use Rattle.lists.proofs.Parts.{drop-take}
use Rattle.little_endian.specs.Bytes.{le_value}
use Rattle.refusals.specs.Checks.{Check, first, password_check, matrix_check, book_check, account_check, book_room_check, stored_checks}
use Rattle.settings.specs.Settings.{usual}
use Rattle.settings.specs.declared.StoredParameters.{StoredParameters}
use Rattle.accounts.specs.Accounts.{Account, mark, head_bytes, encode, encode_all, number_at, entry_by, head_of, limits, is_whole, account_of, accounts, Good}
use Rattle.accounts.specs.Book.{has, distinct, found, without, with, is_book}
use Rattle.accounts.specs.Promises.{accounts_in, find_checks, find_number, add_checks, add_number, check_checks, check_number}
use Rattle.accounts.specs.Shown.{heads_after, heads}
use Rattle.accounts.specs.declared.Entry.{Entry}
use Rattle.accounts.proofs.Decoding.{length-encode, length_all_cons, size_is, whole, accounts-whole, accounts_none, accounts_end}
use Rattle.accounts.proofs.Inverse.{entry, accounts_read}

-- ---- accounts that differ in the bytes of salts and keys alone

abbrev pub Alike : List Account → List Account → Type 0
Alike [] [] = Unit {0}
Alike [] (b ∷ m) = ⊥
Alike (a ∷ l) [] = ⊥
Alike (a ∷ l) (b ∷ m) = (entry a ≡ entry b) × Alike l m

same_number : (a b : Account) → entry a ≡ entry b → a.number ≡ b.number
same_number a b e = ap (λ (x : Entry). x.number) e

same_size : (a b : Account) → entry a ≡ entry b → length (encode a) ≡ length (encode b)
same_size a b e = length-encode a ∙ ap (λ (x : Entry). x.size) e ∙ sym (length-encode b)

alike_length : (l m : List Account) → Alike l m → length (encode_all l) ≡ length (encode_all m)
alike_length [] [] h = refl
alike_length [] (b ∷ m) h = absurd h
alike_length (a ∷ l) [] h = absurd h
alike_length (a ∷ l) (b ∷ m) h =
    length_all_cons a l ∙ ap₂ (λ (x y : ℕ). x + y) (same_size a b h.0) (alike_length l m h.1) ∙ sym (length_all_cons b m)

alike_has : (n : ℕ) (l m : List Account) → Alike l m → has n l ≡ has n m
unfolding has
alike_has n [] [] h = refl
alike_has n [] (b ∷ m) h = absurd h
alike_has n (a ∷ l) [] h = absurd h
alike_has n (a ∷ l) (b ∷ m) h = ap₂ (λ (k : ℕ) (t : Bool). eqb k n || t) (same_number a b h.0) (alike_has n l m h.1)

alike_distinct : (l m : List Account) → Alike l m → distinct l ≡ distinct m
unfolding distinct
alike_distinct [] [] h = refl
alike_distinct [] (b ∷ m) h = absurd h
alike_distinct (a ∷ l) [] h = absurd h
alike_distinct (a ∷ l) (b ∷ m) h =
    ap₂ (λ (s t : Bool). not s && t) (ap (λ (k : ℕ). has k l) (same_number a b h.0) ∙ alike_has b.number l m h.1) (alike_distinct l m h.1)

alike_found : (n : ℕ) (l m : List Account) → Alike l m → (found n l).parameters ≡ (found n m).parameters
unfolding found
alike_found n [] [] h = refl
alike_found n [] (b ∷ m) h = absurd h
alike_found n (a ∷ l) [] h = absurd h
alike_found n (a ∷ l) (b ∷ m) h =
    each (eqb a.number n) a (found n l) ∙ (λ i. cond (eqb (same_number a b h.0 i) n) (h.0 i).parameters (alike_found n l m h.1 i))
    ∙ sym (each (eqb b.number n) b (found n m))
  where
    each : (t : Bool) (x y : Account) → (cond t x y).parameters ≡ cond t x.parameters y.parameters
    each true x y = refl
    each false x y = refl

alike_without : (n : ℕ) (l m : List Account) → Alike l m → Alike (without n l) (without n m)
unfolding without
alike_without n [] [] h = tt
alike_without n [] (b ∷ m) h = absurd h
alike_without n (a ∷ l) [] h = absurd h
alike_without n (a ∷ l) (b ∷ m) h =
    subst (λ (k : ℕ). Alike (cond (eqb a.number n) (without n l) (a ∷ without n l)) (cond (eqb k n) (without n m) (b ∷ without n m))) (same_number a b h.0)
    (elim (eqb a.number n) as (λ t. Alike (cond t (without n l) (a ∷ without n l)) (cond t (without n m) (b ∷ without n m)))
    [ true ↦ alike_without n l m h.1 | false ↦ (h.0, alike_without n l m h.1) ])

alike_append : (l m k j : List Account) → Alike l m → Alike k j → Alike (l ++ k) (m ++ j)
alike_append [] [] k j h g = g
alike_append [] (b ∷ m) k j h g = absurd h
alike_append (a ∷ l) [] k j h g = absurd h
alike_append (a ∷ l) (b ∷ m) k j h g = (h.0, alike_append l m k j h.1 g)

alike_with : (a b : Account) (l m : List Account) → entry a ≡ entry b → Alike l m → Alike (with a l) (with b m)
unfolding with
alike_with a b l m e h =
    alike_append (without a.number l) (without b.number m) (a ∷ []) (b ∷ [])
    (subst (λ (k : ℕ). Alike (without a.number l) (without k m)) (same_number a b e) (alike_without a.number l m h)) (e, tt)

-- ---- the refusals of two such books

-- the same used length of slices of one length, and the accounts alike
pub record SameShown (used : ℕ) (book book' : List ℕ) : Type 0 where
  pub same_length : length book ≡ length book'
  pub alike : Alike (accounts_in used book) (accounts_in used book')

module _ {used : ℕ} {book book' : List ℕ} (q : SameShown used book book') where
  same_used : length (take used book) ≡ length (take used book')
  same_used = length-take used book ∙ ap (λ (n : ℕ). min used n) q.same_length ∙ sym (length-take used book')

  same_book : is_book (take used book) ≡ is_book (take used book')
  unfolding is_book
  same_book =
      ap₂ (λ (s t : Bool). s && t) (ap₂ (λ (m n : ℕ). eqb m n) (alike_length (accounts_in used book) (accounts_in used book') q.alike) same_used)
      (alike_distinct (accounts_in used book) (accounts_in used book') q.alike)

  same_good : book_check used (length book) (is_book (take used book)) ≡ book_check used (length book') (is_book (take used book'))
  same_good = ap₂ (λ (k : ℕ) (t : Bool). book_check used k t) q.same_length same_book

  same_checks : (number : ℕ) → find_checks number used book ≡ find_checks number used book'
  unfolding find_checks
  same_checks number =
      ap₂ (λ (c : Check) (t : Bool). c ∷ account_check t ∷ []) same_good
      (alike_has number (accounts_in used book) (accounts_in used book') q.alike)

  -- finding and removing
  pub find_refusal : (number : ℕ) → find_number number used book ≡ find_number number used book'
  find_refusal number = ap first (same_checks number)

  -- adding two accounts of one number with the same T, R and C and the same lengths
  pub add_refusal : (a a' : Account) → entry a ≡ entry a' → add_number a used book ≡ add_number a' used book'
  unfolding add_checks
  add_refusal a a' e =
      ap first
      (ap₂ (λ (cs ds : List Check). cs ++ ds) (ap (λ (x : Entry). stored_checks x.key x.salt x.parameters) e)
      (ap₂ (λ (c d : Check). c ∷ d ∷ []) same_good
      (ap₂ (λ (m n : ℕ). book_room_check m n)
      (alike_length (with a (accounts_in used book)) (with a' (accounts_in used book')) (alike_with a a' (accounts_in used book) (accounts_in used book') e q.alike)) q.same_length)))

  -- checking two passwords of one length
  pub check_refusal : (password number matrix : ℕ) → check_number password number used book matrix ≡ check_number password number used book' matrix
  unfolding check_checks
  check_refusal password number matrix =
      ap first
      (ap₂ (λ (cs : List Check) (p : StoredParameters). password_check password ∷ cs ++ (matrix_check (usual p) matrix ∷ [])) (same_checks number)
      (alike_found number (accounts_in used book) (accounts_in used book') q.alike))

-- ---- heads that are the same

heads_skip : (n : ℕ) (u : List ℕ) → heads_after n u ≡ heads (drop n u)
unfolding heads_after
heads_skip zero u = refl
heads_skip (suc n) [] = refl
heads_skip (suc n) (b ∷ u) = heads_skip n u

heads_next : (b : ℕ) (u : List ℕ)
    → heads (b ∷ u) ≡ take head_bytes (b ∷ u) ∷ cond (is_whole (b ∷ u)) (heads (drop (head_of (b ∷ u)).size (b ∷ u))) []
unfolding heads_after
heads_next b u =
    let n = (head_of (b ∷ u)).size in
    ap (λ (l : List (List ℕ)). take head_bytes (b ∷ u) ∷ cond (is_whole (b ∷ u)) l [])
    (heads_skip (n - 1) u ∙ ap heads (back n (omega (arith, size_is (b ∷ u)))))
  where
    back : (n : ℕ) → 1 ≤ n → drop (n - 1) u ≡ drop n (b ∷ u)
    back zero h = absurd (omega arith)
    back (suc n) h = let same : suc n - 1 ≡ n = omega arith in ap (λ (k : ℕ). drop k u) same

-- a number of the head
in_head : (place width : ℕ) (u : List ℕ) → place + width ≤ head_bytes → number_at place width (take head_bytes u) ≡ number_at place width u
in_head place width u h =
    let split : place + (head_bytes - place) ≡ head_bytes = omega arith in
    ap (λ (l : List ℕ). le_value (take width l))
    (ap (λ (k : ℕ). drop place (take k u)) (sym split) ∙ drop-take place (head_bytes - place) u)
    ∙ ap le_value (take-take width (head_bytes - place) (drop place u) (omega arith))

head_shown : (u : List ℕ) → head_of (take head_bytes u) ≡ head_of u
unfolding head_of
head_shown u =
    let number = in_head 2 4 u (omega arith) in
    let time = in_head 6 1 u (omega arith) in
    let rows = in_head 7 2 u (omega arith) in
    let columns = in_head 9 2 u (omega arith) in
    let salt = in_head 11 1 u (omega arith) in
    let key = in_head 12 2 u (omega arith) in
    λ i. entry_by (number i) (record { time = time i; rows = rows i; columns = columns i }) (salt i) (key i)

module _ (u v : List ℕ) (e : take head_bytes u ≡ take head_bytes v) where
  same_head : head_of u ≡ head_of v
  same_head = sym (head_shown u) ∙ ap head_of e ∙ head_shown v

  same_whole : length u ≡ length v → is_whole u ≡ is_whole v
  unfolding is_whole
  same_whole l =
      let front : take 2 u ≡ take 2 v = sym (take-take 2 head_bytes u (omega arith)) ∙ ap (take 2) e ∙ take-take 2 head_bytes v (omega arith) in
      λ i. same_bytes (front i) mark && eqb (first (limits (same_head i))) 0 && leb (same_head i).size (l i)

-- the account in front has the numbers of its head
entry_front : (u : List ℕ) → is_whole u ≡ true → entry (account_of u) ≡ head_of u
unfolding account_of head_of
entry_front u w =
    let q = whole u w in
    let s = (head_of u).salt in
    let k = (head_of u).key in
    let salt : length (take s (drop head_bytes u)) ≡ s = length-take-le s (drop head_bytes u) (omega (arith, length-drop head_bytes u, q.fits)) in
    let key : length (take k (drop (head_bytes + s) u)) ≡ k = length-take-le k (drop (head_bytes + s) u) (omega (arith, length-drop (head_bytes + s) u, q.fits)) in
    λ i. entry_by (head_of u).number (head_of u).parameters (salt i) (key i)

in_words : {l l' m m' : List Account} → l ≡ l' → m ≡ m' → Alike l' m' → Alike l m
in_words {l} {l'} {m} {m'} e f h = subst (λ (k : List Account). Alike k m) (sym e) (subst (λ (k : List Account). Alike l' k) (sym f) h)

alike_step : (u v : List ℕ) → length u ≡ length v → take head_bytes u ≡ take head_bytes v
    → (is_whole u ≡ true → is_whole v ≡ true → Alike (accounts (drop (head_of u).size u)) (accounts (drop (head_of v).size v))) → Alike (accounts u) (accounts v)
alike_step u v l e behind = go (is_whole u) refl
  where
    go : (b : Bool) → is_whole u ≡ b → Alike (accounts u) (accounts v)
    go true w =
        let w' = sym (same_whole u v e l) ∙ w in
        in_words (accounts-whole u w) (accounts-whole v w') (entry_front u w ∙ same_head u v e ∙ sym (entry_front v w'), behind w w')
    go false w = in_words (accounts_none u w) (accounts_none v (sym (same_whole u v e l) ∙ w)) tt

cons_inj : {A : Type 0} {x y : A} {l m : List A} → x ∷ l ≡ y ∷ m → (x ≡ y) × (l ≡ m)
cons_inj e = (cc, cc)

-- parts of at most k bytes
abbrev Within : ℕ → Type 0
Within k = (u v : List ℕ) → length u ≤ k → length u ≡ length v → heads u ≡ heads v → Alike (accounts u) (accounts v)

within_more : (k : ℕ) → Within k → Within (suc k)
within_more k shorter [] v fits l e = in_words (accounts_end [] refl) (accounts_end v (sym l)) tt
within_more k shorter (b ∷ u) [] fits l e = absurd (omega arith)
within_more k shorter (b ∷ u) (c ∷ v) fits l e =
    let parts = cons_inj (sym (heads_next b u) ∙ e ∙ heads_next c v) in
    let x = b ∷ u in
    let y = c ∷ v in
    let n = (head_of x).size in
    let m = (head_of y).size in
    let sizes : n ≡ m = ap (λ (z : Entry). z.size) (same_head x y parts.0) in
    alike_step x y l parts.0
    (λ w w'.
    shorter (drop n x) (drop m y) (omega (arith, length-drop n x, size_is x)) (omega (arith, length-drop n x, length-drop m y))
    (sym (ap (λ (t : Bool). cond t (heads (drop n x)) []) w) ∙ parts.1 ∙ ap (λ (t : Bool). cond t (heads (drop m y)) []) w'))

alike_within : (k : ℕ) → Within k
alike_within zero = λ u v fits l e. in_words (accounts_end u (omega arith)) (accounts_end v (omega arith)) tt
alike_within (suc k) = within_more k (alike_within k)

-- ---- the theorems: two books that differ in bytes of salts and keys alone

-- any two slices, good or not: the same lengths, and the same heads in the used parts
pub by_heads : (used : ℕ) (book book' : List ℕ) → length book ≡ length book' → heads (take used book) ≡ heads (take used book') → SameShown used book book'
by_heads used book book' l e =
    let same : length (take used book) ≡ length (take used book') = length-take used book ∙ ap (λ (n : ℕ). min used n) l ∙ sym (length-take used book') in
    record { same_length = l; alike = alike_within (length (take used book)) (take used book) (take used book') (omega arith) same e }

-- two books that were written from accounts alike
pub by-accounts : (l m : List Account) → All Good l → All Good m → Alike l m → (used : ℕ) (book book' : List ℕ) → length book ≡ length book'
    → take used book ≡ encode_all l → take used book' ≡ encode_all m → SameShown used book book'
by-accounts l m g h alike used book book' same e f =
    record { same_length = same; alike = in_words (ap accounts e ∙ accounts_read l g) (ap accounts f ∙ accounts_read m h) alike }
