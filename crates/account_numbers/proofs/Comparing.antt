-- Numbers among others: the steps of the loops that compare them, and a list whose numbers differ by its blocks. Assumes nothing.
use mathlib.Core.Path.{◌≡◌, refl, sym, ap, ap₂, subst, ◌∙◌}
use Prim.Native.Nat.{ℕ, suc, ◌+◌, ◌-◌, ◌≤◌, ◌<◌}
use native.Mathlib.Numerals.{add-one}
use native.Mathlib.Omega.{arith}
use native.Mathlib.Decide.{ℕ_discrete}
use mathlib.Core.Bool.{Bool, true, false, not, ◌&&◌, ◌||◌, or_assoc}
use mathlib.Core.List.{List, [], ◌∷◌, ◌++◌, append_assoc}
use denote.Ref.{Bor}
use lib.Dec.{eqb}
use lib.ListN.{length, get_or, take, drop, set, length-set, length-drop, drop_of_length-le}
use lib.Seq.{take_all, drop-cons, take-suc-set}
use borrow.Author.Tests.{eqb-true, eqb-false, eq-eqb, ne_eqb}
use Rattle.std.specs.List.{list_any}
use Rattle.accounts.specs.Accounts.{Account, accounts, entry_of}
use Rattle.accounts.specs.Book.{has, distinct, Running}
use Rattle.accounts.specs.declared.Entry.{Entry}
use Rattle.accounts.proofs.Walking.{running_more, running_moves, running_accounts, running_number, running_end}
use Rattle.account_reader.specs.declared.Reader.{Reader}
use Rattle.account_reader.proofs.StepLaws.{Stands}
use Rattle.account_numbers.specs.Numbers.{numbers_of, numbers_from, member, differ, meet, Collected}

-- ---- a number among others

member-append : (x : ℕ) (l m : List ℕ) → member x (l ++ m) ≡ (member x l || member x m)
unfolding member
member-append x [] m = refl
member-append x (y ∷ l) m = ap (λ (b : Bool). eqb y x || b) (member-append x l m) ∙ sym (or_assoc (eqb y x) (member x l) (member x m))

-- the library's test of it
pub member_is : (x : ℕ) (l : List ℕ) → list_any (λ y. eqb y x) l ≡ member x l
unfolding member
member_is x [] = refl
member_is x (y ∷ l) = ap (λ (b : Bool). eqb y x || b) (member_is x l)

-- ---- numbers that all differ

-- the first i differ from all behind them
pub record Compared (l : List ℕ) (i : ℕ) : Type 0 where
  pub inside : i ≤ length l
  pub others : differ (drop i l) ≡ differ l

pub compared_none : {l : List ℕ} → Compared l 0
compared_none = record { inside = omega arith; others = refl }

module _ {l : List ℕ} {i : ℕ} (q : Compared l i) where
  -- the part behind place i, as the code lends it
  module _ (h : i < length l) {r : Bool} (is : r ≡ member (get_or l i 0) (take (length l - (i + 1)) (drop (i + 1) l))) where
    behind : take (length l - (i + 1)) (drop (i + 1) l) ≡ drop (suc i) l
    behind = take_all (length l - (i + 1)) (drop (i + 1) l) (simp length-drop (omega arith)) ∙ ap (λ (k : ℕ). drop k l) (add-one i)

    this : (not r && differ (drop (suc i) l)) ≡ differ l
    unfolding differ
    this =
        ap (λ (b : Bool). not b && differ (drop (suc i) l)) (is ∙ ap (member (get_or l i 0)) behind) ∙ ap differ (sym (drop-cons l i 0 h)) ∙ q.others

    pub compared_same : r ≡ true → false ≡ differ l
    compared_same e = ap (λ (b : Bool). not b && differ (drop (suc i) l)) (sym e) ∙ this

    pub compared_more : r ≡ false → Compared l (i + 1)
    compared_more e =
        record {
          inside = omega arith;
          others = rw add-one (ap (λ (b : Bool). not b && differ (drop (suc i) l)) (sym e) ∙ this);
        }

  pub compared_end : length l ≤ i → true ≡ differ l
  unfolding differ
  compared_end h = ap differ (sym (drop_of_length-le l {i = i} h)) ∙ q.others

-- ---- a block and what is behind it

eqb_swap : (a b : ℕ) → eqb a b ≡ eqb b a
eqb_swap a b = go (eqb b a) refl
  where
    go : (t : Bool) → eqb b a ≡ t → eqb a b ≡ t
    go true e = eq-eqb a b (sym (eqb-true b a e))
    go false e = ne_eqb a b (λ z. eqb-false b a e (sym z))

meet-cons : (x : ℕ) (l m : List ℕ) → meet (x ∷ l) m ≡ (member x m || meet l m)
unfolding meet member
meet-cons x l [] = refl
meet-cons x l (y ∷ m) =
    ap₂ (λ (a b : Bool). a || member y l || b) (eqb_swap x y) (meet-cons x l m) ∙ regroup (eqb y x) (member y l) (member x m) (meet l m)
  where
    regroup : (a b c d : Bool) → (a || b || (c || d)) ≡ (a || c || (b || d))
    regroup true b c d = refl
    regroup false true true d = refl
    regroup false true false d = refl
    regroup false false true d = refl
    regroup false false false d = refl

meet_none : (k : List ℕ) → meet [] k ≡ false
unfolding meet member
meet_none [] = refl
meet_none (x ∷ k) = meet_none k

pub differ-append : (l m : List ℕ) → differ (l ++ m) ≡ (differ l && (not (meet l m) && differ m))
unfolding differ
differ-append [] m = ap (λ (b : Bool). not b && differ m) (sym (meet_none m))
differ-append (x ∷ l) m =
    ap₂ (λ (a b : Bool). not a && b) (member-append x l m) (differ-append l m)
    ∙ regroup (member x l) (member x m) (differ l) (meet l m) (differ m)
    ∙ ap (λ (b : Bool). not (member x l) && differ l && (not b && differ m)) (sym (meet-cons x l m))
  where
    regroup : (a b c d e : Bool) → (not (a || b) && (c && (not d && e))) ≡ (not a && c && (not (b || d) && e))
    regroup true b c d e = refl
    regroup false true true d e = refl
    regroup false true false d e = refl
    regroup false false true d e = refl
    regroup false false false d e = refl

-- ---- the accounts' numbers

has_number : (n : ℕ) (k : List Account) → has n k ≡ member n (numbers_of k)
unfolding has member numbers_of
has_number n [] = refl
has_number n (b ∷ k) = ap (λ (t : Bool). eqb b.number n || t) (has_number n k)

distinct-numbers : (l : List Account) → distinct l ≡ differ (numbers_of l)
unfolding distinct differ numbers_of
distinct-numbers [] = refl
distinct-numbers (a ∷ l) = ap₂ (λ (s t : Bool). not s && t) (has_number a.number l) (distinct-numbers l)

module _ {book : List ℕ} {at : ℕ} (q : Running book at) where
  pub numbers-step : at < length book → {e : Entry} → e ≡ entry_of (drop at book) → {next : ℕ} → next ≡ at + (entry_of (drop at book)).size
      → numbers_from book at ≡ e.number ∷ numbers_from book next
  unfolding numbers_of
  numbers-step h is {next} to =
      ap numbers_of (running_accounts q h to) ∙ ap (λ (n : ℕ). n ∷ numbers_from book next) (running_number q h is)

  pub numbers_end : length book ≤ at → numbers_from book at ≡ []
  unfolding numbers_of
  numbers_end h = ap numbers_of (running_end q h)

-- ---- a block that is being filled

pub stood : {b : Bor (List ℕ)} {s : Reader} → s.book ≡ b → Stands b.now s.at s
stood e = record { same_book = ap (λ (x : Bor (List ℕ)). x.now) e; same_place = refl }

pub record Collecting (book : List ℕ) (at : ℕ) (block : List ℕ) (room count end : ℕ) : Type 0 where
  pub long : length block ≡ room
  pub some_room : 0 < room
  pub count_most : count ≤ room
  pub none_yet : count ≡ 0 → end ≡ at
  pub moved : 0 < count → at < end
  pub running : Running book end
  pub numbers : numbers_from book at ≡ take count block ++ numbers_from book end

pub collecting_none : {book : List ℕ} {at : ℕ} {block : List ℕ} → Running book at → 0 < length block
    → Collecting book at block (length block) 0 at
collecting_none q h =
    record {
      long = refl;
      some_room = h;
      count_most = omega arith;
      none_yet = λ e. refl;
      moved = λ p. absurd (omega arith);
      running = q;
      numbers = refl;
    }

module _ {book : List ℕ} {at : ℕ} {block : List ℕ} {room count end : ℕ} (q : Collecting book at block room count end) where
  pub collecting_more : count < room → end < length book → {e : Entry} → e ≡ entry_of (drop end book) → {next : ℕ} → next ≡ end + (entry_of (drop end book)).size
      → Collecting book at (set block count e.number) room (count + 1) next
  collecting_more fits h {e} is {next} to =
      let moves = running_moves q.running h in
      record {
        long = length-set block count _ ∙ q.long;
        some_room = q.some_room;
        count_most = omega arith;
        none_yet = λ z. absurd (omega arith);
        moved = λ p. go (ℕ_discrete count 0) moves;
        running = running_more q.running h to;
        numbers =
            rw add-one
            (q.numbers ∙ ap (λ (l : List ℕ). take count block ++ l) (numbers-step q.running h is to)
            ∙ sym (append_assoc (take count block) (e.number ∷ []) (numbers_from book next))
            ∙ ap (λ (l : List ℕ). l ++ numbers_from book next) (sym (take-suc-set block count e.number (omega (arith, q.long)))));
      }
    where
      go : Dec (count ≡ 0) → 0 < (entry_of (drop end book)).size → at < next
      go (yes z) p = omega (arith, q.none_yet z)
      go (no n) p = omega (arith, q.moved (omega (arith, n)))

  pub collecting_end : (count < room → length book ≤ end) → Collected book at block count end
  collecting_end h =
      record {
        count_most = omega (arith, q.count_most, q.long);
        moves = λ lt. go lt (ℕ_discrete count 0);
        running = q.running;
        numbers = q.numbers;
      }
    where
      go : at < length book → Dec (count ≡ 0) → at < end
      go lt (yes z) = absurd (omega (arith, q.none_yet z, h (omega (arith, q.some_room))))
      go lt (no n) = q.moved (omega (arith, n))

pub of_book : {a b block : List ℕ} {at count end : ℕ} → a ≡ b → Collected a at block count end → Collected b at block count end
of_book {block = block} {at = at} {count = count} {end = end} e k = subst (λ l. Collected l at block count end) e k

-- ---- the accounts behind a block

-- no number of the block so far
pub record Apart (book : List ℕ) (at : ℕ) (block : List ℕ) (here : ℕ) : Type 0 where
  pub running : Running book here
  pub others : meet block (numbers_from book here) ≡ meet block (numbers_from book at)

pub apart_none : {book : List ℕ} {at : ℕ} {block : List ℕ} → Running book at → Apart book at block at
apart_none q = record { running = q; others = refl }

module _ {book : List ℕ} {at : ℕ} {block : List ℕ} {here : ℕ} (q : Apart book at block here) where
  module _ (h : here < length book) {e : Entry} (is : e ≡ entry_of (drop here book)) {r : Bool} (in-it : r ≡ member e.number block) where
    step : {next : ℕ} → next ≡ here + (entry_of (drop here book)).size → (r || meet block (numbers_from book next)) ≡ meet block (numbers_from book at)
    unfolding meet
    step {next} to =
        ap (λ (b : Bool). b || meet block (numbers_from book next)) in-it ∙ ap (meet block) (sym (numbers-step q.running h is to)) ∙ q.others

    pub apart_meets : r ≡ true → true ≡ meet block (numbers_from book at)
    apart_meets e = ap (λ (b : Bool). b || meet block (numbers_from book (here + (entry_of (drop here book)).size))) (sym e) ∙ step refl

    pub apart_more : r ≡ false → {next : ℕ} → next ≡ here + (entry_of (drop here book)).size → Apart book at block next
    apart_more e {next} to =
        record { running = running_more q.running h to; others = ap (λ (b : Bool). b || meet block (numbers_from book next)) (sym e) ∙ step to }

  pub apart_end : length book ≤ here → false ≡ meet block (numbers_from book at)
  unfolding meet
  apart_end h = ap (meet block) (sym (numbers_end q.running h)) ∙ q.others

-- ---- block after block

pub record Distinct (book : List ℕ) (at : ℕ) : Type 0 where
  pub running : Running book at
  pub others : differ (numbers_from book at) ≡ distinct (accounts book)

pub distinct_none : {book : List ℕ} → Running book 0 → Distinct book 0
distinct_none {book} q = record { running = q; others = sym (distinct-numbers (accounts book)) }

module _ {book : List ℕ} {at : ℕ} {block : List ℕ} {count end : ℕ} (q : Distinct book at) (k : Collected book at block count end) where
  abbrev held : List ℕ
  held = take count block

  abbrev rest : List ℕ
  rest = numbers_from book end

  parts : {s t : Bool} → differ held ≡ s → meet held rest ≡ t → (s && (not t && differ rest)) ≡ distinct (accounts book)
  parts e f =
      ap₂ (λ (s t : Bool). s && (not t && differ rest)) (sym e) (sym f) ∙ sym (differ-append held rest) ∙ ap differ (sym k.numbers) ∙ q.others

  pub distinct_repeated : differ held ≡ false → false ≡ distinct (accounts book)
  distinct_repeated e = parts e refl

  pub distinct_met : differ held ≡ true → meet held rest ≡ true → false ≡ distinct (accounts book)
  distinct_met e f = parts e f

  pub distinct_more : differ held ≡ true → meet held rest ≡ false → Distinct book end
  distinct_more e f = record { running = k.running; others = parts e f }

pub distinct_end : {book : List ℕ} {at : ℕ} → Distinct book at → length book ≤ at → true ≡ distinct (accounts book)
unfolding differ
distinct_end q h = ap differ (sym (numbers_end q.running h)) ∙ q.others
