-- Parts of lists: appended lists are known by their parts, a list by its pieces of equal length, and f applied from a place on
-- changes no place that it does not meet. Assumes nothing.
use mathlib.Core.Path.{◌≡◌, refl, sym, ap, ap₂, ◌∙◌}
use Prim.Native.Nat.{ℕ, zero, suc, ◌+◌, ◌-◌, ◌*◌, ◌≤◌, ◌<◌}
use native.Mathlib.Nat.{zero-add, suc-add, mul-suc, mul-zero, mul-le-mul_left, not-suc-le-zero, le_of_suc-le-suc}
use native.Mathlib.Omega.{arith}
use mathlib.Core.List.{List, [], ◌∷◌, ◌++◌}
use lib.ListN.{length, get_or, take, drop, length-append}
use lib.Seq.{take_at, drop_at, take-nil, take-take, take-add, drop-drop}
use Rattle.lists.specs.Zip.{zip_into, zip_at}
use Rattle.lists.proofs.ZipLaws.{zip_none, zip_undo}

module _ {A : Type 0} where
  pub append_inj : (a b c d : List A) → length a ≡ length b → a ++ c ≡ b ++ d → (a ≡ b) × (c ≡ d)
  append_inj a b c d l e = (
    sym (take_at a c (length a) refl) ∙ ap (take (length a)) e ∙ take_at b d (length a) (sym l),
    sym (drop_at a c (length a) refl) ∙ ap (drop (length a)) e ∙ drop_at b d (length a) (sym l),
  )

  pub snoc_inj : (xs ys : List A) (x y : A) → xs ++ (x ∷ []) ≡ ys ++ (y ∷ []) → (xs ≡ ys) × (x ≡ y)
  snoc_inj xs ys x y e =
      let l : length xs ≡ length ys = omega (arith, ap length e, length-append xs (x ∷ []), length-append ys (y ∷ [])) in
      let parts = append_inj xs ys (x ∷ []) (y ∷ []) l e in
      let last : x ∷ [] ≡ y ∷ [] = parts.1 in (parts.0, cc)

  pub drop-take : (a n : ℕ) (l : List A) → drop a (take (a + n) l) ≡ take n (drop a l)
  drop-take zero n l = rw zero-add
  drop-take (suc a) n [] = rw (suc-add a n) (sym (take-nil n))
  drop-take (suc a) n (x ∷ l) = rw (suc-add a n) (drop-take a n l)

  -- inside a list it does not matter what is read past its end
  pub get_or-inside : (l : List A) (i : ℕ) (d e : A) → i < length l → get_or l i d ≡ get_or l i e
  get_or-inside [] i d e h = absurd (not-suc-le-zero h)
  get_or-inside (x ∷ l) zero d e h = refl
  get_or-inside (x ∷ l) (suc i) d e h = get_or-inside l i d e (le_of_suc-le-suc h)

  -- ---- n pieces of w elements

  pub same_pieces : (w n : ℕ) (l m : List A) → take (w * n) l ≡ take (w * n) m
      → (i : ℕ) → i < n → take w (drop (w * i) l) ≡ take w (drop (w * i) m)
  same_pieces w n l m e i h =
      let fits : w * i + w ≤ w * n = omega (arith, mul-suc w i, mul-le-mul_left w h) in
      sym (drop-take (w * i) w l)
      ∙ ap (drop (w * i)) (sym (take-take (w * i + w) (w * n) l fits) ∙ ap (take (w * i + w)) e ∙ take-take (w * i + w) (w * n) m fits)
      ∙ drop-take (w * i) w m

  pub pieces_same : (w n : ℕ) (l m : List A) → ((i : ℕ) → i < n → take w (drop (w * i) l) ≡ take w (drop (w * i) m))
      → take (w * n) l ≡ take (w * n) m
  pieces_same w zero l m h = rw (mul-zero w)
  pieces_same w (suc n) l m h =
      rw (mul-suc w n, take-add (w * n) w l, take-add (w * n) w m)
      (ap₂ (λ (a b : List A). a ++ b) (pieces_same w n l m (λ i lt. h i (omega arith))) (h n (omega arith)))

-- ---- f from a place on

module _ (f : ℕ → ℕ → ℕ) where
  pub drop_zip : (n : ℕ) (xs ys : List ℕ) → length ys ≤ n → drop n (zip_into f xs ys) ≡ drop n xs
  unfolding zip_into
  drop_zip n [] ys h = refl
  drop_zip n (x ∷ xs) [] h = refl
  drop_zip zero (x ∷ xs) (y ∷ ys) h = absurd (not-suc-le-zero h)
  drop_zip (suc n) (x ∷ xs) (y ∷ ys) h = drop_zip n xs ys (le_of_suc-le-suc h)

  take_zip : (n : ℕ) (xs ys : List ℕ) → length ys ≤ n → take n (zip_into f xs ys) ≡ zip_into f (take n xs) ys
  unfolding zip_into
  take_zip zero xs [] h = refl
  take_zip zero xs (y ∷ ys) h = absurd (not-suc-le-zero h)
  take_zip (suc n) [] ys h = refl
  take_zip (suc n) (x ∷ xs) [] h = refl
  take_zip (suc n) (x ∷ xs) (y ∷ ys) h = ap (λ (l : List ℕ). f x y ∷ l) (take_zip n xs ys (le_of_suc-le-suc h))

  take-zip_at : (a : ℕ) (xs ys : List ℕ) → take a (zip_at f a xs ys) ≡ take a xs
  unfolding zip_at zip_into
  take-zip_at zero xs ys = refl
  take-zip_at (suc a) [] ys = refl
  take-zip_at (suc a) (x ∷ xs) ys = ap (λ (l : List ℕ). x ∷ l) (take-zip_at a xs ys)

  drop-zip_at : (a : ℕ) (xs ys : List ℕ) → drop a (zip_at f a xs ys) ≡ zip_into f (drop a xs) ys
  unfolding zip_at zip_into
  drop-zip_at zero xs ys = refl
  drop-zip_at (suc a) [] ys = refl
  drop-zip_at (suc a) (x ∷ xs) ys = drop-zip_at a xs ys

  -- what g undoes place by place, it undoes from a place on
  pub zip_at_undo : (g : ℕ → ℕ → ℕ) → ((x y : ℕ) → g (f x y) y ≡ x) → (a : ℕ) (xs ys : List ℕ) → zip_at g a (zip_at f a xs ys) ys ≡ xs
  unfolding zip_at zip_into
  zip_at_undo g e zero xs ys = zip_undo f g e xs ys
  zip_at_undo g e (suc a) [] ys = refl
  zip_at_undo g e (suc a) (x ∷ xs) ys = ap (λ (l : List ℕ). x ∷ l) (zip_at_undo g e a xs ys)

  -- the part of n elements from place b on: before the changed places, after them, and at them

  pub part_before : (a b n : ℕ) (xs ys : List ℕ) → b + n ≤ a → take n (drop b (zip_at f a xs ys)) ≡ take n (drop b xs)
  part_before a b n xs ys h =
      sym (drop-take b n (zip_at f a xs ys))
      ∙ ap (drop b) (sym (take-take (b + n) a (zip_at f a xs ys) h) ∙ ap (take (b + n)) (take-zip_at a xs ys) ∙ take-take (b + n) a xs h)
      ∙ drop-take b n xs

  pub part_after : (a b n : ℕ) (xs ys : List ℕ) → a + length ys ≤ b → take n (drop b (zip_at f a xs ys)) ≡ take n (drop b xs)
  part_after a b n xs ys h =
      let split : a + (b - a) ≡ b = omega arith in
      ap (take n)
      (ap (λ (k : ℕ). drop k (zip_at f a xs ys)) (sym split) ∙ sym (drop-drop (b - a) a (zip_at f a xs ys))
      ∙ ap (drop (b - a)) (drop-zip_at a xs ys) ∙ drop_zip (b - a) (drop a xs) ys (omega arith)
      ∙ drop-drop (b - a) a xs ∙ ap (λ (k : ℕ). drop k xs) split)

  pub part_at : (a n : ℕ) (xs ys : List ℕ) → length ys ≤ n → take n (drop a (zip_at f a xs ys)) ≡ zip_into f (take n (drop a xs)) ys
  part_at a n xs ys h = ap (take n) (drop-zip_at a xs ys) ∙ take_zip n (drop a xs) ys h

-- ---- two changes, each from a place on, in either order

module _ (f g : ℕ → ℕ → ℕ) where
  -- where they meet in no place
  pub apart_swap : (a b : ℕ) (m xs ys : List ℕ) → b + length ys ≤ a → zip_at f a (zip_at g b m ys) xs ≡ zip_at g b (zip_at f a m xs) ys
  unfolding zip_at zip_into
  apart_swap a zero m xs [] h = ap (λ (l : List ℕ). zip_at f a l xs) (zip_none g m) ∙ sym (zip_none g (zip_at f a m xs))
  apart_swap zero zero m xs (y ∷ ys) h = absurd (omega arith)
  apart_swap (suc a) zero [] xs (y ∷ ys) h = refl
  apart_swap (suc a) zero (u ∷ m) xs (y ∷ ys) h = ap (λ (l : List ℕ). g u y ∷ l) (apart_swap a zero m xs ys (omega arith))
  apart_swap zero (suc b) m xs ys h = absurd (omega arith)
  apart_swap (suc a) (suc b) [] xs ys h = refl
  apart_swap (suc a) (suc b) (u ∷ m) xs ys h = ap (λ (l : List ℕ). u ∷ l) (apart_swap a b m xs ys (omega arith))

  -- where the order does not matter in a place that both meet
  module _ (e : (u x y : ℕ) → f (g u y) x ≡ g (f u x) y) where
    zip_swap : (m xs ys : List ℕ) → zip_into f (zip_into g m ys) xs ≡ zip_into g (zip_into f m xs) ys
    unfolding zip_into
    zip_swap [] xs ys = refl
    zip_swap (u ∷ m) [] [] = refl
    zip_swap (u ∷ m) [] (y ∷ ys) = refl
    zip_swap (u ∷ m) (x ∷ xs) [] = refl
    zip_swap (u ∷ m) (x ∷ xs) (y ∷ ys) = ap₂ (λ (h : ℕ) (t : List ℕ). h ∷ t) (e u x y) (zip_swap m xs ys)

    pub zip_at_swap : (a b : ℕ) (m xs ys : List ℕ) → zip_at f a (zip_at g b m ys) xs ≡ zip_at g b (zip_at f a m xs) ys
    unfolding zip_at zip_into
    zip_at_swap zero zero m xs ys = zip_swap m xs ys
    zip_at_swap zero (suc b) [] xs ys = refl
    zip_at_swap zero (suc b) (u ∷ m) [] ys = refl
    zip_at_swap zero (suc b) (u ∷ m) (x ∷ xs) ys = ap (λ (l : List ℕ). f u x ∷ l) (zip_at_swap zero b m xs ys)
    zip_at_swap (suc a) zero [] xs ys = refl
    zip_at_swap (suc a) zero (u ∷ m) xs [] = refl
    zip_at_swap (suc a) zero (u ∷ m) xs (y ∷ ys) = ap (λ (l : List ℕ). g u y ∷ l) (zip_at_swap a zero m xs ys)
    zip_at_swap (suc a) (suc b) [] xs ys = refl
    zip_at_swap (suc a) (suc b) (u ∷ m) xs ys = ap (λ (l : List ℕ). u ∷ l) (zip_at_swap a b m xs ys)
