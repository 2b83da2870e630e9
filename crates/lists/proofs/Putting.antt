-- Words put in place of others: from a place on, and over what was put before. Assumes nothing.
use mathlib.Core.Path.{◌≡◌, refl, sym, ap, ◌∙◌}
use Prim.Native.Nat.{ℕ, zero, suc, ◌+◌, ◌-◌, ◌≤◌}
use native.Mathlib.Nat.{not-suc-le-zero, le_of_suc-le-suc}
use native.Mathlib.Omega.{arith}
use mathlib.Core.List.{List, [], ◌∷◌, ◌++◌}
use lib.ListN.{length, get_or, take, drop, replicate}
use lib.Seq.{drop-nil, get_or-take, get_or-drop}
use Rattle.lists.specs.Zip.{zip_into, put_into, zip_at}
use Rattle.lists.proofs.ZipLaws.{zip_none}
use Rattle.lists.proofs.Parts.{part_after}

-- what stands before the place may be put anew
pub put-from : (a : ℕ) (xs ys : List ℕ) → a ≤ length xs → zip_at (λ x y. y) a xs ys ≡ put_into xs (take a xs ++ ys)
unfolding zip_at zip_into
put-from zero xs ys h = refl
put-from (suc a) [] ys h = absurd (not-suc-le-zero h)
put-from (suc a) (x ∷ xs) ys h = ap (λ (l : List ℕ). x ∷ l) (put-from a xs ys (le_of_suc-le-suc h))

-- words put over others that were put
put_twice : (xs zs ys : List ℕ) → put_into (put_into xs zs) ys ≡ put_into xs (ys ++ drop (length ys) zs)
unfolding zip_into
put_twice [] zs ys = refl
put_twice (x ∷ xs) [] [] = refl
put_twice (x ∷ xs) [] (y ∷ ys) =
    ap (λ (l : List ℕ). y ∷ l)
    (ap (λ (l : List ℕ). put_into l ys) (sym (zip_none (λ a b. b) xs)) ∙ put_twice xs [] ys ∙ ap (λ (l : List ℕ). put_into xs (ys ++ l)) (drop-nil (length ys)))
put_twice (x ∷ xs) (z ∷ zs) [] = refl
put_twice (x ∷ xs) (z ∷ zs) (y ∷ ys) = ap (λ (l : List ℕ). y ∷ l) (put_twice xs zs ys)

-- the same behind words that are kept
pub put_over : (xs front zs ys : List ℕ)
    → zip_at (λ x y. y) (length front) (put_into xs (front ++ zs)) ys ≡ put_into xs (front ++ (ys ++ drop (length ys) zs))
unfolding zip_at zip_into
put_over xs [] zs ys = put_twice xs zs ys
put_over [] (w ∷ front) zs ys = refl
put_over (x ∷ xs) (w ∷ front) zs ys = ap (λ (l : List ℕ). w ∷ l) (put_over xs front zs ys)

pub drop-replicate : (n m : ℕ) (a : ℕ) → drop n (replicate m a) ≡ replicate (m - n) a
drop-replicate zero m a = let same : m ≡ m - 0 = omega arith in ap (λ (k : ℕ). replicate k a) same
drop-replicate (suc n) zero a = let same : 0 ≡ 0 - suc n = omega arith in ap (λ (k : ℕ). replicate k a) same
drop-replicate (suc n) (suc m) a = let same : m - n ≡ suc m - suc n = omega arith in drop-replicate n m a ∙ ap (λ (k : ℕ). replicate k a) same

-- an element behind the changed places
pub get_or-after : (f : ℕ → ℕ → ℕ) (a k : ℕ) (xs ys : List ℕ) → a + length ys ≤ k → get_or (zip_at f a xs ys) k 0 ≡ get_or xs k 0
get_or-after f a k xs ys h = sym (one (zip_at f a xs ys)) ∙ ap (λ (l : List ℕ). get_or l 0 0) (part_after f a k 1 xs ys h) ∙ one xs
  where
    one : (l : List ℕ) → get_or (take 1 (drop k l)) 0 0 ≡ get_or l k 0
    one l = get_or-take 1 (drop k l) 0 0 (omega arith) ∙ get_or-drop k l 0 0 ∙ (let same : k + 0 ≡ k = omega arith in ap (λ (n : ℕ). get_or l n 0) same)
