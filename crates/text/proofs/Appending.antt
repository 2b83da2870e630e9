-- Texts one after another in a buffer. Assumes nothing.
use mathlib.Core.Path.{◌≡◌, refl, sym, ◌∙◌}
use Prim.Native.Nat.{ℕ, ◌≤◌}
use native.Mathlib.Omega.{arith}
use mathlib.Core.List.{List, [], ◌++◌}
use lib.ListN.{length, take, length-append}
use lib.Seq.{length-take-le}
use Rattle.io.specs.Counts.{IsPrefixLen}
use Rattle.lists.specs.Zip.{zip_at}
use Rattle.lists.proofs.ZipLaws.{zip_at_none, put-append, put_front}
use Rattle.text.specs.Text.{Appended}

pub nothing : (a : List ℕ) (at : ℕ) → at ≤ length a → Appended a a at [] at
nothing a at h = record { next_is = omega arith; fits = h; same_length = refl; put = sym (zip_at_none (λ x y. y) at a) }

infixl 5 ◌then◌
pub ◌then◌ : {a b c s t : List ℕ} {at m n : ℕ} → Appended a b at s m → Appended b c m t n → Appended a c at (s ++ t) n
◌then◌ {a} {s = s} {t = t} {at = at} h k =
    record {
      next_is = omega (arith, h.next_is, k.next_is, length-append s t);
      fits = omega (arith, k.fits, h.same_length);
      same_length = k.same_length ∙ h.same_length;
      put = rw (put-append at a s t, ← h.put, ← h.next_is) k.put;
    }

-- the same text in other words
pub reworded : {a b s t : List ℕ} {at n : ℕ} → Appended a b at s n → s ≡ t → Appended a b at t n
reworded h e = rw (← e) h

-- a text at the start is what stands in front
pub in_front : {a b t : List ℕ} {n : ℕ} → Appended a b 0 t n → IsPrefixLen n b × (take n b ≡ t)
unfolding zip_at
in_front {a} {b} {t} {n} h =
    let all : n ≡ length t = omega (arith, h.next_is) in (
      (omega (arith, h.fits, h.same_length), sym (length-take-le n b (omega (arith, h.fits, h.same_length)))),
      rw (h.put, all) (put_front a t (omega (arith, h.fits))),
    )
