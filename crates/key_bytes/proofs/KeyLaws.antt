-- The key's length, its bytes and the calls between them: the state that i bytes leave gives byte i once the calls before it
-- are made. Assumes nothing.
use mathlib.Core.Path.{◌≡◌, refl, sym, ap, ◌∙◌}
use Prim.Native.Nat.{ℕ, zero, suc, ◌+◌, ◌*◌, ◌/◌, ◌%◌, ◌<◌}
use native.Mathlib.Nat.{zero-add, suc-add}
use native.Mathlib.Omega.{arith}
use mathlib.Core.List.{List}
use lib.ListN.{length, get_or}
use Rattle.lists.proofs.ZipLaws.{length-tabulate, get_or-tabulate}
use Rattle.little_endian.specs.Bytes.{le_bytes, le_each}
use Rattle.little_endian.proofs.ByteLaws.{get_or-each}
use Rattle.permutation.specs.Round.{rounds}
use Rattle.profile.specs.Profile.{full_rounds}
use Rattle.sponge.specs.Sponge.{rand}
use Rattle.sponge.proofs.Output.{length-rand, get_or-rand}
use Rattle.key_bytes.specs.KeyBytes.{full_calls, piece, key_bytes, pieces, calls_between, calls_before, squeezed}

-- byte i of a piece, from word i / 8
pub piece_at : (s : List ℕ) (i x r : ℕ) → i < 96 → x ≡ get_or s (i / 8) 0 → r ≡ i % 8 → get_or (le_bytes 8 x) r 0 ≡ get_or (piece s) i 0
unfolding piece
piece_at s i x r h ex er =
    let split : 8 * (i / 8) + i % 8 ≡ i = omega arith in
    rw (ex, er, ← get_or-rand s (i / 8) (omega arith))
    (sym (get_or-each 8 (rand s) (i / 8) (i % 8) (omega (arith, length-rand s)) (omega arith))
    ∙ ap (λ (k : ℕ). get_or (le_each 8 (rand s)) k 0) split)

pub length_key : (sum : ℕ → ℕ → ℕ) (n : ℕ) (s : List ℕ) → length (key_bytes sum n s) ≡ n
unfolding key_bytes
length_key sum n s = length-tabulate n _

-- ---- the calls between the pieces

pub no_call : (sum : ℕ → ℕ → ℕ) (s : List ℕ) (k : ℕ) → k ≡ 0 → (s ≡ full_calls sum k s) × (0 ≡ k)
unfolding full_calls
no_call sum s k e = rw e (refl, refl)

pub one_call : (sum : ℕ → ℕ → ℕ) (s t : List ℕ) (k : ℕ) → k ≡ 1 → t ≡ rounds sum full_rounds s → (t ≡ full_calls sum k s) × (1 ≡ k)
unfolding full_calls
one_call sum s t k e called = rw e (called, refl)

-- the calls that the cost of a key counts, beside the one that comes before its first piece
pub pieces_calls : (n : ℕ) → 0 < n → calls_between n + 1 ≡ pieces n
unfolding pieces
pieces_calls n h = omega arith

-- ---- byte after byte

-- i bytes were taken from a first state: they left this one, with so many calls
pub record Squeezed (sum : ℕ → ℕ → ℕ) (s₀ : List ℕ) (i : ℕ) (s : List ℕ) (calls : ℕ) : Type 0 where
  pub left : s ≡ squeezed sum i s₀
  pub made : calls ≡ calls_between i

module _ (sum : ℕ → ℕ → ℕ) where
  pub squeezed_none : {s : List ℕ} → Squeezed sum s 0 s 0
  unfolding squeezed full_calls pieces
  squeezed_none = record { left = refl; made = refl }

  pub squeezed_end : {s₀ s : List ℕ} {i n calls : ℕ} → Squeezed sum s₀ i s calls → i ≡ n → (s ≡ squeezed sum n s₀) × (calls ≡ calls_between n)
  squeezed_end q e = rw (← e) (q.left, q.made)

  full_calls-add : (j k : ℕ) (s : List ℕ) → full_calls sum j (full_calls sum k s) ≡ full_calls sum (j + k) s
  unfolding full_calls
  full_calls-add zero k s = rw zero-add
  full_calls-add (suc j) k s = rw suc-add (ap (rounds sum full_rounds) (full_calls-add j k s))

  -- a byte more: t is the state after the calls before it
  module _ {s₀ s t : List ℕ} {i calls : ℕ} (q : Squeezed sum s₀ i s calls) (called : t ≡ full_calls sum (calls_before i) s) where
    next_state : t ≡ squeezed sum (i + 1) s₀
    unfolding squeezed pieces
    next_state =
        called ∙ ap (full_calls sum (calls_before i)) q.left
        ∙ full_calls-add (calls_before i) (calls_between i) s₀
        ∙ ap (λ (k : ℕ). full_calls sum k s₀) (omega arith)

    pub squeezed_more : (more : ℕ) → more ≡ calls_before i → Squeezed sum s₀ (i + 1) t (calls + more)
    unfolding pieces
    squeezed_more more e = record { left = next_state; made = omega (arith, q.made) }

    pub squeezed_byte : (n b : ℕ) → i < n → b ≡ get_or (piece t) (i % 96) 0 → b ≡ get_or (key_bytes sum n s₀) i 0
    unfolding squeezed pieces key_bytes
    squeezed_byte n b h e =
        let calls_made : calls_between (i + 1) ≡ i / 96 = omega arith in
        e ∙ ap (λ (u : List ℕ). get_or (piece u) (i % 96) 0) (next_state ∙ ap (λ (k : ℕ). full_calls sum k s₀) calls_made)
        ∙ sym (get_or-tabulate n _ i h)
