-- Absorbing blocks of bytes keeps states, and tells the bytes where at most one block is open; so does the state after a derivation's
-- input. Assumes nothing.
use mathlib.Core.Path.{◌≡◌, refl, sym, ap, ap₂, ◌∙◌}
use mathlib.Core.Logic.{◌≢◌}
use Prim.Native.Nat.{ℕ, zero, suc, ◌*◌, ◌<◌, ◌^◌}
use native.Mathlib.Decide.{ℕ_discrete}
use native.Mathlib.Omega.{arith}
use mathlib.Core.List.{List}
use lib.ListN.{length, drop, length-drop}
use lib.Seq.{take_all}
use borrow.Author.Count.{below_more}
use Rattle.lists.proofs.Parts.{pieces_same}
use Rattle.lists.proofs.Words.{AllWords}
use Rattle.little_endian.proofs.ByteLaws.{AllBytes, drop_bytes, words_fit, length-words, words_inj}
use Rattle.mixer.specs.Word.{Addition, Undoes}
use Rattle.permutation.proofs.State.{IsState}
use Rattle.profile.specs.Profile.{full_rounds, start}
use Rattle.sponge.specs.Sponge.{absorb}
use Rattle.sponge.proofs.Absorbing.{absorb_state, absorb_inj, absorbed_words, start_state}
use Rattle.settings.specs.Settings.{Settings}
use Rattle.padded_input.proofs.Padded.{length-padded, padded_bytes, padded_inj}
use Rattle.input.specs.Input.{block, absorb_blocks, absorb_input, Input, lengths, numbers, padded_input, input_blocks, input_state}

block_words_lem : (bytes : List ℕ) → AllBytes bytes → (i : ℕ) → AllWords (block bytes i)
block_words_lem bytes h i = words_fit 8 (drop (64 * i) bytes) (drop_bytes (64 * i) bytes h)

module _ {A : Addition} (u : Undoes A) where
  pub blocks_state : (n : ℕ) (bytes : List ℕ) {s : List ℕ} → AllBytes bytes → IsState s → IsState (absorb_blocks A.sum n bytes s)
  unfolding absorb_blocks
  blocks_state zero bytes hb hs = hs
  blocks_state (suc n) bytes hb hs =
      absorb_state u full_rounds (block bytes n) (block_words_lem bytes hb n) (blocks_state n bytes hb hs)

-- the first n blocks are the same
abbrev pub SameBlocks : ℕ → List ℕ → List ℕ → Type 0
SameBlocks n bytes bytes' = (i : ℕ) → i < n → block bytes i ≡ block bytes' i

module _ {A : Addition} (u : Undoes A) (bytes bytes' : List ℕ) (h : AllBytes bytes) (h' : AllBytes bytes') (s : List ℕ) (hs : IsState s) where
  abbrev state : ℕ → List ℕ → List ℕ
  state n l = absorb_blocks A.sum n l s

  same_states : (n : ℕ) → SameBlocks n bytes bytes' → state n bytes ≡ state n bytes'
  unfolding absorb_blocks
  same_states zero same = refl
  same_states (suc n) same =
      ap₂ (absorb A.sum full_rounds) (same n (omega arith)) (same_states n (λ i lt. same i (omega arith)))

  up_to : (n : ℕ) → SameBlocks n bytes bytes' → block bytes n ≡ block bytes' n → SameBlocks (suc n) bytes bytes'
  up_to n before here i lt = below_more (λ j. block bytes j ≡ block bytes' j) n before here i (omega arith)

  -- at most block b is open: the blocks after it are undone, and the state before it tells it
  pub absorb_blocks_inj : (b n : ℕ) → ((i : ℕ) → i < n → i ≢ b → block bytes i ≡ block bytes' i) → state n bytes ≡ state n bytes' → SameBlocks n bytes bytes'
  unfolding absorb_blocks
  absorb_blocks_inj b zero same e = λ i lt. absurd (omega arith)
  absorb_blocks_inj b (suc n) same e =
      elim (ℕ_discrete n b) [
        | yes here ↦
            let before : SameBlocks n bytes bytes' = λ j l. same j (omega arith) (omega arith) in
            up_to n before
            (absorbed_words u full_rounds (state n bytes) (block bytes n) (block bytes' n) (block_words_lem bytes h n) (block_words_lem bytes' h' n)
            (blocks_state u n bytes h hs) (omega (arith, length-words 8 (drop (64 * n) bytes))) (simp length-words)
            (e ∙ ap (absorb A.sum full_rounds (block bytes' n)) (sym (same_states n before))))
        | no other ↦
            let one : block bytes n ≡ block bytes' n = same n (omega arith) other in
            let states =
            absorb_inj u full_rounds (block bytes n) (state n bytes) (state n bytes') (block_words_lem bytes h n)
            (blocks_state u n bytes h hs) (blocks_state u n bytes' h' hs)
            (e ∙ ap (λ (words : List ℕ). absorb A.sum full_rounds words (state n bytes')) (sym one)) in
            up_to n (absorb_blocks_inj b n (λ j l. same j (omega arith)) states) one
      ]

-- bytes that fill their blocks
pub same_blocks_bytes : (bytes bytes' : List ℕ) → AllBytes bytes → AllBytes bytes' → (n : ℕ) → length bytes ≡ 64 * n → length bytes' ≡ 64 * n
    → SameBlocks n bytes bytes' → bytes ≡ bytes'
same_blocks_bytes bytes bytes' h h' n l l' same =
    sym (take_all (64 * n) bytes (omega arith))
    ∙ pieces_same 64 n bytes bytes'
    (λ i lt. words_inj 8 (drop (64 * i) bytes) (drop (64 * i) bytes') (drop_bytes (64 * i) bytes h) (drop_bytes (64 * i) bytes' h')
    (simp length-drop (omega arith)) (simp length-drop (omega arith)) (same i lt))
    ∙ take_all (64 * n) bytes' (omega arith)

pub length-padded-input : (S : Settings) (x : Input) → length (padded_input S x) ≡ 64 * input_blocks (lengths x)
unfolding padded_input input_blocks
length-padded-input S x = length-padded x.password x.salt (numbers x S)

padded_input_bytes : (S : Settings) (x : Input) → AllBytes x.password → AllBytes x.salt → AllBytes (padded_input S x)
unfolding padded_input
padded_input_bytes S x = padded_bytes x.password x.salt (numbers x S)

-- the state by its blocks
state_blocks : (S : Settings) (x : Input) → input_state S x ≡ absorb_blocks S.addition.sum (input_blocks (lengths x)) (padded_input S x) start
unfolding input_state absorb_input input_blocks padded_input
state_blocks S x = refl

pub input_state_lem : (S : Settings) (x : Input) → Undoes S.addition → AllBytes x.password → AllBytes x.salt → IsState (input_state S x)
input_state_lem S x u hp hs =
    rw state_blocks (blocks_state u (input_blocks (lengths x)) (padded_input S x) (padded_input_bytes S x hp hs) start_state)

-- equally many blocks, of which at most block b differs
pub input_state_inj : (S : Settings) (x y : Input) → Undoes S.addition
    → AllBytes x.password → AllBytes x.salt → AllBytes y.password → AllBytes y.salt
    → x.key_length < 2 ^ 32 → y.key_length < 2 ^ 32 → length x.password < 2 ^ 32 → length y.password < 2 ^ 32
    → input_blocks (lengths x) ≡ input_blocks (lengths y)
    → (b : ℕ) → ((i : ℕ) → i < input_blocks (lengths x) → i ≢ b → block (padded_input S x) i ≡ block (padded_input S y) i)
    → input_state S x ≡ input_state S y → (x.password ≡ y.password) × (x.salt ≡ y.salt) × (x.key_length ≡ y.key_length)
unfolding padded_input
input_state_inj S x y u xp xs yp ys xk yk xl yl many b same e =
    let n = input_blocks (lengths x) in
    let hx = padded_input_bytes S x xp xs in
    let hy = padded_input_bytes S y yp ys in
    let states : absorb_blocks S.addition.sum n (padded_input S x) start ≡ absorb_blocks S.addition.sum n (padded_input S y) start =
    sym (state_blocks S x) ∙ e ∙ state_blocks S y ∙ ap (λ (m : ℕ). absorb_blocks S.addition.sum m (padded_input S y) start) (sym many) in
    padded_inj x.key_length y.key_length x.password x.salt y.password y.salt _ _ refl xk yk xl yl
    (same_blocks_bytes (padded_input S x) (padded_input S y) hx hy n (length-padded-input S x)
    (length-padded-input S y ∙ ap (λ (m : ℕ). 64 * m) (sym many))
    (absorb_blocks_inj u (padded_input S x) (padded_input S y) hx hy start start_state b n same states))
