-- A round of zeros gives zeros, so that a word of them adds nothing.
use Rattle.std.proofs.Common.{ℕ, List, ◌≡◌, refl, ap, ◌∙◌, arith, get_or, replicate}
use Rattle.mixer.specs.Word.{plain_sum}
use Rattle.permutation.specs.Round.{round}
use Rattle.profile.specs.Profile.{state_words}
use Rattle.clearing.proofs.Zeros.{round_zeros}
use Rattle.clearing.proofs.clear_state.Goals as goal

zeros : {s : List ℕ} → s ≡ round plain_sum (replicate state_words 0) → s ≡ replicate state_words 0
zeros e = e ∙ round_zeros plain_sum refl

zero_word : {s : List ℕ} → s ≡ round plain_sum (replicate state_words 0) → get_or s 0 0 ≡ 0
zero_word e = ap (λ (l : List ℕ). get_or l 0 0) (zeros e)

pub overflow_add-result : goal.overflow_add-result
overflow_add-result c = omega (arith, zero_word c.plain_round.ensures)

pub returns : goal.returns
returns c = (omega (arith, zero_word c.plain_round.ensures), zeros c.plain_round.ensures)
