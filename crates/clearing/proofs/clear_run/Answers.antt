-- Rounds of zeros give zeros, and a word of them adds nothing.
use Rattle.std.proofs.Common.{ℕ, List, ◌≡◌, ap, ◌∙◌, arith, get_or, replicate}
use Rattle.mixer.specs.Mixers.{sum_of}
use Rattle.mixer.specs.declared.Mixer.{Mixer}
use Rattle.mixer.proofs.Additions.{sum_of_zeros}
use Rattle.permutation.specs.Round.{rounds}
use Rattle.profile.specs.Profile.{state_words}
use Rattle.clearing.proofs.Zeros.{rounds_zeros}
use Rattle.clearing.proofs.clear_run.Goals as goal

still_zeros : (x : Mixer) (n : ℕ) {s t : List ℕ} → s ≡ replicate state_words 0 → t ≡ rounds (sum_of x) n s → t ≡ replicate state_words 0
still_zeros x n e f = f ∙ ap (rounds (sum_of x) n) e ∙ rounds_zeros (sum_of x) (sum_of_zeros x) n

pub clear_stack-requires : goal.clear_stack-requires
clear_stack-requires c = ap (λ (l : List ℕ). get_or l 0 0) (still_zeros c.args.mixer c.args.n c.clear_state-kept.ensures.1 c.rounds.ensures)

pub returns-then-stack_used : goal.returns-then-stack_used
returns-then-stack_used c =
    let kept = c.clear_state-kept.ensures in
    (omega (arith, kept.0, c.clear_stack.ensures), still_zeros c.args.mixer c.args.n kept.1 c.rounds.ensures)
