-- BlaMka's sum is that of three, in another order. Assumes nothing.
use Rattle.std.proofs.Common.{ℕ, ◌+◌, ◌%◌, ◌^◌, sym, ap, ◌∙◌}
use Rattle.mixer.specs.declared.Mixer.{Mixer}
use Rattle.mixer.specs.Mixers.{doubled_product, blamka_sum, sum_of}
use Rattle.mixer.proofs.Additions.{sum_of_three}
use Rattle.mixer.proofs.add.Goals as goal

pub returns-in-BlaMka : goal.returns-in-BlaMka
unfolding blamka_sum
returns-in-BlaMka c =
    let a = c.args in
    ap (λ (x : ℕ). (a.a + (a.b + x) % 2 ^ 64) % 2 ^ 64) c.doubled_product.ensures ∙ sum_of_three a.a a.b (doubled_product a.a a.b)
    ∙ ap (λ (x : Mixer). sum_of x a.a a.b) (sym c.in-BlaMka.is)
