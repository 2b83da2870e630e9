-- What the closure answers. Assumes nothing.
use Rattle.std.proofs.Common.{◌≡◌, rules}
use Rattle.mixer.specs.declared.Words.{Words}
use Rattle.mixer.specs.Mixers.{blamka_sum}
use Rattle.mixer.specs.G.{half_g}
use Rattle.permutation.specs.Round.{words_at, put_words}
use Rattle.permutation.proofs.Along.{applied}
use Rattle.blamka.proofs.apply_half.Goals as goal

pub returns : goal.returns
returns c =
    let a = c.args in
    let e = c.apply.ensures in
    let made : ◌≡◌ {A = Words} e.0 (half_g blamka_sum a.m a.n (words_at a.q a.s.now)) = search rules in
    let put : c.apply.new.s ≡ put_words a.q e.0 a.s.now = search rules in
    applied (half_g blamka_sum a.m a.n) a.q a.s.now made put
