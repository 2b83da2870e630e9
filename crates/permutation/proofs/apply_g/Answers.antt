-- What the closure answers. Assumes nothing.
use Rattle.std.proofs.Common.{◌≡◌, rules}
use Rattle.mixer.specs.declared.Words.{Words}
use Rattle.mixer.specs.Word.{plain_sum}
use Rattle.mixer.specs.G.{G}
use Rattle.permutation.specs.Round.{words_at, put_words}
use Rattle.permutation.proofs.Along.{applied}
use Rattle.permutation.proofs.apply_g.Goals as goal

pub returns : goal.returns
returns c =
    let e = c.apply.ensures in
    let made : ◌≡◌ {A = Words} e.0 (G plain_sum (words_at c.args.q c.args.s.now)) = search rules in
    let put : c.apply.new.s ≡ put_words c.args.q e.0 c.args.s.now = search rules in
    applied (G plain_sum) c.args.q c.args.s.now made put
