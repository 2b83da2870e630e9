use Rattle.std.proofs.Common.{refl}
use Rattle.permutation.specs.Round.{words_at}
use Rattle.permutation.proofs.words_at.Goals as goal

pub returns : goal.returns
unfolding words_at
returns c = refl
