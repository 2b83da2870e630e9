use Rattle.std.proofs.Common.{refl}
use Rattle.permutation.specs.Round.{put_words}
use Rattle.permutation.proofs.put_words.Goals as goal

pub returns : goal.returns
unfolding put_words
returns c = refl
