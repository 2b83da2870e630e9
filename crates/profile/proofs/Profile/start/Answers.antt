-- Assumes nothing.
use Rattle.std.proofs.Common.{arith}
use Rattle.lists.proofs.Words.{each_same}
use Rattle.profile.specs.Profile.{start, starting_words}
use Rattle.profile.proofs.Profile.start.Goals as goal

pub returns : goal.returns
unfolding start starting_words
returns c = each_same _ start (omega arith)
