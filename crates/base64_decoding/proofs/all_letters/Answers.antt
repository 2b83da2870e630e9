use Rattle.std.proofs.Common.{rules, ◌∙◌}
use Rattle.std.proofs.lemmas.Iterator.{YieldsList-from_slice}
use Rattle.std.proofs.lemmas.Iterator.Search.{all_from_yields_List}
use borrow.Author.Tests.{tests}
use Rattle.base64_encoding.specs.Base64.{is_letter}
use Rattle.base64_encoding.proofs.Reading.{all_letters_is}
use Rattle.base64_decoding.proofs.all_letters.Goals as goal

pub returns : goal.returns
returns c =
    all_from_yields_List is_letter _ _ _ c.all.ensures.ran (YieldsList-from_slice c.args.text.now cc) (λ x b q k. search (rules, tests))
    ∙ all_letters_is c.args.text.now
