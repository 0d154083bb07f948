use Rattle.c_token.proofs.Spellings.{keyword_back}
use Rattle.c_token.proofs.token.each_keyword_is_spelled.Goals as goal

pub returns : goal.returns
returns c = keyword_back
