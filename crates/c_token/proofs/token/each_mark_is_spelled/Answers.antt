use Rattle.c_token.proofs.Spellings.{mark_back}
use Rattle.c_token.proofs.token.each_mark_is_spelled.Goals as goal

pub returns : goal.returns
returns c = mark_back
