-- Each keyword and each mark stands in its table: its spelling spells it.
use Rattle.std.proofs.Common.{◌≡◌, Some, refl}
use Rattle.c_token.specs.declared.token.Keyword.{Keyword}
use Rattle.c_token.specs.declared.token.Keyword.TheVariants as keywords
use Rattle.c_token.specs.declared.token.Mark.{Mark}
use Rattle.c_token.specs.declared.token.Mark.TheVariants as marks
use Rattle.c_token.specs.Spelling.{keyword_text, mark_text, keyword_of, mark_of}

pub keyword_back : (k : Keyword) → keyword_of (keyword_text k) ≡ Some k
keyword_back keywords.Auto = refl
keyword_back _ = refl

pub mark_back : (m : Mark) → mark_of (mark_text m) ≡ Some m
mark_back marks.LeftBracket = refl
mark_back _ = refl
