-- What a file's tokens are expanded into, by what the code names.
use Rattle.std.proofs.Common.{◌≡◌, ℕ, List, [], ◌∷◌, ◌++◌, length, map, Option, Some, None, Result, Ok, Err, refl, ap, subst, ◌∙◌}
use Rattle.std.proofs.lemmas.List.Elements.{All-nil, All-cons}
use Rattle.c_token.specs.declared.token.Token.{Token}
use Rattle.c_lexer.specs.Kinds.{IsSpelled, AllSpelled}
use Rattle.c_lexer.specs.Cutting.{IsCutInto}
use Rattle.c_lexer.proofs.Spelled.{all_spelled_stays, spelled_moves}
use Rattle.c_pre.specs.declared.error.PreError.{PreError}
use Rattle.c_pre.specs.Lines.{lines}
use Rattle.c_pre.specs.Headers.{text, moved}
use Rattle.c_pre.specs.Carrying.{start, Carries}
use Rattle.c_pre.specs.Calls.{setting_of, IsExpansion}
use Rattle.c_pre.proofs.Kept.{first, others, lines_spelled, given_spelled}
use Rattle.c_pre.proofs.Once.{expansion_once}

moved_spelled : (front bytes : List ℕ) (ts : List Token) → AllSpelled bytes ts → AllSpelled (front ++ bytes) (map (moved (length front)) ts)
moved_spelled front bytes [] h = All-nil (IsSpelled (front ++ bytes))
moved_spelled front bytes (t ∷ ts) h =
    All-cons (IsSpelled (front ++ bytes)) (moved (length front) t) (map (moved (length front)) ts) (spelled_moves front bytes t (first bytes t ts h))
    (moved_spelled front bytes ts (others bytes t ts h))

-- the tokens that are given are spelled
pub out_spelled : (bytes : List ℕ) (own tokens given : List Token) (stop : Option PreError) → AllSpelled text own → AllSpelled bytes tokens →
    Carries (setting_of bytes own) (lines tokens) start 0 given stop → AllSpelled (bytes ++ text) given
out_spelled bytes own tokens given stop o s c =
    given_spelled (setting_of bytes own) (lines tokens) given stop
    (lines_spelled (bytes ++ text) (map (moved (length bytes)) own) (moved_spelled bytes text own o))
    (lines_spelled (bytes ++ text) tokens (all_spelled_stays bytes text tokens s)) c

pub setting_as : (bytes all : List ℕ) (by : ℕ) (own rows read tokens given : List Token) (stop : Option PreError) → all ≡ bytes ++ text → by ≡ length bytes → rows ≡ map (moved by) own → read ≡ tokens →
    Carries (record { bytes = all; rows = lines rows }) (lines read) start 0 given stop → Carries (setting_of bytes own) (lines tokens) start 0 given stop
setting_as bytes all by own rows read tokens given stop e b r same c =
    let rows_are : rows ≡ map (moved (length bytes)) own = r ∙ ap (λ (n : ℕ). map (moved n) own) b in
    let with_rows = subst (λ (rs : List Token). Carries (record { bytes = all; rows = lines rs }) (lines read) start 0 given stop) rows_are c in
    let with_bytes = subst (λ (bs : List ℕ). Carries (record { bytes = bs; rows = lines (map (moved (length bytes)) own) }) (lines read) start 0 given stop) e with_rows in
    subst (λ (ts : List Token). Carries (setting_of bytes own) (lines ts) start 0 given stop) same with_bytes

pub expansion_ok : (bytes : List ℕ) (own tokens given : List Token) → IsCutInto text (Ok own) → Carries (setting_of bytes own) (lines tokens) start 0 given None → IsExpansion bytes tokens (Ok given)
expansion_ok bytes own tokens given cut c = record { own = own; cut = cut; expanded = record { given = given; stop = None; carries = c; found_is = refl } }

pub expansion_err : (bytes : List ℕ) (own tokens given : List Token) (e : PreError) → IsCutInto text (Ok own) → Carries (setting_of bytes own) (lines tokens) start 0 given (Some e) → IsExpansion bytes tokens (Err e)
expansion_err bytes own tokens given e cut c = record { own = own; cut = cut; expanded = record { given = given; stop = Some e; carries = c; found_is = refl } }

pub exact_ok : (bytes : List ℕ) (tokens given : List Token) (found : Result (List Token) PreError) → IsExpansion bytes tokens (Ok given) → IsExpansion bytes tokens found → found ≡ Ok given
exact_ok bytes tokens given found h k = expansion_once bytes tokens found (Ok given) k h

pub exact_err : (bytes : List ℕ) (tokens : List Token) (e : PreError) (found : Result (List Token) PreError) → IsExpansion bytes tokens (Err e) → IsExpansion bytes tokens found → found ≡ Err e
exact_err bytes tokens e found h k = expansion_once bytes tokens found (Err e) k h
