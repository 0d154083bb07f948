use Rattle.std.proofs.Common.{◌≡◌, ◌+◌, ◌≤◌, ◌++◌, length, drop, arith, sym, ◌∙◌, ap, subst, Ok, Err}
use Rattle.std.proofs.lemmas.List.{drop_all, length-drop}
use Rattle.std.proofs.lemmas.List.Elements.{All-append}
use Rattle.c_lexer.specs.Kinds.{IsSpelled}
use Rattle.c_lexer.specs.Positions.{Stands, size_of}
use Rattle.c_lexer.specs.Cutting.{Cuts, start, tokens_of}
use Rattle.c_lexer.proofs.Steps.{completes_more, completes_end, completes_fault, tokens_spelled, behind_at}
use Rattle.c_lexer.proofs.lexing.cut.Goals as goal

pub returns-in-Err-clause-fault : goal.returns-in-Err-clause-fault
returns-in-Err-clause-fault c = λ no_memory.
    let bytes = c.args.bytes.now in
    let position = c.loop-position.position in
    let stands = subst (λ text. Stands position.behind_prefix text (Err c.in-Err.fault)) c.split_at.ensures.back c.in-Err.ensures.stands in
    subst (λ e. Cuts bytes c.args.lines.now start (Err e)) (sym c.error_of.ensures)
    (completes_fault bytes c.args.lines.now c.loop-position.tokens.items position c.in-Err.fault stands c.loop-position.invariant.completes)

pub loop-position-preserved : goal.loop-position-preserved
loop-position-preserved c =
    let bytes = c.args.bytes.now in
    let lines = c.args.lines.now in
    let old = c.loop-position.tokens.items in
    let position = c.loop-position.position in
    let piece = c.in-Ok.piece in
    let stands : Stands position.behind_prefix (drop position.at bytes) (Ok piece) =
    subst (λ text. Stands position.behind_prefix text (Ok piece)) c.split_at.ensures.back c.in-Ok.ensures.stands in
    let tokens : c.push_token.new.tokens.items ≡ old ++ tokens_of lines position piece =
    c.in_ok-push_token.ensures ∙ ap (λ ts. old ++ ts) c.token_of.ensures in
    let rest : size_of piece ≤ length (drop position.at bytes) =
    subst (λ text. size_of piece ≤ length text) c.split_at.ensures.back c.in-Ok.ensures.within.1 in
    let within : position.at + size_of piece ≤ length bytes = omega (arith, rest, length-drop position.at bytes) in
    let next = c.behind-position.ensures in
    let completes = completes_more bytes lines old position piece stands c.loop-position.invariant.completes in
    let spelled = All-append (IsSpelled bytes) old (tokens_of lines position piece) c.loop-position.invariant.spelled (tokens_spelled bytes lines position piece stands within) in
    record {
      within = rw (next, behind_at bytes position piece) within;
      completes = rw (next, tokens) completes;
      spelled = rw tokens spelled;
    }

pub returns-clause-cut : goal.returns-clause-cut
returns-clause-cut c =
    let bytes = c.args.bytes.now in
    let position = c.loop-position.position in
    completes_end bytes c.args.lines.now c.loop-position.tokens.items position (drop_all position.at bytes (omega arith)) c.loop-position.invariant.completes
