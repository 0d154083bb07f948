use Rattle.std.proofs.Common.{◌≡◌, ◌++◌, List, ℕ, Ok, ap, ◌∙◌, subst}
use Rattle.c_token.specs.declared.token.Token.{Token}
use Rattle.c_lexer.specs.Cutting.{bytes_of, last_line_of}
use Rattle.c_lexer.specs.Kinds.{AllSpelled}
use Rattle.c_pre.specs.Calls.{IsExpansion}
use Rattle.c_pre.specs.Headers as headers
use Rattle.c_tree.specs.Statements.{view_file}
use Rattle.c_tree.specs.Files.{IsFile}
use Rattle.cbmc_top.specs.Programs.{text_behind}
use Rattle.cbmc_top.specs.Answers.{Decides, HasNoTree}
use Rattle.cbmc_top.specs.Stops.{IsUncut, IsUnexpanded}
use Rattle.cbmc_top.proofs.Results.{ok_map, err_map, err_on}
use Rattle.cbmc_top.proofs.Stages.{stop_map, uncut_decides, unexpanded_decides, untreed_decides}
use Rattle.cbmc_top.proofs.accepting.tree_of.Goals as goal

pub returns-in_err-cutting-clause-stop : goal.returns-in_err-cutting-clause-stop
returns-in_err-cutting-clause-stop c =
    let file = c.args.file.now in
    err_on c.from_residual.result c.in_err-cutting.field-0.0 _ c.from_residual.ensures.1 (λ purpose.
    stop_map c.in_err-cutting.field-0.0 (IsUncut file) (Decides purpose file) (λ a x. uncut_decides purpose file a c.if-file-gt-FILE_BYTES.false x) c.in_err-cutting.ensures.stop)

pub returns-in_err-tokens-clause-stop : goal.returns-in_err-tokens-clause-stop
returns-in_err-tokens-clause-stop c =
    let file = c.args.file.now in
    let cutting = c.in_ok-cutting.cutting in
    err_on c.from_residual-in_err-tokens.result c.in_err-tokens.field-0.0 _ c.from_residual-in_err-tokens.ensures.1 (λ purpose.
    stop_map c.in_err-tokens.field-0.0 (IsUnexpanded cutting.bytes.items cutting.tokens.items) (Decides purpose file) (λ a x.
    unexpanded_decides purpose file cutting.tokens.items a c.if-file-gt-FILE_BYTES.false c.in_ok-cutting.ensures.cut (subst (λ b. IsUnexpanded b cutting.tokens.items a) c.in_ok-cutting.ensures.bytes x))
    c.in_err-tokens.ensures.stop)

pub returns-clause-found : goal.returns-clause-found
returns-clause-found c =
    let file = c.args.file.now in
    let cutting = c.in_ok-cutting.cutting in
    let tokens = c.in_ok-tokens.tokens in
    let bytes : tokens.bytes.items ≡ text_behind file = c.in_ok-tokens.ensures.bytes ∙ ap (λ b. b ++ headers.text) c.in_ok-cutting.ensures.bytes in
    let expanded : IsExpansion (bytes_of file) cutting.tokens.items (Ok tokens.tokens.items) = subst (λ b. IsExpansion b cutting.tokens.items (Ok tokens.tokens.items)) c.in_ok-cutting.ensures.bytes c.in_ok-tokens.ensures.expanded in
    ok_map c.parsed.result _ _ c.parsed.ensures.found (λ f x. record {
      cutting = cutting.tokens.items;
      cut = c.in_ok-cutting.ensures.cut;
      tokens = tokens.tokens.items;
      expanded = expanded;
      is_tree = subst (λ b. IsFile b tokens.tokens.items (view_file f)) bytes x;
    })

pub returns-clause-spelled : goal.returns-clause-spelled
returns-clause-spelled c =
    let file = c.args.file.now in
    let tokens = c.in_ok-tokens.tokens in
    let bytes : tokens.bytes.items ≡ text_behind file = c.in_ok-tokens.ensures.bytes ∙ ap (λ b. b ++ headers.text) c.in_ok-cutting.ensures.bytes in
    ok_map c.parsed.result _ _ c.parsed.ensures.found (λ f x. record {
      tokens = tokens.tokens.items;
      spelled = subst (λ b. AllSpelled b tokens.tokens.items) bytes tokens.spelled;
      is_tree = subst (λ b. IsFile b tokens.tokens.items (view_file f)) bytes x;
    })

pub returns-clause-stop : goal.returns-clause-stop
returns-clause-stop c =
    let file = c.args.file.now in
    let cutting = c.in_ok-cutting.cutting in
    let tokens = c.in_ok-tokens.tokens in
    let bytes : tokens.bytes.items ≡ text_behind file = c.in_ok-tokens.ensures.bytes ∙ ap (λ b. b ++ headers.text) c.in_ok-cutting.ensures.bytes in
    let expanded : IsExpansion (bytes_of file) cutting.tokens.items (Ok tokens.tokens.items) = subst (λ b. IsExpansion b cutting.tokens.items (Ok tokens.tokens.items)) c.in_ok-cutting.ensures.bytes c.in_ok-tokens.ensures.expanded in
    let line : tokens.last_line ≡ last_line_of file = c.in_ok-tokens.ensures.last_line ∙ c.in_ok-cutting.ensures.last_line in
    err_map c.parsed.result _ _ c.parsed.ensures.stop (λ s x. λ purpose.
    stop_map s (HasNoTree tokens.bytes.items tokens.last_line tokens.tokens.items) (Decides purpose file) (λ a y.
    untreed_decides purpose file cutting.tokens.items tokens.tokens.items a c.if-file-gt-FILE_BYTES.false c.in_ok-cutting.ensures.cut expanded
    (subst (λ l. HasNoTree (text_behind file) l tokens.tokens.items a) line (subst (λ b. HasNoTree b tokens.last_line tokens.tokens.items a) bytes y))) x)
