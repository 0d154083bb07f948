use Rattle.std.proofs.Common.{ℕ, List, ◌++◌, map, Some, None, sym, ap, subst, ◌∙◌}
use Rattle.std.proofs.lemmas.Result.{err_from_is_err_and}
use Rattle.c_token.specs.declared.token.Token.{Token}
use Rattle.c_lexer.specs.Kinds.{AllSpelled}
use Rattle.c_pre.specs.Headers.{moved}
use Rattle.c_pre.proofs.Whole.{out_spelled, setting_as, expansion_ok, expansion_err, exact_ok, exact_err}
use Rattle.c_pre.proofs.expanding.expand.Goals as goal

pub invariant_of-result : goal.invariant_of-result
invariant_of-result c =
    let bytes = c.args.file.bytes.items in
    let own = c.in_ok-own.own.tokens.items in
    let tokens = c.args.file.tokens.items in
    let given = c.in_ok-tokens.tokens.items in
    let carries = (setting_as bytes c.deref-2.result.now c.in_ok-by.by own c.deref-3.result.now c.deref-4.result.now tokens given None
    (c.deref-2.ensures.value ∙ c.in_ok-extend_from_slice.ensures.items ∙ ap (λ (t : List ℕ). bytes ++ t) c.text.ensures)
    (c.in_ok-by.ensures.place ∙ c.len.ensures ∙ c.args.file.bytes.ok.0)
    (c.deref-3.ensures.value ∙ c.in_ok-rows.ensures.tokens ∙ ap (λ (ts : List Token). map (moved c.in_ok-by.by) ts) c.deref.ensures.value)
    c.deref-4.ensures.value c.in_ok-tokens.ensures.tokens) in
    let own_spelled = subst (λ (bs : List ℕ). AllSpelled bs own) c.in_ok-own.ensures.bytes c.in_ok-own.own.spelled in
    let spelled = out_spelled bytes own tokens given None own_spelled c.args.file.spelled carries in
    let here = subst (λ (bs : List ℕ). AllSpelled bs given) (sym (c.in_ok-extend_from_slice.ensures.items ∙ ap (λ (t : List ℕ). bytes ++ t) c.text.ensures)) spelled in
    record { spelled = here }

pub returns-clause-exact : goal.returns-clause-exact
returns-clause-exact c = λ found h.
    let bytes = c.args.file.bytes.items in
    let own = c.in_ok-own.own.tokens.items in
    let tokens = c.args.file.tokens.items in
    let given = c.in_ok-tokens.tokens.items in
    let carries = (setting_as bytes c.deref-2.result.now c.in_ok-by.by own c.deref-3.result.now c.deref-4.result.now tokens given None
    (c.deref-2.ensures.value ∙ c.in_ok-extend_from_slice.ensures.items ∙ ap (λ (t : List ℕ). bytes ++ t) c.text.ensures)
    (c.in_ok-by.ensures.place ∙ c.len.ensures ∙ c.args.file.bytes.ok.0)
    (c.deref-3.ensures.value ∙ c.in_ok-rows.ensures.tokens ∙ ap (λ (ts : List Token). map (moved c.in_ok-by.by) ts) c.deref.ensures.value)
    c.deref-4.ensures.value c.in_ok-tokens.ensures.tokens) in
    exact_ok bytes tokens given found (expansion_ok bytes own tokens given c.in_ok-own.ensures.cut carries) h

pub returns-in_err-tokens-clause-exact : goal.returns-in_err-tokens-clause-exact
returns-in_err-tokens-clause-exact c =
    let p = err_from_is_err_and c.from_residual-in_err-tokens.result c.from_residual-in_err-tokens.ensures.1 in
    rw (p.1, p.2) (λ found h no_memory.
    let bytes = c.args.file.bytes.items in
    let own = c.in_ok-own.own.tokens.items in
    let tokens = c.args.file.tokens.items in
    let error = c.in_err-tokens.field-0.0 in
    let stop = c.in_err-tokens.ensures.stop no_memory in
    let carries = (setting_as bytes c.deref-2.result.now c.in_ok-by.by own c.deref-3.result.now c.deref-4.result.now tokens stop.0 (Some error)
    (c.deref-2.ensures.value ∙ c.in_ok-extend_from_slice.ensures.items ∙ ap (λ (t : List ℕ). bytes ++ t) c.text.ensures)
    (c.in_ok-by.ensures.place ∙ c.len.ensures ∙ c.args.file.bytes.ok.0)
    (c.deref-3.ensures.value ∙ c.in_ok-rows.ensures.tokens ∙ ap (λ (ts : List Token). map (moved c.in_ok-by.by) ts) c.deref.ensures.value)
    c.deref-4.ensures.value stop.1) in
    exact_err bytes tokens error found (expansion_err bytes own tokens stop.0 error c.in_ok-own.ensures.cut carries) h)
