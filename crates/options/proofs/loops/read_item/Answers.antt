use Rattle.std.proofs.Common.{sym, ◌∙◌, ap}
use Rattle.report.specs.Identifiers.{is_identifier}
use Rattle.options.proofs.Items.{no_point, no_colon, no_name, no_place, no_bound}
use Rattle.options.proofs.loops.read_item.Goals as goal

pub returns-in_err-function : goal.returns-in_err-function
returns-in_err-function c = rw c.from_residual.ensures (no_point c.args.text.now c.in_err-function.ensures)

pub returns-in_err-place : goal.returns-in_err-place
returns-in_err-place c =
    rw c.from_residual-in_err-place.ensures
    (no_colon c.args.text.now c.in_ok-function.function.now c.in_ok-function.rest.now c.in_ok-function.ensures c.in_err-place.ensures)

pub returns-then-not-is_identifier : goal.returns-then-not-is_identifier
returns-then-not-is_identifier c =
    no_name c.args.text.now c.in_ok-function.function.now c.in_ok-function.rest.now c.in_ok-function.ensures
    (ap is_identifier (sym c.as_bytes.ensures.value) ∙ sym c.is_identifier.ensures ∙ c.if-not-is_identifier.true)

pub returns-in_err-number : goal.returns-in_err-number
returns-in_err-number c =
    rw c.from_residual-in_err-number.ensures
    (no_place c.args.text.now c.in_ok-function.function.now c.in_ok-function.rest.now c.in_ok-function.ensures c.in_ok-place.place.now c.in_ok-place.bound.now c.in_ok-place.ensures c.in_err-number.ensures)

pub returns-in_err-unwind : goal.returns-in_err-unwind
returns-in_err-unwind c =
    rw c.from_residual-in_err-unwind.ensures
    (no_bound c.args.text.now c.in_ok-function.function.now c.in_ok-function.rest.now c.in_ok-function.ensures c.in_ok-place.place.now c.in_ok-place.bound.now c.in_ok-place.ensures c.in_err-unwind.ensures)
