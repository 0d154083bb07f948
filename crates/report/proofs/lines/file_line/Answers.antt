use Rattle.std.proofs.Common.{◌≡◌, ◌∷◌, [], sym, ◌∙◌, subst, arith}
use Rattle.std.proofs.lemmas.Fmt.{decimal_injective}
use Rattle.std.proofs.lemmas.List.{append_cancel_right}
use Rattle.std.specs.Prelude.{codes}
use Rattle.std.specs.Fmt.{decimal}
use Rattle.report.specs.Report.{IsFileName}
use Rattle.report.proofs.Files.{file_parts}
use Rattle.report.proofs.lines.file_line.Goals as goal
use Rattle.report.proofs.lines.file_line.Goals.{else-unwind-ge1-via-then-unwind-ge1+else-unwind-le1000, else-unwind-ge1-via-else-unwind-ge1}

pub returns-in_err-name : goal.returns-in_err-name
returns-in_err-name c = rw c.from_residual-in_err-name.ensures (λ name unwind is e.
    let p = c.in_ok-front.ensures in
    c.in_err-name.ensures name (file_parts c.args.text.now c.in_ok-rest.rest.now c.in_ok-front.front.now c.in_ok-front.end.now name unwind c.in_ok-rest.ensures p.0 p.1 is.2 e).0)

pub returns-in_err-name-2 : goal.returns-in_err-name-2
returns-in_err-name-2 c = rw c.from_residual-in_err-name-2.ensures (λ name unwind is e.
    let p = c.in_ok-front.ensures in
    let parts = file_parts c.args.text.now c.in_ok-rest.rest.now c.in_ok-front.front.now c.in_ok-front.end.now name unwind c.in_ok-rest.ensures p.0 p.1 is.2 e in
    c.in_err-name-2.ensures (subst IsFileName (append_cancel_right name c.in_ok-name.name.now (codes " unwind") (sym parts.0 ∙ c.in_ok-name.ensures)) is.0))

pub returns-in_err-unwind : goal.returns-in_err-unwind
returns-in_err-unwind c = rw c.from_residual-in_err-unwind.ensures (λ name unwind is e.
    let p = c.in_ok-front.ensures in
    let few = is.2 in
    c.in_err-unwind.ensures unwind (omega arith) (file_parts c.args.text.now c.in_ok-rest.rest.now c.in_ok-front.front.now c.in_ok-front.end.now name unwind c.in_ok-rest.ensures p.0 p.1 is.2 e).1)

pub returns-else-unwind-ge1 : goal.returns-else-unwind-ge1
returns-else-unwind-ge1 c = λ name unwind is e.
    let p = c.in_ok-front.ensures in
    let few = is.2 in
    let least = is.1 in
    let q = c.in_ok-unwind.ensures in
    let small = q.1 in
    let parts = file_parts c.args.text.now c.in_ok-rest.rest.now c.in_ok-front.front.now c.in_ok-front.end.now name unwind c.in_ok-rest.ensures p.0 p.1 is.2 e in
    let same : c.in_ok-unwind.unwind ≡ unwind = decimal_injective c.in_ok-unwind.unwind unwind (omega arith) (omega arith) (append_cancel_right (decimal c.in_ok-unwind.unwind) (decimal unwind) (10 ∷ []) (sym q.0 ∙ parts.1)) in
    elim c.else-unwind-ge1.branch [
      | else-unwind-ge1-via-then-unwind-ge1+else-unwind-le1000 w ↦ let no = w.if-unwind-le1000.false in omega (arith, same, few, no)
      | else-unwind-ge1-via-else-unwind-ge1 w ↦ let no = w.if-unwind-ge1.false in omega (arith, same, least, no)
    ]
