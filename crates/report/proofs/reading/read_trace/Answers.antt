use Rattle.std.proofs.Common.{◌≡◌, ℕ, ◌+◌, List, [], ◌∷◌, ◌++◌, length, subst, sym, ap, refl, ◌∙◌, arith}
use Rattle.std.proofs.lemmas.Option.{MatchOption-at_some, MatchOption-at_none}
use Rattle.report.specs.Lines.{Line, IsLine, MayStand, line_text, place_after, Parts}
use Rattle.report.specs.Told.{parts_of}
use Rattle.report.specs.declared.lines.Place.{Place}
use Rattle.report.specs.declared.lines.Place.TheVariants as places
use Rattle.report.proofs.Reached.{Reached, reached_more, not_failed, bad_there, bad_here, no_failure, reached_end}
use Rattle.report.proofs.reading.read_trace.Goals as goal

nil_of : (xs : List ℕ) → length xs ≡ 0 → xs ≡ []
nil_of [] e = refl
nil_of (x ∷ xs) e = absurd (omega arith)

pub returns-in-Ok-None-clause-fault : goal.returns-in-Ok-None-clause-fault
returns-in-Ok-None-clause-fault c =
    let text = c.args.text.now in
    let more = c.in-Some.more.now in
    let told = parts_of c.lines.told in
    let s = c.in-Some.ensures in
    let r = subst (λ (z : List ℕ). Reached text z c.lines.number c.lines.place told) s.3 c.lines.invariant in
    let none = λ (l : Line) (is : IsLine l) (may : MayStand c.lines.place l) (e : line_text l ≡ s.0 ++ 10 ∷ []). (MatchOption-at_none _ _ c.in-Ok-None.field-0-is c.in-Ok-None.ensures) l is may (e ∙ sym s.2) in
    (no_failure text s.0 more c.lines.number c.lines.place told r s.1 none, bad_here text s.0 more c.lines.number c.lines.place told r s.1 none)

pub lines-preserved : goal.lines-preserved
lines-preserved c =
    let text = c.args.text.now in
    let more = c.in-Some.more.now in
    let told = parts_of c.lines.told in
    let s = c.in-Some.ensures in
    let q = MatchOption-at_some _ _ c.in-Ok-Some.next c.in-Ok-Some.field-0-is c.in-Ok-Some.ensures in
    let r = subst (λ (z : List ℕ). Reached text z c.lines.number c.lines.place told) s.3 c.lines.invariant in
    subst (λ (p : Place). Reached text more (c.lines.number + 1) p (parts_of c.take_line.new.told)) (sym q.4)
    (subst (λ (x : Parts). Reached text more (c.lines.number + 1) (place_after q.0) x) (sym q.5) (reached_more text s.0 more c.lines.number c.lines.place told q.0 r q.1 q.2 (q.3 ∙ s.2)))

pub returns-then-is_whole-clause-read : goal.returns-then-is_whole-clause-read
returns-then-is_whole-clause-read c =
    let text = c.args.text.now in
    let w = c.is_whole.ensures.yes c.if-is_whole.true in
    reached_end text c.lines.number c.lines.told
    (subst (λ (z : List ℕ). Reached text z c.lines.number places.Failed (parts_of c.lines.told)) (nil_of c.lines.rest.now w.1)
    (subst (λ (p : Place). Reached text c.lines.rest.now c.lines.number p (parts_of c.lines.told)) w.0 c.lines.invariant))

pub returns-else-is_whole-clause-fault : goal.returns-else-is_whole-clause-fault
returns-else-is_whole-clause-fault c =
    let text = c.args.text.now in
    let told = parts_of c.lines.told in (
      not_failed text c.lines.rest.now c.lines.number c.lines.place told c.lines.invariant c.in_default.ensures (λ p e. c.is_whole.ensures.no c.if-is_whole.false p (ap (λ (z : List ℕ). length z) e)),
      bad_there text c.lines.rest.now c.lines.number c.lines.place told c.lines.invariant c.in_default.ensures,
    )
