use Rattle.std.proofs.Common.{◌≡◌, List, [], get_or, Some, refl, sym, ap, ◌∙◌, subst, arith, inr, false}
use Rattle.std.specs.Prelude.{slice_get, IsSomeAnd}
use Rattle.std.proofs.lemmas.Bool.{true≢false}
use Rattle.std.proofs.lemmas.Option.{slice_get-get_or}
use Rattle.sat_form.specs.Satisfaction.{Literal}
use Rattle.cdcl_core.specs.declared.watches.Pair.{Pair}
use Rattle.cdcl_core.specs.declared.search.Search.{Search}
use Rattle.cdcl_core.specs.Settled.{AreFalse}
use Rattle.cdcl_core.proofs.Watching.{open_at_start}
use Rattle.cdcl_core.proofs.search.Search.settle.Goals as goal

pub returns-then-not-is_single-clause-watched : goal.returns-then-not-is_single-clause-watched
returns-then-not-is_single-clause-watched c = λ _ d p found watched.
    inr (open_at_start c.args.self.now.trail.variables c.args.self.now.clauses c.args.self.now.watches.pairs.items c.args.self.now.watches.lists c.args.number d p c.requires.held.listed found watched
    (λ e. true≢false (sym ((c.if-not-is_single.ensures p watched).1 e))))

pub take-requires-clause-single : goal.take-requires-clause-single
take-requires-clause-single c = λ d found l m first second.
    let one : Literal = record { variable = 0; negated = false } in
    let none : Pair = record { first = one; second = one; start = 0 } in
    let p : Pair = get_or c.args.self.now.watches.pairs.items c.args.number none in
    let watched : slice_get c.args.self.now.watches.pairs.items c.args.number ≡ Some p =
    slice_get-get_or c.args.self.now.watches.pairs.items c.args.number none (omega (arith, c.requires.number, c.requires.held.listed.count)) in
    let same : p.first ≡ p.second = (c.if-not-is_single.ensures p watched).0 refl in
    c.requires.single c.args.number d p found watched same m second ∙ sym (c.requires.single c.args.number d p found watched same l first)

pub returns-clause-false_ : goal.returns-clause-false_
returns-clause-false_ c = λ is.
    let d : List Literal = get_or c.args.self.now.clauses c.args.number [] in
    let found : slice_get c.args.self.now.clauses c.args.number ≡ Some d = slice_get-get_or c.args.self.now.clauses c.args.number [] c.requires.number in
    let all : AreFalse c.take.new.self.trail.steps d = c.in_ok-kept.ensures.false_ is d found in
    subst (λ (x : List (List Literal)). IsSomeAnd (slice_get x c.args.number) (AreFalse c.take.new.self.trail.steps)) (sym (ap (λ (x : Search). x.clauses) c.in_ok-kept.ensures.same))
    (subst (λ o. IsSomeAnd o (AreFalse c.take.new.self.trail.steps)) (sym found) all)
