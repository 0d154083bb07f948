use Rattle.std.proofs.Common.{◌≡◌, false, Some, List, ◌∷◌, [], ◌++◌, length, sym, ap, ◌∙◌, subst, arith}
use Rattle.sat_form.specs.Satisfaction.{Literal}
use Rattle.cdcl_core.specs.declared.trail.Step.{Step}
use Rattle.cdcl_core.specs.declared.watches.Pair.{Pair}
use Rattle.cdcl_core.specs.Steps.{Course}
use Rattle.cdcl_core.specs.Watched.{AreWatched, IsHeld}
use Rattle.cdcl_core.proofs.Going.{IsHeld-asserted}
use Rattle.cdcl_core.proofs.Watching.{known_value-open}
use Rattle.cdcl_core.proofs.Settling.{AreWatched-asserted}
use Rattle.cdcl_core.proofs.search.Search.assert_clause.Goals as goal

pub returns-clause-held : goal.returns-clause-held
returns-clause-held c =
    let number : c.len-number.result ≡ length c.args.self.now.clauses = omega (arith, c.len-number.ensures) in
    let trail : c.push-2.new.self ≡ record { variables = c.args.self.now.trail.variables; steps = record { literal = c.args.pair.first; decision = false; reason = Some (length c.args.self.now.clauses) } ∷ c.args.self.now.trail.steps } =
    c.in_ok-push-2.ensures.ok
    ∙ ap (λ k. let y : Course = record { variables = c.args.self.now.trail.variables; steps = record { literal = c.args.pair.first; decision = false; reason = Some k } ∷ c.args.self.now.trail.steps } in y) number in
    subst (λ (x : List (List Literal)). IsHeld x c.push-2.new.self c.enter.new.self) (sym c.in_ok-push.ensures)
    (IsHeld-asserted c.args.self.now.clauses c.args.self.now.trail c.push-2.new.self c.args.self.now.watches c.enter.new.self c.args.clause c.args.pair trail c.in_ok-enter.ensures.pairs
    c.in_ok-enter.ensures.lists c.requires.within c.requires.first c.requires.second c.requires.open_ c.requires.others c.requires.quiet c.push-2.ensures.room c.requires.held)

pub returns-clause-watched : goal.returns-clause-watched
returns-clause-watched c =
    let s : Step = record { literal = c.args.pair.first; decision = false; reason = Some c.len-number.result } in
    let steps : c.push-2.new.self.steps ≡ s ∷ c.args.self.now.trail.steps = ap (λ (x : Course). x.steps) c.in_ok-push-2.ensures.ok in
    let all : AreWatched c.args.self.now.trail.steps (s ∷ c.args.self.now.trail.steps) (c.args.self.now.clauses ++ c.args.clause ∷ []) (c.args.self.now.watches.pairs.items ++ c.args.pair ∷ []) =
    AreWatched-asserted c.args.self.now.clauses c.args.self.now.watches.pairs.items c.args.clause c.args.pair s c.args.self.now.trail.steps c.requires.held.listed.count
    (known_value-open c.args.self.now.trail.steps c.args.pair.first c.requires.open_) c.requires.first c.requires.watched in
    subst (λ (x : List Step). AreWatched c.args.self.now.trail.steps x c.push.new.self c.enter.new.self.pairs.items) (sym steps)
    (subst (λ (x : List (List Literal)). AreWatched c.args.self.now.trail.steps (s ∷ c.args.self.now.trail.steps) x c.enter.new.self.pairs.items) (sym c.in_ok-push.ensures)
    (subst (λ (x : List Pair). AreWatched c.args.self.now.trail.steps (s ∷ c.args.self.now.trail.steps) (c.args.self.now.clauses ++ c.args.clause ∷ []) x) (sym c.in_ok-enter.ensures.pairs) all))
