use Rattle.std.proofs.Common.{◌≡◌, ℕ, ◌<◌, List, [], ◌∷◌, ◌++◌, length, get_or, sym, ap, ◌∙◌, subst, arith}
use Rattle.std.specs.Prelude.{Contains}
use Rattle.sat_form.specs.Satisfaction.{Literal}
use Rattle.sat_form.specs.declared.logs.Entry.{Entry}
use Rattle.sat_form.specs.declared.logs.Entry.TheVariants.{Added}
use Rattle.cdcl_core.specs.declared.trail.Step.{Step}
use Rattle.cdcl_core.specs.declared.watches.Watches.{Watches}
use Rattle.cdcl_core.specs.Steps.{Course, oldest, decision_places}
use Rattle.cdcl_core.specs.Jumps.{IsFirstFrom}
use Rattle.cdcl_core.specs.Watched.{AreOpen, AreWatched, IsHeld}
use Rattle.cdcl_core.proofs.Going.{IsHeld-oldest}
use Rattle.cdcl_core.proofs.Jumping.{IsJump}
use Rattle.cdcl_core.specs.declared.search.Search.{Search}
use Rattle.cdcl_core.proofs.Learning.{HasLearned, IsReady-learned, IsWatching-cut, left-learned, places_left, open_first, first_stands, none_before}
use Rattle.cdcl_core.proofs.search.Search.start_over.Goals as goal

pub release-requires : goal.release-requires
release-requires c = omega (arith, c.requires.target.first.within)

pub enter_clause-requires-clause-held : goal.enter_clause-requires-clause-held
enter_clause-requires-clause-held c =
    let count : ℕ = get_or c.args.self.now.decisions.items 0 0 in
    let clauses : c.release.new.self.clauses ≡ c.args.self.now.clauses = ap (λ (x : Search). x.clauses) c.release.ensures.same in
    let watches : c.release.new.self.watches ≡ c.args.self.now.watches = ap (λ (x : Search). x.watches) c.release.ensures.same in
    subst (λ (x : List (List Literal)). IsHeld x c.release.new.self.trail c.release.new.self.watches) (sym clauses)
    (subst (λ (x : Watches). IsHeld c.args.self.now.clauses c.release.new.self.trail x) (sym watches)
    (subst (λ (x : Course). IsHeld c.args.self.now.clauses x c.args.self.now.watches) (sym c.release.ensures.trail)
    (IsHeld-oldest c.args.self.now.clauses c.args.self.now.trail c.args.self.now.watches count c.requires.kept.held)))

pub enter_clause-requires-clause-open_ : goal.enter_clause-requires-clause-open_
enter_clause-requires-clause-open_ c =
    let jump : IsJump c.args.self.now.trail.variables c.args.self.now.clauses c.args.self.now.trail.steps c.args.self.now.decisions.items c.args.clause c.args.pair.first c.args.hints c.args.pair.second c.requires.target.kept =
    record { fresh = c.requires.kept.held.fresh; places_are = c.requires.kept.places; learned = c.requires.learned; newest = c.requires.target.newest } in
    let first : IsFirstFrom c.args.self.now.decisions.items c.requires.target.kept c.args.index = c.requires.target.first in
    let count : ℕ = get_or c.args.self.now.decisions.items 0 0 in
    let steps : c.release.new.self.trail.steps ≡ oldest count c.args.self.now.trail.steps = ap (λ (x : Course). x.steps) c.release.ensures.trail in
    subst (λ (x : List Step). AreOpen x c.args.clause c.args.pair) (sym steps) (open_first c.args.self.now.trail.variables c.args.self.now.clauses c.args.self.now.trail.steps c.args.self.now.decisions.items c.args.clause c.args.pair.first c.args.hints c.args.pair.second c.requires.target.kept c.args.index c.args.pair.start jump first c.requires.later)

pub enter_clause-requires-clause-quiet : goal.enter_clause-requires-clause-quiet
enter_clause-requires-clause-quiet c =
    let count : ℕ = get_or c.args.self.now.decisions.items 0 0 in
    let steps : c.release.new.self.trail.steps ≡ oldest count c.args.self.now.trail.steps = ap (λ (x : Course). x.steps) c.release.ensures.trail in
    subst (λ (x : List Step). (d : ℕ) → Contains (decision_places x) d → AreOpen (oldest d x) c.args.clause c.args.pair) (sym steps)
    (λ d at. absurd (none_before c.args.self.now.trail.steps c.args.self.now.decisions.items d c.requires.kept.places (omega (arith, c.requires.target.first.within)) at))

pub returns-clause-ready : goal.returns-clause-ready
returns-clause-ready c =
    let count : ℕ = get_or c.args.self.now.decisions.items 0 0 in
    let clauses : c.release.new.self.clauses ≡ c.args.self.now.clauses = ap (λ (x : Search). x.clauses) c.release.ensures.same in
    let trail : c.enter_clause.new.self.trail ≡ record { variables = c.args.self.now.trail.variables; steps = oldest count c.args.self.now.trail.steps } =
    ap (λ (x : Search). x.trail) c.in_ok-enter_clause.ensures.same ∙ c.release.ensures.trail in
    let some : 0 < length c.args.self.now.decisions.items = omega (arith, c.requires.target.first.within) in
    let has : HasLearned c.args.self.now c.enter_clause.new.self c.args.clause c.args.hints 0 =
    record {
      variables = ap (λ (x : Course). x.variables) trail;
      clauses = c.in_ok-enter_clause.ensures.clauses ∙ ap (λ (x : List (List Literal)). x ++ c.args.clause ∷ []) clauses;
      log = ap (λ (x : Search). x.log) c.in_ok-enter_clause.ensures.same
          ∙ c.in_ok-add.ensures.ok
          ∙ ap (λ (x : List Literal). c.release.new.self.log ++ Added x c.args.hints ∷ []) (c.in_ok-from_slice.ensures ∙ c.literals.ensures)
          ∙ ap (λ (x : List Entry). x ++ Added c.args.clause c.args.hints ∷ []) (ap (λ (x : Search). x.log) c.release.ensures.same);
      analysis = ap (λ (x : Search). x.analysis) c.in_ok-enter_clause.ensures.same ∙ ap (λ (x : Search). x.analysis) c.release.ensures.same;
      decisions = ap (λ (x : Search). x.decisions.items) c.in_ok-enter_clause.ensures.same ∙ c.release.ensures.decisions;
      places = ap (λ (x : Course). decision_places x.steps) trail
          ∙ places_left c.args.self.now.trail.steps c.args.self.now.decisions.items 0 c.requires.kept.places some;
      held = subst (λ (x : Course). IsHeld c.enter_clause.new.self.clauses x c.enter_clause.new.self.watches) (sym (ap (λ (x : Search). x.trail) c.in_ok-enter_clause.ensures.same)) c.in_ok-enter_clause.ensures.held;
    } in
    λ form n room ready. IsReady-learned form n c.args.self.now c.enter_clause.new.self c.args.clause c.args.pair.first c.args.hints 0 has c.requires.learned room ready

pub returns-clause-falls : goal.returns-clause-falls
returns-clause-falls c =
    let count : ℕ = get_or c.args.self.now.decisions.items 0 0 in
    let clauses : c.release.new.self.clauses ≡ c.args.self.now.clauses = ap (λ (x : Search). x.clauses) c.release.ensures.same in
    let trail : c.enter_clause.new.self.trail ≡ record { variables = c.args.self.now.trail.variables; steps = oldest count c.args.self.now.trail.steps } =
    ap (λ (x : Search). x.trail) c.in_ok-enter_clause.ensures.same ∙ c.release.ensures.trail in
    let some : 0 < length c.args.self.now.decisions.items = omega (arith, c.requires.target.first.within) in
    let has : HasLearned c.args.self.now c.enter_clause.new.self c.args.clause c.args.hints 0 =
    record {
      variables = ap (λ (x : Course). x.variables) trail;
      clauses = c.in_ok-enter_clause.ensures.clauses ∙ ap (λ (x : List (List Literal)). x ++ c.args.clause ∷ []) clauses;
      log = ap (λ (x : Search). x.log) c.in_ok-enter_clause.ensures.same
          ∙ c.in_ok-add.ensures.ok
          ∙ ap (λ (x : List Literal). c.release.new.self.log ++ Added x c.args.hints ∷ []) (c.in_ok-from_slice.ensures ∙ c.literals.ensures)
          ∙ ap (λ (x : List Entry). x ++ Added c.args.clause c.args.hints ∷ []) (ap (λ (x : Search). x.log) c.release.ensures.same);
      analysis = ap (λ (x : Search). x.analysis) c.in_ok-enter_clause.ensures.same ∙ ap (λ (x : Search). x.analysis) c.release.ensures.same;
      decisions = ap (λ (x : Search). x.decisions.items) c.in_ok-enter_clause.ensures.same ∙ c.release.ensures.decisions;
      places = ap (λ (x : Course). decision_places x.steps) trail
          ∙ places_left c.args.self.now.trail.steps c.args.self.now.decisions.items 0 c.requires.kept.places some;
      held = subst (λ (x : Course). IsHeld c.enter_clause.new.self.clauses x c.enter_clause.new.self.watches) (sym (ap (λ (x : Search). x.trail) c.in_ok-enter_clause.ensures.same)) c.in_ok-enter_clause.ensures.held;
    } in
    λ n room. left-learned n c.args.self.now c.enter_clause.new.self c.args.clause c.args.hints 0 has room

pub returns-clause-watching : goal.returns-clause-watching
returns-clause-watching c =
    let count : ℕ = get_or c.args.self.now.decisions.items 0 0 in
    let clauses : c.release.new.self.clauses ≡ c.args.self.now.clauses = ap (λ (x : Search). x.clauses) c.release.ensures.same in
    let trail : c.enter_clause.new.self.trail ≡ record { variables = c.args.self.now.trail.variables; steps = oldest count c.args.self.now.trail.steps } =
    ap (λ (x : Search). x.trail) c.in_ok-enter_clause.ensures.same ∙ c.release.ensures.trail in
    let some : 0 < length c.args.self.now.decisions.items = omega (arith, c.requires.target.first.within) in
    IsWatching-cut c.enter_clause.new.self count c.args.self.now.trail.steps (first_stands c.args.self.now.trail.steps c.args.self.now.decisions.items c.requires.kept.places some)
    (ap (λ (x : Course). x.steps) trail) (ap (λ (x : Search). x.propagated) c.in_ok-enter_clause.ensures.same ∙ ap (λ (x : Search). x.propagated) c.release.ensures.same)
    (subst (λ (x : Course). AreWatched x.steps x.steps c.enter_clause.new.self.clauses c.enter_clause.new.self.watches.pairs.items) (sym (ap (λ (x : Search). x.trail) c.in_ok-enter_clause.ensures.same)) c.in_ok-enter_clause.ensures.watched)
