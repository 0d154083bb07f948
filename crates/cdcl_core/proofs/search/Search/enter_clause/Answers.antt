use Rattle.std.proofs.Common.{List, ◌∷◌, [], ◌++◌, sym, subst}
use Rattle.sat_form.specs.Satisfaction.{Literal}
use Rattle.cdcl_core.specs.declared.watches.Pair.{Pair}
use Rattle.cdcl_core.specs.Watched.{AreWatched, IsHeld}
use Rattle.cdcl_core.proofs.Entering.{IsHeld-entered, AreWatched-entered}
use Rattle.cdcl_core.proofs.search.Search.enter_clause.Goals as goal

pub returns-clause-held : goal.returns-clause-held
returns-clause-held c =
    subst (λ (x : List (List Literal)). IsHeld x c.args.self.now.trail c.enter.new.self) (sym c.in_ok-push.ensures)
    (IsHeld-entered c.args.self.now.clauses c.args.self.now.trail c.args.self.now.watches c.enter.new.self c.args.clause c.args.pair c.in_ok-enter.ensures.pairs
    c.in_ok-enter.ensures.lists c.requires.within c.requires.open_ c.requires.quiet c.requires.held)

pub returns-clause-watched : goal.returns-clause-watched
returns-clause-watched c =
    subst (λ (x : List (List Literal)). AreWatched c.args.self.now.trail.steps c.args.self.now.trail.steps x c.enter.new.self.pairs.items) (sym c.in_ok-push.ensures)
    (subst (λ (x : List Pair). AreWatched c.args.self.now.trail.steps c.args.self.now.trail.steps (c.args.self.now.clauses ++ c.args.clause ∷ []) x) (sym c.in_ok-enter.ensures.pairs)
    (AreWatched-entered c.args.self.now.clauses c.args.self.now.watches.pairs.items c.args.clause c.args.pair c.args.self.now.trail.steps c.requires.held.listed.count c.requires.open_ c.requires.watched))
