use Rattle.std.proofs.Common.{◌≡◌, List, [], Some, sym, ap, ◌∙◌, subst, arith}
use Rattle.std.specs.Prelude.{slice_get}
use Rattle.sat_form.specs.Satisfaction.{Literal}
use Rattle.cdcl_core.specs.declared.watches.Pair.{Pair}
use Rattle.cdcl_core.specs.declared.watches.Watches.{Watches}
use Rattle.cdcl_core.specs.Steps.{oldest}
use Rattle.cdcl_core.specs.Watched.{IsWatched, AreWatched, AreSingle, IsHeld}
use Rattle.cdcl_core.proofs.Going.{GoesOn-trans}
use Rattle.cdcl_core.specs.declared.search.Search.{Search}
use Rattle.cdcl_core.proofs.Watching.{watched_more, all_watched}
use Rattle.cdcl_core.proofs.search.Search.begin.Goals as goal

pub settle-requires-clause-single : goal.settle-requires-clause-single
settle-requires-clause-single c =
    subst (λ (x : Search). AreSingle x.clauses x.watches.pairs.items) (sym c.loop-number.invariant.same) c.requires.single

pub loop-number-preserved : goal.loop-number-preserved
loop-number-preserved c =
    let clauses : c.loop-number.self.clauses ≡ c.args.self.now.clauses = ap (λ (x : Search). x.clauses) c.loop-number.invariant.same in
    let watches : c.loop-number.self.watches ≡ c.args.self.now.watches = ap (λ (x : Search). x.watches) c.loop-number.invariant.same in
    record {
      same = c.in_ok-settle.ensures.same ∙ ap (λ (x : Search). record x { trail = c.settle.new.self.trail }) c.loop-number.invariant.same;
      held = subst (λ (x : List (List Literal)). IsHeld x c.settle.new.self.trail c.args.self.now.watches) clauses
          (subst (λ (x : Watches). IsHeld c.loop-number.self.clauses c.settle.new.self.trail x) watches c.in_ok-settle.ensures.held);
      on = GoesOn-trans c.args.self.now.trail c.loop-number.self.trail c.settle.new.self.trail c.loop-number.invariant.on c.in_ok-settle.ensures.on;
      watched = watched_more c.args.self.now.clauses c.args.self.now.watches.pairs.items c.loop-number.number c.loop-number.self.trail c.settle.new.self.trail c.in_ok-settle.ensures.on
          c.loop-number.invariant.watched
          (subst (λ (x : Search). (d : List Literal) (p : Pair) → slice_get x.clauses c.loop-number.number ≡ Some d → slice_get x.watches.pairs.items c.loop-number.number ≡ Some p →
          IsWatched [] c.settle.new.self.trail.steps d p) c.loop-number.invariant.same (c.in_ok-settle.ensures.watched c.if-not-branch.false));
    }

pub returns-clause-at : goal.returns-clause-at
returns-clause-at c =
    let propagated : c.loop-number.self.propagated ≡ 0 = ap (λ (x : Search). x.propagated) c.loop-number.invariant.same ∙ c.requires.propagated in
    record {
      most = omega (arith, propagated);
      watched = subst (λ (x : Search). AreWatched (oldest c.loop-number.self.propagated c.loop-number.self.trail.steps) c.loop-number.self.trail.steps x.clauses x.watches.pairs.items)
          (sym c.loop-number.invariant.same)
          (all_watched c.args.self.now.clauses c.args.self.now.watches.pairs.items c.loop-number.number c.loop-number.self.propagated c.loop-number.self.trail.steps propagated
          (omega (arith, c.loop-number-test.false, c.len-number-end.ensures)) c.loop-number.invariant.watched);
    }
