use Rattle.std.proofs.Common.{◌≡◌, ◌≤◌, ℕ, suc, ◌-◌, reverse, refl, ◌∙◌, arith}
use Rattle.cdcl_core.specs.declared.analysis.Analysis.{Analysis}
use Rattle.cdcl_core.proofs.Marking.{IsReached-lower_top}
use Rattle.cdcl_core.proofs.Cutting.{IsCut-fewer}
use Rattle.cdcl_core.proofs.analysis.Analysis.resolve_first.Goals as goal

pub loop-self-init : goal.loop-self-init
loop-self-init c =
    let a : Analysis = c.args.self.now in record {
      clear = c.requires.clear;
      reached = c.requires.reached;
      first = refl;
      newest = refl;
      low = omega arith;
      cut = IsCut-fewer c.args.clauses.now c.args.trail.now.steps a.first a.top a.marked.items (reverse c.args.numbers.now.items) c.requires.reached.top c.requires.cut;
      single = c.requires.single;
    }

pub loop-self-preserved : goal.loop-self-preserved
loop-self-preserved c =
    let a : Analysis = c.loop-self.self in
    let b : Analysis = c.resolve.new.self in
    let place : ℕ = a.top - 1 in
    let early : place ≤ a.first = omega (arith, c.loop-self.invariant.reached.top) in
    let less : b.top ≤ suc place = c.in_ok-resolve.ensures.reaches.top (suc place) (omega arith) (omega arith) in
    let same : b.low ≡ a.low = c.in_ok-resolve.ensures.reaches.kept (omega (arith, early, c.loop-self.invariant.reached.first)) in
    record {
      clear = record { size = c.in_ok-resolve.ensures.clear.size; touched = c.in_ok-resolve.ensures.clear.touched };
      reached = IsReached-lower_top c.args.trail.now.steps b place c.in_ok-resolve.ensures.reached less (omega (arith, early, c.in_ok-resolve.ensures.reaches.first)) c.in_ok-resolve.ensures.off;
      first = c.in_ok-resolve.ensures.reaches.first ∙ c.loop-self.invariant.first;
      newest = c.in_ok-resolve.ensures.reaches.newest ∙ c.loop-self.invariant.newest;
      low = omega (arith, same, c.loop-self.invariant.low);
      cut = c.in_ok-resolve.ensures.cut;
      single = omega (arith, same, c.in_ok-resolve.ensures.reaches.high, c.loop-self.invariant.single);
    }
