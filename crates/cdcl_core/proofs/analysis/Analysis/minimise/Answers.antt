use Rattle.std.proofs.Common.{◌≡◌, ◌≤◌, ℕ, suc, List, Vec, Global, get_or, reverse, refl, sym, ◌∙◌, subst, arith}
use Rattle.sat_form.specs.Satisfaction.{Literal}
use Rattle.cdcl_core.specs.declared.trail.Step.{Step}
use Rattle.cdcl_core.specs.declared.analysis.Analysis.{Analysis}
use Rattle.cdcl_core.specs.Learning.{IsClear}
use Rattle.cdcl_core.specs.Cuts.{IsCut, IsReached}
use Rattle.cdcl_core.proofs.Cutting.{IsCut-fewer}
use Rattle.cdcl_core.proofs.analysis.Analysis.minimise.Goals as goal
use Rattle.cdcl_core.proofs.analysis.Analysis.minimise.Goals.{then-self-place+then-place-bound+in_ok-leave_out, else-self-place}

pub loop-place-init : goal.loop-place-init
loop-place-init c =
    let a : Analysis = c.args.self.now in
    let r = c.requires.reached in record {
      clear = c.requires.clear;
      reached = r;
      first = refl;
      newest = refl;
      low = omega arith;
      least = r.first;
      most = omega arith;
      cut = IsCut-fewer c.args.clauses.now c.args.trail.now.steps a.high a.newest a.marked.items (reverse c.args.numbers.now.items) (omega (arith, r.newest, r.low)) c.requires.cut;
      single = c.requires.single;
    }

pub leave_out-requires-clause-cut : goal.leave_out-requires-clause-cut
leave_out-requires-clause-cut c =
    IsCut-fewer c.args.clauses.now c.args.trail.now.steps c.loop-place.bound (suc (get_or c.deref-place-items.result.now c.loop-place.place-index 0)) c.loop-place.self.marked.items (reverse c.loop-place.numbers.items)
    (omega (arith, c.if-place-bound.true)) c.loop-place.invariant.cut

-- what is kept of the analysis as it was
abbrev Kept : (n : ℕ) (clauses : List (List Literal)) (steps : List Step) (old a : Analysis) (numbers : Vec ℕ Global) (bound : ℕ) → Type 0
Kept n clauses steps old a numbers bound = record {
  clear : IsClear n a;
  reached : IsReached steps a;
  first : a.first ≡ old.first;
  newest : a.newest ≡ old.newest;
  low : a.low ≤ old.low;
  least : a.first ≤ bound;
  most : bound ≤ a.newest;
  cut : IsCut clauses steps bound a.marked.items (reverse numbers.items);
  single : a.high ≤ suc a.low;
}

as_kept : (n : ℕ) (clauses : List (List Literal)) (steps : List Step) (old a b : Analysis) (numbers others : Vec ℕ Global) (bound last : ℕ) → b ≡ a → others ≡ numbers → last ≡ bound → Kept n clauses steps old a numbers bound → Kept n clauses steps old b others last
as_kept n clauses steps old a b numbers others bound last same listed at kept =
    subst (λ (x : Analysis). Kept n clauses steps old x others last) (sym same) (subst (λ (xs : Vec ℕ Global). Kept n clauses steps old a xs last) (sym listed) (subst (λ p. Kept n clauses steps old a numbers p) (sym at) kept))

pub loop-place-preserved : goal.loop-place-preserved
loop-place-preserved c =
    let n : ℕ = c.args.trail.now.variables in
    let steps : List Step = c.args.trail.now.steps in
    let clauses : List (List Literal) = c.args.clauses.now in
    let old : Analysis = c.args.self.now in
    let a : Analysis = c.loop-place.self in
    let i = c.loop-place.invariant in
    let now : Analysis = c.if-self-place.self in
    elim c.if-self-place.branch [
      | then-self-place+then-place-bound+in_ok-leave_out w ↦
          let b : Analysis = w.leave_out.new.self in
          let place : ℕ = get_or c.deref-place-items.result.now c.loop-place.place-index 0 in
          let e = w.in_ok-leave_out.ensures in
          let early : place ≤ a.newest = omega (arith, w.if-place-bound.true, i.most) in
          let low : b.low ≡ a.low = e.reaches.kept early in
          let kept : Kept n clauses steps old b w.leave_out.new.numbers place = record {
            clear = e.clear;
            reached = e.reached;
            first = e.reaches.first ∙ i.first;
            newest = e.reaches.newest ∙ i.newest;
            low = omega (arith, low, i.low);
            least = omega (arith, e.reaches.first, w.if-self-place.true);
            most = omega (arith, early, e.reaches.newest);
            cut = e.cut;
            single = omega (arith, low, e.reaches.high, i.single);
          } in
          as_kept n clauses steps old b now w.leave_out.new.numbers c.if-self-place.numbers place c.if-self-place.bound w.self-is w.numbers-is w.bound-is kept
      | else-self-place w ↦ as_kept n clauses steps old a now c.loop-place.numbers c.if-self-place.numbers c.loop-place.bound c.if-self-place.bound w.self-is w.numbers-is w.bound-is i
    ]

pub returns-clause-cut : goal.returns-clause-cut
returns-clause-cut c =
    IsCut-fewer c.args.clauses.now c.args.trail.now.steps c.loop-place.bound c.loop-place.self.first c.loop-place.self.marked.items (reverse c.loop-place.numbers.items) c.loop-place.invariant.least c.loop-place.invariant.cut
