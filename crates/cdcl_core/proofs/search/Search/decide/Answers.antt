use Rattle.std.proofs.Common.{◌≡◌, ◌<◌, true, None, [], ◌∷◌, ◌++◌, refl, sym, ap, ◌∙◌, subst}
use Rattle.sat_form.specs.Satisfaction.{Literal}
use Rattle.cdcl_core.specs.declared.trail.Step.{Step}
use Rattle.cdcl_core.specs.Steps.{known_value}
use Rattle.cdcl_core.proofs.Starting.{IsDecided, IsReady-decided, IsWatching-decided, left-decided}
use Rattle.cdcl_core.proofs.search.Search.decide.Goals as goal

pub returns-clause-ready : goal.returns-clause-ready
returns-clause-ready c =
    let s : Step = record { literal = c.new.result; decision = true; reason = None } in
    let is : IsDecided c.args.self.now c.push-2.new.self c.push.new.self s =
    record {
      trail = c.in_ok-push-2.ensures.ok;
      decides = refl;
      within = subst (λ (l : Literal). l.variable < c.args.self.now.trail.variables) (sym c.new.ensures) c.requires.within;
      open_ = subst (λ (l : Literal). known_value c.args.self.now.trail.steps l.variable ≡ None) (sym c.new.ensures) c.requires.open_;
      room = c.push-2.ensures.room;
      decisions = c.in_ok-push.ensures.items ∙ ap (λ k. c.args.self.now.decisions.items ++ k ∷ []) c.len.ensures.is;
      propagated = c.requires.propagated;
    } in
    λ form n ready. IsReady-decided form n c.args.self.now c.push-2.new.self c.push.new.self s is ready

pub returns-clause-watching : goal.returns-clause-watching
returns-clause-watching c =
    let s : Step = record { literal = c.new.result; decision = true; reason = None } in
    let is : IsDecided c.args.self.now c.push-2.new.self c.push.new.self s =
    record {
      trail = c.in_ok-push-2.ensures.ok;
      decides = refl;
      within = subst (λ (l : Literal). l.variable < c.args.self.now.trail.variables) (sym c.new.ensures) c.requires.within;
      open_ = subst (λ (l : Literal). known_value c.args.self.now.trail.steps l.variable ≡ None) (sym c.new.ensures) c.requires.open_;
      room = c.push-2.ensures.room;
      decisions = c.in_ok-push.ensures.items ∙ ap (λ k. c.args.self.now.decisions.items ++ k ∷ []) c.len.ensures.is;
      propagated = c.requires.propagated;
    } in
    IsWatching-decided c.args.self.now c.push-2.new.self c.push.new.self s is

pub returns-clause-falls : goal.returns-clause-falls
returns-clause-falls c =
    let s : Step = record { literal = c.new.result; decision = true; reason = None } in
    let is : IsDecided c.args.self.now c.push-2.new.self c.push.new.self s =
    record {
      trail = c.in_ok-push-2.ensures.ok;
      decides = refl;
      within = subst (λ (l : Literal). l.variable < c.args.self.now.trail.variables) (sym c.new.ensures) c.requires.within;
      open_ = subst (λ (l : Literal). known_value c.args.self.now.trail.steps l.variable ≡ None) (sym c.new.ensures) c.requires.open_;
      room = c.push-2.ensures.room;
      decisions = c.in_ok-push.ensures.items ∙ ap (λ k. c.args.self.now.decisions.items ++ k ∷ []) c.len.ensures.is;
      propagated = c.requires.propagated;
    } in
    λ n. left-decided n c.args.self.now c.push-2.new.self c.push.new.self s is
