use Rattle.std.proofs.Common.{◌≡◌, false, List, ◌∷◌, length, Some, None, refl, sym, ap, ◌∙◌, subst, arith}
use Rattle.std.specs.Prelude.{Contains}
use Rattle.std.proofs.lemmas.Option.{slice_get_within}
use Rattle.sat_form.specs.Satisfaction.{Literal, IsWithin}
use Rattle.cdcl_core.specs.declared.trail.Step.{Step}
use Rattle.cdcl_core.specs.declared.lists.Watch.{Watch}
use Rattle.cdcl_core.specs.declared.watches.Pair.{Pair}
use Rattle.cdcl_core.specs.Steps.{Course, known_value, known_truth}
use Rattle.cdcl_core.specs.Settled.{IsReason}
use Rattle.cdcl_core.specs.Watched.{HasTrue, IsGood}
use Rattle.cdcl_core.specs.Going.{GoesOn}
use Rattle.cdcl_core.proofs.Listed.{IsWithin-contains, IsWithin-read, room-contains}
use Rattle.cdcl_core.proofs.Watching.{AreVisited-kept, AreVisited-gone, known_truth-newest, place_falsified}
use Rattle.cdcl_core.proofs.Watching.{known_value-open, room-falsified}
use Rattle.cdcl_core.proofs.Going.{GoesOn-push, IsHeld-push}
use Rattle.cdcl_core.proofs.Looking.{IsSeen, seen, read_clause, next_apart, conflict_at, IsChoice, IsRewatched, IsHeld-moved, look-moved}
use Rattle.cdcl_core.proofs.Blocking.{IsBlocked, IsHeld-blocked, look-blocked}
use Rattle.cdcl_core.proofs.Places.{read_at}
use Rattle.cdcl_core.proofs.watches.Watches.look.Goals as goal

pub returns-then-is_true-clause-look : goal.returns-then-is_true-clause-look
returns-then-is_true-clause-look c =
    let good : IsGood c.args.clauses.now c.args.self.now.pairs.items c.at-watch.result = c.requires.held.listed.good c.args.literal c.args.at c.at-watch.result c.at-watch.ensures in (
      refl,
      AreVisited-kept c.args.place c.args.at c.args.clauses.now c.args.trail.now.steps c.args.self.now.pairs.items _ c.at-watch.result good.clause c.at-watch.ensures good.found
          (record { literal = c.at-watch.result.blocker; stands = good.blocks; is = c.is_true.ensures.is c.if-is_true.true }) c.requires.visited,
    )

pub other-other-requires : goal.other-other-requires
other-other-requires c =
    let good : IsGood c.args.clauses.now c.args.self.now.pairs.items c.at-watch.result = c.requires.held.listed.good c.args.literal c.args.at c.at-watch.result c.at-watch.ensures in
    slice_get_within c.args.self.now.pairs.items c.at-watch.result.number good.pair good.watched

pub index-requires : goal.index-requires
index-requires c =
    let good : IsGood c.args.clauses.now c.args.self.now.pairs.items c.at-watch.result = c.requires.held.listed.good c.args.literal c.args.at c.at-watch.result c.at-watch.ensures in
    omega (arith, slice_get_within c.args.self.now.pairs.items c.at-watch.result.number good.pair good.watched, c.args.self.now.pairs.ok.0)

pub at-requires : goal.at-requires
at-requires c =
    let good : IsGood c.args.clauses.now c.args.self.now.pairs.items c.at-watch.result = c.requires.held.listed.good c.args.literal c.args.at c.at-watch.result c.at-watch.ensures in
    slice_get_within c.args.clauses.now c.at-watch.result.number good.clause good.found

pub read_beside-requires-clause-within : goal.read_beside-requires-clause-within
read_beside-requires-clause-within c =
    IsWithin-read c.args.trail.now.variables c.args.clauses.now c.at-watch.result.number c.at.result.now c.requires.held.within
    (let good : IsGood c.args.clauses.now c.args.self.now.pairs.items c.at-watch.result = c.requires.held.listed.good c.args.literal c.args.at c.at-watch.result c.at-watch.ensures in
    slice_get_within c.args.clauses.now c.at-watch.result.number good.clause good.found) (read_at c.args.clauses.now c.at-watch.result.number c.at.result.now c.at.ensures)

pub read_beside-requires-clause-literal : goal.read_beside-requires-clause-literal
read_beside-requires-clause-literal c =
    let s : IsSeen c.args.clauses.now c.args.self.now.pairs.items c.args.self.now.lists c.args.literal c.at-watch.result c.other-other.result =
    seen c.args.trail.now.variables c.args.clauses.now c.args.self.now.pairs.items c.args.self.now.lists c.args.literal c.args.at c.at-watch.result c.other-other.result c.requires.held.listed
    c.at-watch.ensures c.other-other.ensures.first c.other-other.ensures.second in
    let same : c.at.result.now ≡ s.clause = read_clause c.args.clauses.now c.at-watch.result.number s.clause c.at.result.now s.found (read_at c.args.clauses.now c.at-watch.result.number c.at.result.now c.at.ensures) in
    let within : IsWithin c.args.trail.now.variables c.at.result.now =
    IsWithin-read c.args.trail.now.variables c.args.clauses.now c.at-watch.result.number c.at.result.now c.requires.held.within (slice_get_within c.args.clauses.now c.at-watch.result.number s.clause s.found) (read_at c.args.clauses.now c.at-watch.result.number c.at.result.now c.at.ensures) in
    IsWithin-contains c.args.trail.now.variables c.at.result.now c.other-other.result within (subst (λ (x : List Literal). Contains x c.other-other.result) (sym same) s.stands)

pub rewatch-requires-clause-apart : goal.rewatch-requires-clause-apart
rewatch-requires-clause-apart c =
    next_apart c.args.trail.now.variables c.args.place c.args.trail.now.steps c.args.literal c.in-Open.next c.requires.held.fresh c.requires.falsified c.in-Open.ensures.2

pub rewatch-requires-clause-next : goal.rewatch-requires-clause-next
rewatch-requires-clause-next c =
    let s : IsSeen c.args.clauses.now c.args.self.now.pairs.items c.args.self.now.lists c.args.literal c.at-watch.result c.other-other.result =
    seen c.args.trail.now.variables c.args.clauses.now c.args.self.now.pairs.items c.args.self.now.lists c.args.literal c.args.at c.at-watch.result c.other-other.result c.requires.held.listed
    c.at-watch.ensures c.other-other.ensures.first c.other-other.ensures.second in
    let within : IsWithin c.args.trail.now.variables c.at.result.now =
    IsWithin-read c.args.trail.now.variables c.args.clauses.now c.at-watch.result.number c.at.result.now c.requires.held.within (slice_get_within c.args.clauses.now c.at-watch.result.number s.clause s.found) (read_at c.args.clauses.now c.at-watch.result.number c.at.result.now c.at.ensures) in
    room-contains c.args.trail.now.variables (length c.args.self.now.lists) c.at.result.now c.in-Open.next c.requires.held.listed.room within c.in-Open.ensures.0

pub rewatch-requires-clause-number : goal.rewatch-requires-clause-number
rewatch-requires-clause-number c =
    let good : IsGood c.args.clauses.now c.args.self.now.pairs.items c.at-watch.result = c.requires.held.listed.good c.args.literal c.args.at c.at-watch.result c.at-watch.ensures in
    slice_get_within c.args.self.now.pairs.items c.at-watch.result.number good.pair good.watched

pub push-requires-clause-within : goal.push-requires-clause-within
push-requires-clause-within c =
    let s : IsSeen c.args.clauses.now c.args.self.now.pairs.items c.args.self.now.lists c.args.literal c.at-watch.result c.other-other.result =
    seen c.args.trail.now.variables c.args.clauses.now c.args.self.now.pairs.items c.args.self.now.lists c.args.literal c.args.at c.at-watch.result c.other-other.result c.requires.held.listed
    c.at-watch.ensures c.other-other.ensures.first c.other-other.ensures.second in
    let same : c.at.result.now ≡ s.clause = read_clause c.args.clauses.now c.at-watch.result.number s.clause c.at.result.now s.found (read_at c.args.clauses.now c.at-watch.result.number c.at.result.now c.at.ensures) in
    let within : IsWithin c.args.trail.now.variables c.at.result.now =
    IsWithin-read c.args.trail.now.variables c.args.clauses.now c.at-watch.result.number c.at.result.now c.requires.held.within (slice_get_within c.args.clauses.now c.at-watch.result.number s.clause s.found) (read_at c.args.clauses.now c.at-watch.result.number c.at.result.now c.at.ensures) in
    IsWithin-contains c.args.trail.now.variables c.at.result.now c.other-other.result within (subst (λ (x : List Literal). Contains x c.other-other.result) (sym same) s.stands)

pub returns-in-True-clause-held : goal.returns-in-True-clause-held
returns-in-True-clause-held c =
    let s : IsSeen c.args.clauses.now c.args.self.now.pairs.items c.args.self.now.lists c.args.literal c.at-watch.result c.other-other.result =
    seen c.args.trail.now.variables c.args.clauses.now c.args.self.now.pairs.items c.args.self.now.lists c.args.literal c.args.at c.at-watch.result c.other-other.result c.requires.held.listed
    c.at-watch.ensures c.other-other.ensures.first c.other-other.ensures.second in
    let v : Watch = record { number = c.at-watch.result.number; blocker = c.other-other.result } in
    let blocked : IsBlocked c.args.clauses.now c.args.self.now.lists c.args.literal c.args.at c.at-watch.result v c.set.new.self =
    record {
      room = room-falsified c.args.trail.now.variables (length c.args.self.now.lists) c.args.place c.args.trail.now.steps c.args.literal c.requires.held.fresh c.requires.falsified c.requires.held.listed.room;
      stands = c.at-watch.ensures;
      same = refl;
      clause = s.clause;
      found = s.found;
      blocks = s.stands;
      is = c.set.ensures;
    } in
    IsHeld-blocked c.args.clauses.now c.args.trail.now c.args.self.now c.args.literal c.args.at c.at-watch.result v c.set.new.self blocked c.requires.held

pub returns-in-True-clause-look : goal.returns-in-True-clause-look
returns-in-True-clause-look c =
    let s : IsSeen c.args.clauses.now c.args.self.now.pairs.items c.args.self.now.lists c.args.literal c.at-watch.result c.other-other.result =
    seen c.args.trail.now.variables c.args.clauses.now c.args.self.now.pairs.items c.args.self.now.lists c.args.literal c.args.at c.at-watch.result c.other-other.result c.requires.held.listed
    c.at-watch.ensures c.other-other.ensures.first c.other-other.ensures.second in
    let v : Watch = record { number = c.at-watch.result.number; blocker = c.other-other.result } in
    let blocked : IsBlocked c.args.clauses.now c.args.self.now.lists c.args.literal c.args.at c.at-watch.result v c.set.new.self =
    record {
      room = room-falsified c.args.trail.now.variables (length c.args.self.now.lists) c.args.place c.args.trail.now.steps c.args.literal c.requires.held.fresh c.requires.falsified c.requires.held.listed.room;
      stands = c.at-watch.ensures;
      same = refl;
      clause = s.clause;
      found = s.found;
      blocks = s.stands;
      is = c.set.ensures;
    } in
    look-blocked c.args.place c.args.clauses.now c.args.trail.now.steps c.args.self.now.pairs.items c.args.self.now.lists c.args.literal c.args.at c.at-watch.result v c.set.new.self blocked
    (record { literal = c.other-other.result; stands = s.stands; is = c.in-True.ensures }) c.requires.visited

pub returns-in_ok-rewatch-in-Open-clause-held : goal.returns-in_ok-rewatch-in-Open-clause-held
returns-in_ok-rewatch-in-Open-clause-held c =
    let s : IsSeen c.args.clauses.now c.args.self.now.pairs.items c.args.self.now.lists c.args.literal c.at-watch.result c.other-other.result =
    seen c.args.trail.now.variables c.args.clauses.now c.args.self.now.pairs.items c.args.self.now.lists c.args.literal c.args.at c.at-watch.result c.other-other.result c.requires.held.listed
    c.at-watch.ensures c.other-other.ensures.first c.other-other.ensures.second in
    let same : c.at.result.now ≡ s.clause = read_clause c.args.clauses.now c.at-watch.result.number s.clause c.at.result.now s.found (read_at c.args.clauses.now c.at-watch.result.number c.at.result.now c.at.ensures) in
    let within : IsWithin c.args.trail.now.variables c.at.result.now =
    IsWithin-read c.args.trail.now.variables c.args.clauses.now c.at-watch.result.number c.at.result.now c.requires.held.within (slice_get_within c.args.clauses.now c.at-watch.result.number s.clause s.found) (read_at c.args.clauses.now c.at-watch.result.number c.at.result.now c.at.ensures) in
    let q : Pair = record { first = c.other-other.result; second = c.in-Open.next; start = c.in-Open.place } in
    let choice : IsChoice c.args.trail.now.variables c.args.clauses.now c.args.trail.now.steps c.args.self.now c.args.place c.args.literal c.args.at c.at-watch.result q =
    record {
      seen = s;
      second = subst (λ (x : List Literal). Contains x c.in-Open.next) same c.in-Open.ensures.0;
      apart = c.in-Open.ensures.1;
      open_ = c.in-Open.ensures.2;
      falsified = c.requires.falsified;
      fresh = c.requires.held.fresh;
      stands = c.at-watch.ensures;
      room = room-falsified c.args.trail.now.variables (length c.args.self.now.lists) c.args.place c.args.trail.now.steps c.args.literal c.requires.held.fresh c.requires.falsified c.requires.held.listed.room;
      room_next = room-contains c.args.trail.now.variables (length c.args.self.now.lists) c.at.result.now c.in-Open.next c.requires.held.listed.room within c.in-Open.ensures.0;
    } in
    let moved : IsRewatched c.args.self.now c.rewatch.new.self c.args.literal c.args.at c.at-watch.result q c.in_ok-rewatch-in-Open.field-0 =
    record { pairs = c.in_ok-rewatch-in-Open.ensures.pairs; lists = c.in_ok-rewatch-in-Open.ensures.lists } in
    IsHeld-moved c.args.clauses.now c.args.trail.now c.args.self.now c.rewatch.new.self c.args.place c.args.literal c.args.at c.at-watch.result q c.in_ok-rewatch-in-Open.field-0 choice moved c.requires.held

pub returns-in_ok-rewatch-in-Open-clause-look : goal.returns-in_ok-rewatch-in-Open-clause-look
returns-in_ok-rewatch-in-Open-clause-look c =
    let s : IsSeen c.args.clauses.now c.args.self.now.pairs.items c.args.self.now.lists c.args.literal c.at-watch.result c.other-other.result =
    seen c.args.trail.now.variables c.args.clauses.now c.args.self.now.pairs.items c.args.self.now.lists c.args.literal c.args.at c.at-watch.result c.other-other.result c.requires.held.listed
    c.at-watch.ensures c.other-other.ensures.first c.other-other.ensures.second in
    let same : c.at.result.now ≡ s.clause = read_clause c.args.clauses.now c.at-watch.result.number s.clause c.at.result.now s.found (read_at c.args.clauses.now c.at-watch.result.number c.at.result.now c.at.ensures) in
    let within : IsWithin c.args.trail.now.variables c.at.result.now =
    IsWithin-read c.args.trail.now.variables c.args.clauses.now c.at-watch.result.number c.at.result.now c.requires.held.within (slice_get_within c.args.clauses.now c.at-watch.result.number s.clause s.found) (read_at c.args.clauses.now c.at-watch.result.number c.at.result.now c.at.ensures) in
    let q : Pair = record { first = c.other-other.result; second = c.in-Open.next; start = c.in-Open.place } in
    let choice : IsChoice c.args.trail.now.variables c.args.clauses.now c.args.trail.now.steps c.args.self.now c.args.place c.args.literal c.args.at c.at-watch.result q =
    record {
      seen = s;
      second = subst (λ (x : List Literal). Contains x c.in-Open.next) same c.in-Open.ensures.0;
      apart = c.in-Open.ensures.1;
      open_ = c.in-Open.ensures.2;
      falsified = c.requires.falsified;
      fresh = c.requires.held.fresh;
      stands = c.at-watch.ensures;
      room = room-falsified c.args.trail.now.variables (length c.args.self.now.lists) c.args.place c.args.trail.now.steps c.args.literal c.requires.held.fresh c.requires.falsified c.requires.held.listed.room;
      room_next = room-contains c.args.trail.now.variables (length c.args.self.now.lists) c.at.result.now c.in-Open.next c.requires.held.listed.room within c.in-Open.ensures.0;
    } in
    let moved : IsRewatched c.args.self.now c.rewatch.new.self c.args.literal c.args.at c.at-watch.result q c.in_ok-rewatch-in-Open.field-0 =
    record { pairs = c.in_ok-rewatch-in-Open.ensures.pairs; lists = c.in_ok-rewatch-in-Open.ensures.lists } in
    look-moved c.args.clauses.now c.args.trail.now c.args.self.now c.rewatch.new.self c.args.place c.args.literal c.args.at c.at-watch.result q c.in_ok-rewatch-in-Open.field-0 choice moved c.requires.visited

pub returns-in_ok-push-in-Single-clause-on : goal.returns-in_ok-push-in-Single-clause-on
returns-in_ok-push-in-Single-clause-on c =
    let step : Step = record { literal = c.other-other.result; decision = false; reason = Some c.at-watch.result.number } in
    let none : known_value c.args.trail.now.steps c.other-other.result.variable ≡ None = known_value-open c.args.trail.now.steps c.other-other.result c.in-Single.ensures.0 in
    let on : GoesOn c.args.trail.now c.push.new.self = GoesOn-push c.args.trail.now c.push.new.self step c.in_ok-push-in-Single.ensures.ok refl c.push.ensures.room none in
    on

pub returns-in_ok-push-in-Single-clause-held : goal.returns-in_ok-push-in-Single-clause-held
returns-in_ok-push-in-Single-clause-held c =
    let s : IsSeen c.args.clauses.now c.args.self.now.pairs.items c.args.self.now.lists c.args.literal c.at-watch.result c.other-other.result =
    seen c.args.trail.now.variables c.args.clauses.now c.args.self.now.pairs.items c.args.self.now.lists c.args.literal c.args.at c.at-watch.result c.other-other.result c.requires.held.listed
    c.at-watch.ensures c.other-other.ensures.first c.other-other.ensures.second in
    let same : c.at.result.now ≡ s.clause = read_clause c.args.clauses.now c.at-watch.result.number s.clause c.at.result.now s.found (read_at c.args.clauses.now c.at-watch.result.number c.at.result.now c.at.ensures) in
    let within : IsWithin c.args.trail.now.variables c.at.result.now =
    IsWithin-read c.args.trail.now.variables c.args.clauses.now c.at-watch.result.number c.at.result.now c.requires.held.within (slice_get_within c.args.clauses.now c.at-watch.result.number s.clause s.found) (read_at c.args.clauses.now c.at-watch.result.number c.at.result.now c.at.ensures) in
    let step : Step = record { literal = c.other-other.result; decision = false; reason = Some c.at-watch.result.number } in
    let none : known_value c.args.trail.now.steps c.other-other.result.variable ≡ None = known_value-open c.args.trail.now.steps c.other-other.result c.in-Single.ensures.0 in
    let on : GoesOn c.args.trail.now c.push.new.self = GoesOn-push c.args.trail.now c.push.new.self step c.in_ok-push-in-Single.ensures.ok refl c.push.ensures.room none in
    let reason : IsReason c.args.clauses.now c.args.trail.now.steps c.other-other.result c.at-watch.result.number =
    record {
      clause = s.clause;
      found = s.found;
      stands = s.stands;
      others = λ m at other. c.in-Single.ensures.1 m (subst (λ (x : List Literal). Contains x m) (sym same) at) other;
    } in
    IsHeld-push c.args.clauses.now c.args.trail.now c.push.new.self c.args.self.now step c.at-watch.result.number c.in_ok-push-in-Single.ensures.ok refl refl reason
    (IsWithin-contains c.args.trail.now.variables c.at.result.now c.other-other.result within (subst (λ (x : List Literal). Contains x c.other-other.result) (sym same) s.stands))
    none on c.requires.held

pub returns-in_ok-push-in-Single-clause-look : goal.returns-in_ok-push-in-Single-clause-look
returns-in_ok-push-in-Single-clause-look c =
    let s : IsSeen c.args.clauses.now c.args.self.now.pairs.items c.args.self.now.lists c.args.literal c.at-watch.result c.other-other.result =
    seen c.args.trail.now.variables c.args.clauses.now c.args.self.now.pairs.items c.args.self.now.lists c.args.literal c.args.at c.at-watch.result c.other-other.result c.requires.held.listed
    c.at-watch.ensures c.other-other.ensures.first c.other-other.ensures.second in
    let step : Step = record { literal = c.other-other.result; decision = false; reason = Some c.at-watch.result.number } in
    let none : known_value c.args.trail.now.steps c.other-other.result.variable ≡ None = known_value-open c.args.trail.now.steps c.other-other.result c.in-Single.ensures.0 in
    let on : GoesOn c.args.trail.now c.push.new.self = GoesOn-push c.args.trail.now c.push.new.self step c.in_ok-push-in-Single.ensures.ok refl c.push.ensures.room none in
    let steps : c.push.new.self.steps ≡ step ∷ c.args.trail.now.steps = ap (λ (x : Course). x.steps) c.in_ok-push-in-Single.ensures.ok in
    let true_ : HasTrue c.push.new.self.steps s.clause =
    record {
      literal = c.other-other.result;
      stands = s.stands;
      is = ap (λ (x : List Step). known_truth x c.other-other.result) steps ∙ known_truth-newest step c.args.trail.now.steps c.other-other.result refl;
    } in (
      refl,
      AreVisited-kept c.args.place c.args.at c.args.clauses.now c.push.new.self.steps c.args.self.now.pairs.items _ c.at-watch.result s.clause c.at-watch.ensures s.found true_
          (AreVisited-gone c.args.place c.args.at c.args.clauses.now c.args.self.now.pairs.items _ c.args.trail.now c.push.new.self on
          (place_falsified c.args.place c.args.trail.now.steps c.requires.falsified.step c.requires.falsified.is) c.requires.visited),
    )

pub returns-in-False-clause-look : goal.returns-in-False-clause-look
returns-in-False-clause-look c =
    let s : IsSeen c.args.clauses.now c.args.self.now.pairs.items c.args.self.now.lists c.args.literal c.at-watch.result c.other-other.result =
    seen c.args.trail.now.variables c.args.clauses.now c.args.self.now.pairs.items c.args.self.now.lists c.args.literal c.args.at c.at-watch.result c.other-other.result c.requires.held.listed
    c.at-watch.ensures c.other-other.ensures.first c.other-other.ensures.second in
    let same : c.at.result.now ≡ s.clause = read_clause c.args.clauses.now c.at-watch.result.number s.clause c.at.result.now s.found (read_at c.args.clauses.now c.at-watch.result.number c.at.result.now c.at.ensures) in
    conflict_at c.args.clauses.now c.args.trail.now.steps c.at-watch.result.number s.clause c.other-other.result s.found c.in-False.ensures.0
    (λ m at other. c.in-False.ensures.1 m (subst (λ (x : List Literal). Contains x m) (sym same) at) other)
